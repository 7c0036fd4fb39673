use Rattle.settle_laws.proofs.Rest.{run_rests, rests_within, rest_line, rest_told}
use Rattle.settle_laws.proofs.laws.calm_is_reached.Goals as goal

pub returns-clause-next : goal.returns-clause-next
returns-clause-next c cores script events trace after old new number first second third fourth count run lt calmed =
    run_rests cores script events trace after old new number first second third fourth count run lt calmed

pub returns-clause-within : goal.returns-clause-within
returns-clause-within c cores script before after trace new first second third fourth count s lt =
    rests_within cores script before after trace new first second third fourth count s lt

pub returns-clause-line : goal.returns-clause-line
returns-clause-line c world rest = rest_line world rest

pub returns-clause-state : goal.returns-clause-state
returns-clause-state c world line rest = rest_told world line rest

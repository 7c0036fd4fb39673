use Rattle.label_laws.proofs.Rounds.{sessions_emptied, rounds_kept}
use Rattle.label_laws.proofs.laws.rounds_empty_sessions.Goals as goal

pub returns-clause-quiet : goal.returns-clause-quiet
returns-clause-quiet c = sessions_emptied

pub returns-clause-kept : goal.returns-clause-kept
returns-clause-kept c = rounds_kept

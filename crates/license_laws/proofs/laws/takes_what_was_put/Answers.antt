use Rattle.rule_laws.proofs.Start.{start_in_step}
use Rattle.license_laws.proofs.Taking.{run_takes}
use Rattle.license_laws.proofs.laws.takes_what_was_put.Goals as goal

pub returns : goal.returns
returns c cores script events trace new s =
    (run_takes script.scenario cores events trace new s.scenario s.sound_events s.run (start_in_step script.scenario cores s.scenario)).takes

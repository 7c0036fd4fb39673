use Rattle.license_laws.proofs.Whole.{run_is_local}
use Rattle.license_laws.proofs.laws.runs_are_local.Goals as goal

pub returns : goal.returns
returns c cores script events trace new s = run_is_local script.scenario cores events trace new s.scenario s.sound_events s.run

use Rattle.license_laws.proofs.Licensed.{run_kept}
use Rattle.license_laws.proofs.laws.landings_are_learned.Goals as goal

pub returns : goal.returns
returns c cores script events trace new s = (run_kept script.scenario cores events trace new s.scenario s.sound_events s.run).1

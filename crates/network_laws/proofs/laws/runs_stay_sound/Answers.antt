use Rattle.network_laws.proofs.RunEvents.{run_stays}
use Rattle.network_laws.proofs.laws.runs_stay_sound.Goals as goal

pub returns : goal.returns
returns c cores script events trace new lines sound run = run_stays script.scenario cores events trace new lines sound run

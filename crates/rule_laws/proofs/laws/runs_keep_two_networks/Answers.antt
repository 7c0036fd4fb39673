use Rattle.rule_laws.proofs.Start.{run_is_networks}
use Rattle.rule_laws.proofs.laws.runs_keep_two_networks.Goals as goal

pub returns : goal.returns
returns c cores script events trace new s = run_is_networks script.scenario cores events trace new s.scenario s.sound_events s.run

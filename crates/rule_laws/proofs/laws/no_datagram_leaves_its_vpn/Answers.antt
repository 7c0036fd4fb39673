use Rattle.rule_laws.proofs.Start.{run_says}
use Rattle.rule_laws.proofs.laws.no_datagram_leaves_its_vpn.Goals as goal

pub returns : goal.returns
returns c cores script events trace new s = run_says script.scenario cores events trace new s.scenario s.sound_events s.run

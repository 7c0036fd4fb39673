use Rattle.network_events.proofs.HopLemmas.{lands_one, some_lands}
use Rattle.network_events.proofs.draining.land.Goals as goal

pub hop-requires : goal.hop-requires
hop-requires c = record { network = some_lands c.args.network.now c.args.way c.requires.way c.requires.network }

pub returns : goal.returns
returns c = lands_one c.args.network.now c.args.way c.requires.way c.hop.new.self c.args.lines.now c.hop.new.lines c.hop.result c.hop.ensures

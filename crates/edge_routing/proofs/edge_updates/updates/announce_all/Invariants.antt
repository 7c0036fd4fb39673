use Rattle.std.proofs.Common.{take}
use Rattle.bgp_messages.specs.bgp_update.Table.{announced}
use Rattle.edge_routing.specs.edge_updates.Changed.{AreTaken}
use Rattle.edge_routing.proofs.edge_updates.updates.announce_all.Given as goal

abbrev pub invariant-loop-advert : goal.invariant-loop-advert
invariant-loop-advert l =
    AreTaken l.now l.peer (announced (take l.advert-index l.adverts)) l.initial.control l.control l.initial.fecs.items l.fecs.items

use Rattle.std.proofs.Common.{take}
use Rattle.edge_tables.specs.Tables.{EachPeer}
use Rattle.held_tables.specs.Starting.{prefix_routes}
use Rattle.held_tables.proofs.StartLemmas.{Given}
use Rattle.held_tables.proofs.starting.hold_prefixes.Given as goal

abbrev pub invariant-loop-route : goal.invariant-loop-route
invariant-loop-route l = EachPeer (Given (prefix_routes l.own.vrf.rd l.value (take l.route-index l.routes))) l.fn.tables l.tables

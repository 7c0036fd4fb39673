use Rattle.std.proofs.Common.{◌≡◌}
use Rattle.edge_tables.specs.Tables.{PeerTable, without_route}
use Rattle.edge_tables.specs.Slots.{Becomes}
use Rattle.edge_tables.proofs.WayLemmas.{OnWay}
use Rattle.edge_tables.proofs.tables.unset_each.Given as goal

abbrev pub invariant-loop-slot : goal.invariant-loop-slot
invariant-loop-slot l = OnWay (Becomes (λ (old new : PeerTable). new ≡ without_route l.key old)) l.slot-index l.fn.slots l.slots

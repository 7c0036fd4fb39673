use Rattle.std.proofs.Common.{◌≡◌}
use Rattle.edge_tables.specs.Tables.{PeerTable, put_after}
use Rattle.edge_tables.specs.Slots.{Becomes}
use Rattle.edge_tables.proofs.WayLemmas.{OnWay}
use Rattle.edge_tables.proofs.tables.put_each.Given as goal

abbrev pub invariant-loop-slot : goal.invariant-loop-slot
invariant-loop-slot l = OnWay (Becomes (λ (old new : PeerTable). new ≡ put_after old)) l.slot-index l.fn.slots l.slots

use Rattle.std.proofs.Common.{◌≡◌, map, take}
use Rattle.edge_tables.proofs.SlotLemmas.{entry, of_peer}
use Rattle.edge_tables.proofs.tables.EdgeTables.of.Given as goal

abbrev pub invariant-loop-peer : goal.invariant-loop-peer
invariant-loop-peer l = map entry l.slots.items ≡ map of_peer (take l.peer-index l.fn.peers)

use Rattle.std.proofs.Common.{◌≡◌, ◌++◌, length, map}
use Rattle.ingress_text.specs.Telling.{table_of}
use Rattle.ingress_text.proofs.telling.tables_of.Given as goal

-- the tables of the other peers are still to come
abbrev pub invariant-peers : goal.invariant-peers
invariant-peers l = l.tables.items ++ map table_of l.peers.entries ≡ map table_of l.initial.peers.entries

abbrev pub decreases-peers : goal.decreases-peers
decreases-peers l = length l.peers.entries

use Rattle.std.proofs.Common.{length}
use Rattle.edge_tables.proofs.PutLemmas.{IsOnWay}
use Rattle.edge_tables.proofs.writing.put_changes.Given as goal

abbrev pub invariant-loop-change : goal.invariant-loop-change
invariant-loop-change l = IsOnWay l.initial.pending l.initial.out l.out l.pending

abbrev pub decreases-loop-change : goal.decreases-loop-change
decreases-loop-change l = length l.pending

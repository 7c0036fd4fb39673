use Rattle.std.proofs.Common.{sum}
use Rattle.core_paths.proofs.RowLemmas.{IsSound}
use Rattle.core_paths.proofs.rows.row_toward.Given as goal

abbrev pub invariant-loop-row : goal.invariant-loop-row
invariant-loop-row l = IsSound l.links l.nodes l.root l.row.items

abbrev pub decreases-loop-row : goal.decreases-loop-row
decreases-loop-row l = sum l.row.items

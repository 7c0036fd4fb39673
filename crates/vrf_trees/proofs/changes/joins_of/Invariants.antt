use Rattle.std.proofs.Common.{◌≡◌, ◌++◌, map}
use Rattle.vrf_trees.specs.Changes.{join_of}
use Rattle.vrf_trees.proofs.changes.joins_of.Given as goal

abbrev pub invariant-loop-flow : goal.invariant-loop-flow
invariant-loop-flow l = l.joins ++ map join_of l.flow-iterator ≡ map join_of l.ups.entries

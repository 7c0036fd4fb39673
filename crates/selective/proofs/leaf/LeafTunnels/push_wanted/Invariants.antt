use Rattle.std.proofs.Common.{◌≡◌, ◌++◌, drop}
use Rattle.std.specs.FinMap.{entries}
use Rattle.selective.specs.Leaves.{until_run}
use Rattle.selective.proofs.leaf.LeafTunnels.push_wanted.Given as goal

abbrev pub invariant-loop-pattern : goal.invariant-loop-pattern
invariant-loop-pattern l =
    l.fecs ++ until_run l.peer (drop l.pattern-index l.patterns) (entries l.self.routes) ≡ l.initial.fecs
    ++ until_run l.peer l.patterns (entries l.self.routes)

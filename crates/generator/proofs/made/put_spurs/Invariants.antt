use Rattle.std.proofs.Common.{◌≡◌, ◌++◌}
use Rattle.generator.specs.Made as made
use Rattle.generator.proofs.made.put_spurs.Given as goal

abbrev pub invariant-loop-edge : goal.invariant-loop-edge
invariant-loop-edge l = l.out ≡ l.fn.out ++ made.each made.spur_line l.edge

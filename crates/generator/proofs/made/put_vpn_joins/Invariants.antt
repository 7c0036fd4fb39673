use Rattle.std.proofs.Common.{◌≡◌, ◌++◌}
use Rattle.generator.specs.Made as made
use Rattle.generator.proofs.made.put_vpn_joins.Given as goal

abbrev pub invariant-loop-edge : goal.invariant-loop-edge
invariant-loop-edge l = l.out ≡ l.fn.out ++ made.each (made.join_line l.fn.number l.fn.vpn) l.edge

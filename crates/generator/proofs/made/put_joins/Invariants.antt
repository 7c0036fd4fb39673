use Rattle.std.proofs.Common.{◌≡◌, ◌++◌}
use Rattle.generator.specs.Made as made
use Rattle.generator.proofs.made.put_joins.Given as goal

abbrev pub invariant-loop-vpn : goal.invariant-loop-vpn
invariant-loop-vpn l = l.out ≡ l.fn.out ++ made.each (λ vpn. made.each (made.join_line l.fn.number vpn) 32) l.vpn

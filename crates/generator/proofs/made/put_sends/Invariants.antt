use Rattle.std.proofs.Common.{◌≡◌, ◌++◌}
use Rattle.generator.specs.Made as made
use Rattle.generator.proofs.made.put_sends.Given as goal

abbrev pub invariant-loop-vpn : goal.invariant-loop-vpn
invariant-loop-vpn l = l.out ≡ l.fn.out ++ made.each (made.send_line l.fn.number l.fn.payload) l.vpn

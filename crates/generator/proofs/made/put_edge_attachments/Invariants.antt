use Rattle.std.proofs.Common.{◌≡◌, ◌++◌}
use Rattle.generator.specs.Made as made
use Rattle.generator.proofs.made.put_edge_attachments.Given as goal

abbrev pub invariant-loop-vpn : goal.invariant-loop-vpn
invariant-loop-vpn l = l.out ≡ l.fn.out ++ made.each (made.attachment l.fn.edge) l.vpn

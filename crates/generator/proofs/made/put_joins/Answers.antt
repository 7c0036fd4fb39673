use Rattle.generator.specs.Made as made
use Rattle.generator.proofs.TextLemmas.{next_of}
use Rattle.generator.proofs.made.put_joins.Goals as goal

pub loop-vpn-preserved : goal.loop-vpn-preserved
loop-vpn-preserved c =
    next_of (λ vpn. made.each (made.join_line c.args.number vpn) 32) c.loop-vpn.vpn c.args.out.now c.loop-vpn.out c.put_vpn_joins.new.out
    c.loop-vpn.invariant c.in_ok-put_vpn_joins.ensures

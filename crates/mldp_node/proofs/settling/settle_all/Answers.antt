use Rattle.mldp_node.proofs.SettleLemmas.{settled_to, lacks_at}
use Rattle.mldp_node.proofs.settling.settle_all.Goals as goal

pub loop-fec-preserved : goal.loop-fec-preserved
loop-fec-preserved c =
    settled_to c.args.core.now c.args.place.now c.args.fecs.now c.loop-fec.fec-index c.fec-item.result c.args.ends.now c.args.trees.now
    c.args.puts.now.items
    c.loop-fec.trees c.loop-fec.puts.items c.settle_tree.new.trees c.settle_tree.new.puts.items c.loop-fec-test.true c.fec-item.is
    c.loop-fec.invariant c.in_default.ensures.ok

pub returns-in-Err-clause-lacks : goal.returns-in-Err-clause-lacks
returns-in-Err-clause-lacks c =
    λ e. lacks_at c.args.core.now c.args.place.now c.args.fecs.now c.loop-fec.fec-index c.fec-item.result c.args.ends.now c.args.trees.now
    c.args.puts.now.items
    c.loop-fec.trees c.loop-fec.puts.items c.loop-fec-test.true c.fec-item.is c.loop-fec.invariant (c.in-Err.ensures.lacks e)

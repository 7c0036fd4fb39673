use Rattle.edge_labels.proofs.RowLemmas.{made_to, stopped_at, all_made}
use Rattle.edge_labels.proofs.row.change_all.Goals as goal

pub returns-in-Err : goal.returns-in-Err
returns-in-Err c =
    stopped_at c.args.core.now c.args.now c.args.changes.now c.loop-change.change-index c.change-item.result c.args.node.now c.loop-change.node
    c.change_one.new.node c.in-Err.fault
    c.loop-change-test.true c.change-item.is c.loop-change.invariant c.in-Err.ensures

pub loop-change-preserved : goal.loop-change-preserved
loop-change-preserved c =
    made_to c.args.core.now c.args.now c.args.changes.now c.loop-change.change-index c.change-item.result c.args.node.now c.loop-change.node
    c.change_one.new.node
    c.loop-change-test.true c.change-item.is c.loop-change.invariant c.in_default.ensures

pub returns : goal.returns
returns c =
    all_made c.args.core.now c.args.now c.args.changes.now c.loop-change.change-index c.args.node.now c.loop-change.node c.loop-change-test.false
    c.loop-change.invariant

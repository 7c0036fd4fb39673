use Rattle.edge_labels.specs.Calls.{leaf_call, own_call}
use Rattle.std.proofs.Common.{map}
use Rattle.edge_labels.proofs.RowLemmas.{own_made, own_stopped}
use Rattle.edge_labels.proofs.row.make_all.Goals as goal

pub returns-in-Ok : goal.returns-in-Ok
returns-in-Ok c =
    own_made c.args.core.now c.args.now (own_call c.args.own.now) (map leaf_call c.args.changes.now) c.args.node.now c.make.new.node
    c.change_all.new.node c.change_all.result
    c.in-Ok.ensures.answers c.make.ensures.none c.change_all.ensures

pub returns-in-Err : goal.returns-in-Err
returns-in-Err c =
    own_stopped c.args.core.now c.args.now (own_call c.args.own.now) (map leaf_call c.args.changes.now) c.args.node.now c.make.new.node c.in-Err.fault
    c.in-Err.ensures.answers

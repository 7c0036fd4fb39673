use Rattle.std.proofs.Common.{ap, map, ◌∙◌}
use Rattle.edge_control.specs.Taking.{table_of, without_lists}
use Rattle.edge_control.proofs.PeerLost.{lost_is}
use Rattle.edge_control.proofs.lost.lose_in.Goals as goal

pub returns : goal.returns
returns c = λ core.
    c.forget_all_lists.ensures
    ∙ ap (map (without_lists c.args.peer)) (c.forget_table.ensures core)
    ∙ lost_is c.args.home.now core c.args.peer (table_of c.args.taken.now c.args.peer) c.args.trees.now.items c.requires

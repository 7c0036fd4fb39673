use Rattle.mldp_node.proofs.SettleLemmas.{on_ok, sessions_up, one_settled, one_lacks}
use Rattle.mldp_node.proofs.settling.settle_tree.Goals as goal

pub settle-requires : goal.settle-requires
settle-requires c = record { up = sessions_up c.args.trees.now.uses.sessions c.args.ends.now.up c.args.ends.now.raises c.requires.tied.sessions }

pub returns-clause-ok : goal.returns-clause-ok
returns-clause-ok c = on_ok c.settle.result
    (one_settled c.args.core.now c.args.place.now c.upstream-upstream.result c.args.fec.now c.args.ends.now c.args.trees.now c.args.puts.now.items
    c.settle.new.trees c.settle.new.puts.items c.upstream-upstream.ensures c.requires.tied c.requires.written)
    c.settle.ensures.ok

pub returns-clause-lacks : goal.returns-clause-lacks
returns-clause-lacks c =
    λ e. one_lacks c.args.core.now c.args.place.now c.upstream-upstream.result c.args.fec.now c.args.ends.now c.args.trees.now c.args.puts.now.items
    c.upstream-upstream.ensures (c.settle.ensures.lacks e)

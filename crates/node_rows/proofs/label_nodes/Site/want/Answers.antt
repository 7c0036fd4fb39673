use Rattle.std.proofs.Common.{refl, sym, ap, ◌∙◌}
use Rattle.mv_base.specs.declared.ids.NodeId.{NodeId}
use Rattle.label_defs.specs.Node.{node_at}
use Rattle.node_rows.proofs.label_nodes.Site.want.Goals as goal

pub want-requires-clause-tree : goal.want-requires-clause-tree
want-requires-clause-tree c =
    let h = c.self.invariant in
    record {
      kind = h.tree_is.kind;
      spelled = h.tree_is.spelled;
      root = record { 0 = 0 };
      rooted = λ i. node_at (h.addrs i) (h.tree_is.root i);
      other = λ e. c.if-self-ne0.true (ap (λ (n : NodeId). n.0) (sym (e ∙ h.me_is)));
    }

use Rattle.std.proofs.Common.{refl, subst}
use Rattle.label_defs.proofs.UseLemmas.{map_none}
use Rattle.mldp_node.specs.NodeData.{NodeData, cause, AreOwnBindings}
use Rattle.mldp_node.proofs.node.LdpNode.bindings.Goals as goal

pub returns : goal.returns
returns c = subst (λ (n : NodeData). AreOwnBindings n c.bindings.result.now) c.self.view_is (record {
  uses = c.self.inside.trees.uses;
  labels = refl;
  waiting = refl;
  sessions = λ e. (c.self.invariant (map_none cause c.self.inside.spent e)).tied.sessions;
  are = c.bindings.ensures;
})

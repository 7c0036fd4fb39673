use Rattle.std.proofs.Common.{subst}
use Rattle.indexmap.specs.IndexMap.{get}
use Rattle.label_trees.specs.label_uses.Uses.{Uses, AreBindings}
use Rattle.label_trees.specs.label_uses.Held.{is_fec}
use Rattle.label_trees.proofs.label_uses.SeenLemmas.{bindings_are}
use Rattle.label_trees.proofs.label_uses.label_uses.LabelUses.bindings.Goals as goal

pub returns : goal.returns
returns c = subst (λ (u : Uses). AreBindings u c.self.inside.bindings) c.self.view_is
    (bindings_are c.self.inside.space c.self.inside.held c.self.inside.bindings c.self.inside.sessions (get is_fec c.self.inside.mapped)
    c.self.inside.waiting c.self.invariant)

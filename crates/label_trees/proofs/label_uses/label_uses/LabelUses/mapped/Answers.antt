use Rattle.std.proofs.Common.{◌∙◌, nat_eq, ap}
use Rattle.std.specs.FinMap as maps
use Rattle.indexmap.specs.IndexMap.{get}
use Rattle.label_trees.specs.label_uses.Uses.{Uses, mapped_in}
use Rattle.label_trees.specs.label_uses.Held.{is_fec, is_node}
use Rattle.label_trees.proofs.label_uses.ListLemmas.{mapped_agrees}
use Rattle.label_trees.proofs.label_uses.label_uses.LabelUses.mapped.Goals as goal

pub returns : goal.returns
returns c =
    c.copied.ensures ∙ c.get.ensures.value
    ∙ mapped_agrees c.self.inside.space (get nat_eq c.self.inside.held) (maps.get c.self.inside.bindings.kept) (get is_node c.self.inside.sessions)
    (get is_fec c.self.inside.mapped) (get is_fec c.self.inside.waiting) c.self.invariant c.args.fec.now
    ∙ ap (λ (u : Uses). mapped_in u.labels c.args.fec.now) c.self.view_is

use Rattle.std.proofs.Common.{◌∙◌, nat_eq, count_by, ap}
use Rattle.indexmap.specs.IndexMap.{get}
use Rattle.label_defs.specs.LabelData.{is_rested}
use Rattle.label_trees.specs.label_uses.Uses.{Uses}
use Rattle.label_trees.proofs.label_uses.SeenLemmas.{uses_rested}
use Rattle.label_trees.proofs.label_uses.label_uses.LabelUses.due.Goals as goal

pub returns : goal.returns
returns c =
    c.due.ensures ∙ (uses_rested c.args.now 16 c.self.inside.space.states (get nat_eq c.self.inside.held)
    ∙ ap (λ (u : Uses). count_by (is_rested c.args.now) u.labels) c.self.view_is)

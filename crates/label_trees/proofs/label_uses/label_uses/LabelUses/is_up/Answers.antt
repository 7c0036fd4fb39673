use Rattle.std.proofs.Common.{◌∙◌, is_some, sym, ap}
use Rattle.std.specs.FinMap as maps
use Rattle.label_trees.specs.label_uses.Uses.{Uses}
use Rattle.label_trees.proofs.label_uses.StepLemmas.{session_seen}
use Rattle.label_trees.proofs.label_uses.SeenLemmas.{copied_some}
use Rattle.label_trees.proofs.label_uses.label_uses.LabelUses.is_up.Goals as goal

pub returns : goal.returns
returns c =
    c.is_some.ensures ∙ (copied_some c.get.result
    ∙ ap is_some (c.get.ensures.value ∙ (sym (session_seen c.self.inside.sessions c.args.peer)
    ∙ ap (λ (u : Uses). maps.get u.sessions c.args.peer) c.self.view_is)))

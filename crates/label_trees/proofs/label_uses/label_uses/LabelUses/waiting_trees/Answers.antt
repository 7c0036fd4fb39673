use Rattle.std.proofs.Common.{◌∙◌, ap}
use Rattle.std.specs.FinMap as maps
use Rattle.std.specs.FinSet as sets
use Rattle.std.proofs.lemmas.Result.{IfOk-weaker}
use Rattle.label_trees.specs.label_uses.Uses.{Uses}
use Rattle.label_trees.proofs.label_uses.TowardLemmas.{all_waiting}
use Rattle.label_trees.proofs.label_uses.label_uses.LabelUses.waiting_trees.Goals as goal

pub returns : goal.returns
returns c = IfOk-weaker c.waiting_trees.result _ _ (λ fecs own.
    all_waiting c.self.inside.waiting.entries fecs.items own ∙ ap (λ (u : Uses). sets.from_list (maps.keys u.waiting)) c.self.view_is)
    c.waiting_trees.ensures

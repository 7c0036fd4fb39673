use Rattle.std.proofs.Common.{nat_eq, ◌∙◌, ap}
use Rattle.std.specs.FinMap as maps
use Rattle.std.specs.List.{list_any}
use Rattle.std.proofs.lemmas.Result.{IfOk-weaker}
use Rattle.indexmap.specs.IndexMap.{get}
use Rattle.label_trees.specs.label_uses.Uses.{Uses, use_in, is_toward}
use Rattle.label_trees.specs.label_uses.Held.{is_fec, is_node}
use Rattle.label_trees.proofs.label_uses.TowardLemmas.{toward_seen}
use Rattle.label_trees.proofs.label_uses.label_uses.LabelUses.labels_toward.Goals as goal

pub returns : goal.returns
returns c = IfOk-weaker c.labels_toward.result _ _ (λ labels own label.
    ap (list_any (λ l. nat_eq l label)) own
    ∙ (toward_seen c.self.inside.space c.self.inside.held (maps.get c.self.inside.bindings.kept) (get is_node c.self.inside.sessions)
    (get is_fec c.self.inside.mapped) (get is_fec c.self.inside.waiting) c.self.invariant c.labels_toward.ensures.unique c.args.peer label
    ∙ ap (λ (u : Uses). is_toward c.args.peer (use_in u.labels label)) c.self.view_is)) c.labels_toward.ensures.listed

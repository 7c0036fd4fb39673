use Rattle.std.proofs.Common.{◌∙◌, nat_eq, sym, ap}
use Rattle.std.specs.FinMap as maps
use Rattle.indexmap.specs.IndexMap.{get}
use Rattle.label_defs.specs.Settling.{upstream_of}
use Rattle.label_trees.specs.label_uses.Uses.{Uses, use_in}
use Rattle.label_trees.specs.label_uses.Held.{is_fec, is_node, uses_from}
use Rattle.label_trees.proofs.label_uses.ListLemmas.{use_of_held}
use Rattle.label_trees.proofs.label_uses.StepLemmas.{idle}
use Rattle.label_trees.proofs.label_uses.SeenLemmas.{idle_upstream, held_upstream}
use Rattle.label_trees.proofs.label_uses.label_uses.LabelUses.upstream.Goals as goal

pub returns-in-None : goal.returns-in-None
returns-in-None c =
    sym (idle_upstream (use_in (uses_from 16 (get nat_eq c.self.inside.held) c.self.inside.space.states) c.args.label)
    (idle c.self.inside.space (get nat_eq c.self.inside.held) c.args.label (sym c.in-None.ensures.value)))
    ∙ ap (λ (u : Uses). upstream_of (use_in u.labels c.args.label)) c.self.view_is

pub returns-in-Some : goal.returns-in-Some
returns-in-Some c =
    sym (held_upstream c.in-Some.own.now)
    ∙ (sym (ap upstream_of (use_of_held c.self.inside.space (get nat_eq c.self.inside.held) (maps.get c.self.inside.bindings.kept)
    (get is_node c.self.inside.sessions) (get is_fec c.self.inside.mapped) (get is_fec c.self.inside.waiting) c.self.invariant c.args.label
    c.in-Some.own.now (sym c.in-Some.ensures.value)))
    ∙ ap (λ (u : Uses). upstream_of (use_in u.labels c.args.label)) c.self.view_is)

use Rattle.std.specs.Prelude.{sum_by}
use Rattle.std.proofs.Common.{List, length, min, ℕ, sym, ap, ◌∙◌}
use Rattle.std.specs.FinMap as maps
use Rattle.vrf_words.specs.tree_defs.Trees.{TreeData}
use Rattle.control_laws.specs.Control.{Kept, control_of}
use Rattle.control_laws.proofs.CustomersCounts.{selections_counted}
use Rattle.edge_control.specs.Sound.{kept_of}
use Rattle.edge_control.proofs.CountLemmas.{most}
use Rattle.edge_control.proofs.SoundLemmas.{sound_full, sound_parts}
use Rattle.edge_control.proofs.control.EdgeControl.selections.Goals as goal

pub returns : goal.returns
returns c =
    let kept : Kept = kept_of c.self.inside.home c.self.inside.trees.items c.self.inside.taken in
    c.selections_in.ensures
    ∙ ap (λ (trees : List TreeData). min (sum_by (λ (tree : TreeData). length tree.root.selections) trees) most) c.deref.ensures.value
    ∙ ap (λ (n : ℕ). min n most) (sym (selections_counted kept (sound_full kept c.self.invariant) (sound_parts kept c.self.invariant)
    c.self.invariant.single))
    ∙ ap (λ (k : Kept). min (maps.len (control_of k).selections) most) c.self.view_is

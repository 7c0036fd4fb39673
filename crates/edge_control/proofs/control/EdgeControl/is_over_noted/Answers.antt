use Rattle.std.specs.Prelude.{sum_by}
use Rattle.std.proofs.Common.{List, min, sym, ap, subst, ◌∙◌}
use Rattle.std.specs.FinSet as sets
use Rattle.vrf_words.specs.tree_defs.Trees.{TreeData}
use Rattle.edge_defs.specs.Originated.{is_iface_of}
use Rattle.control_laws.specs.Control.{Kept, control_of}
use Rattle.edge_control.specs.Sound.{kept_of}
use Rattle.edge_control.specs.Places.{IsPlace, is_note_too_many}
use Rattle.edge_control.proofs.CallLemmas.{noted_told}
use Rattle.edge_control.proofs.CountLemmas.{most}
use Rattle.edge_control.proofs.control.EdgeControl.is_over_noted.Goals as goal

pub returns : goal.returns
returns c =
    let kept : Kept = kept_of c.self.inside.home c.self.inside.trees.items c.self.inside.taken in
    let place =
    subst (λ (k : Kept). IsPlace k.home c.args.place (λ own. is_iface_of k.home.scenario own.id c.args.iface)) (sym c.self.view_is)
    c.requires.place in
    c.is_one_too_many.ensures
    ∙ noted_told kept c.self.invariant c.args.place c.args.iface place c.args.source c.args.group c.index.result.now c.noted-noted.result
    c.notes_in-count.result c.index.ensures c.noted-noted.ensures
    (c.notes_in-count.ensures ∙ ap (λ (trees : List TreeData). min (sum_by (λ (tree : TreeData). sets.len tree.vrf.notes) trees) most)
    c.deref.ensures.value)
    ∙ ap (λ (k : Kept). is_note_too_many (control_of k) c.args.iface c.args.source c.args.group) c.self.view_is

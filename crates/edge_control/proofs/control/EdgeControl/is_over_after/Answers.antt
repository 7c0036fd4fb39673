use Rattle.std.specs.Prelude.{sum_by}
use Rattle.std.proofs.Common.{List, min, sym, ap, subst, ◌∙◌}
use Rattle.std.specs.FinMap as maps
use Rattle.pim_defs.specs.Entries.{applied, are_too_many}
use Rattle.vrf_words.specs.tree_defs.Trees.{TreeData}
use Rattle.edge_defs.specs.Originated.{is_iface_of}
use Rattle.control_laws.specs.Control.{Kept, control_of}
use Rattle.edge_control.specs.Sound.{kept_of}
use Rattle.edge_control.specs.Places.{IsPlace}
use Rattle.edge_control.proofs.CallLemmas.{over_is}
use Rattle.edge_control.proofs.CountLemmas.{most}
use Rattle.edge_control.proofs.control.EdgeControl.is_over_after.Goals as goal

pub returns : goal.returns
returns c =
    let kept : Kept = kept_of c.self.inside.home c.self.inside.trees.items c.self.inside.taken in
    let place =
    subst (λ (k : Kept). IsPlace k.home c.args.place (λ own. is_iface_of k.home.scenario own.id c.args.iface)) (sym c.self.view_is)
    c.requires.place in
    c.is_over.ensures
    ∙ over_is kept c.self.invariant c.args.place c.args.iface place c.args.message.now c.args.now c.index.result.now c.index-2.result.now
    c.entries_in.result c.pim_entries-own.result c.in_ok-thereafter.thereafter
    c.index.ensures c.index-2.ensures
    (c.entries_in.ensures ∙ ap (λ (trees : List TreeData). min (sum_by (λ (tree : TreeData). maps.len tree.vrf.entries) trees) most)
    c.deref.ensures.value)
    c.pim_entries-own.ensures.count c.pim_entries-own.ensures.few c.in_ok-thereafter.ensures
    ∙ ap (λ (k : Kept). are_too_many (applied (control_of k).entries c.args.iface c.args.message.now c.args.now)) c.self.view_is

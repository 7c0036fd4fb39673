use Rattle.std.proofs.Common.{◌≡◌, ◌==◌, false, List, None, sym, ap, subst, ◌∙◌, refl}
use Rattle.std.specs.FinMap as maps
use Rattle.std.proofs.lemmas.Result.{IfOk-weaker, on_ok_weaker}
use Rattle.mv_base.specs.Lists.{Among}
use Rattle.vrf_words.specs.tree_defs.Trees.{TreeData}
use Rattle.edge_defs.specs.Place.{tunnel_number}
use Rattle.edge_defs.specs.Steps.{Customer, Select, effect}
use Rattle.edge_routes.specs.edge_home.Home.{place_of}
use Rattle.control_laws.specs.Control.{Kept, control_of}
use Rattle.control_laws.specs.Customers.{selected}
use Rattle.control_laws.proofs.Parts.{no_core}
use Rattle.edge_control.specs.Sound.{kept_of, wants_of}
use Rattle.edge_control.specs.Places.{changed_at, is_selection_too_many, number_after, vrfs_of}
use Rattle.edge_control.proofs.CallLemmas.{is_there, sound_either}
use Rattle.edge_control.proofs.SelectLemmas.{few_there, is_new, number_of, selected_made}
use Rattle.edge_control.proofs.WantLemmas.{changed_wants, wants_either}
use Rattle.edge_control.proofs.control.EdgeControl.select.Goals as goal

pub select_at-requires-clause-there : goal.select_at-requires-clause-there
select_at-requires-clause-there c =
    let kept : Kept = kept_of c.self.inside.home c.self.inside.trees.items c.self.inside.taken in
    is_there kept c.self.invariant c.place_of_vrf-place.result (λ own. own.id.0 == c.args.vrf.0) c.place_of_vrf-place.ensures

pub select_at-requires-clause-new : goal.select_at-requires-clause-new
select_at-requires-clause-new c =
    let kept : Kept = kept_of c.self.inside.home c.self.inside.trees.items c.self.inside.taken in
    let none =
    subst (λ (k : Kept). maps.get (control_of k).selections (record { vrf = c.args.vrf; pattern = c.args.pattern }) ≡ None) (sym c.self.view_is)
    c.requires.new in
    is_new kept c.self.invariant c.place_of_vrf-place.result c.args.vrf c.place_of_vrf-place.ensures c.args.pattern none

pub select_at-requires-clause-few : goal.select_at-requires-clause-few
select_at-requires-clause-few c =
    let kept : Kept = kept_of c.self.inside.home c.self.inside.trees.items c.self.inside.taken in
    few_there kept c.self.invariant c.place_of_vrf-place.result c.args.vrf c.place_of_vrf-place.ensures
    (subst (λ (k : Kept). is_selection_too_many (control_of k) ≡ false) (sym c.self.view_is)
    (sym c.is_over_selected.ensures ∙ c.if-is_over_selected.false))

pub invariant_of-self : goal.invariant_of-self
invariant_of-self c =
    let kept : Kept = kept_of c.self.inside.home c.self.inside.trees.items c.self.inside.taken in
    let none =
    subst (λ (k : Kept). maps.get (control_of k).selections (record { vrf = c.args.vrf; pattern = c.args.pattern }) ≡ None) (sym c.self.view_is)
    c.requires.new in
    sound_either c.select_at.result kept c.select_at.new.trees.items (changed_at c.place_of_vrf-place.result (selected c.args.pattern c.args.now) kept.trees)
    c.self.invariant
    (selected_made kept c.self.invariant c.place_of_vrf-place.result c.args.vrf c.place_of_vrf-place.ensures c.args.pattern c.args.now none no_core).sound
    c.select_at.ensures.selected c.select_at.ensures.unchanged

pub returns-clause-selected : goal.returns-clause-selected
returns-clause-selected c =
    let kept : Kept = kept_of c.self.inside.home c.self.inside.trees.items c.self.inside.taken in
    let none =
    subst (λ (k : Kept). maps.get (control_of k).selections (record { vrf = c.args.vrf; pattern = c.args.pattern }) ≡ None) (sym c.self.view_is)
    c.requires.new in
    λ core. on_ok_weaker c.select_at.result (λ e.
    ap (λ (trees : List TreeData). control_of (record kept { trees = trees })) e
    ∙ (selected_made kept c.self.invariant c.place_of_vrf-place.result c.args.vrf c.place_of_vrf-place.ensures c.args.pattern c.args.now none core).is
    ∙ ap (λ (k : Kept). effect (place_of k.home core) c.args.now (control_of k) (Customer (Select c.args.vrf c.args.pattern))) c.self.view_is)
    c.select_at.ensures.selected

pub returns-clause-number : goal.returns-clause-number
returns-clause-number c =
    let kept : Kept = kept_of c.self.inside.home c.self.inside.trees.items c.self.inside.taken in
    λ own among id. IfOk-weaker c.select_at.result _ _ (λ lsp is.
    is ∙ ap (λ (k : Kept). tunnel_number own.vrf (number_after (control_of k) c.args.vrf)) c.self.view_is)
    (number_of kept c.self.invariant c.place_of_vrf-place.result c.args.vrf c.place_of_vrf-place.ensures c.args.pattern c.args.now c.select_at.result own
    (subst (λ (k : Kept). Among own (vrfs_of k.home)) (sym c.self.view_is) among) id c.select_at.ensures.number)

pub returns-clause-wants : goal.returns-clause-wants
returns-clause-wants c =
    let kept : Kept = kept_of c.self.inside.home c.self.inside.trees.items c.self.inside.taken in
    wants_either c.select_at.result kept.trees c.select_at.new.trees.items
    (changed_at c.place_of_vrf-place.result (selected c.args.pattern c.args.now) kept.trees) c.select_at.ensures.selected c.select_at.ensures.unchanged
    (changed_wants (selected c.args.pattern c.args.now) (λ tree. refl) c.place_of_vrf-place.result kept.trees)
    ∙ ap (λ (k : Kept). wants_of k.trees) c.self.view_is

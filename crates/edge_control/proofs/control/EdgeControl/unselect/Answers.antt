use Rattle.std.proofs.Common.{List, sym, ap, subst, ◌∙◌, refl}
use Rattle.vrf_words.specs.tree_defs.Trees.{TreeData}
use Rattle.edge_defs.specs.Steps.{Customer, Unselect, effect}
use Rattle.edge_routes.specs.edge_home.Home.{place_of}
use Rattle.control_laws.specs.Control.{Kept, control_of}
use Rattle.control_laws.proofs.Parts.{no_core}
use Rattle.edge_control.specs.Sound.{IsSound, kept_of, wants_of}
use Rattle.edge_control.proofs.SelectLemmas.{unselected_made}
use Rattle.edge_control.proofs.WantLemmas.{changed_wants}
use Rattle.control_laws.specs.Customers.{unselected}
use Rattle.edge_control.proofs.control.EdgeControl.unselect.Goals as goal

pub invariant_of-self : goal.invariant_of-self
invariant_of-self c =
    let kept : Kept = kept_of c.self.inside.home c.self.inside.trees.items c.self.inside.taken in
    subst (λ (trees : List TreeData). IsSound (record kept { trees = trees })) (sym c.unselect_at.ensures)
    (unselected_made kept c.self.invariant c.place_of_vrf-place.result c.args.vrf c.place_of_vrf-place.ensures c.args.pattern 0 no_core).sound

pub returns-clause-unselected : goal.returns-clause-unselected
returns-clause-unselected c =
    let kept : Kept = kept_of c.self.inside.home c.self.inside.trees.items c.self.inside.taken in
    λ core now.
    ap (λ (trees : List TreeData). control_of (record kept { trees = trees })) c.unselect_at.ensures
    ∙ (unselected_made kept c.self.invariant c.place_of_vrf-place.result c.args.vrf c.place_of_vrf-place.ensures c.args.pattern now core).is
    ∙ ap (λ (k : Kept). effect (place_of k.home core) now (control_of k) (Customer (Unselect c.args.vrf c.args.pattern))) c.self.view_is

pub returns-clause-wants : goal.returns-clause-wants
returns-clause-wants c =
    ap wants_of c.unselect_at.ensures ∙ changed_wants (unselected c.args.pattern) (λ tree. refl) c.place_of_vrf-place.result c.self.inside.trees.items
    ∙ ap (λ (k : Kept). wants_of k.trees) c.self.view_is

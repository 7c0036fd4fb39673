use Rattle.std.proofs.Common.{List, sym, ap, subst, ◌∙◌, refl}
use Rattle.vrf_words.specs.tree_defs.Trees.{TreeData}
use Rattle.edge_defs.specs.Steps.{Customer, Idle, effect}
use Rattle.edge_routes.specs.edge_home.Home.{place_of}
use Rattle.control_laws.specs.Control.{Kept, control_of}
use Rattle.control_laws.proofs.Parts.{no_core}
use Rattle.edge_control.specs.Sound.{IsSound, kept_of, wants_of}
use Rattle.edge_control.proofs.CallLemmas.{unnoted_made}
use Rattle.edge_control.proofs.WantLemmas.{changed_wants}
use Rattle.control_laws.specs.Customers.{unnoted}
use Rattle.edge_control.proofs.control.EdgeControl.unnote.Goals as goal

pub invariant_of-self : goal.invariant_of-self
invariant_of-self c =
    let kept : Kept = kept_of c.self.inside.home c.self.inside.trees.items c.self.inside.taken in
    subst (λ (trees : List TreeData). IsSound (record kept { trees = trees })) (sym c.unnote_at.ensures)
    (unnoted_made kept c.self.invariant c.place_of_iface-place.result c.args.iface c.place_of_iface-place.ensures c.args.source c.args.group 0
    no_core).sound

pub returns-clause-unnoted : goal.returns-clause-unnoted
returns-clause-unnoted c =
    let kept : Kept = kept_of c.self.inside.home c.self.inside.trees.items c.self.inside.taken in
    λ core now.
    ap (λ (trees : List TreeData). control_of (record kept { trees = trees })) c.unnote_at.ensures
    ∙ (unnoted_made kept c.self.invariant c.place_of_iface-place.result c.args.iface c.place_of_iface-place.ensures c.args.source c.args.group now
    core).is
    ∙ ap (λ (k : Kept). effect (place_of k.home core) now (control_of k) (Customer (Idle c.args.iface c.args.source c.args.group))) c.self.view_is

pub returns-clause-wants : goal.returns-clause-wants
returns-clause-wants c =
    ap wants_of c.unnote_at.ensures ∙ changed_wants (unnoted c.args.iface c.args.source c.args.group) (λ tree. refl) c.place_of_iface-place.result
    c.self.inside.trees.items
    ∙ ap (λ (k : Kept). wants_of k.trees) c.self.view_is

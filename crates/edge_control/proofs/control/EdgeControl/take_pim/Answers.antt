use Rattle.std.proofs.Common.{rules, ◌≡◌, ◌<◌, ℕ, true, false, List, Err, Some, length, slice_get, sym, ap, subst, ◌∙◌, refl}
use Rattle.std.proofs.lemmas.Option.{slice_get_read}
use Rattle.std.proofs.lemmas.Result.{on_err_weaker, on_ok_weaker}
use Rattle.std.specs.FinSet as sets
use Rattle.pim_defs.specs.Entries.{applied, are_too_many}
use Rattle.vrf_words.specs.tree_defs.Trees.{TreeData}
use Rattle.vrf_trees.specs.Wants.{tunnels_in}
use Rattle.edge_defs.specs.Originated.{is_iface_of}
use Rattle.edge_defs.specs.Steps.{Customer, Pim, effect}
use Rattle.edge_routes.specs.edge_home.Home.{place_of}
use Rattle.control_laws.specs.Control.{Kept, control_of}
use Rattle.control_laws.specs.Customers.{pim_taken}
use Rattle.control_laws.proofs.Parts.{no_core}
use Rattle.edge_control.specs.Sound.{kept_of, wants_of}
use Rattle.edge_control.specs.Places.{changed_at}
use Rattle.edge_control.proofs.CallLemmas.{flows_stay, flows_taken, is_there, pim_made, sound_either, tree_fits}
use Rattle.edge_control.proofs.WantLemmas.{changed_wants}
use Rattle.edge_control.proofs.control.EdgeControl.take_pim.Goals as goal

pub index_mut-tree-requires : goal.index_mut-tree-requires
index_mut-tree-requires c =
    let kept : Kept = kept_of c.self.inside.home c.self.inside.trees.items c.self.inside.taken in
    subst (λ (n : ℕ). c.place_of_iface-place.result < n) (sym c.self.inside.trees.ok.0)
    (is_there kept c.self.invariant c.place_of_iface-place.result (λ own. is_iface_of kept.home.scenario own.id c.args.iface)
    c.place_of_iface-place.ensures)

pub unreachable-requires : goal.unreachable-requires
unreachable-requires c =
    let kept : Kept = kept_of c.self.inside.home c.self.inside.trees.items c.self.inside.taken in
    let there =
    is_there kept c.self.invariant c.place_of_iface-place.result (λ own. is_iface_of kept.home.scenario own.id c.args.iface)
    c.place_of_iface-place.ensures in
    let at : slice_get kept.trees c.place_of_iface-place.result ≡ Some c.index_mut-tree.result.now =
    slice_get_read kept.trees (length kept.trees) c.place_of_iface-place.result c.index_mut-tree.result.now refl there
    c.index_mut-tree.ensures.value in
    let fits : are_too_many (applied (control_of c.args.self.now).entries c.args.iface c.args.message.now c.args.now) ≡ false = search rules in
    let over : are_too_many (applied c.tree.inside.flows.entries c.args.iface c.args.message.now c.args.now) ≡ true =
    c.pim_take.ensures.full (c.in-Err-Full.is ∙ ap (λ fault. Err fault) c.in-Err-Full.field-0-is) in
    let few : are_too_many (applied c.tree.inside.flows.entries c.args.iface c.args.message.now c.args.now) ≡ false =
    ap (λ (tree : TreeData). are_too_many (applied tree.vrf.entries c.args.iface c.args.message.now c.args.now)) c.tree.view_is
    ∙ tree_fits kept c.self.invariant c.place_of_iface-place.result c.args.iface c.place_of_iface-place.ensures c.args.message.now c.args.now
    (subst (λ (k : Kept). are_too_many (applied (control_of k).entries c.args.iface c.args.message.now c.args.now) ≡ false) (sym c.self.view_is)
    fits) c.index_mut-tree.result.now at in
    (let t : true ≡ false = sym over ∙ few in cc)

pub invariant_of-self : goal.invariant_of-self
invariant_of-self c =
    let kept : Kept = kept_of c.self.inside.home c.self.inside.trees.items c.self.inside.taken in
    let inside = c.tree.inside in
    let old : TreeData =
    record {
      vrf = inside.flows;
      root = inside.root;
      leaf = inside.leaf;
      joined = inside.joined;
      wants = sets.from_list (tunnels_in inside.wants.entries);
    } in
    let there =
    is_there kept c.self.invariant c.place_of_iface-place.result (λ own. is_iface_of kept.home.scenario own.id c.args.iface)
    c.place_of_iface-place.ensures in
    let at : slice_get kept.trees c.place_of_iface-place.result ≡ Some old =
    slice_get_read kept.trees (length kept.trees) c.place_of_iface-place.result c.index_mut-tree.result.now refl there
    c.index_mut-tree.ensures.value ∙ ap (λ (tree : TreeData). Some tree) (sym c.tree.view_is) in
    sound_either c.pim_take.result kept _
    (changed_at c.place_of_iface-place.result (pim_taken c.args.iface c.args.message.now c.args.now) kept.trees) c.self.invariant
    (pim_made kept c.self.invariant c.place_of_iface-place.result c.args.iface c.place_of_iface-place.ensures c.args.message.now c.args.now
    no_core).sound
    (on_ok_weaker c.pim_take.result
    (flows_taken kept.trees c.place_of_iface-place.result old at c.pim_take.new.self c.args.iface c.args.message.now c.args.now)
    c.pim_take.ensures.taken)
    (on_err_weaker c.pim_take.result (flows_stay kept.trees c.place_of_iface-place.result old at c.pim_take.new.self) c.pim_take.ensures.unchanged)

pub returns-in-Ok-clause-taken : goal.returns-in-Ok-clause-taken
returns-in-Ok-clause-taken c = λ core.
    let kept : Kept = kept_of c.self.inside.home c.self.inside.trees.items c.self.inside.taken in
    let inside = c.tree.inside in
    let old : TreeData =
    record {
      vrf = inside.flows;
      root = inside.root;
      leaf = inside.leaf;
      joined = inside.joined;
      wants = sets.from_list (tunnels_in inside.wants.entries);
    } in
    let there =
    is_there kept c.self.invariant c.place_of_iface-place.result (λ own. is_iface_of kept.home.scenario own.id c.args.iface)
    c.place_of_iface-place.ensures in
    let at : slice_get kept.trees c.place_of_iface-place.result ≡ Some old =
    slice_get_read kept.trees (length kept.trees) c.place_of_iface-place.result c.index_mut-tree.result.now refl there
    c.index_mut-tree.ensures.value ∙ ap (λ (tree : TreeData). Some tree) (sym c.tree.view_is) in
    let taken =
    flows_taken kept.trees c.place_of_iface-place.result old at c.pim_take.new.self c.args.iface c.args.message.now c.args.now c.in-Ok.ensures.taken in
    ap (λ (trees : List TreeData). control_of (record kept { trees = trees })) taken
    ∙ (pim_made kept c.self.invariant c.place_of_iface-place.result c.args.iface c.place_of_iface-place.ensures c.args.message.now c.args.now core).is
    ∙ ap (λ (k : Kept). effect (place_of k.home core) c.args.now (control_of k) (Customer (Pim c.args.iface c.args.message.now))) c.self.view_is

pub returns-in-Ok-clause-wants : goal.returns-in-Ok-clause-wants
returns-in-Ok-clause-wants c =
    let kept : Kept = kept_of c.self.inside.home c.self.inside.trees.items c.self.inside.taken in
    let inside = c.tree.inside in
    let old : TreeData =
    record {
      vrf = inside.flows;
      root = inside.root;
      leaf = inside.leaf;
      joined = inside.joined;
      wants = sets.from_list (tunnels_in inside.wants.entries);
    } in
    let there =
    is_there kept c.self.invariant c.place_of_iface-place.result (λ own. is_iface_of kept.home.scenario own.id c.args.iface)
    c.place_of_iface-place.ensures in
    let at : slice_get kept.trees c.place_of_iface-place.result ≡ Some old =
    slice_get_read kept.trees (length kept.trees) c.place_of_iface-place.result c.index_mut-tree.result.now refl there
    c.index_mut-tree.ensures.value ∙ ap (λ (tree : TreeData). Some tree) (sym c.tree.view_is) in
    let taken =
    flows_taken kept.trees c.place_of_iface-place.result old at c.pim_take.new.self c.args.iface c.args.message.now c.args.now c.in-Ok.ensures.taken in
    ap wants_of taken
    ∙ changed_wants (pim_taken c.args.iface c.args.message.now c.args.now) (λ tree. refl) c.place_of_iface-place.result kept.trees
    ∙ ap (λ (k : Kept). wants_of k.trees) c.self.view_is

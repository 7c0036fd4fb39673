-- Trees between two refreshes, trees with other routes of peers, and trees after a refresh.
use Rattle.std.proofs.Common.{◌≡◌, ◌⊎◌, ℕ, ◌==◌, ◌&&◌, ◌||◌, Bool, true, false, cond, inl, inr, List, find, Option, Some, None, option_map, refl, sym, ap, subst, ◌∙◌}
use Rattle.std.specs.List.{AllZip}
use Rattle.std.specs.FinMap as maps
use Rattle.std.specs.Option.{option_or}
use Rattle.std.specs.FinMap.{FinMap}
use Rattle.std.specs.FinSet as sets
use Rattle.std.specs.FinSet.{FinSet}
use Rattle.std.proofs.lemmas.Bool.{eq-eqb, eqb-true}
use Rattle.mv_base.specs.Lists.{Among}
use Rattle.mv_base.specs.declared.ids.VrfId.{VrfId}
use Rattle.mv_base.specs.core_walks.Core.{Core}
use Rattle.pim_defs.specs.Entries.{Entries}
use Rattle.scenario_defs.specs.Rules.{Rules}
use Rattle.selective.specs.Roots.{is_of}
use Rattle.label_defs.specs.Keys.{node_cmp}
use Rattle.vrf_words.specs.declared.tree_defs.flow.Flow.{Flow}
use Rattle.vrf_words.specs.tree_defs.Flows as tree_flows
use Rattle.vrf_words.specs.tree_defs.Keys as tree_keys
use Rattle.vrf_words.specs.tree_defs.Trees.{TreeData, wanted_by}
use Rattle.edge_defs.specs.Edge.{VrfFlow, Upstream, Site, Remote, Taken, Control}
use Rattle.edge_defs.specs.Flows.{flows_at}
use Rattle.edge_defs.specs.Originated.{is_iface_of}
use Rattle.edge_defs.specs.Place.{EdgePlace, OwnVrf, vrfs_from, own_vrfs}
use Rattle.edge_defs.specs.Steps.{Call, control_step, effect, is_vrf_step, refreshed, refreshed_if}
use Rattle.edge_defs.specs.Upstream.{known_routes}
use Rattle.edge_routes.specs.edge_home.Home.{place_of}
use Rattle.vrf_words.proofs.edge_words.calm_laws.Lists.{map_among, among_map, not_both}
use Rattle.vrf_words.specs.edge_words.Known.{AreNodes}
use Rattle.vrf_words.proofs.edge_words.Flows.{is_asked}
use Rattle.vrf_words.specs.tree_laws.TreeOf.{choice_of, edge_note, flow_in}
use Rattle.vrf_words.specs.tree_laws.Refreshed.{with_flows}
use Rattle.vrf_words.specs.tree_laws.Whole.{AreWhole}
use Rattle.vrf_words.proofs.tree_laws.Flows.{looked_up}
use Rattle.control_laws.specs.Control.{Kept, OwnTree, trees_of, upstream_by, control_of, AreTrees}
use Rattle.control_laws.specs.Customers.{Makes}
use Rattle.control_laws.specs.Peers.{as_wanted, IsTreeBetween}
use Rattle.control_laws.specs.Between.{AreTreesBetween, HasRoutes, IsRefreshed, KeepsCustomers, MakesBetween}
use Rattle.control_laws.proofs.Gathered.{options}
use Rattle.control_laws.proofs.Owned.{of_each, each_of, of_number, or_not, with}
use Rattle.control_laws.proofs.Together.{tree_note, flow_of, selected_of, entry_in, note_in, choice_in, selected_in, entries_gathered, notes_gathered, flows_gathered, selections_gathered}
use Rattle.control_laws.proofs.Parts.{IsPart, AreParts, AreFull, AreWanting, Wants, no_core, derived_of, selections_distinct, is_tree_with, parts_of, full_of, trees_together, flow_at, flow_nowhere}
use Rattle.control_laws.proofs.Replaced.{same_control, same_entries, same_notes, same_selections, same_flows}
use Rattle.control_laws.proofs.Zipped.{Stands, zipped, zip_back, gathered_zip, zip_map, zip_full}

-- ---- between two refreshes

where_not : {X : Type 0} (b : Bool) (x y : X) → b ≡ false → cond b x y ≡ y
where_not b x y h = ap (λ (c : Bool). cond c x y) h

pub between_at : (kept : Kept) → AreTreesBetween kept → (core : Core) (it : OwnTree) → Among it (trees_of kept)
    → IsTreeBetween (place_of kept.home core) (control_of kept) it.own it.tree
between_at kept between core it a =
    of_each (λ (other : OwnTree). IsTreeBetween (place_of kept.home core) (control_of kept) other.own other.tree) (trees_of kept) (between.each core)
    it a

-- what is kept of a VRF between two refreshes of what may be other tables
part_between : (kept : Kept) (peers : FinMap node_cmp Taken) (it : OwnTree)
    → ((core : Core) → IsTreeBetween (place_of kept.home core) (record (control_of kept) { peers = peers }) it.own it.tree)
    → IsPart kept.home peers it
part_between kept peers it is =
    let control : Control = record (control_of kept) { peers = peers } in
    let one = is no_core in
    record {
      entries = λ at h. one.entries at ∙ where_not (is_iface_of kept.home.scenario it.own.id at.iface) (maps.get control.entries at) None h;
      notes = λ note h. one.notes note ∙ ap (λ (b : Bool). b && sets.contains control.notes (edge_note note)) h;
      selections = selections_distinct (place_of kept.home no_core) control it.own (as_wanted it.tree) one;
      derived = λ core. derived_of (place_of kept.home core) control it.own (as_wanted it.tree) (is core);
    }

pub parts_between : (kept : Kept) → AreTreesBetween kept → AreParts kept
parts_between kept between it a = part_between kept kept.peers it (λ core. between_at kept between core it a)

pub full_between : (kept : Kept) → AreTreesBetween kept → AreFull kept
full_between kept between = record { full = between.full; all = between.all }

pub between_together : (kept : Kept) → AreFull kept → AreParts kept → AreTreesBetween kept
between_together kept full parts = record {
  each = λ core. each_of (λ (it : OwnTree). IsTreeBetween (place_of kept.home core) (control_of kept) it.own it.tree) (trees_of kept)
      (λ it a. is_tree_with kept parts core it a (sets.from_list (wanted_by it.tree.leaf it.tree.vrf.flows)) refl);
  full = full.full;
  all = full.all;
}

-- trees are so too between two refreshes
pub are_between : (kept : Kept) → AreTrees kept → AreTreesBetween kept
are_between kept trees = between_together kept (full_of kept trees) (parts_of kept trees)

-- ---- trees with other routes of peers

module _ (kept : Kept) (peers : FinMap node_cmp Taken) (others : List TreeData) (R : OwnTree → TreeData → Type 0)
    (zip : AllZip R (trees_of kept) others)
    (customers : (it : OwnTree) (new : TreeData) → R it new → KeepsCustomers it.tree new) where
  abbrev changed : Kept
  changed = record kept { trees = others; peers = peers }

  abbrev pairs : AllZip (Stands R) (trees_of kept) (trees_of changed)
  pairs = zipped R (vrfs_from kept.home.me 0 kept.home.scenario.vrfs) kept.trees others zip

  -- all that is not of the peers stays
  pub routes_are : control_of changed ≡ record (control_of kept) { peers = peers }
  routes_are = same_control _ _
      (same_entries _ _ (λ at.
      entries_gathered changed at
      ∙ gathered_zip None option_or (Stands R) (entry_in at) (entry_in at)
      (λ it new s. ap (λ (m : Entries). maps.get m at) (customers it new.tree s.is).entries) (trees_of kept) (trees_of changed) pairs
      ∙ sym (entries_gathered kept at)))
      (same_notes _ _ (λ note.
      notes_gathered changed note
      ∙ gathered_zip false (λ a b. a || b) (Stands R) (note_in (tree_note note)) (note_in (tree_note note))
      (λ it new s. ap (λ (m : FinSet tree_keys.note_cmp). sets.contains m (tree_note note)) (customers it new.tree s.is).notes) (trees_of kept)
      (trees_of changed) pairs
      ∙ sym (notes_gathered kept note)))
      (same_selections _ _ (λ key.
      selections_gathered changed key
      ∙ gathered_zip None option_or (Stands R) (selected_in key) (selected_in key)
      (λ it new s i. cond (((s.own i).id.0) == key.vrf.0)
      (option_map selected_of (find (is_of key.pattern) ((customers it new.tree s.is).selections i))) None) (trees_of kept) (trees_of changed)
      pairs
      ∙ sym (selections_gathered kept key)))
      (same_flows _ _ (λ key.
      flows_gathered changed key
      ∙ gathered_zip None option_or (Stands R) (choice_in key) (choice_in key)
      (λ it new s i. cond (((s.own i).id.0) == key.vrf.0) (option_map upstream_by (maps.get ((customers it new.tree s.is).flows i) (flow_of key)))
      None) (trees_of kept) (trees_of changed) pairs
      ∙ sym (flows_gathered kept key)))
      refl

  pub routes_between : AreFull kept → ((core : Core) (it : OwnTree) (new : TreeData) → Among it (trees_of kept) → R it new
      → IsTreeBetween (place_of kept.home core) (record (control_of kept) { peers = peers }) it.own new) → AreTreesBetween changed
  routes_between full each =
      let whole = zip_full kept R others full zip in
      between_together changed (record { full = whole.full; all = whole.all }) (λ new a.
      let (it, among, s) = zip_back (Stands R) (trees_of kept) (trees_of changed) pairs new a in
      subst (IsPart kept.home peers) (λ i. record { own = sym s.own i; tree = new.tree })
      (part_between kept peers (with it new.tree) (λ core. each core it new.tree among s.is)))

pub routes_make : (kept : Kept) (peers : FinMap node_cmp Taken) (others : List TreeData) → AreTreesBetween kept
    → AllZip (HasRoutes kept peers) (trees_of kept) others
    → MakesBetween (record kept { trees = others; peers = peers }) (record (control_of kept) { peers = peers })
routes_make kept peers others between zip = record {
  is = routes_are kept peers others (HasRoutes kept peers) zip (λ it new h. h.customers);
  trees = routes_between kept peers others (HasRoutes kept peers) zip (λ it new h. h.customers) (full_between kept between)
      (λ core it new a h. h.tree core);
}

-- ---- trees after a refresh

upstream_again : (o : Option (Option Upstream)) → option_map upstream_by (option_map choice_of o) ≡ o
upstream_again None = refl
upstream_again (Some None) = refl
upstream_again (Some (Some (Site site))) = refl
upstream_again (Some (Some (Remote edge rd import source_as))) = refl

module _ (kept : Kept) (core : Core) (now : ℕ) (others : List TreeData) (zip : AllZip (IsRefreshed (core.cost kept.home.me) now) kept.trees others)
    (full : AreFull kept) where
  abbrev place : EdgePlace
  place = place_of kept.home core

  abbrev thereafter : Kept
  thereafter = record kept { trees = others }

  abbrev Refreshed : OwnTree → TreeData → Type 0
  Refreshed it new = IsRefreshed (core.cost kept.home.me) now it.tree new

  by_trees : AllZip Refreshed (trees_of kept) others
  by_trees = zip_map (IsRefreshed (core.cost kept.home.me) now) (λ (it : OwnTree). it.tree) (trees_of kept) others
      (subst (λ (trees : List TreeData). AllZip (IsRefreshed (core.cost kept.home.me) now) trees others) (sym full.full) zip)

  abbrev refreshed_pairs : AllZip (Stands Refreshed) (trees_of kept) (trees_of thereafter)
  refreshed_pairs = zipped Refreshed (vrfs_from kept.home.me 0 kept.home.scenario.vrfs) kept.trees others by_trees

  is_with : (it new : OwnTree) → Stands Refreshed it new → with it (with_flows it.tree new.tree.vrf.flows) ≡ new
  is_with it new s = λ i. record { own = sym s.own i; tree = sym (s.is.rest) i }

  refreshed_parts : AreParts kept → AreParts thereafter
  refreshed_parts parts new a =
      let (it, among, s) = zip_back (Stands Refreshed) (trees_of kept) (trees_of thereafter) refreshed_pairs new a in
      let part = parts it among in
      subst (IsPart kept.home kept.peers) (is_with it new s)
      (record { entries = part.entries; notes = part.notes; selections = part.selections; derived = part.derived })

  refreshed_wants : AreWanting thereafter
  refreshed_wants new a =
      let (it, among, s) = zip_back (Stands Refreshed) (trees_of kept) (trees_of thereafter) refreshed_pairs new a in
      subst Wants (is_with it new s) refl

  refreshed_full : AreFull thereafter
  refreshed_full = zip_full kept Refreshed others full by_trees

  module _ (parts : AreParts kept) (told : (it : OwnTree) → Among it (trees_of kept) → (flow : Flow)
      → tree_flows.flow_of it.tree.vrf (core.cost kept.home.me) now flow
      ≡ option_map choice_of (maps.get (flows_at place now (control_of kept)) (flow_in it.own.id flow))) where
    -- the flow of a VRF of the edge
    flow_told : (new : OwnTree) → Among new (trees_of thereafter) → (flow : Flow)
        → maps.get (control_of thereafter).flows (flow_in new.own.id flow) ≡ maps.get (flows_at place now (control_of kept)) (flow_in new.own.id flow)
    flow_told new a flow =
        let (it, among, s) = zip_back (Stands Refreshed) (trees_of kept) (trees_of thereafter) refreshed_pairs new a in
        flow_at thereafter (refreshed_parts parts) new a flow ∙ ap (option_map upstream_by) (s.is.flows flow ∙ told it among flow)
        ∙ upstream_again (maps.get (flows_at place now (control_of kept)) (flow_in it.own.id flow))
        ∙ ap (λ (own : OwnVrf). maps.get (flows_at place now (control_of kept)) (flow_in own.id flow)) (sym s.own)

    -- a flow of another VRF is none
    none_at : (key : VrfFlow) → ((new : OwnTree) → Among new (trees_of thereafter) → (new.own.id.0 == key.vrf.0) ≡ false) → (o : Option (Option Upstream))
        → maps.get (flows_at place now (control_of kept)) key ≡ o → o ≡ None
    none_at key h None e = refl
    none_at key h (Some up) e =
        let asked = is_asked place now (control_of kept) key up e in
        let (new, among, is) =
        map_among (λ (it : OwnTree). it.own) asked.own (trees_of thereafter) (subst (Among asked.own) (sym refreshed_full.all) asked.of_edge) in
        absurd (not_both (new.own.id.0 == key.vrf.0)
        (eq-eqb new.own.id.0 key.vrf.0 (ap (λ (own : OwnVrf). own.id.0) (sym is) ∙ ap (λ (v : VrfId). v.0) asked.of_flow)) (h new among))

    flows_are : (key : VrfFlow) → maps.get (control_of thereafter).flows key ≡ maps.get (flows_at place now (control_of kept)) key
    flows_are key = by (or_not options (λ (own : OwnVrf). own.id.0 == key.vrf.0) (of_number key.vrf.0) (choice_in key) (trees_of thereafter))
      where
        by : ((new : OwnTree) × Among new (trees_of thereafter) × ((new.own.id.0 == key.vrf.0) ≡ true))
            ⊎ ((new : OwnTree) → Among new (trees_of thereafter) → (new.own.id.0 == key.vrf.0) ≡ false)
            → maps.get (control_of thereafter).flows key ≡ maps.get (flows_at place now (control_of kept)) key
        by (inl found) =
            let number = eqb-true found.0.own.id.0 key.vrf.0 found.2 in
            let here : flow_in found.0.own.id (flow_of key) ≡ key =
            λ i. record { vrf = record { 0 = number i }; source = key.source; group = key.group } in
            subst (λ (k : VrfFlow). maps.get (control_of thereafter).flows k ≡ maps.get (flows_at place now (control_of kept)) k) here
            (flow_told found.0 found.1 (flow_of key))
        by (inr none) =
            flow_nowhere thereafter (refreshed_parts parts) key none ∙ sym (none_at key none (maps.get (flows_at place now (control_of kept)) key) refl)

    pub refreshed_makes : Makes thereafter (refreshed place now (control_of kept))
    refreshed_makes = record {
      is = same_control _ _
          (same_entries _ _ (λ at.
          entries_gathered thereafter at
          ∙ gathered_zip None option_or (Stands Refreshed) (entry_in at) (entry_in at) (λ it new s i. maps.get ((s.is.rest i).vrf.entries) at)
          (trees_of kept) (trees_of thereafter) refreshed_pairs
          ∙ sym (entries_gathered kept at)))
          (same_notes _ _ (λ note.
          notes_gathered thereafter note
          ∙ gathered_zip false (λ a b. a || b) (Stands Refreshed) (note_in (tree_note note)) (note_in (tree_note note))
          (λ it new s i. sets.contains ((s.is.rest i).vrf.notes) (tree_note note)) (trees_of kept) (trees_of thereafter) refreshed_pairs
          ∙ sym (notes_gathered kept note)))
          (same_selections _ _ (λ key.
          selections_gathered thereafter key
          ∙ gathered_zip None option_or (Stands Refreshed) (selected_in key) (selected_in key)
          (λ it new s i. cond (((s.own i).id.0) == key.vrf.0) (option_map selected_of (find (is_of key.pattern) ((s.is.rest i).root.selections)))
          None) (trees_of kept) (trees_of thereafter) refreshed_pairs
          ∙ sym (selections_gathered kept key)))
          (same_flows _ _ flows_are)
          refl;
      trees = trees_together thereafter refreshed_full (refreshed_parts parts) refreshed_wants;
    }

  -- where the scenario meets its rules, the peers are nodes of it, and prefixes are whole
  pub trees_refreshed : AreTreesBetween kept → Rules kept.home.scenario → AreNodes place (control_of kept)
      → ((own : OwnVrf) → Among own (own_vrfs place) → AreWhole (known_routes place (control_of kept) own))
      → Makes thereafter (refreshed place now (control_of kept))
  trees_refreshed between rules nodes whole =
      refreshed_makes (parts_between kept between) (λ it a flow.
      let own = subst (Among it.own) full.all (among_map (λ (o : OwnTree). o.own) it (trees_of kept) a) in
      looked_up place now (control_of kept) it.own (as_wanted it.tree) flow own (between_at kept between core it a) rules nodes (whole it.own own))

-- a refresh after the effect of a call is its step
pub step_is : (old between new : Kept) (core : Core) (now : ℕ) (call : Call) → is_vrf_step call ≡ true
    → control_of between ≡ effect (place_of old.home core) now (control_of old) call
    → Makes new (refreshed (place_of old.home core) now (control_of between))
    → Makes new (control_step (place_of old.home core) now (control_of old) call)
step_is old between new core now call step is makes =
    let place = place_of old.home core in
    let own : Control = effect place now (control_of old) call in
    record {
      is = makes.is ∙ ap (refreshed place now) is ∙ sym (ap (λ (b : Bool). refreshed_if b place now own) step);
      trees = makes.trees;
    }

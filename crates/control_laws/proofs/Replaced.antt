-- What an edge keeps where the tree of one VRF is another, or that of each.
use Rattle.std.proofs.Common.{◌≡◌, ℕ, ◌==◌, ◌||◌, Bool, true, false, cond, inl, inr, List, [], ◌∷◌, ◌++◌, length, length-set, map, find, slice_get, slice_set, Option, Some, None, option_map, refl, sym, ap, subst, ◌∙◌}
use Rattle.std.specs.FinMap as maps
use Rattle.std.specs.Option.{option_or}
use Rattle.std.specs.FinMap.{FinMap}
use Rattle.std.specs.FinSet as sets
use Rattle.std.specs.FinSet.{FinSet}
use Rattle.std.proofs.lemmas.List.{length-map}
use Rattle.mv_base.specs.Lists.{Among}
use Rattle.pim_defs.specs.Entries.{Entries}
use Rattle.pim_defs.proofs.KeyLemmas.{entry_cmp_total, entry_cmp_exact}
use Rattle.scenario_defs.specs.declared.event.IfaceEntry.{IfaceEntry}
use Rattle.selective_defs.specs.declared.selection.Selection.{Selection}
use Rattle.selective.specs.Roots.{is_of}
use Rattle.umh_select.specs.declared.route.Choice.{Choice}
use Rattle.vrf_words.specs.tree_defs.Keys as tree_keys
use Rattle.vrf_words.specs.tree_defs.Trees.{TreeData}
use Rattle.edge_defs.specs.Edge.{Note, VrfPattern, Selected, VrfFlow, Upstream, Control, note_cmp, pattern_cmp, flow_cmp}
use Rattle.edge_defs.specs.Originated.{is_iface_of}
use Rattle.edge_defs.specs.Place.{OwnVrf, vrfs_from}
use Rattle.edge_defs.proofs.KeyLemmas.{note_total, note_exact, pattern_total, pattern_exact, flow_total, flow_exact}
use Rattle.vrf_words.proofs.edge_words.calm_laws.Lists.{among_after, map_among}
use Rattle.control_laws.specs.Control.{Kept, OwnTree, trees_of, upstream_by, control_of, AreTrees, with_tree, with_trees}
use Rattle.control_laws.proofs.Gathered.{gathered, HasNone, gathered_same, gathered_alike, gathered_map, options, truths}
use Rattle.control_laws.proofs.Owned.{AreApart, IsOneOf, one_of, paired, with, IsOfOne, of_number, IsOwned, all_changed, all_through, trees_map}
use Rattle.control_laws.proofs.Together.{tree_note, flow_of, selected_of, entry_in, note_in, choice_in, selected_in, entries_gathered, notes_gathered, flows_gathered, selections_gathered}
use Rattle.control_laws.proofs.Parts.{IsPart, AreParts, AreFull, Wants, wants_of, apart, of_iface, no_flow, no_selection, trees_together, parts_of, full_of}

-- ---- what is kept, field by field

pub same_control : (a b : Control) → a.entries ≡ b.entries → a.notes ≡ b.notes → a.selections ≡ b.selections → a.flows ≡ b.flows → a.peers ≡ b.peers
    → a ≡ b
same_control a b entries notes selections flows peers =
    λ i. record { entries = entries i; notes = notes i; selections = selections i; flows = flows i; peers = peers i }

pub same_entries : (a b : Entries) → ((at : IfaceEntry) → maps.get a at ≡ maps.get b at) → a ≡ b
same_entries = maps.same_map entry_cmp_total entry_cmp_exact

pub same_notes : (a b : FinSet note_cmp) → ((note : Note) → sets.contains a note ≡ sets.contains b note) → a ≡ b
same_notes = sets.same_set note_total note_exact

pub same_selections : (a b : FinMap pattern_cmp Selected) → ((at : VrfPattern) → maps.get a at ≡ maps.get b at) → a ≡ b
same_selections = maps.same_map pattern_total pattern_exact

pub same_flows : (a b : FinMap flow_cmp (Option Upstream)) → ((at : VrfFlow) → maps.get a at ≡ maps.get b at) → a ≡ b
same_flows = maps.same_map flow_total flow_exact

-- ---- one tree is another

-- the same VRFs, each with a tree
pub still_full : (kept : Kept) (others : List TreeData) → AreFull kept → length others ≡ length kept.trees → AreFull (record kept { trees = others })
still_full kept others full e =
    let both = paired (vrfs_from kept.home.me 0 kept.home.scenario.vrfs) kept.trees others full.all full.full e in
    record { full = both.1; all = both.0 }

test_twice : {X : Type 0} (b : Bool) (x y z : X) → cond b (cond b x y) z ≡ cond b x z
test_twice true x y z = refl
test_twice false x y z = refl

module _ (kept : Kept) (number : ℕ) (it : OwnTree) (at_number : slice_get (trees_of kept) number ≡ Some it) where
  abbrev one : IsOneOf (vrfs_from kept.home.me 0 kept.home.scenario.vrfs) kept.trees number it
  one = one_of (vrfs_from kept.home.me 0 kept.home.scenario.vrfs) kept.trees number it at_number

  pub it_among : Among it (trees_of kept)
  it_among = subst (Among it) (sym one.is) (among_after it one.before (it ∷ one.after) (inl refl))

  module _ (tree : TreeData) where
    stays : {X : Type 0} (none : X) (or : X → X → X) (own : OwnTree → X) → own (with it tree) ≡ own it
        → gathered none or own (trees_of (with_tree number tree kept)) ≡ gathered none or own (trees_of kept)
    stays none or own e =
        ap (gathered none or own) (one.changed tree) ∙ gathered_same none or own one.before (with it tree) it one.after e
        ∙ ap (gathered none or own) (sym one.is)

    -- what the tree has as before the edge has as before
    pub entries_stay : tree.vrf.entries ≡ it.tree.vrf.entries → (control_of (with_tree number tree kept)).entries ≡ (control_of kept).entries
    entries_stay e =
        same_entries _ _ (λ at. entries_gathered (with_tree number tree kept) at
        ∙ stays None option_or (entry_in at) (ap (λ (m : Entries). maps.get m at) e) ∙ sym (entries_gathered kept at))

    pub notes_stay : tree.vrf.notes ≡ it.tree.vrf.notes → (control_of (with_tree number tree kept)).notes ≡ (control_of kept).notes
    notes_stay e = same_notes _ _ (λ note.
        notes_gathered (with_tree number tree kept) note
        ∙ stays false (λ a b. a || b) (note_in (tree_note note)) (ap (λ (m : FinSet tree_keys.note_cmp). sets.contains m (tree_note note)) e)
        ∙ sym (notes_gathered kept note))

    pub flows_stay : tree.vrf.flows ≡ it.tree.vrf.flows → (control_of (with_tree number tree kept)).flows ≡ (control_of kept).flows
    flows_stay e = same_flows _ _ (λ key.
        flows_gathered (with_tree number tree kept) key
        ∙ stays None option_or (choice_in key) (ap (λ (m : FinMap tree_keys.flow_cmp Choice). cond (it.own.id.0 == key.vrf.0)
        (option_map upstream_by (maps.get m (flow_of key))) None) e)
        ∙ sym (flows_gathered kept key))

    pub selections_stay : tree.root.selections ≡ it.tree.root.selections
        → (control_of (with_tree number tree kept)).selections ≡ (control_of kept).selections
    selections_stay e = same_selections _ _ (λ key.
        selections_gathered (with_tree number tree kept) key
        ∙ stays None option_or (selected_in key) (ap
        (λ (l : List Selection). cond (it.own.id.0 == key.vrf.0) (option_map selected_of (find (is_of key.pattern) l)) None) e)
        ∙ sym (selections_gathered kept key))

  -- what holds of each tree, and of the new one, holds of each then
  each_then : (P : OwnTree → Type 0) (tree : TreeData) → ((other : OwnTree) → Among other (trees_of kept) → P other) → P (with it tree)
      → (other : OwnTree) → Among other (trees_of (with_tree number tree kept)) → P other
  each_then P tree old new other a = by one.before (λ o b. old o (subst (Among o) (sym one.is) b)) (subst (Among other) (one.changed tree) a)
    where
      by : (before : List OwnTree) → ((o : OwnTree) → Among o (before ++ it ∷ one.after) → P o) → Among other (before ++ with it tree ∷ one.after)
          → P other
      by [] old (inl e) = subst P (sym e) new
      by [] old (inr b) = old other (inr b)
      by (first ∷ before) old (inl e) = old other (inl e)
      by (first ∷ before) old (inr b) = by before (λ o c. old o (inr c)) b

  pub one_full : (tree : TreeData) → AreFull kept → AreFull (with_tree number tree kept)
  one_full tree full = still_full kept (slice_set kept.trees number tree) full (length-set kept.trees number tree)

  pub one_parts : (tree : TreeData) → AreParts kept → IsPart kept.home kept.peers (with it tree) → AreParts (with_tree number tree kept)
  one_parts tree = each_then (IsPart kept.home kept.peers) tree

  -- the trees are those of what they make together again
  pub one_trees : (tree : TreeData) → AreTrees kept → IsPart kept.home kept.peers (with it tree) → Wants (with it tree)
      → AreTrees (with_tree number tree kept)
  one_trees tree trees part wants =
      trees_together (with_tree number tree kept) (one_full tree (full_of kept trees)) (one_parts tree (parts_of kept trees) part)
      (each_then Wants tree (wants_of kept trees) wants)

  module _ (tree : TreeData) (parts : AreParts kept) (part : IsPart kept.home kept.peers (with it tree)) where
    abbrev new : Kept
    new = with_tree number tree kept

    changed : {X : Type 0} {none : X} {or : X → X → X} (laws : HasNone none or) (test : OwnVrf → Bool) (of_one : IsOfOne test) (own : OwnTree → X)
        → ((other : OwnTree) → IsPart kept.home kept.peers other → IsOwned laws test of_one own other)
        → gathered none or own (trees_of new) ≡ cond (test it.own) (own (with it tree)) (gathered none or own (trees_of kept))
    changed {none = none} {or = or} laws test of_one own owned =
        ap (gathered none or own) (one.changed tree)
        ∙ all_changed laws test of_one own one.before it one.after tree (subst AreApart one.is (apart kept))
        (subst AreApart (one.changed tree) (apart new))
        (λ other a. owned other (parts other (subst (Among other) (sym one.is) a)))
        (λ other a. owned other (one_parts tree parts part other (subst (Among other) (sym (one.changed tree)) a)))
        ∙ ap (λ (xs : List OwnTree). cond (test it.own) (own (with it tree)) (gathered none or own xs)) (sym one.is)

    -- what is of the VRF is the new tree's, and all else is as before
    pub entry_then : (at : IfaceEntry) → maps.get (control_of new).entries at
        ≡ cond (is_iface_of kept.home.scenario it.own.id at.iface) (maps.get tree.vrf.entries at) (maps.get (control_of kept).entries at)
    entry_then at =
        entries_gathered new at
        ∙ changed options (λ (own : OwnVrf). is_iface_of kept.home.scenario own.id at.iface) (of_iface kept.home.scenario at.iface) (entry_in at)
        (λ other p. p.entries at)
        ∙ ap (cond (is_iface_of kept.home.scenario it.own.id at.iface) (maps.get tree.vrf.entries at)) (sym (entries_gathered kept at))

    pub note_then : (note : Note) → sets.contains (control_of new).notes note
        ≡ cond (is_iface_of kept.home.scenario it.own.id note.iface) (sets.contains tree.vrf.notes (tree_note note))
        (sets.contains (control_of kept).notes note)
    note_then note =
        notes_gathered new note
        ∙ changed truths (λ (own : OwnVrf). is_iface_of kept.home.scenario own.id note.iface) (of_iface kept.home.scenario note.iface)
        (note_in (tree_note note)) (λ other p. p.notes (tree_note note))
        ∙ ap (cond (is_iface_of kept.home.scenario it.own.id note.iface) (sets.contains tree.vrf.notes (tree_note note)))
        (sym (notes_gathered kept note))

    pub flow_then : (key : VrfFlow) → maps.get (control_of new).flows key
        ≡ cond (it.own.id.0 == key.vrf.0) (option_map upstream_by (maps.get tree.vrf.flows (flow_of key))) (maps.get (control_of kept).flows key)
    flow_then key =
        flows_gathered new key
        ∙ changed options (λ (own : OwnVrf). own.id.0 == key.vrf.0) (of_number key.vrf.0) (choice_in key) (λ other p. no_flow kept parts key other)
        ∙ test_twice (it.own.id.0 == key.vrf.0) (option_map upstream_by (maps.get tree.vrf.flows (flow_of key))) None
        (gathered None option_or (choice_in key) (trees_of kept))
        ∙ ap (cond (it.own.id.0 == key.vrf.0) (option_map upstream_by (maps.get tree.vrf.flows (flow_of key)))) (sym (flows_gathered kept key))

    pub selection_then : (key : VrfPattern) → maps.get (control_of new).selections key
        ≡ cond (it.own.id.0 == key.vrf.0) (option_map selected_of (find (is_of key.pattern) tree.root.selections))
        (maps.get (control_of kept).selections key)
    selection_then key =
        selections_gathered new key
        ∙ changed options (λ (own : OwnVrf). own.id.0 == key.vrf.0) (of_number key.vrf.0) (selected_in key)
        (λ other p. no_selection kept parts key other)
        ∙ test_twice (it.own.id.0 == key.vrf.0) (option_map selected_of (find (is_of key.pattern) tree.root.selections)) None
        (gathered None option_or (selected_in key) (trees_of kept))
        ∙ ap (cond (it.own.id.0 == key.vrf.0) (option_map selected_of (find (is_of key.pattern) tree.root.selections)))
        (sym (selections_gathered kept key))

-- ---- each tree is another

module _ (kept : Kept) (change : TreeData → TreeData) where
  abbrev changed_it : OwnTree → OwnTree
  changed_it it = with it (change it.tree)

  abbrev all_new : Kept
  all_new = with_trees change kept

  pub all_its : trees_of all_new ≡ map changed_it (trees_of kept)
  all_its = trees_map change (vrfs_from kept.home.me 0 kept.home.scenario.vrfs) kept.trees

  pub all_full : AreFull kept → AreFull all_new
  all_full full = still_full kept (map change kept.trees) full (length-map kept.trees change)

  pub all_each : (P : OwnTree → Type 0) → ((it : OwnTree) → Among it (trees_of kept) → P (changed_it it)) → (other : OwnTree)
      → Among other (trees_of all_new) → P other
  all_each P each other a =
      let (it, among, is) = map_among changed_it other (trees_of kept) (subst (Among other) all_its a) in
      subst P (sym is) (each it among)

  pub all_gathered : {X : Type 0} (none : X) (or : X → X → X) (own : OwnTree → X)
      → gathered none or own (trees_of all_new) ≡ gathered none or (λ it. own (changed_it it)) (trees_of kept)
  all_gathered none or own = ap (gathered none or own) all_its ∙ gathered_map none or own changed_it (trees_of kept)

  all_stay : {X : Type 0} (none : X) (or : X → X → X) (own : OwnTree → X) → ((it : OwnTree) → own (changed_it it) ≡ own it)
      → gathered none or own (trees_of all_new) ≡ gathered none or own (trees_of kept)
  all_stay none or own same = all_gathered none or own ∙ gathered_alike none or (λ it. own (changed_it it)) own (trees_of kept) (λ it a. same it)

  pub all_entries_stay : ((tree : TreeData) → (change tree).vrf.entries ≡ tree.vrf.entries) → (control_of all_new).entries ≡ (control_of kept).entries
  all_entries_stay same =
      same_entries _ _ (λ at. entries_gathered all_new at
      ∙ all_stay None option_or (entry_in at) (λ it. ap (λ (m : Entries). maps.get m at) (same it.tree)) ∙ sym (entries_gathered kept at))

  pub all_notes_stay : ((tree : TreeData) → (change tree).vrf.notes ≡ tree.vrf.notes) → (control_of all_new).notes ≡ (control_of kept).notes
  all_notes_stay same = same_notes _ _ (λ note.
      notes_gathered all_new note ∙ all_stay false (λ a b. a || b) (note_in (tree_note note))
      (λ it. ap (λ (m : FinSet tree_keys.note_cmp). sets.contains m (tree_note note)) (same it.tree))
      ∙ sym (notes_gathered kept note))

  pub all_flows_stay : ((tree : TreeData) → (change tree).vrf.flows ≡ tree.vrf.flows) → (control_of all_new).flows ≡ (control_of kept).flows
  all_flows_stay same = same_flows _ _ (λ key.
      flows_gathered all_new key
      ∙ all_stay None option_or (choice_in key) (λ it. ap
      (λ (m : FinMap tree_keys.flow_cmp Choice). cond (it.own.id.0 == key.vrf.0) (option_map upstream_by (maps.get m (flow_of key))) None)
      (same it.tree))
      ∙ sym (flows_gathered kept key))

  pub all_selections_stay : ((tree : TreeData) → (change tree).root.selections ≡ tree.root.selections)
      → (control_of all_new).selections ≡ (control_of kept).selections
  all_selections_stay same = same_selections _ _ (λ key.
      selections_gathered all_new key
      ∙ all_stay None option_or (selected_in key) (λ it. ap
      (λ (l : List Selection). cond (it.own.id.0 == key.vrf.0) (option_map selected_of (find (is_of key.pattern) l)) None) (same it.tree))
      ∙ sym (selections_gathered kept key))

  -- what the change makes of the part of each it makes of all of it
  pub all_by : {X : Type 0} {none : X} {or : X → X → X} (laws : HasNone none or) (test : OwnVrf → Bool) (of_one : IsOfOne test) (own : OwnTree → X)
      (by : X → X) → by none ≡ none
      → ((it : OwnTree) → Among it (trees_of kept) → IsOwned laws test of_one own it)
      → ((it : OwnTree) → Among it (trees_of kept) → own (changed_it it) ≡ by (own it))
      → gathered none or own (trees_of all_new) ≡ by (gathered none or own (trees_of kept))
  all_by {none = none} {or = or} laws test of_one own by nothing owned each =
      all_gathered none or own ∙ gathered_alike none or (λ it. own (changed_it it)) (λ it. by (own it)) (trees_of kept) each
      ∙ all_through laws test of_one own (trees_of kept) (apart kept) owned by nothing

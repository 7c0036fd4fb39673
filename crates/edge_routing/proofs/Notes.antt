-- The notes of a source and a group at the interfaces of a VRF, and what peers are to have after the end of one.
use Rattle.std.proofs.Common.{◌≡◌, ◌&&◌, Bool, true, false, not, refl, sym, ap, subst, ◌∙◌}
use Rattle.std.specs.Ordering.{eq_by_cmp}
use Rattle.std.specs.FinSet as sets
use Rattle.std.proofs.lemmas.Bool.{and_parts, and_from}
use Rattle.mv_base.specs.Lists.{Among}
use Rattle.mv_base.specs.declared.addr.Addr.{Addr}
use Rattle.mv_base.specs.declared.ids.IfaceId.{IfaceId}
use Rattle.mv_base.specs.core_walks.Core.{Core}
use Rattle.scenario_defs.specs.Rules.{Rules}
use Rattle.table_laws.proofs.CompareLemmas.{own_key, other_key}
use Rattle.vrf_words.specs.declared.tree_defs.flow.Flow.{Flow}
use Rattle.vrf_words.specs.declared.tree_defs.flow.Note.{Note}
use Rattle.vrf_words.specs.tree_defs.Flows.{is_noted}
use Rattle.vrf_words.specs.tree_defs.Keys.{same_flow}
use Rattle.vrf_words.specs.tree_defs.Trees.{TreeData}
use Rattle.vrf_words.proofs.tree_defs.KeyLemmas as trees
use Rattle.edge_defs.specs.Edge as edges
use Rattle.edge_defs.specs.Edge.{Control, note_cmp}
use Rattle.edge_defs.specs.Originated.{is_iface_of}
use Rattle.edge_defs.specs.Place.{EdgePlace, OwnVrf, own_vrfs}
use Rattle.edge_defs.proofs.KeyLemmas.{note_total, note_exact}
use Rattle.edge_routes.specs.edge_home.Home.{Home, as_own, place_of}
use Rattle.edge_routes.specs.declared.edge_home.own_vrf.OwnVrf as homes
use Rattle.edge_control.specs.edge_tables.Tables.{Tables}
use Rattle.edge_words.proofs.calm_laws.Lists.{any_among, any_from, not_both}
use Rattle.edge_words.specs.held_laws.Held.{IsNotedBeside, note_of, without_note}
use Rattle.edge_words.proofs.held_laws.Calls.{unnoted_beside}
use Rattle.vrf_words.specs.tree_laws.TreeOf.{IsTreeOf, edge_note}
use Rattle.vrf_words.proofs.tree_laws.Asking.{contained_item, item_contained}
use Rattle.control_laws.specs.Control.{Kept, control_of}
use Rattle.control_laws.specs.Peers.{as_wanted}
use Rattle.edge_control.specs.Places.{IsTreeAt}
use Rattle.edge_control.specs.Sound.{IsSound}
use Rattle.edge_control.proofs.SoundLemmas.{tree_between}
use Rattle.held_tables.specs.Holding.{HoldAll}

-- ---- notes after the end of one

not_tied : (b : Bool) → not b ≡ true → b ≡ true → ⊥
not_tied true h k = absurd (let bad : false ≡ true = h in cc)
not_tied false h k = absurd (let bad : false ≡ true = k in cc)

untied : (b : Bool) → b ≡ false → not b ≡ true
untied b h = ap not h

module _ (place : EdgePlace) (old now : Control) (own : OwnVrf) (tree : TreeData) (is : IsTreeOf place now own tree) (iface : IfaceId)
    (source group : Addr)
    (ended : now ≡ without_note old (note_of iface source group)) where
  abbrev flow : Flow
  flow = record { source = source; group = group }

  abbrev note : edges.Note
  note = note_of iface source group

  noted_now : (n : edges.Note) → sets.contains now.notes n ≡ (not (eq_by_cmp note_cmp n note) && sets.contains old.notes n)
  noted_now n = ap (λ (c : Control). sets.contains c.notes n) ended ∙ sets.contains-remove note_total old.notes note n

  -- a note that the tree has of the flow is one of the edge besides
  noted_beside : is_noted tree.vrf.notes flow ≡ true → IsNotedBeside place old own note
  noted_beside h =
      let found = any_among (λ (n : Note). same_flow n.flow flow) (sets.items tree.vrf.notes) h in
      let same : found.0.flow ≡ flow = trees.same_flow_equal found.0.flow flow found.2 in
      let at : IfaceId = found.0.iface in
      let both = and_parts (is_iface_of place.scenario own.id at) (sets.contains now.notes (edge_note found.0))
      (sym (is.notes found.0) ∙ item_contained trees.note_total trees.note_exact tree.vrf.notes found.0 found.1) in
      let there : sets.contains now.notes (note_of at source group) ≡ true =
      ap (λ (f : Flow). sets.contains now.notes (edge_note (record { iface = at; flow = f }))) (sym same) ∙ both.1 in
      let parts =
      and_parts (not (eq_by_cmp note_cmp (note_of at source group) note)) (sets.contains old.notes (note_of at source group))
      (sym (noted_now (note_of at source group)) ∙ there) in
      record {
        iface = at;
        of_vrf = both.0;
        other = λ e. not_tied (eq_by_cmp note_cmp (note_of at source group) note) parts.0
            (ap (λ (i : IfaceId). eq_by_cmp note_cmp (note_of i source group) note) e ∙ own_key note_total note);
        noted = parts.1;
      }

  -- where the tree has none, there is none
  none_beside : is_noted tree.vrf.notes flow ≡ false → IsNotedBeside place old own note → ⊥
  none_beside h beside =
      let n : edges.Note = note_of beside.iface source group in
      let apart : eq_by_cmp note_cmp n note ≡ false = other_key note_exact n note (λ e. beside.other (ap (λ (m : edges.Note). m.iface) e)) in
      let there : sets.contains now.notes n ≡ true = noted_now n ∙ and_from _ _ (untied (eq_by_cmp note_cmp n note) apart) beside.noted in
      let kept : Note = record { iface = beside.iface; flow = flow } in
      not_both (is_noted tree.vrf.notes flow)
      (any_from (λ (m : Note). same_flow m.flow flow) kept (sets.items tree.vrf.notes)
      (contained_item trees.note_total trees.note_exact tree.vrf.notes kept (is.notes kept ∙ and_from _ _ beside.of_vrf there))
      (trees.same_flow_itself flow)) h

  -- Where the tree has another note of the flow, tables hold what they held.
  still_held : Rules place.scenario → Among own (own_vrfs place) → is_iface_of place.scenario own.id iface ≡ true
      → is_noted tree.vrf.notes flow ≡ true → (tables : Tables)
      → HoldAll place old tables → HoldAll place now tables
  still_held rules a of h tables hold =
      subst (λ (c : Control). HoldAll place c tables) (sym ended)
      (λ peer table at. hold peer table at ∙ sym (unnoted_beside place rules peer old own a iface source group of (noted_beside h)))

-- ---- what is kept after the end of a note

module _ (kept : Kept) (shown : Home) (own : homes.OwnVrf) (tree : TreeData) (same : shown ≡ kept.home) (sound : IsSound kept)
    (at : IsTreeAt kept own.id tree)
    (among : (core : Core) → Among (as_own own) (own_vrfs (place_of shown core))) (iface : IfaceId)
    (of : is_iface_of shown.scenario own.id iface ≡ true) (source group : Addr)
    (walks : Core) (old : Control) (ended : control_of kept ≡ without_note old (note_of iface source group)) where
  abbrev place : EdgePlace
  place = place_of kept.home walks

  own_among : Among (as_own own) (own_vrfs place)
  own_among = subst (λ (h : Home). Among (as_own own) (own_vrfs (place_of h walks))) same (among walks)

  tree_of_own : IsTreeOf place (control_of kept) (as_own own) (as_wanted tree)
  tree_of_own = tree_between kept walks (as_own own).id tree (as_own own) sound at own_among refl

  pub held_still : is_noted tree.vrf.notes (record { source = source; group = group }) ≡ true → (tables : Tables) → HoldAll place old tables
      → HoldAll place (control_of kept) tables
  held_still h tables hold =
      still_held place old (control_of kept) (as_own own) (as_wanted tree) tree_of_own iface source group ended sound.home.rules own_among
      (subst (λ (x : Home). is_iface_of x.scenario own.id iface ≡ true) same of) h tables hold

  pub alone : is_noted tree.vrf.notes (record { source = source; group = group }) ≡ false
      → IsNotedBeside place old (as_own own) (note_of iface source group) → ⊥
  alone h beside = none_beside place old (control_of kept) (as_own own) (as_wanted tree) tree_of_own iface source group ended h beside

  pub held_without : (tables : Tables) → HoldAll place (without_note old (note_of iface source group)) tables → HoldAll place (control_of kept) tables
  held_without tables hold = subst (λ (c : Control). HoldAll place c tables) (sym ended) hold

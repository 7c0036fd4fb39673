-- What an edge keeps after a refresh of its trees.
use Rattle.std.proofs.Common.{◌≡◌, ◌⊎◌, ℕ, ◌<◌, ◌==◌, ◌||◌, true, false, cond, inl, inr, List, [], ◌∷◌, find, length, is_some, Option, None, Some, option_map, refl, sym, ap, subst, ◌∙◌}
use Rattle.std.specs.List.{AllByRecursion, AllZip}
use Rattle.std.specs.Option.{option_or}
use Rattle.std.specs.FinMap as maps
use Rattle.std.specs.FinSet as sets
use Rattle.std.proofs.lemmas.Bool.{eqb-true}
use Rattle.std.proofs.lemmas.Option.{slice_get_within}
use Rattle.mv_base.specs.Lists.{Among}
use Rattle.mv_base.specs.Number.{◌>>?◌}
use Rattle.mv_base.specs.declared.ids.NodeId.{NodeId}
use Rattle.mv_base.specs.declared.prefix.Prefix.{Prefix}
use Rattle.mv_base.specs.core_walks.Core.{Core, IsCoreOf}
use Rattle.mv_base.specs.core_walks.Topology.{Topology}
use Rattle.bgp_messages.specs.declared.bgp_attributes.key.Key.{Key}
use Rattle.bgp_messages.specs.declared.bgp_attributes.key.Key.TheVariants.{Unicast}
use Rattle.umh_select.specs.Routes.{AreCosts, AreOfCore, peer_of}
use Rattle.umh_select.specs.declared.key.Place.{Place}
use Rattle.umh_select.specs.declared.key.Place.TheVariants.{First, From, Here, Last}
use Rattle.umh_select.specs.declared.route.Choice.{Choice}
use Rattle.umh_select.specs.declared.route.Choice.TheVariants as choices
use Rattle.umh_select.specs.declared.route.Held.{Held}
use Rattle.vrf_words.specs.tree_defs.Flows.{upstream_of}
use Rattle.vrf_words.specs.tree_defs.Trees.{TreeData}
use Rattle.vrf_trees.specs.declared.changes.TreeJoin.{TreeJoin}
use Rattle.vrf_trees.specs.Changes.{join_of}
use Rattle.edge_defs.specs.Edge.{Control, Taken, TakenRoute, Upstream, VrfFlow}
use Rattle.edge_defs.specs.Keys.{key_cmp}
use Rattle.edge_defs.specs.Place.{HasPrefixes, OwnVrf, vrfs_from}
use Rattle.edge_defs.specs.Steps.{refreshed}
use Rattle.edge_routes.specs.edge_home.Home.{place_of}
use Rattle.edge_tables.specs.taken_tables.Tables.{AreSpelled, IsSpelled, IsSpelledKey}
use Rattle.edge_tables.proofs.taken_tables.SpelledLemmas.{octets_key, writable_key}
use Rattle.control_laws.proofs.edge_words.calm_laws.Lists.{map_among}
use Rattle.vrf_words.specs.tree_laws.TreeOf.{flow_in, held_at, held_from}
use Rattle.vrf_words.specs.tree_laws.Whole.{HaveSpellings}
use Rattle.vrf_words.proofs.tree_laws.Whole.{prefixes_whole}
use Rattle.control_laws.specs.Between.{IsRefreshed}
use Rattle.control_laws.specs.Control.{Kept, OwnTree, control_of, trees_of, upstream_by}
use Rattle.control_laws.specs.Customers.{AreSingle, Makes}
use Rattle.control_laws.proofs.Between.{between_at, between_together, trees_refreshed}
use Rattle.control_laws.proofs.Gathered.{options}
use Rattle.control_laws.proofs.Owned.{each_of, of_number, or_not}
use Rattle.control_laws.proofs.Parts.{AreFull, AreParts, IsPart, flow_at, flow_nowhere, no_core}
use Rattle.control_laws.proofs.Replaced.{same_control, same_entries, same_notes, same_selections}
use Rattle.control_laws.proofs.Together.{choice_in, entries_gathered, entry_in, flow_of, note_in, notes_gathered, selected_in, selected_of, selections_gathered, tree_note}
use Rattle.control_laws.proofs.Zipped.{Stands, gathered_zip, zip_back, zip_full, zip_map, zipped}
use Rattle.selective.specs.Roots.{is_of}
use Rattle.edge_control.specs.Sound.{IsSingle, IsSound}
use Rattle.edge_control.specs.Refreshing.{AreAllMoved, AreChanged, AreMoved, HasJoin, IsRestOf, join_at, tree_join}
use Rattle.edge_control.proofs.PeerSound.{wanted_of}
use Rattle.edge_control.proofs.SoundLemmas.{sound_between, sound_full, sound_parts}

abbrev owns_of : Kept → List OwnVrf
owns_of kept = vrfs_from kept.home.me 0 kept.home.scenario.vrfs

-- ---- what the trees are asked for

route_told : (o : Option Taken) (key : Key) (f : TakenRoute → Option Held) (held : Held)
    → (maps.get (elim o as (λ _. Taken) [ None ↦ maps.empty | Some taken ↦ taken ]) key >>? f) ≡ Some held
    → is_some o ≡ true
route_told None key f held h =
    let none : (maps.get maps.empty key >>? f) ≡ None = ap (λ (r : Option TakenRoute). r >>? f) (maps.get-empty key_cmp key) in
    absurd (let bad : None ≡ Some held = sym none ∙ h in cc)
route_told (Some taken) key f held h = refl

module _ (kept : Kept) (sound : IsSound kept) where
  from_peer : (own : OwnVrf) (prefix : Prefix) (place : Place) (held : Held)
      → held_at (place_of kept.home no_core) (control_of kept) own prefix place ≡ Some held
      → (peer_of place).0 < length kept.home.scenario.nodes
  from_peer own prefix (From peer rd) held h =
      sound.peers peer (route_told (maps.get kept.peers peer) (Unicast rd prefix)
      (λ taken. held_from (place_of kept.home no_core) own.vrf peer taken.value) held h)
  from_peer own prefix Here held h = absurd cc
  from_peer own prefix First held h = absurd cc
  from_peer own prefix Last held h = absurd cc

  -- each route that a tree learned is one of a node
  pub are_of_core : (nodes : ℕ) → nodes ≡ length kept.home.scenario.nodes
      → AllByRecursion (λ (tree : TreeData). AreOfCore nodes tree.vrf.routes.learned) kept.trees
  are_of_core nodes count = each_of (λ (tree : TreeData). AreOfCore nodes tree.vrf.routes.learned) kept.trees (λ tree a key held h.
      let full = sound_full kept sound in
      let found = map_among (λ (it : OwnTree). it.tree) tree (trees_of kept) (subst (Among tree) (sym full.full) a) in
      let is = between_at kept (sound_between kept sound) no_core found.0 found.1 in
      let at : held_at (place_of kept.home no_core) (control_of kept) found.0.own key.prefix key.place ≡ Some held =
      sym (is.learned key) ∙ ap (λ (t : TreeData). maps.get t.vrf.routes.learned key) (sym found.2) ∙ h in
      subst (λ (n : ℕ). (peer_of key.place).0 < n) (sym count) (from_peer found.0.own key.prefix key.place held at))

  -- the edge is one of the nodes
  pub is_node : (nodes : ℕ) → nodes ≡ length kept.home.scenario.nodes → kept.home.me.0 < nodes
  is_node nodes count =
      subst (λ (n : ℕ). kept.home.me.0 < n) (sym count)
      (slice_get_within kept.home.scenario.nodes kept.home.me.0 sound.home.edge.node sound.home.edge.at)

-- ---- trees that are others but for flows and wants

zip_forth : {A B : Type 0} (R : A → B → Type 0) (xs : List A) (ys : List B) → AllZip R xs ys → (x : A) → Among x xs → (y : B) × Among y ys × R x y
zip_forth R [] [] h x a = absurd a
zip_forth R [] (z ∷ ys) h x a = absurd h
zip_forth R (y ∷ xs) [] h x a = absurd h
zip_forth R (y ∷ xs) (z ∷ ys) h x (inl e) = (z, inl refl, subst (λ w. R w z) (sym e) h.0)
zip_forth R (y ∷ xs) (z ∷ ys) h x (inr a) = let (found, among, is) = zip_forth R xs ys h.1 x a in (found, inr among, is)

zip_each : {A : Type 0} (R : A → A → Type 0) (P : A → Type 0) → ((x y : A) → R x y → P x → P y) → (xs ys : List A) → AllZip R xs ys
    → AllByRecursion P xs → AllByRecursion P ys
zip_each R P keeps [] [] h k = tt
zip_each R P keeps [] (y ∷ ys) h k = absurd h
zip_each R P keeps (x ∷ xs) [] h k = absurd h
zip_each R P keeps (x ∷ xs) (y ∷ ys) h k = (keeps x y h.0 k.0, zip_each R P keeps xs ys h.1 k.1)

module _ (kept : Kept) (full : AreFull kept) (R : TreeData → TreeData → Type 0) (others : List TreeData) (zip : AllZip R kept.trees others) where
  abbrev pub By : OwnTree → TreeData → Type 0
  By it new = R it.tree new

  by_trees : AllZip By (trees_of kept) others
  by_trees =
      zip_map R (λ (it : OwnTree). it.tree) (trees_of kept) others (subst (λ (trees : List TreeData). AllZip R trees others) (sym full.full) zip)

  -- each of the VRFs still has a tree, which is so related to its own
  pub still_full : AreFull (record kept { trees = others })
  still_full = zip_full kept By others full by_trees

  pub pairs : AllZip (Stands By) (trees_of kept) (trees_of (record kept { trees = others }))
  pairs = zipped By (owns_of kept) kept.trees others by_trees

module _ (kept : Kept) (sound : IsSound kept) (others : List TreeData) (zip : AllZip IsRestOf kept.trees others) where
  abbrev pub thereafter : Kept
  thereafter = record kept { trees = others }

  abbrev Rest : OwnTree → OwnTree → Type 0
  Rest = Stands (By kept (sound_full kept sound) IsRestOf others zip)

  abbrev rest_pairs : AllZip Rest (trees_of kept) (trees_of thereafter)
  rest_pairs = pairs kept (sound_full kept sound) IsRestOf others zip

  is_with : (it new : OwnTree) → Rest it new
      → record { own = it.own; tree = record it.tree { vrf = record it.tree.vrf { flows = new.tree.vrf.flows }; wants = new.tree.wants } } ≡ new
  is_with it new s = λ i. record { own = sym s.own i; tree = sym s.is i }

  after_full : AreFull thereafter
  after_full = still_full kept (sound_full kept sound) IsRestOf others zip

  after_parts : AreParts thereafter
  after_parts new a =
      let (it, among, s) = zip_back Rest (trees_of kept) (trees_of thereafter) rest_pairs new a in
      let part = sound_parts kept sound it among in
      subst (IsPart kept.home kept.peers) (is_with it new s)
      (record { entries = part.entries; notes = part.notes; selections = part.selections; derived = part.derived })

  pub after_sound : IsSound thereafter
  after_sound = record {
    home = sound.home;
    trees = wanted_of thereafter (between_together thereafter after_full after_parts);
    single = zip_each IsRestOf IsSingle (λ old new is h. subst AreSingle (sym (ap (λ (t : TreeData). t.root.selections) is)) h) kept.trees others zip
        sound.single;
    spelled = sound.spelled;
    peers = sound.peers;
  }

  -- all but the flows is as before
  pub after_rest : control_of thereafter ≡ record (control_of kept) { flows = (control_of thereafter).flows }
  after_rest = same_control _ _
      (same_entries _ _ (λ at.
      entries_gathered thereafter at
      ∙ gathered_zip None option_or Rest (entry_in at) (entry_in at) (λ it new s i. maps.get ((s.is i).vrf.entries) at) (trees_of kept)
      (trees_of thereafter) rest_pairs
      ∙ sym (entries_gathered kept at)))
      (same_notes _ _ (λ note.
      notes_gathered thereafter note
      ∙ gathered_zip false (λ a b. a || b) Rest (note_in (tree_note note)) (note_in (tree_note note))
      (λ it new s i. sets.contains ((s.is i).vrf.notes) (tree_note note)) (trees_of kept) (trees_of thereafter) rest_pairs
      ∙ sym (notes_gathered kept note)))
      (same_selections _ _ (λ key.
      selections_gathered thereafter key
      ∙ gathered_zip None option_or Rest (selected_in key) (selected_in key)
      (λ it new s i. cond (((s.own i).id.0) == key.vrf.0) (option_map selected_of (find (is_of key.pattern) ((s.is i).root.selections))) None)
      (trees_of kept) (trees_of thereafter) rest_pairs
      ∙ sym (selections_gathered kept key)))
      refl
      refl

-- ---- the joins of all flows

-- the join of a flow of the edge is that of the tree's flow
told_at : (key : VrfFlow) (choice : Option Choice)
    → join_at key (option_map upstream_by choice) ≡ option_map (λ up. join_of (flow_of key, up)) (upstream_of choice)
told_at key None = refl
told_at key (Some choices.None) = refl
told_at key (Some (choices.Local site)) = refl
told_at key (Some (choices.Remote edge rd import source_as)) = refl

module _ (kept : Kept) (full : AreFull kept) (parts : AreParts kept) where
  own_join : (it : OwnTree) → Among it (trees_of kept) → (key : VrfFlow) → it.own.id.0 ≡ key.vrf.0
      → join_at key (maps.get (control_of kept).flows key) ≡ tree_join it.tree (flow_of key)
  own_join it a key number =
      let here : flow_in it.own.id (flow_of key) ≡ key = λ i. record { vrf = record { 0 = number i }; source = key.source; group = key.group } in
      ap (λ (k : VrfFlow). join_at key (maps.get (control_of kept).flows k)) (sym here) ∙ ap (join_at key) (flow_at kept parts it a (flow_of key))
      ∙ told_at key (maps.get it.tree.vrf.flows (flow_of key))

  -- a join that one of the trees has is one of a flow
  has_flow : (join : TreeJoin) → HasJoin kept.trees join → (key : VrfFlow) × (join_at key (maps.get (control_of kept).flows key) ≡ Some join)
  has_flow join h =
      let found = map_among (λ (it : OwnTree). it.tree) h.tree (trees_of kept) (subst (Among h.tree) (sym full.full) h.among) in
      let key : VrfFlow = flow_in found.0.own.id h.flow in
      (key, own_join found.0 found.1 key refl ∙ ap (λ (t : TreeData). tree_join t h.flow) (sym found.2) ∙ h.has)

-- A flow is one of a VRF, with the joins of the VRF's tree before and after; or it is none, before and after.
record IsFlowOf (joins : List TreeJoin) (old new : Control) (key : VrfFlow) : Type 0 where
  before : TreeData
  then_tree : TreeData
  moved : AreMoved joins before then_tree
  is_before : join_at key (maps.get old.flows key) ≡ tree_join before (flow_of key)
  is_then : join_at key (maps.get new.flows key) ≡ tree_join then_tree (flow_of key)

record IsNoFlow (old new : Control) (key : VrfFlow) : Type 0 where
  before : maps.get old.flows key ≡ None
  then_none : maps.get new.flows key ≡ None

module _ (kept : Kept) (sound : IsSound kept) (others : List TreeData) (zip : AllZip IsRestOf kept.trees others) (joins : List TreeJoin)
    (all : AreAllMoved kept.trees others joins) where
  abbrev then_kept : Kept
  then_kept = thereafter kept sound others zip

  abbrev parts_then : AreParts then_kept
  parts_then = after_parts kept sound others zip

  abbrev Moved : OwnTree → OwnTree → Type 0
  Moved = Stands (By kept (sound_full kept sound) (AreMoved joins) others all.moved)

  moved_pairs : AllZip Moved (trees_of kept) (trees_of then_kept)
  moved_pairs = pairs kept (sound_full kept sound) (AreMoved joins) others all.moved

  either : (key : VrfFlow) → IsFlowOf joins (control_of kept) (control_of then_kept) key ⊎ IsNoFlow (control_of kept) (control_of then_kept) key
  either key = by (or_not options (λ (own : OwnVrf). own.id.0 == key.vrf.0) (of_number key.vrf.0) (choice_in key) (trees_of then_kept))
    where
      same_ids : (it new : OwnTree) → Moved it new → it.own.id.0 ≡ new.own.id.0
      same_ids it new s = ap (λ (own : OwnVrf). own.id.0) (sym s.own)

      found_at : (new : OwnTree) → Among new (trees_of then_kept) → (new.own.id.0 == key.vrf.0) ≡ true
          → IsFlowOf joins (control_of kept) (control_of then_kept) key
      found_at new a e =
          let (it, among, s) = zip_back Moved (trees_of kept) (trees_of then_kept) moved_pairs new a in
          let number = eqb-true new.own.id.0 key.vrf.0 e in
          record {
            before = it.tree;
            then_tree = new.tree;
            moved = s.is;
            is_before = own_join kept (sound_full kept sound) (sound_parts kept sound) it among key (same_ids it new s ∙ number);
            is_then = own_join then_kept (after_full kept sound others zip) parts_then new a key number;
          }

      by : ((new : OwnTree) × Among new (trees_of then_kept) × ((new.own.id.0 == key.vrf.0) ≡ true))
          ⊎ ((new : OwnTree) → Among new (trees_of then_kept) → (new.own.id.0 == key.vrf.0) ≡ false)
          → IsFlowOf joins (control_of kept) (control_of then_kept) key ⊎ IsNoFlow (control_of kept) (control_of then_kept) key
      by (inl found) = inl (found_at found.0 found.1 found.2)
      by (inr none) = inr (record {
        before = flow_nowhere kept (sound_parts kept sound) key (λ it a.
            let (new, among, s) = zip_forth Moved (trees_of kept) (trees_of then_kept) moved_pairs it a in
            ap (λ (own : OwnVrf). own.id.0 == key.vrf.0) (sym s.own) ∙ none new among);
        then_none = flow_nowhere then_kept parts_then key none;
      })

  no_join : (key : VrfFlow) (o : Option (Option Upstream)) (join : TreeJoin) → o ≡ None → join_at key o ≡ Some join → ⊥
  no_join key o join none h = let bad : None ≡ Some join = sym (ap (join_at key) none) ∙ h in absurd cc

  pub are_changed : AreChanged (control_of kept).flows (control_of then_kept).flows joins
  are_changed = record {
    made = λ key join h. elim (either key) [
      | inl f ↦ elim (f.moved.made (flow_of key) join (sym f.is_then ∙ h)) [ inl e ↦ inl (f.is_before ∙ e) | inr a ↦ inr a ]
      | inr none ↦ absurd (no_join key (maps.get (control_of then_kept).flows key) join none.then_none h)
    ];
    left = λ key join h. elim (either key) [
      | inl f ↦ elim (f.moved.left (flow_of key) join (sym f.is_before ∙ h)) [ inl e ↦ inl (f.is_then ∙ e) | inr a ↦ inr a ]
      | inr none ↦ absurd (no_join key (maps.get (control_of kept).flows key) join none.before h)
    ];
    each = λ join a. elim (all.each join a) [
      | inl h ↦ let found = has_flow kept (sound_full kept sound) (sound_parts kept sound) join h in (found.0, inl found.1)
      | inr h ↦ let found = has_flow then_kept (after_full kept sound others zip) parts_then join h in (found.0, inr found.1)
    ];
  }

-- ---- the flows of the edge

spelled_in : (o : Option Taken) (key : Key) (route : TakenRoute)
    → maps.get (elim o as (λ _. Taken) [ None ↦ maps.empty | Some taken ↦ taken ]) key ≡ Some route
    → ((taken : Taken) → o ≡ Some taken → IsSpelled taken) → IsSpelledKey key
spelled_in None key route h spelled = absurd (let bad : None ≡ Some route = sym (maps.get-empty key_cmp key) ∙ h in cc)
spelled_in (Some taken) key route h spelled = spelled taken refl key (ap is_some h)

have_spellings : (kept : Kept) → AreSpelled kept.peers → HaveSpellings (control_of kept)
have_spellings kept spelled peer key route h =
    let is = spelled_in (maps.get kept.peers peer) key route h (spelled peer) in (writable_key key is, octets_key key is)

-- After a refresh of each tree the flows are those of the edge at the clock.
pub refresh_makes : (kept : Kept) → IsSound kept → HasPrefixes kept.home.scenario → AreSpelled kept.peers
    → (core : Core) (now : ℕ) (others : List TreeData)
    → AllZip (IsRefreshed (core.cost kept.home.me) now) kept.trees others
    → Makes (record kept { trees = others }) (refreshed (place_of kept.home core) now (control_of kept))
refresh_makes kept sound octets spelled core now others zip =
    trees_refreshed kept core now others zip (sound_full kept sound) (sound_between kept sound) sound.home.rules sound.peers
    (λ own a. prefixes_whole (place_of kept.home core) (control_of kept) own sound.home.rules octets (have_spellings kept spelled))

-- the costs of a core as nodes know it are least
pub least_costs : (topology : Topology) (core : Core) → IsCoreOf topology.nodes topology.links core → (me : NodeId) → me.0 < topology.nodes
    → AreCosts topology me (core.cost me)
least_costs topology core is me lt node within = is.least me node lt within

-- What one change of a peer's routes makes of the tunnels that are listed, and a row of changes.
use Rattle.std.proofs.Common.{◌≡◌, ◌↔◌, ℕ, true, false, cond, not, is_some, List, [], ◌∷◌, ◌++◌, fold, Option, Some, None, refl, sym, ap, subst, ◌∙◌}
use Rattle.std.proofs.lemmas.List.Sums.{fold-append}
use Rattle.std.proofs.lemmas.List.{append-nil}
use Rattle.std.specs.List.{list_any}
use Rattle.std.specs.FinMap as maps
use Rattle.std.specs.FinMap.{get-empty}
use Rattle.mv_base.specs.core_walks.Core.{Core}
use Rattle.mv_base.specs.Lists.{Among}
use Rattle.mv_base.specs.Number.{◌>>?◌}
use Rattle.mv_base.specs.declared.ids.NodeId.{NodeId}
use Rattle.mldp.specs.declared.mldp_fec.fec.Fec.{Fec}
use Rattle.bgp_messages.specs.declared.bgp_attributes.key.Key.{Key}
use Rattle.bgp_messages.specs.declared.bgp_attributes.update.Change.{Change}
use Rattle.bgp_messages.specs.declared.bgp_attributes.update.Change.TheVariants as updates
use Rattle.bgp_messages.specs.declared.bgp_attributes.update.Message.{Message}
use Rattle.bgp_messages.specs.bgp_update.Table.{changes_of, key_of}
use Rattle.label_defs.specs.LabelData.{same_fec}
use Rattle.label_defs.specs.Keys.{node_cmp}
use Rattle.label_defs.proofs.KeyLemmas.{node_cmp_total, same_fec_equal, same_fec_itself}
use Rattle.edge_defs.specs.Edge.{Control, Taken, TakenRoute}
use Rattle.edge_defs.specs.Imported.{imported_inclusive, taken_from}
use Rattle.edge_defs.specs.Keys.{Value, key_cmp}
use Rattle.edge_defs.specs.Place.{EdgePlace, OwnVrf, addr_of, own_vrfs}
use Rattle.edge_defs.specs.Steps.{learned, taken_change, with_update}
use Rattle.edge_defs.proofs.KeyLemmas.{key_exact, key_total}
use Rattle.edge_routes.specs.edge_home.Home.{Home, place_of}
use Rattle.edge_words.proofs.edge_laws.Taken.{table_in}
use Rattle.edge_words.proofs.calm_laws.Lists.{among_flat_map, among_found, any_among, any_from, flat_map_among, found_among, not_both}
use Rattle.edge_words.proofs.calm_laws.Maps.{entry_get, get_entry}
use Rattle.edge_control.specs.edge_tables.taken_tables.Tables.{Tables, changed_at, reach, route_at}
use Rattle.edge_control.proofs.edge_tables.taken_tables.MapLemmas.{one_after_another}
use Rattle.control_laws.specs.Control.{Kept, control_of}
use Rattle.control_laws.proofs.PeersKinds.{tables_of}
use Rattle.control_laws.proofs.PeersMaps.{itself_by}
use Rattle.control_laws.proofs.PeersTables.{changed}
use Rattle.control_laws.proofs.PeersTold.{Changes, Here}
use Rattle.edge_control.specs.Sound.{wants_of}
use Rattle.edge_routing.specs.edge_updates.Changed.{AreListed, AreTaken, changed_by}
use Rattle.edge_routing.specs.edge_updates.Inclusive.{AreTunnels, IsInclusiveFrom}
use Rattle.edge_routing.specs.edge_updates.Tunnels.{route_of, tunnels_at, tunnels_by, tunnels_by_all, tunnels_from}
use Rattle.edge_routing.proofs.edge_updates.TunnelLemmas.{IsUntold, unlisted, untold_stays}

-- ---- what is listed

module _ (home : Home) (core : Core) (peer : NodeId) where
  abbrev by_route : Key → TakenRoute → OwnVrf → Option Fec
  by_route key taken own = imported_inclusive own.vrf (addr_of home.scenario peer) (key, route_of taken.value)

  is_listed : (key : Key) (taken : TakenRoute) (fec : Fec) (own : OwnVrf) → Among own (own_vrfs (place_of home core))
      → imported_inclusive own.vrf (addr_of home.scenario peer) (key, taken) ≡ Some fec → Among fec (tunnels_by home peer key taken.value)
  is_listed key taken fec own a is = among_found (by_route key taken) own fec (own_vrfs (place_of home core)) a is

  -- What is not listed is imported by no VRF.
  pub untold : (key : Key) (route : Option TakenRoute) (fec : Fec) → list_any (same_fec fec) (tunnels_at home peer key route) ≡ false
      → IsUntold (place_of home core) fec peer key route
  untold key None fec none own a is = absurd (let bad : None ≡ Some fec = is in cc)
  untold key (Some taken) fec none own a is =
      not_both (list_any (same_fec fec) (tunnels_by home peer key taken.value))
      (any_from (same_fec fec) fec (tunnels_by home peer key taken.value) (is_listed key taken fec own a is) (same_fec_itself fec)) none

  module _ (control : Control) (fec : Fec) where
    abbrev entries : List (Key × TakenRoute)
    entries = maps.entries (taken_from control peer)

    abbrev by_entry : Key × TakenRoute → List Fec
    by_entry entry = tunnels_by home peer entry.0 entry.1.value

    from_listed : IsInclusiveFrom (place_of home core) control peer fec → list_any (same_fec fec) (tunnels_by_all home peer entries) ≡ true
    from_listed is =
        any_from (same_fec fec) fec (tunnels_by_all home peer entries)
        (among_flat_map by_entry (is.key, is.route) fec entries (get_entry key_exact (taken_from control peer) is.key is.route is.taken)
        (is_listed is.key is.route fec is.own is.of_edge is.imported)) (same_fec_itself fec)

    listed_from : list_any (same_fec fec) (tunnels_by_all home peer entries) ≡ true → IsInclusiveFrom (place_of home core) control peer fec
    listed_from h =
        let found = any_among (same_fec fec) (tunnels_by_all home peer entries) h in
        let entry =
        flat_map_among by_entry fec entries (subst (λ (x : Fec). Among x (tunnels_by_all home peer entries))
        (sym (same_fec_equal fec found.0 found.2)) found.1) in
        let own = found_among (by_route entry.0.0 entry.0.1) fec (own_vrfs (place_of home core)) entry.2 in
        record {
          own = own.0;
          of_edge = own.1;
          key = entry.0.0;
          route = entry.0.1;
          taken = entry_get key_total (taken_from control peer) entry.0.0 entry.0.1 entry.1;
          imported = own.2;
        }

    -- The tunnels of all routes of the peer are those of inclusive routes from it.
    pub all_listed : IsInclusiveFrom (place_of home core) control peer fec ↔ (list_any (same_fec fec) (tunnels_by_all home peer entries) ≡ true)
    all_listed = (from_listed, listed_from)

-- ---- one change

-- the route at a key
route_is : (control : Control) (peer : NodeId) (key : Key) → tables_of control peer key ≡ route_at control.peers peer key
route_is control peer key = by (maps.get control.peers peer)
  where
    by : (o : Option Taken) → maps.get (table_in o) key ≡ (o >>? λ taken. maps.get taken key)
    by None = get-empty key_cmp key
    by (Some taken) = refl

module _ (now : ℕ) (peer : NodeId) (change : Change) where
  abbrev thereafter : Control → Option Taken → Control
  thereafter old o = record old {
    peers = elim o [ None ↦ old.peers | Some taken ↦ maps.insert old.peers peer (taken_change now taken change) ];
  }

  others : (old : Control) (o : Option Taken) → maps.get old.peers peer ≡ o → (q : NodeId) (k : Key) → (Here peer (key_of change) q k → ⊥)
      → tables_of (thereafter old o) q k ≡ tables_of old q k
  others old None e q k apart = refl
  others old (Some taken) e q k apart = (changed old peer taken e now change).rest q k apart

  -- The route at the key of the change becomes another one, and all others stay.
  pub one_changes : (old : Control) → Changes (tables_of old) (tables_of (changed_by now peer (change ∷ []) old)) peer (key_of change)
      (route_at old.peers peer (key_of change)) (route_at (changed_by now peer (change ∷ []) old).peers peer (key_of change))
  one_changes old = record {
    was = route_is old peer (key_of change);
    is = route_is (changed_by now peer (change ∷ []) old) peer (key_of change);
    rest = others old (maps.get old.peers peer) refl;
  }

-- after a withdrawal there is none
withdrawn : (now : ℕ) (peer : NodeId) (key : Key) (old : Control) (o : Option Taken) → maps.get old.peers peer ≡ o
    → tables_of (thereafter now peer (updates.Unreach key) old o) peer key ≡ None
withdrawn now peer key old None e = route_is old peer key ∙ ap (λ (o : Option Taken). o >>? λ (taken : Taken). maps.get taken key) e
withdrawn now peer key old (Some taken) e = (changed old peer taken e now (updates.Unreach key)).is

pub withdrawn_route : (now : ℕ) (peer : NodeId) (key : Key) (old : Control)
    → route_at (changed_by now peer (updates.Unreach key ∷ []) old).peers peer key ≡ None
withdrawn_route now peer key old =
    sym (route_is (changed_by now peer (updates.Unreach key ∷ []) old) peer key) ∙ withdrawn now peer key old (maps.get old.peers peer) refl

-- after an announcement at a key at which there was none, it is that of the value, where routes are taken from the peer
announced : (home : Home) (now : ℕ) (peer : NodeId) (key : Key) (value : Value) (old : Control) (o : Option Taken) → maps.get old.peers peer ≡ o
    → route_at old.peers peer key ≡ None
    → tunnels_at home peer key (tables_of (thereafter now peer (reach key value) old o) peer key) ≡ tunnels_from home o peer key value
announced home now peer key value old None e fresh = ap (tunnels_at home peer key) (route_is old peer key ∙ fresh)
announced home now peer key value old (Some taken) e fresh =
    let none : maps.get taken key ≡ None = sym (ap (λ (o : Option Taken). o >>? λ (t : Taken). maps.get t key) e) ∙ fresh in
    ap (tunnels_at home peer key)
    ((changed old peer taken e now (reach key value)).is ∙ ap (λ (route : Option TakenRoute). Some (learned now value route)) none)

pub announced_told : (home : Home) (now : ℕ) (peer : NodeId) (key : Key) (value : Value) (old : Control) → route_at old.peers peer key ≡ None
    → tunnels_at home peer key (route_at (changed_by now peer (reach key value ∷ []) old).peers peer key)
    ≡ tunnels_from home (maps.get old.peers peer) peer key value
announced_told home now peer key value old fresh =
    ap (tunnels_at home peer key) (sym (route_is (changed_by now peer (reach key value ∷ []) old) peer key))
    ∙ announced home now peer key value old (maps.get old.peers peer) refl fresh

module _ (now : ℕ) (peer : NodeId) (change : Change) (home : Home) where
  -- the tunnels by the route at the key of the change
  abbrev tunnels_of : Tables → List Fec
  tunnels_of tables = tunnels_at home peer (key_of change) (route_at tables peer (key_of change))

  listed_change : (core : Core) (old new : Control) (before : List Fec) → new ≡ changed_by now peer (change ∷ []) old
      → AreListed (place_of home core) old before new ((before ++ tunnels_of old.peers) ++ tunnels_of new.peers)
  listed_change core old new before is fec none =
      let outer = unlisted fec (before ++ tunnels_of old.peers) (tunnels_of new.peers) none in
      let inner = unlisted fec before (tunnels_of old.peers) outer.0 in
      let first = route_at old.peers peer (key_of change) in
      let next = route_at new.peers peer (key_of change) in
      let changes =
      subst (λ (c : Control). Changes (tables_of old) (tables_of c) peer (key_of change) first (route_at c.peers peer (key_of change))) (sym is)
      (one_changes now peer change old) in (
        inner.0,
        untold_stays (place_of home core) fec old new peer (key_of change) first next changes
            (untold home core peer (key_of change) first fec inner.1)
            (untold home core peer (key_of change) next fec outer.1),
      )

-- A change is taken, where the tunnels of the old route and of the new one are listed.
pub change_taken : (now : ℕ) (peer : NodeId) (change : Change) (old new : Kept) (before after : List Fec) → new.home ≡ old.home
    → wants_of new.trees ≡ wants_of old.trees → control_of new ≡ changed_by now peer (change ∷ []) (control_of old)
    → after ≡ (before ++ tunnels_of now peer change old.home old.peers) ++ tunnels_of now peer change old.home new.peers
    → AreTaken now peer (change ∷ []) old new before after
change_taken now peer change old new before after home wants control is = record {
  home = home;
  wants = wants;
  control = control;
  tunnels = λ core.
      subst (λ (fecs : List Fec). AreListed (place_of old.home core) (control_of old) before (control_of new) fecs) (sym is)
      (listed_change now peer change old.home core (control_of old) (control_of new) before control);
}

-- A withdrawal is taken, where those of the old route are.
pub withdrawal_taken : (now : ℕ) (peer : NodeId) (key : Key) (old new : Kept) (before after : List Fec) → new.home ≡ old.home
    → wants_of new.trees ≡ wants_of old.trees → control_of new ≡ changed_by now peer (updates.Unreach key ∷ []) (control_of old)
    → after ≡ before ++ tunnels_at old.home peer key (route_at old.peers peer key) → AreTaken now peer (updates.Unreach key ∷ []) old new before after
withdrawal_taken now peer key old new before after home wants control is =
    let gone : route_at new.peers peer key ≡ None =
    ap (λ (c : Control). route_at c.peers peer key) control ∙ withdrawn_route now peer key (control_of old) in
    let first = before ++ tunnels_at old.home peer key (route_at old.peers peer key) in
    change_taken now peer (updates.Unreach key) old new before after home wants control
    (is ∙ sym (append-nil first) ∙ ap (λ (route : Option TakenRoute). first ++ tunnels_at old.home peer key route) (sym gone))

-- An announcement at a key at which there was no route is taken, where those of its value are.
pub announcement_taken : (now : ℕ) (peer : NodeId) (key : Key) (value : Value) (old new : Kept) (before after : List Fec) → new.home ≡ old.home
    → wants_of new.trees ≡ wants_of old.trees → control_of new ≡ changed_by now peer (reach key value ∷ []) (control_of old)
    → route_at old.peers peer key ≡ None → after ≡ before ++ tunnels_from old.home (maps.get old.peers peer) peer key value
    → AreTaken now peer (reach key value ∷ []) old new before after
announcement_taken now peer key value old new before after home wants control fresh is =
    let next = tunnels_from old.home (maps.get old.peers peer) peer key value in
    let come : tunnels_at old.home peer key (route_at new.peers peer key) ≡ next =
    ap (λ (c : Control). tunnels_at old.home peer key (route_at c.peers peer key)) control
    ∙ announced_told old.home now peer key value (control_of old) fresh in
    change_taken now peer (reach key value) old new before after home wants control
    (is
    ∙ ap (λ (fecs : List Fec). fecs ++ next) (sym (append-nil before)
    ∙ ap (λ (route : Option TakenRoute). before ++ tunnels_at old.home peer key route) (sym fresh))
    ∙ ap (λ (fecs : List Fec). (before ++ tunnels_at old.home peer key (route_at old.peers peer key)) ++ fecs) (sym come))

-- whether routes are taken from the peer stays as it is
from_changed : (home : Home) (peer : NodeId) (key : Key) (value : Value) (change : Taken → Taken) (tables : Tables) (o : Option Taken)
    → maps.get tables peer ≡ o
    → tunnels_from home (maps.get (elim o as (λ x. Tables) [ None ↦ tables | Some taken ↦ maps.insert tables peer (change taken) ]) peer) peer key value
    ≡ tunnels_from home o peer key value
from_changed home peer key value change tables None e = ap (λ (o : Option Taken). tunnels_from home o peer key value) e
from_changed home peer key value change tables (Some taken) e =
    ap (λ (o : Option Taken). tunnels_from home o peer key value)
    (maps.get-insert node_cmp_total tables peer (change taken) peer
    ∙ ap (λ b. cond b (Some (change taken)) (maps.get tables peer)) (itself_by node_cmp node_cmp_total peer))

-- The same where they are listed afterwards.
pub entered_taken : (now : ℕ) (peer : NodeId) (key : Key) (value : Value) (old new : Kept) (before after : List Fec) → new.home ≡ old.home
    → wants_of new.trees ≡ wants_of old.trees → control_of new ≡ changed_by now peer (reach key value ∷ []) (control_of old)
    → route_at old.peers peer key ≡ None → after ≡ before ++ tunnels_from new.home (maps.get new.peers peer) peer key value
    → AreTaken now peer (reach key value ∷ []) old new before after
entered_taken now peer key value old new before after home wants control fresh is =
    announcement_taken now peer key value old new before after home wants control fresh
    (is
    ∙ ap (λ (fecs : List Fec). before ++ fecs)
    (ap (λ (h : Home). tunnels_from h (maps.get new.peers peer) peer key value) home
    ∙ ap (λ (c : Control). tunnels_from old.home (maps.get c.peers peer) peer key value) control
    ∙ from_changed old.home peer key value (λ taken. taken_change now taken (reach key value)) old.peers (maps.get old.peers peer) refl))

-- ---- rows of changes

listed_then : (place : EdgePlace) (a b c : Control) (xs ys zs : List Fec) → AreListed place a xs b ys → AreListed place b ys c zs
    → AreListed place a xs c zs
listed_then place a b c xs ys zs h k fec none =
    let second = k fec none in
    let first = h fec second.0 in
    (first.0, ((λ is. second.1.0 (first.1.0 is)), (λ is. first.1.1 (second.1.1 is))))

-- no change at all
pub none_taken : (now : ℕ) (peer : NodeId) (kept : Kept) (fecs : List Fec) → AreTaken now peer [] kept kept fecs fecs
none_taken now peer kept fecs = record {
  home = refl;
  wants = refl;
  control = ap (λ (tables : Tables). record (control_of kept) { peers = tables }) (one_after_another now peer [] kept.peers);
  tunnels = λ core fec none. (none, ((λ is. is), (λ is. is)));
}

-- nothing of what an edge keeps is another one
pub stays_taken : (now : ℕ) (peer : NodeId) (old new : Kept) (fecs : List Fec) → new.home ≡ old.home → wants_of new.trees ≡ wants_of old.trees
    → control_of new ≡ control_of old → AreTaken now peer [] old new fecs fecs
stays_taken now peer old new fecs home wants control = record {
  home = home;
  wants = wants;
  control = control ∙ (none_taken now peer old fecs).control;
  tunnels = λ core.
      subst (λ (c : Control). AreListed (place_of old.home core) (control_of old) fecs c fecs) (sym control)
      ((none_taken now peer old fecs).tunnels core);
}

-- there is none where it is answered so
pub none_there : (o : Option TakenRoute) → not (is_some o) ≡ true → o ≡ None
none_there None h = refl
none_there (Some route) h = absurd (let bad : false ≡ true = h in cc)

changed_twice : (now : ℕ) (peer : NodeId) (xs ys : List Change) (old : Control)
    → changed_by now peer ys (changed_by now peer xs old) ≡ changed_by now peer (xs ++ ys) old
changed_twice now peer xs ys old =
    let step : Tables → Change → Tables = λ tables change. changed_at peer (λ taken. taken_change now taken change) tables in
    ap (λ (tables : Tables). record old { peers = tables })
    (sym (one_after_another now peer ys (changed_at peer (λ taken. fold (taken_change now) taken xs) old.peers))
    ∙ ap (λ (tables : Tables). fold step tables ys) (sym (one_after_another now peer xs old.peers))
    ∙ sym (fold-append step old.peers xs ys) ∙ one_after_another now peer (xs ++ ys) old.peers)

-- one row after another
pub taken_then : (now : ℕ) (peer : NodeId) (xs ys : List Change) (a b c : Kept) (first second third : List Fec)
    → AreTaken now peer xs a b first second
    → AreTaken now peer ys b c second third → AreTaken now peer (xs ++ ys) a c first third
taken_then now peer xs ys a b c first second third h k = record {
  home = k.home ∙ h.home;
  wants = k.wants ∙ h.wants;
  control = k.control ∙ ap (changed_by now peer ys) h.control ∙ changed_twice now peer xs ys (control_of a);
  tunnels = λ core.
      listed_then (place_of a.home core) (control_of a) (control_of b) (control_of c) first second third (h.tunnels core)
      (subst (λ (home : Home). AreListed (place_of home core) (control_of b) second (control_of c) third) h.home (k.tunnels core));
}

-- ---- whole messages

abbrev row_of : ℕ → Message → Taken → Taken
row_of now message taken = fold (taken_change now) taken (changes_of message)

abbrev with_peers : Control → Tables → Control
with_peers old tables = record old { peers = tables }

-- what the changes of a message make is what the message makes
pub update_is : (now : ℕ) (peer : NodeId) (message : Message) (old : Control)
    → changed_by now peer (changes_of message) old ≡ with_update now peer message old
update_is now peer message old = by (maps.get old.peers peer)
  where
    by : (o : Option Taken) → with_peers old (elim o [ None ↦ old.peers | Some taken ↦ maps.insert old.peers peer (row_of now message taken) ])
        ≡ elim o [ None ↦ old | Some taken ↦ with_peers old (maps.insert old.peers peer (row_of now message taken)) ]
    by None = refl
    by (Some taken) = refl

-- what is not listed after it comes and goes no more
pub tunnels_listed : (place : EdgePlace) (old new : Control) (fecs : List Fec) → AreListed place old [] new fecs → AreTunnels place old new fecs
tunnels_listed place old new fecs h fec none = (h fec none).1

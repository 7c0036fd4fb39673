-- Routes that each table is given one after another, and what tables hold once they have all first ones.
use Rattle.std.proofs.Common.{◌≡◌, ℕ, ◌+◌, ◌<◌, ◌≤◌, Bool, true, false, cond, ◌⊎◌, inl, inr, List, [], ◌∷◌, ◌++◌, length, get_or, take, drop, map, Option, Some, None, Result, Ok, Err, OnOk, OnErr, refl, sym, ap, subst, ◌∙◌, append_assoc, append-nil, take-append-drop}
use Rattle.std.specs.List.{flat_map}
use Rattle.std.specs.FinMap as maps
use Rattle.std.specs.FinMap.{empty, find, get, get-empty, insert}
use Rattle.std.specs.FinSet as sets
use Rattle.std.specs.Ordering.{eq_by_cmp}
use Rattle.std.proofs.lemmas.Bool.{cases_Bool}
use Rattle.std.proofs.lemmas.List.{map-append, take_all, take_more}
use Rattle.std.proofs.lemmas.List.Concat.{flat_map-append}
use Rattle.mv_base.specs.Lists.{Among}
use Rattle.mv_base.specs.declared.ids.NodeId.{NodeId}
use Rattle.mv_base.specs.declared.rd.Rd.{Rd}
use Rattle.bgp_messages.specs.declared.bgp_attributes.key.Key.{Key}
use Rattle.bgp_messages.specs.declared.bgp_attributes.key.Key.TheVariants.{Unicast}
use Rattle.mv_base.specs.core_walks.Core.{Core}
use Rattle.scenario_defs.specs.Rules.{Rules}
use Rattle.scenario_defs.specs.declared.scenario.Route.{Route}
use Rattle.table_laws.proofs.CompareLemmas.{one_key, own_key}
use Rattle.label_defs.specs.Keys.{node_cmp}
use Rattle.label_defs.proofs.KeyLemmas.{node_cmp_total}
use Rattle.label_defs.specs.Members.{in_order}
use Rattle.edge_defs.specs.Edge.{Note, VrfFlow, Upstream, flow_cmp, no_control, note_cmp, pattern_cmp}
use Rattle.edge_defs.specs.Held.{held_for, join_route}
use Rattle.edge_defs.specs.Keys.{Table, Value, key_cmp}
use Rattle.edge_defs.specs.Originated.{active_key, is_iface_of, notes_of, plain_value}
use Rattle.edge_defs.specs.Place.{EdgePlace, OwnVrf, own_vrfs}
use Rattle.edge_defs.proofs.KeyLemmas.{key_exact, key_total, note_exact, note_total}
use Rattle.edge_routes.specs.declared.edge_home.own_vrf.OwnVrf as homes
use Rattle.edge_routes.specs.edge_home.Home.{Home, as_own, place_of}
use Rattle.edge_tables.specs.Tables.{Both, EachPeer, PeerTable, Tables, fresh, with_route}
use Rattle.vrf_words.proofs.edge_words.calm_laws.Entries.{Entry, IsHeld, OfInclusive, OfUnicast, OfSelective, OfActive, OfJoin, is_held, is_selective}
use Rattle.vrf_words.proofs.edge_words.calm_laws.Lists.{among_flat_map, filter_among, flat_map_among, found_among, map_among}
use Rattle.vrf_words.proofs.edge_words.calm_laws.Maps.{empty_entries}
use Rattle.vrf_words.proofs.edge_words.Members.{contained}
use Rattle.vrf_words.specs.edge_words.held_laws.Held.{Inclusive}
use Rattle.vrf_words.proofs.edge_words.held_laws.Originated.{is_what_is_held, unicast_from}
use Rattle.held_tables.specs.Holding.{HavePartly, HoldAll, IsToldAlike}
use Rattle.held_tables.specs.Starting.{AreEmpty, HasFront, all_start_routes, home_place, prefix_routes, start_routes, with_routes}
use Rattle.held_tables.proofs.HoldLemmas.{each_as, each_weaker, partly_as}

-- ---- tables one after another

both_then : {A : Type 0} (P Q R : A → A → Type 0) → ((a b c : A) → P a b → Q b c → R a c) → (o p q : Option A) → Both P o p → Both Q p q → Both R o q
both_then P Q R f None None None h k = tt
both_then P Q R f None None (Some c) h k = k
both_then P Q R f None (Some b) q h k = absurd h
both_then P Q R f (Some a) None q h k = absurd h
both_then P Q R f (Some a) (Some b) None h k = k
both_then P Q R f (Some a) (Some b) (Some c) h k = f a b c h k

each_then : (P Q R : PeerTable → PeerTable → Type 0) → ((a b c : PeerTable) → P a b → Q b c → R a c) → (s t u : Tables) → EachPeer P s t
    → EachPeer Q t u → EachPeer R s u
each_then P Q R f s t u h k peer = both_then P Q R f (get s peer) (get t peer) (get u peer) (h peer) (k peer)

both_itself : (P : PeerTable → PeerTable → Type 0) → ((a : PeerTable) → P a a) → (o : Option PeerTable) → Both P o o
both_itself P f None = tt
both_itself P f (Some a) = f a

pub each_itself : (P : PeerTable → PeerTable → Type 0) → ((a : PeerTable) → P a a) → (t : Tables) → EachPeer P t t
each_itself P f t peer = both_itself P f (get t peer)

-- ---- routes one after another

abbrev pub Given : List Entry → PeerTable → PeerTable → Type 0
Given list before thereafter = thereafter ≡ with_routes list before

with_both : (xs ys : List Entry) (table : PeerTable) → with_routes (xs ++ ys) table ≡ with_routes ys (with_routes xs table)
with_both [] ys table = refl
with_both (x ∷ xs) ys table = with_both xs ys (with_route x.0 x.1 table)

pub given_then : (xs ys : List Entry) (s t u : Tables) → EachPeer (Given xs) s t → EachPeer (Given ys) t u → EachPeer (Given (xs ++ ys)) s u
given_then xs ys s t u h k =
    each_then (Given xs) (Given ys) (Given (xs ++ ys)) (λ a b c f g. g ∙ ap (with_routes ys) f ∙ sym (with_both xs ys a)) s t u h k

pub front_then : (xs ys : List Entry) (s t u : Tables) → EachPeer (Given xs) s t → EachPeer (HasFront ys) t u → EachPeer (HasFront (xs ++ ys)) s u
front_then xs ys s t u h k = each_then (Given xs) (HasFront ys) (HasFront (xs ++ ys)) (λ a b c f g. record {
  done = xs ++ g.done;
  left = g.left;
  all = ap (λ (l : List Entry). xs ++ l) g.all ∙ sym (append_assoc xs g.done g.left);
  is = g.is ∙ ap (with_routes g.done) f ∙ sym (with_both xs g.done a);
}) s t u h k

pub front_more : (xs ys : List Entry) (s t : Tables) → EachPeer (HasFront xs) s t → EachPeer (HasFront (xs ++ ys)) s t
front_more xs ys s t h = each_weaker (λ a b f. record {
  done = f.done;
  left = f.left ++ ys;
  all = ap (λ (l : List Entry). l ++ ys) f.all ∙ append_assoc f.done f.left ys;
  is = f.is;
}) s t h

-- where the second list was not begun
pub front_given : (xs ys : List Entry) (s t : Tables) → EachPeer (Given xs) s t → EachPeer (HasFront (xs ++ ys)) s t
front_given xs ys s t h = each_weaker (λ a b f. record { done = xs; left = ys; all = refl; is = f }) s t h

pub front_none : (xs : List Entry) (t : Tables) → EachPeer (HasFront xs) t t
front_none xs t = each_itself (HasFront xs) (λ a. record { done = []; left = xs; all = refl; is = refl }) t

pub front_one : (key : Key) (value : Value) (s t : Tables) → HavePartly key value s t → EachPeer (HasFront ((key, value) ∷ [])) s t
front_one key value s t h = each_weaker (λ a b either. elim either [
  | inl same ↦ record { done = []; left = (key, value) ∷ []; all = refl; is = same }
  | inr same ↦ record { done = (key, value) ∷ []; left = []; all = refl; is = same }
]) s t h

told_with : (list : List Entry) (table : PeerTable) → IsToldAlike table (with_routes list table)
told_with [] table = record { up = refl; told = refl; waiting = refl }
told_with (x ∷ xs) table = let rest = told_with xs (with_route x.0 x.1 table) in record { up = rest.up; told = rest.told; waiting = rest.waiting }

given_alike : (list : List Entry) (s t : Tables) → EachPeer (Given list) s t → EachPeer IsToldAlike s t
given_alike list s t h = each_weaker (λ a b f. subst (IsToldAlike a) (sym f) (told_with list a)) s t h

front_alike : (list : List Entry) (s t : Tables) → EachPeer (HasFront list) s t → EachPeer IsToldAlike s t
front_alike list s t h = each_weaker (λ a b f. subst (IsToldAlike a) (sym f.is) (told_with f.done a)) s t h

pub told_either : {X E : Type 0} (result : Result X E) (list : List Entry) (s t : Tables) → OnOk result (EachPeer (Given list) s t)
    → OnErr result (EachPeer (HasFront list) s t) → EachPeer IsToldAlike s t
told_either (Ok x) list s t h k = given_alike list s t h
told_either (Err e) list s t h k = front_alike list s t k

-- ---- a loop that gives the routes of each item

module _ {X : Type 0} (f : List X → List Entry) (both : (xs ys : List X) → f (xs ++ ys) ≡ f xs ++ f ys) (g : X → List Entry)
    (one : (x : X) → f (x ∷ []) ≡ g x) where
  next : (xs : List X) (i : ℕ) (d : X) → i < length xs → f (take (i + 1) xs) ≡ f (take i xs) ++ g (get_or xs i d)
  next xs i d lt =
      ap f (take_more xs i d lt) ∙ both (take i xs) (get_or xs i d ∷ []) ∙ ap (λ (l : List Entry). f (take i xs) ++ l) (one (get_or xs i d))

  pub row_more : (xs : List X) (i : ℕ) (d : X) → i < length xs → (s t u : Tables) → EachPeer (Given (f (take i xs))) s t
      → EachPeer (Given (g (get_or xs i d))) t u
      → EachPeer (Given (f (take (i + 1) xs))) s u
  row_more xs i d lt s t u h k =
      subst (λ (l : List Entry). EachPeer (Given l) s u) (sym (next xs i d lt)) (given_then (f (take i xs)) (g (get_or xs i d)) s t u h k)

  pub row_end : (xs : List X) (i : ℕ) → length xs ≤ i → (s t : Tables) → EachPeer (Given (f (take i xs))) s t → EachPeer (Given (f xs)) s t
  row_end xs i le s t h = subst (λ (l : List X). EachPeer (Given (f l)) s t) (take_all i xs le) h

  pub row_cut : (xs : List X) (i : ℕ) (d : X) → i < length xs → (s t u : Tables) → EachPeer (Given (f (take i xs))) s t
      → EachPeer (HasFront (g (get_or xs i d))) t u
      → EachPeer (HasFront (f xs)) s u
  row_cut xs i d lt s t u h k =
      let some : EachPeer (HasFront (f (take (i + 1) xs) ++ f (drop (i + 1) xs))) s u =
      front_more (f (take (i + 1) xs)) (f (drop (i + 1) xs)) s u
      (subst (λ (l : List Entry). EachPeer (HasFront l) s u) (sym (next xs i d lt)) (front_then (f (take i xs)) (g (get_or xs i d)) s t u h k)) in
      subst (λ (l : List Entry). EachPeer (HasFront l) s u) (sym (both (take (i + 1) xs) (drop (i + 1) xs)) ∙ ap f (take-append-drop (i + 1) xs)) some

pub prefixes_both : (rd : Rd) (value : Value) (xs ys : List Route)
    → prefix_routes rd value (xs ++ ys) ≡ prefix_routes rd value xs ++ prefix_routes rd value ys
prefixes_both rd value xs ys = map-append _ xs ys

pub prefix_more : (rd : Rd) (value : Value) (routes : List Route) (i : ℕ) (d : Route) → i < length routes → (s t u : Tables) (made : Key)
    → EachPeer (Given (prefix_routes rd value (take i routes))) s t → made ≡ Unicast rd (get_or routes i d).prefix
    → EachPeer (λ old new. new ≡ with_route made value old) t u
    → EachPeer (Given (prefix_routes rd value (take (i + 1) routes))) s u
prefix_more rd value routes i d lt s t u made h same k =
    row_more (prefix_routes rd value) (prefixes_both rd value) (λ route. (Unicast rd route.prefix, value) ∷ []) (λ route. refl) routes i d lt s t u h
    (each_as insert same refl t u k)

pub prefix_cut : (rd : Rd) (value : Value) (routes : List Route) (i : ℕ) (d : Route) → i < length routes → (s t u : Tables) (made : Key)
    → EachPeer (Given (prefix_routes rd value (take i routes))) s t → made ≡ Unicast rd (get_or routes i d).prefix → HavePartly made value t u
    → EachPeer (HasFront (prefix_routes rd value routes)) s u
prefix_cut rd value routes i d lt s t u made h same k =
    row_cut (prefix_routes rd value) (prefixes_both rd value) (λ route. (Unicast rd route.prefix, value) ∷ []) (λ route. refl) routes i d lt s t u h
    (front_one (Unicast rd (get_or routes i d).prefix) value t u (partly_as same refl t u k))

pub prefix_end : (rd : Rd) (value : Value) (routes : List Route) (i : ℕ) → length routes ≤ i → (s t : Tables)
    → EachPeer (Given (prefix_routes rd value (take i routes))) s t → EachPeer (Given (prefix_routes rd value routes)) s t
prefix_end rd value routes i le s t h =
    row_end (prefix_routes rd value) (prefixes_both rd value) (λ route. (Unicast rd route.prefix, value) ∷ []) (λ route. refl) routes i le s t h

abbrev pub vrf_routes : EdgePlace → List homes.OwnVrf → List Entry
vrf_routes place vrfs = flat_map (start_routes place) (map as_own vrfs)

pub vrfs_both : (place : EdgePlace) (xs ys : List homes.OwnVrf) → vrf_routes place (xs ++ ys) ≡ vrf_routes place xs ++ vrf_routes place ys
vrfs_both place xs ys =
    ap (flat_map (start_routes place)) (map-append as_own xs ys) ∙ flat_map-append (start_routes place) (map as_own xs) (map as_own ys)

pub vrfs_one : (place : EdgePlace) (own : homes.OwnVrf) → vrf_routes place (own ∷ []) ≡ start_routes place (as_own own)
vrfs_one place own = append-nil (start_routes place (as_own own))

pub vrfs_more : (place : EdgePlace) (vrfs : List homes.OwnVrf) (i : ℕ) (own d : homes.OwnVrf) → i < length vrfs → (s t u : Tables)
    → EachPeer (Given (vrf_routes place (take i vrfs))) s t → own ≡ get_or vrfs i d → EachPeer (Given (start_routes place (as_own own))) t u
    → EachPeer (Given (vrf_routes place (take (i + 1) vrfs))) s u
vrfs_more place vrfs i own d lt s t u h same k =
    row_more (vrf_routes place) (vrfs_both place) (λ vrf. start_routes place (as_own vrf)) (vrfs_one place) vrfs i d lt s t u h
    (subst (λ (o : homes.OwnVrf). EachPeer (Given (start_routes place (as_own o))) t u) same k)

pub vrfs_cut : (place : EdgePlace) (vrfs : List homes.OwnVrf) (i : ℕ) (own d : homes.OwnVrf) → i < length vrfs → (s t u : Tables)
    → EachPeer (Given (vrf_routes place (take i vrfs))) s t → own ≡ get_or vrfs i d → EachPeer (HasFront (start_routes place (as_own own))) t u
    → EachPeer (HasFront (vrf_routes place vrfs)) s u
vrfs_cut place vrfs i own d lt s t u h same k =
    row_cut (vrf_routes place) (vrfs_both place) (λ vrf. start_routes place (as_own vrf)) (vrfs_one place) vrfs i d lt s t u h
    (subst (λ (o : homes.OwnVrf). EachPeer (HasFront (start_routes place (as_own o))) t u) same k)

pub vrfs_end : (place : EdgePlace) (vrfs : List homes.OwnVrf) (i : ℕ) → length vrfs ≤ i → (s t : Tables)
    → EachPeer (Given (vrf_routes place (take i vrfs))) s t → EachPeer (Given (vrf_routes place vrfs)) s t
vrfs_end place vrfs i le s t h =
    row_end (vrf_routes place) (vrfs_both place) (λ vrf. start_routes place (as_own vrf)) (vrfs_one place) vrfs i le s t h

-- ---- a table that is given entries of another

module _ (held : Table) where
  set_part : (table : Table) (e : Entry) → get held e.0 ≡ Some e.1 → (key : Key) (value : Value)
      → (get table key ≡ Some value → get held key ≡ Some value)
      → get (insert table e.0 e.1) key ≡ Some value → get held key ≡ Some value
  set_part table e at key value was h = elim (cases_Bool (eq_by_cmp key_cmp key e.0)) [
    | inl tied ↦ (
        let set : get (insert table e.0 e.1) key ≡ Some e.1 =
        maps.get-insert key_total table e.0 e.1 key ∙ ap (λ (b : Bool). cond b (Some e.1) (get table key)) tied in
        ap (get held) (one_key key_exact key e.0 tied) ∙ at ∙ sym set ∙ h)
    | inr apart ↦ was (sym (maps.get-insert key_total table e.0 e.1 key ∙ ap (λ (b : Bool). cond b (Some e.1) (get table key)) apart) ∙ h)
  ]

  set_has : (table : Table) (e : Entry) → get held e.0 ≡ Some e.1 → (key : Key) (value : Value) → get held key ≡ Some value
      → get table key ≡ Some value
      → get (insert table e.0 e.1) key ≡ Some value
  set_has table e at key value is was = elim (cases_Bool (eq_by_cmp key_cmp key e.0)) [
    | inl tied ↦
        maps.get-insert key_total table e.0 e.1 key ∙ ap (λ (b : Bool). cond b (Some e.1) (get table key)) tied
        ∙ sym at ∙ ap (get held) (sym (one_key key_exact key e.0 tied)) ∙ is
    | inr apart ↦ maps.get-insert key_total table e.0 e.1 key ∙ ap (λ (b : Bool). cond b (Some e.1) (get table key)) apart ∙ was
  ]

  set_new : (table : Table) (e : Entry) → get (insert table e.0 e.1) e.0 ≡ Some e.1
  set_new table e = maps.get-insert key_total table e.0 e.1 e.0 ∙ ap (λ (b : Bool). cond b (Some e.1) (get table e.0)) (own_key key_total e.0)

  part : (list : List Entry) (table : PeerTable) → ((e : Entry) → Among e list → get held e.0 ≡ Some e.1)
      → ((key : Key) (value : Value) → get table.set key ≡ Some value → get held key ≡ Some value)
      → (key : Key) (value : Value) → get (with_routes list table).set key ≡ Some value → get held key ≡ Some value
  part [] table each was key value h = was key value h
  part (e ∷ list) table each was key value h =
      part list (with_route e.0 e.1 table) (λ x a. each x (inr a)) (λ k v. set_part table.set e (each e (inl refl)) k v (was k v)) key value h

  has : (list : List Entry) (table : PeerTable) → ((e : Entry) → Among e list → get held e.0 ≡ Some e.1) → (key : Key) (value : Value)
      → get held key ≡ Some value
      → Among (key, value) list ⊎ (get table.set key ≡ Some value) → get (with_routes list table).set key ≡ Some value
  has [] table each key value is (inl a) = absurd a
  has [] table each key value is (inr was) = was
  has (e ∷ list) table each key value is (inl (inl same)) =
      has list (with_route e.0 e.1 table) (λ x a. each x (inr a)) key value is
      (inr (ap (λ (x : Entry). get (insert table.set e.0 e.1) x.0) same ∙ set_new table.set e ∙ ap (λ (x : Entry). Some x.1) (sym same)))
  has (e ∷ list) table each key value is (inl (inr a)) = has list (with_route e.0 e.1 table) (λ x b. each x (inr b)) key value is (inl a)
  has (e ∷ list) table each key value is (inr was) =
      has list (with_route e.0 e.1 table) (λ x b. each x (inr b)) key value is (inr (set_has table.set e (each e (inl refl)) key value is was))

  -- all entries of the other, and no other ones
  pub all_given : (list : List Entry) (table : PeerTable) → table.set ≡ empty → ((e : Entry) → Among e list → get held e.0 ≡ Some e.1)
      → ((key : Key) (value : Value) → get held key ≡ Some value → Among (key, value) list) → (with_routes list table).set ≡ held
  all_given list table none each all =
      maps.same_map key_total key_exact (with_routes list table).set held
      (λ key. by key (get (with_routes list table).set key) (get held key) refl refl)
    where
      nothing : (key : Key) (value : Value) → get table.set key ≡ Some value → get held key ≡ Some value
      nothing key value h = absurd (let bad : None ≡ Some value = sym (ap (λ (t : Table). get t key) none ∙ get-empty key_cmp key) ∙ h in cc)

      by : (key : Key) (a b : Option Value) → get (with_routes list table).set key ≡ a → get held key ≡ b → a ≡ b
      by key None None e f = refl
      by key a (Some value) e f = sym e ∙ has list table each key value f (inl (all key value f))
      by key (Some value) None e f = absurd (let bad : None ≡ Some value = sym f ∙ part list table each nothing key value e in cc)

-- ---- what an edge holds before anything happens

module _ (place : EdgePlace) (rules : Rules place.scenario) (peer : NodeId) where
  each_held : (e : Entry) → Among e (all_start_routes place) → get (held_for place no_control peer) e.0 ≡ Some e.1
  each_held e a =
      let by = flat_map_among (start_routes place) e (own_vrfs place) a in
      is_what_is_held place no_control peer e.0 e.1 rules (record {
        own = by.0;
        among = by.1;
        is = elim by.2 [
          | inl same ↦ Inclusive (ap (λ (x : Entry). x.0) same) (ap (λ (x : Entry). x.1) same)
          | inr b ↦ unicast_from place no_control by.0 e b
        ];
      })

  no_note : (note : Note) → Among note (in_order no_control.notes) → ⊥
  no_note note a =
      absurd (let bad : false ≡ true = sym (sets.contains-empty note_cmp note) ∙ contained note_total note_exact no_control.notes note a in cc)

  held_listed : (e : Entry) → IsHeld place no_control peer e → Among e (all_start_routes place)
  held_listed e (OfInclusive own a same) = among_flat_map (start_routes place) own e (own_vrfs place) a (inl same)
  held_listed e (OfUnicast own a b) = among_flat_map (start_routes place) own e (own_vrfs place) a (inr b)
  held_listed e (OfSelective own a b) = absurd (
      let is = is_selective place no_control own e b in
      let bad : None ≡ Some is.selected = sym (get-empty pattern_cmp (record { vrf = own.id; pattern = is.pattern })) ∙ is.at in cc)
  held_listed e (OfActive own a b) = absurd (
      let by = map_among (λ (note : Note). (active_key own.vrf note.source note.group, plain_value place own.vrf)) e
      (notes_of place no_control own.id) b in
      no_note by.0 (filter_among (λ (note : Note). is_iface_of place.scenario own.id note.iface) by.0 (in_order no_control.notes) by.1).0)
  held_listed e (OfJoin b) = absurd (
      let by = found_among (join_route place peer) e (maps.entries no_control.flows) b in
      let none : maps.entries no_control.flows ≡ [] = empty_entries flow_cmp in
      subst (λ (l : List (VrfFlow × Option Upstream)). Among by.0 l) none by.1)

  pub start_held : (table : PeerTable) → table.set ≡ empty → (with_routes (all_start_routes place) table).set ≡ held_for place no_control peer
  start_held table none = all_given (held_for place no_control peer) (all_start_routes place) table none each_held
      (λ key value h. held_listed (key, value) (is_held place no_control peer key value h))

pub start_all : (place : EdgePlace) → Rules place.scenario → (old new : Tables) → AreEmpty old → EachPeer (Given (all_start_routes place)) old new
    → HoldAll place no_control new
start_all place rules old new none each peer table at = by (get old peer) (get new peer) refl at (each peer)
  where
    by : (before after : Option PeerTable) → get old peer ≡ before → after ≡ Some table
        → Both {A = PeerTable} {B = PeerTable} (Given (all_start_routes place)) before after
        → table.set ≡ held_for place no_control peer
    by None None e f h = absurd cc
    by None (Some own) e f h = absurd h
    by (Some before) None e f h = absurd h
    by (Some before) (Some after) e f h =
        let same : after ≡ table = cc in
        ap (λ (t : PeerTable). t.set) (sym same ∙ h) ∙ start_held place rules peer before (none peer before e)

-- the core is not looked at
core_aside : (home : Home) (core : Core) (vrfs : List OwnVrf)
    → flat_map (start_routes (home_place home)) vrfs ≡ flat_map (start_routes (place_of home core)) vrfs
core_aside home core [] = refl
core_aside home core (own ∷ vrfs) = ap (λ (l : List Entry). start_routes (place_of home core) own ++ l) (core_aside home core vrfs)

pub home_routes : (home : Home) (core : Core) (own : List homes.OwnVrf) → map as_own own ≡ own_vrfs (place_of home core)
    → vrf_routes (home_place home) own ≡ all_start_routes (place_of home core)
home_routes home core own are = core_aside home core (map as_own own) ∙ ap (flat_map (start_routes (place_of home core))) are

-- ---- fresh tables

fresh_at : (peers : List NodeId) (peer : NodeId) (table : PeerTable) → find node_cmp peer (map (λ (p : NodeId). (p, fresh)) peers) ≡ Some table
    → table.set ≡ empty
fresh_at [] peer table h = absurd cc
fresh_at (p ∷ peers) peer table h = by (eq_by_cmp node_cmp peer p) h (fresh_at peers peer table)
  where
    by : (b : Bool) → cond b (Some fresh) (find node_cmp peer (map (λ (q : NodeId). (q, fresh)) peers)) ≡ Some table
        → (find node_cmp peer (map (λ (q : NodeId). (q, fresh)) peers) ≡ Some table → table.set ≡ empty) → table.set ≡ empty
    by true e rest = (let same : fresh ≡ table = cc in ap (λ (t : PeerTable). t.set) (sym same))
    by false e rest = rest e

pub fresh_empty : (peers : List NodeId) → AreEmpty (maps.from_entries (map (λ (p : NodeId). (p, fresh)) peers))
fresh_empty peers peer table h =
    fresh_at peers peer table (sym (maps.get-from_entries node_cmp_total (map (λ (p : NodeId). (p, fresh)) peers) peer) ∙ h)

-- What changes of what an edge holds where its flows change, and tables on the way there.
use Rattle.std.proofs.Common.{◌≡◌, ◌≢◌, ℕ, ◌==◌, ◌&&◌, nat_eq, Bool, true, false, cond, ◌⊎◌, inl, inr, List, [], ◌∷◌, ◌++◌, Option, Some, None, refl, sym, ap, subst, ◌∙◌}
use Rattle.std.specs.FinMap as maps
use Rattle.std.specs.FinMap.{FinMap, find, get, insert, remove}
use Rattle.std.specs.Ordering.{eq_by_cmp}
use Rattle.std.specs.Cmp.Lexicographic.{bytes_decides, pointwise}
use Rattle.std.specs.List.{list_any}
use Rattle.std.proofs.lemmas.Bool.{and_parts, cases_Bool, eq-eqb, eqb-true}
use Rattle.mv_base.specs.Lists.{Among}
use Rattle.mv_base.specs.Number.{only_if}
use Rattle.mv_base.specs.declared.ids.NodeId.{NodeId}
use Rattle.mv_base.specs.declared.ids.VrfId.{VrfId}
use Rattle.mv_base.specs.declared.rd.Rd.{Rd}
use Rattle.bgp_values.specs.declared.mvpn_nlri.route.Afi.{Afi}
use Rattle.bgp_values.specs.declared.mvpn_nlri.route.Afi.TheVariants.{Ipv4, Ipv6}
use Rattle.bgp_values.specs.declared.mvpn_nlri.route.Route.TheVariants as routes
use Rattle.bgp_messages.specs.declared.bgp_attributes.key.Key.{Key}
use Rattle.bgp_messages.specs.declared.bgp_attributes.key.Key.TheVariants as keys
use Rattle.bgp_messages.specs.bgp_update.Written.{afi_of}
use Rattle.table_laws.proofs.CompareLemmas.{one_key, own_key, other_key}
use Rattle.vrf_words.specs.declared.tree_defs.flow.Flow.{Flow}
use Rattle.edge_defs.specs.Edge.{Control, Import, Remote, Site, Upstream, VrfFlow, flow_cmp}
use Rattle.edge_defs.specs.Held.{held_for, join_route, join_routes}
use Rattle.edge_defs.specs.Keys.{Table, Value, key_cmp}
use Rattle.edge_defs.specs.Originated.{originated}
use Rattle.edge_defs.specs.Place.{EdgePlace, own_vrfs}
use Rattle.edge_defs.proofs.KeyLemmas.{flow_exact, flow_total, key_exact, key_total}
use Rattle.edge_tables.specs.Tables.{AtPeer, Both, PeerTable, Tables}
use Rattle.vrf_words.proofs.edge_words.calm_laws.Entries.{Entry, join_kind, kind_of}
use Rattle.vrf_words.proofs.edge_words.calm_laws.Lists.{among_after, among_flat_map, among_front, any_among, any_from}
use Rattle.vrf_words.specs.edge_words.held_laws.Held.{IsJoinKey}
use Rattle.vrf_words.proofs.edge_words.held_laws.Originated.{no_join}
use Rattle.vrf_words.specs.tree_laws.Joins.{AreOfVrfs, join_key}
use Rattle.vrf_words.specs.tree_laws.TreeOf.{flow_in}
use Rattle.vrf_words.proofs.tree_laws.Joins.{joins_by_vrfs, told_alike}
use Rattle.vrf_words.proofs.tree_laws.Joins as trees
use Rattle.held_tables.specs.Holding.{HoldAll}
use Rattle.held_tables.specs.Joins.{AreOthersAlike, HoldAllBut, join_to, joins_at, joins_of_changed, value_towards, with_flows}

-- ---- keys that are no joins

find_none : (key : Key) (ys : List Entry) → ((entry : Entry) → Among entry ys → key ≢ entry.0) → find key_cmp key ys ≡ None
find_none key [] none = refl
find_none key (y ∷ ys) none =
    ap (λ (b : Bool). cond b (Some y.1) (find key_cmp key ys)) (other_key key_exact key y.0 (none y (inl refl)))
    ∙ find_none key ys (λ entry a. none entry (inr a))

find_front : (key : Key) (xs ys : List Entry) → find key_cmp key ys ≡ None → find key_cmp key (xs ++ ys) ≡ find key_cmp key xs
find_front key [] ys none = none
find_front key (x ∷ xs) ys none = ap (cond (eq_by_cmp key_cmp key x.0) (Some x.1)) (find_front key xs ys none)

held_front : (place : EdgePlace) (control : Control) (peer : NodeId) (key : Key) → (kind_of key == 7) ≡ false
    → maps.get (held_for place control peer) key ≡ find key_cmp key (originated place control)
held_front place control peer key not =
    maps.get-from_entries key_total (originated place control ++ join_routes place control peer) key
    ∙ find_front key (originated place control) (join_routes place control peer) (find_none key (join_routes place control peer) (λ entry a same.
    let kind : kind_of key ≡ 7 = ap kind_of same ∙ join_kind place control peer entry a in
    let bad : true ≡ false = sym (eq-eqb (kind_of key) 7 kind) ∙ not in cc))

others_alike : (place : EdgePlace) (control : Control) (flows : FinMap flow_cmp (Option Upstream)) (peer : NodeId) (key : Key)
    → (kind_of key == 7) ≡ false
    → maps.get (held_for place (with_flows control flows) peer) key ≡ maps.get (held_for place control peer) key
others_alike place control flows peer key not = held_front place (with_flows control flows) peer key not ∙ sym (held_front place control peer key not)

pub others : (place : EdgePlace) (control : Control) (flows : FinMap flow_cmp (Option Upstream)) (peer : NodeId) (key : Key) → (IsJoinKey key → ⊥)
    → maps.get (held_for place (with_flows control flows) peer) key ≡ maps.get (held_for place control peer) key
others place control flows peer key not = others_alike place control flows peer key (no_join key not)

-- ---- joins

pub joins : (place : EdgePlace) (old new : Control) (peer : NodeId) (rd : Rd) (source_as : ℕ) (flow : Flow) → AreOfVrfs place old
    → AreOfVrfs place new
    → ((vrf : VrfId) → join_to place peer rd source_as (maps.get new.flows (flow_in vrf flow))
    ≡ join_to place peer rd source_as (maps.get old.flows (flow_in vrf flow)))
    → maps.get (held_for place new peer) (join_key (afi_of flow.source) rd source_as flow)
    ≡ maps.get (held_for place old peer) (join_key (afi_of flow.source) rd source_as flow)
joins place old new peer rd source_as flow was is alike =
    joins_by_vrfs place new peer rd source_as flow is
    ∙ told_alike (λ own. join_to place peer rd source_as (maps.get new.flows (flow_in own.id flow)))
    (λ own. join_to place peer rd source_as (maps.get old.flows (flow_in own.id flow)))
    (λ own. alike own.id) (own_vrfs place)
    ∙ sym (joins_by_vrfs place old peer rd source_as flow was)

-- ---- tables on the way

-- the parts of the key of a join
record IsJoin (key : Key) : Type 0 where
  pub afi : Afi
  pub rd : Rd
  pub source_as : ℕ
  pub flow : Flow
  pub is : key ≡ join_key afi rd source_as flow

join_parts : (key : Key) → (kind_of key == 7) ≡ true → IsJoin key
join_parts (keys.Unicast rd prefix) h = absurd cc
join_parts (keys.Mcast afi (routes.Intra rd originator)) h = absurd cc
join_parts (keys.Mcast afi (routes.Inter rd source_as)) h = absurd cc
join_parts (keys.Mcast afi (routes.Selective rd source group originator)) h = absurd cc
join_parts (keys.Mcast afi (routes.Leaf key originator)) h = absurd cc
join_parts (keys.Mcast afi (routes.Active rd source group)) h = absurd cc
join_parts (keys.Mcast afi (routes.SharedJoin rd source_as source group)) h = absurd cc
join_parts (keys.Mcast afi (routes.SourceJoin rd source_as source group)) h =
    record { afi = afi; rd = rd; source_as = source_as; flow = record { source = source; group = group }; is = refl }
join_parts (keys.Mcast afi (routes.Other kind octets)) h = absurd cc

one_family : (own other : Afi) → (own ≡ other) ⊎ (own ≡ other → ⊥)
one_family Ipv4 Ipv4 = inl refl
one_family Ipv6 Ipv6 = inl refl
one_family Ipv4 Ipv6 = inr (λ same. cc)
one_family Ipv6 Ipv4 = inr (λ same. cc)

module _ (place : EdgePlace) (control : Control) (flows : FinMap flow_cmp (Option Upstream)) (but : List (NodeId × Key))
    (was : AreOfVrfs place control) (is : AreOfVrfs place (with_flows control flows))
    (alike : AreOthersAlike place control (with_flows control flows) but) where
  joins_stay : (peer : NodeId) (key : Key) → IsJoin key → (Among (peer, key) but → ⊥)
      → maps.get (held_for place (with_flows control flows) peer) key ≡ maps.get (held_for place control peer) key
  joins_stay peer key join apart = elim (one_family join.afi (afi_of join.flow.source)) [
    | inl same ↦
        (let whole : key ≡ join_key (afi_of join.flow.source) join.rd join.source_as join.flow =
        join.is ∙ (λ i. join_key (same i) join.rd join.source_as join.flow) in
        ap (maps.get (held_for place (with_flows control flows) peer)) whole
        ∙ joins place control (with_flows control flows) peer join.rd join.source_as join.flow was is
        (alike peer join.rd join.source_as join.flow (λ a. apart (subst (λ (k : Key). Among (peer, k) but) (sym whole) a)))
        ∙ sym (ap (maps.get (held_for place control peer)) whole))
    | inr other ↦
        ap (maps.get (held_for place (with_flows control flows) peer)) join.is
        ∙ trees.no_join place (with_flows control flows) peer join.afi join.rd join.source_as join.flow other
        ∙ sym (ap (maps.get (held_for place control peer)) join.is ∙ trees.no_join place control peer join.afi join.rd join.source_as join.flow other)
  ]

  pub begun : (tables : Tables) → HoldAll place control tables → HoldAllBut place (with_flows control flows) but tables
  begun tables hold = record {
    elsewhere = λ peer table key at apart.
        ap (λ (t : Table). maps.get t key) (hold peer table at)
        ∙ sym (elim (cases_Bool (kind_of key == 7)) [
          | inl join ↦ joins_stay peer key (join_parts key join) apart
          | inr not ↦ others_alike place control flows peer key not
        ]);
  }

pub ended : (place : EdgePlace) (control : Control) (tables : Tables) → HoldAllBut place control [] tables → HoldAll place control tables
ended place control tables hold peer table at =
    maps.same_map key_total key_exact table.set (held_for place control peer) (λ key. hold.elsewhere peer table key at (λ a. a))

-- ---- one key less

same_node : (own other : NodeId) → own.0 ≡ other.0 → own ≡ other
same_node own other h = λ i. record { 0 = h i }

module _ (place : EdgePlace) (control : Control) (but : List (NodeId × Key)) (peer : NodeId) (key : Key) (change : Table → Table) (old new : Tables)
    (at : AtPeer peer (λ before thereafter. thereafter ≡ record before { set = change before.set }) old new)
    (here : (before : Table) → maps.get (change before) key ≡ maps.get (held_for place control peer) key)
    (apart : (before : Table) (other : Key) → other ≢ key → maps.get (change before) other ≡ maps.get before other)
    (hold : HoldAllBut place control ((peer, key) ∷ but) old) where
  at_peer : (table : PeerTable) (q : Key) → (Among (peer, q) but → ⊥) → (before after : Option PeerTable) → get old peer ≡ before → after ≡ Some table
      → Both {A = PeerTable} {B = PeerTable} (λ before thereafter. thereafter ≡ record before { set = change before.set }) before after
      → maps.get table.set q ≡ maps.get (held_for place control peer) q
  at_peer table q f None None e g h = absurd cc
  at_peer table q f None (Some own) e g h = absurd h
  at_peer table q f (Some before) None e g h = absurd h
  at_peer table q f (Some before) (Some after) e g h =
      let same : after ≡ table = cc in
      let set : table.set ≡ change before.set = ap (λ (t : PeerTable). t.set) (sym same ∙ h) in
      ap (λ (t : Table). maps.get t q) set ∙ elim (cases_Bool (eq_by_cmp key_cmp q key)) [
        | inl tied ↦
            (let one : q ≡ key = one_key key_exact q key tied in
            ap (maps.get (change before.set)) one ∙ here before.set ∙ sym (ap (maps.get (held_for place control peer)) one))
        | inr not ↦
            (let other : q ≢ key =
            λ one. (let bad : true ≡ false = sym (ap (λ (x : Key). eq_by_cmp key_cmp x key) one ∙ own_key key_total key) ∙ not in cc) in
            apart before.set q other ∙ hold.elsewhere peer before q e (λ a. elim a [
              | inl pair ↦ other (ap (λ (p : NodeId × Key). p.1) pair)
              | inr b ↦ f b
            ]))
      ]

  pub one_less : HoldAllBut place control but new
  one_less = record {
    elsewhere = λ other table q e f. elim (cases_Bool (other.0 == peer.0)) [
      | inl tied ↦
          (let one : other ≡ peer = same_node other peer (eqb-true other.0 peer.0 tied) in
          subst (λ (n : NodeId). maps.get table.set q ≡ maps.get (held_for place control n) q) (sym one)
          (at_peer table q (λ a. f (subst (λ (n : NodeId). Among (n, q) but) (sym one) a)) (get old peer) (get new peer) refl
          (ap (get new) (sym one) ∙ e) at.0))
      | inr not ↦
          (let far : other ≢ peer = λ one. (let bad : true ≡ false = sym (eq-eqb other.0 peer.0 (ap (λ (n : NodeId). n.0) one)) ∙ not in cc) in
          hold.elsewhere other table q (sym (at.1 other far) ∙ e) (λ a. elim a [
            | inl pair ↦ far (ap (λ (p : NodeId × Key). p.0) pair)
            | inr b ↦ f b
          ]))
    ];
  }

-- a route at the key, and none
pub here_set : (key : Key) (value : Value) (before : Table) → maps.get (insert before key value) key ≡ Some value
here_set key value before =
    maps.get-insert key_total before key value key ∙ ap (λ (b : Bool). cond b (Some value) (maps.get before key)) (own_key key_total key)

pub here_gone : (key : Key) (before : Table) → maps.get (remove before key) key ≡ None
here_gone key before = maps.get-remove key_total before key key ∙ ap (λ (b : Bool). cond b None (maps.get before key)) (own_key key_total key)

pub apart_set : (key : Key) (value : Value) (before : Table) (other : Key) → other ≢ key
    → maps.get (insert before key value) other ≡ maps.get before other
apart_set key value before other ne =
    maps.get-insert key_total before key value other
    ∙ ap (λ (b : Bool). cond b (Some value) (maps.get before other)) (other_key key_exact other key ne)

pub apart_gone : (key : Key) (before : Table) (other : Key) → other ≢ key → maps.get (remove before key) other ≡ maps.get before other
apart_gone key before other ne =
    maps.get-remove key_total before key other ∙ ap (λ (b : Bool). cond b None (maps.get before other)) (other_key key_exact other key ne)

-- the value of the join towards an edge
pub value_is : (place : EdgePlace) (peer : NodeId) (flow : VrfFlow) (rd : Rd) (import : Import) (source_as : ℕ) (made : Key × Value)
    → join_route place peer (flow, Some (Remote peer rd import source_as)) ≡ Some made → made.1 ≡ value_towards place import
value_is place peer flow rd import source_as made h = by (peer.0 == peer.0) (eq-eqb peer.0 peer.0 refl) h
  where
    by : (b : Bool) → b ≡ true → cond b (Some (
      keys.Mcast (afi_of flow.source) (routes.SourceJoin rd source_as flow.source flow.group),
      value_towards place import,
    )) None ≡ Some made
        → made.1 ≡ value_towards place import
    by true e f =
        (let same : (keys.Mcast (afi_of flow.source) (routes.SourceJoin rd source_as flow.source flow.group), value_towards place import) ≡ made =
        cc in ap (λ (x : Key × Value). x.1) (sym same))
    by false e f = absurd (let bad : false ≡ true = e in cc)

-- ---- the joins of flows that changed

silent : (place : EdgePlace) (peer : NodeId) (rd : Rd) (source_as : ℕ) (flow : Flow) (vrf : VrfId) (up : Option (Option Upstream))
    → (Among (peer, join_key (afi_of flow.source) rd source_as flow) (joins_at (flow_in vrf flow) up) → ⊥) → join_to place peer rd source_as up ≡ None
silent place peer rd source_as flow vrf None none = refl
silent place peer rd source_as flow vrf (Some None) none = refl
silent place peer rd source_as flow vrf (Some (Some (Site site))) none = refl
silent place peer rd source_as flow vrf (Some (Some (Remote edge own_rd import own_as))) none =
    by ((edge.0 == peer.0) && (pointwise nat_eq own_rd.0 rd.0 && (own_as == source_as))) refl
  where
    by : (b : Bool) → ((edge.0 == peer.0) && (pointwise nat_eq own_rd.0 rd.0 && (own_as == source_as))) ≡ b
        → only_if b (value_towards place import) ≡ None
    by false e = refl
    by true e =
        let first = and_parts (edge.0 == peer.0) (pointwise nat_eq own_rd.0 rd.0 && (own_as == source_as)) e in
        let rest = and_parts (pointwise nat_eq own_rd.0 rd.0) (own_as == source_as) first.1 in
        let edges : peer.0 ≡ edge.0 = sym (eqb-true edge.0 peer.0 first.0) in
        let rds : rd.0 ≡ own_rd.0 = sym ((bytes_decides own_rd.0 rd.0).0 rest.0) in
        let systems : source_as ≡ own_as = sym (eqb-true own_as source_as rest.1) in
        absurd (none (inl (λ i. (record { 0 = edges i }, join_key (afi_of flow.source) (record { 0 = rds i }) (systems i) flow))))

pub changed_alike : (place : EdgePlace) (old new : Control) (changed : List VrfFlow)
    → ((flow : VrfFlow) → (Among flow changed → ⊥) → get new.flows flow ≡ get old.flows flow)
    → AreOthersAlike place old new (joins_of_changed old new changed)
changed_alike place old new changed same peer rd source_as flow apart vrf = elim (cases_Bool (list_any (eq_by_cmp flow_cmp at) changed)) [
  | inl some ↦ (
      let found = any_among (eq_by_cmp flow_cmp at) changed some in
      let one : at ≡ found.0 = one_key flow_exact at found.0 found.2 in
      let here : Among at changed = subst (λ (f : VrfFlow). Among f changed) (sym one) found.1 in
      silent place peer rd source_as flow vrf (get new.flows at)
      (λ a. apart (among_flat_map touched at join changed here
      (among_after join (joins_at at (get old.flows at)) (joins_at at (get new.flows at)) a)))
      ∙ sym (silent place peer rd source_as flow vrf (get old.flows at)
      (λ a. apart (among_flat_map touched at join changed here
      (among_front join (joins_at at (get old.flows at)) (joins_at at (get new.flows at)) a)))))
  | inr none ↦
      ap (join_to place peer rd source_as) (same at
      (λ a. let bad : true ≡ false = sym (any_from (eq_by_cmp flow_cmp at) at changed a (own_key flow_total at)) ∙ none in cc))
]
  where
    at : VrfFlow
    at = flow_in vrf flow

    join : NodeId × Key
    join = (peer, join_key (afi_of flow.source) rd source_as flow)

    touched : VrfFlow → List (NodeId × Key)
    touched f = joins_at f (get old.flows f) ++ joins_at f (get new.flows f)

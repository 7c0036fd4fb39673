-- What the tree of a VRF keeps where all routes of a peer are lost.
use Rattle.vrf_words.proofs.edge_words.calm_laws.Lists.{not_both}
use Rattle.std.proofs.lemmas.Option.{same_Some}
use Rattle.std.proofs.Common.{◌≡◌, ◌↔◌, ◌==◌, Bool, true, false, cond, inl, inr, not, List, [], ◌∷◌, is_some, fold, Option, Some, None, refl, sym, ap, subst, ◌∙◌}
use Rattle.std.specs.declared.cmp.Ordering.{Ordering}
use Rattle.std.specs.Cmp.{IsTotalOrder}
use Rattle.std.specs.List.{filter}
use Rattle.std.specs.FinMap as maps
use Rattle.std.specs.FinMap.{FinMap, IsAntisymmetric}
use Rattle.std.specs.FinMap.Entries.{find-where_key, is_sorted-where_key}
use Rattle.std.specs.FinSet as sets
use Rattle.std.specs.FinSet.{FinSet}
use Rattle.std.specs.Ordering.{eq_by_cmp}
use Rattle.mv_base.specs.Lists.{Among}
use Rattle.mv_base.specs.Number.{◌>>?◌}
use Rattle.mv_base.proofs.CutLemmas.{next_some}
use Rattle.mv_base.specs.declared.ids.NodeId.{NodeId}
use Rattle.bgp_values.specs.declared.mvpn_nlri.route.Route.TheVariants as routes
use Rattle.bgp_messages.specs.declared.bgp_attributes.key.Key.{Key}
use Rattle.bgp_messages.specs.declared.bgp_attributes.key.Key.TheVariants.{Mcast, Unicast}
use Rattle.label_defs.specs.Keys.{node_cmp}
use Rattle.label_defs.proofs.KeyLemmas.{node_cases, node_equal, node_itself}
use Rattle.selective.specs.Leaves as leaves
use Rattle.selective.specs.Order.{route_cmp}
use Rattle.selective.proofs.OrderLemmas.{route_exact}
use Rattle.selective.specs.declared.route_key.Learned.{Learned}
use Rattle.selective.specs.declared.route_key.RouteKey as selective_keys
use Rattle.umh_select.specs.Order as unicast_order
use Rattle.umh_select.specs.Routes.{is_from, key_from, without_peer}
use Rattle.umh_select.specs.declared.key.RouteKey.{RouteKey}
use Rattle.umh_select.specs.declared.route.Held.{Held}
use Rattle.umh_select.proofs.OrderLemmas as unicast_lemmas
use Rattle.vrf_words.specs.declared.tree_defs.flow.ActiveRoute.{ActiveRoute}
use Rattle.vrf_words.specs.declared.tree_defs.flow.TakenJoin.{TakenJoin}
use Rattle.vrf_words.specs.tree_defs.Keys.{active_cmp}
use Rattle.vrf_words.specs.tree_defs.Trees.{TreeData, join_cmp}
use Rattle.vrf_words.proofs.tree_defs.KeyLemmas.{active_total, active_exact}
use Rattle.edge_defs.specs.Edge.{Control, Taken, TakenRoute}
use Rattle.edge_defs.specs.Imported.{FlowRoute, imported_join, taken_from}
use Rattle.edge_defs.specs.Keys.{key_cmp}
use Rattle.edge_defs.specs.Place.{EdgePlace, OwnVrf}
use Rattle.edge_defs.proofs.KeyLemmas.{key_exact}
use Rattle.vrf_words.proofs.edge_words.edge_laws.Taken.{table_in, taken_off, kept_other}
use Rattle.vrf_words.proofs.edge_words.calm_laws.Maps.{get_entry}
use Rattle.vrf_words.specs.tree_laws.TreeOf.{held_from}
use Rattle.control_laws.specs.Peers.{AreWritable, IsTreeBetween, active_of, join_of, left_with, tree_lost, tree_without, with_actives, with_joined, with_learned, with_selective}
use Rattle.control_laws.proofs.PeersKinds.{active_where, join_where, selective_where, tables_of, tell_active, tell_join, tell_selective, tell_unicast}
use Rattle.control_laws.proofs.PeersMaps.{itself_by, join_by, join_exact, join_total, one_by, set_dropped}
use Rattle.control_laws.proofs.PeersParts.{Parts, customers_of, flag, parts_of, same_parts, tree_of}
use Rattle.control_laws.proofs.PeersTables.{AreSpelled, at_own, at_other, with_table}
use Rattle.control_laws.proofs.PeersTold.{Loses, Tables, Told, dropped, first_of, kept_of, lost_iff, of_kept, told_first}

-- ---- maps without the routes of a peer

get_where : {K X : Type 0} (R : K → K → Ordering) → IsAntisymmetric R → (p : K → Bool) (m : FinMap R X) (q : K)
    → maps.get (maps.from_sorted {R = R} (filter (λ e. p e.0) (maps.entries m))) q ≡ cond (p q) (maps.get m q) None
get_where R exact p m q =
    maps.get-from_sorted R (filter (λ e. p e.0) (maps.entries m)) q (is_sorted-where_key R p (maps.entries m) (maps.entries_sorted m))
    ∙ find-where_key R p q (λ x tied. ap p (sym (exact q x tied))) (maps.entries m)
    ∙ ap (λ (o : Option _). cond (p q) o None) (sym (maps.get-entries m q))

when_other : {V : Type 0} (mine : Bool) (o : Option V) (v : V) → cond (not mine) o None ≡ Some v → (o ≡ Some v) × (mine ≡ false)
when_other true o v h = absurd cc
when_other false o v h = (h, refl)

-- ---- sets without some keys

module _ {K E : Type 0} {R : K → K → Ordering} (total : IsTotalOrder R) (exact : IsAntisymmetric R) (drops : E → Option K) where
  abbrev pub drop_one : FinSet R → Option K → FinSet R
  drop_one s None = s
  drop_one s (Some k) = sets.remove s k

  abbrev pub drop_all : FinSet R → List E → FinSet R
  drop_all s [] = s
  drop_all s (e ∷ es) = drop_all (drop_one s (drops e)) es

  at_one : (s : FinSet R) (o : Option K) (x : K) → flag (sets.contains (drop_one s o) x) ≡ dropped (eq_by_cmp R) o x (flag (sets.contains s x))
  at_one s None x = refl
  at_one s (Some k) x = set_dropped total s k x

  abbrev Left : FinSet R → List E → K → Type 0
  Left s es x = (flag (sets.contains s x) ≡ Some tt) × ((e : E) → Among e es → drops e ≡ Some x → ⊥)

  left_from : (s : FinSet R) (es : List E) (x : K) → flag (sets.contains (drop_all s es) x) ≡ Some tt → Left s es x
  left_from s [] x h = (h, λ e a is. a)
  left_from s (e ∷ es) x h =
      let rest = left_from (drop_one s (drops e)) es x h in
      let both =
      kept_of (eq_by_cmp R) (one_by R exact) (itself_by R total) (drops e) x tt (flag (sets.contains s x)) (sym (at_one s (drops e) x) ∙ rest.0)
      in
      (both.0, λ other a is. elim a [ inl same ↦ both.1 (ap drops (sym same) ∙ is) | inr b ↦ rest.1 other b is ])

  left_to : (s : FinSet R) (es : List E) (x : K) → Left s es x → flag (sets.contains (drop_all s es) x) ≡ Some tt
  left_to s [] x left = left.0
  left_to s (e ∷ es) x left =
      left_to (drop_one s (drops e)) es x (
        at_one s (drops e) x ∙ of_kept (eq_by_cmp R) (one_by R exact) (itself_by R total) (drops e) x tt (flag (sets.contains s x)) left.0
            (left.1 e (inl refl)),
        λ other a. left.1 other (inr a),
      )

-- ---- what a route of the peer drops

abbrev active_in : NodeId → Key → Option ActiveRoute
active_in peer (Mcast afi (routes.Active rd source group)) = Some (active_of peer rd source group)
active_in peer other = None

abbrev active_dropped : NodeId → Key × TakenRoute → Option ActiveRoute
active_dropped peer entry = active_in peer entry.0

abbrev join_dropped : EdgePlace → OwnVrf → NodeId → Key × TakenRoute → Option TakenJoin
join_dropped place own peer entry = first_of (imported_join place own.vrf entry >>? join_by peer)

active_peer : (peer : NodeId) (key : Key) (x : ActiveRoute) → active_in peer key ≡ Some x → x.peer ≡ peer
active_peer peer (Unicast rd prefix) x h = absurd cc
active_peer peer (Mcast afi (routes.Intra rd originator)) x h = absurd cc
active_peer peer (Mcast afi (routes.Inter rd source_as)) x h = absurd cc
active_peer peer (Mcast afi (routes.Selective rd source group originator)) x h = absurd cc
active_peer peer (Mcast afi (routes.Leaf key originator)) x h = absurd cc
active_peer peer (Mcast afi (routes.Active rd source group)) x h =
    ap (λ (r : ActiveRoute). r.peer) (sym (same_Some (active_of peer rd source group) x h))
active_peer peer (Mcast afi (routes.SharedJoin rd source_as source group)) x h = absurd cc
active_peer peer (Mcast afi (routes.SourceJoin rd source_as source group)) x h = absurd cc
active_peer peer (Mcast afi (routes.Other kind octets)) x h = absurd cc

module _ (place : EdgePlace) (own : OwnVrf) (peer : NodeId) where
  abbrev actives_left : FinSet active_cmp → List (Key × TakenRoute) → FinSet active_cmp
  actives_left s es = drop_all active_total active_exact (active_dropped peer) s es

  abbrev joined_left : FinSet join_cmp → List (Key × TakenRoute) → FinSet join_cmp
  joined_left s es = drop_all join_total join_exact (join_dropped place own peer) s es

  abbrev with_left : TreeData → List (Key × TakenRoute) → TreeData
  with_left tree es = with_actives (actives_left tree.vrf.actives es) (with_joined (joined_left tree.joined es) tree)

  one_left : (o : Option FlowRoute) (joined : FinSet join_cmp)
      → left_with peer o joined ≡ drop_one join_total join_exact (join_dropped place own peer) joined (first_of (o >>? join_by peer))
  one_left None joined = refl
  one_left (Some flow) joined = refl

  join_left : (tree : TreeData) (entry : Key × TakenRoute)
      → with_joined (left_with peer (imported_join place own.vrf entry) tree.joined) tree
      ≡ with_joined (drop_one join_total join_exact (join_dropped place own peer) tree.joined (join_dropped place own peer entry)) tree
  join_left tree entry = ap (λ (j : FinSet join_cmp). with_joined j tree) (one_left (imported_join place own.vrf entry) tree.joined)

  step : (tree : TreeData) (key : Key) (taken : TakenRoute) → tree_without place own peer tree (key, taken) ≡ with_left tree ((key, taken) ∷ [])
  step tree (Unicast rd prefix) taken = join_left tree (Unicast rd prefix, taken)
  step tree (Mcast afi (routes.Intra rd originator)) taken = join_left tree (Mcast afi (routes.Intra rd originator), taken)
  step tree (Mcast afi (routes.Inter rd source_as)) taken = join_left tree (Mcast afi (routes.Inter rd source_as), taken)
  step tree (Mcast afi (routes.Selective rd source group originator)) taken =
      join_left tree (Mcast afi (routes.Selective rd source group originator), taken)
  step tree (Mcast afi (routes.Leaf key originator)) taken = join_left tree (Mcast afi (routes.Leaf key originator), taken)
  step tree (Mcast afi (routes.Active rd source group)) taken = refl
  step tree (Mcast afi (routes.SharedJoin rd source_as source group)) taken =
      join_left tree (Mcast afi (routes.SharedJoin rd source_as source group), taken)
  step tree (Mcast afi (routes.SourceJoin rd source_as source group)) taken =
      join_left tree (Mcast afi (routes.SourceJoin rd source_as source group), taken)
  step tree (Mcast afi (routes.Other kind octets)) taken = join_left tree (Mcast afi (routes.Other kind octets), taken)

  -- the tree without all of these is the tree with what is left of both sets
  all_left : (tree : TreeData) (es : List (Key × TakenRoute)) → fold (tree_without place own peer) tree es ≡ with_left tree es
  all_left tree [] = refl
  all_left tree (e ∷ es) = all_left (tree_without place own peer tree e) es ∙ ap (λ (t : TreeData). with_left t es) (step tree e.0 e.1)

-- ---- the parts

module _ (place : EdgePlace) (own : OwnVrf) (before after : Tables) (peer : NodeId) (taken : Taken)
    (at : (key : Key) → before peer key ≡ maps.get taken key)
    (loses : Loses before after peer) (tree : TreeData) (parts : Parts place own before tree) where
  not_other : (a b : NodeId) → (a ≡ b → ⊥) → (a.0 == b.0) ≡ false
  not_other a b ne = by (a.0 == b.0) refl
    where
      by : (t : Bool) → (a.0 == b.0) ≡ t → t ≡ false
      by true e = absurd (ne (node_equal a b e))
      by false e = refl

  -- a route that gives a key of a map is of the peer where the key is
  from_peer : (x : RouteKey) (held : Held) (q : NodeId) (k : Key) (t : TakenRoute) → tell_unicast place own q k t ≡ Some (x, held)
      → is_from peer x.place ≡ (q.0 == peer.0)
  from_peer x held q (Mcast afi route) t tells = absurd cc
  from_peer x held q (Unicast rd prefix) t tells =
      next_some (λ (h : Held). Some (key_from q rd prefix, h)) (held_from place own.vrf q t.value) (x, held) tells
      (λ found from k. ap (λ (e : RouteKey × Held). is_from peer e.0.place) (sym (same_Some (key_from q rd prefix, found) (x, held) k)))

  unicast_lost : (x : RouteKey) (held : Held) → (maps.get (without_peer peer tree.vrf.routes.learned) x ≡ Some held) ↔ Told (tell_unicast place own)
      after x held
  unicast_lost =
      lost_iff (tell_unicast place own) before after peer loses (maps.get tree.vrf.routes.learned)
      (maps.get (without_peer peer tree.vrf.routes.learned)) parts.unicast
      (λ x v h.
      let both = when_other (is_from peer x.place) (maps.get tree.vrf.routes.learned x) v (sym (left x) ∙ h) in (
        both.0,
        λ told same. not_both (told.peer.0 == peer.0) (node_itself told.peer peer same)
            (sym (from_peer x v told.peer told.key told.route told.tells) ∙ both.1),
      ))
      (λ x v told ne. left x ∙ ap (λ (b : Bool). cond (not b) (maps.get tree.vrf.routes.learned x) None)
      (from_peer x v told.peer told.key told.route told.tells ∙ not_other told.peer peer ne))
    where
      left : (x : RouteKey) → maps.get (without_peer peer tree.vrf.routes.learned) x
          ≡ cond (not (is_from peer x.place)) (maps.get tree.vrf.routes.learned x) None
      left x = get_where unicast_order.key_cmp unicast_lemmas.key_exact (λ (key : RouteKey). not (is_from peer key.place)) tree.vrf.routes.learned x

  selective_lost : (x : selective_keys.RouteKey) (learned : Learned)
      → (maps.get (leaves.without_peer peer tree.leaf.routes) x ≡ Some learned) ↔ Told (tell_selective place own) after x learned
  selective_lost =
      lost_iff (tell_selective place own) before after peer loses (maps.get tree.leaf.routes) (maps.get (leaves.without_peer peer tree.leaf.routes))
      parts.selective
      (λ x v h.
      let both = when_other (x.peer.0 == peer.0) (maps.get tree.leaf.routes x) v (sym (left x) ∙ h) in
      (both.0, λ told same. not_both (x.peer.0 == peer.0) (node_itself x.peer peer (sym (peer_in x v told) ∙ same)) both.1))
      (λ x v told ne. left x ∙ ap (λ (b : Bool). cond (not b) (maps.get tree.leaf.routes x) None)
      (not_other x.peer peer (λ e. ne (peer_in x v told ∙ e))))
    where
      peer_in : (x : selective_keys.RouteKey) (v : Learned) (told : Told (tell_selective place own) before x v) → told.peer ≡ x.peer
      peer_in x v told = ap (λ (k : selective_keys.RouteKey). k.peer) (selective_where place own before x v told).is

      left : (x : selective_keys.RouteKey) → maps.get (leaves.without_peer peer tree.leaf.routes) x
          ≡ cond (not (x.peer.0 == peer.0)) (maps.get tree.leaf.routes x) None
      left x = get_where route_cmp route_exact (λ (key : selective_keys.RouteKey). not (key.peer.0 == peer.0)) tree.leaf.routes x

  -- a route of the peer is in its table
  listed : (q : NodeId) (k : Key) (t : TakenRoute) → before q k ≡ Some t → q ≡ peer → Among (k, t) (maps.entries taken)
  listed q k t is same = get_entry key_exact taken k t (sym (at k) ∙ (λ i. before (sym same i) k) ∙ is)

  actives_lost : (x : ActiveRoute) → (flag (sets.contains (actives_left place own peer tree.vrf.actives (maps.entries taken)) x) ≡ Some tt) ↔ Told
      (tell_active own) after x tt
  actives_lost x = lost_iff (tell_active own) before after peer loses (λ y. flag (sets.contains tree.vrf.actives y))
      (λ y. flag (sets.contains (actives_left place own peer tree.vrf.actives (maps.entries taken)) y)) (λ y v. parts.actives y)
      (λ y v h.
      let was = left_from active_total active_exact (active_dropped peer) tree.vrf.actives (maps.entries taken) y h in (
        was.0,
        λ told same.
            let of_told = active_where own before y told in
            let of_peer : y.peer ≡ peer = sym of_told.of_peer ∙ same in
            was.1 (told.key, told.route) (listed told.peer told.key told.route told.is same)
            (ap (active_in peer) of_told.is ∙ (λ i. Some (active_of (sym of_peer i) (record { 0 = y.rd }) y.flow.source y.flow.group))),
      ))
      (λ y v told ne.
      let was = (parts.actives y).1 told in
      left_to active_total active_exact (active_dropped peer) tree.vrf.actives (maps.entries taken) y
      (was, λ e a is. ne ((active_where own before y told).of_peer ∙ active_peer peer e.0 y is)) ∙ sym was)
      x tt

  joined_lost : (x : TakenJoin) → (flag (sets.contains (joined_left place own peer tree.joined (maps.entries taken)) x) ≡ Some tt) ↔ Told
      (tell_join place own) after x tt
  joined_lost x = lost_iff (tell_join place own) before after peer loses (λ y. flag (sets.contains tree.joined y))
      (λ y. flag (sets.contains (joined_left place own peer tree.joined (maps.entries taken)) y)) (λ y v. parts.joined y)
      (λ y v h.
      let was = left_from join_total join_exact (join_dropped place own peer) tree.joined (maps.entries taken) y h in (
        was.0,
        λ told same.
            was.1 (told.key, told.route) (listed told.peer told.key told.route told.is same)
            (ap first_of ((λ i. tell_join place own (sym same i) told.key told.route) ∙ told.tells)),
      ))
      (λ y v told ne.
      let was = (parts.joined y).1 told in
      left_to join_total join_exact (join_dropped place own peer) tree.joined (maps.entries taken) y (
        was,
        λ e a is. told_first (tell_join place own peer e.0 e.1) y is
            (λ u tells. ne ((join_where place own before y told).0 ∙ sym (join_peer y peer e.0 e.1 tells))),
      ) ∙ sym was)
      x tt
    where
      join_peer : (y : TakenJoin) (q : NodeId) (k : Key) (t : TakenRoute) → tell_join place own q k t ≡ Some (y, tt) → q ≡ y.peer
      join_peer y q k t tells =
          next_some (join_by q) (imported_join place own.vrf (k, t)) (y, tt) tells
          (λ flow imported same. ap (λ (e : TakenJoin × Unit {0}). e.0.peer) (same_Some (join_of q flow.source flow.group, tt) (y, tt) same))

  pub parts_left : Parts place own after
      (with_learned (without_peer peer tree.vrf.routes.learned)
      (with_selective (leaves.without_peer peer tree.leaf.routes) (with_left place own peer tree (maps.entries taken))))
  parts_left = record { unicast = unicast_lost; actives = actives_lost; joined = joined_lost; selective = selective_lost }

-- ---- the tree of a VRF

module _ (place : EdgePlace) (own : OwnVrf) (control : Control) (peer : NodeId) where
  -- The tree that forgets all of the peer keeps what the edge keeps where these routes are lost.
  lost_keeps : (peers : FinMap node_cmp Taken) (tree : TreeData) → Loses (tables_of control) (tables_of (record control { peers = peers })) peer
      → IsTreeBetween place control own tree
      → IsTreeBetween place (record control { peers = peers }) own (tree_lost place own peer (taken_from control peer) tree)
  lost_keeps peers tree loses is =
      subst (λ (t : TreeData). IsTreeBetween place (record control { peers = peers }) own
      (with_learned (without_peer peer t.vrf.routes.learned) (with_selective (leaves.without_peer peer t.leaf.routes) t)))
      (sym (all_left place own peer tree (maps.entries (taken_from control peer))))
      (tree_of place own control peers tree _ _ _ _ is
      (parts_left place own (tables_of control) (tables_of (record control { peers = peers })) peer (taken_from control peer) (λ key. refl) loses tree
      (parts_of place own control tree is)))

  pub lost_leaves : (tree : TreeData) → ((tree_lost place own peer (taken_from control peer) tree).vrf.flows ≡ tree.vrf.flows)
      × ((tree_lost place own peer (taken_from control peer) tree).wants ≡ tree.wants)
  lost_leaves tree =
      let same = all_left place own peer tree (maps.entries (taken_from control peer)) in
      (ap (λ (t : TreeData). t.vrf.flows) same, ap (λ (t : TreeData). t.wants) same)

  pub lost_customers : (tree : TreeData) → customers_of (tree_lost place own peer (taken_from control peer) tree) ≡ customers_of tree
  lost_customers tree = ap customers_of (all_left place own peer tree (maps.entries (taken_from control peer)))

-- ---- a peer that is lost, and one whose session comes up

abbrev pub without_table : NodeId → Control → Control
without_table peer control = record control { peers = maps.remove control.peers peer }

module _ (control : Control) (peer : NodeId) where
  pub removed_loses : Loses (tables_of control) (tables_of (without_table peer control)) peer
  removed_loses = record {
    gone = λ key. ap (λ (o : Option Taken). maps.get (table_in o) key) (taken_off control.peers peer) ∙ maps.get-empty key_cmp key;
    rest = λ other key ne. ap (λ (o : Option Taken). maps.get (table_in o) key) (kept_other control.peers peer other ne);
  }

  pub raised_loses : Loses (tables_of control) (tables_of (with_table peer maps.empty control)) peer
  raised_loses = record {
    gone = λ key. at_own control peer maps.empty key ∙ maps.get-empty key_cmp key;
    rest = at_other control peer maps.empty;
  }

  -- where the session was down, nothing is lost
  raised_same : maps.get control.peers peer ≡ None → (other : NodeId) (key : Key)
      → tables_of (with_table peer maps.empty control) other key ≡ tables_of control other key
  raised_same down other key = elim (node_cases other peer) [
    | inl same ↦
        (λ i. tables_of (with_table peer maps.empty control) (same i) key) ∙ at_own control peer maps.empty key
        ∙ (λ i. maps.get (table_in (sym down i)) key) ∙ (λ i. tables_of control (sym same i) key)
    | inr ne ↦ at_other control peer maps.empty other key ne
  ]

spelled_lost : (before after : Tables) (peer : NodeId) → Loses before after peer → AreSpelled before → AreSpelled after
spelled_lost before after peer loses spelled q k h = elim (node_cases q peer) [
  | inl same ↦ absurd (let bad : false ≡ true = sym (ap is_some ((λ i. after (same i) k) ∙ loses.gone k)) ∙ h in cc)
  | inr ne ↦ spelled q k (ap is_some (sym (loses.rest q k ne)) ∙ h)
]

pub removal_keeps : (place : EdgePlace) (control : Control) (own : OwnVrf) (peer : NodeId) (tree : TreeData) → IsTreeBetween place control own tree
    → IsTreeBetween place (without_table peer control) own (tree_lost place own peer (taken_from control peer) tree)
removal_keeps place control own peer tree is = lost_keeps place own control peer (maps.remove control.peers peer) tree (removed_loses control peer) is

pub removal_spelled : (control : Control) (peer : NodeId) → AreWritable control → AreWritable (without_table peer control)
removal_spelled control peer spelled =
    spelled_lost (tables_of control) (tables_of (without_table peer control)) peer (removed_loses control peer) spelled

pub raise_keeps : (place : EdgePlace) (control : Control) (own : OwnVrf) (peer : NodeId) (tree : TreeData) → IsTreeBetween place control own tree
    → IsTreeBetween place (with_table peer maps.empty control) own (tree_lost place own peer (taken_from control peer) tree)
raise_keeps place control own peer tree is =
    lost_keeps place own control peer (maps.insert control.peers peer maps.empty) tree (raised_loses control peer) is

pub raise_spelled : (control : Control) (peer : NodeId) → AreWritable control → AreWritable (with_table peer maps.empty control)
raise_spelled control peer spelled =
    spelled_lost (tables_of control) (tables_of (with_table peer maps.empty control)) peer (raised_loses control peer) spelled

-- where the session was down, the tree stays as it is
pub raise_down : (place : EdgePlace) (control : Control) (own : OwnVrf) (peer : NodeId) (tree : TreeData) → maps.get control.peers peer ≡ None
    → IsTreeBetween place control own tree
    → IsTreeBetween place (with_table peer maps.empty control) own tree
raise_down place control own peer tree down is =
    tree_of place own control (maps.insert control.peers peer maps.empty) tree _ _ _ _ is
    (same_parts place own (tables_of control) (tables_of (with_table peer maps.empty control)) tree (raised_same control peer down)
    (parts_of place own control tree is))

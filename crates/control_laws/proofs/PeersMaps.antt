-- Maps and sets of a tree where a key is dropped and a key is put.
use Rattle.std.proofs.Common.{◌≡◌, ℕ, ◌&&◌, ◌||◌, Bool, true, false, cond, not, List, [], ◌∷◌, Option, Some, None, refl, ap, ◌∙◌}
use Rattle.std.specs.declared.cmp.Ordering.{Ordering}
use Rattle.std.specs.Cmp.{IsTotalOrder, Equal-is, tied_itself}
use Rattle.std.specs.FinMap as maps
use Rattle.std.specs.FinMap.{FinMap, IsAntisymmetric, nat_cmp-IsAntisymmetric, slice_cmp-IsAntisymmetric}
use Rattle.std.specs.FinSet as sets
use Rattle.std.specs.FinSet.{FinSet}
use Rattle.std.specs.Ordering.{eq_by_cmp, is_eq}
use Rattle.std.specs.Cmp.Lexicographic.{nat_list_cmp_total}
use Rattle.std.proofs.lemmas.Cmp.{on_total, lists_total}
use Rattle.mv_base.specs.Number.{◌>>?◌}
use Rattle.mv_base.specs.declared.ids.NodeId.{NodeId}
use Rattle.selective_defs.specs.Parts.{addr_key}
use Rattle.selective_defs.proofs.PartLemmas.{one_addr}
use Rattle.selective.specs.Leaves as leaves
use Rattle.selective.specs.Leaves.{learned_now}
use Rattle.selective.specs.Order.{route_cmp, route_total}
use Rattle.selective.specs.declared.route_key.Learned.{Learned}
use Rattle.selective.specs.declared.route_key.RouteKey as selective_keys
use Rattle.vrf_words.specs.declared.tree_defs.flow.TakenJoin.{TakenJoin}
use Rattle.vrf_words.specs.tree_defs.Keys.{flow_parts}
use Rattle.vrf_words.specs.tree_defs.Trees.{join_cmp}
use Rattle.umh_select.specs.Order as unicast_order
use Rattle.umh_select.specs.declared.key.RouteKey.{RouteKey}
use Rattle.umh_select.specs.declared.route.Held.{Held}
use Rattle.edge_defs.specs.Imported.{FlowRoute, ImportedSelective}
use Rattle.vrf_words.specs.declared.tree_defs.flow.ActiveRoute.{ActiveRoute}
use Rattle.vrf_words.specs.tree_defs.Keys.{active_cmp}
use Rattle.vrf_words.proofs.tree_defs.KeyLemmas.{active_total}
use Rattle.control_laws.specs.Peers.{actives_with, join_of, joined_with, learned_with, left_with, pattern_of, selective_with, selective_without}
use Rattle.control_laws.proofs.PeersParts.{flag}
use Rattle.control_laws.proofs.PeersTold.{dropped, first_of, put}

-- ---- the order of joins

abbrev join_parts : TakenJoin → List (List ℕ)
join_parts join = (join.peer.0 ∷ []) ∷ flow_parts join.flow

pub join_total : IsTotalOrder join_cmp
join_total = on_total join_parts (lists_total nat_list_cmp_total)

pub join_exact : IsAntisymmetric join_cmp
join_exact a b e = by (slice_cmp-IsAntisymmetric (slice_cmp-IsAntisymmetric nat_cmp-IsAntisymmetric) (join_parts a) (join_parts b) e)
  where
    by : join_parts a ≡ join_parts b → a ≡ b
    by h =
        let peer : a.peer.0 ≡ b.peer.0 = cc in
        let from : addr_key a.flow.source ≡ addr_key b.flow.source = cc in
        let to : addr_key a.flow.group ≡ addr_key b.flow.group = cc in
        let source = one_addr a.flow.source b.flow.source from in
        let group = one_addr a.flow.group b.flow.group to in
        λ i. record { peer = record { 0 = peer i }; flow = record { source = source i; group = group i } }

-- ---- what ties

pub one_by : {K : Type 0} (R : K → K → Ordering) → IsAntisymmetric R → (a b : K) → eq_by_cmp R a b ≡ true → a ≡ b
one_by R exact a b h = exact a b ((Equal-is (R a b)).0 h)

pub itself_by : {K : Type 0} (R : K → K → Ordering) → IsTotalOrder R → (a : K) → eq_by_cmp R a a ≡ true
itself_by R total a = ap is_eq (tied_itself total a)

-- ---- sets

flag_put : (a b : Bool) → flag (a || b) ≡ cond a (Some tt) (flag b)
flag_put true b = refl
flag_put false b = refl

flag_dropped : (a b : Bool) → flag (not a && b) ≡ cond a None (flag b)
flag_dropped true b = refl
flag_dropped false b = refl

module _ {K : Type 0} {R : K → K → Ordering} (total : IsTotalOrder R) where
  set_put : (s : FinSet R) (k q : K) → flag (sets.contains (sets.insert s k) q) ≡ cond (eq_by_cmp R q k) (Some tt) (flag (sets.contains s q))
  set_put s k q = ap flag (sets.contains-insert total s k q) ∙ flag_put (eq_by_cmp R q k) (sets.contains s q)

  pub set_dropped : (s : FinSet R) (k q : K) → flag (sets.contains (sets.remove s k) q) ≡ cond (eq_by_cmp R q k) None (flag (sets.contains s q))
  set_dropped s k q = ap flag (sets.contains-remove total s k q) ∙ flag_dropped (eq_by_cmp R q k) (sets.contains s q)

-- ---- the parts of a tree

pub at_learned : (key : RouteKey) (told : Option Held) (routes : FinMap unicast_order.key_cmp Held) (x : RouteKey)
    → maps.get (learned_with key told routes) x ≡ put (eq_by_cmp unicast_order.key_cmp) (told >>? λ held. Some (key, held)) x
    (dropped (eq_by_cmp unicast_order.key_cmp) (Some key) x (maps.get routes x))
at_learned key None routes x = maps.get-remove unicast_order.key_total routes key x
at_learned key (Some held) routes x =
    maps.get-insert unicast_order.key_total (maps.remove routes key) key held x
    ∙ ap (cond (eq_by_cmp unicast_order.key_cmp x key) (Some held)) (maps.get-remove unicast_order.key_total routes key x)

pub at_actives : (route : ActiveRoute) (told : Option FlowRoute) (actives : FinSet active_cmp) (x : ActiveRoute)
    → flag (sets.contains (actives_with route told actives) x)
    ≡ put (eq_by_cmp active_cmp) (told >>? λ flow. Some (route, tt)) x
    (dropped (eq_by_cmp active_cmp) (Some route) x (flag (sets.contains actives x)))
at_actives route None actives x = set_dropped active_total actives route x
at_actives route (Some flow) actives x =
    set_put active_total (sets.remove actives route) route x
    ∙ ap (cond (eq_by_cmp active_cmp x route) (Some tt)) (set_dropped active_total actives route x)

abbrev pub join_by : NodeId → FlowRoute → Option (TakenJoin × Unit {0})
join_by peer flow = Some (join_of peer flow.source flow.group, tt)

at_left : (peer : NodeId) (old : Option FlowRoute) (joined : FinSet join_cmp) (x : TakenJoin)
    → flag (sets.contains (left_with peer old joined) x)
    ≡ dropped (eq_by_cmp join_cmp) (first_of (old >>? join_by peer)) x (flag (sets.contains joined x))
at_left peer None joined x = refl
at_left peer (Some flow) joined x = set_dropped join_total joined (join_of peer flow.source flow.group) x

pub at_joined : (peer : NodeId) (old new : Option FlowRoute) (joined : FinSet join_cmp) (x : TakenJoin)
    → flag (sets.contains (joined_with peer new (left_with peer old joined)) x)
    ≡ put (eq_by_cmp join_cmp) (new >>? join_by peer) x
    (dropped (eq_by_cmp join_cmp) (first_of (old >>? join_by peer)) x (flag (sets.contains joined x)))
at_joined peer old None joined x = at_left peer old joined x
at_joined peer old (Some flow) joined x =
    set_put join_total (left_with peer old joined) (join_of peer flow.source flow.group) x
    ∙ ap (cond (eq_by_cmp join_cmp x (join_of peer flow.source flow.group)) (Some tt)) (at_left peer old joined x)

abbrev pub route_by : NodeId → ℕ → ImportedSelective → Option (selective_keys.RouteKey × Learned)
route_by peer now imported = Some (
  leaves.key_of peer imported.route.rd (pattern_of imported.route.source imported.route.group),
  learned_now imported.fec now,
)

at_without : (peer : NodeId) (now : ℕ) (old : Option ImportedSelective) (routes : leaves.Routes) (x : selective_keys.RouteKey)
    → maps.get (selective_without peer old routes) x ≡ dropped (eq_by_cmp route_cmp) (first_of (old >>? route_by peer now)) x (maps.get routes x)
at_without peer now None routes x = refl
at_without peer now (Some old) routes x =
    maps.get-remove route_total routes (leaves.key_of peer old.route.rd (pattern_of old.route.source old.route.group)) x

pub at_selective : (peer : NodeId) (now : ℕ) (old new : Option ImportedSelective) (routes : leaves.Routes) (x : selective_keys.RouteKey)
    → maps.get (selective_with peer now new (selective_without peer old routes)) x
    ≡ put (eq_by_cmp route_cmp) (new >>? route_by peer now) x
    (dropped (eq_by_cmp route_cmp) (first_of (old >>? route_by peer now)) x (maps.get routes x))
at_selective peer now old None routes x = at_without peer now old routes x
at_selective peer now old (Some new) routes x =
    let key = leaves.key_of peer new.route.rd (pattern_of new.route.source new.route.group) in
    maps.get-insert route_total (selective_without peer old routes) key (learned_now new.fec now) x
    ∙ ap (cond (eq_by_cmp route_cmp x key) (Some (learned_now new.fec now))) (at_without peer now old routes x)

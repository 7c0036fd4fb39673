-- A route that comes where there was none; and one that came and goes leaves the tree as one that only goes.
use Rattle.std.proofs.Common.{◌≡◌, ℕ, ◌&&◌, ◌||◌, not, Bool, true, false, cond, Option, Some, None, refl, sym, ap, ◌∙◌}
use Rattle.std.specs.declared.cmp.Ordering.{Ordering}
use Rattle.std.specs.Cmp.{IsTotalOrder}
use Rattle.std.specs.Ordering.{eq_by_cmp}
use Rattle.std.specs.FinMap as maps
use Rattle.std.specs.FinMap.{FinMap, IsAntisymmetric}
use Rattle.std.specs.FinSet as sets
use Rattle.std.specs.FinSet.{FinSet}
use Rattle.mv_base.specs.declared.ids.NodeId.{NodeId}
use Rattle.bgp_values.specs.declared.mvpn_nlri.route.Route.TheVariants as routes
use Rattle.bgp_messages.specs.declared.bgp_attributes.key.Key.{Key}
use Rattle.bgp_messages.specs.declared.bgp_attributes.key.Key.TheVariants.{Mcast, Unicast}
use Rattle.selective.specs.Leaves as leaves
use Rattle.selective.specs.Leaves.{learned_now}
use Rattle.selective.specs.Order.{route_total}
use Rattle.selective.proofs.OrderLemmas.{route_exact}
use Rattle.umh_select.specs.Order as unicast_order
use Rattle.umh_select.proofs.OrderLemmas as unicast_lemmas
use Rattle.umh_select.specs.Routes.{key_from}
use Rattle.umh_select.specs.declared.key.RouteKey.{RouteKey}
use Rattle.umh_select.specs.declared.route.Held.{Held}
use Rattle.vrf_words.specs.declared.tree_defs.flow.ActiveRoute.{ActiveRoute}
use Rattle.vrf_words.specs.tree_defs.Keys.{active_cmp}
use Rattle.vrf_words.proofs.tree_defs.KeyLemmas.{active_exact, active_total}
use Rattle.vrf_words.specs.tree_defs.Trees.{TreeData, join_cmp}
use Rattle.edge_defs.specs.Edge.{TakenRoute}
use Rattle.edge_defs.specs.Imported.{FlowRoute, ImportedSelective}
use Rattle.edge_defs.specs.Place.{EdgePlace, OwnVrf}
use Rattle.control_laws.specs.Peers.{active_of, actives_with, join_of, joined_with, learned_with, left_with, pattern_of, selective_with, selective_without}
use Rattle.control_laws.specs.Peers.{told_active, told_join, told_selective, told_unicast, tree_with, tree_without, with_actives, with_joined, with_learned, with_selective}
use Rattle.control_laws.proofs.PeersMaps.{join_exact, join_total, one_by}
use Rattle.edge_control.specs.Taking.{IsWithout, more_actives, more_learned, tree_learning, tree_losing}

-- What is at a key counts for nothing where another value is put there, or where the key is removed.
module _ {K X : Type 0} {R : K → K → Ordering} (total : IsTotalOrder R) (exact : IsAntisymmetric R) (m : FinMap R X) (k : K) where
  pub put_map : (x : X) → maps.insert (maps.remove m k) k x ≡ maps.insert m k x
  put_map x = maps.same_map total exact (maps.insert (maps.remove m k) k x) (maps.insert m k x)
      (λ q. maps.get-insert total (maps.remove m k) k x q ∙ ap (cond (eq_by_cmp R q k) (Some x)) (maps.get-remove total m k q)
      ∙ by (eq_by_cmp R q k) (maps.get m q) ∙ sym (maps.get-insert total m k x q))
    where
      by : (b : Bool) (o : Option X) → cond b (Some x) (cond b None o) ≡ cond b (Some x) o
      by true o = refl
      by false o = refl

  pub gone_map : (x : X) → maps.remove (maps.insert m k x) k ≡ maps.remove m k
  gone_map x = maps.same_map total exact (maps.remove (maps.insert m k x) k) (maps.remove m k)
      (λ q. maps.get-remove total (maps.insert m k x) k q ∙ ap (cond (eq_by_cmp R q k) None) (maps.get-insert total m k x q)
      ∙ by (eq_by_cmp R q k) (maps.get m q) ∙ sym (maps.get-remove total m k q))
    where
      by : (b : Bool) (o : Option X) → cond b None (cond b (Some x) o) ≡ cond b None o
      by true o = refl
      by false o = refl

  -- a key that is not there may be removed
  absent_map : maps.get m k ≡ None → maps.remove m k ≡ m
  absent_map none = maps.same_map total exact (maps.remove m k) m (λ q. maps.get-remove total m k q ∙ by q (eq_by_cmp R q k) refl)
    where
      by : (q : K) (b : Bool) → eq_by_cmp R q k ≡ b → cond b None (maps.get m q) ≡ maps.get m q
      by q true e = sym none ∙ ap (maps.get m) (sym (one_by R exact q k e))
      by q false e = refl

module _ {K : Type 0} {R : K → K → Ordering} (total : IsTotalOrder R) (exact : IsAntisymmetric R) (s : FinSet R) (k : K) where
  put_set : sets.insert (sets.remove s k) k ≡ sets.insert s k
  put_set = sets.same_set total exact (sets.insert (sets.remove s k) k) (sets.insert s k)
      (λ q. sets.contains-insert total (sets.remove s k) k q ∙ ap (λ b. eq_by_cmp R q k || b) (sets.contains-remove total s k q)
      ∙ by (eq_by_cmp R q k) (sets.contains s q) ∙ sym (sets.contains-insert total s k q))
    where
      by : (b o : Bool) → (b || (not b && o)) ≡ (b || o)
      by true o = refl
      by false o = refl

  gone_set : sets.remove (sets.insert s k) k ≡ sets.remove s k
  gone_set = sets.same_set total exact (sets.remove (sets.insert s k) k) (sets.remove s k)
      (λ q. sets.contains-remove total (sets.insert s k) k q ∙ ap (λ b. not (eq_by_cmp R q k) && b) (sets.contains-insert total s k q)
      ∙ by (eq_by_cmp R q k) (sets.contains s q) ∙ sym (sets.contains-remove total s k q))
    where
      by : (b o : Bool) → (not b && (b || o)) ≡ (not b && o)
      by true o = refl
      by false o = refl

  absent_set : sets.contains s k ≡ false → sets.remove s k ≡ s
  absent_set none = sets.same_set total exact (sets.remove s k) s (λ q. sets.contains-remove total s k q ∙ by q (eq_by_cmp R q k) refl)
    where
      by : (q : K) (b : Bool) → eq_by_cmp R q k ≡ b → (not b && sets.contains s q) ≡ sets.contains s q
      by q true e = sym none ∙ ap (sets.contains s) (sym (one_by R exact q k e))
      by q false e = refl

-- ---- a route that comes where there was none

learned_split : (key : RouteKey) (told : Option Held) (learned : FinMap unicast_order.key_cmp Held)
    → maps.get learned key ≡ None → learned_with key told learned ≡ more_learned key told learned
learned_split key None learned none = absent_map unicast_order.key_total unicast_lemmas.key_exact learned key none
learned_split key (Some held) learned none = put_map unicast_order.key_total unicast_lemmas.key_exact learned key held

actives_split : (route : ActiveRoute) (told : Option FlowRoute) (actives : FinSet active_cmp)
    → sets.contains actives route ≡ false → actives_with route told actives ≡ more_actives route told actives
actives_split route None actives none = absent_set active_total active_exact actives route none
actives_split route (Some flow) actives none = put_set active_total active_exact actives route

pub with_split : (place : EdgePlace) (own : OwnVrf) (peer : NodeId) (now : ℕ) (key : Key) (new : Option TakenRoute) (tree : TreeData)
    → IsWithout peer key tree → tree_with place own peer now key None new tree ≡ tree_learning place own peer now key new tree
with_split place own peer now (Unicast rd prefix) new tree none =
    ap (λ next. with_learned next tree) (learned_split (key_from peer rd prefix) (told_unicast place own peer new) tree.vrf.routes.learned none)
with_split place own peer now (Mcast afi (routes.Active rd source group)) new tree none =
    ap (λ next. with_actives next tree) (actives_split (active_of peer rd source group)
    (told_active own (Mcast afi (routes.Active rd source group)) new) tree.vrf.actives none)
with_split place own peer now (Mcast afi (routes.SourceJoin rd source_as source group)) new tree none = refl
with_split place own peer now (Mcast afi (routes.Selective rd source group originator)) new tree none = refl
with_split place own peer now (Mcast afi (routes.Intra rd originator)) new tree none = refl
with_split place own peer now (Mcast afi (routes.Inter rd source_as)) new tree none = refl
with_split place own peer now (Mcast afi (routes.Leaf leaf originator)) new tree none = refl
with_split place own peer now (Mcast afi (routes.SharedJoin rd source_as source group)) new tree none = refl
with_split place own peer now (Mcast afi (routes.Other kind octets)) new tree none = refl

-- ---- a route that came and goes

learned_back : (key : RouteKey) (told : Option Held) (learned : FinMap unicast_order.key_cmp Held)
    → maps.remove (more_learned key told learned) key ≡ maps.remove learned key
learned_back key None learned = refl
learned_back key (Some held) learned = gone_map unicast_order.key_total unicast_lemmas.key_exact learned key held

actives_back : (route : ActiveRoute) (told : Option FlowRoute) (actives : FinSet active_cmp)
    → sets.remove (more_actives route told actives) route ≡ sets.remove actives route
actives_back route None actives = refl
actives_back route (Some flow) actives = gone_set active_total active_exact actives route

joined_back : (peer : NodeId) (told : Option FlowRoute) (joined : FinSet join_cmp)
    → left_with peer told (joined_with peer told joined) ≡ left_with peer told joined
joined_back peer None joined = refl
joined_back peer (Some flow) joined = gone_set join_total join_exact joined (join_of peer flow.source flow.group)

selective_back : (peer : NodeId) (now : ℕ) (told : Option ImportedSelective) (all : leaves.Routes)
    → selective_without peer told (selective_with peer now told all) ≡ selective_without peer told all
selective_back peer now None all = refl
selective_back peer now (Some new) all =
    gone_map route_total route_exact all (leaves.key_of peer new.route.rd (pattern_of new.route.source new.route.group)) (learned_now new.fec now)

pub with_back : (place : EdgePlace) (own : OwnVrf) (peer : NodeId) (now at : ℕ) (key : Key) (new : Option TakenRoute) (tree : TreeData)
    → tree_with place own peer now key new None (tree_learning place own peer at key new tree) ≡ tree_with place own peer now key new None tree
with_back place own peer now at (Unicast rd prefix) new tree =
    ap (λ next. with_learned next tree) (learned_back (key_from peer rd prefix) (told_unicast place own peer new) tree.vrf.routes.learned)
with_back place own peer now at (Mcast afi (routes.Active rd source group)) new tree =
    ap (λ next. with_actives next tree) (actives_back (active_of peer rd source group)
    (told_active own (Mcast afi (routes.Active rd source group)) new) tree.vrf.actives)
with_back place own peer now at (Mcast afi (routes.SourceJoin rd source_as source group)) new tree =
    ap (λ next. with_joined next tree) (joined_back peer (told_join place own (Mcast afi (routes.SourceJoin rd source_as source group)) new)
    tree.joined)
with_back place own peer now at (Mcast afi (routes.Selective rd source group originator)) new tree =
    ap (λ next. with_selective next tree) (selective_back peer at
    (told_selective place own peer (Mcast afi (routes.Selective rd source group originator)) new) tree.leaf.routes)
with_back place own peer now at (Mcast afi (routes.Intra rd originator)) new tree = refl
with_back place own peer now at (Mcast afi (routes.Inter rd source_as)) new tree = refl
with_back place own peer now at (Mcast afi (routes.Leaf leaf originator)) new tree = refl
with_back place own peer now at (Mcast afi (routes.SharedJoin rd source_as source group)) new tree = refl
with_back place own peer now at (Mcast afi (routes.Other kind octets)) new tree = refl

-- ---- a peer that is lost

pub losing_is : (place : EdgePlace) (own : OwnVrf) (peer : NodeId) (key : Key) (taken : TakenRoute) (tree : TreeData)
    → tree_losing place own peer key (Some taken) tree ≡ tree_without place own peer tree (key, taken)
losing_is place own peer (Unicast rd prefix) taken tree = refl
losing_is place own peer (Mcast afi (routes.Active rd source group)) taken tree = refl
losing_is place own peer (Mcast afi (routes.SourceJoin rd source_as source group)) taken tree = refl
losing_is place own peer (Mcast afi (routes.Selective rd source group originator)) taken tree = refl
losing_is place own peer (Mcast afi (routes.Intra rd originator)) taken tree = refl
losing_is place own peer (Mcast afi (routes.Inter rd source_as)) taken tree = refl
losing_is place own peer (Mcast afi (routes.Leaf leaf originator)) taken tree = refl
losing_is place own peer (Mcast afi (routes.SharedJoin rd source_as source group)) taken tree = refl
losing_is place own peer (Mcast afi (routes.Other kind octets)) taken tree = refl

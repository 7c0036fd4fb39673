-- What the tree of a VRF keeps after a change of one route of one peer.
use Rattle.std.proofs.lemmas.Option.{same_Some}
use Rattle.std.proofs.Common.{◌≡◌, ◌↔◌, ℕ, Bool, true, false, cond, inl, inr, is_some, fold, List, [], ◌∷◌, Option, Some, None, refl, sym, ap, subst, ◌∙◌}
use Rattle.std.specs.FinMap as maps
use Rattle.std.specs.FinMap.{FinMap}
use Rattle.std.specs.FinSet as sets
use Rattle.std.specs.Ordering.{eq_by_cmp}
use Rattle.mv_base.specs.Number.{◌>>?◌}
use Rattle.mv_base.proofs.CutLemmas.{next_some}
use Rattle.mv_base.specs.declared.addr.Addr.{Addr}
use Rattle.mv_base.specs.declared.ids.NodeId.{NodeId}
use Rattle.mv_base.specs.declared.prefix.Prefix.{Prefix}
use Rattle.mv_base.specs.declared.rd.Rd.{Rd}
use Rattle.bgp_values.specs.declared.mvpn_nlri.route.Afi.{Afi}
use Rattle.bgp_values.specs.declared.mvpn_nlri.route.Route.TheVariants as routes
use Rattle.bgp_messages.specs.declared.bgp_attributes.key.Key.{Key}
use Rattle.bgp_messages.specs.declared.bgp_attributes.key.Key.TheVariants.{Mcast, Unicast}
use Rattle.bgp_messages.specs.declared.bgp_attributes.update.Change.{Change}
use Rattle.bgp_messages.specs.bgp_update.Written.{IsWritableKey}
use Rattle.selective.specs.Leaves as leaves
use Rattle.selective.specs.Order.{route_cmp, route_total}
use Rattle.selective.proofs.OrderLemmas.{route_exact}
use Rattle.selective.specs.declared.route_key.Learned.{Learned}
use Rattle.selective.specs.declared.route_key.Place.TheVariants as selective_kinds
use Rattle.selective.specs.declared.route_key.RouteKey as selective_keys
use Rattle.umh_select.specs.Order as unicast_order
use Rattle.umh_select.specs.Routes.{key_from, peer_of, rd_of}
use Rattle.umh_select.specs.declared.key.RouteKey.{RouteKey}
use Rattle.umh_select.specs.declared.route.Held.{Held}
use Rattle.umh_select.proofs.OrderLemmas as unicast_lemmas
use Rattle.vrf_words.specs.declared.tree_defs.flow.ActiveRoute.{ActiveRoute}
use Rattle.vrf_words.specs.declared.tree_defs.flow.TakenJoin.{TakenJoin}
use Rattle.vrf_words.specs.tree_defs.Keys.{active_cmp}
use Rattle.vrf_words.specs.tree_defs.Trees.{TreeData, join_cmp}
use Rattle.vrf_words.proofs.tree_defs.KeyLemmas.{active_total, active_exact}
use Rattle.edge_defs.specs.Edge.{Control, Taken, TakenRoute}
use Rattle.edge_defs.specs.Imported.{FlowRoute, ImportedSelective, imported_active, imported_join, imported_selective}
use Rattle.edge_defs.specs.Place.{EdgePlace, OwnVrf, addr_of}
use Rattle.edge_defs.specs.Steps.{taken_change}
use Rattle.vrf_words.proofs.edge_words.edge_laws.Taken.{put_own}
use Rattle.label_defs.specs.Keys.{node_cmp}
use Rattle.label_defs.proofs.KeyLemmas.{node_cmp_total, node_cmp_exact}
use Rattle.mv_base.specs.Lists.{Among}
use Rattle.vrf_words.specs.tree_laws.TreeOf.{flow_route, held_from}
use Rattle.control_laws.specs.Peers.{AreWritable, IsTreeBetween, active_of, actives_with, joined_with, key_of, learned_with, left_with, pattern_of, route_after, same_route, selective_with, selective_without, told_active, told_join, told_selective, told_unicast, tree_change, tree_taking, tree_updated, tree_with}
use Rattle.control_laws.proofs.PeersKeys.{active_one, join_one, selective_one}
use Rattle.control_laws.proofs.PeersKinds.{ActiveAt, active_where, join_where, selective_where, tables_of, tell_active, tell_join, tell_selective, tell_unicast, unicast_where}
use Rattle.control_laws.proofs.PeersMaps.{at_actives, at_joined, at_learned, at_selective, itself_by, join_by, join_exact, join_total, one_by, route_by}
use Rattle.control_laws.proofs.PeersParts.{Parts, customers_of, by_equal, flag, joins, parts_of, same_parts, tree_of}
use Rattle.control_laws.proofs.PeersTables.{AreSpelled, IsBehind, changed, is_after, still_spelled, with_table}
use Rattle.control_laws.proofs.PeersTold.{Changes, Here, here_or_not, Tables, Told, dropped, first_covers, first_harmless, first_of, put, silent_stays, told_iff}

-- ---- one route gives it

one_rd : (a b : Rd) → selective_kinds.Of a ≡ selective_kinds.Of b → a ≡ b
one_rd a b h = cc

spelled_at : (tables : Tables) → AreSpelled tables → (peer : NodeId) (key : Key) (route : TakenRoute) → tables peer key ≡ Some route
    → IsWritableKey key
spelled_at tables spelled peer key route is = spelled peer key (ap is_some is)

module _ (place : EdgePlace) (own : OwnVrf) (tables : Tables) where
  unicast_once : (x : RouteKey) (v w : Held) (a : Told (tell_unicast place own) tables x v) (b : Told (tell_unicast place own) tables x w)
      → Here b.peer b.key a.peer a.key
  unicast_once x v w a b =
      let one = unicast_where place own tables x v a in
      let other = unicast_where place own tables x w b in
      (one.0 ∙ sym other.0, one.1 ∙ sym other.1)

  module _ (spelled : AreSpelled tables) where
    active_once : (x : ActiveRoute) (v w : Unit {0}) (a : Told (tell_active own) tables x v) (b : Told (tell_active own) tables x w)
        → Here b.peer b.key a.peer a.key
    active_once x v w a b =
        let one = active_where own tables x a in
        let other = active_where own tables x b in
        let afi = active_one one.afi other.afi (record { 0 = x.rd }) x.flow.source x.flow.group
        (subst IsWritableKey one.is (spelled_at tables spelled a.peer a.key a.route a.is))
        (subst IsWritableKey other.is (spelled_at tables spelled b.peer b.key b.route b.is)) in (
          one.of_peer ∙ sym other.of_peer,
          one.is ∙ (λ i. Mcast (afi i) (routes.Active (record { 0 = x.rd }) x.flow.source x.flow.group))
              ∙ sym other.is,
        )

    join_once : (x : TakenJoin) (v w : Unit {0}) (a : Told (tell_join place own) tables x v) (b : Told (tell_join place own) tables x w)
        → Here b.peer b.key a.peer a.key
    join_once x v w a b =
        let one = join_where place own tables x a in
        let other = join_where place own tables x b in (
          one.0 ∙ sym other.0,
          join_one place own.vrf (a.key, a.route) (b.key, b.route) (flow_route x.flow)
              (spelled_at tables spelled a.peer a.key a.route a.is) (spelled_at tables spelled b.peer b.key b.route b.is) one.1 other.1,
        )

    selective_once : (x : selective_keys.RouteKey) (v w : Learned) (a : Told (tell_selective place own) tables x v)
        (b : Told (tell_selective place own) tables x w)
        → Here b.peer b.key a.peer a.key
    selective_once x v w a b =
        let one = selective_where place own tables x v a in
        let other = selective_where place own tables x w b in
        let same = one.is ∙ sym other.is in
        let peers : a.peer ≡ b.peer = ap (λ (k : selective_keys.RouteKey). k.peer) same in
        let rds : one.imported.route.rd ≡ other.imported.route.rd =
        one_rd one.imported.route.rd other.imported.route.rd (ap (λ (k : selective_keys.RouteKey). k.place) same) in (
          peers,
          selective_one own.vrf own.vrf (addr_of place.scenario b.peer) (a.key, a.route) (b.key, b.route) one.imported other.imported
              (spelled_at tables spelled a.peer a.key a.route a.is) (spelled_at tables spelled b.peer b.key b.route b.is)
              (ap (λ (q : NodeId). imported_selective own.vrf (addr_of place.scenario q) (a.key, a.route)) (sym peers) ∙ one.found) other.found
              rds (ap (λ (k : selective_keys.RouteKey). k.pattern.source) same) (ap (λ (k : selective_keys.RouteKey). k.pattern.group) same),
        )

-- ---- what is given is read in two steps

in_two : {A B C : Type 0} (o : Option A) (f : A → Option B) (g : B → Option C) → (o >>? λ a. f a >>? g) ≡ ((o >>? f) >>? g)
in_two None f g = refl
in_two (Some a) f g = refl

module _ (place : EdgePlace) (own : OwnVrf) (before after : Tables) (peer : NodeId) (now : ℕ) (old new : Option TakenRoute) where
  -- ---- unicast routes

  unicast_change : (rd : Rd) (prefix : Prefix) → Changes before after peer (Unicast rd prefix) old new → (tree : TreeData)
      → Parts place own before tree
      → (x : RouteKey) (held : Held)
      → (maps.get (learned_with (key_from peer rd prefix) (told_unicast place own peer new) tree.vrf.routes.learned) x ≡ Some held) ↔ Told
      (tell_unicast place own) after x held
  unicast_change rd prefix changes tree parts x held =
      let same = eq_by_cmp unicast_order.key_cmp in
      let key = key_from peer rd prefix in
      let before_at = dropped same (Some key) x (maps.get tree.vrf.routes.learned x) in
      by_equal
      (at_learned key (told_unicast place own peer new) tree.vrf.routes.learned x
      ∙ ap (λ (n : Option (RouteKey × Held)). put same n x before_at)
      (sym (in_two new (λ (t : TakenRoute). held_from place own.vrf peer t.value) (λ (h : Held). Some (key, h)))))
      (told_iff same (one_by unicast_order.key_cmp unicast_lemmas.key_exact) (itself_by unicast_order.key_cmp unicast_order.key_total)
      (tell_unicast place own) before after peer (Unicast rd prefix) old new changes (maps.get tree.vrf.routes.learned) (Some key) parts.unicast
      (λ y v h. next_some (tell_unicast place own peer (Unicast rd prefix)) old (y, v) h
      (λ t is tells. next_some (λ (h : Held). Some (key, h)) (held_from place own.vrf peer t.value) (y, v) tells
      (λ found from k. ap (λ (e : RouteKey × Held). Some e.0) (same_Some (key, found) (y, v) k))))
      (λ y v e told.
      let at = unicast_where place own before y v told in
      let is = same_Some key y e in
      (at.0 ∙ ap (λ (k : RouteKey). peer_of k.place) (sym is), at.1 ∙ ap (λ (k : RouteKey). Unicast (rd_of k.place) k.prefix) (sym is)))
      (unicast_once place own after) x held)

  -- ---- Source Active routes

  module _ (spelled : AreSpelled before) (still : AreSpelled after) where
    active_harmless : (afi : Afi) (rd : Rd) (source group : Addr) → IsWritableKey (Mcast afi (routes.Active rd source group)) → (y : ActiveRoute)
        → active_of peer rd source group ≡ y
        → (told : Told (tell_active own) before y tt) → Here peer (Mcast afi (routes.Active rd source group)) told.peer told.key
    active_harmless afi rd source group writable y e told =
        let at = subst (λ (r : ActiveRoute). ActiveAt own r told.peer told.key told.route) (sym e) (active_where own before y told) in
        let one =
        active_one at.afi afi rd source group (subst IsWritableKey at.is (spelled_at before spelled told.peer told.key told.route told.is))
        writable in
        (at.of_peer, at.is ∙ (λ i. Mcast (one i) (routes.Active rd source group)))

    active_change : (afi : Afi) (rd : Rd) (source group : Addr) → Changes before after peer (Mcast afi (routes.Active rd source group)) old new
        → IsWritableKey (Mcast afi (routes.Active rd source group)) → (tree : TreeData) → Parts place own before tree → (x : ActiveRoute)
        → (flag (sets.contains (actives_with (active_of peer rd source group) (told_active own (Mcast afi (routes.Active rd source group)) new)
        tree.vrf.actives) x) ≡ Some tt)
        ↔ Told (tell_active own) after x tt
    active_change afi rd source group changes writable tree parts x =
        let same = eq_by_cmp active_cmp in
        let key = Mcast afi (routes.Active rd source group) in
        let route = active_of peer rd source group in
        let before_at = dropped same (Some route) x (flag (sets.contains tree.vrf.actives x)) in
        by_equal
        (at_actives route (told_active own key new) tree.vrf.actives x
        ∙ ap (λ (n : Option (ActiveRoute × Unit {0})). put same n x before_at)
        (sym (in_two new (λ (t : TakenRoute). imported_active own.vrf (key, t)) (λ (flow : FlowRoute). Some (route, tt)))))
        (told_iff same (one_by active_cmp active_exact) (itself_by active_cmp active_total)
        (tell_active own) before after peer key old new changes (λ y. flag (sets.contains tree.vrf.actives y)) (Some route) (λ y v. parts.actives y)
        (λ y v h. next_some (tell_active own peer key) old (y, v) h
        (λ t is tells. next_some (λ (flow : FlowRoute). Some (route, tt)) (imported_active own.vrf (key, t)) (y, v) tells
        (λ found from k. ap (λ (e : ActiveRoute × Unit {0}). Some e.0) (same_Some (route, tt) (y, v) k))))
        (λ y v e told. active_harmless afi rd source group writable y (same_Some route y e) told)
        (active_once place own after still) x tt)

    -- ---- Source Tree Joins

    join_change : (key : Key) → Changes before after peer key old new → (tree : TreeData) → Parts place own before tree → (x : TakenJoin)
        → (flag (sets.contains (joined_with peer (told_join place own key new) (left_with peer (told_join place own key old) tree.joined)) x)
        ≡ Some tt)
        ↔ Told (tell_join place own) after x tt
    join_change key changes tree parts x =
        let same = eq_by_cmp join_cmp in
        let tell = tell_join place own in
        let read : (o : Option TakenRoute) → (told_join place own key o >>? join_by peer) ≡ (o >>? tell peer key) =
        λ o. sym (in_two o (λ (t : TakenRoute). imported_join place own.vrf (key, t)) (join_by peer)) in
        by_equal
        (at_joined peer (told_join place own key old) (told_join place own key new) tree.joined x
        ∙ (λ i. put same (read new i) x (dropped same (first_of (read old i)) x (flag (sets.contains tree.joined x)))))
        (told_iff same (one_by join_cmp join_exact) (itself_by join_cmp join_total)
        tell before after peer key old new changes (λ y. flag (sets.contains tree.joined y)) (first_of (old >>? tell peer key))
        (λ y v. parts.joined y)
        (first_covers (old >>? tell peer key)) (first_harmless tell before peer key old changes.was (join_once place own before spelled))
        (join_once place own after still) x tt)

    -- ---- selective routes

    read_old : (key : Key) (o : Option TakenRoute)
        → first_of (told_selective place own peer key o >>? route_by peer now) ≡ first_of (o >>? tell_selective place own peer key)
    read_old key None = refl
    read_old key (Some route) = by (imported_selective own.vrf (addr_of place.scenario peer) (key, route))
      where
        by : (found : Option ImportedSelective) → first_of (found >>? route_by peer now) ≡ first_of (found >>? λ imported. Some (
          leaves.key_of peer imported.route.rd (pattern_of imported.route.source imported.route.group),
          (let learned : Learned = record { fec = imported.fec; since = route.since; run = route.run } in learned),
        ))
        by None = refl
        by (Some imported) = refl

    read_new : (key : Key) (o : Option TakenRoute) → ((route : TakenRoute) → o ≡ Some route → (route.since ≡ now) × (route.run ≡ false))
        → (told_selective place own peer key o >>? route_by peer now) ≡ (o >>? tell_selective place own peer key)
    read_new key None fresh = refl
    read_new key (Some route) fresh =
        let at = fresh route refl in
        λ i. imported_selective own.vrf (addr_of place.scenario peer) (key, route) >>? λ imported. Some (
          leaves.key_of peer imported.route.rd (pattern_of imported.route.source imported.route.group),
          (let learned : Learned = record { fec = imported.fec; since = sym at.0 i; run = sym at.1 i } in learned),
        )

    selective_change : (key : Key) → Changes before after peer key old new
        → ((route : TakenRoute) → new ≡ Some route → (route.since ≡ now) × (route.run ≡ false))
        → (tree : TreeData) → Parts place own before tree → (x : selective_keys.RouteKey) (learned : Learned)
        → (maps.get (selective_with peer now (told_selective place own peer key new)
        (selective_without peer (told_selective place own peer key old) tree.leaf.routes)) x ≡ Some learned)
        ↔ Told (tell_selective place own) after x learned
    selective_change key changes fresh tree parts x learned =
        let same = eq_by_cmp route_cmp in
        let tell = tell_selective place own in
        by_equal
        (at_selective peer now (told_selective place own peer key old) (told_selective place own peer key new) tree.leaf.routes x
        ∙ (λ i. put same (read_new key new fresh i) x (dropped same (read_old key old i) x (maps.get tree.leaf.routes x))))
        (told_iff same (one_by route_cmp route_exact) (itself_by route_cmp route_total)
        tell before after peer key old new changes (maps.get tree.leaf.routes) (first_of (old >>? tell peer key)) parts.selective
        (first_covers (old >>? tell peer key)) (first_harmless tell before peer key old changes.was (selective_once place own before spelled))
        (selective_once place own after still) x learned)

    -- ---- by the kinds of keys

    module _ (key : Key) (changes : Changes before after peer key old new) (tree : TreeData) (parts : Parts place own before tree) where
      no_unicast : ((t : TakenRoute) → tell_unicast place own peer key t ≡ None) → (x : RouteKey) (held : Held)
          → (maps.get tree.vrf.routes.learned x ≡ Some held) ↔ Told (tell_unicast place own) after x held
      no_unicast silent x held =
          joins (parts.unicast x held) (silent_stays (tell_unicast place own) peer key silent before after old new changes x held)

      no_active : ((t : TakenRoute) → tell_active own peer key t ≡ None) → (x : ActiveRoute)
          → (flag (sets.contains tree.vrf.actives x) ≡ Some tt) ↔ Told (tell_active own) after x tt
      no_active silent x = joins (parts.actives x) (silent_stays (tell_active own) peer key silent before after old new changes x tt)

      no_join : ((t : TakenRoute) → tell_join place own peer key t ≡ None) → (x : TakenJoin)
          → (flag (sets.contains tree.joined x) ≡ Some tt) ↔ Told (tell_join place own) after x tt
      no_join silent x = joins (parts.joined x) (silent_stays (tell_join place own) peer key silent before after old new changes x tt)

      no_selective : ((t : TakenRoute) → tell_selective place own peer key t ≡ None) → (x : selective_keys.RouteKey) (learned : Learned)
          → (maps.get tree.leaf.routes x ≡ Some learned) ↔ Told (tell_selective place own) after x learned
      no_selective silent x learned =
          joins (parts.selective x learned) (silent_stays (tell_selective place own) peer key silent before after old new changes x learned)

      -- a route of no kind that a VRF takes
      no_parts : ((t : TakenRoute) → tell_unicast place own peer key t ≡ None) → ((t : TakenRoute) → tell_active own peer key t ≡ None)
          → ((t : TakenRoute) → tell_join place own peer key t ≡ None) → ((t : TakenRoute) → tell_selective place own peer key t ≡ None)
          → Parts place own after tree
      no_parts a b c d = record { unicast = no_unicast a; actives = no_active b; joined = no_join c; selective = no_selective d }

    pub parts_with : (key : Key) → Changes before after peer key old new → IsWritableKey key
        → ((route : TakenRoute) → new ≡ Some route → (route.since ≡ now) × (route.run ≡ false))
        → (tree : TreeData) → Parts place own before tree → Parts place own after (tree_with place own peer now key old new tree)
    parts_with (Unicast rd prefix) changes writable fresh tree parts =
        let key = Unicast rd prefix in
        record {
          unicast = unicast_change rd prefix changes tree parts;
          actives = no_active key changes tree parts (λ t. refl);
          joined = no_join key changes tree parts (λ t. refl);
          selective = no_selective key changes tree parts (λ t. refl);
        }
    parts_with (Mcast afi (routes.Active rd source group)) changes writable fresh tree parts =
        let key = Mcast afi (routes.Active rd source group) in
        record {
          unicast = no_unicast key changes tree parts (λ t. refl);
          actives = active_change afi rd source group changes writable tree parts;
          joined = no_join key changes tree parts (λ t. refl);
          selective = no_selective key changes tree parts (λ t. refl);
        }
    parts_with (Mcast afi (routes.SourceJoin rd source_as source group)) changes writable fresh tree parts =
        let key = Mcast afi (routes.SourceJoin rd source_as source group) in
        record {
          unicast = no_unicast key changes tree parts (λ t. refl);
          actives = no_active key changes tree parts (λ t. refl);
          joined = join_change key changes tree parts;
          selective = no_selective key changes tree parts (λ t. refl);
        }
    parts_with (Mcast afi (routes.Selective rd source group originator)) changes writable fresh tree parts =
        let key = Mcast afi (routes.Selective rd source group originator) in
        record {
          unicast = no_unicast key changes tree parts (λ t. refl);
          actives = no_active key changes tree parts (λ t. refl);
          joined = no_join key changes tree parts (λ t. refl);
          selective = selective_change key changes fresh tree parts;
        }
    parts_with (Mcast afi (routes.Intra rd originator)) changes writable fresh tree parts =
        no_parts (Mcast afi (routes.Intra rd originator)) changes tree parts (λ t. refl) (λ t. refl) (λ t. refl) (λ t. refl)
    parts_with (Mcast afi (routes.Inter rd source_as)) changes writable fresh tree parts =
        no_parts (Mcast afi (routes.Inter rd source_as)) changes tree parts (λ t. refl) (λ t. refl) (λ t. refl) (λ t. refl)
    parts_with (Mcast afi (routes.Leaf leaf originator)) changes writable fresh tree parts =
        no_parts (Mcast afi (routes.Leaf leaf originator)) changes tree parts (λ t. refl) (λ t. refl) (λ t. refl) (λ t. refl)
    parts_with (Mcast afi (routes.SharedJoin rd source_as source group)) changes writable fresh tree parts =
        no_parts (Mcast afi (routes.SharedJoin rd source_as source group)) changes tree parts (λ t. refl) (λ t. refl) (λ t. refl) (λ t. refl)
    parts_with (Mcast afi (routes.Other kind octets)) changes writable fresh tree parts =
        no_parts (Mcast afi (routes.Other kind octets)) changes tree parts (λ t. refl) (λ t. refl) (λ t. refl) (λ t. refl)

-- ---- the tree of a VRF

-- What a route of the peer makes of the parts, after the route that was there before.
pub parts_changed : (place : EdgePlace) (own : OwnVrf) (before after : Tables) (peer : NodeId) (now : ℕ) (key : Key) (old new : Option TakenRoute)
    → Changes before after peer key old new
    → IsBehind now old new → AreSpelled before → IsWritableKey key → (tree : TreeData) → Parts place own before tree
    → Parts place own after (tree_change place own peer now key old new tree)
parts_changed place own before after peer now key old new changes thereafter spelled writable tree parts = by (same_route old new) refl
  where
    unmoved : new ≡ old → (q : NodeId) (k : Key) → after q k ≡ before q k
    unmoved same q k = elim (here_or_not peer key q k) [
      | inl here ↦ (λ i. after (here.0 i) (here.1 i)) ∙ changes.is ∙ same ∙ sym changes.was ∙ (λ i. before (sym here.0 i) (sym here.1 i))
      | inr elsewhere ↦ changes.rest q k elsewhere
    ]

    by : (b : Bool) → same_route old new ≡ b → Parts place own after (cond b tree (tree_with place own peer now key old new tree))
    by true e = same_parts place own before after tree (unmoved (thereafter.same e)) parts
    by false e =
        parts_with place own before after peer now old new spelled (still_spelled before after peer key old new changes spelled writable) key changes
        writable (thereafter.fresh e) tree parts

-- the tree of a route that is put by kind has other routes alone
between : (place : EdgePlace) (control : Control) (peers : FinMap _ Taken) (own : OwnVrf) (peer : NodeId) (now : ℕ) (key : Key)
    (old new : Option TakenRoute) (tree : TreeData)
    → IsTreeBetween place control own tree → Parts place own (tables_of (record control { peers = peers }))
    (tree_with place own peer now key old new tree)
    → IsTreeBetween place (record control { peers = peers }) own (tree_with place own peer now key old new tree)
between place control peers own peer now (Unicast rd prefix) old new tree is parts = tree_of place own control peers tree _ _ _ _ is parts
between place control peers own peer now (Mcast afi (routes.Active rd source group)) old new tree is parts =
    tree_of place own control peers tree _ _ _ _ is parts
between place control peers own peer now (Mcast afi (routes.SourceJoin rd source_as source group)) old new tree is parts =
    tree_of place own control peers tree _ _ _ _ is parts
between place control peers own peer now (Mcast afi (routes.Selective rd source group originator)) old new tree is parts =
    tree_of place own control peers tree _ _ _ _ is parts
between place control peers own peer now (Mcast afi (routes.Intra rd originator)) old new tree is parts =
    tree_of place own control peers tree _ _ _ _ is parts
between place control peers own peer now (Mcast afi (routes.Inter rd source_as)) old new tree is parts =
    tree_of place own control peers tree _ _ _ _ is parts
between place control peers own peer now (Mcast afi (routes.Leaf leaf originator)) old new tree is parts =
    tree_of place own control peers tree _ _ _ _ is parts
between place control peers own peer now (Mcast afi (routes.SharedJoin rd source_as source group)) old new tree is parts =
    tree_of place own control peers tree _ _ _ _ is parts
between place control peers own peer now (Mcast afi (routes.Other kind octets)) old new tree is parts =
    tree_of place own control peers tree _ _ _ _ is parts

-- and so has the tree that takes it
between_changed : (place : EdgePlace) (control : Control) (peers : FinMap _ Taken) (own : OwnVrf) (peer : NodeId) (now : ℕ) (key : Key)
    (old new : Option TakenRoute) (tree : TreeData)
    → IsTreeBetween place control own tree → Parts place own (tables_of (record control { peers = peers }))
    (tree_change place own peer now key old new tree)
    → IsTreeBetween place (record control { peers = peers }) own (tree_change place own peer now key old new tree)
between_changed place control peers own peer now key old new tree is = by (same_route old new)
  where
    by : (b : Bool) → Parts place own (tables_of (record control { peers = peers })) (cond b tree (tree_with place own peer now key old new tree))
        → IsTreeBetween place (record control { peers = peers }) own (cond b tree (tree_with place own peer now key old new tree))
    by true parts = tree_of place own control peers tree _ _ _ _ is parts
    by false parts = between place control peers own peer now key old new tree is parts

-- The tree that takes the change keeps what the edge keeps after it.
pub change_keeps : (place : EdgePlace) (control : Control) (own : OwnVrf) (peer : NodeId) (taken : Taken) (now : ℕ) (change : Change)
    (tree : TreeData)
    → maps.get control.peers peer ≡ Some taken → AreWritable control → IsWritableKey (key_of change) → IsTreeBetween place control own tree
    → IsTreeBetween place (with_table peer (taken_change now taken change) control) own (tree_taking place own peer now taken change tree)
change_keeps place control own peer taken now change tree up spelled writable is =
    let key = key_of change in
    let old = maps.get taken key in
    let new = route_after now change old in
    between_changed place control (maps.insert control.peers peer (taken_change now taken change)) own peer now key old new tree is
    (parts_changed place own (tables_of control) (tables_of (with_table peer (taken_change now taken change) control)) peer now key old new
    (changed control peer taken up now change) (is_after now change old) spelled writable tree (parts_of place own control tree is))

-- the keys still have spellings
pub change_spelled : (control : Control) (peer : NodeId) (taken : Taken) (now : ℕ) (change : Change) → maps.get control.peers peer ≡ Some taken
    → AreWritable control → IsWritableKey (key_of change)
    → AreWritable (with_table peer (taken_change now taken change) control)
change_spelled control peer taken now change up spelled writable =
    still_spelled (tables_of control) (tables_of (with_table peer (taken_change now taken change) control)) peer (key_of change)
    (maps.get taken (key_of change))
    (route_after now change (maps.get taken (key_of change))) (changed control peer taken up now change) spelled writable

-- flows and what they want stay as the last refresh left them
pub change_leaves : (place : EdgePlace) (own : OwnVrf) (peer : NodeId) (now : ℕ) (key : Key) (old new : Option TakenRoute) (tree : TreeData)
    → ((tree_change place own peer now key old new tree).vrf.flows ≡ tree.vrf.flows)
    × ((tree_change place own peer now key old new tree).wants ≡ tree.wants)
change_leaves place own peer now key old new tree = by (same_route old new) key
  where
    by : (b : Bool) (k : Key) → ((cond b tree (tree_with place own peer now k old new tree)).vrf.flows ≡ tree.vrf.flows)
        × ((cond b tree (tree_with place own peer now k old new tree)).wants ≡ tree.wants)
    by true k = (refl, refl)
    by false (Unicast rd prefix) = (refl, refl)
    by false (Mcast afi (routes.Active rd source group)) = (refl, refl)
    by false (Mcast afi (routes.SourceJoin rd source_as source group)) = (refl, refl)
    by false (Mcast afi (routes.Selective rd source group originator)) = (refl, refl)
    by false (Mcast afi (routes.Intra rd originator)) = (refl, refl)
    by false (Mcast afi (routes.Inter rd source_as)) = (refl, refl)
    by false (Mcast afi (routes.Leaf leaf originator)) = (refl, refl)
    by false (Mcast afi (routes.SharedJoin rd source_as source group)) = (refl, refl)
    by false (Mcast afi (routes.Other kind octets)) = (refl, refl)

-- and so do the parts that are of customers
pub change_customers : (place : EdgePlace) (own : OwnVrf) (peer : NodeId) (now : ℕ) (key : Key) (old new : Option TakenRoute) (tree : TreeData)
    → customers_of (tree_change place own peer now key old new tree) ≡ customers_of tree
change_customers place own peer now key old new tree = by (same_route old new) key
  where
    by : (b : Bool) (k : Key) → customers_of (cond b tree (tree_with place own peer now k old new tree)) ≡ customers_of tree
    by true k = refl
    by false (Unicast rd prefix) = refl
    by false (Mcast afi (routes.Active rd source group)) = refl
    by false (Mcast afi (routes.SourceJoin rd source_as source group)) = refl
    by false (Mcast afi (routes.Selective rd source group originator)) = refl
    by false (Mcast afi (routes.Intra rd originator)) = refl
    by false (Mcast afi (routes.Inter rd source_as)) = refl
    by false (Mcast afi (routes.Leaf leaf originator)) = refl
    by false (Mcast afi (routes.SharedJoin rd source_as source group)) = refl
    by false (Mcast afi (routes.Other kind octets)) = refl

-- ---- changes one after another

put_itself : (peers : FinMap node_cmp Taken) (peer : NodeId) (taken : Taken) → maps.get peers peer ≡ Some taken → maps.insert peers peer taken ≡ peers
put_itself peers peer taken up = maps.same_map node_cmp_total node_cmp_exact (maps.insert peers peer taken) peers
    (λ q. maps.get-insert node_cmp_total peers peer taken q ∙ by q (eq_by_cmp node_cmp q peer) refl)
  where
    by : (q : NodeId) (b : Bool) → eq_by_cmp node_cmp q peer ≡ b → cond b (Some taken) (maps.get peers q) ≡ maps.get peers q
    by q true e = sym up ∙ ap (maps.get peers) (sym (one_by node_cmp node_cmp_exact q peer e))
    by q false e = refl

put_twice : (peers : FinMap node_cmp Taken) (peer : NodeId) (one other : Taken)
    → maps.insert (maps.insert peers peer one) peer other ≡ maps.insert peers peer other
put_twice peers peer one other =
    maps.same_map node_cmp_total node_cmp_exact (maps.insert (maps.insert peers peer one) peer other) (maps.insert peers peer other)
    (λ q. maps.get-insert node_cmp_total (maps.insert peers peer one) peer other q
    ∙ ap (cond (eq_by_cmp node_cmp q peer) (Some other)) (maps.get-insert node_cmp_total peers peer one q)
    ∙ by (eq_by_cmp node_cmp q peer) (maps.get peers q) ∙ sym (maps.get-insert node_cmp_total peers peer other q))
  where
    by : (b : Bool) (o : Option Taken) → cond b (Some other) (cond b (Some one) o) ≡ cond b (Some other) o
    by true o = refl
    by false o = refl

abbrev Keeps : EdgePlace → Control → OwnVrf → TreeData → Type 0
Keeps place control own tree = IsTreeBetween place control own tree × AreWritable control

-- The tree that takes all changes keeps what the edge keeps after them.
pub changes_keep : (place : EdgePlace) (control : Control) (own : OwnVrf) (peer : NodeId) (taken : Taken) (now : ℕ) (changes : List Change)
    (tree : TreeData)
    → maps.get control.peers peer ≡ Some taken → AreWritable control → ((change : Change) → Among change changes → IsWritableKey (key_of change))
    → IsTreeBetween place control own tree
    → IsTreeBetween place (with_table peer (fold (taken_change now) taken changes) control) own (tree_updated place own peer now taken changes tree)
    × AreWritable (with_table peer (fold (taken_change now) taken changes) control)
changes_keep place control own peer taken now [] tree up spelled writable is =
    subst (λ (peers : FinMap node_cmp Taken). Keeps place (record control { peers = peers }) own tree) (sym (put_itself control.peers peer taken up))
    (is, spelled)
changes_keep place control own peer taken now (change ∷ more) tree up spelled writable is =
    let table = taken_change now taken change in
    let next = with_table peer table control in
    let rest = changes_keep place next own peer table now more (tree_taking place own peer now taken change tree) (put_own control.peers peer table)
    (change_spelled control peer taken now change up spelled (writable change (inl refl))) (λ other a. writable other (inr a))
    (change_keeps place control own peer taken now change tree up spelled (writable change (inl refl)) is) in
    subst (λ (peers : FinMap node_cmp Taken). Keeps place (record control { peers = peers }) own
    (tree_updated place own peer now table more (tree_taking place own peer now taken change tree)))
    (put_twice control.peers peer table (fold (taken_change now) table more)) rest

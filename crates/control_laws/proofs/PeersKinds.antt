-- What each kind of route gives the tree of a VRF, and that the tree keeps just that.
use Rattle.std.proofs.lemmas.Option.{same_Some}
use Rattle.std.proofs.Common.{◌≡◌, Option, Some, None, refl, sym, ap, subst, ◌∙◌}
use Rattle.std.specs.FinMap as maps
use Rattle.mv_base.specs.Number.{◌>>?◌}
use Rattle.mv_base.proofs.CutLemmas.{next_some, if_some}
use Rattle.mv_base.specs.declared.ids.NodeId.{NodeId}
use Rattle.mv_base.specs.declared.pattern.Pattern.{Pattern}
use Rattle.mv_base.specs.declared.rd.Rd.{Rd}
use Rattle.bgp_values.specs.declared.mvpn_nlri.route.Route.TheVariants as routes
use Rattle.bgp_messages.specs.declared.bgp_attributes.key.Key.{Key}
use Rattle.bgp_messages.specs.declared.bgp_attributes.key.Key.TheVariants.{Mcast, Unicast}
use Rattle.selective_defs.specs.declared.learned_route.LearnedRoute.{LearnedRoute}
use Rattle.selective.specs.Leaves as leaves
use Rattle.selective.specs.declared.route_key.Learned.{Learned}
use Rattle.selective.specs.declared.route_key.Place.TheVariants as selective_kinds
use Rattle.selective.specs.declared.route_key.RouteKey as selective_keys
use Rattle.umh_select.specs.Routes.{key_from, peer_of, rd_of}
use Rattle.umh_select.specs.declared.key.Place.{Place}
use Rattle.umh_select.specs.declared.key.Place.TheVariants.{First, Here, From, Last}
use Rattle.umh_select.specs.declared.key.RouteKey.{RouteKey}
use Rattle.umh_select.specs.declared.route.Held.{Held}
use Rattle.vrf_words.specs.declared.tree_defs.flow.ActiveRoute.{ActiveRoute}
use Rattle.vrf_words.specs.declared.tree_defs.flow.TakenJoin.{TakenJoin}
use Rattle.edge_defs.specs.Edge.{Control, TakenRoute}
use Rattle.edge_defs.specs.Imported.{FlowRoute, ImportedSelective, imported_active, imported_join, imported_selective, is_admitted, taken_from}
use Rattle.edge_defs.specs.Place.{EdgePlace, OwnVrf, addr_of}
use Rattle.vrf_words.specs.tree_laws.TreeOf.{IsActiveTaken, IsJoinTaken, IsSelectiveAt, IsSelectiveTaken, flow_route, held_at, held_from}
use Rattle.control_laws.specs.Peers.{active_of, join_of, pattern_of}
use Rattle.control_laws.proofs.PeersTold.{Tables, Told}

-- the tables of the peers
abbrev pub tables_of : Control → Tables
tables_of control peer key = maps.get (taken_from control peer) key

-- ---- unicast routes

abbrev pub tell_unicast : EdgePlace → OwnVrf → NodeId → Key → TakenRoute → Option (RouteKey × Held)
tell_unicast place own peer (Unicast rd prefix) taken = held_from place own.vrf peer taken.value >>? λ held. Some (key_from peer rd prefix, held)
tell_unicast place own peer other taken = None

module _ (place : EdgePlace) (control : Control) (own : OwnVrf) where
  pub unicast_told : (x : RouteKey) (held : Held) → held_at place control own x.prefix x.place ≡ Some held
      → Told (tell_unicast place own) (tables_of control) x held
  unicast_told x held h = by x.place refl h
    where
      by : (p : Place) → x.place ≡ p → held_at place control own x.prefix p ≡ Some held → Told (tell_unicast place own) (tables_of control) x held
      by First e k = absurd cc
      by Here e k = absurd cc
      by Last e k = absurd cc
      by (From peer rd) e k =
          next_some (λ (taken : TakenRoute). held_from place own.vrf peer taken.value) (maps.get (taken_from control peer) (Unicast rd x.prefix)) held
          k
          (λ taken is from. record {
            peer = peer;
            key = Unicast rd x.prefix;
            route = taken;
            is = is;
            tells = ap (λ (o : Option Held). o >>? λ h. Some (key_from peer rd x.prefix, h)) from
                ∙ (λ i. Some (record { prefix = x.prefix; place = sym e i }, held));
          })

  told_from : (x : RouteKey) (held : Held) (peer : NodeId) (key : Key) (taken : TakenRoute) → tables_of control peer key ≡ Some taken
      → tell_unicast place own peer key taken ≡ Some (x, held) → held_at place control own x.prefix x.place ≡ Some held
  told_from x held peer (Mcast afi route) taken is tells = absurd cc
  told_from x held peer (Unicast rd prefix) taken is tells =
      next_some (λ (h : Held). Some (key_from peer rd prefix, h)) (held_from place own.vrf peer taken.value) (x, held) tells
      (λ found from k.
      let same = same_Some (key_from peer rd prefix, found) (x, held) k in
      subst (λ (e : RouteKey × Held). held_at place control own e.0.prefix e.0.place ≡ Some e.1) same
      (ap (λ (o : Option TakenRoute). o >>? λ (t : TakenRoute). held_from place own.vrf peer t.value) is ∙ from))

  pub told_unicast : (x : RouteKey) (held : Held) → Told (tell_unicast place own) (tables_of control) x held
      → held_at place control own x.prefix x.place ≡ Some held
  told_unicast x held told = told_from x held told.peer told.key told.route told.is told.tells

-- where there is a route that gives this
unicast_at : (place : EdgePlace) (own : OwnVrf) (x : RouteKey) (held : Held) (peer : NodeId) (key : Key) (taken : TakenRoute)
    → tell_unicast place own peer key taken ≡ Some (x, held)
    → (peer ≡ peer_of x.place) × (key ≡ Unicast (rd_of x.place) x.prefix)
unicast_at place own x held peer (Mcast afi route) taken tells = absurd cc
unicast_at place own x held peer (Unicast rd prefix) taken tells =
    next_some (λ (h : Held). Some (key_from peer rd prefix, h)) (held_from place own.vrf peer taken.value) (x, held) tells
    (λ found from k.
    let same = same_Some (key_from peer rd prefix, found) (x, held) k in
    (ap (λ (e : RouteKey × Held). peer_of e.0.place) same, ap (λ (e : RouteKey × Held). Unicast (rd_of e.0.place) e.0.prefix) same))

pub unicast_where : (place : EdgePlace) (own : OwnVrf) (tables : Tables) (x : RouteKey) (held : Held)
    (told : Told (tell_unicast place own) tables x held)
    → (told.peer ≡ peer_of x.place) × (told.key ≡ Unicast (rd_of x.place) x.prefix)
unicast_where place own tables x held told = unicast_at place own x held told.peer told.key told.route told.tells

-- ---- Source Active routes

abbrev pub tell_active : OwnVrf → NodeId → Key → TakenRoute → Option (ActiveRoute × Unit {0})
tell_active own peer (Mcast afi (routes.Active rd source group)) taken =
    imported_active own.vrf (Mcast afi (routes.Active rd source group), taken) >>? λ flow. Some (active_of peer rd source group, tt)
tell_active own peer other taken = None

pub active_told : (control : Control) (own : OwnVrf) (x : ActiveRoute) → IsActiveTaken control own x → Told (tell_active own) (tables_of control) x tt
active_told control own x is = record {
  peer = x.peer;
  key = Mcast is.afi (routes.Active (record { 0 = x.rd }) x.flow.source x.flow.group);
  route = is.taken;
  is = is.at;
  tells = ap (λ (o : Option FlowRoute). o >>? λ flow. Some (x, tt)) is.imported;
}

-- where there is a route that gives this
pub record ActiveAt (own : OwnVrf) (x : ActiveRoute) (peer : NodeId) (key : Key) (taken : TakenRoute) : Type 0 where
  pub of_peer : peer ≡ x.peer
  pub afi : _
  pub is : key ≡ Mcast afi (routes.Active (record { 0 = x.rd }) x.flow.source x.flow.group)
  pub imported : imported_active own.vrf (Mcast afi (routes.Active (record { 0 = x.rd }) x.flow.source x.flow.group), taken)
      ≡ Some (flow_route x.flow)

active_at : (own : OwnVrf) (x : ActiveRoute) (peer : NodeId) (key : Key) (taken : TakenRoute) → tell_active own peer key taken ≡ Some (x, tt)
    → ActiveAt own x peer key taken
active_at own x peer (Unicast rd prefix) taken tells = absurd cc
active_at own x peer (Mcast afi (routes.Intra rd originator)) taken tells = absurd cc
active_at own x peer (Mcast afi (routes.Inter rd source_as)) taken tells = absurd cc
active_at own x peer (Mcast afi (routes.Selective rd source group originator)) taken tells = absurd cc
active_at own x peer (Mcast afi (routes.Leaf key originator)) taken tells = absurd cc
active_at own x peer (Mcast afi (routes.Active rd source group)) taken tells =
    next_some (λ (flow : FlowRoute). Some (active_of peer rd source group, tt))
    (imported_active own.vrf (Mcast afi (routes.Active rd source group), taken)) (x, tt) tells
    (λ flow imported k.
    let same = ap (λ (e : ActiveRoute × Unit {0}). e.0) (same_Some (active_of peer rd source group, tt) (x, tt) k) in
    let read = if_some (is_admitted own.vrf taken.value.comms) (record { source = source; group = group }) flow imported in
    subst (λ (r : ActiveRoute). ActiveAt own r peer (Mcast afi (routes.Active rd source group)) taken) same
    (record { of_peer = refl; afi = afi; is = refl; imported = imported ∙ ap (λ (f : FlowRoute). Some f) (sym read.1) }))
active_at own x peer (Mcast afi (routes.SharedJoin rd source_as source group)) taken tells = absurd cc
active_at own x peer (Mcast afi (routes.SourceJoin rd source_as source group)) taken tells = absurd cc
active_at own x peer (Mcast afi (routes.Other kind octets)) taken tells = absurd cc

pub told_active : (control : Control) (own : OwnVrf) (x : ActiveRoute) → Told (tell_active own) (tables_of control) x tt → IsActiveTaken control own x
told_active control own x told =
    let at = active_at own x told.peer told.key told.route told.tells in
    record { afi = at.afi; taken = told.route; at = (λ i. tables_of control (sym at.of_peer i) (sym at.is i)) ∙ told.is; imported = at.imported }

pub active_where : (own : OwnVrf) (tables : Tables) (x : ActiveRoute) (told : Told (tell_active own) tables x tt)
    → ActiveAt own x told.peer told.key told.route
active_where own tables x told = active_at own x told.peer told.key told.route told.tells

-- ---- Source Tree Joins

abbrev pub tell_join : EdgePlace → OwnVrf → NodeId → Key → TakenRoute → Option (TakenJoin × Unit {0})
tell_join place own peer key taken = imported_join place own.vrf (key, taken) >>? λ flow. Some (join_of peer flow.source flow.group, tt)

pub join_told : (place : EdgePlace) (control : Control) (own : OwnVrf) (x : TakenJoin) → IsJoinTaken place control own x
    → Told (tell_join place own) (tables_of control) x tt
join_told place control own x is = record {
  peer = x.peer;
  key = is.key;
  route = is.taken;
  is = is.at;
  tells = ap (λ (o : Option FlowRoute). o >>? λ flow. Some (join_of x.peer flow.source flow.group, tt)) is.used;
}

join_at : (place : EdgePlace) (own : OwnVrf) (x : TakenJoin) (peer : NodeId) (key : Key) (taken : TakenRoute)
    → tell_join place own peer key taken ≡ Some (x, tt)
    → (peer ≡ x.peer) × (imported_join place own.vrf (key, taken) ≡ Some (flow_route x.flow))
join_at place own x peer key taken tells =
    next_some (λ (flow : FlowRoute). Some (join_of peer flow.source flow.group, tt)) (imported_join place own.vrf (key, taken)) (x, tt) tells
    (λ flow imported k.
    let same = ap (λ (e : TakenJoin × Unit {0}). e.0) (same_Some (join_of peer flow.source flow.group, tt) (x, tt) k) in
    (ap (λ (j : TakenJoin). j.peer) same, imported ∙ ap (λ (j : TakenJoin). Some (flow_route j.flow)) same))

pub told_join : (place : EdgePlace) (control : Control) (own : OwnVrf) (x : TakenJoin) → Told (tell_join place own) (tables_of control) x tt
    → IsJoinTaken place control own x
told_join place control own x told =
    let at = join_at place own x told.peer told.key told.route told.tells in
    record { key = told.key; taken = told.route; at = ap (λ (q : NodeId). tables_of control q told.key) (sym at.0) ∙ told.is; used = at.1 }

pub join_where : (place : EdgePlace) (own : OwnVrf) (tables : Tables) (x : TakenJoin) (told : Told (tell_join place own) tables x tt)
    → (told.peer ≡ x.peer) × (imported_join place own.vrf (told.key, told.route) ≡ Some (flow_route x.flow))
join_where place own tables x told = join_at place own x told.peer told.key told.route told.tells

-- ---- selective routes

abbrev pub tell_selective : EdgePlace → OwnVrf → NodeId → Key → TakenRoute → Option (selective_keys.RouteKey × Learned)
tell_selective place own peer key taken = imported_selective own.vrf (addr_of place.scenario peer) (key, taken) >>? λ imported. Some (
  leaves.key_of peer imported.route.rd (pattern_of imported.route.source imported.route.group),
  record { fec = imported.fec; since = taken.since; run = taken.run },
)

abbrev as_learned : TakenRoute → Option ImportedSelective → Option LearnedRoute
as_learned taken o = elim o [
  | None ↦ None
  | Some imported ↦
      (let pattern : Pattern = record { source = imported.route.source; group = imported.route.group } in
      Some (record { pattern = pattern; fec = imported.fec; since = taken.since; run = taken.run }))
]

module _ (place : EdgePlace) (control : Control) (own : OwnVrf) where
  taken_told : (peer : NodeId) (rd : Rd) (pattern : Pattern) (learned : Learned) → IsSelectiveTaken place control own peer rd pattern learned
      → Told (tell_selective place own) (tables_of control) (leaves.key_of peer rd pattern) learned
  taken_told peer rd pattern learned is =
      let found : LearnedRoute = record {
        pattern = pattern_of is.imported.route.source is.imported.route.group;
        fec = is.imported.fec;
        since = is.taken.since;
        run = is.taken.run;
      } in
      let same : found ≡ record { pattern = pattern; fec = learned.fec; since = learned.since; run = learned.run } =
      same_Some _ _ (sym (ap (as_learned is.taken) is.is) ∙ is.learned_as) in
      record {
        peer = peer;
        key = is.key;
        route = is.taken;
        is = is.at;
        tells = ap (λ (o : Option ImportedSelective). o >>? λ imported. Some (
          leaves.key_of peer imported.route.rd (pattern_of imported.route.source imported.route.group),
          record { fec = imported.fec; since = is.taken.since; run = is.taken.run },
        )) is.is
            ∙ (λ i. Some (
              leaves.key_of peer (is.of_rd i) (same i).pattern,
              record { fec = (same i).fec; since = (same i).since; run = (same i).run },
            ));
      }

  pub selective_told : (x : selective_keys.RouteKey) (learned : Learned) → IsSelectiveAt place control own x learned
      → Told (tell_selective place own) (tables_of control) x learned
  selective_told x learned h = by x.place refl h
    where
      by : (p : _) → x.place ≡ p → IsSelectiveAt place control own (record { peer = x.peer; pattern = x.pattern; place = p }) learned
          → Told (tell_selective place own) (tables_of control) x learned
      by selective_kinds.First e k = absurd k
      by (selective_kinds.Of rd) e k =
          subst (λ (p : _). Told (tell_selective place own) (tables_of control) (record { peer = x.peer; pattern = x.pattern; place = p }) learned)
          (sym e)
          (taken_told x.peer rd x.pattern learned k)
      by selective_kinds.Last e k = absurd k

  pub told_selective : (x : selective_keys.RouteKey) (learned : Learned) → Told (tell_selective place own) (tables_of control) x learned
      → IsSelectiveAt place control own x learned
  told_selective x learned told = by told.peer told.key told.route told.is told.tells
    where
      by : (peer : NodeId) (key : Key) (taken : TakenRoute) → tables_of control peer key ≡ Some taken
          → tell_selective place own peer key taken ≡ Some (x, learned)
          → IsSelectiveAt place control own x learned
      by peer key taken is tells =
          next_some
          (λ (imported : ImportedSelective). Some (
            leaves.key_of peer imported.route.rd (pattern_of imported.route.source imported.route.group),
            record { fec = imported.fec; since = taken.since; run = taken.run },
          )) (imported_selective own.vrf (addr_of place.scenario peer) (key, taken)) (x, learned) tells
          (λ imported found k.
          subst (λ (e : selective_keys.RouteKey × Learned). IsSelectiveAt place control own e.0 e.1) (same_Some _ (x, learned) k)
          (record { key = key; taken = taken; imported = imported; at = is; is = found; of_rd = refl; learned_as = ap (as_learned taken) found }))

-- the imported route that gives this
pub record SelectiveAt (place : EdgePlace) (own : OwnVrf) (x : selective_keys.RouteKey) (peer : NodeId) (key : Key) (taken : TakenRoute) : Type 0
  where
    pub imported : ImportedSelective
    pub found : imported_selective own.vrf (addr_of place.scenario peer) (key, taken) ≡ Some imported
    pub is : leaves.key_of peer imported.route.rd (pattern_of imported.route.source imported.route.group) ≡ x

pub selective_where : (place : EdgePlace) (own : OwnVrf) (tables : Tables) (x : selective_keys.RouteKey) (learned : Learned)
    (told : Told (tell_selective place own) tables x learned)
    → SelectiveAt place own x told.peer told.key told.route
selective_where place own tables x learned told = by told.peer told.key told.route told.tells
  where
    by : (peer : NodeId) (key : Key) (taken : TakenRoute) → tell_selective place own peer key taken ≡ Some (x, learned)
        → SelectiveAt place own x peer key taken
    by peer key taken tells =
        next_some
        (λ (imported : ImportedSelective). Some (
          leaves.key_of peer imported.route.rd (pattern_of imported.route.source imported.route.group),
          record { fec = imported.fec; since = taken.since; run = taken.run },
        )) (imported_selective own.vrf (addr_of place.scenario peer) (key, taken)) (x, learned) tells
        (λ imported found k. record {
          imported = imported;
          found = found;
          is = ap (λ (e : selective_keys.RouteKey × Learned). e.0) (same_Some _ (x, learned) k);
        })

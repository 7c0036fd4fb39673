-- What a VRF chooses by all that it knows is chosen by its rule.
use Rattle.std.proofs.Common.{◌≡◌, ◌↔◌, ◌⊎◌, inl, inr, ℕ, ◌<◌, true, false, List, [], ◌∷◌, length, map, get_or, slice_get, Option, Some, None, option_map, is_some, refl, sym, ap, subst, ◌∙◌, arith}
use Rattle.std.specs.List.{flat_map}
use Rattle.std.specs.FinMap as maps
use Rattle.std.proofs.lemmas.Bool.{cases_eq, cases_lt}
use Rattle.std.proofs.lemmas.Option.{cond_some, slice_get-get_or}
use Rattle.mv_base.specs.Address.{same_addr, same_addr_equiv}
use Rattle.mv_base.specs.Number.{◌>>?◌, only_if}
use Rattle.mv_base.specs.Prefix.{covers}
use Rattle.mv_base.specs.declared.addr.Addr.{Addr}
use Rattle.mv_base.specs.declared.addr.Addr.TheVariants.{V4}
use Rattle.mv_base.specs.declared.ids.NodeId.{NodeId}
use Rattle.mv_base.specs.declared.ids.SiteId.{SiteId}
use Rattle.mv_base.specs.declared.rd.Rd.{Rd}
use Rattle.bgp_messages.specs.declared.bgp_attributes.key.Key.{Key}
use Rattle.bgp_messages.specs.declared.bgp_attributes.key.Key.TheVariants.{Mcast, Unicast}
use Rattle.scenario_defs.specs.Home.{local_routes}
use Rattle.scenario_defs.specs.Rules.{Rules}
use Rattle.scenario_defs.specs.declared.scenario.Node.{Node}
use Rattle.scenario_defs.specs.declared.scenario.Route.{Route}
use Rattle.scenario_defs.specs.declared.scenario.Scenario.{Scenario}
use Rattle.scenario_defs.proofs.RuleLemmas.{pair_at}
use Rattle.edge_defs.specs.choice_defs.Choice as choice
use Rattle.edge_defs.specs.choice_defs.Choice.{AreOfEdges, IsChosen, IsUncovered, best_route, of_site}
use Rattle.edge_defs.specs.choice_defs.declared.known_route.KnownRoute.{KnownRoute}
use Rattle.edge_defs.specs.choice_defs.declared.origin.Origin.{Origin}
use Rattle.edge_defs.specs.choice_defs.declared.origin.Origin.TheVariants as origins
use Rattle.edge_defs.proofs.choice_defs.BestLemmas.{Best, BestIs, best, opposite}
use Rattle.edge_defs.proofs.choice_defs.ChoiceLemmas.{chosen_when}
use Rattle.selective_defs.specs.Selective.{Among}
use Rattle.label_defs.proofs.KeyLemmas.{node_cmp_total}
use Rattle.edge_defs.specs.Edge.{Upstream, Site, Remote, TakenRoute, Taken, Control}
use Rattle.edge_defs.specs.Imported.{JoinBy, is_admitted, join_by, taken_from}
use Rattle.edge_defs.specs.Place.{EdgePlace, OwnVrf, addr_of}
use Rattle.edge_defs.specs.Upstream.{known_route, known_from, known_routes, upstream_by, costs_of, upstream_for}
use Rattle.edge_words.proofs.calm_laws.Lists.{among_choice, among_either, map_among, flat_map_among, found_among}
use Rattle.edge_words.proofs.calm_laws.Maps.{entry_get}
use Rattle.edge_words.proofs.calm_laws.Upstreams.{chained}
use Rattle.edge_words.specs.Known.{AreNodes, Says}
use Rattle.edge_words.proofs.Members.{taken_of}

-- ---- addresses of nodes

pub addr_at : (scenario : Scenario) (n : NodeId) (node : Node) → slice_get scenario.nodes n.0 ≡ Some node → addr_of scenario n ≡ node.addr
addr_at scenario n node e = ap (λ (o : Option Node). elim o [ None ↦ V4 [] | Some found ↦ found.addr ]) e

some_node : (nodes : List Node) (k : ℕ) → k < length nodes → (node : Node) × (slice_get nodes k ≡ Some node)
some_node [] k less = absurd (omega (arith, less))
some_node (node ∷ more) k less = at k less
  where
    at : (j : ℕ) → j < length (node ∷ more) → (found : Node) × (slice_get (node ∷ more) j ≡ Some found)
    at j h = (get_or (node ∷ more) j node, slice_get-get_or (node ∷ more) j node h)

apart_from : (x y : Addr) → x ≡ y → same_addr x y ≡ false → ⊥
apart_from x y same apart = opposite (same_addr x y) (ap (λ (z : Addr). same_addr z y) same ∙ same_addr_equiv.refl y) apart

-- nodes of one address are one
pub one_node : (scenario : Scenario) → Rules scenario → (a b : NodeId) → a.0 < length scenario.nodes → b.0 < length scenario.nodes
    → addr_of scenario a ≡ addr_of scenario b → a ≡ b
one_node scenario rules a b low high same =
    let here = some_node scenario.nodes a.0 low in
    let there = some_node scenario.nodes b.0 high in
    let addrs : here.0.addr ≡ there.0.addr = sym (addr_at scenario a here.0 here.1) ∙ same ∙ addr_at scenario b there.0 there.1 in
    elim (cases_eq a.0 b.0) [
      | inl e ↦ (λ i. record { 0 = e i })
      | inr ne ↦ elim (cases_lt a.0 b.0) [
        | inl less ↦ absurd (apart_from here.0.addr there.0.addr addrs
            (pair_at (λ (x : Node) (y : Node). same_addr x.addr y.addr ≡ false) scenario.nodes rules.core.addresses a.0 b.0 here.0 there.0 less here.1
            there.1))
        | inr rest ↦ absurd (apart_from there.0.addr here.0.addr (sym addrs)
            (pair_at (λ (x : Node) (y : Node). same_addr x.addr y.addr ≡ false) scenario.nodes rules.core.addresses b.0 a.0 there.0 here.0
            (omega (arith, ne, rest)) there.1 here.1))
      ]
    ]

-- ---- a route that is known

-- a route that was taken from a peer, with what its value says for a Source Tree Join
pub record FromPeer (place : EdgePlace) (control : Control) (route : KnownRoute) : Type 0 where
  pub peer : NodeId
  pub rd : Rd
  pub taken : TakenRoute
  pub by : JoinBy
  pub up : is_some (maps.get control.peers peer) ≡ true
  pub at : maps.get (taken_from control peer) (Unicast rd route.prefix) ≡ Some taken
  pub joins : join_by (addr_of place.scenario peer) taken.value ≡ Some by
  pub is : route.origin ≡ origins.Remote peer (addr_of place.scenario peer) rd

abbrev KnownIs : EdgePlace → Control → KnownRoute → Type 0
KnownIs place control route = ((site : SiteId) × (route.origin ≡ origins.Local site)) ⊎ FromPeer place control route

module _ (place : EdgePlace) (control : Control) (own : OwnVrf) where
  pub peer_known : (peer : NodeId) (table : Taken) (key : Key) (taken : TakenRoute) (route : KnownRoute)
      → Among (peer, table) (maps.entries control.peers) → Among (key, taken) (maps.entries table)
      → known_route place own.vrf peer (key, taken) ≡ Some route → FromPeer place control route
  peer_known peer table (Mcast afi other) taken route a b h = absurd cc
  peer_known peer table (Unicast rd prefix) taken route a b h =
      let made : KnownRoute = record { prefix = prefix; origin = origins.Remote peer (addr_of place.scenario peer) rd } in
      let first =
      chained (only_if (is_admitted own.vrf taken.value.comms) taken.value)
      (λ value. join_by (addr_of place.scenario peer) value >>? λ by. Some made) route h in
      let second = chained (join_by (addr_of place.scenario peer) first.0) (λ by. Some made) route first.2 in
      let one : made ≡ route = cc in
      let value = cond_some (is_admitted own.vrf taken.value.comms) taken.value first.0 first.1 in
      record {
        peer = peer;
        rd = rd;
        taken = taken;
        by = second.0;
        up = ap (λ (o : Option Taken). is_some o) (entry_get node_cmp_total control.peers peer table a);
        at = ap (λ (r : KnownRoute). maps.get (taken_from control peer) (Unicast rd r.prefix)) (sym one)
            ∙ taken_of control peer table (Unicast rd prefix) taken a b;
        joins = ap (join_by (addr_of place.scenario peer)) value.1 ∙ second.1;
        is = ap (λ (r : KnownRoute). r.origin) (sym one);
      }

  known_is : (route : KnownRoute) → choice.Among route (known_routes place control own) → KnownIs place control route
  known_is route a =
      elim (among_either route (map of_site (local_routes place.scenario own.id)) (flat_map (known_from place own.vrf) (maps.entries control.peers))
      (among_choice route (known_routes place control own) a)) [
        | inl b ↦ (let by = map_among of_site route (local_routes place.scenario own.id) b in inl (by.0.site, ap (λ (r : KnownRoute). r.origin) by.2))
        | inr b ↦
            (let peer = flat_map_among (known_from place own.vrf) route (maps.entries control.peers) b in
            let by = found_among (known_route place own.vrf peer.0.0) route (maps.entries peer.0.1) peer.2 in
            inr (peer_known peer.0.0 peer.0.1 by.0.0 by.0.1 route peer.1 by.1 by.2))
      ]

  -- a local one is a route of the VRF's sites
  pub local_is : (route : KnownRoute) (site : SiteId) → choice.Among route (known_routes place control own) → route.origin ≡ origins.Local site
      → (local : Route) × Among local (local_routes place.scenario own.id) × (route ≡ of_site local)
  local_is route site a h =
      elim (among_either route (map of_site (local_routes place.scenario own.id)) (flat_map (known_from place own.vrf) (maps.entries control.peers))
      (among_choice route (known_routes place control own) a)) [
        | inl b ↦ map_among of_site route (local_routes place.scenario own.id) b
        | inr b ↦
            (let peer = flat_map_among (known_from place own.vrf) route (maps.entries control.peers) b in
            let by = found_among (known_route place own.vrf peer.0.0) route (maps.entries peer.0.1) peer.2 in
            let far = peer_known peer.0.0 peer.0.1 by.0.0 by.0.1 route peer.1 by.1 by.2 in
            absurd (let bad : origins.Local site ≡ origins.Remote far.peer (addr_of place.scenario far.peer) far.rd = sym h ∙ far.is in cc))
      ]

  -- ---- edges

  -- what a remote origin names
  named : (route : KnownRoute) (edge : NodeId) (address : Addr) (rd : Rd) → KnownIs place control route
      → route.origin ≡ origins.Remote edge address rd
      → (is_some (maps.get control.peers edge) ≡ true) × (address ≡ addr_of place.scenario edge)
  named route edge address rd (inl local) h = absurd (let bad : origins.Local local.0 ≡ origins.Remote edge address rd = sym local.1 ∙ h in cc)
  named route edge address rd (inr far) h =
      let same : origins.Remote far.peer (addr_of place.scenario far.peer) far.rd ≡ origins.Remote edge address rd = sym far.is ∙ h in
      let edges : far.peer ≡ edge = cc in
      let addrs : addr_of place.scenario far.peer ≡ address = cc in
      (ap (λ (n : NodeId). is_some (maps.get control.peers n)) (sym edges) ∙ far.up, sym addrs ∙ ap (addr_of place.scenario) edges)

  pub of_edges : Rules place.scenario → AreNodes place control → AreOfEdges (known_routes place control own)
  of_edges rules nodes route other a b edge other_edge address other_address rd other_rd e f =
      let here = named route edge address rd (known_is route a) e in
      let there = named other other_edge other_address other_rd (known_is other b) f in (
        λ same. here.1 ∙ ap (addr_of place.scenario) same ∙ sym there.1,
        λ same. one_node place.scenario rules edge other_edge (nodes edge here.0) (nodes other_edge there.0) (sym here.1 ∙ same ∙ there.1),
      )

  -- ---- the upstream

  -- each route that is known tells an upstream
  tells : (route : KnownRoute) → KnownIs place control route → (up : Upstream) × (upstream_by place control route ≡ Some up) × Says route.origin up
  tells route (inl local) = (
    Site local.0,
    ap (λ (o : Origin). upstream_by place control (record { prefix = route.prefix; origin = o })) local.1,
    subst (λ (o : Origin). Says o (Site local.0)) (sym local.1) refl,
  )
  tells route (inr far) =
      let up : Upstream = Remote far.peer far.rd far.by.import far.by.source_as in (
        up,
        ap (λ (o : Origin). upstream_by place control (record { prefix = route.prefix; origin = o })) far.is
            ∙ ap (λ (o : Option TakenRoute). o >>? λ taken. join_by (addr_of place.scenario far.peer) taken.value >>? λ by. Some
            (Remote far.peer far.rd by.import by.source_as)) far.at
            ∙ ap (λ (o : Option JoinBy). o >>? λ by. Some (Remote far.peer far.rd by.import by.source_as)) far.joins,
        subst (λ (o : Origin). Says o up) (sym far.is) (far.by.import, far.by.source_as, refl),
      )

  module _ (source group : Addr) where
    abbrev routes : List KnownRoute
    routes = known_routes place control own

    abbrev costs : NodeId → ℕ
    costs = costs_of place own routes source group

    pub chosen_is : Rules place.scenario → AreNodes place control → (up : Upstream) → upstream_for place control own source group ≡ Some up
        → (origin : Origin) × IsChosen own.vrf.rule (place.core.cost place.me) routes source group origin × Says origin up
    chosen_is rules nodes up h =
        let found = chained (best_route costs routes source) (upstream_by place control) up h in
        let b : Best costs routes source found.0 = subst (BestIs costs routes source) found.1 (best costs routes source) in
        let told = tells found.0 (known_is found.0 b.among) in
        let same : told.0 ≡ up = same_some told.0 up (sym told.1 ∙ found.2) in (
          found.0.origin,
          chosen_when own.vrf.rule (place.core.cost place.me) routes source group found.0.origin (of_edges rules nodes)
              (ap (option_map (λ (r : KnownRoute). r.origin)) found.1),
          subst (λ (u : Upstream). Says found.0.origin u) same told.2,
        )
      where
        same_some : (a b : Upstream) → Some a ≡ Some b → a ≡ b
        same_some a b e = cc

    pub none_is : (upstream_for place control own source group ≡ None) ↔ IsUncovered routes source
    none_is = by (best_route costs routes source) (best costs routes source)
      where
        by : (o : Option KnownRoute) → BestIs costs routes source o → ((o >>? upstream_by place control) ≡ None) ↔ IsUncovered routes source
        by None b = (λ h. b, λ u. refl)
        by (Some route) b = (
          λ h. (let told = tells route (known_is route b.among) in absurd (let bad : Some told.0 ≡ None = sym told.1 ∙ h in cc)),
          λ u. absurd (opposite (covers route.prefix source) b.covering (u route b.among)),
        )

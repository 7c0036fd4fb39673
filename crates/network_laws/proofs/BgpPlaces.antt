-- What the scenario says of an edge's address, of its VRFs and of their local routes.
use Rattle.std.proofs.Common.{◌≡◌, ℕ, ◌+◌, ◌==◌, ◌<◌, ◌≤◌, Bool, true, false, cond, inl, inr, List, [], ◌∷◌, length, Option, Some, None, subst, arith}
use Rattle.std.specs.Prelude.{slice_get}
use Rattle.std.specs.List.{All, AllByRecursion}
use Rattle.std.proofs.lemmas.List.Elements.{All-get_or, recursion_from_All}
use Rattle.std.proofs.lemmas.Option.{slice_get_cases}
use Rattle.mv_base.specs.Address.{addr_octets}
use Rattle.mv_base.specs.Octets.{IsOctets}
use Rattle.mv_base.specs.declared.addr.Addr.{Addr}
use Rattle.mv_base.specs.declared.addr.Addr.TheVariants.{V4, V6}
use Rattle.mv_base.specs.declared.ids.NodeId.{NodeId}
use Rattle.mv_base.specs.declared.ids.SiteId.{SiteId}
use Rattle.mv_base.specs.declared.ids.VrfId.{VrfId}
use Rattle.mv_base.specs.declared.prefix.Prefix.{Prefix}
use Rattle.mv_base.specs.declared.route_targets.communities.Target.{Target}
use Rattle.scenario_defs.specs.Home.{routes_of_site, routes_from, local_routes}
use Rattle.scenario_defs.specs.Rules.{IsIpv4, IsTarget, IsVrf, IsSite, IsSitePrefix}
use Rattle.scenario_defs.specs.Vpn.{is_attached_at}
use Rattle.scenario_defs.specs.declared.scenario.Node.{Node}
use Rattle.scenario_defs.specs.declared.scenario.Route.{Route}
use Rattle.scenario_defs.specs.declared.scenario.Scenario.{Scenario}
use Rattle.scenario_defs.specs.declared.scenario.Site.{Site}
use Rattle.scenario_defs.specs.declared.scenario.Vrf.{Vrf}
use Rattle.network_defs.specs.edge_defs.Place.{EdgePlace, OwnVrf, addr_of, own_addr, vrfs_from, own_vrfs}
use Rattle.network_laws.specs.Sound.{IsHost, AreEight, SoundScenario}
use Rattle.network_laws.proofs.Lists.{each_append, each_map}

pub all_both : {X : Type 0} (P Q S : X → Type 0) → ((x : X) → P x → Q x → S x) → (xs : List X) → AllByRecursion P xs → AllByRecursion Q xs
    → AllByRecursion S xs
all_both P Q S f [] a b = tt
all_both P Q S f (x ∷ xs) a b = (f x a.0 b.0, all_both P Q S f xs a.1 b.1)

-- ---- the address of a node

ipv4_host : (addr : Addr) → IsIpv4 addr → IsOctets (addr_octets addr) → IsHost addr
ipv4_host (V4 octets) is fits = (is, fits)
ipv4_host (V6 octets) is fits = absurd is

node_host : (found : Option Node) (node : Node) → found ≡ Some node → IsHost node.addr
    → IsHost (elim found [ None ↦ V4 [] | Some other ↦ other.addr ])
node_host None node e h = absurd cc
node_host (Some other) node e h = let same : node ≡ other = cc in subst (λ (n : Node). IsHost n.addr) same h

pub addr_host : (scenario : Scenario) → SoundScenario scenario → (n : NodeId) → n.0 < length scenario.nodes → IsHost (addr_of scenario n)
addr_host scenario sound n lt = elim (slice_get_cases scenario.nodes n.0).1 [
  | inl there ↦
      (let node = there.0 in
      let is = subst (λ (x : Node). IsIpv4 x.addr) there.3 (All-get_or (λ (x : Node). IsIpv4 x.addr) scenario.nodes n.0 node lt sound.rules.core.ipv4)
      in
      let fits =
      subst (λ (x : Node). IsOctets (addr_octets x.addr)) there.3
      (All-get_or (λ (x : Node). IsOctets (addr_octets x.addr)) scenario.nodes n.0 node lt sound.octets.nodes) in
      node_host (slice_get scenario.nodes n.0) node there.2 (ipv4_host node.addr is fits))
  | inr past ↦ absurd (omega (arith, past.0, lt))
]

pub own_host : (place : EdgePlace) → SoundScenario place.scenario → place.me.0 < length place.scenario.nodes → IsHost (own_addr place)
own_host place sound lt = addr_host place.scenario sound place.me lt

-- ---- VRFs

pub record FitsVrf (vrf : Vrf) : Type 0 where
  pub rd : AreEight vrf.rd.0
  pub targets : AllByRecursion (λ (target : Target). AreEight target.0.0) vrf.targets
  pub few : length vrf.targets ≤ 8

vrf_fits : (scenario : Scenario) (vrf : Vrf) → IsVrf scenario vrf → IsOctets vrf.rd.0 → All (λ (target : Target). IsOctets target.0.0) vrf.targets
    → FitsVrf vrf
vrf_fits scenario vrf is rd targets = record {
  rd = (is.rd.0, rd);
  targets =
      all_both IsTarget (λ (target : Target). IsOctets target.0.0) (λ (target : Target). AreEight target.0.0) (λ target t o. (t.0, o)) vrf.targets
      (recursion_from_All IsTarget vrf.targets is.each) (recursion_from_All (λ (target : Target). IsOctets target.0.0) vrf.targets targets);
  few = is.few;
}

vrfs_fit : (scenario : Scenario) → SoundScenario scenario → AllByRecursion FitsVrf scenario.vrfs
vrfs_fit scenario sound =
    let is = recursion_from_All (IsVrf scenario) scenario.vrfs sound.rules.vrfs.each in
    let rds = recursion_from_All (λ (vrf : Vrf). IsOctets vrf.rd.0) scenario.vrfs sound.octets.rds in
    let targets = recursion_from_All (λ (vrf : Vrf). All (λ (target : Target). IsOctets target.0.0) vrf.targets) scenario.vrfs sound.octets.targets in
    let both =
    all_both (IsVrf scenario) (λ (vrf : Vrf). IsOctets vrf.rd.0) (λ (vrf : Vrf). IsVrf scenario vrf × IsOctets vrf.rd.0) (λ vrf a b. (a, b))
    scenario.vrfs is rds in
    all_both (λ (vrf : Vrf). IsVrf scenario vrf × IsOctets vrf.rd.0) (λ (vrf : Vrf). All (λ (target : Target). IsOctets target.0.0) vrf.targets)
    FitsVrf
    (λ vrf a b. vrf_fits scenario vrf a.0 a.1 b) scenario.vrfs both targets

abbrev FitsOwn : OwnVrf → Type 0
FitsOwn own = FitsVrf own.vrf

own_next : (own : OwnVrf) (rest : List OwnVrf) (b : Bool) → FitsOwn own → AllByRecursion FitsOwn rest
    → AllByRecursion FitsOwn (cond b (own ∷ rest) rest)
own_next own rest true a b = (a, b)
own_next own rest false a b = b

those_fit : (me : NodeId) (number : ℕ) (vrfs : List Vrf) → AllByRecursion FitsVrf vrfs → AllByRecursion FitsOwn (vrfs_from me number vrfs)
those_fit me number [] h = tt
those_fit me number (vrf ∷ more) h =
    own_next (record { id = record { 0 = number }; vrf = vrf }) (vrfs_from me (number + 1) more) (vrf.edge.0 == me.0) h.0
    (those_fit me (number + 1) more h.1)

pub own_fit : (place : EdgePlace) → SoundScenario place.scenario → AllByRecursion (λ (own : OwnVrf). FitsVrf own.vrf) (own_vrfs place)
own_fit place sound = those_fit place.me 0 place.scenario.vrfs (vrfs_fit place.scenario sound)

-- ---- local routes

pub record FitsPrefix (prefix : Prefix) : Type 0 where
  pub is : IsSitePrefix prefix
  pub octets : IsOctets (addr_octets prefix.addr)

abbrev FitsSite : Site → Type 0
FitsSite site = AllByRecursion FitsPrefix site.prefixes

site_fits : (site : Site) → IsSite site → All (λ (prefix : Prefix). IsOctets (addr_octets prefix.addr)) site.prefixes → FitsSite site
site_fits site is octets =
    all_both IsSitePrefix (λ (prefix : Prefix). IsOctets (addr_octets prefix.addr)) FitsPrefix (λ prefix a b. record { is = a; octets = b })
    site.prefixes
    (recursion_from_All IsSitePrefix site.prefixes is.each)
    (recursion_from_All (λ (prefix : Prefix). IsOctets (addr_octets prefix.addr)) site.prefixes octets)

sites_fit : (scenario : Scenario) → SoundScenario scenario → AllByRecursion FitsSite scenario.sites
sites_fit scenario sound =
    all_both IsSite (λ (site : Site). All (λ (prefix : Prefix). IsOctets (addr_octets prefix.addr)) site.prefixes) FitsSite site_fits scenario.sites
    (recursion_from_All IsSite scenario.sites sound.rules.sites.each)
    (recursion_from_All (λ (site : Site). All (λ (prefix : Prefix). IsOctets (addr_octets prefix.addr)) site.prefixes) scenario.sites
    sound.octets.prefixes)

abbrev FitsRoute : Route → Type 0
FitsRoute route = FitsPrefix route.prefix

if_passes : (b : Bool) (routes : List Route) → AllByRecursion FitsRoute routes → AllByRecursion FitsRoute (cond b routes [])
if_passes true routes h = h
if_passes false routes h = tt

routes_fit : (passes : SiteId → Bool) (number : ℕ) (sites : List Site) → AllByRecursion FitsSite sites
    → AllByRecursion FitsRoute (routes_from passes number sites)
routes_fit passes number [] h = tt
routes_fit passes number (site ∷ more) h =
    let id : SiteId = record { 0 = number } in
    let own : List Route = routes_of_site id site.prefixes in
    each_append FitsRoute (cond (passes id) own []) (routes_from passes (number + 1) more)
    (if_passes (passes id) own (each_map FitsRoute (λ (prefix : Prefix). record { prefix = prefix; site = id }) site.prefixes h.0))
    (routes_fit passes (number + 1) more h.1)

pub local_fit : (scenario : Scenario) → SoundScenario scenario → (vrf : VrfId)
    → AllByRecursion (λ (route : Route). FitsPrefix route.prefix) (local_routes scenario vrf)
local_fit scenario sound vrf = routes_fit (is_attached_at scenario vrf) 0 scenario.sites (sites_fit scenario sound)

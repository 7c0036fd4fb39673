-- The prefixes of the sites that are attached at a VRF, by the rules of the scenario.
use Rattle.std.proofs.Common.{ℕ, ◌+◌, Bool, true, false, cond, List, [], ◌∷◌}
use Rattle.std.specs.List.{All}
use Rattle.std.proofs.lemmas.List.Elements.{All-append, All-map, All-nil, All-head, All-tail}
use Rattle.mv_base.specs.declared.ids.SiteId.{SiteId}
use Rattle.mv_base.specs.declared.ids.VrfId.{VrfId}
use Rattle.mv_base.specs.declared.prefix.Prefix.{Prefix}
use Rattle.scenario_defs.specs.Home.{local_routes, routes_from, routes_of_site}
use Rattle.scenario_defs.specs.Rules.{IsSite, IsSitePrefix, Rules}
use Rattle.scenario_defs.specs.Vpn.{is_attached_at}
use Rattle.scenario_defs.specs.declared.scenario.Route.{Route}
use Rattle.scenario_defs.specs.declared.scenario.Scenario.{Scenario}
use Rattle.scenario_defs.specs.declared.scenario.Site.{Site}

abbrev IsSiteRoute : Route → Type 0
IsSiteRoute route = IsSitePrefix route.prefix

of_site : (id : SiteId) (site : Site) → IsSite site → All IsSiteRoute (routes_of_site id site.prefixes)
of_site id site is = All-map IsSiteRoute (λ (prefix : Prefix). record { prefix = prefix; site = id }) site.prefixes is.each

if_passes : (b : Bool) (routes : List Route) → All IsSiteRoute routes → All IsSiteRoute (cond b routes [])
if_passes true routes h = h
if_passes false routes h = All-nil IsSiteRoute

of_sites : (passes : SiteId → Bool) (number : ℕ) (sites : List Site) → All IsSite sites → All IsSiteRoute (routes_from passes number sites)
of_sites passes number [] h = All-nil IsSiteRoute
of_sites passes number (site ∷ more) h =
    let id : SiteId = record { 0 = number } in
    All-append IsSiteRoute (cond (passes id) (routes_of_site id site.prefixes) []) (routes_from passes (number + 1) more)
    (if_passes (passes id) (routes_of_site id site.prefixes) (of_site id site (All-head IsSite site more h)))
    (of_sites passes (number + 1) more (All-tail IsSite site more h))

pub local_prefixes : (scenario : Scenario) → Rules scenario → (vrf : VrfId)
    → All (λ (route : Route). IsSitePrefix route.prefix) (local_routes scenario vrf)
local_prefixes scenario rules vrf = of_sites (is_attached_at scenario vrf) 0 scenario.sites rules.sites.each

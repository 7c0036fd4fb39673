-- The home of a source in a VPN: the site with the longest prefix that covers it (RFC 6513 section 5.1).
use Rattle.std.specs.Prelude.{◌≡◌, ℕ, ◌+◌, ◌≤◌, nat_le, Bool, true, false, List, [], ◌∷◌, ◌++◌, map, filter, slice_get, Option}
use Rattle.std.specs.Prelude.{None, Some, option_map, if◌then◌else◌}
use Rattle.mv_base.specs.declared.ids.VrfId.{VrfId}
use Rattle.mv_base.specs.declared.ids.SiteId.{SiteId}
use Rattle.mv_base.specs.declared.addr.Addr.{Addr}
use Rattle.mv_base.specs.declared.prefix.Prefix.{Prefix}
use Rattle.mv_base.specs.Prefix.{covers}
use Rattle.scenario_defs.specs.declared.scenario.Site.{Site}
use Rattle.scenario_defs.specs.declared.scenario.Scenario.{Scenario}
use Rattle.scenario_defs.specs.declared.scenario.Route.{Route}
use Rattle.scenario_defs.specs.Vpn.{is_attached, is_attached_at}

-- a site's prefixes, each with the site
abbrev pub routes_of_site : SiteId → List Prefix → List Route
routes_of_site site prefixes = map (λ prefix. record { prefix = prefix; site = site }) prefixes

-- the routes of those of the sites, numbered from that one on, that pass a test
abbrev pub routes_from : (SiteId → Bool) → ℕ → List Site → List Route
routes_from passes number [] = []
routes_from passes number (site ∷ more) =
    (if passes (record { 0 = number }) then routes_of_site (record { 0 = number }) site.prefixes else []) ++
    routes_from passes (number + 1) more

-- the routes of a VRF's VPN: each prefix of each site that is attached to the VPN
abbrev pub routes : Scenario → VrfId → List Route
routes scenario vrf = routes_from (is_attached scenario vrf) 0 scenario.sites

-- the local routes of a VRF: each prefix of each site that is attached at the VRF itself
abbrev pub local_routes : Scenario → VrfId → List Route
local_routes scenario vrf = routes_from (is_attached_at scenario vrf) 0 scenario.sites

-- the longer of two routes, and the first of two that are equally long
abbrev pub longer : Option Route → Route → Option Route
longer None route = Some route
longer (Some best) route = if nat_le route.prefix.bits best.prefix.bits then Some best else Some route

-- of the best so far and the routes after it, the longest
abbrev pub longest_after : Option Route → List Route → Option Route
longest_after best [] = best
longest_after best (route ∷ more) = longest_after (longer best route) more

-- the site of the longest of the routes that cover the source
abbrev pub home_by : List Route → Addr → Option SiteId
home_by all source = option_map (λ route. route.site) (longest_after None (filter (λ route. covers route.prefix source) all))

-- the site that is home of the source in the VRF's VPN
abbrev pub home : Scenario → VrfId → Addr → Option SiteId
home scenario vrf source = home_by (routes scenario vrf) source

-- The upstream choice of a VRF that knows no route but its local ones: the site of the longest that covers the source
-- (RFC 6513 section 5.1).
abbrev pub local_choice : Scenario → VrfId → Addr → Option SiteId
local_choice scenario vrf source = home_by (local_routes scenario vrf) source

-- The site is that of a route that covers the source, and no route that covers it is longer.
pub record IsLongest (all : List Route) (source : Addr) (site : SiteId) : Type 0 where
  pub place : ℕ
  pub route : Route
  pub among : slice_get all place ≡ Some route
  pub covering : covers route.prefix source ≡ true
  pub of_site : route.site ≡ site
  pub longest :
      (other_place : ℕ) (other : Route) →
      slice_get all other_place ≡ Some other →
      covers other.prefix source ≡ true →
      other.prefix.bits ≤ route.prefix.bits

-- No route covers the source.
abbrev pub IsUncovered : List Route → Addr → Type 0
IsUncovered all source = (place : ℕ) (route : Route) → slice_get all place ≡ Some route → covers route.prefix source ≡ false

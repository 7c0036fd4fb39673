-- Homes and entries, by the families of addresses (RFC 6513 section 5.1.1, RFC 7761 section 4.9.1).
use Rattle.std.specs.Prelude.{◌≡◌, ◌≤◌, true, Some}
use Rattle.mv_base.specs.Prefix.{covers}
use Rattle.mv_base.specs.declared.addr.Addr.{Addr}
use Rattle.mv_base.specs.declared.ids.IfaceId.{IfaceId}
use Rattle.mv_base.specs.declared.ids.NodeId.{NodeId}
use Rattle.mv_base.specs.declared.ids.SiteId.{SiteId}
use Rattle.mv_base.specs.declared.ids.VrfId.{VrfId}
use Rattle.scenario_defs.specs.Home.{routes}
use Rattle.scenario_defs.specs.Rules.{AreOfOneFamily}
use Rattle.scenario_defs.specs.Vpn.{edge_of}
use Rattle.scenario_defs.specs.declared.event.JoinEntry.{JoinEntry}
use Rattle.scenario_defs.specs.declared.event.JoinEntry.TheVariants as entries
use Rattle.scenario_defs.specs.declared.scenario.Route.{Route}
use Rattle.scenario_defs.specs.declared.scenario.Scenario.{Scenario}
use Rattle.selective_defs.specs.Selective.{Among}
use Rattle.pim_defs.specs.Expiry.{counts}
use Rattle.mvpn_model.specs.Past.{Past, standing}
use Rattle.network_defs.specs.World.{World, scenario_of, clock_of}

-- The site has a prefix of the source's family that covers the source, and no site of the VPN has a longer one that does.
pub record IsSiteOfLongest (scenario : Scenario) (vrf : VrfId) (source : Addr) (site : SiteId) : Type 0 where
  pub route : Route
  pub among : Among route (routes scenario vrf)
  pub of_site : route.site ≡ site
  pub family : AreOfOneFamily route.prefix.addr source
  pub covering : covers route.prefix source ≡ true
  pub longest : (other : Route) → Among other (routes scenario vrf) → covers other.prefix source ≡ true
      → other.prefix.bits ≤ route.prefix.bits

-- source and group of an entry are of one family
abbrev pub IsOfOneFamily : JoinEntry → Type 0
IsOfOneFamily (entries.Star group) = Unit {0}
IsOfOneFamily (entries.Source source group) = AreOfOneFamily source group
IsOfOneFamily (entries.Rpt source group) = AreOfOneFamily source group

-- An entry that counts at an interface, by the events, is of one family.
abbrev pub EntriesAreOfOneFamily : Past → World → Type 0
EntriesAreOfOneFamily past world =
    (iface : IfaceId) (n : NodeId) (entry : JoinEntry) → edge_of (scenario_of world) iface ≡ Some n →
    counts (clock_of world) (standing past iface entry).expiry ≡ true → IsOfOneFamily entry

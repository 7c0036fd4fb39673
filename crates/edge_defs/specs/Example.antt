-- Two edges, 192.0.2.1 and 192.0.2.2, joined by a core node, with a VRF of one VPN at each: a site with 10.1.0.0/24 is attached at the
-- first one, and a site with 10.2.0.0/24 at the second.
use Rattle.std.specs.Prelude.{◌≡◌, ◌↔◌, ℕ, ◌==◌, ◌||◌, false, true, List, [], ◌∷◌, length, Option, None, Some, option_map, if◌then◌else◌}
use Rattle.std.specs.FinMap as maps
use Rattle.std.specs.FinSet as sets
use Rattle.mv_base.specs.declared.addr.Addr.{Addr}
use Rattle.mv_base.specs.declared.addr.Addr.TheVariants.{V4}
use Rattle.mv_base.specs.declared.core_link.Link.{Link}
use Rattle.mv_base.specs.declared.ids.NodeId.{NodeId}
use Rattle.mv_base.specs.declared.prefix.Prefix.{Prefix}
use Rattle.mv_base.specs.declared.rd.Rd.{Rd}
use Rattle.mv_base.specs.declared.rd.Rule.TheVariants.{Highest}
use Rattle.label_defs.specs.mldp.declared.mldp_fec.fec.Fec.{Fec}
use Rattle.label_defs.specs.mldp.declared.mldp_fec.fec.FecKind.TheVariants.{P2mp}
use Rattle.bgp_messages.specs.bgp_values.declared.mvpn_nlri.route.Afi.TheVariants.{Ipv4}
use Rattle.bgp_messages.specs.bgp_values.declared.mvpn_nlri.route.Route.TheVariants as routes
use Rattle.bgp_messages.specs.bgp_values.declared.pmsi_attr.pmsi.Pmsi.{Pmsi}
use Rattle.bgp_messages.specs.bgp_values.declared.pmsi_attr.pmsi.Tunnel.TheVariants as tunnels
use Rattle.mv_base.specs.declared.route_targets.communities.ExtComm.{ExtComm}
use Rattle.bgp_messages.specs.declared.bgp_attributes.key.Key.{Key}
use Rattle.bgp_messages.specs.declared.bgp_attributes.key.Key.TheVariants.{Mcast, Unicast}
use Rattle.bgp_messages.specs.bgp_update.Written.{written}
use Rattle.mv_base.specs.declared.table_defs.change.Change.TheVariants.{Reach}
use Rattle.choice_defs.specs.scenario_defs.declared.scenario.Iface.{Iface}
use Rattle.choice_defs.specs.scenario_defs.declared.scenario.Node.{Node}
use Rattle.choice_defs.specs.scenario_defs.declared.scenario.Scenario.{Scenario}
use Rattle.choice_defs.specs.scenario_defs.declared.scenario.Site.{Site}
use Rattle.choice_defs.specs.scenario_defs.declared.scenario.Vrf.{Vrf}
use Rattle.label_defs.specs.Steps as labels
use Rattle.selective_defs.specs.Selective.{Among}
use Rattle.edge_defs.specs.Edge.{Import, Upstream, Remote, VrfFlow, TakenRoute, Taken, Control, no_control}
use Rattle.edge_defs.specs.Held.{join_route}
use Rattle.edge_defs.specs.Keys.{Value}
use Rattle.edge_defs.specs.Messages.{as_update}
use Rattle.edge_defs.specs.Originated.{import_target, originated}
use Rattle.edge_defs.specs.Place.{EdgePlace, OwnVrf, own_addr, lsp, tunnel_number}
use Rattle.edge_defs.specs.Steps.{changed_leaves}
use Rattle.edge_defs.specs.Tunnels.{leaves}
use Rattle.edge_defs.specs.Upstream.{upstream_for}

-- ---- the scenario

abbrev pub first_addr : Addr
first_addr = V4 (192 ∷ 0 ∷ 2 ∷ 1 ∷ [])

abbrev pub second_addr : Addr
second_addr = V4 (192 ∷ 0 ∷ 2 ∷ 2 ∷ [])

abbrev pub core_addr : Addr
core_addr = V4 (192 ∷ 0 ∷ 2 ∷ 9 ∷ [])

-- the edges E1 and E2, and the core node C
abbrev pub first : NodeId
first = record { 0 = 0 }

abbrev pub second : NodeId
second = record { 0 = 1 }

abbrev pub middle : NodeId
middle = record { 0 = 2 }

abbrev pub nodes : List Node
nodes =
    record { name = 69 ∷ 49 ∷ []; addr = first_addr; edge = true }
    ∷ record { name = 69 ∷ 50 ∷ []; addr = second_addr; edge = true }
    ∷ record { name = 67 ∷ []; addr = core_addr; edge = false }
    ∷ []

abbrev pub links : List Link
links = record { a = first; b = middle; cost = 1 } ∷ record { a = second; b = middle; cost = 1 } ∷ []

-- 65000:1, as route distinguisher and as Route Target
abbrev pub distinguisher : Rd
distinguisher = record { 0 = 0 ∷ 0 ∷ 253 ∷ 232 ∷ 0 ∷ 0 ∷ 0 ∷ 1 ∷ [] }

abbrev pub target : ExtComm
target = record { 0 = 0 ∷ 2 ∷ 253 ∷ 232 ∷ 0 ∷ 0 ∷ 0 ∷ 1 ∷ [] }

-- the VRFs V1 and V2
abbrev pub first_vrf : Vrf
first_vrf =
    record { name = 86 ∷ 49 ∷ []; edge = first; number = 1; rd = distinguisher; targets = record { 0 = target } ∷ []; rule = Highest }

abbrev pub second_vrf : Vrf
second_vrf =
    record { name = 86 ∷ 50 ∷ []; edge = second; number = 1; rd = distinguisher; targets = record { 0 = target } ∷ []; rule = Highest }

abbrev pub first_prefix : Prefix
first_prefix = record { addr = V4 (10 ∷ 1 ∷ 0 ∷ 0 ∷ []); bits = 24 }

abbrev pub second_prefix : Prefix
second_prefix = record { addr = V4 (10 ∷ 2 ∷ 0 ∷ 0 ∷ []); bits = 24 }

-- the sites X and Y
abbrev pub sites : List Site
sites = record { name = 88 ∷ []; prefixes = first_prefix ∷ [] } ∷ record { name = 89 ∷ []; prefixes = second_prefix ∷ [] } ∷ []

-- the interfaces X1 and Y1
abbrev pub ifaces : List Iface
ifaces =
    record { name = 88 ∷ 49 ∷ []; vrf = record { 0 = 0 }; site = record { 0 = 0 }; addr = V4 (10 ∷ 1 ∷ 0 ∷ 1 ∷ []) }
    ∷ record { name = 89 ∷ 49 ∷ []; vrf = record { 0 = 1 }; site = record { 0 = 1 }; addr = V4 (10 ∷ 2 ∷ 0 ∷ 1 ∷ []) }
    ∷ []

abbrev pub scenario : Scenario
scenario = record {
  life = 2;
  delay = 3;
  labels = 4096;
  system = 65000;
  nodes = nodes;
  links = links;
  vrfs = first_vrf ∷ second_vrf ∷ [];
  sites = sites;
  ifaces = ifaces;
}

-- each edge reaches the core node over one link, and the other edge by it
abbrev pub cost : NodeId → NodeId → ℕ
cost from to = if from.0 == to.0 then 0 else if from.0 == 2 || to.0 == 2 then 1 else 2

abbrev pub toward : NodeId → NodeId → Option NodeId
toward from to = if from.0 == to.0 then None else if from.0 == 2 then Some to else Some middle

abbrev pub place_of : NodeId → EdgePlace
place_of me = record { scenario = scenario; core = record { cost = cost; toward = toward }; me = me }

-- ---- what the first edge originates

abbrev pub inclusive_key : Key
inclusive_key = Mcast Ipv4 (routes.Intra distinguisher first_addr)

abbrev pub inclusive_tunnel : Fec
inclusive_tunnel = record { kind = P2mp; root = first_addr; opaque = 1 ∷ 0 ∷ 4 ∷ 0 ∷ 16 ∷ 0 ∷ 0 ∷ [] }

abbrev pub inclusive_value : Value
inclusive_value =
    let tunnel : Pmsi = record { leaf_info = false; tunnel = tunnels.Mldp inclusive_tunnel; label = None } in
    record { next_hop = first_addr; comms = target ∷ []; pmsi = Some tunnel }

abbrev pub unicast_key : Key
unicast_key = Unicast distinguisher first_prefix

-- the target, the VRF Route Import of 192.0.2.1 and VRF 1, and the Source AS 65000
abbrev pub unicast_value : Value
unicast_value = record {
  next_hop = first_addr;
  comms = target ∷ record { 0 = 1 ∷ 11 ∷ 192 ∷ 0 ∷ 2 ∷ 1 ∷ 0 ∷ 1 ∷ [] } ∷ record { 0 = 0 ∷ 9 ∷ 253 ∷ 232 ∷ 0 ∷ 0 ∷ 0 ∷ 0 ∷ [] } ∷ [];
  pmsi = None;
}

-- ---- what the second edge makes of it

-- both routes were taken, in the order in which they were put
abbrev pub taken : Value → TakenRoute
taken value = record { value = value; since = 0; run = false }

abbrev pub first_table : Taken
first_table = maps.insert (maps.insert maps.empty unicast_key (taken unicast_value)) inclusive_key (taken inclusive_value)

abbrev pub second_control : Control
second_control = record no_control { peers = maps.insert maps.empty first first_table }

abbrev pub second_own : OwnVrf
second_own = record { id = record { 0 = 1 }; vrf = second_vrf }

abbrev pub source : Addr
source = V4 (10 ∷ 1 ∷ 0 ∷ 9 ∷ [])

abbrev pub group : Addr
group = V4 (232 ∷ 1 ∷ 1 ∷ 1 ∷ [])

abbrev pub upstream : Upstream
upstream = Remote first distinguisher (record { addr = first_addr; number = 1 }) 65000

abbrev pub flow : VrfFlow
flow = record { vrf = record { 0 = 1 }; source = source; group = group }

-- the Source Tree Join of the flow at the first edge, by what the chosen route says
abbrev pub join_key : Rd → ℕ → Key
join_key rd source_as = Mcast Ipv4 (routes.SourceJoin rd source_as source group)

abbrev pub join_value : Import → Value
join_value import = record { next_hop = second_addr; comms = import_target import ∷ []; pmsi = None }

-- that of the unicast route of the first edge, as an UPDATE message
abbrev pub join_octets : List ℕ
join_octets =
    255 ∷ 255 ∷ 255 ∷ 255 ∷ 255 ∷ 255 ∷ 255 ∷ 255 ∷ 255 ∷ 255 ∷ 255 ∷ 255 ∷ 255 ∷ 255 ∷ 255 ∷ 255 ∷ 0 ∷ 84 ∷ 2 ∷ 0 ∷ 0 ∷ 0 ∷ 61
    ∷ 0x40 ∷ 1 ∷ 1 ∷ 0
    ∷ 0x40 ∷ 2 ∷ 0
    ∷ 0x40 ∷ 5 ∷ 4 ∷ 0 ∷ 0 ∷ 0 ∷ 100
    ∷ 0x80 ∷ 14 ∷ 33 ∷ 0 ∷ 1 ∷ 5 ∷ 4 ∷ 192 ∷ 0 ∷ 2 ∷ 2 ∷ 0
    ∷ 7 ∷ 22 ∷ 0 ∷ 0 ∷ 253 ∷ 232 ∷ 0 ∷ 0 ∷ 0 ∷ 1 ∷ 0 ∷ 0 ∷ 253 ∷ 232 ∷ 32 ∷ 10 ∷ 1 ∷ 0 ∷ 9 ∷ 32 ∷ 232 ∷ 1 ∷ 1 ∷ 1
    ∷ 0xC0 ∷ 16 ∷ 8 ∷ 1 ∷ 2 ∷ 192 ∷ 0 ∷ 2 ∷ 1 ∷ 0 ∷ 1
    ∷ []

-- The first edge originates the inclusive route and one unicast route, each in an UPDATE message of 99 octets. The second edge, which
-- has taken both, chooses the first one for a source at the first site, and joins there by this message; whatever the chosen route says,
-- its join says the same. It is a leaf of the inclusive tunnel, and that is the one tree that it wants more than before.
pub record Worked : Type 0 where
  pub originates : originated (place_of first) no_control ≡ (inclusive_key, inclusive_value) ∷ (unicast_key, unicast_value) ∷ []
  pub inclusive_octets : length (written (as_update (Reach inclusive_key inclusive_value))) ≡ 99
  pub unicast_octets : length (written (as_update (Reach unicast_key unicast_value))) ≡ 99
  pub joins :
      option_map (λ (route : Key × Value). written (as_update (Reach route.0 route.1)))
      (join_route (place_of second) first (flow, Some upstream))
      ≡ Some join_octets
  pub joins_by : (rd : Rd) (import : Import) (source_as : ℕ) →
      join_route (place_of second) first (flow, Some (Remote first rd import source_as)) ≡ Some (join_key rd source_as, join_value import)
  pub tunnel : lsp (own_addr (place_of first)) (tunnel_number first_vrf 0) ≡ inclusive_tunnel
  pub chooses : upstream_for (place_of second) second_control second_own source group ≡ Some upstream
  pub leaf : sets.contains (leaves (place_of second) second_control) inclusive_tunnel ≡ true
  pub wants : (call : labels.Call) →
      Among call (changed_leaves (leaves (place_of second) no_control) (leaves (place_of second) second_control))
      ↔ (call ≡ labels.Want inclusive_tunnel)

-- What the text of a number says: 32 edges over a ring of 16 core nodes, with eight VPNs that have a site at every edge, and the events.
-- Things of one kind are numbered from 0 on, in the order of their lines; edges, core nodes and VPNs are counted from 1 on.
use Rattle.std.specs.Prelude.{ℕ, zero, suc, ◌+◌, ◌-◌, ◌*◌, ◌%◌, ◌==◌, ◌&&◌, not, true, false, List, [], ◌∷◌, ◌++◌, length, Some}
use Rattle.std.specs.Prelude.{codes, if◌then◌else◌}
use Rattle.std.specs.Fmt.{decimal}
use Rattle.mv_base.specs.declared.addr.Addr.{Addr}
use Rattle.mv_base.specs.declared.addr.Addr.TheVariants.{V4}
use Rattle.mv_base.specs.declared.core_link.Link.{Link}
use Rattle.mv_base.specs.declared.ids.NodeId.{NodeId}
use Rattle.mv_base.specs.declared.ids.VrfId.{VrfId}
use Rattle.mv_base.specs.declared.ids.SiteId.{SiteId}
use Rattle.mv_base.specs.declared.ids.IfaceId.{IfaceId}
use Rattle.mv_base.specs.declared.rd.Rule.TheVariants.{Highest}
use Rattle.scenario_defs.specs.declared.scenario.Node.{Node}
use Rattle.scenario_defs.specs.declared.scenario.Vrf.{Vrf}
use Rattle.scenario_defs.specs.declared.scenario.Site.{Site}
use Rattle.scenario_defs.specs.declared.scenario.Iface.{Iface}
use Rattle.scenario_defs.specs.declared.scenario.Scenario.{Scenario}
use Rattle.scenario_defs.specs.declared.event.Event.{Event}
use Rattle.scenario_defs.specs.declared.event.CustomerEvent.TheVariants as customers
use Rattle.scenario_defs.specs.declared.event.Event.TheVariants as events
use Rattle.scenario_defs.specs.declared.event.JoinEntry.TheVariants.{Source}
use Rattle.scenario_defs.specs.declared.event.Timed.{Timed}
use Rattle.scenario_defs.specs.declared.event.Script.{Script}

-- what each number from 1 on has, up to that one, in one list
abbrev pub each : {A : Type 0} → (ℕ → List A) → ℕ → List A
each of zero = []
each of (suc count) = each of count ++ of (suc count)

-- one for each number from 1 on, up to that one
abbrev pub all : {A : Type 0} → (ℕ → A) → ℕ → List A
all of count = each (λ number. of number ∷ []) count

-- ---- nodes and links

abbrev pub ipv4 : ℕ → ℕ → ℕ → ℕ → Addr
ipv4 a b c d = V4 (a ∷ b ∷ c ∷ d ∷ [])

-- edges have the first numbers of nodes, and core nodes those after them
abbrev pub edge_id : ℕ → NodeId
edge_id edge = record { 0 = edge - 1 }

abbrev pub core_id : ℕ → NodeId
core_id core = record { 0 = core + 31 }

abbrev pub edge_node : ℕ → Node
edge_node edge = record { name = codes "E" ++ decimal edge; addr = ipv4 192 0 2 edge; edge = true }

abbrev pub core_node : ℕ → Node
core_node core = record { name = codes "C" ++ decimal core; addr = ipv4 192 0 3 core; edge = false }

-- each core node is linked to the next one, and the last to the first
abbrev pub ring_link : ℕ → Link
ring_link core = record { a = core_id core; b = core_id (core % 16 + 1); cost = 1 }

-- each edge is linked to a core node, and two edges to each
abbrev pub spur_link : ℕ → Link
spur_link edge = record { a = edge_id edge; b = core_id ((edge - 1) % 16 + 1); cost = 1 }

-- ---- what a VPN has at an edge: a VRF, a site and the interface that attaches the one to the other

-- the name that begins with that letter
abbrev pub name_at : List ℕ → ℕ → ℕ → List ℕ
name_at letter edge vpn = letter ++ decimal vpn ++ codes "_" ++ decimal edge

-- the number of the VRF, and that of the site and the interface
abbrev pub place : ℕ → ℕ → ℕ
place edge vpn = 8 * (edge - 1) + (vpn - 1)

abbrev pub vrf_id : ℕ → ℕ → VrfId
vrf_id edge vpn = record { 0 = place edge vpn }

abbrev pub site_id : ℕ → ℕ → SiteId
site_id edge vpn = record { 0 = place edge vpn }

abbrev pub iface_id : ℕ → ℕ → IfaceId
iface_id edge vpn = record { 0 = place edge vpn }

-- the route distinguisher and the only Route Target are 65000:VPN; in octets, 65000 is 253, 232
abbrev pub vrf : ℕ → ℕ → Vrf
vrf edge vpn = record {
  name = name_at (codes "V") edge vpn;
  edge = edge_id edge;
  number = vpn;
  rd = record { 0 = 0 ∷ 0 ∷ 253 ∷ 232 ∷ 0 ∷ 0 ∷ 0 ∷ vpn ∷ [] };
  targets = (record { 0 = record { 0 = 0 ∷ 2 ∷ 253 ∷ 232 ∷ 0 ∷ 0 ∷ 0 ∷ vpn ∷ [] } }) ∷ [];
  rule = Highest;
}

-- the site's only prefix is 10.EDGE.VPN.0/24
abbrev pub site : ℕ → ℕ → Site
site edge vpn = record {
  name = name_at (codes "S") edge vpn;
  prefixes = (record { addr = ipv4 10 edge vpn 0; bits = 24 }) ∷ [];
}

abbrev pub iface : ℕ → ℕ → Iface
iface edge vpn = record {
  name = name_at (codes "I") edge vpn;
  vrf = vrf_id edge vpn;
  site = site_id edge vpn;
  addr = ipv4 10 edge vpn 1;
}

-- ---- the scenario

unfoldable pub made_scenario : Scenario
made_scenario = record {
  life = 2;
  delay = 3;
  labels = 4096;
  system = 65000;
  nodes = all edge_node 32 ++ all core_node 16;
  links = all ring_link 16 ++ all spur_link 32;
  vrfs = each (λ edge. all (vrf edge) 8) 32;
  sites = each (λ edge. all (site edge) 8) 32;
  ifaces = each (λ edge. all (iface edge) 8) 32;
}

-- ---- the events

-- the edge at whose site the source of the VPN's flow is
abbrev pub source_edge : ℕ → ℕ → ℕ
source_edge number vpn = (number + 5 * vpn) % 32 + 1

-- source and group of the VPN's flow
abbrev pub source : ℕ → ℕ → Addr
source number vpn = ipv4 10 (source_edge number vpn) vpn 9

abbrev pub group : ℕ → Addr
group vpn = ipv4 232 1 1 vpn

-- the edge's interface joins the VPN's flow at a quarter of the edges, and not at that of the source
abbrev pub join : ℕ → ℕ → ℕ → List Event
join number vpn edge =
    if not (edge == source_edge number vpn) && (edge + vpn + number) % 4 == 0
    then events.Customer (customers.Join (iface_id edge vpn) (Source (source number vpn) (group vpn))) ∷ []
    else []

-- a datagram of the VPN's flow, with one octet of payload
abbrev pub send : ℕ → ℕ → ℕ → Event
send number octet vpn = events.Send (site_id (source_edge number vpn) vpn) (source number vpn) (group vpn) (octet ∷ [])

-- the flows of every second VPN are selected, at the VRF of the source
abbrev pub selection : ℕ → ℕ → List Event
selection number vpn =
    if vpn % 2 == 1
    then events.Customer (customers.Select (vrf_id (source_edge number vpn) vpn) (record { source = Some (source number vpn); group = Some (group vpn) })) ∷ []
    else []

-- sessions come up; then the joins, and a datagram of each flow over the inclusive tunnels
abbrev pub first_events : ℕ → List Event
first_events number =
    (events.Heal ∷ events.Settle ∷ events.Tick 3 ∷ events.Settle ∷ [])
    ++ each (λ vpn. each (join number vpn) 32) 8
    ++ (events.Settle ∷ events.State ∷ [])
    ++ all (send number 1) 8
    ++ (events.Drain ∷ [])

-- the selections, and a datagram of each flow before and after their delay
abbrev pub last_events : ℕ → List Event
last_events number =
    each (selection number) 8
    ++ (events.Settle ∷ events.State ∷ [])
    ++ all (send number 2) 8
    ++ (events.Drain ∷ events.Tick 3 ∷ events.Settle ∷ events.State ∷ [])
    ++ all (send number 3) 8
    ++ (events.Drain ∷ events.State ∷ [])

unfoldable pub made_events : ℕ → List Event
made_events number = first_events number ++ last_events number

-- each event with the number of its line, from that number on: a line holds one event
abbrev pub from_line : ℕ → List Event → List Timed
from_line line [] = []
from_line line (event ∷ more) = (record { line = line; event = event }) ∷ from_line (line + 1) more

-- the scenario has 864 lines, and the next one begins the events
unfoldable pub made_script : ℕ → Script
made_script number = record {
  scenario = made_scenario;
  events = from_line 866 (made_events number);
  end = 866 + length (made_events number);
}

-- What every scenario and script that is read meets.
use Rattle.std.specs.Prelude.{◌≡◌, ◌≢◌, ◌⊎◌, ℕ, ◌<◌, ◌≤◌, ◌%◌, true, false, List, [], ◌∷◌, length, take, slice_get, slice_index}
use Rattle.std.specs.Prelude.{Some, IfSome, All, AllPairs, count_by}
use Rattle.std.specs.List.{AllByRecursion}
use Rattle.mv_base.specs.declared.ids.NodeId.{NodeId}
use Rattle.mv_base.specs.declared.ids.IfaceId.{IfaceId}
use Rattle.mv_base.specs.declared.addr.Addr.{Addr}
use Rattle.mv_base.specs.declared.addr.Addr.TheVariants.{V4, V6}
use Rattle.mv_base.specs.declared.pattern.Pattern.{Pattern}
use Rattle.mv_base.specs.declared.prefix.Prefix.{Prefix}
use Rattle.mv_base.specs.declared.rd.Rd.{Rd}
use Rattle.mv_base.specs.Address.{same_addr, IsAddr}
use Rattle.mv_base.specs.Prefix.{IsPrefixOf}
use Rattle.mv_base.specs.core_walks.Topology.{IsTopology, IsConnected}
use Rattle.mv_base.specs.core_walks.Walks.{IsLinked}
use Rattle.mv_base.specs.declared.route_targets.communities.Target.{Target}
use Rattle.mv_base.specs.route_targets.Communities.{kind}
use Rattle.mv_base.specs.route_targets.Targets.{same_target, same, shares}
use Rattle.scenario_defs.specs.declared.scenario.Node.{Node}
use Rattle.scenario_defs.specs.declared.scenario.Vrf.{Vrf}
use Rattle.scenario_defs.specs.declared.scenario.Site.{Site}
use Rattle.scenario_defs.specs.declared.scenario.Iface.{Iface}
use Rattle.scenario_defs.specs.declared.scenario.Thing.{Thing}
use Rattle.scenario_defs.specs.declared.scenario.Scenario.{Scenario}
use Rattle.scenario_defs.specs.declared.event.Timed.{Timed}
use Rattle.scenario_defs.specs.declared.event.Script.{Script}
use Rattle.scenario_defs.specs.declared.event.Event.{Event}
use Rattle.scenario_defs.specs.declared.event.CustomerEvent.TheVariants as customers
use Rattle.scenario_defs.specs.declared.event.Event.TheVariants as events
use Rattle.scenario_defs.specs.declared.event.Kind.{Kind}
use Rattle.scenario_defs.specs.declared.event.Kind.TheVariants as kinds
use Rattle.scenario_defs.specs.declared.event.JoinEntry.{JoinEntry}
use Rattle.scenario_defs.specs.declared.event.JoinEntry.TheVariants as entries
use Rattle.scenario_defs.specs.Names.{is_name, name_of}
use Rattle.scenario_defs.specs.Prefixes.{prefixes_of, same_prefix, share_prefix}
use Rattle.scenario_defs.specs.Vpn.{same_vpn}

-- ---- addresses

-- an address of IPv4
abbrev pub IsIpv4 : Addr → Type 0
IsIpv4 (V4 octets) = length octets ≡ 4
IsIpv4 (V6 octets) = ⊥

-- the first octet of an IPv6 address of 2000::/3, or of fc00::/7 (RFC 4291 section 2.4, RFC 4193 section 3.1)
abbrev pub IsUnicastFront : ℕ → Type 0
IsUnicastFront front = ((32 ≤ front) × (front ≤ 63)) ⊎ ((front ≡ 252) ⊎ (front ≡ 253))

-- A node and a source have a unicast address: one of IPv4 whose first octet is 1 to 223, or one of IPv6 that is global or local.
abbrev pub IsUnicast : Addr → Type 0
IsUnicast (V4 octets) = (length octets ≡ 4) × (1 ≤ slice_index octets 0) × (slice_index octets 0 ≤ 223)
IsUnicast (V6 octets) = (length octets ≡ 16) × IsUnicastFront (slice_index octets 0)

-- those of 224.0.0.0/24, which stay on a link (RFC 5771 section 4)
abbrev pub IsLocalGroup : List ℕ → Type 0
IsLocalGroup octets = (slice_index octets 0 ≡ 224) × (slice_index octets 1 ≡ 0) × (slice_index octets 2 ≡ 0)

-- A group is an IPv4 address whose first octet is 224 to 239, outside 224.0.0.0/24, or an IPv6 address whose first octet is 255, of a
-- scope of 3 to 15: the scopes below stay on a node or a link (RFC 4291 section 2.7).
abbrev pub IsGroup : Addr → Type 0
IsGroup (V4 octets) =
    (length octets ≡ 4) × (224 ≤ slice_index octets 0) × (slice_index octets 0 ≤ 239) × (IsLocalGroup octets → ⊥)
IsGroup (V6 octets) = (length octets ≡ 16) × (slice_index octets 0 ≡ 255) × (3 ≤ slice_index octets 1 % 16)

-- both addresses are of one family
abbrev pub AreOfOneFamily : Addr → Addr → Type 0
AreOfOneFamily (V4 a) (V4 b) = Unit {0}
AreOfOneFamily (V6 a) (V6 b) = Unit {0}
AreOfOneFamily (V4 a) (V6 b) = ⊥
AreOfOneFamily (V6 a) (V4 b) = ⊥

-- a source and a group, of one family
pub record NamesFlow (source group : Addr) : Type 0 where
  pub unicast : IsUnicast source
  pub multicast : IsGroup group
  pub family : AreOfOneFamily source group

-- ---- the rules of a scenario

-- the bounds of the settings
pub record SettingRules (scenario : Scenario) : Type 0 where
  pub life : (1 ≤ scenario.life) × (scenario.life ≤ 1000)
  pub delay : (1 ≤ scenario.delay) × (scenario.delay ≤ 1000)
  pub labels : (1 ≤ scenario.labels) × (scenario.labels ≤ 65536)
  pub system : (1 ≤ scenario.system) × (scenario.system ≤ 65535)

-- Nodes and links: at most 32 nodes are edges, each node has a unicast address of IPv4 of its own, and the links join two nodes
-- each, no two of them the same.
pub record CoreRules (scenario : Scenario) : Type 0 where
  pub topology : IsTopology (length scenario.nodes) scenario.links
  pub few_edges : count_by (λ node. node.edge) scenario.nodes ≤ 32
  pub ipv4 : All (λ node. IsIpv4 node.addr) scenario.nodes
  pub unicast : All (λ node. IsUnicast node.addr) scenario.nodes
  pub addresses : AllPairs (λ node other. same_addr node.addr other.addr ≡ false) scenario.nodes

-- the node of that number is an edge
pub record IsEdge (scenario : Scenario) (number : NodeId) : Type 0 where
  pub node : Node
  pub at : slice_get scenario.nodes number.0 ≡ Some node
  pub edge : node.edge ≡ true

-- a route distinguisher of type 0 or 1 (RFC 4364 section 4.2)
abbrev pub IsRd : Rd → Type 0
IsRd rd = (length rd.0 ≡ 8) × ((take 2 rd.0 ≡ 0 ∷ 0 ∷ []) ⊎ (take 2 rd.0 ≡ 0 ∷ 1 ∷ []))

-- a Route Target of a two-octet AS or of an IPv4 address (RFC 4360 section 4)
abbrev pub IsTarget : Target → Type 0
IsTarget target = (length target.0.0 ≡ 8) × ((kind target.0 ≡ 0 ∷ 2 ∷ []) ⊎ (kind target.0 ≡ 1 ∷ 2 ∷ []))

-- A VRF is of an edge, has a number of 1 to 4095, a route distinguisher, and 1 to 8 targets, no two of them the same.
pub record IsVrf (scenario : Scenario) (vrf : Vrf) : Type 0 where
  pub edge : IsEdge scenario vrf.edge
  pub number : (1 ≤ vrf.number) × (vrf.number ≤ 4095)
  pub rd : IsRd vrf.rd
  pub some : 0 < length vrf.targets
  pub few : length vrf.targets ≤ 8
  pub each : All IsTarget vrf.targets
  pub distinct : AllPairs (λ target other. same_target target other ≡ false) vrf.targets

-- Two VRFs have equal target sets or sets without a common member. At one edge their numbers and route distinguishers
-- differ, and their sets are not equal.
pub record AreApart (vrf other : Vrf) : Type 0 where
  pub overlap : (same vrf.targets other.targets ≡ true) ⊎ (shares vrf.targets other.targets ≡ false)
  pub vpn : vrf.edge.0 ≡ other.edge.0 → same vrf.targets other.targets ≡ false
  pub numbers : vrf.edge.0 ≡ other.edge.0 → vrf.number ≢ other.number
  pub rds : vrf.edge.0 ≡ other.edge.0 → vrf.rd ≢ other.rd

pub record VrfRules (scenario : Scenario) : Type 0 where
  pub few : length scenario.vrfs ≤ 256
  pub each : All (IsVrf scenario) scenario.vrfs
  pub apart : AllPairs AreApart scenario.vrfs

-- a prefix of either family without a bit after its length
pub record IsSitePrefix (prefix : Prefix) : Type 0 where
  pub addr : IsAddr prefix.addr
  pub bits : IsPrefixOf prefix.addr prefix.bits

-- A site has 1 to 8 prefixes, no two of them the same.
pub record IsSite (site : Site) : Type 0 where
  pub some : 0 < length site.prefixes
  pub few : length site.prefixes ≤ 8
  pub each : All IsSitePrefix site.prefixes
  pub distinct : AllPairs (λ prefix other. same_prefix prefix other ≡ false) site.prefixes

pub record SiteRules (scenario : Scenario) : Type 0 where
  pub few : length scenario.sites ≤ 512
  pub each : All IsSite scenario.sites

-- An interface attaches a site to a VRF, and has an address of either family.
pub record IsIface (scenario : Scenario) (iface : Iface) : Type 0 where
  pub vrf : iface.vrf.0 < length scenario.vrfs
  pub site : iface.site.0 < length scenario.sites
  pub addr : IsAddr iface.addr

-- Two interfaces of one site are in VRFs of one VPN. Two sites that are attached to one VPN share no prefix.
pub record AreOfVpns (scenario : Scenario) (iface other : Iface) : Type 0 where
  pub mixed : iface.site.0 ≡ other.site.0 → same_vpn scenario iface.vrf other.vrf ≡ true
  pub taken :
      iface.site.0 ≢ other.site.0 → same_vpn scenario iface.vrf other.vrf ≡ true →
      share_prefix (prefixes_of scenario other.site) (prefixes_of scenario iface.site) ≡ false

pub record IfaceRules (scenario : Scenario) : Type 0 where
  pub few : length scenario.ifaces ≤ 1024
  pub each : All (IsIface scenario) scenario.ifaces
  pub vpns : AllPairs (AreOfVpns scenario) scenario.ifaces

-- Each thing has a name of its own.
pub record NameRules (scenario : Scenario) : Type 0 where
  pub formed : (thing : Thing) (name : List ℕ) → name_of scenario thing ≡ Some name → is_name name ≡ true
  pub distinct :
      (thing other : Thing) (name : List ℕ) → name_of scenario thing ≡ Some name → name_of scenario other ≡ Some name → thing ≡ other

-- The rules of a scenario. Relations that are said with `AllPairs` speak of each two of a list once, in the list's order:
-- of things, the one that is declared first stands first. `distinct` of `NameRules` speaks of any two things, in both orders.
pub record Rules (scenario : Scenario) : Type 0 where
  pub settings : SettingRules scenario
  pub core : CoreRules scenario
  pub connected : IsConnected (length scenario.nodes) scenario.links
  pub vrfs : VrfRules scenario
  pub sites : SiteRules scenario
  pub ifaces : IfaceRules scenario
  pub names : NameRules scenario

-- ---- the rules of a script

-- The most octets that a line gives in hexadecimal digits: a line has at most 4,096 octets.
abbrev pub payload_limit : ℕ
payload_limit = 2048

-- What a join or a prune names.
abbrev pub IsEntry : JoinEntry → Type 0
IsEntry (entries.Star group) = IsGroup group
IsEntry (entries.Source source group) = NamesFlow source group
IsEntry (entries.Rpt source group) = NamesFlow source group

abbrev pub group_of : JoinEntry → Addr
group_of (entries.Star group) = group
group_of (entries.Source source group) = group
group_of (entries.Rpt source group) = group

-- The group is of the family of the interface's address.
abbrev pub IsOfIface : Scenario → IfaceId → Addr → Type 0
IsOfIface scenario iface group = IfSome (slice_get scenario.ifaces iface.0) (λ own. AreOfOneFamily own.addr group)

-- What a selection names: source and group of a pattern, where they are given, and both of one family.
pub record IsPattern (pattern : Pattern) : Type 0 where
  pub source : IfSome pattern.source IsUnicast
  pub group : IfSome pattern.group IsGroup
  pub family : IfSome pattern.source (λ source. IfSome pattern.group (λ group. AreOfOneFamily source group))

-- the most ticks of one event
abbrev pub tick_limit : ℕ
tick_limit = 1000000

-- the most octets that one event moves, and the last place on a link that one names
abbrev pub count_limit : ℕ
count_limit = 999999999

-- a link joins the two nodes
abbrev pub AreLinked : Scenario → NodeId → NodeId → Type 0
AreLinked scenario a b = (cost : ℕ) × IsLinked scenario.links a.0 b.0 cost

-- The two nodes have a session over the protocol: over BGP two edges (RFC 4364 section 4.3.2), over LDP the ends of a link
-- (RFC 5036 section 2.2.3).
abbrev pub HaveSession : Scenario → Kind → NodeId → NodeId → Type 0
HaveSession scenario kinds.Bgp a b = IsEdge scenario a × IsEdge scenario b × (a.0 ≢ b.0)
HaveSession scenario kinds.Ldp a b = AreLinked scenario a b

-- The event names things of the scenario, and its numbers and octets are within their limits.
abbrev pub IsEventOf : Scenario → Event → Type 0
IsEventOf scenario (events.Tick count) = (1 ≤ count) × (count ≤ tick_limit)
IsEventOf scenario (events.Timers node) = node.0 < length scenario.nodes
IsEventOf scenario (events.Restart node) = node.0 < length scenario.nodes
IsEventOf scenario (events.Move kind from to count) = HaveSession scenario kind from to × (1 ≤ count) × (count ≤ count_limit)
IsEventOf scenario (events.Lose kind a b) = HaveSession scenario kind a b
IsEventOf scenario (events.Notice kind a b) = HaveSession scenario kind a b
IsEventOf scenario (events.Raise kind a b) = HaveSession scenario kind a b
IsEventOf scenario (events.Customer (customers.Join iface entry)) =
    (iface.0 < length scenario.ifaces) × IsEntry entry × IsOfIface scenario iface (group_of entry)
IsEventOf scenario (events.Customer (customers.Prune iface entry)) =
    (iface.0 < length scenario.ifaces) × IsEntry entry × IsOfIface scenario iface (group_of entry)
IsEventOf scenario (events.Customer (customers.Pim iface bytes)) = (iface.0 < length scenario.ifaces) × (length bytes ≤ payload_limit)
IsEventOf scenario (events.Customer (customers.Active iface source group)) =
    (iface.0 < length scenario.ifaces) × NamesFlow source group × IsOfIface scenario iface group
IsEventOf scenario (events.Customer (customers.Idle iface source group)) =
    (iface.0 < length scenario.ifaces) × NamesFlow source group × IsOfIface scenario iface group
IsEventOf scenario (events.Send site source group payload) =
    (site.0 < length scenario.sites) × NamesFlow source group × (length payload ≤ payload_limit)
IsEventOf scenario (events.Packet site bytes) = (site.0 < length scenario.sites) × (length bytes ≤ payload_limit)
IsEventOf scenario (events.Customer (customers.Select vrf pattern)) = (vrf.0 < length scenario.vrfs) × IsPattern pattern
IsEventOf scenario (events.Customer (customers.Unselect vrf pattern)) = (vrf.0 < length scenario.vrfs) × IsPattern pattern
IsEventOf scenario (events.Hop from to place) = AreLinked scenario from to × (1 ≤ place) × (place ≤ count_limit)
IsEventOf scenario (events.DropCopy from to place) = AreLinked scenario from to × (1 ≤ place) × (place ≤ count_limit)
IsEventOf scenario (events.Cost a b cost) = AreLinked scenario a b × (1 ≤ cost) × (cost ≤ 65535)
IsEventOf scenario events.Heal = Unit {0}
IsEventOf scenario events.Settle = Unit {0}
IsEventOf scenario events.Drain = Unit {0}
IsEventOf scenario events.State = Unit {0}

-- The lines of the events rise, from above that number on.
abbrev pub Rises : ℕ → List Timed → Type 0
Rises number [] = Unit {0}
Rises number (timed ∷ more) = (number < timed.line) × Rises timed.line more

-- What every script that is read meets.
pub record ScriptRules (script : Script) : Type 0 where
  pub scenario : Rules script.scenario
  pub events : AllByRecursion (λ timed. IsEventOf script.scenario timed.event) script.events
  pub lines : Rises 0 script.events
  pub last : AllByRecursion (λ timed. timed.line < script.end) script.events
  pub few : length script.events ≤ 200000

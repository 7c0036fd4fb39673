-- What the values that nodes keep are made of, so that what they put is spelled (RFC 4271 section 4.3, RFC 6514 section 4, RFC 5036
-- section 3): octets, addresses of their families, groups that are multicast.
use Rattle.std.specs.Prelude.{◌≡◌, ◌<◌, ◌≤◌, ℕ, true, List, All, length, Option, Some, None}
use Rattle.std.specs.List.{AllByRecursion}
use Rattle.std.specs.FinMap as maps
use Rattle.std.specs.FinSet as sets
use Rattle.mv_base.specs.Address.{addr_octets, IsAddr}
use Rattle.mv_base.specs.Octets.{IsOctets}
use Rattle.mv_base.specs.declared.addr.Addr.{Addr}
use Rattle.mv_base.specs.declared.addr.Addr.TheVariants.{V4, V6}
use Rattle.mv_base.specs.declared.ids.NodeId.{NodeId}
use Rattle.mv_base.specs.declared.pattern.Pattern.{Pattern}
use Rattle.mldp.specs.mldp_fec.Spelling as fecs
use Rattle.mldp.specs.declared.mldp_fec.fec.Fec.{Fec}
use Rattle.bgp_values.specs.mvpn_nlri.Spelling.{IsMulticast, IsSource, IsGroup, IsAnyOr}
use Rattle.bgp_values.specs.declared.mvpn_nlri.route.Route.TheVariants as routes
use Rattle.mv_base.specs.declared.route_targets.communities.ExtComm.{ExtComm}
use Rattle.bgp_messages.specs.declared.bgp_attributes.key.Key.{Key}
use Rattle.bgp_messages.specs.declared.bgp_attributes.key.Key.TheVariants.{Mcast, Unicast}
use Rattle.scenario_defs.specs.Rules.{Rules}
use Rattle.scenario_defs.specs.declared.event.IfaceEntry.{IfaceEntry}
use Rattle.scenario_defs.specs.declared.event.JoinEntry.{JoinEntry}
use Rattle.scenario_defs.specs.declared.event.JoinEntry.TheVariants as entries
use Rattle.scenario_defs.specs.declared.scenario.Scenario.{Scenario}
use Rattle.label_defs.specs.LabelData.{LabelData}
use Rattle.label_defs.specs.declared.branch.Branch.{Branch}
use Rattle.label_defs.specs.declared.label_use.LabelUse.{LabelUse}
use Rattle.label_defs.specs.declared.label_use.LabelUse.TheVariants as uses
use Rattle.network_defs.specs.edge_defs.Edge.{Note, VrfPattern, Selected, VrfFlow, Upstream, Remote, TakenRoute, Taken, Control}
use Rattle.network_defs.specs.edge_defs.Imported.{lsp_of}
use Rattle.network_defs.specs.edge_defs.Keys.{Value}
use Rattle.bgp_messages.specs.bgp_update.Written.{afi_of}
use Rattle.network_defs.specs.Costs.{AreRepriced}
use Rattle.network_defs.specs.Nodes.{NodeState, Edge, CoreNode, Nodes}

-- ---- addresses and the like

-- an address of a node, which is of IPv4, in octets
abbrev pub IsHost : Addr → Type 0
IsHost (V4 octets) = (length octets ≡ 4) × IsOctets octets
IsHost (V6 octets) = ⊥

-- an address of a customer, of either family, in octets
abbrev pub IsCustomer : Addr → Type 0
IsCustomer addr = IsAddr addr × IsOctets (addr_octets addr)

-- a multicast one
abbrev pub IsGroupAddr : Addr → Type 0
IsGroupAddr addr = IsCustomer addr × IsMulticast addr

-- a source and a group of one family
abbrev pub IsFlow : Addr → Addr → Type 0
IsFlow source group = IsCustomer source × IsGroupAddr group × (afi_of source ≡ afi_of group)

-- eight octets
abbrev pub AreEight : List ℕ → Type 0
AreEight octets = (length octets ≡ 8) × IsOctets octets

-- a FEC that has a spelling, in octets
abbrev pub IsSoundFec : Fec → Type 0
IsSoundFec fec = fecs.Spells fec (fecs.written fec) × IsOctets (fecs.written fec)

-- ---- the scenario

-- The addresses, route distinguishers, targets and prefixes of a scenario are octets, as they are in any program.
pub record HasOctets (scenario : Scenario) : Type 0 where
  pub nodes : All (λ node. IsOctets (addr_octets node.addr)) scenario.nodes
  pub rds : All (λ vrf. IsOctets vrf.rd.0) scenario.vrfs
  pub targets : All (λ vrf. All (λ target. IsOctets target.0.0) vrf.targets) scenario.vrfs
  pub prefixes : All (λ site. All (λ prefix. IsOctets (addr_octets prefix.addr)) site.prefixes) scenario.sites
  pub ifaces : All (λ iface. IsOctets (addr_octets iface.addr)) scenario.ifaces

-- A scenario that meets its rules.
pub record SoundScenario (scenario : Scenario) : Type 0 where
  pub rules : Rules scenario
  pub octets : HasOctets scenario

-- ---- what an edge keeps

abbrev pub SoundEntry : JoinEntry → Type 0
SoundEntry (entries.Star group) = IsGroupAddr group
SoundEntry (entries.Source source group) = IsFlow source group
SoundEntry (entries.Rpt source group) = IsFlow source group

-- where a pattern has both, source and group are of one family
abbrev pub AreAlike : Option Addr → Option Addr → Type 0
AreAlike (Some source) (Some group) = afi_of source ≡ afi_of group
AreAlike (Some source) None = Unit {0}
AreAlike None group = Unit {0}

abbrev pub SoundPattern : Pattern → Type 0
SoundPattern pattern = IsAnyOr IsCustomer pattern.source × IsAnyOr IsGroupAddr pattern.group × AreAlike pattern.source pattern.group

abbrev pub SoundUpstream : Option Upstream → Type 0
SoundUpstream (Some (Remote edge rd import source_as)) = AreEight rd.0 × IsHost import.addr × (import.number < 65536) × (source_as < 65536)
SoundUpstream other = Unit {0}

-- of the keys that were taken, those that a step reads: the RD of a unicast route, and the flow of a Source Active route
abbrev pub SoundKey : Key → Type 0
SoundKey (Unicast rd prefix) = AreEight rd.0
SoundKey (Mcast afi (routes.Active rd source group)) =
    IsSource afi source × IsGroup afi group × IsOctets (addr_octets source) × IsOctets (addr_octets group)
SoundKey other = Unit {0}

pub record SoundValue (value : Value) : Type 0 where
  pub comms : AllByRecursion (λ (comm : ExtComm). AreEight comm.0) value.comms
  pub tunnel : (fec : Fec) → lsp_of value.pmsi ≡ Some fec → IsSoundFec fec

abbrev pub SoundTaken : Taken → Type 0
SoundTaken taken = (key : Key) (route : TakenRoute) → maps.get taken key ≡ Some route → SoundKey key × SoundValue route.value

pub record SoundControl (control : Control) : Type 0 where
  pub entries : (at : IfaceEntry) → (expiry : _) → maps.get control.entries at ≡ Some expiry → SoundEntry at.entry
  pub notes : (note : Note) → sets.contains control.notes note ≡ true → IsFlow note.source note.group
  pub selections : (key : VrfPattern) (selected : Selected) → maps.get control.selections key ≡ Some selected → SoundPattern key.pattern
  pub flows : (flow : VrfFlow) (found : Option Upstream) → maps.get control.flows flow ≡ Some found
      → IsFlow flow.source flow.group × SoundUpstream found
  pub peers : (peer : NodeId) (taken : Taken) → maps.get control.peers peer ≡ Some taken → SoundTaken taken

-- ---- the label part

abbrev pub SoundUse : LabelUse → Type 0
SoundUse (uses.Mapped fec upstream) = IsSoundFec fec
SoundUse (uses.Leaving fec upstream) = IsSoundFec fec
SoundUse other = Unit {0}

pub record SoundPart (part : LabelData) : Type 0 where
  pub few : length part.labels ≤ 65536
  pub uses : AllByRecursion SoundUse part.labels
  pub branches : (branch : Branch) → sets.contains part.branches branch ≡ true → IsSoundFec branch.fec
  pub leaves : (fec : Fec) → sets.contains part.leaves fec ≡ true → IsSoundFec fec
  pub waiting : (fec : Fec) → sets.contains part.waiting fec ≡ true → IsSoundFec fec

-- ---- nodes

abbrev pub SoundNode : NodeState → Type 0
SoundNode (Edge edge) = SoundControl edge.control × SoundPart edge.part
SoundNode (CoreNode part) = SoundPart part

-- a core node of which no end is up, so that it puts nothing
abbrev pub IsBare : NodeState → Type 0
IsBare (Edge edge) = ⊥
IsBare (CoreNode part) = part.ends ≡ maps.empty

-- The nodes of that scenario are sound, and the present costs of its links, and those that each node has acted on, are costs of links. A
-- node that the scenario does not have is a core node, and none of its ends is up, so it puts nothing.
pub record Sound (scenario : Scenario) (nodes : Nodes) : Type 0 where
  pub same : nodes.scenario ≡ scenario
  pub lines : SoundScenario scenario
  pub links : AreRepriced scenario.links nodes.links
  pub known : (n : NodeId) → AreRepriced scenario.links (nodes.known n)
  pub node : (n : NodeId) → SoundNode (nodes.node n)
  pub outside : (n : NodeId) → length scenario.nodes ≤ n.0 → IsBare (nodes.node n)

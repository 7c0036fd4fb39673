-- A datagram that is being sent or handled, and what is known of all that were accepted.
use Rattle.std.specs.Prelude.{◌≡◌, ◌++◌, ℕ, List, Ok, length}
use Rattle.std.specs.List.{AllByRecursion}
use Rattle.mv_base.specs.declared.ids.NodeId.{NodeId}
use Rattle.mv_base.specs.declared.ids.SiteId.{SiteId}
use Rattle.mv_base.specs.declared.ids.VrfId.{VrfId}
use Rattle.label_forwarding.specs.Reading.{packet_of}
use Rattle.label_forwarding.specs.Spelling.{Packet}
use Rattle.scenario_defs.specs.declared.report.ReportLine.{ReportLine}
use Rattle.edge_defs.specs.Datagrams.{Fate}
use Rattle.network_defs.specs.Acts.{Acted, Enter, Land, act, fate_at, with_ttl, without_copy}
use Rattle.network_defs.specs.World.{Datagram, LinkCopy, World, scenario_of}
use Rattle.data_plane.specs.declared.link_copies.kept.Landed.{Landed}
use Rattle.network_acts.specs.control_plane.Acted.{IsCurrent, IsIn}
use Rattle.data_plane.specs.datagram_acts.Stored as stored
use Rattle.data_plane.specs.datagram_acts.Stored.{Handles, IsSending}
use Rattle.network_acts.specs.Instant.{Instant, standing_of}
use Rattle.network_acts.specs.NetworkView.{NetworkView}

-- The network is that world, and the datagram of that number is being sent: its copies are not on links yet.
pub record IsHandling (at : Instant) (number : ℕ) (datagram : Datagram) (network : NetworkView) : Type 0 where
  pub scenario : network.scenario ≡ scenario_of at.world
  pub plane : IsIn (standing_of at) network.plane
  pub datagrams : IsSending at.world number datagram network.datagrams

-- the datagram's octets are a packet of its flow
abbrev pub IsOfFlow : Datagram → Type 0
IsOfFlow datagram = packet_of datagram.octets ≡ Ok (record { source = datagram.source; group = datagram.group; octets = datagram.octets })

abbrev pub AreOfFlows : World → Type 0
AreOfFlows world = AllByRecursion IsOfFlow world.datagrams

-- The node has acted on the present costs, and the datagrams are of their flows.
pub record MayLand (n : NodeId) (at : Instant) : Type 0 where
  pub node : IsCurrent n (standing_of at)
  pub flows : AreOfFlows at.world

-- the network is some world in which a datagram is being sent, and with which this holds
abbrev pub IsSomeHandling : (Instant → Type 0) → NetworkView → Type 0
IsSomeHandling Fits network = (at : Instant) × (number : ℕ) × (datagram : Datagram) × Fits at × IsHandling at number datagram network

-- The datagram that was accepted last enters at the VRF: the act leads to a world that the network is, in which that datagram is still
-- being sent, and its lines stand after those of before.
pub record Enters (at : Instant) (vrf : VrfId) (datagram : Datagram) (lines new_lines : List ReportLine) (new : NetworkView) : Type 0 where
  pub thereafter : Acted
  pub is : act at.world (Enter vrf) ≡ Ok thereafter
  pub stands : IsHandling (record at { world = thereafter.world }) (length thereafter.world.datagrams) datagram new
  pub told : new_lines ≡ lines ++ thereafter.lines

-- the datagram was sent by that site, and is that packet
pub record IsSentBy (sender : SiteId) (packet : Packet) (datagram : Datagram) : Type 0 where
  pub site : datagram.site ≡ sender
  pub source : datagram.source ≡ packet.source
  pub group : datagram.group ≡ packet.group
  pub octets : datagram.octets ≡ packet.octets

-- ---- a copy that has landed

-- The copy at that place of the way has left its link, and its datagram is being handled.
pub record HasLanded (at : Instant) (from to : NodeId) (place : ℕ) (landed : Landed) (network : NetworkView) : Type 0 where
  pub scenario : network.scenario ≡ scenario_of at.world
  pub plane : IsIn (standing_of at) network.plane
  pub left : stored.HasLanded at.world from to place landed network.datagrams

-- The network is that world, and the datagram of that number, of which a copy has landed, is being handled.
pub record IsLanding (at : Instant) (number : ℕ) (datagram : Datagram) (network : NetworkView) : Type 0 where
  pub scenario : network.scenario ≡ scenario_of at.world
  pub plane : IsIn (standing_of at) network.plane
  pub datagrams : Handles at.world number datagram network.datagrams

-- the network is some world in which such a copy has landed
abbrev pub IsSomeLanded : NodeId → NodeId → Landed → NetworkView → Type 0
IsSomeLanded from to landed network = (at : Instant) × (place : ℕ) × MayLand to at × HasLanded at from to place landed network

-- what becomes of the copy of the datagram that was at that place
abbrev pub landing_fate : Instant → NodeId → NodeId → ℕ → LinkCopy → Datagram → Fate
landing_fate at from to place copy datagram =
    with_ttl copy.ttl (fate_at (without_copy at.world from to place) to (at.world.network.state.node to) from copy.label datagram)

-- The copy that has landed goes on: the act leads to a world that the network is, in which its datagram is still handled, and its lines
-- stand after those of before.
pub record Lands (at : Instant) (from to : NodeId) (place : ℕ) (lines new_lines : List ReportLine) (new : NetworkView) : Type 0 where
  pub number : ℕ
  pub datagram : Datagram
  pub thereafter : Acted
  pub is : act at.world (Land from to place) ≡ Ok thereafter
  pub stands : IsLanding (record at { world = thereafter.world }) number datagram new
  pub told : new_lines ≡ lines ++ thereafter.lines

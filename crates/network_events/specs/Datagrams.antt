-- What is done to a network by acts that lack no label, and datagrams that enter at VRFs.
use Rattle.std.specs.Prelude.{◌≡◌, ◌++◌, ℕ, Bool, false, List, [], ◌∷◌, length, map, replicate, OnOk, Some, Result, Ok, Err}
use Rattle.std.specs.List.{flat_map}
use Rattle.std.specs.Option.{option_or}
use Rattle.mv_base.specs.declared.core_link.Link.{Link}
use Rattle.mv_base.specs.declared.ids.NodeId.{NodeId}
use Rattle.mv_base.specs.declared.ids.SiteId.{SiteId}
use Rattle.mv_base.specs.declared.ids.VrfId.{VrfId}
use Rattle.mv_base.specs.declared.memory.NoMemory.{NoMemory}
use Rattle.label_forwarding.specs.Reading.{packet_of}
use Rattle.label_forwarding.specs.Spelling.{Packet}
use Rattle.mvpn_model.specs.Packets.{group_in, packet_fault, source_in}
use Rattle.scenario_defs.specs.declared.event.Event.{Event}
use Rattle.scenario_defs.specs.declared.report.Refusal.{Refusal}
use Rattle.scenario_defs.specs.declared.report.Refusal.TheVariants as refusals
use Rattle.scenario_defs.specs.declared.report.ReportLine.{ReportLine}
use Rattle.network_defs.specs.Acts.{Enter, Land}
use Rattle.network_defs.specs.Events.{Done, Happened, Outcome, done, drain_round, row, sent}
use Rattle.network_defs.specs.Refusals.{are_links_full, refusal, refused_if}
use Rattle.network_defs.specs.World.{Datagram, World, scenario_of}
use Rattle.network_acts.specs.Handling.{AreOfFlows, IsHandling, IsSentBy}
use Rattle.network_acts.specs.Instant.{Instant, IsWorld}
use Rattle.network_acts.specs.NetworkView.{NetworkView}
use Rattle.network_acts.specs.Words.{at_rest}
use Rattle.network_events.specs.Doing.{Did, lines_in}
use Rattle.network_events.specs.Meeting.{IsReady}
use Rattle.network_events.specs.declared.halt.Halt.{Halt}
use Rattle.network_events.specs.declared.halt.Halt.TheVariants as halts

-- The change, which lacks no label, is made to every world that the network is and with which this holds. Of want of memory nothing is
-- said.
abbrev pub Makes : (Instant → Type 0) → (World → Outcome) → NetworkView → NetworkView → List ReportLine → List ReportLine →
    Result (Unit {0}) NoMemory → Type 0
Makes Fits change old new lines new_lines result =
    OnOk result ((at : Instant) → Fits at → IsWorld at old → Did at at.moment (change at.world) lines new_lines new)

abbrev pub of_memory : Result (Unit {0}) NoMemory → Result (Unit {0}) Halt
of_memory (Ok done) = Ok done
of_memory (Err wanting) = Err halts.NoMemory

-- ---- a datagram that enters

-- The last datagram, which is being handled, has entered at these VRFs: the acts lead to a world that the network is, in which it is still
-- handled, and their lines stand after those of before.
pub record HasEntered (at : Instant) (vrfs : List VrfId) (datagram : Datagram) (lines new_lines : List ReportLine) (new : NetworkView)
    : Type 0 where
  pub acts : List Happened
  pub world : World
  pub is : row (map (λ vrf. Enter vrf) vrfs) at.world ≡ Done acts world
  pub stands : IsHandling (record at { world = world }) (length world.datagrams) datagram new
  pub told : new_lines ≡ lines ++ lines_in acts

-- No event is under way, and the last datagram, which the site sent as that packet, is being handled.
pub record IsSent (site : SiteId) (packet : Packet) (datagram : Datagram) (network : NetworkView) (at : Instant) : Type 0 where
  pub rest : at.moment ≡ at_rest
  pub sent : IsSentBy site packet datagram
  pub stands : IsHandling at (length at.world.datagrams) datagram network

-- the network is some such world
abbrev pub IsSomeSent : SiteId → Packet → NetworkView → Type 0
IsSomeSent site packet network = (at : Instant) × (datagram : Datagram) × IsSent site packet datagram network at

-- from every such world the last datagram has entered at these VRFs
abbrev pub EntersAt : SiteId → Packet → List VrfId → NetworkView → NetworkView → List ReportLine → List ReportLine → Type 0
EntersAt site packet vrfs old new lines new_lines =
    (at : Instant) (datagram : Datagram) → IsSent site packet datagram old at → HasEntered at vrfs datagram lines new_lines new

-- An event that is refused and done as the sending of these octets by the site is: they are no packet, or there is no room on the links.
pub record Sends (site : SiteId) (octets : List ℕ) (event : Event) : Type 0 where
  pub refuses : (world : World) → refusal world event ≡ option_or (packet_fault octets) (refused_if (are_links_full world) refusals.Full)
  pub does : (world : World) → done world event ≡ sent site (source_in octets) (group_in octets) octets world

-- The octets are that packet, and there is room for it on the links of every world that the network is.
pub record Fits (network : NetworkView) (octets : List ℕ) (packet : Packet) : Type 0 where
  pub is : packet_of octets ≡ Ok packet
  pub room : (at : Instant) → IsReady at → IsWorld at network → are_links_full at.world ≡ false

-- why the octets are refused in every world that the network is
abbrev pub IsRefusedFor : NetworkView → List ℕ → Refusal → Type 0
IsRefusedFor network octets reason =
    (at : Instant) → IsReady at → IsWorld at network →
    option_or (packet_fault octets) (refused_if (are_links_full at.world) refusals.Full) ≡ Some reason

-- ---- copies that land

-- No event is under way but this one, and datagrams are of their flows.
pub record MayDrain (at : Instant) : Type 0 where
  pub rest : at.moment ≡ at_rest
  pub flows : AreOfFlows at.world

-- both ways of each link
abbrev pub ways_of_links : List Link → List (NodeId × NodeId)
ways_of_links links = flat_map (λ link. (link.a, link.b) ∷ (link.b, link.a) ∷ []) links

-- a way of a link for each copy that stands there, in the order in which a round of `drain` lands them
abbrev pub ways_of : World → List (NodeId × NodeId) → List (NodeId × NodeId)
ways_of world ways = flat_map (λ way. replicate (length (world.copies way.0 way.1)) way) ways

abbrev pub standing_ways : World → List (NodeId × NodeId)
standing_ways world = ways_of world (ways_of_links (scenario_of world).links)

-- the first copy of each of the ways lands, one after another
abbrev pub lands : List (NodeId × NodeId) → World → Outcome
lands ways world = row (map (λ way. Land way.0 way.1 1) ways) world

-- A round of `drain` is done, where some copies are on links; where none is, nothing happens.
pub record HasRound (some : Bool) (old new : NetworkView) (lines new_lines : List ReportLine) : Type 0 where
  pub does : (at : Instant) → MayDrain at → IsWorld at old → Did at at.moment (drain_round at.world) lines new_lines new
  pub none : some ≡ false → (at : Instant) → IsWorld at old → drain_round at.world ≡ Done [] at.world

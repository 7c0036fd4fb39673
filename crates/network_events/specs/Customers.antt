-- Events of customers: the messages that they hand to edges, and what comes of calls for which there may be no room.
use Rattle.std.specs.Prelude.{◌≡◌, ◌<◌, ◌||◌, Bool, true, false, not, [], ◌∷◌, Option, None, Some, Result, Ok, Err, IfOk, length}
use Rattle.mv_base.specs.Address.{addr_octets}
use Rattle.mv_base.specs.Octets.{IsOctets}
use Rattle.mv_base.specs.declared.ids.IfaceId.{IfaceId}
use Rattle.mv_base.specs.declared.ids.NodeId.{NodeId}
use Rattle.mv_base.specs.declared.memory.NoMemory.{NoMemory}
use Rattle.pim_joinprune.specs.Spelling.{IsJoinPrune}
use Rattle.pim_joinprune.specs.declared.message.JoinPrune.{JoinPrune}
use Rattle.scenario_defs.specs.declared.event.CustomerEvent.{CustomerEvent}
use Rattle.scenario_defs.specs.declared.event.CustomerEvent.TheVariants as customers
use Rattle.scenario_defs.specs.declared.event.Event.{Event}
use Rattle.scenario_defs.specs.declared.report.Refusal.{Refusal}
use Rattle.scenario_defs.specs.declared.report.Refusal.TheVariants as refusals
use Rattle.scenario_defs.specs.declared.scenario.Scenario.{Scenario}
use Rattle.edge_defs.specs.Steps.{Call, Customer, Active, Idle, Select, Unselect}
use Rattle.mldp_node.specs.declared.fault.NodeFault.{NodeFault}
use Rattle.mvpn_model.specs.Messages.{handed, message_of}
use Rattle.mvpn_model.specs.Refused.{is_ours}
use Rattle.network_defs.specs.Acts.{At}
use Rattle.network_defs.specs.Events.{done, row}
use Rattle.network_defs.specs.Refusals.{are_sessions_full, edge_for, is_selected, refusal, refused_if}
use Rattle.network_defs.specs.World.{World}
use Rattle.network_acts.specs.network_laws.Honest.{SoundMessage}
use Rattle.network_acts.specs.Instant.{Instant, IsWorld, standing_of}
use Rattle.network_acts.specs.NetworkView.{NetworkView}
use Rattle.network_acts.specs.Words.{FitsAt, is_full_at}
use Rattle.network_acts.specs.declared.control_plane.customers.Verdict.{Verdict}
use Rattle.network_acts.specs.declared.control_plane.customers.Verdict.TheVariants.{Full as VerdictFull, Made as VerdictMade}
use Rattle.network_events.specs.Doing.{halted_at}
use Rattle.network_events.specs.Meeting.{IsReady}
use Rattle.network_events.specs.declared.halt.Halt.{Halt}

-- The message can be written and is of sound values, and the interface is one of the scenario.
pub record IsAtIface (scenario : Scenario) (iface : IfaceId) (message : JoinPrune) : Type 0 where
  pub within : iface.0 < length scenario.ifaces
  pub spelled : IsJoinPrune message
  pub sound : SoundMessage message

-- It is for the interface.
pub record IsForIface (scenario : Scenario) (iface : IfaceId) (message : JoinPrune) : Type 0 where
  pub at : IsAtIface scenario iface message
  pub ours : is_ours scenario (record { iface = iface; message = message }) ≡ true

-- the event hands the message to the edge of the interface
abbrev pub HandsMessage : Scenario → IfaceId → JoinPrune → Event → Type 0
HandsMessage scenario iface message event = message_of scenario event ≡ handed iface message

-- The message was written for the interface, where memory was there for it, and the event hands it to the edge.
pub record IsWritten (scenario : Scenario) (iface : IfaceId) (written : Result JoinPrune NoMemory) (message : JoinPrune) (event : Event)
    : Type 0 where
  pub is : IfOk written (λ own. own ≡ message)
  pub own : IsForIface scenario iface message
  pub hands : HandsMessage scenario iface message event

-- ---- what an event calls for

-- what an event calls for that hands no message
abbrev pub plain_call : CustomerEvent → Option Call
plain_call (customers.Active iface source group) = Some (Customer (Active iface source group))
plain_call (customers.Idle iface source group) = Some (Customer (Idle iface source group))
plain_call (customers.Select vrf pattern) = Some (Customer (Select vrf pattern))
plain_call (customers.Unselect vrf pattern) = Some (Customer (Unselect vrf pattern))
plain_call other = None

-- the addresses of a note that ends are of octets
abbrev pub HasOctets : CustomerEvent → Type 0
HasOctets (customers.Idle iface source group) = IsOctets (addr_octets source) × IsOctets (addr_octets group)
HasOctets other = Unit {0}

-- whether what is selected is selected again, or what is not selected is to end
abbrev pub is_amiss : World → CustomerEvent → Bool
is_amiss world (customers.Select vrf pattern) = is_selected world vrf pattern
is_amiss world (customers.Unselect vrf pattern) = not (is_selected world vrf pattern)
is_amiss world other = false

-- what is answered is so in every world that the network is
abbrev pub AnswersOf : NetworkView → (World → Bool) → Bool → Type 0
AnswersOf network of result = (at : Instant) → IsReady at → IsWorld at network → result ≡ of at.world

-- the edge at which a call of a customer is made
abbrev pub edge_at : Scenario → Call → Option NodeId
edge_at scenario (Customer call) = edge_for scenario call
edge_at scenario other = None

-- The call has its edge, and is one that fits there in every world that the network is.
pub record IsMakeable (call : Call) (network : NetworkView) : Type 0 where
  pub there : edge_at network.scenario call ≡ None → ⊥
  pub fits : (n : NodeId) → edge_at network.scenario call ≡ Some n → (at : Instant) → IsReady at → IsWorld at network → FitsAt n call (standing_of at)

-- The call at the node is what the event does in the world. It is refused exactly where too many octets are in transit, or there is no room
-- for it.
pub record IsAsked (event : Event) (call : Call) (n : NodeId) (at : Instant) : Type 0 where
  pub does : done at.world event ≡ row (At n call ∷ []) at.world
  pub why : refusal at.world event ≡ refused_if (are_sessions_full at.world || is_full_at n call (standing_of at)) refusals.Full

-- The event asks for the call at its edge, in every world that the network is.
pub record Asks (event : Event) (call : Call) (network : NetworkView) : Type 0 where
  pub makeable : IsMakeable call network
  pub asked : (n : NodeId) → edge_at network.scenario call ≡ Some n → (at : Instant) → IsReady at → IsWorld at network → IsAsked event call n at

-- what comes of an event by what a call answered for which there may be no room
abbrev pub verdict_at : NodeId → Result Verdict NodeFault → Result (Option Refusal) Halt
verdict_at n (Ok VerdictMade) = Ok None
verdict_at n (Ok VerdictFull) = Ok (Some refusals.Full)
verdict_at n (Err fault) = Err (halted_at n fault)

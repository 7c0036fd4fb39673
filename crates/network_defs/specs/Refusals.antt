-- Why an event is refused, if it is: by the first of its conditions that holds. A refused event changes nothing.
use Rattle.std.specs.Prelude.{ℕ, ◌==◌, ◌&&◌, ◌||◌, Bool, true, false, not, nat_le, nat_lt, length, slice_get, Option}
use Rattle.std.specs.Prelude.{None, Some, if◌then◌else◌}
use Rattle.std.specs.Option.{option_or}
use Rattle.std.specs.FinMap as maps
use Rattle.std.specs.FinSet as sets
use Rattle.mv_base.specs.declared.ids.NodeId.{NodeId}
use Rattle.mv_base.specs.declared.ids.VrfId.{VrfId}
use Rattle.mv_base.specs.declared.pattern.Pattern.{Pattern}
use Rattle.edge_defs.specs.pim_defs.Entries.{applied, are_too_many}
use Rattle.scenario_defs.specs.Vpn.{edge_of}
use Rattle.scenario_defs.specs.declared.event.Event.{Event}
use Rattle.scenario_defs.specs.declared.event.CustomerEvent.{CustomerEvent}
use Rattle.scenario_defs.specs.declared.event.CustomerEvent.TheVariants as customers
use Rattle.scenario_defs.specs.declared.event.Event.TheVariants as events
use Rattle.scenario_defs.specs.declared.event.Kind.{Kind}
use Rattle.scenario_defs.specs.declared.report.Refusal.{Refusal}
use Rattle.scenario_defs.specs.declared.report.Refusal.TheVariants as refusals
use Rattle.scenario_defs.specs.declared.scenario.Scenario.{Scenario}
use Rattle.mvpn_model.specs.Messages.{message_of}
use Rattle.mvpn_model.specs.declared.message.Given.{Given}
use Rattle.mvpn_model.specs.Refused.{is_ours, octets_refusal}
use Rattle.edge_defs.specs.Edge.{Note, Control, no_control}
use Rattle.edge_defs.specs.Steps as steps
use Rattle.edge_defs.specs.Steps.{CustomerCall}
use Rattle.network_defs.specs.Counts.{direction, is_up, octets_in_transit, all_copies}
use Rattle.network_defs.specs.Nodes.{NodeState, Edge, CoreNode}
use Rattle.mvpn_model.specs.Packets.{packet_fault}
use Rattle.network_defs.specs.World.{World, scenario_of, clock_of}

abbrev pub refused_if : Bool → Refusal → Option Refusal
refused_if false reason = None
refused_if true reason = Some reason

-- ---- limits

abbrev pub octet_limit : ℕ
octet_limit = 268435456

abbrev pub copy_limit : ℕ
copy_limit = 65536

abbrev pub note_limit : ℕ
note_limit = 256

abbrev pub selection_limit : ℕ
selection_limit = 256

-- whether so many octets are in transit that no customer event is taken
abbrev pub are_sessions_full : World → Bool
are_sessions_full world = nat_le octet_limit (octets_in_transit world)

abbrev pub are_links_full : World → Bool
are_links_full world = nat_le copy_limit (length (all_copies world))

-- ---- what an edge keeps

abbrev pub control_of : NodeState → Control
control_of (Edge edge) = edge.control
control_of (CoreNode part) = no_control

-- what the edge keeps, if there is one, and the edge of a VRF
abbrev pub control_at : World → Option NodeId → Control
control_at world None = no_control
control_at world (Some n) = control_of (world.network.state.node n)

abbrev pub edge_of_vrf : Scenario → VrfId → Option NodeId
edge_of_vrf scenario vrf = elim (slice_get scenario.vrfs vrf.0) [ None ↦ None | Some found ↦ Some found.edge ]

-- ---- calls of customers

-- the message of an event, as a call
abbrev pub message_call : Option Given → Option CustomerCall
message_call None = None
message_call (Some given) = Some (steps.Pim given.iface given.message)

-- what an event of a customer calls for; octets that spell no message call for nothing
abbrev pub call_for : Scenario → CustomerEvent → Option CustomerCall
call_for scenario (customers.Active iface source group) = Some (steps.Active iface source group)
call_for scenario (customers.Idle iface source group) = Some (steps.Idle iface source group)
call_for scenario (customers.Select vrf pattern) = Some (steps.Select vrf pattern)
call_for scenario (customers.Unselect vrf pattern) = Some (steps.Unselect vrf pattern)
call_for scenario message = message_call (message_of scenario (events.Customer message))

-- the edge at which a customer calls: that of the interface or of the VRF
abbrev pub edge_for : Scenario → CustomerCall → Option NodeId
edge_for scenario (steps.Pim iface message) = edge_of scenario iface
edge_for scenario (steps.Active iface source group) = edge_of scenario iface
edge_for scenario (steps.Idle iface source group) = edge_of scenario iface
edge_for scenario (steps.Select vrf pattern) = edge_of_vrf scenario vrf
edge_for scenario (steps.Unselect vrf pattern) = edge_of_vrf scenario vrf

-- ---- refusals

-- a message is for another neighbour, or there is no room for it
abbrev pub message_refusal : World → Option Given → Option Refusal
message_refusal world None = None
message_refusal world (Some given) =
    if not (is_ours (scenario_of world) given) then Some refusals.Ours else
    if are_sessions_full world then Some refusals.Full else
    refused_if
    (are_too_many (applied (control_at world (edge_of (scenario_of world) given.iface)).entries given.iface given.message (clock_of world)))
    refusals.Full

-- a note is made anew, and there is no room for it
abbrev pub note_refusal : World → Note → Option Refusal
note_refusal world note =
    let notes = (control_at world (edge_of (scenario_of world) note.iface)).notes in
    refused_if (are_sessions_full world || (not (sets.contains notes note) && nat_le note_limit (sets.len notes))) refusals.Full

-- whether the VRF has selected the pattern, and how many selections its edge has
abbrev pub is_selected : World → VrfId → Pattern → Bool
is_selected world vrf pattern =
    maps.contains_key (control_at world (edge_of_vrf (scenario_of world) vrf)).selections (record { vrf = vrf; pattern = pattern })

abbrev pub selections_at : World → VrfId → ℕ
selections_at world vrf = maps.len (control_at world (edge_of_vrf (scenario_of world) vrf)).selections

abbrev pub no_octets : World → Kind → NodeId → NodeId → Bool
no_octets world kind from to = length (world.network.transit (direction kind from to)) == 0

abbrev pub is_session_joined : World → Kind → NodeId → NodeId → Bool
is_session_joined world kind a b = world.network.joined (direction kind a b)

-- fewer copies than that are on the link
abbrev pub lacks_copy : World → NodeId → NodeId → ℕ → Bool
lacks_copy world from to place = nat_lt (length (world.copies from to)) place

abbrev pub refusal : World → Event → Option Refusal
refusal world (events.Move kind from to count) =
    refused_if (no_octets world kind from to || not (is_session_joined world kind from to)) refusals.Empty
refusal world (events.Lose kind a b) = refused_if (not (is_session_joined world kind a b)) refusals.State
refusal world (events.Notice kind a b) = refused_if (is_session_joined world kind a b || not (is_up world kind a b)) refusals.State
refusal world (events.Raise kind a b) = refused_if (is_up world kind a b || is_up world kind b a) refusals.State
refusal world (events.Customer (customers.Join iface entry)) =
    message_refusal world (message_of (scenario_of world) (events.Customer (customers.Join iface entry)))
refusal world (events.Customer (customers.Prune iface entry)) =
    message_refusal world (message_of (scenario_of world) (events.Customer (customers.Prune iface entry)))
refusal world (events.Customer (customers.Pim iface octets)) =
    option_or (octets_refusal octets) (message_refusal world (message_of (scenario_of world) (events.Customer (customers.Pim iface octets))))
refusal world (events.Customer (customers.Active iface source group)) = note_refusal world (record { iface = iface; source = source; group = group })
refusal world (events.Customer (customers.Idle iface source group)) = refused_if (are_sessions_full world) refusals.Full
refusal world (events.Send site source group payload) = refused_if (are_links_full world) refusals.Full
refusal world (events.Packet site octets) = option_or (packet_fault octets) (refused_if (are_links_full world) refusals.Full)
refusal world (events.Customer (customers.Select vrf pattern)) =
    option_or (refused_if (is_selected world vrf pattern) refusals.State)
    (refused_if (are_sessions_full world || nat_le selection_limit (selections_at world vrf)) refusals.Full)
refusal world (events.Customer (customers.Unselect vrf pattern)) =
    option_or (refused_if (not (is_selected world vrf pattern)) refusals.State) (refused_if (are_sessions_full world) refusals.Full)
refusal world (events.Hop from to place) = refused_if (lacks_copy world from to place) refusals.Place
refusal world (events.DropCopy from to place) = refused_if (lacks_copy world from to place) refusals.Place
refusal world other = None

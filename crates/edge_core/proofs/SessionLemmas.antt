-- Calls of sessions, of timers and of costs, midway.
use Rattle.std.proofs.Common.{◌≡◌, ◌∙◌, refl, ap, ℕ, ◌++◌, List, length, false, Option, None, Some, is_some, Result, Ok, Err, IfOk}
use Rattle.std.specs.FinMap.{FinMap}
use Rattle.mv_base.specs.declared.memory.NoMemory.{NoMemory}
use Rattle.mv_base.specs.declared.ids.NodeId.{NodeId}
use Rattle.mv_base.specs.core_walks.Topology.{Topology}
use Rattle.mldp.specs.declared.mldp_msgs.message.LabelMessage.{LabelMessage}
use Rattle.mldp.specs.declared.mldp_msgs.message.LabelMessage.TheVariants as messages
use Rattle.network_defs.specs.session_defs.Octets.{Stream}
use Rattle.network_defs.specs.session_defs.PeerSession.{peer_cmp}
use Rattle.label_defs.specs.Keys.{node_cmp}
use Rattle.edge_defs.specs.Edge.{Control}
use Rattle.edge_defs.specs.Held.{put_to}
use Rattle.edge_defs.specs.Place.{EdgePlace}
use Rattle.edge_defs.specs.Steps.{Call, Rerouted, control_step, own_label_call, raised_after}
use Rattle.edge_routes.specs.edge_home.Home.{place_of}
use Rattle.edge_routing.specs.edge_tables.Tables.{texts, waiting_at}
use Rattle.edge_routing.specs.edge_streams.Spelled.{SaysWritableLabel}
use Rattle.edge_routing.specs.control_laws.Control.{control_of}
use Rattle.mldp_node.specs.Parts.{IsSpelled}
use Rattle.node_laws.specs.Waits.{kept_for}
use Rattle.edge_routing.specs.edge_labels.declared.own_call.OwnCall.{OwnCall}
use Rattle.edge_routing.specs.edge_labels.Calls.{MayMake, own_call}
use Rattle.edge_routing.specs.declared.routing.EdgeRouting.{EdgeRouting}
use Rattle.edge_routing.specs.declared.routing.LeafCandidates.{LeafCandidates}
use Rattle.edge_routing.specs.Routing.{IsStepped}
use Rattle.edge_core.specs.declared.parts.Parts.{Parts}
use Rattle.edge_core.specs.Answers.{streams_after}
use Rattle.edge_core.specs.Called.{IsMidway, going}
use Rattle.edge_core.specs.State.{IsLive}

-- A step of each VRF without an effect of its own is that of a call that changes as little and drops nothing that waits for a peer.
pub step_as : (core : Topology) (now : ℕ) (old new : EdgeRouting) (call : Call) (told : Result LeafCandidates NoMemory)
    → ((place : EdgePlace) (control : Control) → control_step place now control Rerouted ≡ control_step place now control call)
    → ((peer : NodeId) (octets : List ℕ) → octets ≡ kept_for call peer octets)
    → IfOk told (IsStepped core now Rerouted old new) → IfOk told (IsStepped core now call old new)
step_as core now old new call (Err fault) same kept stepped = tt
step_as core now old new call (Ok told) same kept stepped = record {
  step = stepped.step;
  home = stepped.home;
  control = λ own is. stepped.control own is ∙ same (place_of old.control.home own) (control_of old.control);
  waiting = λ own peer among. stepped.waiting own peer among
      ∙ ap (λ (octets : List ℕ). octets ++ texts (put_to (place_of old.control.home own) (control_of old.control) (control_of new.control) peer))
      (kept peer (waiting_at old.tables peer));
  leaves = stepped.leaves;
}

-- The routing of a call is stepped, and its streams and the moments of raises are changed: the call is midway.
pub midway_raised : (core : Topology) (now : ℕ) (own : OwnCall) (call : Call) (old : Parts) (routing : EdgeRouting) (streams : FinMap peer_cmp Stream)
    (raised : FinMap node_cmp ℕ)
    (told : Result LeafCandidates NoMemory) → raised ≡ raised_after now old.raised call → IsLive old.routing old.labels old.streams
    → core.nodes ≡ length old.routing.control.home.scenario.nodes
    → own_call own ≡ own_label_call call → MayMake old.labels own → streams ≡ streams_after call old.streams
    → routing.control.home ≡ old.routing.control.home → IfOk told (IsStepped core now call old.routing routing)
    → IsMidway core now own call (going old) told (record old { routing = routing; streams = streams; raised = raised })
midway_raised core now own call old routing streams raised told clocks live nodes is_own may are home stepped = record {
  live = live;
  unspent = refl;
  nodes = nodes;
  is_own = is_own;
  may = may;
  labels = refl;
  streams = are;
  raised = clocks;
  home = home;
  stepped = stepped;
}

-- the same of a call by which no BGP session comes up or is lost
pub midway : (core : Topology) (now : ℕ) (own : OwnCall) (call : Call) (old : Parts) (routing : EdgeRouting) (streams : FinMap peer_cmp Stream)
    (told : Result LeafCandidates NoMemory) → old.raised ≡ raised_after now old.raised call → IsLive old.routing old.labels old.streams
    → core.nodes ≡ length old.routing.control.home.scenario.nodes
    → own_call own ≡ own_label_call call → MayMake old.labels own → streams ≡ streams_after call old.streams
    → routing.control.home ≡ old.routing.control.home → IfOk told (IsStepped core now call old.routing routing)
    → IsMidway core now own call (going old) told (record old { routing = routing; streams = streams })
midway core now own call old routing streams told = midway_raised core now own call old routing streams old.raised told

-- a label message whose tree and label have a spelling may be taken
pub label_spelled : (message : LabelMessage) → SaysWritableLabel message → IsSpelled message
label_spelled (messages.Mapping fec label) writable = writable
label_spelled (messages.Withdraw fec label) writable = writable
label_spelled (messages.Release fec label) writable = writable
label_spelled (messages.Ignored kind) writable = tt

-- an end that is not up is none
pub is_down : {X : Type 0} (o : Option X) → is_some o ≡ false → o ≡ None
is_down None e = refl
is_down (Some x) e = absurd cc

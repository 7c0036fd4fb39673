-- An edge as its callers see it: its data, the octets that wait to be handed to its sessions, what its streams hold back, how often the
-- end of each of its LDP sessions came up, and whether it is spent.
use Rattle.std.specs.Prelude.{ℕ, List, [], ◌∷◌, ◌++◌, Option, None, Some}
use Rattle.std.specs.FinMap as maps
use Rattle.std.specs.FinMap.{FinMap}
use Rattle.std.specs.List.{flat_map}
use Rattle.mv_base.specs.declared.ids.NodeId.{NodeId}
use Rattle.mv_base.specs.framing.Feed.{fed, unfed}
use Rattle.scenario_defs.specs.declared.event.Kind.{Kind}
use Rattle.scenario_defs.specs.declared.event.Kind.TheVariants as kinds
use Rattle.label_defs.specs.Keys.{node_cmp}
use Rattle.label_defs.specs.Node.{Spent, LacksLabel, one_more, raises_of}
use Rattle.network_defs.specs.session_defs.Message.{SessionMessage, Bgp, Label, SessionFault, front_of}
use Rattle.network_defs.specs.session_defs.Octets.{Stream}
pub use Rattle.network_defs.specs.session_defs.PeerSession.{PeerSession, peer_cmp, stream_at, fault_at}
use Rattle.network_defs.specs.session_defs.System.{Put}
use Rattle.edge_defs.specs.Edge.{EdgeData, fresh}
use Rattle.edge_defs.specs.Place.{EdgePlace, addr_of, label_place}
use Rattle.edge_defs.specs.Steps as steps
use Rattle.edge_defs.specs.Steps.{EdgeStepped, edge_step}
use Rattle.network_defs.specs.node_defs.Puts.{bgp_puts, label_puts}

-- ---- what is seen

pub record EdgeState : Type 0 where
  pub edge : EdgeData
  pub waiting : FinMap peer_cmp (List ℕ)
  pub streams : FinMap peer_cmp Stream
  pub raises : FinMap node_cmp ℕ
  pub spent : Option Spent

-- nothing has happened yet, with so many labels
abbrev pub fresh_state : ℕ → EdgeState
fresh_state count = record { edge = fresh count; waiting = maps.empty; streams = maps.empty; raises = maps.empty; spent = None }

-- the octets that wait for a session
abbrev pub waiting_at : FinMap peer_cmp (List ℕ) → PeerSession → List ℕ
waiting_at waiting session = elim (maps.get waiting session) [ None ↦ [] | Some octets ↦ octets ]

-- ---- what is put

-- the session over which a unit goes, for the node that puts it
abbrev pub session_of : Put → PeerSession
session_of put = record { kind = put.over.kind; peer = put.over.to }

-- each unit that is put waits after what waits for its session
abbrev pub with_puts : List Put → FinMap peer_cmp (List ℕ) → FinMap peer_cmp (List ℕ)
with_puts [] waiting = waiting
with_puts (put ∷ more) waiting =
    with_puts more (maps.insert waiting (session_of put) (waiting_at waiting (session_of put) ++ put.unit.octets))

-- what a step of an edge puts: to its BGP peers, and then what the row of its label steps puts
abbrev pub edge_puts : EdgePlace → ℕ → EdgeData → EdgeStepped → List Put
edge_puts place now old new =
    bgp_puts place old.control new.edge.control
    ++ flat_map (label_puts place.me (addr_of place.scenario place.me) (label_place place.scenario place.core place.me) now) new.row

-- ---- steps

-- the edge after a step; one that lacks a label is spent
abbrev pub thereafter : EdgePlace → ℕ → EdgeState → Option EdgeStepped → EdgeState
thereafter place now old None = record old { spent = Some LacksLabel }
thereafter place now old (Some new) = record old { edge = new.edge; waiting = with_puts (edge_puts place now old.edge new) old.waiting }

-- a step of an edge, unless it is spent
abbrev pub stepped_unless : Option Spent → EdgePlace → ℕ → EdgeState → steps.Call → EdgeState
stepped_unless None place now old call = thereafter place now old (edge_step place now old.edge call)
stepped_unless (Some spent) place now old call = old

abbrev pub stepped : EdgePlace → ℕ → EdgeState → steps.Call → EdgeState
stepped place now old call = stepped_unless old.spent place now old call

-- A raise of an LDP session is counted, as at a label node: its labels are told from those of the raise before by that count.
abbrev pub counted : Kind → NodeId → FinMap node_cmp ℕ → FinMap node_cmp ℕ
counted kinds.Bgp peer raises = raises
counted kinds.Ldp peer raises = maps.insert raises peer (one_more (raises_of raises peer))

-- An end that comes up has a fresh stream. One that notices the loss of its session drops what waits for it, and what its stream holds
-- back.
abbrev pub with_stream : PeerSession → EdgeState → EdgeState
with_stream session old =
    record old { streams = maps.insert old.streams session unfed; raises = counted session.kind session.peer old.raises }

abbrev pub without_session : PeerSession → EdgeState → EdgeState
without_session session old = record old { waiting = maps.remove old.waiting session; streams = maps.remove old.streams session }

abbrev pub prepared : steps.Call → EdgeState → EdgeState
prepared (steps.Raised kind peer) old = with_stream (record { kind = kind; peer = peer }) old
prepared (steps.Noticed kind peer) old = without_session (record { kind = kind; peer = peer }) old
prepared other old = old

-- the edge after a call of its own, unless it is spent
abbrev pub called_unless : Option Spent → EdgePlace → ℕ → EdgeState → steps.Call → EdgeState
called_unless None place now old call = stepped place now (prepared call old) call
called_unless (Some spent) place now old call = old

abbrev pub called : EdgePlace → ℕ → EdgeState → steps.Call → EdgeState
called place now old call = called_unless old.spent place now old call

-- ---- octets that are taken

-- the call that takes a message from a peer
abbrev pub call_of : NodeId → SessionMessage → steps.Call
call_of from (Bgp message) = steps.Update from message
call_of from (Label message) = steps.Label from message

-- the messages are taken one after another, each by a step
abbrev pub all_taken : EdgePlace → ℕ → NodeId → List SessionMessage → EdgeState → EdgeState
all_taken place now from [] old = old
all_taken place now from (message ∷ more) old = all_taken place now from more (stepped place now old (call_of from message))

-- The octets go to the session's stream, and the messages that are whole then are taken, those before its first fault too.
abbrev pub fed_octets : EdgePlace → ℕ → PeerSession → List ℕ → EdgeState → EdgeState
fed_octets place now session octets old =
    let new = fed (front_of session.kind) (stream_at old.streams session) octets in
    all_taken place now session.peer new.waiting (record old { streams = maps.insert old.streams session (record new { waiting = [] }) })

-- The edge after octets that it takes. A stream that has had its first fault takes no more, and a node that is spent takes nothing.
abbrev pub took_unless : Option Spent → Option (ℕ × SessionFault) → EdgePlace → ℕ → PeerSession → List ℕ → EdgeState → EdgeState
took_unless None None place now session octets old = fed_octets place now session octets old
took_unless None (Some fault) place now session octets old = old
took_unless (Some spent) fault place now session octets old = old

abbrev pub took : EdgePlace → ℕ → PeerSession → List ℕ → EdgeState → EdgeState
took place now session octets old = took_unless old.spent (fault_at old.streams session) place now session octets old

-- ---- octets that are handed out

-- All that waits for the session is handed out, and nothing is left of it. A node that is spent hands out nothing.
abbrev pub handed_unless : Option Spent → PeerSession → EdgeState → List ℕ
handed_unless None session old = waiting_at old.waiting session
handed_unless (Some spent) session old = []

abbrev pub handed : PeerSession → EdgeState → List ℕ
handed session old = handed_unless old.spent session old

abbrev pub handed_out : PeerSession → EdgeState → EdgeState
handed_out session old = record old { waiting = maps.remove old.waiting session }

-- The sessions of one node, and their streams.
use Rattle.std.specs.Prelude.{ℕ, [], ◌∷◌, Option, None, Some}
use Rattle.std.specs.FinMap as maps
use Rattle.std.specs.FinMap.{FinMap}
use Rattle.std.specs.Cmp.Lexicographic.{slice_cmp}
use Rattle.std.specs.Ordering.{nat_cmp}
use Rattle.std.specs.declared.cmp.Ordering.{Ordering}
use Rattle.mv_base.specs.declared.ids.NodeId.{NodeId}
use Rattle.mv_base.specs.framing.Feed.{unfed}
use Rattle.scenario_defs.specs.declared.event.Kind.{Kind}
use Rattle.scenario_defs.specs.declared.event.Kind.TheVariants as kinds
use Rattle.network_defs.specs.session_defs.Message.{SessionFault}
use Rattle.network_defs.specs.session_defs.Octets.{Stream}

-- A session of a node: its protocol, and the node at its other end.
pub record PeerSession : Type 0 where
  pub kind : Kind
  pub peer : NodeId

abbrev pub kind_number : Kind → ℕ
kind_number kinds.Bgp = 0
kind_number kinds.Ldp = 1

abbrev pub peer_cmp : PeerSession → PeerSession → Ordering
peer_cmp a b = slice_cmp nat_cmp (kind_number a.kind ∷ a.peer.0 ∷ []) (kind_number b.kind ∷ b.peer.0 ∷ [])

-- the stream of a session; a fresh one where the session has none
abbrev pub stream_at : FinMap peer_cmp Stream → PeerSession → Stream
stream_at streams session = elim (maps.get streams session) [ None ↦ unfed | Some stream ↦ stream ]

-- the first fault of a session's stream, with its place
abbrev pub fault_at : FinMap peer_cmp Stream → PeerSession → Option (ℕ × SessionFault)
fault_at streams session = (stream_at streams session).fault

-- A row of calls of a label node, one after another, and the row of label steps of an edge that they are.
use Rattle.std.specs.Prelude.{◌≡◌, ℕ, Bool, true, false, List, [], ◌∷◌, ◌++◌, Option, Some, None}
use Rattle.std.specs.FinMap as maps
use Rattle.std.specs.FinMap.{FinMap}
use Rattle.mv_base.specs.core_walks.Core.{Core}
use Rattle.label_defs.specs.LabelData.{LabelData}
use Rattle.label_defs.specs.Node.{LabelNode, NodePlace, called}
use Rattle.label_defs.specs.Steps.{Call, Noticed}
use Rattle.network_defs.specs.session_defs.PeerSession.{peer_cmp}
use Rattle.edge_defs.specs.Edge.{Control}
use Rattle.edge_defs.specs.Place.{EdgePlace}
use Rattle.edge_defs.specs.Steps as steps
use Rattle.edge_defs.specs.Steps.{LabelStep, changed_leaves, control_step, one_call, own_label_call, part_after}
use Rattle.edge_defs.specs.Tunnels.{leaves}
use Rattle.network_defs.specs.node_defs.EdgeState.{EdgeState}
use Rattle.node_laws.specs.Places.{AreLabelOctets, label_session}

-- the node after calls, one after another
abbrev pub all_called : NodePlace → Core → ℕ → LabelNode → List Call → LabelNode
all_called place core now node [] = node
all_called place core now node (call ∷ more) = all_called place core now (called place core now node call) more

-- The node after a row of label steps: it is not spent, and its label part is the one after the row.
pub record IsBehindRow (before : LabelData) (row : List LabelStep) (node : LabelNode) : Type 0 where
  pub unspent : node.spent ≡ None
  pub part : node.part ≡ part_after before row

-- whether the call is that a loss is noticed
abbrev pub is_noticed : Call → Bool
is_noticed (Noticed peer) = true
is_noticed other = false

-- what waits for sessions, but for those whose loss the call notices
abbrev pub without_lost : Option Call → FinMap peer_cmp (List ℕ) → FinMap peer_cmp (List ℕ)
without_lost (Some (Noticed peer)) waiting = maps.remove waiting (label_session peer)
without_lost other waiting = waiting

-- ---- a step of an edge

-- The label part of the edge is that of the label node, what waits for its LDP sessions is what waits there, their ends came up as often,
-- and each is spent as the other is.
pub record IsLabelNode (edge : EdgeState) (node : LabelNode) : Type 0 where
  pub part : node.part ≡ edge.edge.part
  pub waiting : AreLabelOctets edge.waiting node.waiting
  pub raises : node.raises ≡ edge.raises
  pub spent : node.spent ≡ edge.spent

-- the calls of its label node that a call of an edge makes, by what the edge keeps before it
abbrev pub label_calls : EdgePlace → ℕ → Control → steps.Call → List Call
label_calls place now control call =
    one_call (own_label_call call) ++ changed_leaves (leaves place control) (leaves place (control_step place now control call))

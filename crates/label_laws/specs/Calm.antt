-- A tree on which nothing is left to be done.
use Rattle.std.specs.Prelude.{◌≡◌, ◌≢◌, ◌<◌, ℕ, true, [], Some}
use Rattle.std.specs.FinSet as sets
use Rattle.mv_base.specs.declared.ids.NodeId.{NodeId}
use Rattle.mldp.specs.declared.mldp_fec.fec.Fec.{Fec}
use Rattle.label_defs.specs.declared.label_use.LabelUse.TheVariants as uses
use Rattle.label_defs.specs.LabelData.{use_of, has_tree, is_ready}
use Rattle.label_defs.specs.Steps.{branch_to}
use Rattle.label_laws.specs.Network.{LabelNetwork}

-- The neighbour of a node towards the root of a tree is nearer to it. Their session is joined and ready, and no message of the node
-- to that neighbour is in transit.
pub record CalmLink (network : LabelNetwork) (depth : NodeId → ℕ) (fec : Fec) (n : NodeId) : Type 0 where
  pub above : NodeId
  pub toward : network.upstream n fec ≡ Some above
  pub nearer : depth above < depth n
  pub joined : (network.direction above n).joined ≡ true
  pub ready : is_ready (network.node n) above ≡ true
  pub quiet : (network.direction n above).transit ≡ []

-- this is so of each node on the tree but the root
abbrev pub Calm : LabelNetwork → (NodeId → ℕ) → NodeId → Fec → Type 0
Calm network depth root fec = (n : NodeId) → has_tree (network.node n) fec ≡ true → n ≢ root → CalmLink network depth fec n

-- a node is reached from the root of a tree: by branches, each under a label that its neighbour has mapped to the tree
pub data Reached (network : LabelNetwork) (fec : Fec) (root : NodeId) : NodeId → Type 0 where
  at_root : Reached network fec root root
  below : {n : NodeId} (u : NodeId) (label : ℕ) → Reached network fec root u →
      sets.contains (network.node u).branches (branch_to n fec label) ≡ true →
      use_of (network.node n) label ≡ Some (uses.Mapped fec u) → Reached network fec root n

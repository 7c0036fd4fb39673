-- What holds of the labels of a tree on which nothing is left to be done.
use Rattle.std.specs.Prelude.{◌≡◌, ◌≢◌, ℕ, ◌<◌, ◌≤◌, true, None, Some}
use Rattle.std.specs.FinSet as sets
use Rattle.mv_base.specs.declared.ids.NodeId.{NodeId}
use Rattle.mldp.specs.declared.mldp_fec.fec.Fec.{Fec}
use Rattle.label_defs.specs.LabelData.{LabelData, has_tree, is_ready}
use Rattle.label_defs.specs.Settled.{Maps, Settled}
use Rattle.label_defs.specs.Steps.{branch_to}
use Rattle.network_defs.specs.session_defs.Octets.{OctetNetwork}
use Rattle.network_defs.specs.Nodes.{Nodes, part_of, label_place_of}

abbrev pub part_at : OctetNetwork Nodes → NodeId → LabelData
part_at network n = part_of (network.state.node n)

-- The neighbour of a node towards the root of a tree: the session is ready, and it is nearer to the root.
pub record CalmUpstream (network : OctetNetwork Nodes) (fec : Fec) (depth : NodeId → ℕ) (n : NodeId) : Type 0 where
  pub above : NodeId
  pub toward : (label_place_of network.state n).upstream fec ≡ Some above
  pub ready : is_ready (part_at network n) above ≡ true
  pub nearer : depth above < depth n

-- The tree is settled at each node; the branches are those of the labels that neighbours have mapped; each node on the tree but the
-- root has a neighbour nearer to the root.
pub record CalmLabels (network : OctetNetwork Nodes) (fec : Fec) (root : NodeId) : Type 0 where
  pub settled : (n : NodeId) → Settled (label_place_of network.state n) (part_at network n) fec
  pub root_is : (label_place_of network.state root).upstream fec ≡ None
  pub told : (u n : NodeId) (label : ℕ) → sets.contains (part_at network u).branches (branch_to n fec label) ≡ true
      → Maps (part_at network n) fec label u
  pub known : (u n : NodeId) (label : ℕ) → Maps (part_at network n) fec label u
      → sets.contains (part_at network u).branches (branch_to n fec label) ≡ true
  pub depth : NodeId → ℕ
  pub bounded : (n : NodeId) → depth n ≤ 255
  pub upstreams : (n : NodeId) → has_tree (part_at network n) fec ≡ true → n ≢ root → CalmUpstream network fec depth n

-- A leaf, a core node and the root of all trees, in a row, and what happens as the leaf wants a tree.
use Rattle.std.specs.Prelude.{◌≡◌, ℕ, true, List, [], ◌∷◌, Option, Some, None}
use Rattle.std.specs.FinMap as maps
use Rattle.std.specs.FinSet as sets
use Rattle.mldp.specs.mv_base.declared.ids.NodeId.{NodeId}
use Rattle.mldp.specs.declared.mldp_fec.fec.Fec.{Fec}
use Rattle.mldp.specs.declared.mldp_msgs.message.LabelMessage.TheVariants as messages
use Rattle.label_defs.specs.declared.put.Put.{Put}
use Rattle.label_defs.specs.LabelData.{Place, LabelData, fresh, first_label}
use Rattle.label_defs.specs.Settling.{Stepped}
use Rattle.label_defs.specs.Steps.{Call, Taken, Want, branch_to, label_step}

abbrev pub root_node : NodeId
root_node = record { 0 = 0 }

abbrev pub core_node : NodeId
core_node = record { 0 = 1 }

abbrev pub leaf_node : NodeId
leaf_node = record { 0 = 2 }

-- the place of a node whose neighbour towards the root of each tree is this one
abbrev pub towards : ℕ → Option NodeId → Place
towards life upstream = record { life = life; is_tree = λ fec. true; upstream = λ fec. upstream }

-- a node in which nothing has happened but that its sessions with these neighbours came up and their holds were run
abbrev pub joined_to : ℕ → ℕ → List NodeId → LabelData
joined_to count raised [] = fresh count
joined_to count raised (node ∷ more) =
    let rest = joined_to count raised more in
    record rest { ends = maps.insert rest.ends node (record { raised = raised; held = true; next = 1 }) }

abbrev pub first_mapping : NodeId → Fec → Put
first_mapping to fec = record { to = to; message = messages.Mapping fec first_label }

-- the mapping of that label is taken
abbrev pub takes_first : NodeId → Fec → Call
takes_first from fec = Taken from (messages.Mapping fec first_label)

-- The leaf maps its first label to the core node. The core node takes that from the leaf, and maps its own to the root. The root
-- takes that from the core node, and puts nothing. Then there is a branch at the root and one at the core node.
pub record LeafToRoot (life now raised count : ℕ) (fec : Fec) : Type 0 where
  pub leaf : Stepped
  pub core : Stepped
  pub root : Stepped
  pub wants : label_step (towards life (Some core_node)) now (joined_to count raised (core_node ∷ [])) (Want fec) ≡ Some leaf
  pub from_leaf : leaf.puts ≡ first_mapping core_node fec ∷ []
  pub takes :
      let place = towards life (Some root_node) in
      label_step place now (joined_to count raised (root_node ∷ leaf_node ∷ [])) (takes_first leaf_node fec) ≡ Some core
  pub from_core : core.puts ≡ first_mapping root_node fec ∷ []
  pub to_leaf : sets.contains core.part.branches (branch_to leaf_node fec first_label) ≡ true
  pub ends : label_step (towards life None) now (joined_to count raised (core_node ∷ [])) (takes_first core_node fec) ≡ Some root
  pub from_root : root.puts ≡ []
  pub to_core : sets.contains root.part.branches (branch_to core_node fec first_label) ≡ true

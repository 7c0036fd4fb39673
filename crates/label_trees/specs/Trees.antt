-- The labels of a node and its forwarding table, which notes exactly the mapped labels.
use Rattle.std.specs.Prelude.{◌≡◌, ◌≢◌, ℕ, ◌==◌, refl, Option, None, Some, List, if◌then◌else◌}
use Rattle.std.specs.Coded.{Coded, code_by, coded×}
use Rattle.std.specs.FinMap as maps
use Rattle.std.specs.FinMap.{FinMap}
use Rattle.std.specs.FinSet as sets
use Rattle.std.specs.FinSet.{FinSet}
use Rattle.mv_base.specs.declared.ids.NodeId.{NodeId}
use Rattle.mldp.specs.declared.mldp_fec.fec.Fec.{Fec}
use Rattle.mldp.specs.contracts.mldp_fec.fec.Fec as fecs
use Rattle.label_defs.specs.declared.label_use.LabelUse.{LabelUse}
use Rattle.label_defs.specs.declared.label_use.LabelUse.TheVariants as uses
use Rattle.label_defs.specs.contracts.branch.Branch as tree_branches
use Rattle.label_defs.specs.Keys.{fec_cmp, branch_cmp}
use Rattle.label_defs.specs.LabelData.{trees}
use Rattle.label_forwarding.specs.Hops.{hop_cmp}
use Rattle.label_forwarding.specs.FibData.{FibData, hop}
use Rattle.label_trees.specs.label_uses.Uses.{Uses, uses_code, unused, use_in}

-- What the labels are used for and which trees wait, the trees of which the node is a leaf, and the branches.
pub record Trees : Type 0 where
  pub uses : Uses
  pub leaves : FinSet fec_cmp
  pub branches : FinSet branch_cmp

abbrev pub trees_code : Coded Trees
trees_code = code_by (Uses × (FinSet fec_cmp × FinSet branch_cmp))
    (coded× uses_code (coded× (sets.code fecs.the_row.coded) (sets.code tree_branches.the_row.coded)))
    (λ t. (t.uses, (t.leaves, t.branches))) (λ p. record { uses = p.0; leaves = p.1.0; branches = p.1.1 }) (λ _. refl)

-- nothing has happened yet
abbrev pub untouched : ℕ → ℕ → Trees
untouched life count = record { uses = unused life count; leaves = sets.empty; branches = sets.empty }

-- the trees of the node, in their order: those with a branch, a leaf or a mapped label
abbrev pub trees_in : Trees → List Fec
trees_in own =
    trees (record { labels = own.uses.labels; branches = own.branches; leaves = own.leaves; waiting = sets.empty; ends = maps.empty })

-- the forwarding table with these notes, and with the leaves and branches of the trees
abbrev pub fib_with : FinMap hop_cmp Fec → Trees → FibData
fib_with pairs trees = record { pairs = pairs; leaves = trees.leaves; branches = trees.branches }

-- the FEC of the copies that the neighbour sends under a label which is used so
abbrev pub fec_under : Option LabelUse → NodeId → Option Fec
fec_under (Some (uses.Mapped fec upstream)) from = if upstream.0 == from.0 then Some fec else None
fec_under other from = None

-- the notes are exactly the mapped labels, each with its neighbour and its tree
abbrev pub AreMapped : FinMap hop_cmp Fec → List LabelUse → Type 0
AreMapped pairs labels = (from : NodeId) (label : ℕ) → maps.get pairs (hop from label) ≡ fec_under (use_in labels label) from

-- the same but for one label, of which there is no note
pub record AreMappedBut (one : ℕ) (pairs : FinMap hop_cmp Fec) (labels : List LabelUse) : Type 0 where
  pub others : (from : NodeId) (label : ℕ) → label ≢ one → maps.get pairs (hop from label) ≡ fec_under (use_in labels label) from
  pub none : (from : NodeId) → maps.get pairs (hop from one) ≡ None

-- the forwarding table is that of the trees: its notes are the mapped labels, and its leaves and branches are theirs
pub record IsFibOf (trees : Trees) (fib : FibData) : Type 0 where
  pub mapped : AreMapped fib.pairs trees.uses.labels
  pub leaves : fib.leaves ≡ trees.leaves
  pub branches : fib.branches ≡ trees.branches

-- What a forwarding table holds, as plain data.
use Rattle.std.specs.Prelude.{◌≡◌, ◌||◌, ℕ, Bool, List, refl, if◌then◌else◌}
use Rattle.std.specs.Coded.{Coded, code_by, coded×}
use Rattle.std.specs.List.{list_any}
use Rattle.std.specs.List.Sorted.{IsStrictlySortedBy}
use Rattle.std.specs.Ordering.{eq_by_cmp}
use Rattle.std.specs.FinMap as maps
use Rattle.std.specs.FinMap.{FinMap}
use Rattle.std.specs.FinSet as sets
use Rattle.std.specs.FinSet.{FinSet}
use Rattle.mv_base.specs.declared.ids.NodeId.{NodeId}
use Rattle.label_defs.specs.mldp.declared.mldp_fec.fec.Fec.{Fec}
use Rattle.label_defs.specs.mldp.contracts.mldp_fec.fec.Fec as fecs
use Rattle.label_defs.specs.declared.branch.Branch.{Branch as TreeBranch}
use Rattle.label_defs.specs.contracts.branch.Branch as tree_branches
use Rattle.label_defs.specs.Keys.{fec_cmp, branch_cmp}
use Rattle.label_defs.specs.LabelData.{same_fec}
use Rattle.label_defs.specs.Members.{in_order}
use Rattle.label_forwarding.specs.declared.branch.Branch.{Branch}
use Rattle.label_forwarding.specs.declared.entry.Entry.{Entry}
use Rattle.label_forwarding.specs.Hops.{hop_cmp, branch_code}

-- What is noted: the FEC of the copies that a neighbour sends under a label. The FECs of which the node is a leaf. The branches,
-- each with its FEC.
pub record FibData : Type 0 where
  pub pairs : FinMap hop_cmp Fec
  pub leaves : FinSet fec_cmp
  pub branches : FinSet branch_cmp

abbrev pub fib_code : Coded FibData
fib_code = code_by (FinMap hop_cmp Fec × (FinSet fec_cmp × FinSet branch_cmp))
    (coded× (maps.code branch_code fecs.the_row.coded) (coded× (sets.code fecs.the_row.coded) (sets.code tree_branches.the_row.coded)))
    (λ f. (f.pairs, (f.leaves, f.branches))) (λ p. record { pairs = p.0; leaves = p.1.0; branches = p.1.1 }) (λ _. refl)

-- the table in which nothing stands
abbrev pub nothing : FibData
nothing = record { pairs = maps.empty; leaves = sets.empty; branches = sets.empty }

-- a neighbour and its label
abbrev pub hop : NodeId → ℕ → Branch
hop node label = record { node = node; label = label }

-- the branch of that tree
abbrev pub branch_in : Fec → Branch → TreeBranch
branch_in fec own = record { fec = fec; node = own.node; label = own.label }

-- the leaves, with the tree or without it
abbrev pub with_leaf : FinSet fec_cmp → Fec → Bool → FinSet fec_cmp
with_leaf leaves fec leaf = if leaf then sets.insert leaves fec else sets.remove leaves fec

-- whether the node is on the tree: it has a branch or is a leaf
abbrev pub is_on : FibData → Fec → Bool
is_on fib fec = list_any (λ branch. same_fec branch.fec fec) (in_order fib.branches) || sets.contains fib.leaves fec

-- whether the node is on the tree, or a noted label names it
abbrev pub is_known : FibData → Fec → Bool
is_known fib fec = is_on fib fec || list_any (λ (entry : Branch × Fec). same_fec entry.1 fec) (maps.entries fib.pairs)

-- These are the branches of the tree, in order and each once.
pub record AreHops (fib : FibData) (fec : Fec) (hops : List Branch) : Type 0 where
  pub ordered : IsStrictlySortedBy hop_cmp hops
  pub each : (own : Branch) → list_any (eq_by_cmp hop_cmp own) hops ≡ sets.contains fib.branches (branch_in fec own)

-- The entry is that of its FEC.
pub record IsEntry (fib : FibData) (entry : Entry) : Type 0 where
  pub leaf : entry.leaf ≡ sets.contains fib.leaves entry.fec
  pub branches : AreHops fib entry.fec (maps.keys entry.branches)

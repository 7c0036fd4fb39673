-- The orders of trees, branches and nodes.
use Rattle.std.specs.Prelude.{ℕ, List, ◌∷◌, ◌++◌}
use Rattle.std.specs.Ordering.{nat_cmp}
use Rattle.std.specs.declared.cmp.Ordering.{Ordering}
use Rattle.std.specs.Cmp.Lexicographic.{slice_cmp}
use Rattle.mldp.specs.mv_base.declared.ids.NodeId.{NodeId}
use Rattle.mldp.specs.mv_base.Address.{addr_front}
use Rattle.mldp.specs.declared.mldp_fec.fec.FecKind.{FecKind}
use Rattle.mldp.specs.declared.mldp_fec.fec.FecKind.TheVariants.{P2mp, Up, Down}
use Rattle.mldp.specs.declared.mldp_fec.fec.Fec.{Fec}
use Rattle.label_defs.specs.declared.branch.Branch.{Branch}

abbrev pub kind_key : FecKind → ℕ
kind_key P2mp = 0
kind_key Up = 1
kind_key Down = 2

-- the numbers by which trees are told apart, and ordered: by root address, and then by the octets of the opaque value
abbrev pub fec_key : Fec → List ℕ
fec_key fec = kind_key fec.kind ∷ (addr_front fec.root ++ fec.opaque)

abbrev pub fec_cmp : Fec → Fec → Ordering
fec_cmp a b = slice_cmp nat_cmp (fec_key a) (fec_key b)

-- those of branches: by neighbour, by label, and then by tree
abbrev pub branch_key : Branch → List ℕ
branch_key branch = branch.node.0 ∷ branch.label ∷ fec_key branch.fec

abbrev pub branch_cmp : Branch → Branch → Ordering
branch_cmp a b = slice_cmp nat_cmp (branch_key a) (branch_key b)

abbrev pub node_cmp : NodeId → NodeId → Ordering
node_cmp a b = nat_cmp a.0 b.0

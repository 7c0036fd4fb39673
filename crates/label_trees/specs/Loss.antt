-- What the loss of a session takes out of a forwarding table, one after another.
use Rattle.std.specs.Prelude.{ℕ, ◌==◌, ◌&&◌, Bool, List, [], ◌∷◌, if◌then◌else◌}
use Rattle.std.specs.FinMap as maps
use Rattle.std.specs.FinMap.{FinMap}
use Rattle.std.specs.FinSet as sets
use Rattle.std.specs.FinSet.{FinSet}
use Rattle.mv_base.specs.declared.ids.NodeId.{NodeId}
use Rattle.mldp.specs.declared.mldp_fec.fec.Fec.{Fec}
use Rattle.label_defs.specs.declared.branch.Branch.{Branch as TreeBranch}
use Rattle.label_defs.specs.Keys.{branch_cmp}
use Rattle.label_forwarding.specs.declared.branch.Branch.{Branch}
use Rattle.label_forwarding.specs.Hops.{hop_cmp}
use Rattle.label_forwarding.specs.FibData.{branch_in, hop}

-- the branches of the tree that go to the neighbour
abbrev pub branches_to : NodeId → Fec → List Branch → List TreeBranch
branches_to peer fec [] = []
branches_to peer fec (own ∷ more) =
    if own.node.0 == peer.0 then branch_in fec own ∷ branches_to peer fec more else branches_to peer fec more

-- whether it is a branch of the node that goes to the neighbour
abbrev pub is_lost : NodeId → FinSet branch_cmp → TreeBranch → Bool
is_lost peer branches own = own.node.0 == peer.0 && sets.contains branches own

-- the notes without those of these labels of the neighbour
abbrev pub notes_without : NodeId → FinMap hop_cmp Fec → List ℕ → FinMap hop_cmp Fec
notes_without peer pairs [] = pairs
notes_without peer pairs (label ∷ more) = notes_without peer (maps.remove pairs (hop peer label)) more

-- the branches without these
abbrev pub branches_without : FinSet branch_cmp → List TreeBranch → FinSet branch_cmp
branches_without branches [] = branches
branches_without branches (own ∷ more) = branches_without (sets.remove branches own) more

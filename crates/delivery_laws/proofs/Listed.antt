-- What holds of the branches of a node holds of those of each tree.
use Rattle.std.proofs.Common.{◌≡◌, true}
use Rattle.std.specs.List.{AllByRecursion}
use Rattle.std.specs.FinSet as sets
use Rattle.mldp.specs.declared.mldp_fec.fec.Fec.{Fec}
use Rattle.label_defs.specs.LabelData.{LabelData, same_fec, branches_of}
use Rattle.label_defs.specs.declared.branch.Branch.{Branch}
use Rattle.label_defs.proofs.KeyLemmas.{branch_cmp_total}
use Rattle.label_defs.proofs.MemberLemmas.{each_in_order}
use Rattle.label_defs.specs.Members.{in_order}
use Rattle.delivery_laws.proofs.Copies.{all_filter}

pub each_of_tree : (P : Branch → Type 0) (part : LabelData) → ((branch : Branch) → sets.contains part.branches branch ≡ true → P branch) → (fec : Fec)
    → AllByRecursion P (branches_of part fec)
each_of_tree P part h fec =
    all_filter P (λ branch. same_fec branch.fec fec) (in_order part.branches) (each_in_order branch_cmp_total P part.branches h)

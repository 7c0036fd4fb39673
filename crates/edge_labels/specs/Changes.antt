-- The trees of which an edge becomes or stops being a leaf, found among candidates.
use Rattle.std.specs.Prelude.{◌≡◌, Bool, true, false, List, [], ◌∷◌, ◌++◌}
use Rattle.std.specs.List.{list_any}
use Rattle.std.specs.FinSet as sets
use Rattle.std.specs.FinSet.{FinSet}
use Rattle.mldp.specs.declared.mldp_fec.fec.Fec.{Fec}
use Rattle.label_defs.specs.Keys.{fec_cmp}
use Rattle.label_defs.specs.LabelData.{same_fec}
use Rattle.edge_labels.specs.declared.changes.LeafChange.{LeafChange}

-- the change of a tree, by whether the edge was a leaf of it and whether it is one now
abbrev pub change_at : Bool → Bool → Fec → List LeafChange
change_at false true fec = record { fec = fec; wanted = true } ∷ []
change_at true false fec = record { fec = fec; wanted = false } ∷ []
change_at true true fec = []
change_at false false fec = []

-- the changes of the trees, where the edge was a leaf of those of the set, and now is one of those listed first
abbrev pub changes_in : FinSet fec_cmp → List Fec → List Fec → List LeafChange
changes_in old leaves [] = []
changes_in old leaves (fec ∷ more) =
    change_at (sets.contains old fec) (list_any (same_fec fec) leaves) fec ++ changes_in old leaves more

-- A tree that is in one of the two sets of leaves alone is a candidate. Of the candidates, those that are in the new set are listed.
pub record AreCandidates (old new : FinSet fec_cmp) (candidates leaves : List Fec) : Type 0 where
  pub all : (fec : Fec) → list_any (same_fec fec) candidates ≡ false → sets.contains old fec ≡ sets.contains new fec
  pub listed : (fec : Fec) → list_any (same_fec fec) candidates ≡ true → list_any (same_fec fec) leaves ≡ sets.contains new fec

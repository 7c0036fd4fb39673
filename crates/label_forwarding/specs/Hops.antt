-- The branches of one tree, by neighbour and label.
use Rattle.std.specs.Prelude.{ℕ, Bool, List, [], ◌∷◌, map, refl}
use Rattle.std.specs.Coded.{Coded, code_by, coded×, coded_ℕ}
use Rattle.std.specs.FinSet as sets
use Rattle.std.specs.FinMap.{FinMap}
use Rattle.std.specs.Cmp.Lexicographic.{slice_cmp}
use Rattle.std.specs.Ordering.{nat_cmp, is_lt}
use Rattle.std.specs.declared.cmp.Ordering.{Ordering}
use Rattle.label_forwarding.specs.declared.branch.Branch.{Branch}
use Rattle.label_forwarding.specs.contracts.branch.BranchPartialEq.TheImpl as branches_equal

-- the numbers by which branches of one tree are ordered: by neighbour, and then by label
abbrev pub hop_key : Branch → List ℕ
hop_key branch = branch.node.0 ∷ branch.label ∷ []

abbrev pub hop_cmp : Branch → Branch → Ordering
hop_cmp own other = slice_cmp nat_cmp (hop_key own) (hop_key other)

-- A set of branches. Its `maps.keys` are in order; of the order of `items` of a set nothing is known.
abbrev pub Hops : Type 0
Hops = FinMap hop_cmp (Unit {0})

abbrev pub branch_code : Coded Branch
branch_code = code_by (ℕ × ℕ) (coded× coded_ℕ coded_ℕ) (λ b. (b.node.0, b.label))
    (λ p. record { node = record { 0 = p.0 }; label = p.1 }) (λ _. refl)

abbrev pub hops_code : Coded Hops
hops_code = sets.code branch_code

-- the branches as entries
abbrev pub marked : List Branch → List (Branch × Unit {0})
marked items = map (λ item. (item, tt)) items

-- whether the item is before the branch
abbrev pub is_before : Branch → Branch → Bool
is_before branch item = is_lt (hop_cmp item branch)

-- whether both are one branch, as `==` tells it
abbrev pub is_hop : Branch → Branch → Bool
is_hop = branches_equal.ghosts.eq

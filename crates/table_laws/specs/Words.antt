-- What a change does to a table, and which list of changes there is between two tables, with no order of computing.
use Rattle.std.specs.Prelude.{◌≡◌, ◌≢◌, ◌↔◌, ⊤, Bool, true, List, [], ◌∷◌}
use Rattle.std.specs.declared.cmp.Ordering.{Ordering}
use Rattle.std.specs.declared.cmp.Ordering.TheVariants.{Less}
use Rattle.std.specs.List.{AllByRecursion}
use Rattle.std.specs.FinMap as table
use Rattle.std.specs.FinMap.{FinMap}
use Rattle.mv_base.specs.declared.table_defs.change.Change.{Change}
use Rattle.mv_base.specs.declared.table_defs.change.Change.TheVariants.{Reach, Unreach}
use Rattle.mv_base.specs.table_defs.Changes.{key_of, value_of, values_at, difference}

-- the test holds of equal values alone, and of each of them
abbrev pub IsExact : {V : Type 0} → (V → V → Bool) → Type 0
IsExact {V} same = (own other : V) → (same own other ≡ true) ↔ (own ≡ other)

-- the new table has the change's value at its key, and is the old one at each other key
pub record IsBehind {K V : Type 0} {cmp : K → K → Ordering} (old : FinMap cmp V) (change : Change K V) (new : FinMap cmp V) : Type 0 where
  pub own : table.get new (key_of change) ≡ value_of change
  pub others : (key : K) → key ≢ key_of change → table.get new key ≡ table.get old key

-- the one change stands before the other: withdrawals before advertisements, and each kind in the keys' order
abbrev pub Precedes : {K V : Type 0} → (K → K → Ordering) → Change K V → Change K V → Type 0
Precedes cmp (Unreach own) (Unreach other) = cmp own other ≡ Less
Precedes cmp (Unreach own) (Reach other value) = ⊤
Precedes cmp (Reach own value) (Unreach other) = ⊥
Precedes cmp (Reach own value) (Reach other next) = cmp own other ≡ Less

-- each change stands before each later one
abbrev pub IsOrdered : {K V : Type 0} → (K → K → Ordering) → List (Change K V) → Type 0
IsOrdered cmp [] = ⊤
IsOrdered cmp (change ∷ rest) = AllByRecursion (Precedes cmp change) rest × IsOrdered cmp rest

-- The list is in order, and gives each key its new value where that is not the old one, and nothing else.
pub record AreChanges {K V : Type 0} {cmp : K → K → Ordering}
    (same : V → V → Bool) (old new : FinMap cmp V) (list : List (Change K V)) : Type 0 where
  pub ordered : IsOrdered cmp list
  pub values : (key : K) → values_at cmp key list ≡ difference same (table.get old key) (table.get new key)

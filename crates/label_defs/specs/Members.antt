-- The members of a set, each once, in order.
use Rattle.std.specs.Prelude.{List, map}
use Rattle.std.specs.FinMap as maps
use Rattle.std.specs.FinSet as sets
use Rattle.std.specs.FinSet.{FinSet}
use Rattle.std.specs.declared.cmp.Ordering.{Ordering}

-- The library says of the keys of a map that they rise, and says nothing of the order of a set's items.
abbrev pub in_order : {K : Type 0} {R : K → K → Ordering} → FinSet R → List K
in_order {R = R} s = maps.keys (maps.from_entries {R = R} (map (λ k. (k, tt {0})) (sets.items s)))

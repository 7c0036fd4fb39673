-- Tables of routes and the changes between them (RFC 4271 sections 3.1 and 9.1.3). A table holds a value for each of some
-- keys, in the order `cmp` of keys. `same` tells whether two values are equal.
use Rattle.std.specs.Prelude.{◌≡◌, ◌≢◌, ◌++◌, Bool, not, List, [], ◌∷◌, map, fold, Option, Some, None, is_none, if◌then◌else◌}
use Rattle.std.specs.declared.cmp.Ordering.{Ordering}
use Rattle.std.specs.Option.{option_eq}
use Rattle.std.specs.Ordering.{eq_by_cmp}
use Rattle.std.specs.FinMap as table
use Rattle.std.specs.FinMap.{FinMap}
use Rattle.mv_base.specs.declared.table_defs.change.Change.{Change}
use Rattle.mv_base.specs.declared.table_defs.change.Change.TheVariants.{Reach, Unreach}

-- the key that the change is about
abbrev pub key_of : {K V : Type 0} → Change K V → K
key_of (Reach key value) = key
key_of (Unreach key) = key

-- the value that the change gives its key: none where it withdraws it
abbrev pub value_of : {K V : Type 0} → Change K V → Option V
value_of (Reach key value) = Some value
value_of (Unreach key) = None

-- the table after a change: an advertisement puts or replaces the value of its key, a withdrawal removes it
abbrev pub applied : {K V : Type 0} {cmp : K → K → Ordering} → FinMap cmp V → Change K V → FinMap cmp V
applied old (Reach key value) = table.insert old key value
applied old (Unreach key) = table.remove old key

-- the table after changes, one after another
abbrev pub applied_all : {K V : Type 0} {cmp : K → K → Ordering} → FinMap cmp V → List (Change K V) → FinMap cmp V
applied_all old changes = fold applied old changes

-- a withdrawal of each key of the table, in the keys' order
abbrev pub withdrawals : {K V : Type 0} {cmp : K → K → Ordering} → FinMap cmp V → List (Change K V)
withdrawals gone = map (λ entry. Unreach entry.0) (table.entries gone)

-- an advertisement of each entry of the table, in the keys' order
abbrev pub advertisements : {K V : Type 0} {cmp : K → K → Ordering} → FinMap cmp V → List (Change K V)
advertisements new = map (λ entry. Reach entry.0 entry.1) (table.entries new)

-- the old entries whose keys the new table does not have
abbrev pub lost : {K V : Type 0} {cmp : K → K → Ordering} → FinMap cmp V → FinMap cmp V → FinMap cmp V
lost old new = table.retain_keys old (λ key. is_none (table.get new key))

-- the new entries that the old table does not have with an equal value
abbrev pub news : {K V : Type 0} {cmp : K → K → Ordering} → (V → V → Bool) → FinMap cmp V → FinMap cmp V → FinMap cmp V
news same old new = table.retain_keys new (λ key. not (option_eq same (table.get old key) (table.get new key)))

-- The changes from the old table to the new one: withdrawals first, then advertisements, each kind in the keys' order. A
-- key whose value stays has none.
abbrev pub changes : {K V : Type 0} {cmp : K → K → Ordering} → (V → V → Bool) → FinMap cmp V → FinMap cmp V → List (Change K V)
changes same old new = withdrawals (lost old new) ++ advertisements (news same old new)

-- the values that the changes give the key, in order
abbrev pub values_at : {K V : Type 0} → (K → K → Ordering) → K → List (Change K V) → List (Option V)
values_at cmp key [] = []
values_at cmp key (change ∷ rest) =
    if eq_by_cmp cmp key (key_of change) then value_of change ∷ values_at cmp key rest else values_at cmp key rest

-- what a key is to be given: its new value, unless that is the old one
abbrev pub difference : {V : Type 0} → (V → V → Bool) → Option V → Option V → List (Option V)
difference same old new = if option_eq same old new then [] else new ∷ []

-- the value after these values, given one after another
abbrev pub last_value : {V : Type 0} → Option V → List (Option V) → Option V
last_value from values = fold (λ old new. new) from values

-- the values lead from the one value to the other: each differs from the value before it, and the last is `to`
abbrev pub Leads : {V : Type 0} → Option V → List (Option V) → Option V → Type 0
Leads from [] to = from ≡ to
Leads from (value ∷ rest) to = (from ≢ value) × Leads value rest to

-- At each key the pending changes lead from what the receiver has taken to what the sender holds out.
abbrev pub LeadsTo : {K V : Type 0} {cmp : K → K → Ordering} → FinMap cmp V → List (Change K V) → FinMap cmp V → Type 0
LeadsTo {K} {V} {cmp} taken pending out =
    (key : K) → Leads (table.get taken key) (values_at cmp key pending) (table.get out key)

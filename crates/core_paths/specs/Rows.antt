-- Rows: an entry for each node, all toward one node.
use Rattle.std.specs.Prelude.{◌≡◌, ◌≢◌, ◌+◌, ◌<◌, ◌≤◌, ◌&&◌, ◌==◌, ℕ, Bool, nat_lt, nat_le}
use Rattle.std.specs.Prelude.{List, fold, length, slice_index, slice_set, if◌then◌else◌}
use Rattle.mv_base.specs.declared.core_link.Link.{Link}
use Rattle.mv_base.specs.core_walks.Walks.{Reaches, IsLeast, IsToward}

-- the entry of a node from which no walk is known
abbrev pub far : ℕ
far = 4294967295

-- the row after a look at the link from `from` to `via`
abbrev pub relaxed : List ℕ → ℕ → ℕ → ℕ → List ℕ
relaxed row from via cost =
    if nat_lt (slice_index row via + cost) (slice_index row from) then slice_set row from (slice_index row via + cost) else row

abbrev pub relaxed_link : List ℕ → Link → List ℕ
relaxed_link row link = relaxed (relaxed row link.a.0 link.b.0 link.cost) link.b.0 link.a.0 link.cost

-- the row after a look at each link, in order
abbrev pub relaxed_all : List ℕ → List Link → List ℕ
relaxed_all row links = fold relaxed_link row links

-- the link makes no entry lower
abbrev pub is_tight : List ℕ → Link → Bool
is_tight row link =
    nat_le (slice_index row link.a.0) (slice_index row link.b.0 + link.cost)
    && nat_le (slice_index row link.b.0) (slice_index row link.a.0 + link.cost)

-- the first steps after a look at the link from `from` to `via`
abbrev pub noted : List ℕ → List ℕ → ℕ → ℕ → ℕ → List ℕ
noted row nexts from via cost =
    if (slice_index row via + cost == slice_index row from) && nat_lt via (slice_index nexts from) then slice_set nexts from via else nexts

abbrev pub noted_link : List ℕ → List ℕ → Link → List ℕ
noted_link row nexts link = noted row (noted row nexts link.a.0 link.b.0 link.cost) link.b.0 link.a.0 link.cost

abbrev pub noted_all : List ℕ → List ℕ → List Link → List ℕ
noted_all row nexts links = fold (noted_link row) nexts links

-- the least costs toward `root`; the entry of a node that does not reach it is `far`
pub record IsCostRow (links : List Link) (nodes root : ℕ) (row : List ℕ) : Type 0 where
  pub size : length row ≡ nodes
  pub top : (k : ℕ) → slice_index row k ≤ far
  pub least : (k : ℕ) → k < nodes → slice_index row k < far → IsLeast links k root (slice_index row k)
  pub near : (k : ℕ) → k < nodes → Reaches links k root → slice_index row k < far

-- the first steps toward `root`; that of `root` itself is not used
pub record IsStepRow (links : List Link) (nodes root : ℕ) (row : List ℕ) : Type 0 where
  pub size : length row ≡ nodes
  pub toward : (k : ℕ) → k < nodes → k ≢ root → IsToward links k root (slice_index row k)

-- the first place of a row with the entry `far`
pub record IsFirstFar (row : List ℕ) (place : ℕ) : Type 0 where
  pub within : place < length row
  pub here : slice_index row place ≡ far
  pub lower : (k : ℕ) → k < place → slice_index row k ≢ far

-- no entry is `far`
abbrev pub IsNear : List ℕ → Type 0
IsNear row = (k : ℕ) → k < length row → slice_index row k ≢ far

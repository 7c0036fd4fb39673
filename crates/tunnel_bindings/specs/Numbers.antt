-- Numbers, each with its state, and the marks of the free ones.
use Rattle.std.specs.Prelude.{◌≡◌, ◌≢◌, ℕ, ◌<◌, ◌≤◌, ◌-◌, ◌*◌, ◌++◌, Bool, true, false, List, length, replicate, slice_get, Option, None, Some}
use Rattle.tunnel_bindings.specs.declared.state.LabelState.{LabelState}
use Rattle.tunnel_bindings.specs.declared.state.LabelState.TheVariants.{Free, Owned, Resting}
use Rattle.tunnel_bindings.specs.Marks.{is_marked}

-- whether there is such a number, and it is free
abbrev pub is_free : Option LabelState → Bool
is_free None = false
is_free (Some Free) = true
is_free (Some Owned) = false
is_free (Some (Resting until)) = false

-- the number is free, and no lower one is
pub record IsFirstFree (states : List LabelState) (number : ℕ) : Type 0 where
  pub free : slice_get states number ≡ Some Free
  pub below : (lower : ℕ) → lower < number → slice_get states lower ≢ Some Free

-- no number is free
abbrev pub NoFree : List LabelState → Type 0
NoFree states = (number : ℕ) → slice_get states number ≢ Some Free

-- the marks are those of the free numbers, and have room for each
pub record AreMarked (states : List LabelState) (marks : List ℕ) : Type 0 where
  pub room : length states ≤ 64 * length marks
  pub same : (number : ℕ) → is_marked marks number ≡ is_free (slice_get states number)

-- the states of so many numbers, where those of the first ones are these, and each other number is free
abbrev pub all_of : ℕ → List LabelState → List LabelState
all_of count states = states ++ replicate (count - length states) Free

-- The marks are those of the free ones among the numbers whose states are written. There is room for so many numbers, and marks.
pub record IsWritten (count : ℕ) (states : List LabelState) (capacity : ℕ) (marks : List ℕ) : Type 0 where
  pub within : length states ≤ count
  pub room : count ≤ capacity
  pub markable : count ≤ 64 * length marks
  pub marked : AreMarked states marks

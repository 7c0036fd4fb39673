-- The list of the numbers that rest, in no order, beside the states of all.
use Rattle.std.specs.Prelude.{◌≡◌, ℕ, ◌+◌, ◌≤◌, Bool, nat_le, List, [], ◌∷◌, length, slice_set, count_by, suc, if◌then◌else◌}
use Rattle.tunnel_bindings.specs.declared.state.LabelState.{LabelState}
use Rattle.tunnel_bindings.specs.declared.state.LabelState.TheVariants.{Free, Owned, Resting}
use Rattle.tunnel_bindings.specs.declared.state.Rest.{Rest}

-- whether the rest is over
abbrev pub is_past : ℕ → Rest → Bool
is_past now rest = nat_le rest.until now

-- 1 where number n is in this state, rests, and passes
abbrev pub weight : (Rest → Bool) → ℕ → LabelState → ℕ
weight p n Free = 0
weight p n Owned = 0
weight p n (Resting until) = if p (record { number = n; until = until }) then 1 else 0

-- how many numbers rest and pass, where the states begin with that of number n
abbrev pub tally : (Rest → Bool) → ℕ → List LabelState → ℕ
tally p n [] = 0
tally p n (state ∷ states) = weight p n state + tally p (suc n) states

-- each number that rests stands in the list once with its moment, and nothing else does: every test passes as often there
abbrev pub AreResting : List LabelState → List Rest → Type 0
AreResting states rests = (p : Rest → Bool) → count_by p rests ≡ tally p 0 states

-- what is true of the fields of a label space
pub record IsSpace (life : ℕ) (states : List LabelState) (rests : List Rest) (capacity : ℕ) : Type 0 where
  pub short : life ≤ 1000
  pub few : length states ≤ 65536
  pub room : length states ≤ capacity
  pub listed : AreResting states rests

-- the numbers after a pass over the list
abbrev pub freed : ℕ → List Rest → List LabelState → List LabelState
freed now [] states = states
freed now (rest ∷ rests) states = freed now rests (if is_past now rest then slice_set states rest.number Free else states)

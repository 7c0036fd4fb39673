-- What was read of a source, and what that says of what it had left.
use Rattle.std.specs.Prelude.{◌≡◌, ℕ, ◌+◌, ◌≤◌, List, length, drop, Option, None, Some, ⊤}
use Rattle.std.specs.Io.KnownBytes.{Consumes, IsAtEnd}

-- The octets were taken from the front: to the end, or one more than the limit.
pub record IsReadUpTo (limit : ℕ) (old new : Option (List ℕ)) (octets : List ℕ) : Type 0 where
  pub taken : Consumes old new octets
  pub whole : length octets ≤ limit → IsAtEnd new
  pub within : length octets ≤ limit + 1

-- The input is what the source had left, where it said that.
abbrev pub IsInput : Option (List ℕ) → List ℕ → Type 0
IsInput None input = ⊤
IsInput (Some left) input = left ≡ input

-- A source that says what is left has given all of it, or 16,777,217 octets of it.
abbrev pub Taken : Option (List ℕ) → Option (List ℕ) → Type 0
Taken None new = ⊤
Taken (Some left) None = ⊤
Taken (Some left) (Some rest) = rest ≡ drop 16777217 left

-- Hexadecimal text, read octet by octet: the octets of the pairs of digits so far, and the value of a digit that waits for
-- the second one of its pair.
use Rattle.std.specs.Prelude.{◌≡◌, ℕ, ◌+◌, ◌*◌, List, [], ◌∷◌, ◌++◌, Option, Some, None, Ok}
use Rattle.std.specs.List.{AllPass, filter}
use Rattle.hex.specs.Hex.{decode_of, hex_digit_value, is_hex_digit}
use Rattle.decode_text.specs.HexText.{is_digit_or_white}

-- a digit of that value was taken: it waits, or is the second one of a pair
abbrev pub TakesDigit : List ℕ → Option ℕ → ℕ → List ℕ → Option ℕ → Type 0
TakesDigit old None value new waiting = (new ≡ old) × (waiting ≡ Some value)
TakesDigit old (Some high) value new waiting = (new ≡ old ++ (high * 16 + value) ∷ []) × (waiting ≡ None)

-- the digits after the pairs that were read: none, or one of that value
abbrev pub Waits : Option ℕ → List ℕ → Type 0
Waits None digits = digits ≡ []
Waits (Some value) digits = (digit : ℕ) × (hex_digit_value digit ≡ Some value) × (digits ≡ digit ∷ [])

-- The front of a text was read: it has digits and white space alone, and its digits are those of the octets, with the one
-- that waits after them.
pub record ReadsFront (front octets : List ℕ) (high : Option ℕ) : Type 0 where
  pub clean : AllPass is_digit_or_white front
  pub pairs : List ℕ
  pub last : List ℕ
  pub digits : filter is_hex_digit front ≡ pairs ++ last
  pub decoded : decode_of pairs ≡ Ok octets
  pub waits : Waits high last

-- Numbers in text, and the cut of a text in two.
use Rattle.std.specs.Prelude.{ℕ, ◌+◌, ◌-◌, ◌*◌, ◌==◌, ◌&&◌, not, nat_le, Bool, false, List, []}
use Rattle.std.specs.Prelude.{◌∷◌, length, take, drop, position, Option, None, Some, if◌then◌else◌}
use Rattle.std.specs.Borrow.{Bor}
use Rattle.std.specs.List.{list_all}
use Rattle.std.specs.Char.{is_ascii_digit}

infixl 10 ◌>>?◌
-- the value goes on, where there is one
abbrev pub ◌>>?◌ : {A B : Type 0} → Option A → (A → Option B) → Option B
None >>? next = None
(Some x) >>? next = next x

-- the value, where it passes the test
abbrev pub only_if : {A : Type 0} → Bool → A → Option A
only_if passes x = if passes then Some x else None

-- the number that digits write after a front that writes n
abbrev pub value_after : ℕ → List ℕ → ℕ
value_after n [] = n
value_after n (digit ∷ digits) = value_after (10 * n + (digit - 48)) digits

-- 1 to 10 decimal digits, of which the first is 0 only where it is the only one
unfoldable pub is_number : List ℕ → Bool
is_number [] = false
is_number (digit ∷ []) = list_all is_ascii_digit (digit ∷ [])
is_number (digit ∷ next ∷ digits) =
    not (digit == 48)
    && nat_le (length (digit ∷ next ∷ digits)) 10
    && list_all is_ascii_digit (digit ∷ next ∷ digits)

-- the number that a text writes in decimal, in at most 10 digits
abbrev pub number_of : List ℕ → Option ℕ
number_of text = only_if (is_number text) (value_after 0 text)

-- the text before the first mark, and the text after it
abbrev pub cut_of : ℕ → List ℕ → Option (List ℕ × List ℕ)
cut_of mark text = elim (position (λ octet. octet == mark) text) [
  | None ↦ None
  | Some place ↦ Some (take place text, drop (place + 1) text)
]

-- two texts that are lent
abbrev pub cut_texts : Bor (List ℕ) × Bor (List ℕ) → List ℕ × List ℕ
cut_texts cut = (cut.0.now, cut.1.now)

-- A number in text is what `decimal` writes.
use Rattle.std.proofs.Common.{◌≡◌, ℕ, ◌^◌, ◌<◌, ◌≤◌, Bool, List, [], ◌∷◌, length, true, false, refl, sym, ap, subst, ◌∙◌, rules, arith, get_or, Some}
use Rattle.std.specs.Prelude.{decimal, ◌&&◌, ◌==◌, not, nat_le}
use Rattle.std.specs.List.{list_all}
use Rattle.std.specs.Char.{is_ascii_digit}
use Rattle.std.proofs.lemmas.Bool.{leb-true, le-leb}
use Rattle.std.proofs.lemmas.Str.Parse.{IsNumeralModel, numerals_by_fold, digits_value_short}
use Rattle.std.proofs.lemmas.Fmt.{decimal-digits_value, digits_decimal, digits_value-decimal, decimal_nonempty, length-decimal-le, length-decimal-le_succ, first_decimal}
use Rattle.mv_base.specs.Number.{value_after, is_number, number_of, only_if}

-- The digits and their value, in std's terms.
pub own : IsNumeralModel (λ ds. list_all is_ascii_digit ds ≡ true) (value_after 0)
own = numerals_by_fold _ (search rules) value_after (search rules)

and_first : (a b : Bool) → (a && b) ≡ true → a ≡ true
and_first true b h = refl
and_first false b h = absurd cc

and_second : (a b : Bool) → (a && b) ≡ true → b ≡ true
and_second true b h = h
and_second false b h = absurd cc

not_zero : (digit : ℕ) → not (digit == 48) ≡ true → digit ≡ 48 → (n : ℕ) → n ≡ 1
not_zero digit h e n = absurd (search (rules, h, e))

-- What is read as a number is what is written of it.
pub number_written : (text : List ℕ) → is_number text ≡ true → text ≡ decimal (value_after 0 text)
unfolding is_number
number_written [] h = absurd cc
number_written (digit ∷ []) h =
    sym (decimal-digits_value own (digit ∷ []) h (omega arith) (λ _. refl) (omega (arith, digits_value_short own (digit ∷ []) 1 h (omega arith))))
number_written (digit ∷ next ∷ digits) h =
    let bounded = and_first (not (digit == 48) && nat_le (length (digit ∷ next ∷ digits)) 10) (list_all is_ascii_digit (digit ∷ next ∷ digits)) h in
    let all = and_second (not (digit == 48) && nat_le (length (digit ∷ next ∷ digits)) 10) (list_all is_ascii_digit (digit ∷ next ∷ digits)) h in
    let few : length (digit ∷ next ∷ digits) ≤ 10 =
    leb-true _ _ (and_second (not (digit == 48)) (nat_le (length (digit ∷ next ∷ digits)) 10) bounded) in
    sym (decimal-digits_value own (digit ∷ next ∷ digits) all (omega arith)
    (λ e. not_zero digit (and_first (not (digit == 48)) (nat_le (length (digit ∷ next ∷ digits)) 10) bounded) e _)
    (omega (arith, digits_value_short own (digit ∷ next ∷ digits) 10 all few)))

-- A text that is read as a number has at most 10 digits.
pub number_short : (text : List ℕ) → is_number text ≡ true → length text ≤ 10
unfolding is_number
number_short [] h = omega arith
number_short (digit ∷ []) h = omega arith
number_short (digit ∷ next ∷ digits) h =
    leb-true _ _ (and_second (not (digit == 48)) (nat_le (length (digit ∷ next ∷ digits)) 10)
    (and_first (not (digit == 48) && nat_le (length (digit ∷ next ∷ digits)) 10) (list_all is_ascii_digit (digit ∷ next ∷ digits)) h))

all_of : (a b c : Bool) → a ≡ true → b ≡ true → c ≡ true → (a && b && c) ≡ true
all_of a b c f g h = rw (f, g, h) refl

not_equal : (digit : ℕ) → 48 < digit → not (digit == 48) ≡ true
not_equal digit h = grind (arith, h)

digits_of_written : (text : List ℕ) (n : ℕ) → n < 2 ^ 64 → text ≡ decimal n → list_all is_ascii_digit text ≡ true
digits_of_written text n small e = subst (λ (l : List ℕ). list_all is_ascii_digit l ≡ true) (sym e) (digits_decimal own n small)

first_of_written : (text : List ℕ) (n : ℕ) → 0 < n → n < 2 ^ 64 → text ≡ decimal n → 48 < get_or text 0 0
first_of_written text n positive small e = subst (λ (l : List ℕ). 48 < get_or l 0 0) (sym e) (first_decimal n positive small)

-- What is written of a number is read as a number.
pub written_number : (text : List ℕ) (n : ℕ) → n < 10 ^ 10 → text ≡ decimal n → is_number text ≡ true
unfolding is_number
written_number [] n small e = absurd (omega (arith, decimal_nonempty n (omega arith), ap length e))
written_number (digit ∷ []) n small e = digits_of_written _ n (omega arith) e
written_number (digit ∷ next ∷ digits) n small e =
    let long : 0 < n = omega (arith, length-decimal-le_succ n (omega arith), ap length e) in
    let first : 48 < get_or (digit ∷ next ∷ digits) 0 0 = first_of_written _ n long (omega arith) e in
    let few : length (digit ∷ next ∷ digits) ≤ 10 = omega (arith, ap length e, length-decimal-le 10 n (omega arith) small (omega arith)) in
    all_of (not (digit == 48)) (nat_le (length (digit ∷ next ∷ digits)) 10) (list_all is_ascii_digit (digit ∷ next ∷ digits)) (not_equal digit first)
    (le-leb _ _ few) (digits_of_written _ n (omega arith) e)

if_so : {A : Type 0} (b : Bool) (x y : A) → b ≡ true → x ≡ y → only_if b x ≡ Some y
if_so b x y h e = rw (h, e) refl

-- What is written of a number is read as that number.
pub number_only : (text : List ℕ) (n : ℕ) → n < 10 ^ 10 → text ≡ decimal n → number_of text ≡ Some n
number_only text n small e =
    if_so (is_number text) _ _ (written_number text n small e) (ap (value_after 0) e ∙ digits_value-decimal own n (omega arith))

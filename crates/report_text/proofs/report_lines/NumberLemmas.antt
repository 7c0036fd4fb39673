-- Numbers in text: what `parse` gives of digits, and that what is written of a number is read as that number.
use Rattle.std.proofs.Common.{◌≡◌, ℕ, ◌^◌, ◌<◌, Bool, true, false, ◌&&◌, List, [], ◌∷◌, length, get_or, refl, sym, ap, subst, ◌∙◌, rules, arith, Option, Some, None}
use Rattle.std.specs.Prelude.{decimal, nat_lt, Result, Ok, Err, ◌≢◌}
use Rattle.std.specs.Result.{result_ok}
use Rattle.std.specs.List.{list_all}
use Rattle.std.specs.Char.{is_ascii_digit}
use Rattle.std.specs.Str.{IsUtf8}
use Rattle.std.specs.Str.Parse.{AllDigits, IsNumeral, digits_value, without_leading_plus, ParsesUnsigned}
use Rattle.std.proofs.lemmas.Bool.{lt-ltb, ltb-true, le-leb}
use Rattle.std.proofs.lemmas.Str.{IsUtf8-from_ascii}
use Rattle.std.proofs.lemmas.Str.Parse.{IsNumeralModel, numerals_by_value, without_leading_plus_none, digit_from_value}
use Rattle.std.proofs.lemmas.Fmt.{decimal_is_IsNumeral, IsAscii-from_digits}
use Rattle.mv_base.specs.Number.{only_if, ◌>>?◌}
use Rattle.report_text.specs.report_lines.Fields.{number_of, short_number_of, ttl_of}

numerals : IsNumeralModel (λ ds. list_all is_ascii_digit ds ≡ true) (digits_value 10)
numerals = numerals_by_value _ (search rules)

-- A chain of reads goes on with the value.
pub goes : {A B : Type 0} (f : A → Option B) {o : Option A} {x : A} {r : Option B} → o ≡ Some x → f x ≡ r → (o >>? f) ≡ r
goes f e h = rw e h

fits : (text : List ℕ) → list_all is_ascii_digit text ≡ true → 0 < length text → digits_value 10 text < 2 ^ 64
    → number_of text ≡ Some (digits_value 10 text)
unfolding number_of
fits text digits some small = rw (digits, lt-ltb 0 (length text) some, lt-ltb (digits_value 10 text) (2 ^ 64) small) refl

pub both_parts : (a b : Bool) → (a && b) ≡ true → (a ≡ true) × (b ≡ true)
both_parts true b h = (refl, h)
both_parts false b h = absurd cc

no_fit : (text : List ℕ) (passes : Bool) → (nat_lt 0 (length text) && nat_lt (digits_value 10 text) (2 ^ 64)) ≡ passes
    → ((0 < length text) → digits_value 10 text < 2 ^ 64 → ⊥) → only_if passes (digits_value 10 text) ≡ None
no_fit text true e misses = let p = both_parts _ _ e in absurd (misses (ltb-true _ _ p.0) (ltb-true _ _ p.1))
no_fit text false e misses = refl

unfit : (text : List ℕ) → list_all is_ascii_digit text ≡ true → ((0 < length text) → digits_value 10 text < 2 ^ 64 → ⊥) → number_of text ≡ None
unfolding number_of
unfit text digits misses = rw digits (no_fit text _ refl misses)

first_is_no_plus : (text : List ℕ) → AllDigits 10 text → get_or text 0 0 ≢ 43
first_is_no_plus [] d e = omega arith
first_is_no_plus (c ∷ cs) d e = omega (arith, digit_from_value c d.0)

no_plus : (text : List ℕ) → list_all is_ascii_digit text ≡ true → without_leading_plus text ≡ text
no_plus text digits = without_leading_plus_none text (first_is_no_plus text (numerals.to text digits))

-- What `parse` gives of digits.
pub parsed : {E : Type 0} (text : List ℕ) (r : Result ℕ E) → list_all is_ascii_digit text ≡ true → ParsesUnsigned 64 10 text r
    → result_ok r ≡ number_of text
parsed text (Ok x) digits h =
    let e = no_plus text digits in
    let some : 0 < length text = subst (λ (l : List ℕ). 0 < length l) e h.0.0.0 in
    let small : digits_value 10 text < 2 ^ 64 = subst (λ (l : List ℕ). digits_value 10 l < 2 ^ 64) e h.0.1 in
    ap Some (h.1 ∙ ap (digits_value 10) e) ∙ sym (fits text digits some small)
parsed text (Err error) digits h =
    let e = sym (no_plus text digits) in
    sym (unfit text digits (λ some small. h (subst (λ (l : List ℕ). IsNumeral 10 l × (digits_value 10 l < 2 ^ 64)) e
    ((some, numerals.to text digits), small))))

-- Digits are a text.
pub digits_are_text : (text : List ℕ) → list_all is_ascii_digit text ≡ true → IsUtf8 text
digits_are_text text digits = IsUtf8-from_ascii text (IsAscii-from_digits text (numerals.to text digits))

-- What is written of a number is read as that number.
pub number_back : (n : ℕ) → n < 2 ^ 64 → number_of (decimal n) ≡ Some n
number_back n small =
    let k = decimal_is_IsNumeral n small in
    fits (decimal n) (numerals.from (decimal n) k.0.1) k.0.0 (omega (arith, k.1, small)) ∙ ap Some k.1

pub short_back : (n : ℕ) → n < 2 ^ 32 → short_number_of (decimal n) ≡ Some n
unfolding short_number_of
short_back n small = goes _ (number_back n (omega arith)) (rw (le-leb n 4294967295 (omega arith)) refl)

pub ttl_back : (n : ℕ) → n < 2 ^ 8 → ttl_of (decimal n) ≡ Some n
unfolding ttl_of
ttl_back n small = goes _ (number_back n (omega arith)) (rw (le-leb n 255 (omega arith)) refl)

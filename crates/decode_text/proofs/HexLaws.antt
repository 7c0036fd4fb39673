-- What a text in hexadecimal writes, and its first fault.
use Rattle.std.proofs.Common.{◌≡◌, ℕ, zero, suc, ◌+◌, ◌*◌, ◌/◌, ◌%◌, ◌<◌, ◌≤◌, ◌==◌, Bool, true, false, not, cond, ltb, ◌&&◌, ◌||◌, ◌⊎◌, inl, inr, List, [], ◌∷◌, ◌++◌, length, take, slice_index, Option, Some, None, unwrap_or, is_some, Result, Ok, Err, refl, sym, ap, subst, ◌∙◌, arith}
use Rattle.std.specs.Prelude.{◌↔◌}
use Rattle.std.specs.List.{AllPass, filter, count_by, position, position_or_len}
use Rattle.std.specs.Char.{to_ascii_lowercase}
use Rattle.std.specs.Str.{str_to_ascii_lowercase}
use Rattle.std.proofs.Math.Seq.{take-append_seam}
use Rattle.std.proofs.lemmas.Bool.{and_parts, cases_eq, cases_lt, eqb-true, le-ltb, lt-ltb}
use Rattle.std.proofs.lemmas.List.{append-nil, length-append}
use Rattle.std.proofs.lemmas.List.Elements.{All-cons, All-head, All-nil, All-tail, filter_passes}
use Rattle.std.proofs.lemmas.List.Sums.{length-filter}
use Rattle.hex.specs.Hex.{decode_of, decode_pairs, encode_lower, encode_with, hex_digit_value, is_hex_digit, lower_digits, pair_value}
use Rattle.hex.proofs.HexLemmas.{decode_of-encode_lower, decode_of-even, decode_of-odd, decode_of-ok}
use Rattle.hex.proofs.Pairs.{cons_byte, decode_pairs-ok_pair}
use Rattle.hex.specs.declared.error.FromHexError.{FromHexError}
use Rattle.mv_base.specs.Octets.{IsOctets}
use Rattle.mv_base.proofs.Fields.{ok_is, ok_or_err, err_is}
use Rattle.line_words.specs.declared.fault.TextFault.{TextFault}
use Rattle.line_words.specs.declared.fault.Reason.TheVariants as reasons
use Rattle.decode_text.specs.HexText.{is_digit_or_white, is_other, fault_after, octets_of, octets_of_digits}
use Rattle.decode_text.specs.HexLaws.{IsHexText, Writes, FirstFault}

-- ---- digits

-- the digit of a digit's value, in the table of lower case, is the digit in lower case
abbrev turns_back : ℕ → Bool
turns_back c = not (is_hex_digit c) || (slice_index lower_digits (unwrap_or (hex_digit_value c) 0) == to_ascii_lowercase c)

abbrev all_turn_back : ℕ → Bool
all_turn_back zero = true
all_turn_back (suc n) = turns_back n && all_turn_back n

turns_back_at : (n k : ℕ) → all_turn_back n ≡ true → k < n → turns_back k ≡ true
turns_back_at zero k h lt = absurd (omega arith)
turns_back_at (suc n) k h lt =
    let parts = and_parts (turns_back n) (all_turn_back n) h in
    elim (cases_lt k n) [
      | inl below ↦ turns_back_at n k parts.1 below
      | inr top ↦
          let e : k ≡ n = omega arith in
          rw e parts.0
    ]

pub digit_bounds : (c v : ℕ) → hex_digit_value c ≡ Some v → (c < 103) × (v < 16)
digit_bounds c v h = (grind arith, grind arith)

lower_digit : (c v : ℕ) → hex_digit_value c ≡ Some v → slice_index lower_digits v ≡ to_ascii_lowercase c
lower_digit c v h =
    let back : turns_back c ≡ true = turns_back_at 103 c refl (digit_bounds c v h).0 in
    let P : Option ℕ → Type 0 = λ o. (not (is_some o) || (slice_index lower_digits (unwrap_or o 0) == to_ascii_lowercase c)) ≡ true in
    eqb-true (slice_index lower_digits v) (to_ascii_lowercase c) (subst P h back)

value_of : (o : Option ℕ) → is_some o ≡ true → (v : ℕ) × (o ≡ Some v)
value_of (Some v) h = (v, refl)
value_of None h = absurd cc

pub pair_is : (a b i v w : ℕ) → hex_digit_value a ≡ Some v → hex_digit_value b ≡ Some w → pair_value a b i ≡ Ok (v * 16 + w)
pair_is a b i v w h k = rw (h, k) refl

two_and_rest : (a b c d : ℕ) (xs ys : List ℕ) → a ≡ c → b ≡ d → xs ≡ ys → a ∷ b ∷ xs ≡ c ∷ d ∷ ys
two_and_rest a b c d xs ys e f g = cc

pairs_written : (i : ℕ) (s : List ℕ) → length s % 2 ≡ 0 → AllPass is_hex_digit s
    → (octets : List ℕ) × (decode_pairs i s ≡ Ok octets) × (str_to_ascii_lowercase s ≡ encode_lower octets)
unfolding decode_pairs encode_with
pairs_written i [] even h = ([], refl, refl)
pairs_written i (a ∷ []) even h = absurd (omega arith)
pairs_written i (a ∷ b ∷ rest) even h =
    let digit : ℕ → Type 0 = λ c. is_hex_digit c ≡ true in
    let tail = All-tail digit a (b ∷ rest) h in
    let x = value_of (hex_digit_value a) (All-head digit a (b ∷ rest) h) in
    let y = value_of (hex_digit_value b) (All-head digit b rest tail) in
    let more = pairs_written (i + 2) rest (omega arith) (All-tail digit b rest tail) in
    let octet = x.0 * 16 + y.0 in
    let pair : pair_value a b i ≡ Ok octet = pair_is a b i x.0 y.0 x.1 y.1 in
    let low_fits = (digit_bounds b y.0 y.1).1 in
    let high : octet / 16 ≡ x.0 = omega arith in
    let low : octet % 16 ≡ y.0 = omega arith in
    let first : to_ascii_lowercase a ≡ slice_index lower_digits (octet / 16) =
    sym (ap (λ (n : ℕ). slice_index lower_digits n) high ∙ lower_digit a x.0 x.1) in
    let second : to_ascii_lowercase b ≡ slice_index lower_digits (octet % 16) =
    sym (ap (λ (n : ℕ). slice_index lower_digits n) low ∙ lower_digit b y.0 y.1) in
    let text : str_to_ascii_lowercase (a ∷ b ∷ rest) ≡ encode_lower (octet ∷ more.0) =
    two_and_rest (to_ascii_lowercase a) (to_ascii_lowercase b) (slice_index lower_digits (octet / 16)) (slice_index lower_digits (octet % 16))
    (str_to_ascii_lowercase rest) (encode_lower more.0) first second more.2 in
    (octet ∷ more.0, decode_pairs-ok_pair i a b octet rest pair ∙ ap (cons_byte octet) more.1, text)

-- An even number of digits are those of octets.
digits_written : (s : List ℕ) → length s % 2 ≡ 0 → AllPass is_hex_digit s
    → (octets : List ℕ) × (decode_of s ≡ Ok octets) × IsOctets octets × (str_to_ascii_lowercase s ≡ encode_lower octets)
digits_written s even h =
    let w = pairs_written 0 s even h in
    let d : decode_of s ≡ Ok w.0 = decode_of-even s even ∙ w.1 in
    (w.0, d, (decode_of-ok s w.0 d).3, w.2)

-- Octets with the same digits are the same.
same_octets : (a b : List ℕ) → IsOctets a → IsOctets b → encode_lower a ≡ encode_lower b → a ≡ b
same_octets a b fits_a fits_b same =
    ok_is a b (sym (decode_of-encode_lower a fits_a) ∙ ap (λ (s : List ℕ). decode_of s) same ∙ decode_of-encode_lower b fits_b)

-- ---- texts

-- what is told where the first octet that is neither a digit nor white space was looked for
abbrev pub told : List ℕ → Option ℕ → Result (List ℕ) TextFault
told text found = elim found [ Some place ↦ Err (fault_after (take place text) reasons.Hex) | None ↦ octets_of_digits text ]

abbrev pub told_digits : List ℕ → Result (List ℕ) FromHexError → Result (List ℕ) TextFault
told_digits text decoded = elim decoded [ Ok octets ↦ Ok octets | Err other ↦ Err (fault_after text reasons.Hex) ]

abbrev long_fault : TextFault
long_fault = record { line = 1; column = 1; reason = reasons.Long }

pub short_text : (text : List ℕ) → length text ≤ 16777216 → octets_of text ≡ told text (position is_other text)
short_text text h = ap (λ (long : Bool). cond long (Err long_fault) (told text (position is_other text))) (le-ltb 16777216 (length text) h)

long_text : (text : List ℕ) → 16777216 < length text → octets_of text ≡ Err long_fault
long_text text h = ap (λ (long : Bool). cond long (Err long_fault) (told text (position is_other text))) (lt-ltb 16777216 (length text) h)

passed : (front more : List ℕ) → AllPass is_digit_or_white front
    → position_or_len is_other (front ++ more) ≡ length front + position_or_len is_other more
passed [] more h = omega arith
passed (b ∷ front) more h =
    let kept : ℕ → Type 0 = λ c. is_digit_or_white c ≡ true in
    let head : not (is_other b) ≡ true = ap (λ (t : Bool). not (not t)) (All-head kept b front h) in
    let rest = passed front more (All-tail kept b front h) in
    ap (λ (t : Bool). cond t (1 + position_or_len is_other (front ++ more)) 0) head ∙ omega (arith, rest)

place_within : (place len n : ℕ) → n ≡ place → place < len → cond (ltb n len) (Some n) None ≡ Some place
place_within place len n e h = grind arith

place_none : (len n : ℕ) → n ≡ len → cond (ltb n len) (Some n) None ≡ None
place_none len n e = grind arith

pub none_other : (text : List ℕ) → AllPass is_digit_or_white text → position is_other text ≡ None
none_other text h =
    let all : position_or_len is_other text ≡ length text =
    ap (λ (xs : List ℕ). position_or_len is_other xs) (sym (append-nil text)) ∙ passed text [] h ∙ omega arith in
    place_none (length text) (position_or_len is_other text) all

first_other : (front : List ℕ) (b : ℕ) (rest : List ℕ) → AllPass is_digit_or_white front → is_digit_or_white b ≡ false
    → position is_other (front ++ (b ∷ rest)) ≡ Some (length front)
first_other front b rest h not_b =
    let stops : position_or_len is_other (b ∷ rest) ≡ 0 = ap (λ (t : Bool). cond (not (not t)) (1 + position_or_len is_other rest) 0) not_b in
    let all : position_or_len is_other (front ++ (b ∷ rest)) ≡ length front = passed front (b ∷ rest) h ∙ omega (arith, stops) in
    place_within (length front) (length (front ++ (b ∷ rest))) (position_or_len is_other (front ++ (b ∷ rest))) all
    (omega (arith, length-append front (b ∷ rest)))

even_digits : (text : List ℕ) → count_by is_hex_digit text % 2 ≡ 0 → length (filter is_hex_digit text) % 2 ≡ 0
even_digits text even = omega (arith, length-filter is_hex_digit text)

-- A text of an even number of digits writes octets.
pub even_text : (text : List ℕ) → IsHexText text → (octets : List ℕ) × Writes text octets
even_text text is =
    let w = digits_written (filter is_hex_digit text) (even_digits text is.even) (filter_passes is_hex_digit text) in
    (w.0, record { is = is; fits = w.2; digits = w.3 })

-- What is written is told.
written_told : (text octets : List ℕ) → Writes text octets → octets_of text ≡ Ok octets
written_told text octets writes =
    let w = digits_written (filter is_hex_digit text) (even_digits text writes.is.even) (filter_passes is_hex_digit text) in
    let same : w.0 ≡ octets = same_octets w.0 octets w.2 writes.fits (sym w.3 ∙ writes.digits) in
    short_text text writes.is.short ∙ ap (told text) (none_other text writes.is.clean) ∙ ap (told_digits text) w.1 ∙ ap (λ (xs : List ℕ). Ok xs) same

-- The first fault is told.
pub fault_told : (text : List ℕ) (fault : TextFault) → FirstFault text fault → octets_of text ≡ Err fault
fault_told text fault (FirstFault.long long is) = long_text text long ∙ ap (λ (f : TextFault). Err f) (sym is)
fault_told text fault (FirstFault.other front b rest short parts clean not_b is) =
    let found : position is_other text ≡ Some (length front) =
    ap (λ (xs : List ℕ). position is_other xs) parts ∙ first_other front b rest clean not_b in
    let before : take (length front) text ≡ front = ap (λ (xs : List ℕ). take (length front) xs) parts ∙ take-append_seam front (b ∷ rest) in
    short_text text short ∙ ap (told text) found ∙ ap (λ (xs : List ℕ). Err (fault_after xs reasons.Hex)) before
    ∙ ap (λ (f : TextFault). Err f) (sym is)
fault_told text fault (FirstFault.odd short clean odd is) =
    let odd_digits : length (filter is_hex_digit text) % 2 ≡ 1 = omega (arith, length-filter is_hex_digit text) in
    short_text text short ∙ ap (told text) (none_other text clean) ∙ ap (told_digits text) (decode_of-odd (filter is_hex_digit text) odd_digits)
    ∙ ap (λ (f : TextFault). Err f) (sym is)

two_cases : (t : Bool) → (t ≡ true) ⊎ (t ≡ false)
two_cases true = inl refl
two_cases false = inr refl

abbrev HasOther : List ℕ → Type 0
HasOther text =
    (front : List ℕ) × (b : ℕ) × (rest : List ℕ) × (text ≡ front ++ (b ∷ rest)) × AllPass is_digit_or_white front × (is_digit_or_white b ≡ false)

clean_or_not : (text : List ℕ) → AllPass is_digit_or_white text ⊎ HasOther text
clean_or_not [] = inl (All-nil (λ c. is_digit_or_white c ≡ true))
clean_or_not (b ∷ rest) =
    let kept : ℕ → Type 0 = λ c. is_digit_or_white c ≡ true in
    elim (two_cases (is_digit_or_white b)) [
      | inr not_b ↦ inr ([], b, rest, refl, All-nil kept, not_b)
      | inl is ↦
          elim (clean_or_not rest) [
            | inl clean ↦ inl (All-cons kept b rest is clean)
            | inr more ↦ inr (b ∷ more.0, more.1, more.2, ap (λ (xs : List ℕ). b ∷ xs) more.3, All-cons kept b more.0 is more.4, more.5)
          ]
    ]

abbrev Answered : List ℕ → Type 0
Answered text = ((octets : List ℕ) × Writes text octets) ⊎ ((fault : TextFault) × FirstFault text fault)

clean_text : (text : List ℕ) → length text ≤ 16777216 → AllPass is_digit_or_white text → Answered text
clean_text text short clean =
    elim (cases_eq (count_by is_hex_digit text % 2) 1) [
      | inl odd ↦ inr (fault_after text reasons.Hex, FirstFault.odd short clean odd refl)
      | inr even ↦ inl (even_text text (record { short = short; clean = clean; even = omega arith }))
    ]

-- A text writes octets, or has a fault.
answered : (text : List ℕ) → Answered text
answered text =
    elim (cases_lt 16777216 (length text)) [
      | inl long ↦ inr (long_fault, FirstFault.long long refl)
      | inr short ↦
          elim (clean_or_not text) [
            | inl clean ↦ clean_text text short clean
            | inr o ↦ inr (fault_after o.0 reasons.Hex, FirstFault.other o.0 o.1 o.2 short o.3 o.4 o.5 refl)
          ]
    ]

pub octets_exact : (text octets : List ℕ) → octets_of text ≡ Ok octets ↔ Writes text octets
octets_exact text octets = (
  λ h. elim (answered text) [
    | inl w ↦ subst (λ (xs : List ℕ). Writes text xs) (ok_is w.0 octets (sym (written_told text w.0 w.1) ∙ h)) w.1
    | inr f ↦ ok_or_err octets f.0 (sym h ∙ fault_told text f.0 f.1)
  ],
  written_told text octets,
)

pub fault_exact : (text : List ℕ) (fault : TextFault) → octets_of text ≡ Err fault ↔ FirstFault text fault
fault_exact text fault = (
  λ h. elim (answered text) [
    | inl w ↦ ok_or_err w.0 fault (sym (written_told text w.0 w.1) ∙ h)
    | inr f ↦ subst (λ (g : TextFault). FirstFault text g) (err_is f.0 fault (sym (fault_told text f.0 f.1) ∙ h)) f.1
  ],
  fault_told text fault,
)

-- The cut of a text in two.
use Rattle.std.proofs.Common.{◌≡◌, ℕ, ◌+◌, ◌<◌, ◌≤◌, suc, Bool, true, false, not, List, [], ◌∷◌, ◌++◌, length, take, drop, refl, sym, ap, ap₂, subst, ◌∙◌, arith, take-append-drop, drop-cons, drop_at, take_at, length-append, append_assoc}
use Rattle.std.specs.Prelude.{Option, None, Some, position, ◌==◌}
use Rattle.std.specs.List.{prefix_len, position_or_len}
use Rattle.std.specs.Char.{digit_value}
use Rattle.std.specs.Str.Parse.{AllDigits}
use Rattle.std.proofs.lemmas.Bool.{eqb-true, ne_eqb, lt-ltb}
use Rattle.std.proofs.lemmas.Option.{none-some, same_Some}
use Rattle.std.proofs.lemmas.List.Quantifiers.{position-Some}
use Rattle.mv_base.specs.Number.{cut_of, ◌>>?◌, only_if}

-- What a chain of reads went through, where it gave a value.
pub next_some : {A B P : Type 0} (next : A → Option B) (o : Option A) (y : B) → (o >>? next) ≡ Some y → ((x : A) → o ≡ Some x → next x ≡ Some y → P)
    → P
next_some next None y e k = absurd (none-some y e)
next_some next (Some x) y e k = k x refl e

-- A value that passed the test.
pub if_some : {A : Type 0} (passes : Bool) (x y : A) → only_if passes x ≡ Some y → (passes ≡ true) × (x ≡ y)
if_some true x y e = (refl, same_Some x y e)
if_some false x y e = absurd (none-some y e)

pub same_parts : {A B : Type 0} (a x : A) (b y : B) → ◌≡◌ {A = Option (A × B)} (Some (a, b)) (Some (x, y)) → (a ≡ x) × (b ≡ y)
same_parts a x b y e = let same = same_Some _ _ e in (ap (λ p. p.0) same, ap (λ p. p.1) same)

cut_place : (mark : ℕ) (text front rest : List ℕ) (place : ℕ) → position (λ octet. octet == mark) text ≡ Some place
    → (take place text ≡ front) × (drop (place + 1) text ≡ rest) → text ≡ front ++ mark ∷ rest
cut_place mark text front rest place found same =
    let at = position-Some (λ octet. octet == mark) text place 0 found in
    let one : place + 1 ≡ suc place = omega arith in
    let there : drop place text ≡ mark ∷ drop (place + 1) text =
    subst (λ (m : ℕ). drop place text ≡ m ∷ drop (place + 1) text) (eqb-true _ _ at.1) (rw one (drop-cons text place 0 at.0)) in
    rw (← same.0, ← same.1, ← there) (sym (take-append-drop place text))

cut_found : (mark : ℕ) (text front rest : List ℕ) (o : Option ℕ) → position (λ octet. octet == mark) text ≡ o
    → ◌≡◌ {A = Option (List ℕ × List ℕ)} (elim o [ None ↦ None | Some place ↦ Some (take place text, drop (place + 1) text) ]) (Some (front, rest))
    → text ≡ front ++ mark ∷ rest
cut_found mark text front rest None found e = absurd (none-some _ e)
cut_found mark text front rest (Some place) found e = cut_place mark text front rest place found (same_parts _ _ _ _ e)

-- What was cut is the text before the mark, and the text after it.
pub cut_read : (mark : ℕ) (text front rest : List ℕ) → cut_of mark text ≡ Some (front, rest) → text ≡ front ++ mark ∷ rest
cut_read mark text front rest e = cut_found mark text front rest (position (λ octet. octet == mark) text) refl e

no_mark : (radix mark c : ℕ) → digit_value c < radix → radix ≤ digit_value mark → (c == mark) ≡ false
no_mark radix mark c below above = ne_eqb c mark (λ e. omega (arith, ap digit_value e))

digits_before : (radix mark : ℕ) (front rest : List ℕ) → AllDigits radix front → radix ≤ digit_value mark
    → prefix_len (λ octet. not (octet == mark)) (front ++ mark ∷ rest) ≡ length front
digits_before radix mark [] rest h above = grind arith
digits_before radix mark (c ∷ front) rest h above = rw (no_mark radix mark c h.0 above, digits_before radix mark front rest h.1 above) (omega arith)

place_after : (radix mark : ℕ) (front rest : List ℕ) → AllDigits radix front → radix ≤ digit_value mark
    → position (λ octet. octet == mark) (front ++ mark ∷ rest) ≡ Some (length front)
place_after radix mark front rest h above =
    let within : length front < length (front ++ mark ∷ rest) = rw length-append (omega arith) in
    rw (position, position_or_len, digits_before radix mark front rest h above, lt-ltb _ _ within) refl

cut_there : (mark : ℕ) (text : List ℕ) (place : ℕ) → position (λ octet. octet == mark) text ≡ Some place
    → cut_of mark text ≡ Some (take place text, drop (place + 1) text)
cut_there mark text place found = rw (cut_of, found) refl

-- Digits that a mark follows are cut at the mark.
pub cut_digits : (radix mark : ℕ) (front rest : List ℕ) → AllDigits radix front → radix ≤ digit_value mark
    → cut_of mark (front ++ mark ∷ rest) ≡ Some (front, rest)
cut_digits radix mark front rest h above =
    let thereafter : drop (length front + 1) (front ++ mark ∷ rest) ≡ rest =
    rw (← append_assoc front (mark ∷ []) rest) (drop_at (front ++ mark ∷ []) rest (length front + 1) (length-append front (mark ∷ []))) in
    let before : take (length front) (front ++ mark ∷ rest) ≡ front = take_at front (mark ∷ rest) (length front) refl in
    cut_there mark (front ++ mark ∷ rest) (length front) (place_after radix mark front rest h above)
    ∙ ap₂ (λ (a b : List ℕ). Some (a, b)) before thereafter

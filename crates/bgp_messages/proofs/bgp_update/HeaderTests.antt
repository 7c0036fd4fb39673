-- What the tests of a header tell.
use Rattle.std.proofs.Common.{◌≡◌, ◌≢◌, ℕ, zero, suc, ◌<◌, ◌≤◌, Bool, true, false, cond, ◌&&◌, leb, eqb, ◌⊎◌, inl, inr, List, [], ◌∷◌, length, replicate, refl, sym, ap, ◌∙◌, arith}
use Rattle.std.proofs.lemmas.Bool.{and_parts, leb-true, le-leb, eqb-true, eqb-false, cases_lt}
use Rattle.mv_base.proofs.Fields.{chosen}
use Rattle.bgp_messages.specs.bgp_update.Spelling.{marker}
use Rattle.bgp_messages.specs.bgp_update.Reading.{is_length, is_type, fits_type, is_marker}

pub is_not : (b : Bool) → ¬ (b ≡ true) → b ≡ false
is_not true h = absurd (h refl)
is_not false h = refl

both : (a b : Bool) → a ≡ true → b ≡ true → (a && b) ≡ true
both true true p q = refl
both true false p q = absurd cc
both false b p q = absurd cc

-- ---- the length

pub length_told : (len : ℕ) → is_length len ≡ true → (19 ≤ len) × (len ≤ 4096)
length_told len e = let p = and_parts (leb 19 len) (leb len 4096) e in (leb-true 19 len p.0, leb-true len 4096 p.1)

pub length_tells : (len : ℕ) → 19 ≤ len → len ≤ 4096 → is_length len ≡ true
length_tells len low high = both (leb 19 len) (leb len 4096) (le-leb 19 len low) (le-leb len 4096 high)

pub length_wrong : (len : ℕ) → is_length len ≡ false → (len < 19) ⊎ (4096 < len)
length_wrong len e =
    elim (cases_lt len 19) [
      | inl lt ↦ inl lt
      | inr low ↦ elim (cases_lt 4096 len) [
        | inl lt ↦ inr lt
        | inr high ↦ let clash : true ≡ false = sym (length_tells len low high) ∙ e in absurd cc
      ]
    ]

pub wrong_length_told : (len : ℕ) → (len < 19) ⊎ (4096 < len) → is_length len ≡ false
wrong_length_told len h =
    is_not (is_length len) (λ e. let t = length_told len e in elim h [ inl lt ↦ omega (arith, t.0, lt) | inr lt ↦ omega (arith, t.1, lt) ])

-- ---- the type

pub type_told : (kind : ℕ) → is_type kind ≡ true → (1 ≤ kind) × (kind ≤ 5)
type_told kind e = let p = and_parts (leb 1 kind) (leb kind 5) e in (leb-true 1 kind p.0, leb-true kind 5 p.1)

pub type_tells : (kind : ℕ) → 1 ≤ kind → kind ≤ 5 → is_type kind ≡ true
type_tells kind low high = both (leb 1 kind) (leb kind 5) (le-leb 1 kind low) (le-leb kind 5 high)

pub type_wrong : (kind : ℕ) → is_type kind ≡ false → (kind ≡ 0) ⊎ (5 < kind)
type_wrong kind e =
    elim (cases_lt kind 1) [
      | inl lt ↦ inl (omega (arith, lt))
      | inr low ↦ elim (cases_lt 5 kind) [
        | inl lt ↦ inr lt
        | inr high ↦ let clash : true ≡ false = sym (type_tells kind low high) ∙ e in absurd cc
      ]
    ]

pub wrong_type_told : (kind : ℕ) → (kind ≡ 0) ⊎ (5 < kind) → is_type kind ≡ false
wrong_type_told kind h =
    is_not (is_type kind) (λ e. let t = type_told kind e in elim h [ inl none ↦ omega (arith, t.0, none) | inr lt ↦ omega (arith, t.1, lt) ])

-- the types that are passed over
pub other_type : (kind : ℕ) → 1 ≤ kind → kind ≤ 5 → kind ≢ 2 → (kind ≡ 1) ⊎ ((kind ≡ 3) ⊎ ((kind ≡ 4) ⊎ (kind ≡ 5)))
other_type kind low high not_update =
    elim (cases_lt kind 2) [
      | inl lt ↦ inl (omega (arith, low, lt))
      | inr two ↦ elim (cases_lt kind 4) [
        | inl lt ↦ elim (cases_lt kind 3) [
          | inl lt' ↦ absurd (not_update (omega (arith, two, lt')))
          | inr three ↦
              inr (inl (omega (arith, lt, three)))
        ]
        | inr four ↦ elim (cases_lt kind 5) [
          | inl lt ↦ inr (inr (inl (omega (arith, four, lt))))
          | inr five ↦
              inr (inr (inr (omega (arith, five, high))))
        ]
      ]
    ]

-- ---- the length by the type

pub fits_told : (kind len : ℕ) → fits_type kind len ≡ true → (kind ≡ 2 → 23 ≤ len) × (kind ≡ 4 → len ≡ 19)
fits_told kind len e =
    elim (chosen (eqb kind 2) (leb 23 len) (cond (eqb kind 4) (eqb len 19) true) true e) [
      | inl a ↦ let update : kind ≡ 2 = eqb-true _ _ a.0 in (λ _. leb-true 23 len a.1, λ keepalive. absurd (omega (arith, update, keepalive)))
      | inr b ↦
          let other : kind ≢ 2 = eqb-false _ _ b.0 in
          elim (chosen (eqb kind 4) (eqb len 19) true true b.1) [
            | inl a ↦ (λ update. absurd (other update), λ _. eqb-true len 19 a.1)
            | inr d ↦ let unlike : kind ≢ 4 = eqb-false _ _ d.0 in (λ update. absurd (other update), λ keepalive. absurd (unlike keepalive))
          ]
    ]

pub fits_wrong : (kind len : ℕ) → fits_type kind len ≡ false → ((kind ≡ 2) × (len < 23)) ⊎ ((kind ≡ 4) × (len ≢ 19))
fits_wrong kind len e =
    elim (chosen (eqb kind 2) (leb 23 len) (cond (eqb kind 4) (eqb len 19) true) false e) [
      | inl a ↦ inl (eqb-true _ _ a.0, short len a.1)
      | inr b ↦ elim (chosen (eqb kind 4) (eqb len 19) true false b.1) [
        | inl a ↦ inr (eqb-true _ _ a.0, eqb-false len 19 a.1)
        | inr d ↦ let clash : true ≡ false = d.1 in absurd cc
      ]
    ]
  where
    short : (len : ℕ) → leb 23 len ≡ false → len < 23
    short len e = elim (cases_lt len 23) [ inl lt ↦ lt | inr le ↦ let clash : true ≡ false = sym (le-leb 23 len le) ∙ e in absurd cc ]

pub fits_tells : (kind len : ℕ) → (kind ≡ 2 → 23 ≤ len) → (kind ≡ 4 → len ≡ 19) → fits_type kind len ≡ true
fits_tells kind len update keepalive = by_value (fits_type kind len) refl
  where
    by_value : (b : Bool) → fits_type kind len ≡ b → fits_type kind len ≡ true
    by_value true e = e
    by_value false e = elim (fits_wrong kind len e) [
      | inl a ↦ let le : 23 ≤ len = update a.0 in absurd (omega (arith, a.1, le))
      | inr b ↦ absurd (b.1 (keepalive b.0))
    ]

pub wrong_fit_told : (kind len : ℕ) → ((kind ≡ 2) × (len < 23)) ⊎ ((kind ≡ 4) × (len ≢ 19)) → fits_type kind len ≡ false
wrong_fit_told kind len h =
    is_not (fits_type kind len) (λ e. let t = fits_told kind len e in
    elim h [ inl a ↦ let le : 23 ≤ len = t.0 a.0 in omega (arith, a.1, le) | inr b ↦ b.1 (t.1 b.0) ])

-- ---- the marker

all_are : (xs : List ℕ) → is_marker xs ≡ true → (n : ℕ) → length xs ≡ n → xs ≡ replicate n 255
all_are [] e zero len = refl
all_are [] e (suc n) len = absurd (omega arith)
all_are (x ∷ xs) e zero len = absurd (omega arith)
all_are (x ∷ xs) e (suc n) len =
    let p = and_parts (eqb x 255) (is_marker xs) e in
    let one : x ≡ 255 = eqb-true x 255 p.0 in
    ap (λ (y : ℕ). y ∷ xs) one ∙ ap (λ (ys : List ℕ). 255 ∷ ys) (all_are xs p.1 n (omega (arith, len)))

pub marker_told : (xs : List ℕ) → length xs ≡ 16 → is_marker xs ≡ true → xs ≡ marker
marker_told xs len e = all_are xs e 16 len

pub marker_tells : (xs : List ℕ) → xs ≡ marker → is_marker xs ≡ true
marker_tells xs e = ap is_marker e

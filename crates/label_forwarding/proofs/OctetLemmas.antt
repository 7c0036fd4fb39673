-- Fields of octets at their places.
use Rattle.std.proofs.Common.{◌≡◌, ℕ, ◌+◌, ◌^◌, ◌<◌, ◌≤◌, List, [], ◌∷◌, ◌++◌, length, get_or, take, drop, refl, sym, ap, ◌∙◌, arith}
use Rattle.std.specs.Int.{w16, to_be_bytes}
use Rattle.std.proofs.lemmas.List.{take_at, drop_at, take-append-drop, length-drop, length-take-le, get_or-drop, drop-drop}
use Rattle.std.proofs.Math.ListN.{get_or-append}
use Rattle.mv_base.specs.Octets.{IsOctets}
use Rattle.mv_base.proofs.Fields.{wide16, octets_before, octets_after}
use Rattle.label_forwarding.specs.Reading.{number_at, octets_in}

-- Equal texts, end to end, are equal.
pub joined : {a b c d : List ℕ} → a ≡ b → c ≡ d → a ++ c ≡ b ++ d
joined p q i = p i ++ q i

-- A text that stands at a place is what the octets there are, and after it stands the rest.
pub field_at : (n k m : ℕ) (octets x rest : List ℕ) → drop n octets ≡ x ++ rest → length x ≡ k → n + k ≡ m
    → (octets_in k n octets ≡ x) × (drop m octets ≡ rest)
field_at n k m octets x rest e len at = (
  ap (take k) e ∙ take_at x rest k len,
  ap (λ j. drop j octets) (sym at) ∙ (sym (drop-drop k n octets) ∙ (ap (drop k) e ∙ drop_at x rest k len)),
)

-- an octet of a text that stands at a place
pub octet_in : (n i m : ℕ) (octets x rest : List ℕ) → drop n octets ≡ x ++ rest → i < length x → n + i ≡ m → get_or octets m 0 ≡ get_or x i 0
octet_in n i m octets x rest e lt at =
    ap (λ j. get_or octets j 0) (sym at) ∙ (sym (get_or-drop n octets i 0) ∙ (ap (λ (xs : List ℕ). get_or xs i 0) e ∙ get_or-append x rest 0 i lt))

-- Octets from a place on are a field and what is after it.
pub cut : (n k m : ℕ) (octets : List ℕ) → n + k ≡ m → drop n octets ≡ octets_in k n octets ++ drop m octets
cut n k m octets at =
    sym (take-append-drop k (drop n octets)) ∙ ap (λ (xs : List ℕ). octets_in k n octets ++ xs) (drop-drop k n octets ∙ ap (λ j. drop j octets) at)

pub length_in : (k n : ℕ) (octets : List ℕ) → n + k ≤ length octets → length (octets_in k n octets) ≡ k
length_in k n octets le = length-take-le k (drop n octets) (omega (arith, length-drop n octets))

-- a number spells its two octets
pub number_back : (n : ℕ) (octets : List ℕ) → IsOctets octets → n + 2 ≤ length octets → to_be_bytes w16 (number_at n octets) ≡ octets_in 2 n octets
number_back n octets fits le =
    wide16.back (octets_in 2 n octets) (length_in 2 n octets le) (octets_before 2 (drop n octets) (octets_after n octets fits))

pub number_below : (n : ℕ) (octets : List ℕ) → IsOctets octets → number_at n octets < 2 ^ 16
number_below n octets fits = wide16.below (octets_in 2 n octets) (octets_before 2 (drop n octets) (octets_after n octets fits))

pub front_one : (octets : List ℕ) → 1 ≤ length octets → octets ≡ get_or octets 0 0 ∷ drop 1 octets
front_one [] le = absurd (omega arith)
front_one (a ∷ octets) le = refl

pub front_two : (octets : List ℕ) → 2 ≤ length octets → octets ≡ get_or octets 0 0 ∷ get_or octets 1 0 ∷ drop 2 octets
front_two [] le = absurd (omega arith)
front_two (a ∷ []) le = absurd (omega arith)
front_two (a ∷ b ∷ octets) le = refl

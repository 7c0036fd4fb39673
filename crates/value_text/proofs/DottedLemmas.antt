-- Four numbers with dots between them, written from the end on.
use Rattle.std.proofs.Common.{◌≡◌, ℕ, ◌+◌, ◌-◌, ◌<◌, ◌≤◌, List, [], ◌∷◌, ◌++◌, length, drop, set, sym, ap, ◌∙◌, append_assoc, arith}
use Rattle.std.specs.Fmt.{decimal}
use Rattle.std.proofs.lemmas.Fmt.{length-decimal-le}
use Rattle.std.proofs.lemmas.List.{append-nil, drop-set}

-- An octet has at most three digits.
pub few_digits : (octet n : ℕ) → octet < 256 → n ≡ octet → length (decimal n) ≤ 3
few_digits octet n fits is = length-decimal-le 3 n (omega arith) (omega (arith, fits, is)) (omega (arith, fits, is))

-- A mark in front of what stands from a place on.
pub mark_before : (text : List ℕ) (place mark : ℕ) (rest : List ℕ) → 1 ≤ place → place ≤ length text → drop place text ≡ rest
    → drop (place - 1) (set text (place - 1) mark) ≡ mark ∷ rest
mark_before text place mark rest some within is =
    let there : place - 1 + 1 ≡ place = omega arith in
    drop-set text (place - 1) mark (omega arith) ∙ ap (λ (n : ℕ). mark ∷ drop n text) there ∙ ap (λ (xs : List ℕ). mark ∷ xs) is

regroup : (a b c d dot : List ℕ) → a ++ dot ++ b ++ dot ++ c ++ dot ++ d ≡ a ++ (dot ++ (b ++ (dot ++ (c ++ (dot ++ d)))))
regroup a b c d dot = simp append_assoc

-- Four texts with dots between them, written from the last one on.
pub dotted : (a b c d all second third last end : List ℕ) → all ≡ a ++ second → second ≡ 46 ∷ (b ++ third) → third ≡ 46 ∷ (c ++ last)
    → last ≡ 46 ∷ (d ++ end) → end ≡ [] → all ≡ a ++ (46 ∷ []) ++ b ++ (46 ∷ []) ++ c ++ (46 ∷ []) ++ d
dotted a b c d all second third last end p q r s e =
    let fourth : last ≡ 46 ∷ d = s ∙ ap (λ (xs : List ℕ). 46 ∷ (d ++ xs)) e ∙ ap (λ (xs : List ℕ). 46 ∷ xs) (append-nil d) in
    p ∙ ap (λ (xs : List ℕ). a ++ xs) (q ∙ ap (λ (xs : List ℕ). 46 ∷ (b ++ xs)) (r ∙ ap (λ (xs : List ℕ). 46 ∷ (c ++ xs)) fourth))
    ∙ sym (regroup a b c d (46 ∷ []))

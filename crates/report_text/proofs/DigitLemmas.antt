-- Digits that are written piece by piece.
use Rattle.std.proofs.Common.{◌≡◌, ℕ, List, [], ◌∷◌, ◌++◌, take, drop, refl, sym, ap, ◌∙◌, append_assoc}
use Rattle.std.proofs.lemmas.List.{take-append-drop}
use Rattle.hex.specs.Hex.{encode_lower, encode_with}

-- Octets end to end are encoded end to end.
encode_append : (t xs ys : List ℕ) → encode_with t (xs ++ ys) ≡ encode_with t xs ++ encode_with t ys
unfolding encode_with
encode_append t [] ys = refl
encode_append t (x ∷ xs) ys = rw (encode_append t xs ys) refl

-- A piece of the rest was written.
pub piece_written : (old new rest piece thereafter : List ℕ) (n : ℕ) → piece ≡ take n rest → thereafter ≡ drop n rest → new ≡ old ++ encode_lower piece
    → new ++ encode_lower thereafter ≡ old ++ encode_lower rest
piece_written old new rest piece thereafter n first last is =
    let whole : piece ++ thereafter ≡ rest =
    ap (λ (xs : List ℕ). xs ++ thereafter) first ∙ ap (λ (xs : List ℕ). take n rest ++ xs) last ∙ take-append-drop n rest in
    ap (λ (xs : List ℕ). xs ++ encode_lower thereafter) is ∙ append_assoc old (encode_lower piece) (encode_lower thereafter)
    ∙ ap (λ (xs : List ℕ). old ++ xs) (sym (encode_append _ piece thereafter) ∙ ap (λ (xs : List ℕ). encode_lower xs) whole)

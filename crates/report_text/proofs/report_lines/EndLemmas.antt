-- A text with an LF at its end.
use Rattle.std.proofs.Common.{◌≡◌, ℕ, Bool, true, List, [], ◌∷◌, ◌++◌, take, drop, sym, ap, ◌∙◌, take-append-drop, nat_eq, refl}
use Rattle.std.specs.Bool.{Decides}
use Rattle.std.specs.Cmp.Lexicographic.{pointwise}
use Rattle.std.proofs.lemmas.List.{append_cancel_right}
use Rattle.std.proofs.lemmas.Slice.Eq.{bytes_eq-Decides}

-- What stands before the LF is compared.
pub ended_decides : (written front text mark : List ℕ) (place : ℕ) (same : Bool) → mark ≡ 10 ∷ [] → pointwise nat_eq (drop place written) mark ≡ true
    → front ≡ take place written → same ≡ pointwise nat_eq front text → Decides same (written ≡ text ++ 10 ∷ [])
ended_decides written front text mark place same feed ends before compared =
    let end : drop place written ≡ 10 ∷ [] = (bytes_eq-Decides (drop place written) mark).0 ends ∙ feed in
    let whole : written ≡ front ++ 10 ∷ [] = sym (take-append-drop place written) ∙ rw (before, end) refl in (
      λ yes_same. whole ∙ ap (λ (l : List ℕ). l ++ 10 ∷ []) ((bytes_eq-Decides front text).0 (sym compared ∙ yes_same)),
      λ e. compared ∙ (bytes_eq-Decides front text).1 (append_cancel_right front text (10 ∷ []) (sym whole ∙ e)),
    )

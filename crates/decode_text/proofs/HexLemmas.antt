-- How the octets after the last LF are counted.
use Rattle.std.proofs.Common.{◌≡◌, ℕ, ◌-◌, ◌≤◌, Bool, not, ltb, cond, List, length, reverse, Some, None, unwrap_or, sym, ◌∙◌, arith}
use Rattle.std.specs.List.{after_last, suffix_len, position, position_or_len}
use Rattle.std.proofs.lemmas.List.{length-drop, length-reverse}
use Rattle.std.proofs.lemmas.List.Sums.{suffix_len-le-length}
use Rattle.decode_text.specs.HexText.{is_lf}

thereafter : (p : ℕ → Bool) (xs : List ℕ) → length (after_last p xs) ≡ position_or_len p (reverse xs)
thereafter p xs = omega (arith, length-drop (length xs - suffix_len (λ x. not (p x)) xs) xs, suffix_len-le-length (λ x. not (p x)) xs)

found : (place len other : ℕ) → place ≤ len → other ≡ len → unwrap_or (cond (ltb place len) (Some place) None) other ≡ place
found place len other h e = grind arith

-- The octets after the last LF are as many as those before it from the end on, or all.
pub octets_after_lf : (xs : List ℕ) → unwrap_or (position is_lf (reverse xs)) (length xs) ≡ length (after_last is_lf xs)
octets_after_lf xs =
    found (position_or_len is_lf (reverse xs)) (length (reverse xs)) (length xs)
    (omega (arith, suffix_len-le-length (λ x. not (is_lf x)) xs, length-reverse xs)) (sym (length-reverse xs)) ∙ sym (thereafter is_lf xs)

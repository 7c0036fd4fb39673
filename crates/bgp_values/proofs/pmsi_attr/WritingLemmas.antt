-- What is written, and what is read of it.
use Rattle.std.proofs.Common.{◌≡◌, ℕ, ◌+◌, List, ◌++◌, length, take, drop, refl, sym, ap, ◌∙◌, append_assoc}
use Rattle.std.proofs.lemmas.List.{take_at, length-append, drop-drop}
use Rattle.mv_base.specs.Writing.{put_at}
use Rattle.mv_base.proofs.Fields.{put_at_front}

-- A text written at the front, and another after it.
pub put_after : (old a b : List ℕ) → a ++ put_at (drop (length a) old) 0 b ≡ put_at old 0 (a ++ b)
put_after old a b =
    ap (λ (xs : List ℕ). a ++ xs) (put_at_front (drop (length a) old) b ∙ ap (λ (xs : List ℕ). b ++ xs) (drop-drop (length b) (length a) old))
    ∙ sym (append_assoc a b (drop (length a + length b) old))
    ∙ ap (λ (n : ℕ). (a ++ b) ++ drop n old) (sym (length-append a b))
    ∙ sym (put_at_front old (a ++ b))

-- The text that was written is the front of what stands there.
pub front_put : (old a : List ℕ) → take (length a) (put_at old 0 a) ≡ a
front_put old a = ap (λ (xs : List ℕ). take (length a) xs) (put_at_front old a) ∙ take_at a (drop (length a) old) (length a) refl

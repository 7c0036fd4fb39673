-- Texts that are appended one after another.
use Rattle.std.proofs.Common.{◌≡◌, ℕ, suc, ◌+◌, List, ◌++◌, refl, sym, ap, subst, ◌∙◌, arith}
use Rattle.std.proofs.lemmas.List.{append_assoc}
use Rattle.generator.specs.Made.{each}

-- one text more after some
pub more : (old first second middle new : List ℕ) → middle ≡ old ++ first → new ≡ middle ++ second → new ≡ old ++ (first ++ second)
more old first second middle new a b = b ∙ ap (λ (x : List ℕ). x ++ second) a ∙ append_assoc old first second

each_more : (text : ℕ → List ℕ) (n : ℕ) → each text (n + 1) ≡ each text n ++ text (n + 1)
each_more text n =
    let next : suc n ≡ n + 1 = omega arith in
    subst (λ (m : ℕ). each text m ≡ each text n ++ text m) next refl

-- the next text of a row
pub next_of : (text : ℕ → List ℕ) (n : ℕ) (old middle new : List ℕ) → middle ≡ old ++ each text n → new ≡ middle ++ text (n + 1) →
    new ≡ old ++ each text (n + 1)
next_of text n old middle new a b =
    more old (each text n) (text (n + 1)) middle new a b ∙ ap (λ (x : List ℕ). old ++ x) (sym (each_more text n))

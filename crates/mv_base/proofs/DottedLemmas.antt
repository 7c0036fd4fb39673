-- What is read as a dotted address is what is written of it.
use Rattle.std.proofs.Common.{◌≡◌, ℕ, ◌<◌, List, [], ◌∷◌, ◌++◌, refl, sym, ap, subst, ◌∙◌, arith, append_assoc}
use Rattle.std.specs.Prelude.{Some, decimal, nat_lt}
use Rattle.std.specs.Net.Grammar.{IsDotted}
use Rattle.std.specs.Net.Text.{dotted_text}
use Rattle.std.proofs.lemmas.Bool.{ltb-true, lt-ltb}
use Rattle.std.proofs.lemmas.Fmt.{decimal_is_IsNumeral}
use Rattle.std.proofs.lemmas.Option.{same_Some}
use Rattle.mv_base.specs.Number.{number_of}
use Rattle.mv_base.specs.Dotted.{octet_of, octet_front_of, dotted_of}
use Rattle.mv_base.proofs.NumberLemmas.{number_written, number_only}
use Rattle.mv_base.proofs.CutLemmas.{next_some, if_some, same_parts, cut_read, cut_digits}

octet_read : (text : List ℕ) (a : ℕ) → octet_of text ≡ Some a → (a < 256) × (text ≡ decimal a)
unfolding octet_of
octet_read text a e =
    next_some _ (number_of text) a e λ number read kept.
    let (small, same) = if_some (nat_lt number 256) number a kept in
    let (is, value) = if_some _ _ number read in
    (subst (λ (n : ℕ). n < 256) same (ltb-true number 256 small), number_written text is ∙ ap decimal (value ∙ same))

octet_only : (a : ℕ) → a < 256 → octet_of (decimal a) ≡ Some a
unfolding octet_of
octet_only a small = rw (number_only (decimal a) a (omega arith) refl, lt-ltb a 256 small) refl

front_read : (text : List ℕ) (front : ℕ × List ℕ) → octet_front_of text ≡ Some front → (front.0 < 256) × (text ≡ decimal front.0 ++ 46 ∷ front.1)
unfolding octet_front_of
front_read text front e =
    next_some _ _ front e λ cut found kept.
    next_some _ (octet_of cut.0) front kept λ octet read pair.
    let (a, rest) = same_parts octet front.0 cut.1 front.1 pair in
    let (small, spelled) = octet_read cut.0 octet read in
    (subst (λ (n : ℕ). n < 256) a small, cut_read 46 text cut.0 cut.1 found ∙ (rw (spelled, a, rest) refl))

front_only : (a : ℕ) (rest : List ℕ) → a < 256 → octet_front_of (decimal a ++ 46 ∷ rest) ≡ Some (a, rest)
unfolding octet_front_of
front_only a rest small =
    rw (cut_digits 10 46 (decimal a) rest (decimal_is_IsNumeral a (omega arith)).0.1 (omega arith), octet_only a small) refl

spelled_out : (a b c d : ℕ) → dotted_text a b c d ≡ decimal a ++ 46 ∷ (decimal b ++ 46 ∷ (decimal c ++ 46 ∷ decimal d))
spelled_out a b c d = simp append_assoc

-- What is read is dotted text of the octets.
pub dotted_read : (text octets : List ℕ) → dotted_of text ≡ Some octets → IsDotted text octets
unfolding dotted_of
dotted_read text octets e =
    next_some _ (octet_front_of text) octets e λ a read_a kept_a.
    next_some _ (octet_front_of a.1) octets kept_a λ b read_b kept_b.
    next_some _ (octet_front_of b.1) octets kept_b λ c read_c kept_c.
    next_some _ (octet_of c.1) octets kept_c λ d read_d kept_d.
    let (small_a, text_a) = front_read text a read_a in
    let (small_b, text_b) = front_read a.1 b read_b in
    let (small_c, text_c) = front_read b.1 c read_c in
    let (small_d, text_d) = octet_read c.1 d read_d in
    record {
      a = a.0;
      b = b.0;
      c = c.0;
      d = d;
      fit = (small_a, small_b, small_c, small_d);
      value = sym (same_Some _ _ kept_d);
      spelled =
          rw spelled_out (text_a ∙ ap (λ (l : List ℕ). decimal a.0 ++ 46 ∷ l)
          (text_b ∙ ap (λ (l : List ℕ). decimal b.0 ++ 46 ∷ l) (text_c ∙ ap (λ (l : List ℕ). decimal c.0 ++ 46 ∷ l) text_d)));
    }

dotted_known : (a b c d : ℕ) → (a < 256) × (b < 256) × (c < 256) × (d < 256) → dotted_of (dotted_text a b c d) ≡ Some (a ∷ b ∷ c ∷ d ∷ [])
unfolding dotted_of
dotted_known a b c d fit =
    rw (spelled_out, front_only a _ fit.0, front_only b _ fit.1, front_only c _ fit.2, octet_only d fit.3) refl

-- Dotted text is read as its octets.
pub dotted_only : (text octets : List ℕ) → IsDotted text octets → dotted_of text ≡ Some octets
dotted_only text octets h = rw (h.spelled, h.value) (dotted_known h.a h.b h.c h.d h.fit)

-- How many datagrams have a copy, as one copy more is there.
use Rattle.std.proofs.Common.{◌≡◌, ℕ, zero, suc, ◌+◌, ◌<◌, ◌≤◌, ◌==◌, ◌||◌, Bool, true, false, List, [], ◌∷◌, map, refl, sym, ap, ◌∙◌, arith}
use Rattle.std.specs.List.{count_by, list_any}
use Rattle.std.proofs.lemmas.Bool.{eqb-true, eqb-false}
use Rattle.network_defs.specs.World.{LinkCopy}
use Rattle.network_defs.specs.Counts.{datagrams_with_copy}
use Rattle.data_plane.specs.link_copies.CopiesData.{KeptCopy}
use Rattle.data_plane.proofs.link_copies.Basics.{one_if}
use Rattle.data_plane.proofs.link_copies.Lists.{count-cons}

abbrev pub copies : List KeptCopy → List LinkCopy
copies ks = map (λ k. k.copy) ks

abbrev pub numbered : ℕ → KeptCopy → Bool
numbered number k = k.copy.number == number

-- whether one of the copies is of the datagram of that number
abbrev pub has : ℕ → List LinkCopy → Bool
has number cs = list_any (λ copy. copy.number == number) cs

-- ---- who passes a test

-- where some pass a test, there is one that does, and it counts for every test that it passes
pub member : (t : KeptCopy → Bool) (ks : List KeptCopy) → 0 < count_by t ks
    → (x : KeptCopy) × (t x ≡ true) × ((s : KeptCopy → Bool) → s x ≡ true → 0 < count_by s ks)
member t [] h = absurd (omega (arith, h))
member t (k ∷ ks) h = by (t k) refl (member t ks)
  where
    by : (b : Bool) → t k ≡ b → (0 < count_by t ks → (x : KeptCopy) × (t x ≡ true) × ((s : KeptCopy → Bool) → s x ≡ true → 0 < count_by s ks))
        → (x : KeptCopy) × (t x ≡ true) × ((s : KeptCopy → Bool) → s x ≡ true → 0 < count_by s (k ∷ ks))
    by true e rest = (k, e, λ s is. omega (arith, count-cons s k ks, ap one_if is))
    by false e rest =
        let found = rest (omega (arith, h, count-cons t k ks, ap one_if e)) in
        (found.0, found.1, λ s is. omega (arith, count-cons s k ks, found.2 s is))

pub any_of : (number : ℕ) (ks : List KeptCopy) → 0 < count_by (numbered number) ks → has number (copies ks) ≡ true
any_of number [] h = absurd (omega (arith, h))
any_of number (k ∷ ks) h = by (k.copy.number == number) refl (any_of number ks)
  where
    by : (b : Bool) → (k.copy.number == number) ≡ b → (0 < count_by (numbered number) ks → has number (copies ks) ≡ true)
        → (b || has number (copies ks)) ≡ true
    by true e rest = refl
    by false e rest = rest (omega (arith, h, count-cons (numbered number) k ks, ap one_if e))

pub none_of : (number : ℕ) (ks : List KeptCopy) → count_by (numbered number) ks ≡ 0 → has number (copies ks) ≡ false
none_of number [] h = refl
none_of number (k ∷ ks) h = by (k.copy.number == number) refl (none_of number ks)
  where
    by : (b : Bool) → (k.copy.number == number) ≡ b → (count_by (numbered number) ks ≡ 0 → has number (copies ks) ≡ false)
        → (b || has number (copies ks)) ≡ false
    by true e rest = absurd (omega (arith, h, count-cons (numbered number) k ks, ap one_if e))
    by false e rest = rest (omega (arith, h, count-cons (numbered number) k ks, ap one_if e))

-- ---- the datagrams that have a copy, as one copy more is there

pub no_datagram : (last : ℕ) → datagrams_with_copy [] last ≡ 0
no_datagram zero = refl
no_datagram (suc last) = omega (arith, no_datagram last)

module _ (c : LinkCopy) (cs : List LinkCopy) where
  beyond : (last : ℕ) → last < c.number → datagrams_with_copy (c ∷ cs) last ≡ datagrams_with_copy cs last
  beyond zero h = refl
  beyond (suc last) h = by (c.number == suc last) refl (beyond last (omega (arith, h)))
    where
      by : (b : Bool) → (c.number == suc last) ≡ b → datagrams_with_copy (c ∷ cs) last ≡ datagrams_with_copy cs last
          → datagrams_with_copy (c ∷ cs) last + one_if (b || has (suc last) cs) ≡ datagrams_with_copy cs last + one_if (has (suc last) cs)
      by true e rest = absurd (omega (arith, h, eqb-true c.number (suc last) e))
      by false e rest = ap (λ (n : ℕ). n + one_if (has (suc last) cs)) rest

  -- its datagram has another copy
  pub again : has c.number cs ≡ true → (last : ℕ) → datagrams_with_copy (c ∷ cs) last ≡ datagrams_with_copy cs last
  again there zero = refl
  again there (suc last) = by (c.number == suc last) refl (again there last)
    where
      by : (b : Bool) → (c.number == suc last) ≡ b → datagrams_with_copy (c ∷ cs) last ≡ datagrams_with_copy cs last
          → datagrams_with_copy (c ∷ cs) last + one_if (b || has (suc last) cs) ≡ datagrams_with_copy cs last + one_if (has (suc last) cs)
      by true e rest = omega (arith, rest, ap one_if (sym (ap (λ (n : ℕ). has n cs) (eqb-true c.number (suc last) e)) ∙ there))
      by false e rest = ap (λ (n : ℕ). n + one_if (has (suc last) cs)) rest

  -- it is the only copy of its datagram
  pub first : has c.number cs ≡ false → 0 < c.number → (last : ℕ) → c.number ≤ last
      → datagrams_with_copy (c ∷ cs) last ≡ datagrams_with_copy cs last + 1
  first none some zero h = absurd (omega (arith, some, h))
  first none some (suc last) h = by (c.number == suc last) refl (first none some last)
    where
      by : (b : Bool) → (c.number == suc last) ≡ b → (c.number ≤ last → datagrams_with_copy (c ∷ cs) last ≡ datagrams_with_copy cs last + 1)
          → datagrams_with_copy (c ∷ cs) last + one_if (b || has (suc last) cs) ≡ datagrams_with_copy cs last + one_if (has (suc last) cs) + 1
      by true e rest = omega (
        arith,
        beyond last (omega (arith, eqb-true c.number (suc last) e)),
        ap one_if (sym (ap (λ (n : ℕ). has n cs) (eqb-true c.number (suc last) e)) ∙ none),
      )
      by false e rest = omega (arith, rest (omega (arith, h, eqb-false c.number (suc last) e)))

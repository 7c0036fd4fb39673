-- The list of the free places, beside the places.
use Rattle.std.proofs.Common.{inl, inr, zero, suc, ◌≡◌, ℕ, ◌+◌, ◌-◌, ◌<◌, ◌≤◌, ◌^◌, Bool, true, false, cond, nat_eq, nat_lt, List, [], ◌∷◌, ◌++◌, length, count_by, slice_get, slice_set, Some, refl, sym, ap, subst, ◌∙◌, arith, length-append}
use Rattle.std.proofs.lemmas.Bool.{cases_Bool, cases_eq, eq-eqb, ne_eqb, ltb-true}
use Rattle.std.proofs.lemmas.List.{length-set}
use Rattle.std.proofs.lemmas.Option.{slice_get_within}
use Rattle.std.proofs.lemmas.List.Sums.{sum_by-cons, sum_by_push}
use Rattle.tunnel_bindings.specs.declared.any_binding.AnyBinding.{AnyBinding}
use Rattle.tunnel_bindings.specs.declared.places.Place.{Place}
use Rattle.tunnel_bindings.specs.Places.{holding, emptied, is_free, released, weight, tally, IsYoung, IsWell}
use Rattle.tunnel_bindings.proofs.NumbersLemmas.{get-set_same, get-set_other}
use Rattle.tunnel_bindings.proofs.PlaceLemmas.{more-same, more-other}

count-push : (p : ℕ → Bool) (xs : List ℕ) (x : ℕ) → count_by p (xs ++ x ∷ []) ≡ count_by p xs + cond (p x) 1 0
count-push p xs x = sum_by_push (λ y. cond (p y) 1 0) xs x

count-all : (xs : List ℕ) → count_by (λ _. true) xs ≡ length xs
count-all [] = refl
count-all (x ∷ xs) = rw (sum_by-cons (λ (_ : ℕ). 1) x xs) (omega (arith, count-all xs))

-- ---- how many places are free

cond-most : (a b : Bool) → cond a (cond b 1 0) 0 ≤ 1
cond-most true true = omega arith
cond-most true false = omega arith
cond-most false b = omega arith

weight-most : (p : ℕ → Bool) (n : ℕ) (place : Place) → weight p n place ≤ 1
weight-most p n place = cond-most (is_free (Some place)) (p n)

tally-set : (p : ℕ → Bool) (n m i : ℕ) (places : List Place) (old new : Place) → m ≡ n + i → slice_get places i ≡ Some old
    → tally p n (slice_set places i new) + weight p m old ≡ tally p n places + weight p m new
tally-set p n m i [] old new at e = absurd cc
tally-set p n m zero (x ∷ xs) old new at e =
    let same : x ≡ old = cc in
    let here : m ≡ n = omega (arith, at) in
    rw (here, same) (omega arith)
tally-set p n m (suc i) (x ∷ xs) old new at e =
    let rest = tally-set p (suc n) m i xs old new (omega (arith, at)) e in
    omega (arith, rest)

tally-most : (p : ℕ → Bool) (n : ℕ) (places : List Place) → tally p n places ≤ length places
tally-most p n [] = omega arith
tally-most p n (x ∷ xs) = omega (arith, tally-most p (suc n) xs, weight-most p n x)

tally-fewer : (p : ℕ → Bool) (n i : ℕ) (places : List Place) (place : Place) → slice_get places i ≡ Some place → is_free (Some place) ≡ false
    → tally p n places < length places
tally-fewer p n i [] place at e = absurd cc
tally-fewer p n zero (x ∷ xs) place at e =
    let same : x ≡ place = cc in
    let none : weight p n x ≡ 0 = ap (λ (y : Place). weight p n y) same ∙ ap (λ (b : Bool). cond b (cond (p n) 1 0) 0) e in
    omega (arith, tally-most p (suc n) xs, none)
tally-fewer p n (suc i) (x ∷ xs) place at e = omega (arith, tally-fewer p (suc n) i xs place at e, weight-most p n x)

tally-none : (p : ℕ → Bool) (n : ℕ) (places : List Place) → ((k m : ℕ) → m ≡ n + k → is_free (slice_get places k) ≡ true → p m ≡ false)
    → tally p n places ≡ 0
tally-none p n [] h = refl
tally-none p n (x ∷ xs) h =
    let rest = tally-none p (suc n) xs (λ k m at free. h (suc k) m (omega (arith, at)) free) in
    let here : weight p n x ≡ 0 = elim (cases_Bool (is_free (Some x))) [
      | inl e ↦ ap (λ (b : Bool). cond b (cond (p n) 1 0) 0) e ∙ ap (λ (b : Bool). cond b 1 0) (h zero n (omega arith) e)
      | inr e ↦ ap (λ (b : Bool). cond b (cond (p n) 1 0) 0) e
    ] in
    omega (arith, rest, here)

tally-more : (p : ℕ → Bool) (n : ℕ) (places : List Place) (place : Place) → is_free (Some place) ≡ false
    → tally p n (places ++ place ∷ []) ≡ tally p n places
tally-more p n [] place e = let none : weight p n place ≡ 0 = ap (λ (b : Bool). cond b (cond (p n) 1 0) 0) e in omega (arith, none)
tally-more p n (x ∷ xs) place e = omega (arith, tally-more p (suc n) xs place e)

-- ---- what is true of the places

-- the last of the list is a free place
pub free-popped : (places : List Place) (free rest : List ℕ) (i capacity : ℕ) → free ≡ rest ++ i ∷ [] → IsWell places free capacity
    → is_free (slice_get places i) ≡ true
free-popped places free rest i capacity is h = elim (cases_Bool (is_free (slice_get places i))) [
  | inl e ↦ e
  | inr e ↦
      let none = tally-none (nat_eq i) 0 places (λ k m at free. ne_eqb i m (λ same.
      let here : k ≡ i = omega (arith, at, same) in
      let both : true ≡ false = sym free ∙ (ap (λ (j : ℕ). is_free (slice_get places j)) here ∙ e) in
      absurd cc)) in
      let some = count-push (nat_eq i) rest i in
      let same : nat_eq i i ≡ true = eq-eqb i i refl in
      let weigh : Bool → ℕ = λ b. cond b 1 0 in
      let one = ap weigh same in
      let all = sym (ap (count_by (nat_eq i)) is) ∙ h.listed (nat_eq i) in
      absurd (omega (arith, none, some, one, all))
]

young-set : (places : List Place) (i : ℕ) (place : Place) → i < length places → IsYoung (Some place) → ((k : ℕ) → IsYoung (slice_get places k))
    → (k : ℕ) → IsYoung (slice_get (slice_set places i place) k)
young-set places i place within here h k = elim (cases_eq k i) [
  | inl e ↦ subst IsYoung (sym (ap (slice_get (slice_set places i place)) e ∙ get-set_same places i place within)) here
  | inr d ↦ subst IsYoung (sym (get-set_other places i k place d)) (h k)
]

pub well-filled : (places : List Place) (free rest : List ℕ) (i g capacity : ℕ) (b : AnyBinding) → free ≡ rest ++ i ∷ []
    → slice_get places i ≡ Some (emptied g) → IsWell places free capacity
    → IsWell (slice_set places i (holding g b)) rest capacity
well-filled places free rest i g capacity b is at h =
    let usable : nat_lt g (2 ^ 64 - 1) ≡ true = sym (ap is_free at) ∙ free-popped places free rest i capacity is h in
    let less : g < 2 ^ 64 - 1 = ltb-true g (2 ^ 64 - 1) usable in
    record {
      listed = λ p.
          let set = tally-set p 0 i i places (emptied g) (holding g b) (omega arith) at in
          let here : weight p i (emptied g) ≡ cond (p i) 1 0 = ap (λ (t : Bool). cond t (cond (p i) 1 0) 0) usable in
          let all : count_by p rest + cond (p i) 1 0 ≡ tally p 0 places = sym (count-push p rest i) ∙ (sym (ap (count_by p) is) ∙ h.listed p) in
          omega (arith, set, here, all);
      room = omega (arith, h.room, length-set places i (holding g b));
      young = young-set places i (holding g b) (slice_get_within places i (emptied g) at) less h.young;
    }

pub well-more : (places : List Place) (free : List ℕ) (capacity more : ℕ) → capacity ≤ more → IsWell places free capacity → IsWell places free more
well-more places free capacity more grows h = record { listed = h.listed; room = omega (arith, h.room, grows); young = h.young }

pub well-added : (places : List Place) (free : List ℕ) (capacity more : ℕ) (b : AnyBinding) → length places + 1 ≤ more → IsWell places free capacity
    → IsWell (places ++ holding 0 b ∷ []) free more
well-added places free capacity more b room h = record {
  listed = λ p. h.listed p ∙ sym (tally-more p 0 places (holding 0 b) refl);
  room = omega (arith, room, length-append places (holding 0 b ∷ []));
  young = λ k. elim (cases_eq k (length places)) [
    | inl e ↦ subst IsYoung (sym (ap (slice_get (places ++ holding 0 b ∷ [])) e ∙ more-same places (holding 0 b))) (omega arith)
    | inr d ↦ subst IsYoung (sym (more-other places (holding 0 b) k d)) (h.young k)
  ];
}

-- where a place holds a binding, there is room for one free place more
pub room-left : (places : List Place) (free : List ℕ) (capacity i g : ℕ) (b : AnyBinding) → slice_get places i ≡ Some (holding g b)
    → IsWell places free capacity → length free < capacity
room-left places free capacity i g b at h =
    omega (arith, count-all free, h.listed (λ _. true), h.room, tally-fewer (λ _. true) 0 i places (holding g b) at refl)

pub well-emptied : (places : List Place) (free : List ℕ) (capacity more i g : ℕ) (b : AnyBinding) → capacity ≤ more
    → slice_get places i ≡ Some (holding g b) → IsWell places free capacity
    → IsWell (slice_set places i (emptied (g + 1))) (released free i (g + 1)) more
well-emptied places free capacity more i g b grows at h = record {
  listed = λ p. listed p (nat_lt (g + 1) (2 ^ 64 - 1)) refl;
  room = omega (arith, h.room, grows, length-set places i (emptied (g + 1)));
  young = young-set places i (emptied (g + 1)) (slice_get_within places i (holding g b) at) tt h.young;
}
  where
    listed : (p : ℕ → Bool) (t : Bool) → nat_lt (g + 1) (2 ^ 64 - 1) ≡ t
        → count_by p (cond t (free ++ i ∷ []) free) ≡ tally p 0 (slice_set places i (emptied (g + 1)))
    listed p true e =
        let set = tally-set p 0 i i places (holding g b) (emptied (g + 1)) (omega arith) at in
        let here : weight p i (emptied (g + 1)) ≡ cond (p i) 1 0 = ap (λ (t : Bool). cond t (cond (p i) 1 0) 0) e in
        omega (arith, set, here, count-push p free i, h.listed p)
    listed p false e =
        let set = tally-set p 0 i i places (holding g b) (emptied (g + 1)) (omega arith) at in
        let here : weight p i (emptied (g + 1)) ≡ 0 = ap (λ (t : Bool). cond t (cond (p i) 1 0) 0) e in
        omega (arith, set, here, h.listed p)

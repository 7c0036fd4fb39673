-- Lists by places, and counts.
use Rattle.std.specs.Prelude.{◌&&◌, option_map, filter}
use Rattle.std.proofs.Common.{◌≡◌, ℕ, zero, suc, ◌+◌, ◌<◌, ◌≤◌, Bool, true, false, not, ◌||◌, cond, ◌++◌, map, take, List, [], ◌∷◌, slice_get, Some, refl, sym, ap, subst, ◌∙◌, arith}
use Rattle.std.specs.List.{AllByRecursion, list_any, list_all}
use Rattle.std.proofs.lemmas.Bool.{true≢false}
use Rattle.std.proofs.lemmas.Option.{none-some}

pub and_both : (a b : Bool) → (a && b) ≡ true → (a ≡ true) × (b ≡ true)
and_both true b e = (refl, e)
and_both false b e = absurd (true≢false (sym e))

pub and_true : (a b : Bool) → a ≡ true → b ≡ true → (a && b) ≡ true
and_true a b x y = (λ i. x i && y i)

pub or_right : (a b : Bool) → b ≡ true → (a || b) ≡ true
or_right true b e = refl
or_right false b e = e

pub or_left : (a b : Bool) → a ≡ true → (a || b) ≡ true
or_left a b e = ap (λ x. x || b) e

pub or_other : (a b : Bool) → a ≡ true → (not a || b) ≡ true → b ≡ true
or_other true b x e = e
or_other false b x e = absurd (true≢false (sym x))

pub both_no : (b : Bool) → b ≡ true → b ≡ false → ⊥
both_no b t f = true≢false (sym t ∙ f)

module _ {X : Type 0} where
  pub some_same : (x y : X) → Some x ≡ Some y → x ≡ y
  some_same x y e = cc

  pub front_of : (xs : List X) (k : ℕ) → (rest : List X) × (take k xs ++ rest ≡ xs)
  front_of xs zero = (xs, refl)
  front_of [] (suc k) = ([], refl)
  front_of (x ∷ xs) (suc k) = (let r = front_of xs k in (r.0, λ i. x ∷ r.1 i))

  pub got_still : (xs ys : List X) (place : ℕ) (x : X) → slice_get xs place ≡ Some x → slice_get (xs ++ ys) place ≡ Some x
  got_still [] ys place x e = absurd (none-some x e)
  got_still (first ∷ xs) ys zero x e = e
  got_still (first ∷ xs) ys (suc place) x e = got_still xs ys place x e

  pub each_from : (P : X → Type 0) (xs : List X) → ((place : ℕ) (x : X) → slice_get xs place ≡ Some x → P x) → AllByRecursion P xs
  each_from P [] h = tt
  each_from P (x ∷ xs) h = (h zero x refl, each_from P xs (λ place y e. h (suc place) y e))

  pub each_got : (P : X → Type 0) (xs : List X) (place : ℕ) (x : X) → AllByRecursion P xs → slice_get xs place ≡ Some x → P x
  each_got P [] place x h e = absurd (none-some x e)
  each_got P (y ∷ xs) zero x h e = subst P (some_same y x e) h.0
  each_got P (y ∷ xs) (suc place) x h e = each_got P xs place x h.1 e

  pub got_map : {Y : Type 0} (f : X → Y) (xs : List X) (place : ℕ) (x : X) → slice_get xs place ≡ Some x → slice_get (map f xs) place ≡ Some (f x)
  got_map f [] place x e = absurd (none-some x e)
  got_map f (y ∷ xs) zero x e = ap (λ o. option_map f o) e
  got_map f (y ∷ xs) (suc place) x e = got_map f xs place x e

  pub each_filter : (P : X → Type 0) (test : X → Bool) (xs : List X) → AllByRecursion P xs → AllByRecursion P (filter test xs)
  each_filter P test [] h = tt
  each_filter P test (x ∷ xs) h =
      elim (test x) as (λ b. AllByRecursion P (cond b (x ∷ filter test xs) (filter test xs))) [
        | true ↦ (h.0, each_filter P test xs h.1)
        | false ↦ each_filter P test xs h.1
      ]

  -- ---- tests

  pub any_got : (test : X → Bool) (xs : List X) → list_any test xs ≡ true → (place : ℕ) × (x : X) × (slice_get xs place ≡ Some x) × (test x ≡ true)
  any_got test [] e = absurd (true≢false (sym e))
  any_got test (x ∷ xs) e = by (test x) refl (λ t. any_got test xs t)
    where
      by : (b : Bool) → test x ≡ b → (list_any test xs ≡ true → (place : ℕ) × (y : X) × (slice_get xs place ≡ Some y) × (test y ≡ true))
          → (place : ℕ) × (y : X) × (slice_get (x ∷ xs) place ≡ Some y) × (test y ≡ true)
      by true is more = (zero, x, refl, is)
      by false is more = (let r = more (sym (ap (λ b. b || list_any test xs) is) ∙ e) in (suc r.0, r.1, r.2, r.3))

  pub got_any : (test : X → Bool) (xs : List X) (place : ℕ) (x : X) → slice_get xs place ≡ Some x → test x ≡ true → list_any test xs ≡ true
  got_any test [] place x e is = absurd (none-some x e)
  got_any test (y ∷ xs) zero x e is = or_left (test y) (list_any test xs) (ap test (some_same y x e) ∙ is)
  got_any test (y ∷ xs) (suc place) x e is = or_right (test y) (list_any test xs) (got_any test xs place x e is)

  pub all_got : (test : X → Bool) (xs : List X) (place : ℕ) (x : X) → list_all test xs ≡ true → slice_get xs place ≡ Some x → test x ≡ true
  all_got test [] place x all e = absurd (none-some x e)
  all_got test (y ∷ xs) zero x all e = ap test (sym (some_same y x e)) ∙ (and_both (test y) (list_all test xs) all).0
  all_got test (y ∷ xs) (suc place) x all e = all_got test xs place x (and_both (test y) (list_all test xs) all).1 e

  pub got_all : (test : X → Bool) (xs : List X) → ((place : ℕ) (x : X) → slice_get xs place ≡ Some x → test x ≡ true) → list_all test xs ≡ true
  got_all test [] h = refl
  got_all test (x ∷ xs) h = and_true (test x) (list_all test xs) (h zero x refl) (got_all test xs (λ place y e. h (suc place) y e))

-- ---- counts

pub step_count : (b : Bool) (count : ℕ) → cond b 1 0 + count ≡ cond b (1 + count) count
step_count true count = refl
step_count false count = omega arith

count_more : (b : Bool) (count : ℕ) → count ≤ cond b (1 + count) count
count_more true count = omega arith
count_more false count = omega arith

module _ {X : Type 0} (test : X → Bool) where
  abbrev pub counted : List X → ℕ
  counted [] = 0
  counted (x ∷ xs) = cond (test x) (1 + counted xs) (counted xs)

  abbrev Found : List X → Type 0
  Found xs = (place : ℕ) × (x : X) × (slice_get xs place ≡ Some x) × (test x ≡ true)

  abbrev pub FoundTwo : List X → Type 0
  FoundTwo xs =
      (first : ℕ) × (x : X) × (second : ℕ) × (y : X) × (first < second) × (slice_get xs first ≡ Some x) × (test x ≡ true)
      × (slice_get xs second ≡ Some y) × (test y ≡ true)

  pub one_found : (xs : List X) → 0 < counted xs → Found xs
  one_found [] h = absurd (omega (arith, h))
  one_found (x ∷ xs) h = by (test x) refl (λ k. one_found xs k)
    where
      by : (b : Bool) → test x ≡ b → (0 < counted xs → Found xs) → Found (x ∷ xs)
      by true is more = (zero, x, refl, is)
      by false is more = (let r = more (subst (λ b. 0 < (cond b (1 + counted xs) (counted xs))) is h) in (suc r.0, r.1, r.2, r.3))

  pub two_found : (xs : List X) → 1 < counted xs → FoundTwo xs
  two_found [] h = absurd (omega (arith, h))
  two_found (x ∷ xs) h = by (test x) refl (λ k. two_found xs k)
    where
      by : (b : Bool) → test x ≡ b → (1 < counted xs → FoundTwo xs) → FoundTwo (x ∷ xs)
      by true is more =
          let many : 1 < 1 + counted xs = subst (λ b. 1 < (cond b (1 + counted xs) (counted xs))) is h in
          let r = one_found xs (omega (arith, many)) in
          (zero, x, suc r.0, r.1, omega arith, refl, is, r.2, r.3)
      by false is more =
          let r = more (subst (λ b. 1 < (cond b (1 + counted xs) (counted xs))) is h) in
          let less = r.4 in
          (suc r.0, r.1, suc r.2, r.3, omega (arith, less), r.5, r.6, r.7, r.8)

  pub found_one : (xs : List X) (place : ℕ) (x : X) → slice_get xs place ≡ Some x → test x ≡ true → 0 < counted xs
  found_one [] place x e is = absurd (none-some x e)
  found_one (y ∷ xs) zero x e is = subst (λ b. 0 < (cond b (1 + counted xs) (counted xs))) (sym (ap test (some_same y x e) ∙ is)) (omega arith)
  found_one (y ∷ xs) (suc place) x e is =
      (let rest = found_one xs place x e is in let more = count_more (test y) (counted xs) in omega (arith, rest, more))

  pub found_two : (xs : List X) (first : ℕ) (x : X) (second : ℕ) (y : X) → first < second → slice_get xs first ≡ Some x → test x ≡ true
      → slice_get xs second ≡ Some y → test y ≡ true → 1 < counted xs
  found_two [] first x second y less e is f js = absurd (none-some x e)
  found_two (z ∷ xs) first x zero y less e is f js = absurd (omega (arith, less))
  found_two (z ∷ xs) zero x (suc second) y less e is f js =
      let rest = found_one xs second y f js in
      subst (λ b. 1 < (cond b (1 + counted xs) (counted xs))) (sym (ap test (some_same z x e) ∙ is)) (omega (arith, rest))
  found_two (z ∷ xs) (suc first) x (suc second) y less e is f js =
      let rest = found_two xs first x second y (omega (arith, less)) e is f js in
      let more = count_more (test z) (counted xs) in
      omega (arith, rest, more)

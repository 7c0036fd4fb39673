-- The list of the numbers that rest, beside the states of all.
use Rattle.std.proofs.Common.{inl, inr, zero, suc, ◌≡◌, ℕ, ◌+◌, ◌-◌, ◌<◌, ◌≤◌, Bool, true, false, not, ◌&&◌, cond, nat_eq, nat_le, nat_lt, List, [], ◌∷◌, ◌++◌, length, map, filter, count_by, replicate, slice_get, slice_set, Option, None, Some, refl, sym, ap, subst, ◌∙◌, arith}
use Rattle.std.specs.List.{All}
use Rattle.std.proofs.lemmas.Bool.{cases_Bool, cases_eq, cases_lt, eq-eqb, ne_eqb, lt-ltb, le-ltb, le-leb, lt-leb, leb-false, and_left, and_right, and_from}
use Rattle.std.proofs.lemmas.List.{length-set, length-replicate, length-map}
use Rattle.std.proofs.lemmas.Option.{slice_get_within}
use Rattle.std.proofs.lemmas.List.Elements.{All-nil, All-cons}
use Rattle.std.proofs.lemmas.List.Sums.{sum_by-cons, sum_by_push}
use Rattle.tunnel_bindings.specs.declared.state.LabelState.{LabelState}
use Rattle.tunnel_bindings.specs.declared.state.LabelState.TheVariants.{Free, Owned, Resting}
use Rattle.tunnel_bindings.specs.declared.state.Rest.{Rest}
use Rattle.tunnel_bindings.specs.Labels.{Space, state_of, woken, is_due}
use Rattle.tunnel_bindings.specs.Resting.{is_past, weight, tally, AreResting, IsSpace, freed}
use Rattle.tunnel_bindings.proofs.NumbersLemmas.{get-set_same, get-set_other}

-- ---- one test, counted

count-cons : (p : Rest → Bool) (r : Rest) (rs : List Rest) → count_by p (r ∷ rs) ≡ cond (p r) 1 0 + count_by p rs
count-cons p r rs = sum_by-cons (λ x. cond (p x) 1 0) r rs

count-push : (p : Rest → Bool) (rs : List Rest) (r : Rest) → count_by p (rs ++ r ∷ []) ≡ count_by p rs + cond (p r) 1 0
count-push p rs r = sum_by_push (λ x. cond (p x) 1 0) rs r

count-filter : (p q : Rest → Bool) (rs : List Rest) → count_by p (filter q rs) ≡ count_by (λ r. q r && p r) rs
count-filter p q [] = refl
count-filter p q (r ∷ rs) =
    let rest = count-filter p q rs in
    rw (count-cons (λ r. q r && p r) r rs) (elim (cases_Bool (q r)) [
      | inl e ↦ rw e (count-cons p r (filter q rs) ∙ ap (λ n. cond (p r) 1 0 + n) rest)
      | inr e ↦ rw e (omega (arith, rest))
    ])

-- ---- what a write changes

pub tally-set : (p : Rest → Bool) (n m i : ℕ) (states : List LabelState) (old new : LabelState) → m ≡ n + i → slice_get states i ≡ Some old
    → tally p n (slice_set states i new) + weight p m old ≡ tally p n states + weight p m new
tally-set p n m i [] old new at e = absurd cc
tally-set p n m zero (s ∷ ss) old new at e =
    let same : s ≡ old = cc in
    let here : m ≡ n = omega (arith, at) in
    rw (here, same) (omega arith)
tally-set p n m (suc i) (s ∷ ss) old new at e =
    let rest = tally-set p (suc n) m i ss old new (omega (arith, at)) e in
    omega (arith, rest)

-- fewer numbers rest than there are, where one is owned
cond-most : (b : Bool) → cond b 1 0 ≤ 1
cond-most true = omega arith
cond-most false = omega arith

weight-most : (p : Rest → Bool) (n : ℕ) (s : LabelState) → weight p n s ≤ 1
weight-most p n Free = omega arith
weight-most p n Owned = omega arith
weight-most p n (Resting until) = cond-most (p (record { number = n; until = until }))

tally-most : (p : Rest → Bool) (n : ℕ) (states : List LabelState) → tally p n states ≤ length states
tally-most p n [] = omega arith
tally-most p n (s ∷ ss) = omega (arith, tally-most p (suc n) ss, weight-most p n s)

tally-fewer : (p : Rest → Bool) (n i : ℕ) (states : List LabelState) → slice_get states i ≡ Some Owned → tally p n states < length states
tally-fewer p n i [] e = absurd cc
tally-fewer p n zero (s ∷ ss) e =
    let owned : s ≡ Owned = cc in
    rw owned (omega (arith, tally-most p (suc n) ss))
tally-fewer p n (suc i) (s ∷ ss) e = omega (arith, tally-fewer p (suc n) i ss e, weight-most p n s)

count-all : (rs : List Rest) → count_by (λ _. true) rs ≡ length rs
count-all [] = refl
count-all (r ∷ rs) = rw (count-cons (λ _. true) r rs) (omega (arith, count-all rs))

pub fewer-resting : (states : List LabelState) (rests : List Rest) (i : ℕ) → AreResting states rests → slice_get states i ≡ Some Owned
    → length rests < length states
fewer-resting states rests i h e = omega (arith, count-all rests, h (λ _. true), tally-fewer (λ _. true) 0 i states e)

-- ---- numbers within

tally-none : (p : Rest → Bool) (n : ℕ) (states : List LabelState) → ((k u : ℕ) → k < n + length states → p (record { number = k; until = u }) ≡ false)
    → tally p n states ≡ 0
tally-none p n [] h = refl
tally-none p n (Free ∷ ss) h = omega (arith, tally-none p (suc n) ss (λ k u less. h k u (omega (arith, less))))
tally-none p n (Owned ∷ ss) h = omega (arith, tally-none p (suc n) ss (λ k u less. h k u (omega (arith, less))))
tally-none p n (Resting until ∷ ss) h =
    rw (h n until (omega arith)) (omega (arith, tally-none p (suc n) ss (λ k u less. h k u (omega (arith, less)))))

all-within : (n : ℕ) (rs : List Rest) → count_by (λ r. nat_le n r.number) rs ≡ 0 → All (λ r. r.number < n) rs
all-within n [] h = All-nil _
all-within n (r ∷ rs) h =
    let sum : cond (nat_le n r.number) 1 0 + count_by (λ r. nat_le n r.number) rs ≡ 0 = sym (count-cons (λ r. nat_le n r.number) r rs) ∙ h in
    elim (cases_Bool (nat_le n r.number)) [
      | inl e ↦ let s = subst (λ b. cond b 1 0 + count_by (λ r. nat_le n r.number) rs ≡ 0) e sum in absurd (omega (arith, s))
      | inr e ↦ All-cons (λ r. r.number < n) r rs (leb-false n r.number e) (all-within n rs (omega (arith, sum)))
    ]

pub rests-within : (states : List LabelState) (rests : List Rest) → AreResting states rests → All (λ r. r.number < length states) rests
rests-within states rests h =
    all-within (length states) rests (h (λ r. nat_le (length states) r.number)
    ∙ tally-none (λ r. nat_le (length states) r.number) 0 states (λ k u less. lt-leb (length states) k (omega (arith, less))))

-- ---- what is due

pub due-tally : (now n : ℕ) (states : List LabelState) → tally (is_past now) n states ≡ count_by (is_due now) states
due-tally now n [] = refl
due-tally now n (s ∷ ss) =
    sym (sum_by-cons (λ x. cond (is_due now x) 1 0) s ss
    ∙ (ap (λ m. cond (is_due now s) 1 0 + m) (sym (due-tally now (suc n) ss)) ∙ ap (λ m. m + tally (is_past now) (suc n) ss) (one s)))
  where
    one : (s : LabelState) → cond (is_due now s) 1 0 ≡ weight (is_past now) n s
    one Free = refl
    one Owned = refl
    one (Resting until) = refl

-- ---- the numbers after a wake

tally-woken : (p : Rest → Bool) (now n : ℕ) (states : List LabelState)
    → tally p n (map (woken now) states) ≡ tally (λ r. not (is_past now r) && p r) n states
tally-woken p now n [] = refl
tally-woken p now n (Free ∷ ss) = ap (λ m. 0 + m) (tally-woken p now (suc n) ss)
tally-woken p now n (Owned ∷ ss) = ap (λ m. 0 + m) (tally-woken p now (suc n) ss)
tally-woken p now n (Resting until ∷ ss) =
    let rest = tally-woken p now (suc n) ss in
    elim (cases_Bool (nat_le until now)) [
      | inl e ↦ rw e (ap (λ m. 0 + m) rest)
      | inr e ↦ rw e (ap (λ m. cond (p (record { number = n; until = until })) 1 0 + m) rest)
    ]

pub woken-resting : (now : ℕ) (states : List LabelState) (rests : List Rest) → AreResting states rests
    → AreResting (map (woken now) states) (filter (λ r. not (is_past now r)) rests)
woken-resting now states rests h p = count-filter p (λ r. not (is_past now r)) rests ∙ (h _ ∙ sym (tally-woken p now 0 states))

-- whether the rest is that of number k, and over
abbrev past_at : ℕ → ℕ → Rest → Bool
past_at now k r = nat_eq k r.number && is_past now r

freed-other : (now k : ℕ) (rests : List Rest) (states : List LabelState) → count_by (past_at now k) rests ≡ 0
    → slice_get (freed now rests states) k ≡ slice_get states k
freed-other now k [] states h = refl
freed-other now k (r ∷ rs) states h =
    let sum : cond (past_at now k r) 1 0 + count_by (past_at now k) rs ≡ 0 = sym (count-cons (past_at now k) r rs) ∙ h in
    let none : count_by (past_at now k) rs ≡ 0 = omega (arith, sum) in
    elim (cases_Bool (is_past now r)) [
      | inl e ↦ rw e (freed-other now k rs (slice_set states r.number Free) none ∙ get-set_other states r.number k Free (λ same.
          let one : past_at now k r ≡ true = and_from (nat_eq k r.number) (is_past now r) (eq-eqb k r.number same) e in
          let s = subst (λ b. cond b 1 0 + count_by (past_at now k) rs ≡ 0) one sum in
          omega (arith, s)))
      | inr e ↦ rw e (freed-other now k rs states none)
    ]

-- a number that is free stays free
freed-free : (now k : ℕ) (rests : List Rest) (states : List LabelState) → slice_get states k ≡ Some Free
    → slice_get (freed now rests states) k ≡ Some Free
freed-free now k [] states h = h
freed-free now k (r ∷ rs) states h =
    let within = slice_get_within states k Free h in
    let still : slice_get (slice_set states r.number Free) k ≡ Some Free = elim (cases_eq k r.number) [
      | inl e ↦ rw (← e) (get-set_same states k Free within)
      | inr d ↦ get-set_other states r.number k Free d ∙ h
    ] in
    elim (cases_Bool (is_past now r)) [
      | inl e ↦ rw e (freed-free now k rs (slice_set states r.number Free) still)
      | inr e ↦ rw e (freed-free now k rs states h)
    ]

freed-here : (now k : ℕ) (rests : List Rest) (states : List LabelState) → k < length states → 0 < count_by (past_at now k) rests
    → slice_get (freed now rests states) k ≡ Some Free
freed-here now k [] states within h = absurd (omega (arith, h))
freed-here now k (r ∷ rs) states within h =
    let sum : 0 < cond (past_at now k r) 1 0 + count_by (past_at now k) rs = subst (λ m. 0 < m) (count-cons (past_at now k) r rs) h in
    let later : past_at now k r ≡ false → 0 < count_by (past_at now k) rs = λ f. let s =
    subst (λ b. 0 < cond b 1 0 + count_by (past_at now k) rs) f sum in omega (arith, s) in
    elim (cases_Bool (is_past now r)) [
      | inr e ↦ rw e (freed-here now k rs states within (later (and_right (nat_eq k r.number) (is_past now r) e)))
      | inl e ↦ rw e (elim (cases_eq k r.number) [
        | inl same ↦ freed-free now k rs (slice_set states r.number Free) (rw (← same) (get-set_same states k Free within))
        | inr d ↦ freed-here now k rs (slice_set states r.number Free) (omega (arith, within, length-set states r.number Free))
            (later (and_left (nat_eq k r.number) (is_past now r) (ne_eqb k r.number d)))
      ])
    ]

-- how often the rest of number k is over
abbrev past_weight : ℕ → Option LabelState → ℕ
past_weight now None = 0
past_weight now (Some Free) = 0
past_weight now (Some Owned) = 0
past_weight now (Some (Resting until)) = cond (nat_le until now) 1 0

tally-before : (now k n : ℕ) (states : List LabelState) → k < n → tally (past_at now k) n states ≡ 0
tally-before now k n [] less = refl
tally-before now k n (Free ∷ ss) less = omega (arith, tally-before now k (suc n) ss (omega (arith, less)))
tally-before now k n (Owned ∷ ss) less = omega (arith, tally-before now k (suc n) ss (omega (arith, less)))
tally-before now k n (Resting until ∷ ss) less =
    rw (ne_eqb k n (λ e. omega (arith, e, less))) (omega (arith, tally-before now k (suc n) ss (omega (arith, less))))

tally-at : (now k n i : ℕ) (states : List LabelState) → k ≡ n + i → tally (past_at now k) n states ≡ past_weight now (slice_get states i)
tally-at now k n i [] at = refl
tally-at now k n zero (Free ∷ ss) at = omega (arith, tally-before now k (suc n) ss (omega (arith, at)))
tally-at now k n zero (Owned ∷ ss) at = omega (arith, tally-before now k (suc n) ss (omega (arith, at)))
tally-at now k n zero (Resting until ∷ ss) at = rw (eq-eqb k n (omega (arith, at)), tally-before now k (suc n) ss (omega (arith, at))) (omega arith)
tally-at now k n (suc i) (Free ∷ ss) at = omega (arith, tally-at now k (suc n) i ss (omega (arith, at)))
tally-at now k n (suc i) (Owned ∷ ss) at = omega (arith, tally-at now k (suc n) i ss (omega (arith, at)))
tally-at now k n (suc i) (Resting until ∷ ss) at =
    rw (ne_eqb k n (λ e. omega (arith, e, at))) (omega (arith, tally-at now k (suc n) i ss (omega (arith, at))))

abbrev woken_in : ℕ → Option LabelState → Option LabelState
woken_in now None = None
woken_in now (Some s) = Some (woken now s)

get-map : (now : ℕ) (states : List LabelState) (k : ℕ) → slice_get (map (woken now) states) k ≡ woken_in now (slice_get states k)
get-map now [] k = refl
get-map now (s ∷ ss) zero = refl
get-map now (s ∷ ss) (suc k) = get-map now ss k

same-gets : (xs ys : List LabelState) → ((k : ℕ) → slice_get xs k ≡ slice_get ys k) → xs ≡ ys
same-gets [] [] h = refl
same-gets [] (y ∷ ys) h = let e = h 0 in absurd cc
same-gets (x ∷ xs) [] h = let e = h 0 in absurd cc
same-gets (x ∷ xs) (y ∷ ys) h =
    let first : x ≡ y = let e : Some x ≡ Some y = h 0 in cc in
    let rest = same-gets xs ys (λ k. h (suc k)) in
    cc

pub freed-all : (now : ℕ) (states : List LabelState) (rests : List Rest) → AreResting states rests → freed now rests states ≡ map (woken now) states
freed-all now states rests h = same-gets _ _ (λ k. at k (slice_get states k) refl ∙ sym (get-map now states k))
  where
    often : (k : ℕ) → count_by (past_at now k) rests ≡ past_weight now (slice_get states k)
    often k = h (past_at now k) ∙ tally-at now k 0 k states (omega arith)

    none : (k : ℕ) (o : Option LabelState) → slice_get states k ≡ o → past_weight now o ≡ 0 → woken_in now o ≡ o
        → slice_get (freed now rests states) k ≡ woken_in now (slice_get states k)
    none k o e w same = freed-other now k rests states (often k ∙ (ap (past_weight now) e ∙ w)) ∙ (e ∙ (sym same ∙ ap (woken_in now) (sym e)))

    at : (k : ℕ) (o : Option LabelState) → slice_get states k ≡ o → slice_get (freed now rests states) k ≡ woken_in now (slice_get states k)
    at k None e = none k None e refl refl
    at k (Some Free) e = none k (Some Free) e refl refl
    at k (Some Owned) e = none k (Some Owned) e refl refl
    at k (Some (Resting until)) e = by (nat_le until now) refl
      where
        by : (b : Bool) → nat_le until now ≡ b → slice_get (freed now rests states) k ≡ woken_in now (slice_get states k)
        by true d =
            freed-here now k rests states (slice_get_within states k (Resting until) e)
            (subst (λ m. 0 < m) (sym (often k ∙ (ap (past_weight now) e ∙ ap (λ b. cond b 1 0) d))) (omega arith))
            ∙ sym (ap (woken_in now) e ∙ ap (λ b. Some (cond b Free (Resting until))) d)
        by false d = none k (Some (Resting until)) e (ap (λ b. cond b 1 0) d) (ap (λ b. Some (cond b Free (Resting until))) d)

-- ---- the fields of a label space

pub space-made : (life n capacity : ℕ) → life ≤ 1000 → n ≤ 65536 → n ≤ capacity → IsSpace life (replicate n Free) [] capacity
space-made life n capacity short few room = record {
  short = short;
  few = omega (arith, few, length-replicate n Free);
  room = omega (arith, room, length-replicate n Free);
  listed = λ p. sym (free-tally p 0 n);
}
  where
    free-tally : (p : Rest → Bool) (m n : ℕ) → tally p m (replicate n Free) ≡ 0
    free-tally p m zero = refl
    free-tally p m (suc n) = omega (arith, free-tally p (suc m) n)

-- a number that does not rest becomes another that does not
pub space-set : (life : ℕ) (states : List LabelState) (rests : List Rest) (capacity i : ℕ) (old new : LabelState) → slice_get states i ≡ Some old
    → ((p : Rest → Bool) → weight p i old ≡ 0) → ((p : Rest → Bool) → weight p i new ≡ 0) → IsSpace life states rests capacity
    → IsSpace life (slice_set states i new) rests capacity
space-set life states rests capacity i old new at before after h = record {
  short = h.short;
  few = omega (arith, h.few, length-set states i new);
  room = omega (arith, h.room, length-set states i new);
  listed = λ p. omega (arith, h.listed p, tally-set p 0 i i states old new (omega arith) at, before p, after p);
}

-- an owned number rests, and comes to the list
pub space-rest : (life : ℕ) (states : List LabelState) (rests : List Rest) (capacity more i until : ℕ) → slice_get states i ≡ Some Owned
    → capacity ≤ more
    → IsSpace life states rests capacity → IsSpace life (slice_set states i (Resting until)) (rests ++ record { number = i; until = until } ∷ []) more
space-rest life states rests capacity more i until at grows h = record {
  short = h.short;
  few = omega (arith, h.few, length-set states i (Resting until));
  room = omega (arith, h.room, grows, length-set states i (Resting until));
  listed = λ p. omega (
    arith,
    h.listed p,
    tally-set p 0 i i states Owned (Resting until) (omega arith) at,
    count-push p rests (record { number = i; until = until }),
  );
}

pub space-woken : (life : ℕ) (states : List LabelState) (rests : List Rest) (capacity now : ℕ) → IsSpace life states rests capacity
    → IsSpace life (map (woken now) states) (filter (λ r. not (is_past now r)) rests) capacity
space-woken life states rests capacity now h = record {
  short = h.short;
  few = omega (arith, h.few, length-map states (woken now));
  room = omega (arith, h.room, length-map states (woken now));
  listed = woken-resting now states rests h.listed;
}

-- what stands at the place of a label of the space
pub label-at : (space : Space) (label : ℕ) (s : LabelState) → state_of space label ≡ Some s → slice_get space.states (label - 16) ≡ Some s
label-at space label s h = elim (cases_Bool (nat_lt label 16)) [
  | inl e ↦ let none = sym (ap (λ (b : Bool). cond b None (slice_get space.states (label - 16))) e) ∙ h in absurd cc
  | inr e ↦ sym (ap (λ (b : Bool). cond b None (slice_get space.states (label - 16))) e) ∙ h
]

pub past-or-later : (now until : ℕ) → nat_lt now until ≡ not (nat_le until now)
past-or-later now until = elim (cases_lt now until) [
  | inl less ↦ lt-ltb now until less ∙ sym (ap not (lt-leb until now less))
  | inr more ↦ le-ltb now until more ∙ sym (ap not (le-leb until now more))
]

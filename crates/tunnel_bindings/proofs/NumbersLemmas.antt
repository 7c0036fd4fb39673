-- The states of numbers beside the marks of the free ones.
use Rattle.std.proofs.Common.{inl, inr, zero, suc, ◌≡◌, ◌≢◌, ℕ, ◌+◌, ◌-◌, ◌*◌, ◌/◌, ◌%◌, ◌<◌, ◌≤◌, true, false, nat_eq, List, [], ◌∷◌, ◌++◌, length, replicate, slice_index, slice_get, slice_set, Option, None, Some, refl, sym, ap, ◌∙◌, arith}
use Rattle.std.specs.Int.{bit_at}
use Rattle.std.proofs.lemmas.Nat.Bits.{bit_at-zero}
use Rattle.std.proofs.lemmas.Bool.{cases_eq, both_ways}
use Rattle.std.proofs.lemmas.List.{length-set, length-replicate}
use Rattle.tunnel_bindings.specs.declared.state.LabelState.{LabelState}
use Rattle.tunnel_bindings.specs.declared.state.LabelState.TheVariants.{Free, Owned, Resting}
use Rattle.tunnel_bindings.specs.Marks.{is_marked, marked, unmarked, IsFirstMark, NoMark}
use Rattle.tunnel_bindings.specs.Numbers.{is_free, IsFirstFree, NoFree, AreMarked, IsWritten, all_of}
use Rattle.tunnel_bindings.proofs.MarksLemmas.{marked_same, marked_other, unmarked_same, unmarked_other, marked-length, unmarked-length}

-- ---- what a write leaves

pub get-set_same : {X : Type 0} (xs : List X) (i : ℕ) (y : X) → i < length xs → slice_get (slice_set xs i y) i ≡ Some y
get-set_same [] i y within = absurd (omega (arith, within))
get-set_same (x ∷ xs) zero y within = refl
get-set_same (x ∷ xs) (suc i) y within = get-set_same xs i y (omega (arith, within))

pub get-set_other : {X : Type 0} (xs : List X) (i k : ℕ) (y : X) → k ≢ i → slice_get (slice_set xs i y) k ≡ slice_get xs k
get-set_other [] i k y apart = refl
get-set_other (x ∷ xs) zero zero y apart = absurd (apart refl)
get-set_other (x ∷ xs) zero (suc k) y apart = refl
get-set_other (x ∷ xs) (suc i) zero y apart = refl
get-set_other (x ∷ xs) (suc i) (suc k) y apart = get-set_other xs i k y (λ e. apart (ap suc e))

-- ---- marks of the free numbers

pub set-free : (states : List LabelState) (marks : List ℕ) (n : ℕ) → n < length states → AreMarked states marks
    → AreMarked (slice_set states n Free) (marked marks n)
set-free states marks n within h =
    let fits : n < 64 * length marks = omega (arith, within, h.room) in
    record {
      room = omega (arith, h.room, length-set states n Free, marked-length marks n);
      same = λ k. elim (cases_eq k n) [
        | inl e ↦ rw e (marked_same marks n fits ∙ sym (ap is_free (get-set_same states n Free within)))
        | inr d ↦ marked_other marks n fits k d ∙ (h.same k ∙ sym (ap is_free (get-set_other states n k Free d)))
      ];
    }

pub set-other : (states : List LabelState) (marks : List ℕ) (n : ℕ) (s : LabelState) → is_free (Some s) ≡ false → n < length states
    → AreMarked states marks → AreMarked (slice_set states n s) (unmarked marks n)
set-other states marks n s kind within h =
    let fits : n < 64 * length marks = omega (arith, within, h.room) in
    record {
      room = omega (arith, h.room, length-set states n s, unmarked-length marks n);
      same = λ k. elim (cases_eq k n) [
        | inl e ↦ rw e (unmarked_same marks n fits ∙ sym (ap is_free (get-set_same states n s within) ∙ kind))
        | inr d ↦ unmarked_other marks n fits k d ∙ (h.same k ∙ sym (ap is_free (get-set_other states n k s d)))
      ];
    }

pub not_free : (s : LabelState) → s ≢ Free → is_free (Some s) ≡ false
not_free Free d = absurd (d refl)
not_free Owned d = refl
not_free (Resting until) d = refl

-- ---- the least free number

is-free : (o : Option LabelState) → is_free o ≡ true → o ≡ Some Free
is-free None e = absurd cc
is-free (Some Free) e = refl
is-free (Some Owned) e = absurd cc
is-free (Some (Resting until)) e = absurd cc

is_not : (o : Option LabelState) → is_free o ≡ false → o ≢ Some Free
is_not o e h = both_ways (is_free o) e (ap is_free h)

pub first-free : (states : List LabelState) (marks : List ℕ) (n : ℕ) → AreMarked states marks → IsFirstMark marks n → IsFirstFree states n
first-free states marks n h first = record {
  free = is-free _ (sym (h.same n) ∙ first.here);
  below = λ k less. is_not _ (sym (h.same k) ∙ first.below k less);
}

pub none-free : (states : List LabelState) (marks : List ℕ) → AreMarked states marks → NoMark marks → NoFree states
none-free states marks h none n = is_not _ (sym (h.same n) ∙ none n)

-- ---- the numbers whose states are not written

pub get_front : (xs ys : List LabelState) (n : ℕ) → n < length xs → slice_get (xs ++ ys) n ≡ slice_get xs n
get_front [] ys n within = absurd (omega (arith, within))
get_front (x ∷ xs) ys zero within = refl
get_front (x ∷ xs) ys (suc n) within = get_front xs ys n (omega (arith, within))

pub set_front : (xs ys : List LabelState) (n : ℕ) (s : LabelState) → n < length xs → slice_set (xs ++ ys) n s ≡ slice_set xs n s ++ ys
set_front [] ys n s within = absurd (omega (arith, within))
set_front (x ∷ xs) ys zero s within = refl
set_front (x ∷ xs) ys (suc n) s within = ap (λ (zs : List LabelState). x ∷ zs) (set_front xs ys n s (omega (arith, within)))

get_within : (xs : List LabelState) (n : ℕ) (s : LabelState) → slice_get xs n ≡ Some s → n < length xs
get_within [] n s e = absurd cc
get_within (x ∷ xs) zero s e = omega arith
get_within (x ∷ xs) (suc n) s e = (let less = get_within xs n s e in omega (arith, less))

get_next : (xs ys : List LabelState) (s : LabelState) → slice_get (xs ++ s ∷ ys) (length xs) ≡ Some s
get_next [] ys s = refl
get_next (x ∷ xs) ys s = get_next xs ys s

get_apart : (xs : List LabelState) (s : LabelState) (k : ℕ) → k ≢ length xs → slice_get (xs ++ s ∷ []) k ≡ slice_get xs k
get_apart [] s zero apart = absurd (apart refl)
get_apart [] s (suc k) apart = refl
get_apart (x ∷ xs) s zero apart = refl
get_apart (x ∷ xs) s (suc k) apart = get_apart xs s k (λ e. apart (ap suc e))

append_none : (xs : List LabelState) → xs ++ [] ≡ xs
append_none [] = refl
append_none (x ∷ xs) = ap (λ (zs : List LabelState). x ∷ zs) (append_none xs)

append_again : (xs ys zs : List LabelState) → (xs ++ ys) ++ zs ≡ xs ++ (ys ++ zs)
append_again [] ys zs = refl
append_again (x ∷ xs) ys zs = ap (λ (ws : List LabelState). x ∷ ws) (append_again xs ys zs)

length_next : (xs : List LabelState) (s : LabelState) → length (xs ++ s ∷ []) ≡ length xs + 1
length_next [] s = refl
length_next (x ∷ xs) s = (let one = length_next xs s in omega (arith, one))

more_free : (m k : ℕ) → m ≡ k + 1 → replicate m Free ≡ Free ∷ replicate k Free
more_free zero k e = absurd (omega (arith, e))
more_free (suc m) k e = (let same : m ≡ k = omega (arith, e) in ap (λ (n : ℕ). Free ∷ replicate n Free) same)

-- one state more is written
pub written_next : (xs : List LabelState) (count : ℕ) → length xs < count
    → (xs ++ Free ∷ []) ++ replicate (count - length (xs ++ Free ∷ [])) Free ≡ xs ++ replicate (count - length xs) Free
written_next xs count less =
    let one = length_next xs Free in
    let left : count - length xs ≡ count - length (xs ++ Free ∷ []) + 1 = omega (arith, one, less) in
    append_again xs (Free ∷ []) (replicate (count - length (xs ++ Free ∷ [])) Free)
    ∙ ap (λ (zs : List LabelState). xs ++ zs) (sym (more_free _ _ left))

-- all states are written
pub written_all : (xs : List LabelState) (count : ℕ) → count ≤ length xs → xs ++ replicate (count - length xs) Free ≡ xs
written_all xs count least =
    let none : count - length xs ≡ 0 = omega (arith, least) in
    ap (λ (n : ℕ). xs ++ replicate n Free) none ∙ append_none xs

pub next-marked : (xs : List LabelState) (marks : List ℕ) → length xs < 64 * length marks → AreMarked xs marks
    → AreMarked (xs ++ Free ∷ []) (marked marks (length xs))
next-marked xs marks fits h = record {
  room = (let one = length_next xs Free in let long = marked-length marks (length xs) in omega (arith, fits, one, long));
  same = λ k. elim (cases_eq k (length xs)) [
    | inl e ↦ rw e (marked_same marks (length xs) fits ∙ sym (ap is_free (get_next xs [] Free)))
    | inr d ↦ marked_other marks (length xs) fits k d ∙ (h.same k ∙ sym (ap is_free (get_apart xs Free k d)))
  ];
}

-- ---- all numbers

replicate_more : (a b : ℕ) → replicate a Free ++ replicate b Free ≡ replicate (a + b) Free
replicate_more zero b = (let same : b ≡ 0 + b = omega arith in ap (λ (n : ℕ). replicate n Free) same)
replicate_more (suc a) b =
    ap (λ (zs : List LabelState). Free ∷ zs) (replicate_more a b) ∙ sym (more_free (suc a + b) (a + b) (omega arith))

length_more : (xs ys : List LabelState) → length (xs ++ ys) ≡ length xs + length ys
length_more [] ys = omega arith
length_more (x ∷ xs) ys = (let more = length_more xs ys in omega (arith, more))

-- what is left by the states up to a number
pub record IsReached (count number : ℕ) (old new : List LabelState) : Type 0 where
  pub all : all_of count new ≡ all_of count old
  pub there : number < length new
  pub within : length new ≤ count

pub reached : (count number : ℕ) (old new : List LabelState) → number < count → length old ≤ count
    → new ≡ old ++ replicate (number + 1 - length old) Free → IsReached count number old new
reached count number old new less within e =
    let a : ℕ = number + 1 - length old in
    let long : length new ≡ length old + a =
    ap length e ∙ (length_more old (replicate a Free) ∙ ap (λ (n : ℕ). length old + n) (length-replicate a Free)) in
    let sum : a + (count - length new) ≡ count - length old = omega (arith, long, less, within) in
    record {
      all =
          ap (λ (xs : List LabelState). xs ++ replicate (count - length new) Free) e
          ∙ (append_again old (replicate a Free) (replicate (count - length new) Free)
          ∙ (ap (λ (xs : List LabelState). old ++ xs) (replicate_more a (count - length new))
          ∙ ap (λ (n : ℕ). old ++ replicate n Free) sum));
      there = omega (arith, long);
      within = omega (arith, long, less, within);
    }

-- a state that is written
pub set-all : (count number : ℕ) (states : List LabelState) (s : LabelState) → number < length states
    → all_of count (slice_set states number s) ≡ slice_set (all_of count states) number s
set-all count number states s less =
    ap (λ (n : ℕ). slice_set states number s ++ replicate (count - n) Free) (length-set states number s)
    ∙ sym (set_front states (replicate (count - length states) Free) number s less)

pub length-all : (count : ℕ) (states : List LabelState) → length states ≤ count → length (all_of count states) ≡ count
length-all count states within =
    let more = length_more states (replicate (count - length states) Free) in
    let left = length-replicate (count - length states) Free in
    omega (arith, more, left, within)

-- the states up to a number of these, of which the whole is seen
pub reached-of : (count number : ℕ) (old new now : List LabelState) → all_of count old ≡ now → number < length now → length old ≤ count
    → new ≡ old ++ replicate (number + 1 - length old) Free → IsReached count number old new
reached-of count number old new now view less within e =
    let size = length-all count old within in
    let same = ap length view in
    reached count number old new (omega (arith, less, size, same)) within e

pub set-seen : (count number : ℕ) (old new now : List LabelState) (s : LabelState) → all_of count old ≡ now → IsReached count number old new
    → all_of count (slice_set new number s) ≡ slice_set now number s
set-seen count number old new now s view r =
    set-all count number new s r.there ∙ ap (λ (xs : List LabelState). slice_set xs number s) (r.all ∙ view)

pub written-free : (count number capacity : ℕ) (old new : List LabelState) (marks : List ℕ) → IsReached count number old new → count ≤ capacity
    → count ≤ 64 * length marks → AreMarked new marks → IsWritten count (slice_set new number Free) capacity (marked marks number)
written-free count number capacity old new marks r room markable h = record {
  within = (let long = length-set new number Free in omega (arith, long, r.within));
  room = room;
  markable = (let long = marked-length marks number in omega (arith, long, markable));
  marked = set-free new marks number r.there h;
}

pub written-other : (count number capacity : ℕ) (old new : List LabelState) (marks : List ℕ) (s : LabelState) → s ≢ Free
    → IsReached count number old new → count ≤ capacity → count ≤ 64 * length marks → AreMarked new marks
    → IsWritten count (slice_set new number s) capacity (unmarked marks number)
written-other count number capacity old new marks s apart r room markable h = record {
  within = (let long = length-set new number s in omega (arith, long, r.within));
  room = room;
  markable = (let long = unmarked-length marks number in omega (arith, long, markable));
  marked = set-other new marks number s (not_free s apart) r.there h;
}

-- the least free one of all
pub first-of : (count : ℕ) (states : List LabelState) (marks : List ℕ) (n : ℕ) → AreMarked states marks → IsFirstMark marks n
    → IsFirstFree (all_of count states) n
first-of count states marks n h first =
    let own = first-free states marks n h first in
    let here = get_within states n Free own.free in
    record {
      free = get_front states (replicate (count - length states) Free) n here ∙ own.free;
      below =
          λ k less e. own.below k less (sym (get_front states (replicate (count - length states) Free) k (omega (arith, here, less))) ∙ e);
    }

pub next-of : (count : ℕ) (states : List LabelState) (marks : List ℕ) → AreMarked states marks → NoMark marks → length states < count
    → IsFirstFree (all_of count states) (length states)
next-of count states marks h none less =
    let left : count - length states ≡ count - length states - 1 + 1 = omega (arith, less) in
    record {
      free =
          ap (λ (zs : List LabelState). slice_get (states ++ zs) (length states)) (more_free _ _ left)
          ∙ get_next states (replicate (count - length states - 1) Free) Free;
      below =
          λ k before e. none-free states marks h none k (sym (get_front states (replicate (count - length states) Free) k before) ∙ e);
    }

pub none-of : (count : ℕ) (states : List LabelState) (marks : List ℕ) → AreMarked states marks → NoMark marks → count ≤ length states
    → NoFree (all_of count states)
none-of count states marks h none least n e =
    none-free states marks h none n (sym (ap (λ (xs : List LabelState). slice_get xs n) (written_all states count least)) ∙ e)

-- ---- no number has a mark

zero_at : (m i : ℕ) → slice_index (replicate m 0) i ≡ 0
zero_at zero i = refl
zero_at (suc m) zero = refl
zero_at (suc m) (suc i) = zero_at m i

no_mark : (m k : ℕ) → is_marked (replicate m 0) k ≡ false
no_mark m k = ap (λ b. nat_eq b 1) (ap (λ w. bit_at w (k % 64)) (zero_at m (k / 64)) ∙ bit_at-zero (k % 64))

pub none-written : (count capacity m : ℕ) → count ≤ capacity → count ≤ 64 * m → IsWritten count [] capacity (replicate m 0)
none-written count capacity m room markable = record {
  within = omega arith;
  room = room;
  markable = (let long : length (replicate {A = ℕ} m 0) ≡ m = length-replicate m 0 in omega (arith, long, markable));
  marked = record { room = omega arith; same = λ k. no_mark m k };
}

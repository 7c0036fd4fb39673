-- Runs, one after another; and where a list is cut.
use Rattle.std.specs.Prelude.{slice_get}
use Rattle.std.proofs.Common.{◌≡◌, ℕ, zero, suc, ◌+◌, ◌-◌, ◌<◌, ◌≤◌, ◌++◌, take, drop, length, List, [], ◌∷◌, Some, is_some, refl, sym, ap, subst, ◌∙◌, append_assoc, arith}
use Rattle.std.specs.List.{AllByRecursion}
use Rattle.std.proofs.lemmas.Bool.{true≢false}
use Rattle.scenario_defs.specs.declared.event.Timed.{Timed}
use Rattle.network_defs.specs.Events.{Happened, Done}
use Rattle.network_defs.specs.Run.{Traced, outcome, traced, Runs}
use Rattle.network_defs.specs.World.{World}
use Rattle.network_laws.proofs.Lists.{each_append}

-- ---- lists

pub cut_at : {X : Type 0} (xs : List X) (place : ℕ) (x : X) → slice_get xs place ≡ Some x → xs ≡ take place xs ++ (x ∷ drop (suc place) xs)
cut_at [] place x e = absurd (true≢false (ap is_some (sym e)))
cut_at (y ∷ xs) zero x e = (let same : y ≡ x = cc in ap (λ z. z ∷ xs) same)
cut_at (y ∷ xs) (suc place) x e = ap (λ l. y ∷ l) (cut_at xs place x e)

pub take_to : {X : Type 0} (xs : List X) (place : ℕ) (x : X) → slice_get xs place ≡ Some x → take (suc place) xs ≡ take place xs ++ x ∷ []
take_to [] place x e = absurd (true≢false (ap is_some (sym e)))
take_to (y ∷ xs) zero x e = (let same : y ≡ x = cc in ap (λ z. z ∷ []) same)
take_to (y ∷ xs) (suc place) x e = ap (λ l. y ∷ l) (take_to xs place x e)

pub get_first : {X : Type 0} (xs ys : List X) (place : ℕ) → place < length xs → slice_get (xs ++ ys) place ≡ slice_get xs place
get_first [] ys place h = absurd (omega (arith, h))
get_first (x ∷ xs) ys zero h = refl
get_first (x ∷ xs) ys (suc place) h = get_first xs ys place (omega (arith, h))

pub get_after : {X : Type 0} (xs ys : List X) (place : ℕ) → length xs ≤ place → slice_get (xs ++ ys) place ≡ slice_get ys (place - length xs)
get_after [] ys place h = (let same : place - 0 ≡ place = omega arith in ap (slice_get ys) (sym same))
get_after (x ∷ xs) ys zero h = absurd (omega (arith, h))
get_after (x ∷ xs) ys (suc place) h =
    (let same : suc place - suc (length xs) ≡ place - length xs = omega arith in
    get_after xs ys place (omega (arith, h)) ∙ ap (slice_get ys) (sym same))

pub all_from_places : {X : Type 0} (P : X → Type 0) (xs : List X) → ((place : ℕ) (x : X) → slice_get xs place ≡ Some x → P x) → AllByRecursion P xs
all_from_places P [] h = tt
all_from_places P (x ∷ xs) h = (h 0 x refl, all_from_places P xs (λ place y e. h (suc place) y e))

-- ---- runs

-- A run of two rows of events: a run of the first ones, and one of the later ones.
pub record Split (old : World) (number : ℕ) (first more : List Timed) (trace : List Traced) (new : World) : Type 0 where
  pub middle : World
  pub early : List Traced
  pub late : List Traced
  pub whole : trace ≡ early ++ late
  pub begins : Runs old number first early middle
  pub goes_on : (place : ℕ) → place ≡ number + length first → Runs middle place more late new

pub runs_split : (first more : List Timed) (old : World) (number : ℕ) (trace : List Traced) (new : World) → Runs old number (first ++ more) trace new
    → Split old number first more trace new
runs_split [] more old number trace new run = record {
  middle = old;
  early = [];
  late = trace;
  whole = refl;
  begins = (refl, refl);
  goes_on = λ place e. (let same : number ≡ place = omega (arith, e) in subst (λ n. Runs old n more trace new) same run);
}
runs_split (timed ∷ first) more old number trace new run =
    let rest = runs_split first more run.1 (number + 1) run.2 new run.5 in
    record {
      middle = rest.middle;
      early = traced number run.0 ++ rest.early;
      late = rest.late;
      whole = run.4 ∙ ap (λ (l : List Traced). traced number run.0 ++ l) rest.whole ∙ sym (append_assoc (traced number run.0) rest.early rest.late);
      begins = (run.0, run.1, rest.early, run.3, refl, rest.begins);
      goes_on = λ place e. rest.goes_on place (omega (arith, e));
    }

-- A run goes on by one event.
pub runs_one_more : (first : List Timed) (timed : Timed) (old middle next : World) (number : ℕ) (early : List Traced) (acts : List Happened)
    → Runs old number first early middle → outcome middle timed ≡ Done acts next
    → (place : ℕ) → place ≡ number + length first → Runs old number (first ++ timed ∷ []) (early ++ (traced place acts ++ [])) next
runs_one_more [] timed old middle next number early acts run is place e =
    let here : number ≡ place = omega (arith, e) in
    let own : outcome old timed ≡ Done acts next = subst (λ (w : World). outcome w timed ≡ Done acts next) run.1 is in
    (acts, next, [], own, ap (λ (t : List Traced). t ++ (traced place acts ++ [])) run.0 ∙ ap (λ n. traced n acts ++ []) (sym here), (refl, refl))
runs_one_more (one ∷ first) timed old middle next number early acts run is place e =
    let rest = runs_one_more first timed run.1 middle next (number + 1) run.2 acts run.5 is place (omega (arith, e)) in (
      run.0,
      run.1,
      run.2 ++ (traced place acts ++ []),
      run.3,
      ap (λ (t : List Traced). t ++ (traced place acts ++ [])) run.4
          ∙ append_assoc (traced number run.0) run.2 (traced place acts ++ []),
      rest,
    )

-- ---- numbers of events

traced_numbers : (low high number : ℕ) (acts : List Happened) → low ≤ number → number < high
    → AllByRecursion (λ step. (low ≤ step.event) × (step.event < high)) (traced number acts)
traced_numbers low high number [] a b = tt
traced_numbers low high number (happened ∷ more) a b = ((a, b), traced_numbers low high number more a b)

-- What happens in a run has the numbers of its events.
pub run_numbers : (events : List Timed) (old : World) (number : ℕ) (trace : List Traced) (new : World) → Runs old number events trace new
    → (low high : ℕ) → low ≤ number → number + length events ≤ high → AllByRecursion (λ step. (low ≤ step.event) × (step.event < high)) trace
run_numbers [] old number trace new run low high a b =
    subst (AllByRecursion (λ (step : Traced). (low ≤ step.event) × (step.event < high))) (sym run.0) tt
run_numbers (timed ∷ more) old number trace new run low high a b =
    subst (AllByRecursion (λ (step : Traced). (low ≤ step.event) × (step.event < high))) (sym run.4)
    (each_append (λ (step : Traced). (low ≤ step.event) × (step.event < high)) (traced number run.0) run.2
    (traced_numbers low high number run.0 a (omega (arith, b)))
    (run_numbers more run.1 (number + 1) run.2 new run.5 low high (omega (arith, a)) (omega (arith, b))))

-- two runs, one after the other
pub runs_join : (first more : List Timed) (old middle new : World) (number : ℕ) (early late : List Traced) → Runs old number first early middle
    → (place : ℕ) → place ≡ number + length first → Runs middle place more late new → Runs old number (first ++ more) (early ++ late) new
runs_join [] more old middle new number early late run place e later =
    let here : place ≡ number = omega (arith, e) in
    subst (λ (t : List Traced). Runs old number more (t ++ late) new) (sym run.0)
    (subst (λ (w : World). Runs w number more late new) run.1 (subst (λ n. Runs middle n more late new) here later))
runs_join (timed ∷ first) more old middle new number early late run place e later =
    let rest = runs_join first more run.1 middle new (number + 1) run.2 late run.5 place (omega (arith, e)) later in
    (run.0, run.1, run.2 ++ late, run.3, ap (λ (t : List Traced). t ++ late) run.4 ∙ append_assoc (traced number run.0) run.2 late, rest)

-- ---- lengths

pub long_take : {X : Type 0} (count : ℕ) (xs : List X) → count ≤ length xs → length (take count xs) ≡ count
long_take zero xs h = refl
long_take (suc count) [] h = absurd (omega (arith, h))
long_take (suc count) (x ∷ xs) h = (let rest = long_take count xs (omega (arith, h)) in omega (arith, rest))

take_nothing : {X : Type 0} (count : ℕ) → Path (List X) [] (take count [])
take_nothing zero = refl
take_nothing (suc count) = refl

pub take_two : {X : Type 0} (first more : ℕ) (xs : List X) → take (first + more) xs ≡ take first xs ++ take more (drop first xs)
take_two zero more xs = (let same : 0 + more ≡ more = omega arith in ap (λ n. take n xs) same)
take_two (suc first) more [] = (let same : suc first + more ≡ suc (first + more) = omega arith in ap (λ n. take n []) same ∙ take_nothing more)
take_two (suc first) more (x ∷ xs) =
    (let same : suc first + more ≡ suc (first + more) = omega arith in ap (λ n. take n (x ∷ xs)) same ∙ ap (λ l. x ∷ l) (take_two first more xs))

pub cut_in_two : {X : Type 0} (count : ℕ) (xs : List X) → xs ≡ take count xs ++ drop count xs
cut_in_two zero xs = refl
cut_in_two (suc count) [] = refl
cut_in_two (suc count) (x ∷ xs) = ap (λ l. x ∷ l) (cut_in_two count xs)

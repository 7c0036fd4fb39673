-- The pass over the markers, line by line.
use Rattle.std.specs.Prelude.{option_map}
use Rattle.std.proofs.Common.{◌≡◌, ℕ, zero, suc, ◌+◌, ◌-◌, ◌<◌, Bool, true, false, cond, ◌++◌, take, drop, length, get_or, List, [], ◌∷◌, slice_get, Option, None, Some, refl, sym, ap, ◌∙◌, arith, length-drop}
use Rattle.std.specs.List.{list_any}
use Rattle.std.proofs.lemmas.Option.{none-some}
use Rattle.audit_defs.specs.scenario_defs.declared.event.Script.{Script}
use Rattle.audit_defs.specs.scenario_defs.declared.event.Timed.{Timed}
use Rattle.audit_defs.specs.scenario_defs.declared.report.ReportLine.{ReportLine}
use Rattle.audit_defs.specs.declared.verdict.Numbered.{Numbered}
use Rattle.audit_defs.specs.declared.verdict.ReportLines.{ReportLines}
use Rattle.audit_defs.specs.Markers.{values, markers, is_marker, is_state, marks}
use Rattle.audit_defs.specs.Verdicts.{is_halt}
use Rattle.audit_defs.proofs.Lists.{some_same}
use Rattle.audit_defs.proofs.Fitting.{take_whole}
use Rattle.audit_events.specs.declared.fate.Marked.{Marked}
use Rattle.audit_events.specs.Marking.{IsOnWay}
use Rattle.audit_events.specs.Placed.{Found, found, mark_at, placed}
use Rattle.audit_events.proofs.MarkingLemmas.{CleanTo, one_value, one_marker, any_more}
use Rattle.audit_events.proofs.PlacedLemmas.{then_placed, placed_as, onto, placed_from, placed_append}

pub item_at : {X : Type 0} (xs : List X) (i : ℕ) (x : X) → i < length xs → x ≡ get_or xs i x → slice_get xs i ≡ Some x
item_at [] i x h e = absurd (omega (arith, h))
item_at (y ∷ ys) zero x h e = ap (λ z. Some z) (sym e)
item_at (y ∷ ys) (suc i) x h e = item_at ys i x (omega (arith, h)) e

drop_nothing : {X : Type 0} (n : ℕ) → drop {A = X} n [] ≡ []
drop_nothing zero = refl
drop_nothing (suc n) = refl

drop_drop : {X : Type 0} (xs : List X) (a b : ℕ) → drop a (drop b xs) ≡ drop (b + a) xs
drop_drop xs a zero = ap (λ n. drop n xs) (let same : a ≡ zero + a = omega arith in same)
drop_drop [] a (suc b) = drop_nothing a ∙ sym (drop_nothing (suc b + a))
drop_drop (x ∷ xs) a (suc b) = drop_drop xs a b ∙ ap (λ n. drop n (x ∷ xs)) (let same : suc (b + a) ≡ suc b + a = omega arith in same)

-- the rest of a list, as a slice has it
pub rest_whole : {X : Type 0} (xs : List X) (n : ℕ) → take (length xs - n) (drop n xs) ≡ drop n xs
rest_whole xs n = ap (λ k. take k (drop n xs)) (sym (length-drop n xs)) ∙ take_whole (drop n xs)

-- where the rest begins after what is found
record RestAt (line : ReportLine) (number : ℕ) (events : List Timed) (here : Found) : Type 0 where
  passed : ℕ
  place : here.place ≡ number + passed
  rest : here.rest ≡ drop (suc passed) events

found_rest : (line : ReportLine) (number : ℕ) (events : List Timed) (here : Found) → found line number events ≡ Some here
    → RestAt line number events here
found_rest line number [] here e = absurd (none-some here e)
found_rest line number (timed ∷ events) here e = by (marks timed line) (is_state timed.event) e (found_rest line (number + 1) events here)
  where
    by : (m s : Bool) → cond m (Some (record { place = number; rest = events })) (cond s None (found line (number + 1) events)) ≡ Some here →
        (found line (number + 1) events ≡ Some here → RestAt line (number + 1) events here) → RestAt line number (timed ∷ events) here
    by true s same later =
        let own = some_same (record { place = number; rest = events }) here same in
        record {
          passed = 0;
          place = (let e = ap (λ (f : Found). f.place) own in let sum : here.place ≡ number + 0 = omega (arith, e) in sum);
          rest =
              sym (ap (λ (f : Found). f.rest) own);
        }
    by false true same later = absurd (none-some here same)
    by false false same later =
        let r = later same in
        record {
          passed = suc r.passed;
          place = (let e = r.place in let sum : here.place ≡ number + suc r.passed = omega (arith, e) in sum);
          rest =
              r.rest;
        }

rest_after : (line : ReportLine) (number : ℕ) (events : List Timed) (here : Found) → found line number (drop number events) ≡ Some here
    → here.rest ≡ drop (here.place + 1) events
rest_after line number events here e =
    let r = found_rest line number (drop number events) here e in
    r.rest ∙ (drop_drop events (suc r.passed) number
    ∙ ap (λ n. drop n events) (let at = r.place in let same : number + suc r.passed ≡ here.place + 1 = omega (arith, at) in same))

-- what a place was found by
record FoundAt (line : ReportLine) (number : ℕ) (events : List Timed) (place : ℕ) : Type 0 where
  here : Found
  is : found line number (drop number events) ≡ Some here
  same : here.place ≡ place

found_by : (o : Option Found) (place : ℕ) → option_map (λ (here : Found). here.place) o ≡ Some place
    → (here : Found) × (o ≡ Some here) × (here.place ≡ place)
found_by None place e = absurd (none-some place e)
found_by (Some here) place e = (here, refl, some_same here.place place e)

pub not_found : (o : Option Found) → option_map (λ (here : Found). here.place) o ≡ None → o ≡ None
not_found None e = refl
not_found (Some here) e = absurd (none-some here.place (sym e))

module _ (script : Script) (report : ReportLines) (count : ℕ) (marked : List Marked) (next : ℕ) (way : IsOnWay script report count marked next) where
  unhalted_more : (numbered : Numbered) → slice_get report.lines count ≡ Some numbered → is_halt numbered.value ≡ false
      → list_any is_halt (values (take (count + 1) report.lines)) ≡ false
  unhalted_more numbered at isnt =
      ap (λ n. list_any is_halt (values (take n report.lines))) (let same : count + 1 ≡ suc count = omega arith in same)
      ∙ (ap (list_any is_halt) (one_value report.lines count numbered at)
      ∙ any_more is_halt (values (take count report.lines)) numbered.value way.unhalted isnt)

  markers_more : (numbered : Numbered) → slice_get report.lines count ≡ Some numbered → (b : Bool) → is_marker numbered.value ≡ b →
      markers (take (count + 1) report.lines) ≡ markers (take count report.lines) ++ cond b (numbered.value ∷ []) []
  markers_more numbered at b is =
      ap (λ n. markers (take n report.lines)) (let same : count + 1 ≡ suc count = omega arith in same)
      ∙ one_marker report.lines count numbered at b is

  pub marker_way : (numbered : Numbered) (place : ℕ) → slice_get report.lines count ≡ Some numbered → is_halt numbered.value ≡ false
      → is_marker numbered.value ≡ true →
      Some place ≡ option_map (λ (here : Found). here.place) (found numbered.value next (drop next script.events)) → place < length script.events →
      IsOnWay script report (count + 1) (marked ++ mark_at numbered.value place ∷ []) (place + 1)
  marker_way numbered place at isnt is e low =
      let here = found_by (found numbered.value next (drop next script.events)) place (sym e) in
      let rest = rest_after numbered.value next script.events here.0 here.1 in
      record {
        unhalted = unhalted_more numbered at isnt;
        placed_so =
            ap (placed 0 script.events) (markers_more numbered at true is)
            ∙ (placed_append 0 script.events (markers (take count report.lines)) (numbered.value ∷ [])
            ∙ (ap (λ o. placed_from o (numbered.value ∷ [])) way.placed_so
            ∙ (ap (option_map (onto marked)) (placed_as next (drop next script.events) numbered.value [] ∙ ap (then_placed numbered.value []) here.1)
            ∙ (λ i. Some (record {
              marked = marked ++ mark_at numbered.value (here.2 i) ∷ [];
              next = here.2 i + 1;
              rest =
                  (rest ∙ ap (λ n. drop (n + 1) script.events) here.2) i;
            })))));
        within = omega (arith, low);
      }

  pub other_way : (numbered : Numbered) → slice_get report.lines count ≡ Some numbered → is_halt numbered.value ≡ false
      → is_marker numbered.value ≡ false →
      IsOnWay script report (count + 1) marked next
  other_way numbered at isnt is = record {
    unhalted = unhalted_more numbered at isnt;
    placed_so = ap (placed 0 script.events) (markers_more numbered at false is ∙ append_nothing (markers (take count report.lines))) ∙ way.placed_so;
    within = way.within;
  }
    where
      append_nothing : (l : List ReportLine) → l ++ [] ≡ l
      append_nothing [] = refl
      append_nothing (line ∷ l) = ap (λ m. line ∷ m) (append_nothing l)

  pub clean : CleanTo script report count
  clean = record { unhalted = way.unhalted; found_so = record { marked = marked; next = next; rest = drop next script.events }; is = way.placed_so }

-- all lines are passed
pub whole_way : (script : Script) (report : ReportLines) (count : ℕ) (marked : List Marked) (next : ℕ) → IsOnWay script report count marked next
    → count ≡ length report.lines →
    (list_any is_halt (values report.lines) ≡ false)
    × (placed 0 script.events (markers report.lines) ≡ Some (record { marked = marked; next = next; rest = drop next script.events }))
whole_way script report count marked next way all =
    let whole : take count report.lines ≡ report.lines = ap (λ n. take n report.lines) all ∙ take_whole report.lines in
    (ap (λ l. list_any is_halt (values l)) (sym whole) ∙ way.unhalted, ap (λ l. placed 0 script.events (markers l)) (sym whole) ∙ way.placed_so)

pub item_in : {X : Type 0} {xs ys : List X} → xs ≡ ys → (i : ℕ) (x : X) → i < length xs → x ≡ get_or xs i x → slice_get ys i ≡ Some x
item_in {xs = xs} same i x h e = ap (λ l. slice_get l i) (sym same) ∙ item_at xs i x h e

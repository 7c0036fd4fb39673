-- The pass over the lines of a report, line by line.
use Rattle.std.specs.Prelude.{◌||◌, ◌&&◌}
use Rattle.std.specs.List.{list_any}
use Rattle.std.proofs.Common.{◌≡◌, ℕ, zero, suc, ◌+◌, ◌≤◌, Bool, true, false, cond, inl, inr, take, drop, length, List, [], ◌∷◌, slice_get, Option, None, Some, refl, sym, ap, subst, ◌∙◌, arith}
use Rattle.std.proofs.lemmas.Bool.{eq-eqb}
use Rattle.std.proofs.lemmas.Option.{none-some, slice_get_within}
use Rattle.audit_events.specs.mv_base.declared.ids.IfaceId.{IfaceId}
use Rattle.audit_events.specs.scenario_defs.declared.report.ReportLine.{ReportLine}
use Rattle.audit_events.specs.scenario_defs.declared.report.ReportLine.TheVariants as lines
use Rattle.audit_events.specs.mvpn_model.Report.{is_out_at}
use Rattle.audit_events.specs.audit_defs.declared.verdict.Numbered.{Numbered}
use Rattle.audit_events.specs.audit_defs.declared.verdict.Offence.{Offence}
use Rattle.audit_events.specs.audit_defs.Cut.{Given, Audited, give, next_of, places_after}
use Rattle.audit_events.specs.audit_defs.Markers.{is_marker}
use Rattle.audit_events.proofs.audit_defs.Lists.{some_same, got_any}
use Rattle.audit_events.specs.declared.case.Case.{Case}
use Rattle.audit_events.specs.declared.fate.Marked.{Marked}
use Rattle.mvpn_audit.specs.declared.judging.Found.{Found}
use Rattle.mvpn_audit.specs.declared.judging.Out.{Out}
use Rattle.mvpn_audit.specs.declared.judging.Reading.{Reading}
use Rattle.audit_events.specs.Case.{events_of, audited_of, IsCase}
use Rattle.mvpn_audit.specs.Exits.{exit, says, has_out, is_repeat, AreRepeats}
use Rattle.mvpn_audit.specs.Judging.{repeat_in, has_left, IsFault, AreFaultless, IsFirstFault, IsFirst, first_after, fault_of, next_event, Leaves, Passes, IsRead}
use Rattle.audit_events.specs.Placed.{places_of}
use Rattle.audit_events.proofs.InWindows.{split}
use Rattle.mvpn_audit.proofs.NamedLemmas.{Says, fault_says}
use Rattle.audit_events.proofs.StateLemmas.{lines_are}

-- ---- lists

drop_here : {X : Type 0} (xs : List X) (n : ℕ) (x : X) → slice_get xs n ≡ Some x → drop n xs ≡ x ∷ drop (suc n) xs
drop_here [] n x e = absurd (none-some x e)
drop_here (y ∷ ys) zero x e = (λ i. some_same y x e i ∷ ys)
drop_here (y ∷ ys) (suc n) x e = drop_here ys n x e

here_dropped : {X : Type 0} (xs : List X) (n : ℕ) (x : X) (more : List X) → drop n xs ≡ x ∷ more
    → (slice_get xs n ≡ Some x) × (drop (suc n) xs ≡ more)
here_dropped [] zero x more e = absurd cc
here_dropped [] (suc n) x more e = absurd cc
here_dropped (y ∷ ys) zero x more e = ((let own : y ≡ x = cc in (λ i. Some (own i))), (let rest : ys ≡ more = cc in rest))
here_dropped (y ∷ ys) (suc n) x more e = here_dropped ys n x more e

pub whole_taken : {X : Type 0} (xs : List X) (n : ℕ) → drop n xs ≡ [] → take n xs ≡ xs
whole_taken [] zero e = refl
whole_taken [] (suc n) e = refl
whole_taken (x ∷ xs) zero e = absurd cc
whole_taken (x ∷ xs) (suc n) e = (λ i. x ∷ whole_taken xs n e i)

after_one : (xs : List ℕ) (n : ℕ) → places_after true (drop n xs) ≡ drop (suc n) xs
after_one [] zero = refl
after_one [] (suc n) = refl
after_one (x ∷ xs) zero = refl
after_one (x ∷ xs) (suc n) = after_one xs n

next_there : (end : ℕ) (marked : List Marked) (n : ℕ)
    → next_of end (drop n (places_of marked)) ≡ (elim (slice_get marked n) [ None ↦ end | Some mark ↦ mark.place ])
next_there end [] zero = refl
next_there end [] (suc n) = refl
next_there end (mark ∷ marked) zero = refl
next_there end (mark ∷ marked) (suc n) = next_there end marked n

-- ---- what lines say

-- What lines say, once they are given to events.
pub given_says : (test : ReportLine → Bool) (end : ℕ) (places : List ℕ) (all : List Numbered) (n : ℕ) →
    list_any (λ (g : Given). test g.value) (take n (give end places all)) ≡ list_any (λ (line : Numbered). test line.value) (take n all)
given_says test end places all zero = refl
given_says test end places [] (suc n) = refl
given_says test end places (line ∷ all) (suc n) =
    ap (λ b. test line.value || b) (given_says test end (places_after (is_marker line.value) places) all n)

-- A line that says an exit is among the lines.
pub said_by : (all : List Numbered) (place : ℕ) (numbered : Numbered) → slice_get all place ≡ Some numbered
    → (number : ℕ) (iface : IfaceId) (octets : List ℕ) →
    numbered.value ≡ lines.Out number iface octets → has_out all (exit number iface) ≡ true
said_by all place numbered at number iface octets value =
    got_any (λ (line : Numbered). says line.value (exit number iface)) all place numbered at
    (ap (λ (v : ReportLine). says v (exit number iface)) value ∙ (λ i. eq-eqb number number refl i && eq-eqb iface.0 iface.0 refl i))

-- Whether an `out` line repeats an earlier one.
pub earlier_by : (all : List Numbered) (repeats : List Bool) → AreRepeats all (length all) repeats → (place : ℕ) (numbered : Numbered)
    → slice_get all place ≡ Some numbered →
    (number : ℕ) (iface : IfaceId) (octets : List ℕ) → numbered.value ≡ lines.Out number iface octets
    → repeat_in repeats place ≡ has_out (take place all) (exit number iface)
earlier_by all repeats are place numbered at number iface octets value =
    ap (λ (o : Option Bool). elim o [ None ↦ false | Some repeat ↦ repeat ])
    (are.each place numbered (slice_get_within all place numbered at) at ∙ ap (λ (v : ReportLine). Some (is_repeat (take place all) v)) value)

-- ---- the first offence

faultless_next : (a : Audited) (n : ℕ) (given : Given) → slice_get a.lines n ≡ Some given → AreFaultless a n
    → ((reason : Offence) → IsFault a n given reason → ⊥) → AreFaultless a (suc n)
faultless_next a n given e before none place own reason less at h = elim (split place n) [
  | inl low ↦ before place own reason low at h
  | inr high ↦
      let same : place ≡ n = omega (arith, less, high) in
      let one : own ≡ given = some_same own given (sym at ∙ (ap (slice_get a.lines) same ∙ e)) in
      none reason (subst (λ (g : Given). IsFault a n g reason) one (subst (λ k. IsFault a k own reason) same h))
]

first_later : (a : Audited) (n : ℕ) (found : Found) → IsFirstFault a n found → IsFirstFault a (suc n) found
first_later a n found f = record {
  place = f.place;
  given = f.given;
  within = (let less = f.within in omega (arith, less));
  at = f.at;
  of_line = f.of_line;
  is = f.is;
  before = f.before;
}

other_first : (a : Audited) (n : ℕ) (given : Given) → slice_get a.lines n ≡ Some given → ((reason : Offence) → IsFault a n given reason → ⊥)
    → (first : Option Found) → IsFirst a n first → IsFirst a (suc n) first
other_first a n given e none None before = faultless_next a n given e before none
other_first a n given e none (Some found) f = first_later a n found f

-- ---- one line

module _ (case : Case) (is : IsCase case) (place : ℕ) (numbered : Numbered) (at : slice_get case.report.now.lines place ≡ Some numbered) where
  abbrev all : List Given
  all = (audited_of case).lines

  abbrev given_at : ℕ → Given
  given_at passed =
      record { line = numbered.line; event = next_of (length (events_of case)) (drop passed (places_of case.marked)); value = numbered.value }

  rest_here : (reading : Reading) → IsRead case place reading →
      (slice_get all place ≡ Some (given_at reading.passed))
      × (drop (suc place) all ≡ give (length (events_of case)) (places_after (is_marker numbered.value) (drop reading.passed (places_of case.marked)))
      (drop (suc place) case.report.now.lines))
  rest_here reading read =
      here_dropped all place (given_at reading.passed)
      (give (length (events_of case)) (places_after (is_marker numbered.value) (drop reading.passed (places_of case.marked)))
      (drop (suc place) case.report.now.lines))
      (read.rest ∙ ap (give (length (events_of case)) (drop reading.passed (places_of case.marked)))
      (drop_here case.report.now.lines place numbered at))

  one_on : place + 1 ≡ suc place
  one_on = omega arith

  -- ---- an `out` line

  module _ (number : ℕ) (iface : IfaceId) (octets : List ℕ) (value : numbered.value ≡ lines.Out number iface octets) (old new : Reading) (out : Out)
      (earlier : Bool)
      (event_is : out.event ≡ next_event case old.passed) (number_is : out.number ≡ number) (iface_is : out.iface ≡ iface)
      (octets_is : out.bytes.now ≡ octets)
      (earlier_is : earlier ≡ has_out (take place case.report.now.lines) (exit number iface)) (leaves : Leaves case numbered.line out earlier old new)
      (read : IsRead case place old) where
    abbrev given : Given
    given = given_at old.passed

    given_there : slice_get all place ≡ Some given
    given_there = (rest_here old read).0

    own_event : given.event ≡ out.event
    own_event = next_there (length (events_of case)) case.marked old.passed ∙ sym event_is

    own_value : given.value ≡ lines.Out out.number out.iface out.bytes.now
    own_value = value ∙ (λ i. lines.Out (sym number_is i) (sym iface_is i) (sym octets_is i))

    given_is : given ≡ record { line = numbered.line; event = out.event; value = lines.Out out.number out.iface out.bytes.now }
    given_is = (λ i. record { line = numbered.line; event = own_event i; value = own_value i })

    there : slice_get all place ≡ Some (record { line = numbered.line; event = out.event; value = lines.Out out.number out.iface out.bytes.now })
    there = given_there ∙ ap (λ (g : Given). Some g) given_is

    unmarked : is_marker numbered.value ≡ false
    unmarked = ap is_marker value

    out_rest : drop (place + 1) all ≡ give (length (events_of case)) (drop new.passed (places_of case.marked))
        (drop (place + 1) case.report.now.lines)
    out_rest =
        ap (λ n. drop n all) one_on
        ∙ ((rest_here old read).1
        ∙ ((λ i. give (length (events_of case)) (places_after (unmarked i) (drop old.passed (places_of case.marked)))
        (drop (suc place) case.report.now.lines))
        ∙ (λ i. give (length (events_of case)) (drop (sym leaves.passed i) (places_of case.marked)) (drop (sym one_on i) case.report.now.lines))))

    earlier_left : earlier ≡ has_left (take place all) out.number out.iface
    earlier_left =
        earlier_is
        ∙ ((λ i. has_out (take place case.report.now.lines) (exit (sym number_is i) (sym iface_is i)))
        ∙ sym (given_says (λ (v : ReportLine). is_out_at out.number out.iface v) _ _ case.report.now.lines place))

    first_so : (o : Option Found) → IsFirst (audited_of case) place o
        → IsFirst (audited_of case) (suc place) (first_after case numbered.line out (has_left (take place all) out.number out.iface) o)
    first_so (Some found) f = first_later (audited_of case) place found f
    first_so None before = by (fault_of case out (has_left (take place all) out.number out.iface)) (fault_says case is place out)
      where
        by : (o : Option Offence) → Says case is place out o
            → IsFirst (audited_of case) (suc place) (elim o [ None ↦ None | Some reason ↦ Some (record { line = numbered.line; reason = reason }) ])
        by None none = faultless_next (audited_of case) place _ there before none
        by (Some reason) says = record {
          place = place;
          given = record { line = numbered.line; event = out.event; value = lines.Out out.number out.iface out.bytes.now };
          within = omega arith;
          at = there;
          of_line = refl;
          is = record { fault = says.0; least = says.1 };
          before = before;
        }

    pub out_read : IsRead case (place + 1) new
    out_read = record {
      rest = out_rest;
      first = subst (λ n. IsFirst (audited_of case) n new.first) (sym one_on)
          (subst (IsFirst (audited_of case) (suc place)) (sym (leaves.first ∙ ap (λ b. first_after case numbered.line out b old.first) earlier_left))
          (first_so old.first read.first));
      few = (let same = leaves.passed in let few = read.few in omega (arith, same, few));
    }

  -- ---- another line

  module _ (isnt : (number : ℕ) (iface : IfaceId) (octets : List ℕ) → numbered.value ≡ lines.Out number iface octets → ⊥) (old new : Reading)
      (passes : Passes numbered.value old new) (read : IsRead case place old) where
    no_fault : (value : ReportLine) → numbered.value ≡ value → (event : ℕ) (reason : Offence)
        → IsFault (audited_of case) place (record { line = numbered.line; event = event; value = value }) reason → ⊥
    no_fault (lines.Out number iface octets) e event reason h = isnt number iface octets e
    no_fault other e event reason h = h

    pass_there : slice_get all place ≡ Some (given_at old.passed)
    pass_there = (rest_here old read).0

    places_on : (b : Bool) → is_marker numbered.value ≡ b
        → places_after b (drop old.passed (places_of case.marked)) ≡ drop new.passed (places_of case.marked)
    places_on true is =
        after_one (places_of case.marked) old.passed
        ∙ ap (λ n. drop n (places_of case.marked)) ((let next : suc old.passed ≡ old.passed + 1 = omega arith in next)
        ∙ sym (passes.passed ∙ ap (λ b. cond b (old.passed + 1) old.passed) is))
    places_on false is = ap (λ n. drop n (places_of case.marked)) (sym (passes.passed ∙ ap (λ b. cond b (old.passed + 1) old.passed) is))

    passed_few : (b : Bool) → is_marker numbered.value ≡ b → new.passed ≤ place + 1
    passed_few true is =
        (let same = passes.passed ∙ ap (λ b. cond b (old.passed + 1) old.passed) is in let few = read.few in omega (arith, same, few))
    passed_few false is =
        (let same = passes.passed ∙ ap (λ b. cond b (old.passed + 1) old.passed) is in let few = read.few in omega (arith, same, few))

    pub pass_read : IsRead case (place + 1) new
    pass_read = record {
      rest =
          ap (λ n. drop n all) one_on
          ∙ ((rest_here old read).1
          ∙ (λ i. give (length (events_of case)) (places_on (is_marker numbered.value) refl i) (drop (sym one_on i) case.report.now.lines)));
      first = subst (λ n. IsFirst (audited_of case) n new.first) (sym one_on)
          (subst (IsFirst (audited_of case) (suc place)) (sym passes.first)
          (other_first (audited_of case) place (given_at old.passed) pass_there
          (λ reason h. no_fault numbered.value refl (next_of (length (events_of case)) (drop old.passed (places_of case.marked))) reason h)
          old.first read.first));
      few = passed_few (is_marker numbered.value) refl;
    }

-- ---- at first

pub nothing_read : (case : Case) → IsCase case → (reading : Reading) → reading.passed ≡ 0 → reading.first ≡ None → IsRead case 0 reading
nothing_read case is reading passed first = record {
  rest = lines_are case.script.now case.report.now case.marked is.marked
      ∙ ap (λ n. give (length (events_of case)) (drop n (places_of case.marked)) case.report.now.lines) (sym passed);
  first = subst (IsFirst (audited_of case) 0) (sym first) (λ place given reason less at h. absurd (let low = less in omega (arith, low)));
  few = (let e = passed in omega (arith, e));
}

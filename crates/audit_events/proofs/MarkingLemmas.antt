-- What the pass over the markers answers: that they fit, or the least offence.
use Rattle.std.specs.Prelude.{option_map, ◌||◌}
use Rattle.std.proofs.Common.{◌≡◌, ℕ, zero, suc, ◌+◌, ◌<◌, ◌≤◌, ◌⊎◌, Bool, true, false, cond, inl, inr, ◌++◌, take, map, List, [], ◌∷◌, slice_get, Option, None, Some, refl, sym, ap, subst, ◌∙◌, arith}
use Rattle.std.specs.List.{list_any}
use Rattle.std.proofs.lemmas.Bool.{true≢false, cases_Bool, or_from}
use Rattle.std.proofs.lemmas.Option.{none-some}
use Rattle.audit_defs.specs.scenario_defs.Rules.{Rises}
use Rattle.audit_defs.specs.scenario_defs.declared.event.Script.{Script}
use Rattle.audit_defs.specs.scenario_defs.declared.event.Timed.{Timed}
use Rattle.audit_defs.specs.scenario_defs.declared.report.ReportLine.{ReportLine}
use Rattle.audit_defs.specs.scenario_defs.declared.report.ReportLine.TheVariants as lines
use Rattle.audit_defs.specs.mvpn_model.Report.{refused_line}
use Rattle.audit_defs.specs.declared.verdict.Numbered.{Numbered}
use Rattle.audit_defs.specs.declared.verdict.Offence.{Offence}
use Rattle.audit_defs.specs.declared.verdict.Offence.TheVariants as offences
use Rattle.audit_defs.specs.declared.verdict.ReportLines.{ReportLines}
use Rattle.audit_defs.specs.Markers.{values, markers, is_marker, named, fit, begin, marked_places}
use Rattle.audit_defs.specs.Verdicts.{IsMisfit, is_halt, IsHaltLine, AreJudged, Offends, rank, IsLeast}
use Rattle.audit_defs.proofs.Lists.{both_no, some_same, got_any}
use Rattle.audit_defs.proofs.Fitting.{taken_markers}
use Rattle.audit_events.specs.Marking.{LinesRise, last_line, ComesAfter, AreMarked}
use Rattle.audit_events.specs.declared.fate.Marked.{Marked}
use Rattle.audit_events.specs.Placed.{Found, found, Placed, placed, mark_at, fate_of, has_state}
use Rattle.audit_events.proofs.PlacedLemmas.{then_placed, rest_of, placed_as, onto, placed_from, placed_append, placed_fits, fits_placed, begins_placed, placed_begins}

-- ---- the first lines of a report

taken_less : {X : Type 0} (xs : List X) (few many : ℕ) → few ≤ many → take few (take many xs) ≡ take few xs
taken_less xs zero many h = refl
taken_less [] (suc few) zero h = refl
taken_less [] (suc few) (suc many) h = refl
taken_less (x ∷ xs) (suc few) zero h = absurd (omega (arith, h))
taken_less (x ∷ xs) (suc few) (suc many) h = (λ i. x ∷ taken_less xs few many (omega (arith, h)) i)

got_taken : {X : Type 0} (xs : List X) (place count : ℕ) (x : X) → place < count → slice_get xs place ≡ Some x
    → slice_get (take count xs) place ≡ Some x
got_taken [] place count x less e = absurd (none-some x e)
got_taken (y ∷ xs) place zero x less e = absurd (omega (arith, less))
got_taken (y ∷ xs) zero (suc count) x less e = e
got_taken (y ∷ xs) (suc place) (suc count) x less e = got_taken xs place count x (omega (arith, less)) e

got_value : (all : List Numbered) (place : ℕ) (numbered : Numbered) → slice_get all place ≡ Some numbered
    → slice_get (values all) place ≡ Some numbered.value
got_value [] place numbered e = absurd (none-some numbered e)
got_value (own ∷ all) zero numbered e = ap (λ o. option_map (λ (n : Numbered). n.value) o) e
got_value (own ∷ all) (suc place) numbered e = got_value all place numbered e

pub one_value : (all : List Numbered) (place : ℕ) (numbered : Numbered) → slice_get all place ≡ Some numbered
    → values (take (suc place) all) ≡ values (take place all) ++ numbered.value ∷ []
one_value [] place numbered e = absurd (none-some numbered e)
one_value (own ∷ all) zero numbered e = ap (λ (n : Numbered). n.value ∷ []) (some_same own numbered e)
one_value (own ∷ all) (suc place) numbered e = (λ i. own.value ∷ one_value all place numbered e i)

pub one_marker : (all : List Numbered) (place : ℕ) (numbered : Numbered) → slice_get all place ≡ Some numbered → (b : Bool)
    → is_marker numbered.value ≡ b →
    markers (take (suc place) all) ≡ markers (take place all) ++ cond b (numbered.value ∷ []) []
one_marker [] place numbered e b is = absurd (none-some numbered e)
one_marker (own ∷ all) zero numbered e b is =
    ap (λ (n : Numbered). cond (is_marker n.value) (n.value ∷ []) []) (some_same own numbered e) ∙ ap (λ c. cond c (numbered.value ∷ []) []) is
one_marker (own ∷ all) (suc place) numbered e b is = by (is_marker own.value) _ _ _ (one_marker all place numbered e b is)
  where
    by : (c : Bool) (later first more : List ReportLine) → later ≡ first ++ more
        → cond c (own.value ∷ later) later ≡ cond c (own.value ∷ first) first ++ more
    by true later first more h = (λ i. own.value ∷ h i)
    by false later first more h = h

pub any_more : (test : ReportLine → Bool) (first : List ReportLine) (line : ReportLine) → list_any test first ≡ false → test line ≡ false
    → list_any test (first ++ line ∷ []) ≡ false
any_more test [] line none isnt = or_from (test line) false isnt refl
any_more test (own ∷ first) line none isnt = by (test own) refl (λ h. any_more test first line h isnt)
  where
    by : (b : Bool) → test own ≡ b → (list_any test first ≡ false → list_any test (first ++ line ∷ []) ≡ false)
        → list_any test (own ∷ (first ++ line ∷ [])) ≡ false
    by true is later = absurd (true≢false (sym (ap (λ b. b || list_any test first) is) ∙ none))
    by false is later = or_from (test own) (list_any test (first ++ line ∷ [])) is (later (sym (ap (λ b. b || list_any test first) is) ∙ none))

-- ---- a front of markers that are found is found

front_found : (number : ℕ) (events : List Timed) (first more : List ReportLine) (p : Placed) → placed number events (first ++ more) ≡ Some p
    → (q : Placed) × (placed number events first ≡ Some q)
front_found number events first more p e = by (placed number events first) refl
  where
    by : (o : Option Placed) → placed number events first ≡ o → (q : Placed) × (placed number events first ≡ Some q)
    by None is = absurd (none-some p (sym (placed_append number events first more ∙ ap (λ o. placed_from o more) is) ∙ e))
    by (Some q) is = (q, is)

-- The markers of the first lines are found where those of more lines are.
taken_found : (events : List Timed) (all : List Numbered) (few many : ℕ) (p : Placed) → few ≤ many
    → placed 0 events (markers (take many all)) ≡ Some p →
    (q : Placed) × (placed 0 events (markers (take few all)) ≡ Some q)
taken_found events all few many p h e =
    let r = taken_markers (take many all) few in
    front_found 0 events (markers (take few all)) r.0 p
    (ap (λ l. placed 0 events (markers l ++ r.0)) (sym (taken_less all few many h)) ∙ (ap (λ l. placed 0 events l) r.1 ∙ e))

whole_found : (events : List Timed) (all : List Numbered) (few : ℕ) (p : Placed) → placed 0 events (markers all) ≡ Some p →
    (q : Placed) × (placed 0 events (markers (take few all)) ≡ Some q)
whole_found events all few p e =
    let r = taken_markers all few in
    front_found 0 events (markers (take few all)) r.0 p (ap (λ l. placed 0 events l) r.1 ∙ e)

-- ---- lines that rise

pub rise_above : (bound end : ℕ) (all : List Numbered) (place : ℕ) (numbered : Numbered) → LinesRise bound all end
    → slice_get all place ≡ Some numbered → bound < numbered.line
rise_above bound end [] place numbered h e = absurd (none-some numbered e)
rise_above bound end (own ∷ all) zero numbered h e = subst (λ (n : Numbered). bound < n.line) (some_same own numbered e) h.0
rise_above bound end (own ∷ all) (suc place) numbered h e =
    (let low = h.0 in let high = rise_above own.line end all place numbered h.1 e in omega (arith, low, high))

pub rise_below : (bound end : ℕ) (all : List Numbered) (place : ℕ) (numbered : Numbered) → LinesRise bound all end
    → slice_get all place ≡ Some numbered → numbered.line < end
rise_below bound end [] place numbered h e = absurd (none-some numbered e)
rise_below bound end (own ∷ all) zero numbered h e = subst (λ (n : Numbered). n.line < end) (some_same own numbered e) (low own.line all h.1)
  where
    low : (line : ℕ) (all : List Numbered) → LinesRise line all end → line < end
    low line [] h = h
    low line (own ∷ all) h = (let a = h.0 in let b = low own.line all h.1 in omega (arith, a, b))
rise_below bound end (own ∷ all) (suc place) numbered h e = rise_below own.line end all place numbered h.1 e

pub rise_between : (bound end : ℕ) (all : List Numbered) (first second : ℕ) (a b : Numbered) → LinesRise bound all end → slice_get all first ≡ Some a
    → slice_get all second ≡ Some b →
    first < second → a.line < b.line
rise_between bound end [] first second a b h e f less = absurd (none-some a e)
rise_between bound end (own ∷ all) first zero a b h e f less = absurd (omega (arith, less))
rise_between bound end (own ∷ all) zero (suc second) a b h e f less =
    subst (λ (n : Numbered). n.line < b.line) (some_same own a e) (rise_above own.line end all second b h.1 f)
rise_between bound end (own ∷ all) (suc first) (suc second) a b h e f less =
    rise_between own.line end all first second a b h.1 e f (omega (arith, less))

-- the order of two places
pub data Order (a b : ℕ) : Type 0 where
  Before : a < b → Order a b
  Same : a ≡ b → Order a b
  After : b < a → Order a b

pub order : (a b : ℕ) → Order a b
order zero zero = Same refl
order zero (suc b) = Before (omega arith)
order (suc a) zero = After (omega arith)
order (suc a) (suc b) = elim (order a b) [
  | Before less ↦ Before (omega (arith, less))
  | Same same ↦ Same (ap suc same)
  | After more ↦ After (omega (arith, more))
]

-- ---- the least offence of a pass over markers

not_both_kinds : (line : ReportLine) → is_marker line ≡ true → is_halt line ≡ true → ⊥
not_both_kinds (lines.State bytes copies buffers due unready) m h = true≢false (sym h)
not_both_kinds (lines.Refused line reason) m h = true≢false (sym h)
not_both_kinds (lines.Out number iface bytes) m h = true≢false (sym m)
not_both_kinds (lines.Halt line node) m h = true≢false (sym m)
not_both_kinds (lines.Put kind from to bytes) m h = true≢false (sym m)
not_both_kinds (lines.Take kind from to bytes) m h = true≢false (sym m)
not_both_kinds (lines.Hop from to label ttl number) m h = true≢false (sym m)
not_both_kinds (lines.Land from to label number) m h = true≢false (sym m)

got_same : {X : Type 0} (xs : List X) (a b : ℕ) (x y : X) → slice_get xs a ≡ Some x → slice_get xs b ≡ Some y → a ≡ b → x ≡ y
got_same xs a b x y e f same = some_same x y (sym e ∙ (ap (slice_get xs) same ∙ f))

-- the markers of the lines before that place are found, and none of the lines is a `halt` line
pub record CleanTo (script : Script) (report : ReportLines) (count : ℕ) : Type 0 where
  pub unhalted : list_any is_halt (values (take count report.lines)) ≡ false
  pub found_so : Placed
  pub is : placed 0 script.events (markers (take count report.lines)) ≡ Some found_so

module _ (script : Script) (report : ReportLines) (rises : Rises 0 script.events) where
  misfit_later : (count : ℕ) → CleanTo script report count → (line : ℕ) → (m : IsMisfit script report line) → m.place < count → ⊥
  misfit_later count clean line m less =
      let q = taken_found script.events report.lines (m.place + 1) count clean.found_so (omega (arith, less)) clean.is in
      both_no (begin script.events (markers (take (m.place + 1) report.lines)))
      (placed_begins script.events (markers (take (m.place + 1) report.lines)) q.0 rises q.1) m.with

  halt_later : (count : ℕ) → CleanTo script report count → (line : ℕ) → (h : IsHaltLine report line) → h.place < count → ⊥
  halt_later count clean line h less =
      both_no (list_any is_halt (values (take count report.lines)))
      (got_any is_halt (values (take count report.lines)) h.place h.halt.value
      (got_value (take count report.lines) h.place h.halt (got_taken report.lines h.place count h.halt less h.at)) h.is)
      clean.unhalted

module _ (script : Script) (report : ReportLines) (rises : Rises 0 script.events) (after : ComesAfter script report) where
  judged_unhalted : (line : ℕ) → IsHaltLine report line → AreJudged script report → ⊥
  judged_unhalted line h judged =
      both_no (list_any is_halt (values report.lines))
      (got_any is_halt (values report.lines) h.place h.halt.value (got_value report.lines h.place h.halt h.at) h.is) judged.unhalted

  later_line : (first second : ℕ) (a b : Numbered) → slice_get report.lines first ≡ Some a → slice_get report.lines second ≡ Some b → first < second
      → a.line < b.line
  later_line first second a b e f less = rise_between (last_line script.events) report.end report.lines first second a b after e f less

  before_end : (place : ℕ) (numbered : Numbered) → slice_get report.lines place ≡ Some numbered → numbered.line < report.end
  before_end place numbered e = rise_below (last_line script.events) report.end report.lines place numbered after e

  -- a `halt` line before which all markers are found
  pub halt_least : (place : ℕ) (numbered : Numbered) → slice_get report.lines place ≡ Some numbered → is_halt numbered.value ≡ true
      → CleanTo script report place →
      IsLeast script report numbered.line offences.Halt
  halt_least place numbered at is clean =
      let own : IsHaltLine report numbered.line = record { place = place; halt = numbered; at = at; of_line = refl; is = is } in
      record { offends = own; least = least own }
    where
      beyond : (other : ℕ) (m : IsMisfit script report other) → Order place m.place
          → (numbered.line < other) ⊎ ((numbered.line ≡ other) × (rank offences.Halt ≤ rank offences.Markers))
      beyond other m (Before less) = inl (subst (λ l. numbered.line < l) m.of_line (later_line place m.place numbered m.marker at m.at less))
      beyond other m (Same same) =
          absurd (not_both_kinds numbered.value (subst (λ (n : Numbered). is_marker n.value ≡ true)
          (sym (got_same report.lines place m.place numbered m.marker at m.at same)) m.is) is)
      beyond other m (After less) = absurd (misfit_later script report rises place clean other m less)

      halted : (other : ℕ) (h : IsHaltLine report other) → Order place h.place
          → (numbered.line < other) ⊎ ((numbered.line ≡ other) × (rank offences.Halt ≤ rank offences.Halt))
      halted other h (Before less) = inl (subst (λ l. numbered.line < l) h.of_line (later_line place h.place numbered h.halt at h.at less))
      halted other h (Same same) =
          inr (ap (λ (n : Numbered). n.line) (got_same report.lines place h.place numbered h.halt at h.at same) ∙ h.of_line, omega arith)
      halted other h (After less) = absurd (halt_later script report rises place clean other h less)

      least : IsHaltLine report numbered.line → (other : ℕ) (another : Offence) → Offends script report other another
          → (numbered.line < other) ⊎ ((numbered.line ≡ other) × (rank offences.Halt ≤ rank another))
      least own other offences.Markers (inl m) = beyond other m (order place m.place)
      least own other offences.Markers (inr short) = inl (subst (λ l. numbered.line < l) short.at_end (before_end place numbered at))
      least own other offences.Halt h = halted other h (order place h.place)
      least own other offences.Number h = absurd (judged_unhalted numbered.line own h.0)
      least own other offences.Bytes h = absurd (judged_unhalted numbered.line own h.0)
      least own other offences.Admit h = absurd (judged_unhalted numbered.line own h.0)
      least own other offences.Again h = absurd (judged_unhalted numbered.line own h.0)
      least own other offences.Asked h = absurd (judged_unhalted numbered.line own h.0)
      least own other offences.Missing h = absurd (judged_unhalted numbered.line own h.0)

  -- a marker that belongs to no event, where all before it belong to one
  pub misfit_least : (place : ℕ) (numbered : Numbered) (p : Placed) → slice_get report.lines place ≡ Some numbered → is_marker numbered.value ≡ true →
      list_any is_halt (values (take place report.lines)) ≡ false → placed 0 script.events (markers (take place report.lines)) ≡ Some p →
      found numbered.value p.next p.rest ≡ None → IsLeast script report numbered.line offences.Markers
  misfit_least place numbered p at is unhalted before none =
      record { offends = inl own; least = least }
    where
      clean : CleanTo script report place
      clean = record { unhalted = unhalted; found_so = p; is = before }

      lost : placed 0 script.events (markers (take (place + 1) report.lines)) ≡ None
      lost =
          ap (λ n. placed 0 script.events (markers (take n report.lines))) (let same : place + 1 ≡ suc place = omega arith in same)
          ∙ (ap (λ l. placed 0 script.events l) (one_marker report.lines place numbered at true is)
          ∙ (placed_append 0 script.events (markers (take place report.lines)) (numbered.value ∷ [])
          ∙ (ap (λ o. placed_from o (numbered.value ∷ [])) before
          ∙ ap (option_map (onto p.marked)) (placed_as p.next p.rest numbered.value [] ∙ ap (then_placed numbered.value []) none))))

      not_placed : (q : Placed) → placed 0 script.events (markers (take (place + 1) report.lines)) ≡ Some q → ⊥
      not_placed q e = none-some q (sym lost ∙ e)

      misfits : begin script.events (markers (take (place + 1) report.lines)) ≡ false
      misfits = elim (cases_Bool (begin script.events (markers (take (place + 1) report.lines)))) [
        | inl t ↦ (let q = begins_placed script.events (markers (take (place + 1) report.lines)) t in absurd (not_placed q.0 q.1))
        | inr f ↦ f
      ]

      own : IsMisfit script report numbered.line
      own = record {
        place = place;
        marker = numbered;
        at = at;
        of_line = refl;
        is = is;
        before = placed_begins script.events (markers (take place report.lines)) p rises before;
        with = misfits;
      }

      unjudged : AreJudged script report → ⊥
      unjudged judged =
          let r = fits_placed script.events (markers report.lines) judged.fitting in
          let q = whole_found script.events report.lines (place + 1) r.placed_is r.is in
          not_placed q.0 q.1

      other_misfit : (other : ℕ) (m : IsMisfit script report other) → Order place m.place
          → (numbered.line < other) ⊎ ((numbered.line ≡ other) × (rank offences.Markers ≤ rank offences.Markers))
      other_misfit other m (Before less) = inl (subst (λ l. numbered.line < l) m.of_line (later_line place m.place numbered m.marker at m.at less))
      other_misfit other m (Same same) =
          inr (ap (λ (n : Numbered). n.line) (got_same report.lines place m.place numbered m.marker at m.at same) ∙ m.of_line, omega arith)
      other_misfit other m (After less) = absurd (misfit_later script report rises place clean other m less)

      halted : (other : ℕ) (h : IsHaltLine report other) → Order place h.place
          → (numbered.line < other) ⊎ ((numbered.line ≡ other) × (rank offences.Markers ≤ rank offences.Halt))
      halted other h (Before less) = inl (subst (λ l. numbered.line < l) h.of_line (later_line place h.place numbered h.halt at h.at less))
      halted other h (Same same) =
          absurd (not_both_kinds numbered.value is (subst (λ (n : Numbered). is_halt n.value ≡ true)
          (sym (got_same report.lines place h.place numbered h.halt at h.at same)) h.is))
      halted other h (After less) = absurd (halt_later script report rises place clean other h less)

      least : (other : ℕ) (another : Offence) → Offends script report other another
          → (numbered.line < other) ⊎ ((numbered.line ≡ other) × (rank offences.Markers ≤ rank another))
      least other offences.Markers (inl m) = other_misfit other m (order place m.place)
      least other offences.Markers (inr short) =
          let q = begins_placed script.events (markers report.lines) short.begins in
          let r = whole_found script.events report.lines (place + 1) q.0 q.1 in
          absurd (not_placed r.0 r.1)
      least other offences.Halt h = halted other h (order place h.place)
      least other offences.Number h = absurd (unjudged h.0)
      least other offences.Bytes h = absurd (unjudged h.0)
      least other offences.Admit h = absurd (unjudged h.0)
      least other offences.Again h = absurd (unjudged h.0)
      least other offences.Asked h = absurd (unjudged h.0)
      least other offences.Missing h = absurd (unjudged h.0)

  -- all markers belong to events, and a `state` event is left that has none
  pub short_least : (p : Placed) → list_any is_halt (values report.lines) ≡ false → placed 0 script.events (markers report.lines) ≡ Some p
      → has_state p.rest ≡ true →
      IsLeast script report report.end offences.Markers
  short_least p unhalted whole left =
      record {
        offends =
            inr (record { at_end = refl; begins = placed_begins script.events (markers report.lines) p rises whole; misfits = misfits });
        least = least;
      }
    where
      unfitting : fit script.events (markers report.lines) ≡ true → ⊥
      unfitting e =
          let r = fits_placed script.events (markers report.lines) e in
          both_no (has_state p.rest) left (ap (λ (q : Placed). has_state q.rest) (some_same p r.placed_is (sym whole ∙ r.is)) ∙ r.stateless)

      misfits : fit script.events (markers report.lines) ≡ false
      misfits = elim (cases_Bool (fit script.events (markers report.lines))) [ inl t ↦ absurd (unfitting t) | inr f ↦ f ]

      unhalting : (other : ℕ) → IsHaltLine report other → ⊥
      unhalting other h =
          both_no (list_any is_halt (values report.lines))
          (got_any is_halt (values report.lines) h.place h.halt.value (got_value report.lines h.place h.halt h.at) h.is) unhalted

      least : (other : ℕ) (another : Offence) → Offends script report other another
          → (report.end < other) ⊎ ((report.end ≡ other) × (rank offences.Markers ≤ rank another))
      least other offences.Markers (inl m) =
          let q = whole_found script.events report.lines (m.place + 1) p whole in
          absurd (both_no (begin script.events (markers (take (m.place + 1) report.lines)))
          (placed_begins script.events (markers (take (m.place + 1) report.lines)) q.0 rises q.1) m.with)
      least other offences.Markers (inr short) = inr (short.at_end, omega arith)
      least other offences.Halt h = absurd (unhalting other h)
      least other offences.Number h = absurd (unfitting h.0.fitting)
      least other offences.Bytes h = absurd (unfitting h.0.fitting)
      least other offences.Admit h = absurd (unfitting h.0.fitting)
      least other offences.Again h = absurd (unfitting h.0.fitting)
      least other offences.Asked h = absurd (unfitting h.0.fitting)
      least other offences.Missing h = absurd (unfitting h.0.fitting)

-- ---- markers that fit

pub named_markers : (all : List Numbered) → named (markers all) ≡ named (values all)
named_markers [] = refl
named_markers (own ∷ all) = by (is_marker own.value) refl (named_markers all)
  where
    silent : (line : ReportLine) → is_marker line ≡ false → refused_line line ≡ []
    silent (lines.State bytes copies buffers due unready) m = absurd (true≢false m)
    silent (lines.Refused line reason) m = absurd (true≢false m)
    silent (lines.Out number iface bytes) m = refl
    silent (lines.Halt line node) m = refl
    silent (lines.Put kind from to bytes) m = refl
    silent (lines.Take kind from to bytes) m = refl
    silent (lines.Hop from to label ttl number) m = refl
    silent (lines.Land from to label number) m = refl

    by : (b : Bool) → is_marker own.value ≡ b → named (markers all) ≡ named (values all)
        → named (markers (own ∷ all)) ≡ refused_line own.value ++ named (values all)
    by true is later = ap (λ c. named (cond c (own.value ∷ markers all) (markers all))) is ∙ ap (λ l. refused_line own.value ++ l) later
    by false is later =
        ap (λ c. named (cond c (own.value ∷ markers all) (markers all))) is ∙ (later ∙ ap (λ l. l ++ named (values all)) (sym (silent own.value is)))

-- what markers say of their events, as they are found
fates_found : (number : ℕ) (events : List Timed) (all : List ReportLine) (p : Placed) → placed number events all ≡ Some p
    → map fate_of all ≡ map (λ (mark : Marked). mark.fate) p.marked
fates_found number events [] p e =
    ap (λ (q : Placed). map (λ (mark : Marked). mark.fate) q.marked) (some_same (record { marked = []; next = number; rest = events }) p e)
fates_found number events (line ∷ all) p e = by (found line number events) refl (λ here rest is. fates_found (here.place + 1) here.rest all rest is)
  where
    by : (o : Option Found) → found line number events ≡ o
        → ((here : Found) (rest : Placed) → placed (here.place + 1) here.rest all ≡ Some rest
        → map fate_of all ≡ map (λ (mark : Marked). mark.fate) rest.marked) → map fate_of (line ∷ all) ≡ map (λ (mark : Marked). mark.fate) p.marked
    by None is later = absurd (none-some p (sym (placed_as number events line all ∙ ap (then_placed line all) is) ∙ e))
    by (Some here) is later =
        let r = rest_of (mark_at line here.place) (placed (here.place + 1) here.rest all) p
        (sym (placed_as number events line all ∙ ap (then_placed line all) is) ∙ e) in
        (λ i. fate_of line ∷ later here r.rest r.is i) ∙ ap (λ (q : Placed). map (λ (mark : Marked). mark.fate) q.marked) r.same

pub fit_marked : (script : Script) (report : ReportLines) (p : Placed) → Rises 0 script.events → list_any is_halt (values report.lines) ≡ false →
    placed 0 script.events (markers report.lines) ≡ Some p → has_state p.rest ≡ false → AreMarked script report p.marked
fit_marked script report p rises unhalted whole stateless =
    let r = placed_fits script.events (markers report.lines) p rises whole stateless in
    record {
      judged = record { fitting = r.0; unhalted = unhalted };
      places = ap (λ l. marked_places l 0 script.events) (sym (named_markers report.lines)) ∙ r.1;
      fates = fates_found 0 script.events (markers report.lines) p whole;
    }

-- Markers that fit: their front begins to fit, and where no line offends they do.
use Rattle.std.specs.Prelude.{filter}
use Rattle.std.proofs.Common.{◌≡◌, ℕ, zero, suc, ◌==◌, Bool, true, false, ◌||◌, cond, ◌++◌, take, length, List, [], ◌∷◌, slice_get, None, Some, refl, sym, ap, subst, ◌∙◌}
use Rattle.std.specs.List.{list_any}
use Rattle.std.proofs.lemmas.Bool.{true≢false}
use Rattle.std.proofs.lemmas.List.Folds.{list_any-append}
use Rattle.std.proofs.lemmas.Option.{none-some}
use Rattle.scenario_defs.specs.declared.event.Timed.{Timed}
use Rattle.scenario_defs.specs.declared.report.ReportLine.{ReportLine}
use Rattle.scenario_defs.specs.declared.report.ReportLine.TheVariants as lines
use Rattle.mvpn_model.specs.Report.{refused_line}
use Rattle.audit_defs.specs.declared.verdict.Numbered.{Numbered}
use Rattle.audit_defs.specs.Markers.{is_marker, markers, named, is_state, is_named, is_marked, is_refusable, marks, mark_each, fit, some_front, begin}
use Rattle.audit_defs.proofs.Lists.{and_both, and_true, or_left, or_right, some_same}

-- ---- some front

pub front_passes : (test : List Timed → Bool) (first more : List Timed) → test first ≡ true → some_front test (first ++ more) ≡ true
front_passes test [] [] e = e
front_passes test [] (timed ∷ more) e = or_left (test []) (some_front (λ first. test (timed ∷ first)) more) e
front_passes test (timed ∷ first) more e =
    or_right (test []) (some_front (λ l. test (timed ∷ l)) (first ++ more)) (front_passes (λ l. test (timed ∷ l)) first more e)

-- ---- the front of fitting markers

abbrev pub Within : List ℕ → List ℕ → Type 0
Within some all = (line : ℕ) → list_any (λ l. l == line) some ≡ true → list_any (λ l. l == line) all ≡ true

unmarked : (some all : List ℕ) → Within some all → (timed : Timed) → is_marked all timed ≡ false → is_marked some timed ≡ false
unmarked some all within timed e = by (is_state timed.event) (is_named some timed) refl refl
  where
    by : (s n : Bool) → is_state timed.event ≡ s → is_named some timed ≡ n → is_marked some timed ≡ false
    by true n is has = absurd (true≢false (sym (or_left (is_state timed.event) (is_named all timed) is) ∙ e))
    by false true is has = absurd (true≢false (sym (or_right (is_state timed.event) (is_named all timed) (within timed.line has)) ∙ e))
    by false false is has = (λ i. is i || has i)

pub marked_by : (timed : Timed) (line : ReportLine) (all : List ℕ) → marks timed line ≡ true → Within (refused_line line) all
    → is_marked all timed ≡ true
marked_by timed (lines.State bytes copies buffers due unready) all e within = or_left (is_state timed.event) (is_named all timed) e
marked_by timed (lines.Refused line reason) all e within =
    let same = (and_both (line == timed.line) (is_refusable timed.event) e).0 in
    or_right (is_state timed.event) (is_named all timed) (within timed.line (or_left (line == timed.line) false same))
marked_by timed (lines.Out number iface bytes) all e within = absurd (true≢false (sym e))
marked_by timed (lines.Halt line node) all e within = absurd (true≢false (sym e))
marked_by timed (lines.Put kind from to bytes) all e within = absurd (true≢false (sym e))
marked_by timed (lines.Take kind from to bytes) all e within = absurd (true≢false (sym e))
marked_by timed (lines.Hop from to label ttl number) all e within = absurd (true≢false (sym e))
marked_by timed (lines.Land from to label number) all e within = absurd (true≢false (sym e))

pub within_left : (first more all : List ℕ) → Within (first ++ more) all → Within first all
within_left first more all h line e =
    h line (list_any-append (λ l. l == line) first more ∙ or_left (list_any (λ l. l == line) first) (list_any (λ l. l == line) more) e)

pub within_right : (first more all : List ℕ) → Within (first ++ more) all → Within more all
within_right first more all h line e =
    h line (list_any-append (λ l. l == line) first more ∙ or_right (list_any (λ l. l == line) first) (list_any (λ l. l == line) more) e)

-- some first events that have just the first markers
pub record Fronts (some : List ℕ) (events : List Timed) (first : List ReportLine) : Type 0 where
  pub front : List Timed
  pub more : List Timed
  pub whole : front ++ more ≡ events
  pub each : mark_each (filter (is_marked some) front) first ≡ true

abbrev Later : List ℕ → List ℕ → List Timed → List ReportLine → List ReportLine → Type 0
Later some all events more own = Within (named own) some → mark_each (filter (is_marked all) events) (own ++ more) ≡ true → Fronts some events own

fronts : (some all : List ℕ) → Within some all → (events : List Timed) (first more : List ReportLine) → Within (named first) some
    → mark_each (filter (is_marked all) events) (first ++ more) ≡ true → Fronts some events first
fronts some all within events [] more has e = record { front = []; more = events; whole = refl; each = refl }
fronts some all within [] (line ∷ first) more has e = absurd (true≢false (sym e))
fronts some all within (timed ∷ events) (line ∷ first) more has e =
    by (is_marked all timed) refl (λ h. fronts some all within events first more h) (λ h. fronts some all within events (line ∷ first) more h)
  where
    by : (b : Bool) → is_marked all timed ≡ b → Later some all events more first → Later some all events more (line ∷ first)
        → Fronts some (timed ∷ events) (line ∷ first)
    by true is one same =
        let both =
        and_both (marks timed line) (mark_each (filter (is_marked all) events) (first ++ more))
        (subst (λ b. mark_each (cond b (timed ∷ filter (is_marked all) events) (filter (is_marked all) events)) (line ∷ (first ++ more)) ≡ true)
        is e) in
        let rest = one (within_right (refused_line line) (named first) some has) both.1 in
        let own : is_marked some timed ≡ true = marked_by timed line some both.0 (within_left (refused_line line) (named first) some has) in
        record {
          front = timed ∷ rest.front;
          more = rest.more;
          whole = (λ i. timed ∷ rest.whole i);
          each =
              ap (λ b. mark_each (cond b (timed ∷ filter (is_marked some) rest.front) (filter (is_marked some) rest.front)) (line ∷ first)) own
              ∙ and_true (marks timed line) (mark_each (filter (is_marked some) rest.front) first) both.0 rest.each;
        }
    by false is one same =
        let rest =
        same has (subst (λ b. mark_each (cond b (timed ∷ filter (is_marked all) events) (filter (is_marked all) events)) (line ∷ (first ++ more))
        ≡ true) is e) in
        record {
          front = timed ∷ rest.front;
          more = rest.more;
          whole = (λ i. timed ∷ rest.whole i);
          each = ap (λ b. mark_each (cond b (timed ∷ filter (is_marked some) rest.front) (filter (is_marked some) rest.front)) (line ∷ first))
              (unmarked some all within timed is) ∙ rest.each;
        }

pub named_both : (first more : List ReportLine) → named (first ++ more) ≡ named first ++ named more
named_both [] more = refl
named_both (line ∷ first) more = ap (λ l. refused_line line ++ l) (named_both first more) ∙ by (refused_line line)
  where
    by : (own : List ℕ) → own ++ (named first ++ named more) ≡ (own ++ named first) ++ named more
    by [] = refl
    by (x ∷ own) = (λ i. x ∷ by own i)

-- the first of fitting markers begin to fit
pub first_begin : (events : List Timed) (first more : List ReportLine) → fit events (first ++ more) ≡ true → begin events first ≡ true
first_begin events first more e =
    let within : Within (named first) (named (first ++ more)) = λ line has.
    ap (λ l. list_any (λ x. x == line) l) (named_both first more) ∙ list_any-append (λ x. x == line) (named first) (named more)
    ∙ or_left (list_any (λ x. x == line) (named first)) (list_any (λ x. x == line) (named more)) has in
    let r = fronts (named first) (named (first ++ more)) within events first more (λ line has. has) e in
    subst (λ l. begin l first ≡ true) r.whole (front_passes (λ front. fit front first) r.front r.more r.each)

-- ---- the first lines of a report

pub taken_markers : (all : List Numbered) (count : ℕ) → (more : List ReportLine) × (markers (take count all) ++ more ≡ markers all)
taken_markers all zero = (markers all, refl)
taken_markers [] (suc count) = ([], refl)
taken_markers (line ∷ all) (suc count) =
    let r = taken_markers all count in
    (r.0, by (is_marker line.value) (markers (take count all)) r.0 (markers all) r.1)
  where
    by : (b : Bool) (some more whole : List ReportLine) → some ++ more ≡ whole
        → cond b (line.value ∷ some) some ++ more ≡ cond b (line.value ∷ whole) whole
    by true some more whole e = (λ i. line.value ∷ e i)
    by false some more whole e = e

pub begins_to_fit : (events : List Timed) (all : List Numbered) (count : ℕ) → fit events (markers all) ≡ true
    → begin events (markers (take count all)) ≡ true
begins_to_fit events all count e =
    let r = taken_markers all count in
    first_begin events (markers (take count all)) r.0 (subst (λ l. fit events l ≡ true) (sym r.1) e)

pub nothing_begins : (events : List Timed) → begin events [] ≡ true
nothing_begins [] = refl
nothing_begins (timed ∷ more) = refl

pub past_all : {X : Type 0} (xs : List X) (k : ℕ) → slice_get xs k ≡ None → take (suc k) xs ≡ take k xs
past_all [] zero e = refl
past_all [] (suc k) e = refl
past_all (x ∷ xs) zero e = absurd (none-some x (sym e))
past_all (x ∷ xs) (suc k) e = (λ i. x ∷ past_all xs k e i)

pub past_other : (all : List Numbered) (k : ℕ) (line : Numbered) → slice_get all k ≡ Some line → is_marker line.value ≡ false
    → markers (take (suc k) all) ≡ markers (take k all)
past_other [] k line e is = absurd (none-some line e)
past_other (own ∷ all) zero line e is = ap (λ b. cond b (own.value ∷ []) []) (ap (λ (l : Numbered). is_marker l.value) (some_same own line e) ∙ is)
past_other (own ∷ all) (suc k) line e is = ap (λ (l : List ReportLine). cond (is_marker own.value) (own.value ∷ l) l) (past_other all k line e is)

pub take_whole : {X : Type 0} (xs : List X) → take (length xs) xs ≡ xs
take_whole [] = refl
take_whole (x ∷ xs) = (λ i. x ∷ take_whole xs i)

-- Markers that begin to fit begin a list that fits, and a report has one verdict.
use Rattle.std.specs.Prelude.{filter}
use Rattle.std.proofs.Common.{◌≡◌, ℕ, zero, suc, ◌<◌, ◌≤◌, ◌==◌, Bool, true, false, ◌||◌, ◌⊎◌, cond, inl, inr, ◌++◌, List, [], ◌∷◌, refl, sym, ap, subst, ◌∙◌, append-nil, arith}
use Rattle.std.specs.List.{AllByRecursion, list_any}
use Rattle.std.proofs.lemmas.Bool.{true≢false, eqb-true, ne_eqb}
use Rattle.std.proofs.lemmas.List.Elements.{filter-append}
use Rattle.scenario_defs.specs.Rules.{Rises}
use Rattle.scenario_defs.specs.declared.event.Script.{Script}
use Rattle.scenario_defs.specs.declared.event.Timed.{Timed}
use Rattle.scenario_defs.specs.declared.report.ReportLine.{ReportLine}
use Rattle.scenario_defs.specs.declared.report.ReportLine.TheVariants as lines
use Rattle.mvpn_model.specs.Report.{refused_line}
use Rattle.mvpn_model.proofs.ListLemmas.{all-append}
use Rattle.audit_defs.specs.declared.verdict.Offence.{Offence}
use Rattle.audit_defs.specs.declared.verdict.Offence.TheVariants as offences
use Rattle.audit_defs.specs.declared.verdict.ReportLines.{ReportLines}
use Rattle.audit_defs.specs.declared.verdict.Verdict.{Verdict}
use Rattle.audit_defs.specs.declared.verdict.Verdict.TheVariants as verdicts
use Rattle.audit_defs.specs.Markers.{named, is_state, is_named, is_marked, is_refusable, marks, mark_each, fit, some_front, begin}
use Rattle.audit_defs.specs.Verdicts.{rank, IsVerdict}
use Rattle.audit_defs.proofs.Lists.{and_both, and_true, each_filter}
use Rattle.audit_defs.proofs.Fitting.{named_both}

-- ---- a front

pub record Front (test : List Timed → Bool) (events : List Timed) : Type 0 where
  pub front : List Timed
  pub more : List Timed
  pub whole : front ++ more ≡ events
  pub passes : test front ≡ true

pub passing_front : (test : List Timed → Bool) (events : List Timed) → some_front test events ≡ true → Front test events
passing_front test [] e = record { front = []; more = []; whole = refl; passes = e }
passing_front test (timed ∷ events) e = by (test []) refl (λ t. passing_front (λ first. test (timed ∷ first)) events t)
  where
    by : (b : Bool) → test [] ≡ b → (some_front (λ first. test (timed ∷ first)) events ≡ true → Front (λ first. test (timed ∷ first)) events)
        → Front test (timed ∷ events)
    by true is later = record { front = []; more = timed ∷ events; whole = refl; passes = is }
    by false is later =
        let r = later (sym (ap (λ b. b || some_front (λ first. test (timed ∷ first)) events) is) ∙ e) in
        record { front = timed ∷ r.front; more = r.more; whole = (λ i. timed ∷ r.whole i); passes = r.passes }

-- ---- lines that rise

abbrev UpTo : ℕ → Timed → Type 0
UpTo bound timed = timed.line ≤ bound

record Bounded (start : ℕ) (front more : List Timed) : Type 0 where
  bound : ℕ
  above : start ≤ bound
  each : AllByRecursion (UpTo bound) front
  rises : Rises bound more

bounded : (start : ℕ) (front more : List Timed) → Rises start (front ++ more) → Bounded start front more
bounded start [] more h = record { bound = start; above = omega arith; each = tt; rises = h }
bounded start (timed ∷ front) more h =
    let r = bounded timed.line front more h.1 in
    record { bound = r.bound; above = (let low = h.0 in let high = r.above in omega (arith, low, high)); each = (r.above, r.each); rises = r.rises }

named_up_to : (bound : ℕ) (events : List Timed) (all : List ReportLine) → AllByRecursion (UpTo bound) events → mark_each events all ≡ true
    → AllByRecursion (λ (line : ℕ). line ≤ bound) (named all)
named_up_to bound [] [] h e = tt
named_up_to bound [] (line ∷ all) h e = absurd (true≢false (sym e))
named_up_to bound (timed ∷ events) [] h e = absurd (true≢false (sym e))
named_up_to bound (timed ∷ events) (line ∷ all) h e =
    let both = and_both (marks timed line) (mark_each events all) e in
    all-append (λ (line : ℕ). line ≤ bound) (refused_line line) (named all) (by line both.0) (named_up_to bound events all h.1 both.1)
  where
    by : (line : ReportLine) → marks timed line ≡ true → AllByRecursion (λ (line : ℕ). line ≤ bound) (refused_line line)
    by (lines.Refused refused reason) is =
        let same : refused ≡ timed.line = eqb-true refused timed.line (and_both (refused == timed.line) (is_refusable timed.event) is).0 in
        ((let le = h.0 in omega (arith, same, le)), tt)
    by (lines.State bytes copies buffers due unready) is = tt
    by (lines.Out number iface bytes) is = tt
    by (lines.Halt halted node) is = tt
    by (lines.Put kind from to bytes) is = tt
    by (lines.Take kind from to bytes) is = tt
    by (lines.Hop from to label ttl number) is = tt
    by (lines.Land from to label number) is = tt

not_named : (bound line : ℕ) (all : List ℕ) → AllByRecursion (λ (own : ℕ). own ≤ bound) all → bound < line → list_any (λ own. own == line) all ≡ false
not_named bound line [] h less = refl
not_named bound line (own ∷ all) h less =
    (λ i. ne_eqb own line (λ e. (let le = h.0 in omega (arith, le, e, less))) i || not_named bound line all h.1 less i)

later_unnamed : (bound start : ℕ) (all : List ℕ) → AllByRecursion (λ (own : ℕ). own ≤ bound) all → bound ≤ start → (more : List Timed)
    → Rises start more → AllByRecursion (λ (timed : Timed). is_named all timed ≡ false) more
later_unnamed bound start all h le [] rises = tt
later_unnamed bound start all h le (timed ∷ more) rises =
    let low = rises.0 in
    (not_named bound timed.line all h (omega (arith, le, low)), later_unnamed bound timed.line all h (omega (arith, le, low)) more rises.1)

-- ---- the rest of a list that fits

-- a line for each `state` event
abbrev pub states : List Timed → List ReportLine
states [] = []
states (timed ∷ more) = cond (is_state timed.event) (lines.State 0 0 0 0 0 ∷ states more) (states more)

states_name_none : (more : List Timed) → named (states more) ≡ []
states_name_none [] = refl
states_name_none (timed ∷ more) = by (is_state timed.event) (states_name_none more)
  where
    by : (b : Bool) → named (states more) ≡ [] → named (cond b (lines.State 0 0 0 0 0 ∷ states more) (states more)) ≡ []
    by true e = e
    by false e = e

states_mark : (all : List ℕ) (more : List Timed) → AllByRecursion (λ (timed : Timed). is_named all timed ≡ false) more
    → mark_each (filter (is_marked all) more) (states more) ≡ true
states_mark all [] h = refl
states_mark all (timed ∷ more) h = by (is_state timed.event) refl (states_mark all more h.1)
  where
    by : (b : Bool) → is_state timed.event ≡ b → mark_each (filter (is_marked all) more) (states more) ≡ true
        → mark_each (cond (is_marked all timed) (timed ∷ filter (is_marked all) more) (filter (is_marked all) more))
        (cond (is_state timed.event) (lines.State 0 0 0 0 0 ∷ states more) (states more)) ≡ true
    by true is rest =
        (λ i. mark_each (cond (is i || is_named all timed) (timed ∷ filter (is_marked all) more) (filter (is_marked all) more))
        (cond (is i) (lines.State 0 0 0 0 0 ∷ states more) (states more)))
        ∙ and_true (is_state timed.event) (mark_each (filter (is_marked all) more) (states more)) is rest
    by false is rest =
        (λ i. mark_each (cond (is i || h.0 i) (timed ∷ filter (is_marked all) more) (filter (is_marked all) more))
        (cond (is i) (lines.State 0 0 0 0 0 ∷ states more) (states more))) ∙ rest

mark_both : (first more : List Timed) (a b : List ReportLine) → mark_each first a ≡ true → mark_each more b ≡ true
    → mark_each (first ++ more) (a ++ b) ≡ true
mark_both [] more [] b x y = y
mark_both [] more (line ∷ a) b x y = absurd (true≢false (sym x))
mark_both (timed ∷ first) more [] b x y = absurd (true≢false (sym x))
mark_both (timed ∷ first) more (line ∷ a) b x y =
    let both = and_both (marks timed line) (mark_each first a) x in
    and_true (marks timed line) (mark_each (first ++ more) (a ++ b)) both.0 (mark_both first more a b both.1 y)

-- Where lines rise, markers that begin to fit begin a list that fits.
pub begin_a_list : (events : List Timed) (first : List ReportLine) → Rises 0 events → begin events first ≡ true
    → (more : List ReportLine) × (fit events (first ++ more) ≡ true)
begin_a_list events first rises e =
    let r = passing_front (λ front. fit front first) events e in
    let b = bounded 0 r.front r.more (subst (Rises 0) (sym r.whole) rises) in
    let low =
    named_up_to b.bound (filter (is_marked (named first)) r.front) first (each_filter (UpTo b.bound) (is_marked (named first)) r.front b.each)
    r.passes in
    let unnamed = later_unnamed b.bound b.bound (named first) low (omega arith) r.more b.rises in
    let names : named (first ++ states r.more) ≡ named first =
    named_both first (states r.more) ∙ ap (λ l. named first ++ l) (states_name_none r.more) ∙ append-nil (named first) in (
      states r.more,
      ap (λ (l : List ℕ). mark_each (filter (is_marked l) events) (first ++ states r.more)) names
          ∙ ap (λ (l : List Timed). mark_each (filter (is_marked (named first)) l) (first ++ states r.more)) (sym r.whole)
          ∙ ap (λ (l : List Timed). mark_each l (first ++ states r.more)) (filter-append (is_marked (named first)) r.front r.more)
          ∙ mark_both (filter (is_marked (named first)) r.front) (filter (is_marked (named first)) r.more) first (states r.more) r.passes
          (states_mark (named first) r.more unnamed),
    )

-- ---- one verdict

-- the offence of that place in the order
abbrev of_rank : ℕ → Offence
of_rank zero = offences.Markers
of_rank (suc zero) = offences.Halt
of_rank (suc (suc zero)) = offences.Number
of_rank (suc (suc (suc zero))) = offences.Bytes
of_rank (suc (suc (suc (suc zero)))) = offences.Admit
of_rank (suc (suc (suc (suc (suc zero))))) = offences.Again
of_rank (suc (suc (suc (suc (suc (suc zero)))))) = offences.Asked
of_rank (suc (suc (suc (suc (suc (suc (suc more))))))) = offences.Missing

ranked : (reason : Offence) → of_rank (rank reason) ≡ reason
ranked offences.Markers = refl
ranked offences.Halt = refl
ranked offences.Number = refl
ranked offences.Bytes = refl
ranked offences.Admit = refl
ranked offences.Again = refl
ranked offences.Asked = refl
ranked offences.Missing = refl

same_place : (line other : ℕ) (reason another : Offence) → (line < other) ⊎ ((line ≡ other) × (rank reason ≤ rank another))
    → (other < line) ⊎ ((other ≡ line) × (rank another ≤ rank reason)) → (line ≡ other) × (reason ≡ another)
same_place line other reason another (inl less) (inl more) = absurd (omega (arith, less, more))
same_place line other reason another (inl less) (inr same) = (let at = same.0 in absurd (omega (arith, less, at)))
same_place line other reason another (inr same) (inl more) = (let at = same.0 in absurd (omega (arith, more, at)))
same_place line other reason another (inr same) (inr back) =
    let a = same.1 in
    let b = back.1 in
    let ranks : rank reason ≡ rank another = omega (arith, a, b) in
    (same.0, sym (ranked reason) ∙ ap of_rank ranks ∙ ranked another)

pub one_verdict : (script : Script) (report : ReportLines) (one other : Verdict) → IsVerdict script report one → IsVerdict script report other
    → one ≡ other
one_verdict script report verdicts.Yes verdicts.Yes a b = refl
one_verdict script report verdicts.Yes (verdicts.No line reason) a b = absurd (a line reason b.offends)
one_verdict script report (verdicts.No line reason) verdicts.Yes a b = absurd (b line reason a.offends)
one_verdict script report (verdicts.No line reason) (verdicts.No other another) a b =
    let same = same_place line other reason another (a.least other another b.offends) (b.least line reason a.offends) in
    (λ i. verdicts.No (same.0 i) (same.1 i))

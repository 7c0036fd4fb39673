-- What became of each event: the events that count as refused, and what `state` lines say.
use Rattle.std.specs.Prelude.{filter, ◌&&◌, ◌||◌}
use Rattle.std.proofs.Common.{◌≡◌, ℕ, zero, suc, ◌+◌, ◌<◌, ◌≤◌, ◌==◌, Bool, true, false, cond, not, inl, inr, ◌++◌, map, List, [], ◌∷◌, slice_get, Some, refl, sym, ap, subst, ◌∙◌, arith}
use Rattle.std.specs.List.{AllByRecursion, list_any}
use Rattle.std.proofs.lemmas.Bool.{true≢false, cases_Bool, or_cases, or_from, eq-eqb, ne_eqb, eqb-true, false_from_ne_true}
use Rattle.std.proofs.lemmas.List.Folds.{list_any-append}
use Rattle.std.proofs.lemmas.Option.{none-some}
use Rattle.audit_defs.specs.scenario_defs.Rules.{Rises}
use Rattle.audit_defs.specs.scenario_defs.declared.event.Event.{Event}
use Rattle.audit_defs.specs.scenario_defs.declared.event.Event.TheVariants as events
use Rattle.audit_defs.specs.scenario_defs.declared.event.Script.{Script}
use Rattle.audit_defs.specs.scenario_defs.declared.event.Timed.{Timed}
use Rattle.audit_defs.specs.scenario_defs.declared.report.ReportLine.{ReportLine}
use Rattle.audit_defs.specs.scenario_defs.declared.report.ReportLine.TheVariants as lines
use Rattle.audit_defs.specs.mvpn_model.Past.{is_accepted}
use Rattle.audit_defs.specs.mvpn_model.Report.{refused_line}
use Rattle.audit_defs.specs.Cut.{is_malformed, unnamed, refused_by}
use Rattle.audit_defs.specs.declared.verdict.ReportLines.{ReportLines}
use Rattle.audit_defs.specs.Markers.{values, markers, named, is_state, is_named, is_marked, is_refusable, marks, mark_each, fit, marked_places}
use Rattle.audit_defs.proofs.Lists.{and_both, some_same}
use Rattle.audit_events.specs.declared.fate.Fate.{Fate}
use Rattle.audit_events.specs.declared.fate.Fate.TheVariants as fates
use Rattle.audit_events.specs.declared.fate.Marked.{Marked}
use Rattle.audit_events.specs.Fates.{unmarked, fate_at, left_after, fates_from, is_refused}
use Rattle.audit_events.specs.Placed.{places_of, fate_of}
use Rattle.audit_events.specs.Marking.{AreMarked}
use Rattle.audit_events.proofs.MarkingLemmas.{named_markers}
use Rattle.audit_events.proofs.PlacedLemmas.{filtered, placed_by, not_marked}

-- ---- event by event

-- what became of an event: its marker says so, or it has none
pub data FateOf (N : List ℕ) (timed : Timed) (fate : Fate) : Type 0 where
  ByMarker : (line : ReportLine) → is_marked N timed ≡ true → marks timed line ≡ true → fate ≡ fate_of line → FateOf N timed fate
  Plain : is_marked N timed ≡ false → fate ≡ unmarked timed → FateOf N timed fate

pub record Zipped (N : List ℕ) (number : ℕ) (events : List Timed) (all : List ReportLine) (marked : List Marked) : Type 0 where
  pub places : marked_places N number events ≡ places_of marked
  pub each : mark_each (filter (is_marked N) events) all ≡ true
  pub fates : map fate_of all ≡ map (λ (mark : Marked). mark.fate) marked

pub record FateThere (N : List ℕ) (timed : Timed) (all : List Fate) (place : ℕ) : Type 0 where
  pub fate : Fate
  pub at : slice_get all place ≡ Some fate
  pub of : FateOf N timed fate

above : (N : List ℕ) (number : ℕ) (events : List Timed) → AllByRecursion (λ place. number ≤ place) (marked_places N number events)
above N number [] = tt
above N number (timed ∷ events) = by (is_marked N timed) (lower number (marked_places N (number + 1) events) (above N (number + 1) events))
  where
    lower : (low : ℕ) (all : List ℕ) → AllByRecursion (λ place. low + 1 ≤ place) all → AllByRecursion (λ place. low ≤ place) all
    lower low [] h = tt
    lower low (place ∷ all) h = (let le = h.0 in omega (arith, le), lower low all h.1)

    by : (b : Bool) → AllByRecursion (λ place. number ≤ place) (marked_places N (number + 1) events) →
        AllByRecursion (λ place. number ≤ place) (cond b (number ∷ marked_places N (number + 1) events) (marked_places N (number + 1) events))
    by true h = (omega arith, h)
    by false h = h

-- a marked event that comes later is not of that number
pub later_head : (N : List ℕ) (number : ℕ) (timed : Timed) (events : List Timed) (marked : List Marked)
    → marked_places N (number + 1) events ≡ places_of marked →
    (fate_at number timed marked ≡ unmarked timed) × (left_after number marked ≡ marked)
later_head N number timed events [] e = (refl, refl)
later_head N number timed events (mark ∷ more) e =
    let low = (subst (AllByRecursion (λ place. number + 1 ≤ place)) e (above N (number + 1) events)).0 in
    let apart : (mark.place == number) ≡ false = ne_eqb mark.place number (λ (same : mark.place ≡ number). omega (arith, same, low)) in
    (ap (λ b. cond b mark.fate (unmarked timed)) apart, ap (λ b. cond b more (mark ∷ more)) apart)

pub first_place : (number : ℕ) (rest : List ℕ) (marked : List Marked) → number ∷ rest ≡ places_of marked
    → (mark : Marked) × (more : List Marked) × (marked ≡ mark ∷ more) × (mark.place ≡ number) × (rest ≡ places_of more)
first_place number rest [] e = absurd cc
first_place number rest (mark ∷ more) e =
    (mark, more, refl, (let same : number ≡ mark.place = cc in sym same), (let same : rest ≡ places_of more = cc in same))

pub first_line : (fate : Fate) (rest : List Fate) (all : List ReportLine) → map fate_of all ≡ fate ∷ rest
    → (line : ReportLine) × (more : List ReportLine) × (all ≡ line ∷ more) × (fate ≡ fate_of line) × (map fate_of more ≡ rest)
first_line fate rest [] e = absurd cc
first_line fate rest (line ∷ more) e =
    (line, more, refl, (let same : fate_of line ≡ fate = cc in sym same), (let same : map fate_of more ≡ rest = cc in same))

pub fate_there : (N : List ℕ) (number : ℕ) (events : List Timed) (all : List ReportLine) (marked : List Marked) → Zipped N number events all marked →
    (place : ℕ) (timed : Timed) → slice_get events place ≡ Some timed → FateThere N timed (fates_from number events marked) place
fate_there N number [] all marked zipped place timed e = absurd (none-some timed e)
fate_there N number (first ∷ events) all marked zipped place timed e = elim (cases_Bool (is_marked N first)) [
  | inl is ↦
      let head = first_place number (marked_places N (number + 1) events) marked (sym (placed_by N number first events true is) ∙ zipped.places) in
      let line =
      first_line head.0.fate (map (λ (mark : Marked). mark.fate) head.1) all (zipped.fates ∙ ap (map (λ (mark : Marked). mark.fate)) head.2) in
      let both = and_both (marks first line.0) (mark_each (filter (is_marked N) events) line.1)
      (sym (ap (λ l. mark_each l (line.0 ∷ line.1)) (filtered N first events true is))
      ∙ (ap (mark_each (filter (is_marked N) (first ∷ events))) (sym line.2) ∙ zipped.each)) in
      let here : (head.0.place == number) ≡ true = eq-eqb head.0.place number head.3 in
      let fate : fate_at number first marked ≡ head.0.fate = ap (fate_at number first) head.2 ∙ ap (λ b. cond b head.0.fate (unmarked first)) here in
      let left : left_after number marked ≡ head.1 = ap (left_after number) head.2 ∙ ap (λ b. cond b head.1 (head.0 ∷ head.1)) here in
      at_place fate left (ByMarker line.0 is both.0 (fate ∙ line.3))
      (λ next. fate_there N (number + 1) events line.1 head.1 (record { places = head.4; each = both.1; fates = line.4 }) next timed)
  | inr isnt ↦
      let later = later_head N number first events marked (sym (placed_by N number first events false isnt) ∙ zipped.places) in
      at_place later.0 later.1 (Plain isnt later.0)
      (λ next. fate_there N (number + 1) events all marked (record {
        places = sym (placed_by N number first events false isnt) ∙ zipped.places;
        each = sym (ap (λ l. mark_each l all) (filtered N first events false isnt)) ∙ zipped.each;
        fates = zipped.fates;
      }) next timed)
]
  where
    at_place : {own : Fate} {rest : List Marked} → fate_at number first marked ≡ own → left_after number marked ≡ rest
        → FateOf N first (fate_at number first marked) →
        ((next : ℕ) → slice_get events next ≡ Some timed → FateThere N timed (fates_from (number + 1) events rest) next)
        → FateThere N timed (fates_from number (first ∷ events) marked) place
    at_place fate left of more = by place e
      where
        by : (k : ℕ) → slice_get (first ∷ events) k ≡ Some timed → FateThere N timed (fates_from number (first ∷ events) marked) k
        by zero same =
            record {
              fate = fate_at number first marked;
              at = refl;
              of =
                  subst (λ (t : Timed). FateOf N t (fate_at number first marked)) (some_same first timed same) of;
            }
        by (suc next) later = (
            let r = more next later in
            record { fate = r.fate; at = ap (λ l. slice_get (fates_from (number + 1) events l) next) left ∙ r.at; of = r.of })

-- ---- which events count as refused

above_lines : (N : List ℕ) (bound : ℕ) (events : List Timed) → Rises bound events → AllByRecursion (λ line. bound < line) (unnamed N events)
above_lines N bound [] rises = tt
above_lines N bound (timed ∷ events) rises = by (is_malformed timed.event && is_accepted N timed) (above_lines N timed.line events rises.1)
  where
    lower : (all : List ℕ) → AllByRecursion (λ line. timed.line < line) all → AllByRecursion (λ line. bound < line) all
    lower [] h = tt
    lower (line ∷ all) h = (let more = h.0 in let low = rises.0 in omega (arith, more, low), lower all h.1)

    by : (b : Bool) → AllByRecursion (λ line. timed.line < line) (unnamed N events)
        → AllByRecursion (λ line. bound < line) (cond b (timed.line ∷ []) [] ++ unnamed N events)
    by true h = (rises.0, lower (unnamed N events) h)
    by false h = lower (unnamed N events) h

none_at : (line : ℕ) (all : List ℕ) → AllByRecursion (λ own. line < own) all → list_any (λ own. own == line) all ≡ false
none_at line [] h = refl
none_at line (own ∷ all) h =
    or_from (own == line) (list_any (λ l. l == line) all) (ne_eqb own line (λ (same : own ≡ line). (let more = h.0 in omega (arith, same, more))))
    (none_at line all h.1)

pub got_above : (bound : ℕ) (events : List Timed) → Rises bound events → (place : ℕ) (timed : Timed) → slice_get events place ≡ Some timed
    → bound < timed.line
got_above bound [] rises place timed e = absurd (none-some timed e)
got_above bound (first ∷ events) rises zero timed e = subst (λ (t : Timed). bound < t.line) (some_same first timed e) rises.0
got_above bound (first ∷ events) rises (suc place) timed e =
    (let low = rises.0 in let more = got_above first.line events rises.1 place timed e in omega (arith, low, more))

-- An event's line is one of those that are malformed and not named exactly where the event itself is.
unnamed_at : (N : List ℕ) (bound : ℕ) (events : List Timed) → Rises bound events → (place : ℕ) (timed : Timed) → slice_get events place ≡ Some timed →
    list_any (λ line. line == timed.line) (unnamed N events) ≡ (is_malformed timed.event && is_accepted N timed)
unnamed_at N bound [] rises place timed e = absurd (none-some timed e)
unnamed_at N bound (first ∷ events) rises zero timed e =
    subst (λ (t : Timed). list_any (λ line. line == t.line) (unnamed N (first ∷ events)) ≡ (is_malformed t.event && is_accepted N t))
    (some_same first timed e)
    (list_any-append (λ line. line == first.line) (cond (is_malformed first.event && is_accepted N first) (first.line ∷ []) []) (unnamed N events)
    ∙ by (is_malformed first.event && is_accepted N first))
  where
    by : (b : Bool) → (list_any (λ line. line == first.line) (cond b (first.line ∷ []) [])
        || list_any (λ line. line == first.line) (unnamed N events)) ≡ b
    by true = (λ i. (eq-eqb first.line first.line refl i || false) || list_any (λ line. line == first.line) (unnamed N events))
    by false = none_at first.line (unnamed N events) (above_lines N first.line events rises.1)
unnamed_at N bound (first ∷ events) rises (suc place) timed e =
    list_any-append (λ line. line == timed.line) (cond (is_malformed first.event && is_accepted N first) (first.line ∷ []) []) (unnamed N events)
    ∙ (ap (λ b. b || list_any (λ line. line == timed.line) (unnamed N events)) (by (is_malformed first.event && is_accepted N first))
    ∙ unnamed_at N first.line events rises.1 place timed e)
  where
    by : (b : Bool) → list_any (λ line. line == timed.line) (cond b (first.line ∷ []) []) ≡ false
    by true =
        or_from (first.line == timed.line) false (ne_eqb first.line timed.line
        (λ (same : first.line ≡ timed.line). (let less = got_above first.line events rises.1 place timed e in omega (arith, same, less)))) refl
    by false = refl

-- An event counts as refused where it is named, or malformed.
counted : (all : List ReportLine) (events : List Timed) → Rises 0 events → (place : ℕ) (timed : Timed) → slice_get events place ≡ Some timed →
    is_accepted (refused_by events all) timed ≡ not (is_named (named all) timed || is_malformed timed.event)
counted all events rises place timed e =
    ap not (list_any-append (λ line. line == timed.line) (named all) (unnamed (named all) events)
    ∙ (ap (λ b. is_named (named all) timed || b) (unnamed_at (named all) 0 events rises place timed e)
    ∙ by (is_named (named all) timed) (is_malformed timed.event)))
  where
    by : (n m : Bool) → (n || (m && not n)) ≡ (n || m)
    by true m = refl
    by false true = refl
    by false false = refl

-- ---- named events can be refused

record Refusable (events : List Timed) (line : ℕ) : Type 0 where
  place : ℕ
  timed : Timed
  at : slice_get events place ≡ Some timed
  of_line : timed.line ≡ line
  is : is_refusable timed.event ≡ true

later_refusable : (first : Timed) (events : List Timed) (line : ℕ) → Refusable events line → Refusable (first ∷ events) line
later_refusable first events line r = record { place = suc r.place; timed = r.timed; at = r.at; of_line = r.of_line; is = r.is }

refusable_by : (timed : Timed) (marker : ReportLine) (line : ℕ) → marks timed marker ≡ true
    → list_any (λ own. own == line) (refused_line marker) ≡ true →
    (timed.line ≡ line) × (is_refusable timed.event ≡ true)
refusable_by timed (lines.Refused refused reason) line is has =
    let both = and_both (refused == timed.line) (is_refusable timed.event) is in
    let own : refused ≡ timed.line = eqb-true refused timed.line both.0 in
    let same : refused ≡ line =
    (elim (or_cases (refused == line) false has) [ inl t ↦ eqb-true refused line t | inr f ↦ absurd (true≢false (sym f)) ]) in
    (sym own ∙ same, both.1)
refusable_by timed (lines.State bytes copies buffers due unready) line is has = absurd (true≢false (sym has))
refusable_by timed (lines.Out number iface bytes) line is has = absurd (true≢false (sym has))
refusable_by timed (lines.Halt halted node) line is has = absurd (true≢false (sym has))
refusable_by timed (lines.Put kind from to bytes) line is has = absurd (true≢false (sym has))
refusable_by timed (lines.Take kind from to bytes) line is has = absurd (true≢false (sym has))
refusable_by timed (lines.Hop from to label ttl number) line is has = absurd (true≢false (sym has))
refusable_by timed (lines.Land from to label number) line is has = absurd (true≢false (sym has))

named_refusable : (N : List ℕ) (events : List Timed) (all : List ReportLine) (line : ℕ) → mark_each (filter (is_marked N) events) all ≡ true →
    list_any (λ own. own == line) (named all) ≡ true → Refusable events line
named_refusable N [] [] line e has = absurd (true≢false (sym has))
named_refusable N [] (marker ∷ all) line e has = absurd (true≢false (sym e))
named_refusable N (first ∷ events) [] line e has = absurd (true≢false (sym has))
named_refusable N (first ∷ events) (marker ∷ all) line e has = elim (cases_Bool (is_marked N first)) [
  | inr isnt ↦ later_refusable first events line
      (named_refusable N events (marker ∷ all) line (sym (ap (λ l. mark_each l (marker ∷ all)) (filtered N first events false isnt)) ∙ e) has)
  | inl is ↦
      let both =
      and_both (marks first marker) (mark_each (filter (is_marked N) events) all)
      (sym (ap (λ l. mark_each l (marker ∷ all)) (filtered N first events true is)) ∙ e) in
      elim (or_cases (list_any (λ own. own == line) (refused_line marker)) (list_any (λ own. own == line) (named all))
      (sym (list_any-append (λ own. own == line) (refused_line marker) (named all)) ∙ has)) [
        | inl here ↦ (let r = refusable_by first marker line both.0 here in
            record { place = zero; timed = first; at = refl; of_line = r.0; is = r.1 })
        | inr there ↦ later_refusable first events line (named_refusable N events all line both.1 there)
      ]
]

-- Events of one line are one event.
one_line : (bound : ℕ) (events : List Timed) → Rises bound events → (i j : ℕ) (a b : Timed) → slice_get events i ≡ Some a
    → slice_get events j ≡ Some b → a.line ≡ b.line → a ≡ b
one_line bound [] rises i j a b e f same = absurd (none-some a e)
one_line bound (first ∷ events) rises zero zero a b e f same = sym (some_same first a e) ∙ some_same first b f
one_line bound (first ∷ events) rises zero (suc j) a b e f same =
    (let less = got_above first.line events rises.1 j b f in let own = ap (λ (t : Timed). t.line) (some_same first a e) in
    absurd (omega (arith, less, own, same)))
one_line bound (first ∷ events) rises (suc i) zero a b e f same =
    (let less = got_above first.line events rises.1 i a e in let own = ap (λ (t : Timed). t.line) (some_same first b f) in
    absurd (omega (arith, less, own, same)))
one_line bound (first ∷ events) rises (suc i) (suc j) a b e f same = one_line first.line events rises.1 i j a b e f same

refusable_here : (events : List Timed) (all : List ReportLine) → Rises 0 events → fit events all ≡ true → (place : ℕ) (timed : Timed)
    → slice_get events place ≡ Some timed →
    is_named (named all) timed ≡ true → is_refusable timed.event ≡ true
refusable_here events all rises fits place timed e is =
    let r = named_refusable (named all) events all timed.line fits is in
    subst (λ (t : Timed). is_refusable t.event ≡ true) (one_line 0 events rises r.place place r.timed timed r.at e r.of_line) r.is

pub state_only : (event : Event) → is_state event ≡ true → event ≡ events.State
state_only events.State is = refl
state_only (events.Tick count) is = absurd (true≢false (sym is))
state_only (events.Timers node) is = absurd (true≢false (sym is))
state_only (events.Restart node) is = absurd (true≢false (sym is))
state_only (events.Move kind from to count) is = absurd (true≢false (sym is))
state_only (events.Lose kind a b) is = absurd (true≢false (sym is))
state_only (events.Notice kind a b) is = absurd (true≢false (sym is))
state_only (events.Raise kind a b) is = absurd (true≢false (sym is))
state_only (events.Customer event) is = absurd (true≢false (sym is))
state_only (events.Send site source group payload) is = absurd (true≢false (sym is))
state_only (events.Packet site bytes) is = absurd (true≢false (sym is))
state_only (events.Hop from to place) is = absurd (true≢false (sym is))
state_only (events.DropCopy from to place) is = absurd (true≢false (sym is))
state_only (events.Cost a b cost) is = absurd (true≢false (sym is))
state_only events.Heal is = absurd (true≢false (sym is))
state_only events.Settle is = absurd (true≢false (sym is))
state_only events.Drain is = absurd (true≢false (sym is))

not_refused : (bytes copies buffers due unready : ℕ) → is_refused (fate_of (lines.State bytes copies buffers due unready)) ≡ false
not_refused bytes copies buffers due unready = by (copies == 0) ((bytes == 0) && (buffers == 0) && (due == 0) && (unready == 0))
  where
    by : (c z : Bool) → is_refused (cond c (cond z fates.Calm fates.Clear) fates.Busy) ≡ false
    by true true = refl
    by true false = refl
    by false z = refl

-- What the fate of an event says of it.
fate_says : (N : List ℕ) (timed : Timed) (fate : Fate) → (is_named N timed ≡ true → is_refusable timed.event ≡ true) → FateOf N timed fate →
    is_refused fate ≡ (is_named N timed || is_malformed timed.event)
fate_says N timed fate refusable (Plain isnt e) =
    ap is_refused e ∙ (by (is_malformed timed.event) ∙ ap (λ b. b || is_malformed timed.event) (sym (not_marked N timed isnt).1))
  where
    by : (b : Bool) → is_refused (cond b fates.Refused fates.Accepted) ≡ b
    by true = refl
    by false = refl
fate_says N timed fate refusable (ByMarker (lines.State bytes copies buffers due unready) is m e) =
    let state = state_only timed.event m in
    let unnamed : is_named N timed ≡ false = false_from_ne_true (is_named N timed) (λ t. true≢false (sym (refusable t) ∙ ap is_refusable state)) in
    ap is_refused e ∙ (not_refused bytes copies buffers due unready ∙ sym (λ i. unnamed i || is_malformed (state i)))
fate_says N timed fate refusable (ByMarker (lines.Refused line reason) is m e) =
    let can = (and_both (line == timed.line) (is_refusable timed.event) m).1 in
    let other : is_state timed.event ≡ false =
    false_from_ne_true (is_state timed.event) (λ t. true≢false (sym can ∙ ap is_refusable (state_only timed.event t))) in
    let named_so : is_named N timed ≡ true = sym (ap (λ b. b || is_named N timed) other) ∙ is in
    ap is_refused e ∙ ap (λ b. b || is_malformed timed.event) (sym named_so)
fate_says N timed fate refusable (ByMarker (lines.Out number iface bytes) is m e) = absurd (true≢false (sym m))
fate_says N timed fate refusable (ByMarker (lines.Halt line node) is m e) = absurd (true≢false (sym m))
fate_says N timed fate refusable (ByMarker (lines.Put kind from to bytes) is m e) = absurd (true≢false (sym m))
fate_says N timed fate refusable (ByMarker (lines.Take kind from to bytes) is m e) = absurd (true≢false (sym m))
fate_says N timed fate refusable (ByMarker (lines.Hop from to label ttl number) is m e) = absurd (true≢false (sym m))
fate_says N timed fate refusable (ByMarker (lines.Land from to label number) is m e) = absurd (true≢false (sym m))

-- ---- the fates of a report whose markers fit

-- what became of an event, and whether it counts as refused
pub record Judged (script : Script) (report : ReportLines) (marked : List Marked) (place : ℕ) (timed : Timed) : Type 0 where
  pub there : FateThere (named (values report.lines)) timed (fates_from 0 script.events marked) place
  pub refused : is_refused there.fate ≡ not (is_accepted (refused_by script.events (values report.lines)) timed)

pub event_judged : (script : Script) (report : ReportLines) (marked : List Marked) → Rises 0 script.events → AreMarked script report marked →
    (place : ℕ) (timed : Timed) → slice_get script.events place ≡ Some timed → Judged script report marked place timed
event_judged script report marked rises are place timed e =
    let N = named (values report.lines) in
    let same = named_markers report.lines in
    let each : mark_each (filter (is_marked N) script.events) (markers report.lines) ≡ true =
    ap (λ (l : List ℕ). mark_each (filter (is_marked l) script.events) (markers report.lines)) (sym same) ∙ are.judged.fitting in
    let there =
    fate_there N 0 script.events (markers report.lines) marked (record { places = are.places; each = each; fates = are.fates }) place timed e in
    record { there = there; refused = by there.fate (fate_says N timed there.fate refusable there.of) }
  where
    refusable : is_named (named (values report.lines)) timed ≡ true → is_refusable timed.event ≡ true
    refusable is =
        refusable_here script.events (markers report.lines) rises are.judged.fitting place timed e
        (ap (λ (l : List ℕ). is_named l timed) (named_markers report.lines) ∙ is)

    twice : (b : Bool) → not (not b) ≡ b
    twice true = refl
    twice false = refl

    by : (fate : Fate) → is_refused fate ≡ (is_named (named (values report.lines)) timed || is_malformed timed.event) →
        is_refused fate ≡ not (is_accepted (refused_by script.events (values report.lines)) timed)
    by fate is =
        is ∙ (sym (twice (is_named (named (values report.lines)) timed || is_malformed timed.event))
        ∙ ap not (sym (counted (values report.lines) script.events rises place timed e)))

-- Going forward through the events finds markers that fit, and those that begin to fit.
use Rattle.std.specs.Prelude.{filter, option_map, ◌||◌}
use Rattle.std.proofs.Common.{◌≡◌, ℕ, ◌+◌, ◌<◌, ◌==◌, Bool, true, false, cond, inl, inr, ◌++◌, List, [], ◌∷◌, Option, None, Some, refl, sym, ap, subst, ◌∙◌, arith}
use Rattle.std.specs.List.{AllByRecursion, list_any}
use Rattle.std.proofs.lemmas.Bool.{true≢false, eqb-true, cases_Bool, or_cases, or_from}
use Rattle.std.proofs.lemmas.List.Folds.{list_any-append}
use Rattle.std.proofs.lemmas.Option.{none-some}
use Rattle.audit_defs.specs.scenario_defs.Rules.{Rises}
use Rattle.audit_defs.specs.scenario_defs.declared.event.Timed.{Timed}
use Rattle.audit_defs.specs.scenario_defs.declared.report.ReportLine.{ReportLine}
use Rattle.audit_defs.specs.scenario_defs.declared.report.ReportLine.TheVariants as lines
use Rattle.audit_defs.specs.mvpn_model.Report.{refused_line}
use Rattle.audit_defs.proofs.mvpn_model.ListLemmas.{all-append}
use Rattle.audit_defs.specs.Markers.{named, is_state, is_named, is_marked, is_refusable, marks, mark_each, fit, begin, marked_places}
use Rattle.audit_defs.proofs.Lists.{and_both, and_true, or_left, or_right, both_no, some_same}
use Rattle.audit_defs.proofs.Fitting.{Within, within_left, within_right, marked_by, front_passes}
use Rattle.audit_defs.proofs.Begins.{passing_front}
use Rattle.audit_events.specs.declared.fate.Marked.{Marked}
use Rattle.audit_events.specs.Placed.{Found, found, Placed, with_mark, mark_at, placed, places_of, has_state}

-- ---- single steps

found_here : (line : ReportLine) (number : ℕ) (timed : Timed) (more : List Timed) → marks timed line ≡ true →
    found line number (timed ∷ more) ≡ Some (record { place = number; rest = more })
found_here line number timed more is = rw is

found_later : (line : ReportLine) (number : ℕ) (timed : Timed) (more : List Timed) → marks timed line ≡ false → is_state timed.event ≡ false →
    found line number (timed ∷ more) ≡ found line (number + 1) more
found_later line number timed more is state = rw (is, state)

found_none : (line : ReportLine) (number : ℕ) (timed : Timed) (more : List Timed) → marks timed line ≡ false → is_state timed.event ≡ true →
    found line number (timed ∷ more) ≡ None
found_none line number timed more is state = rw (is, state)

-- the rest of the markers, from what was found for the first one
abbrev pub then_placed : ReportLine → List ReportLine → Option Found → Option Placed
then_placed line more None = None
then_placed line more (Some here) = option_map (with_mark (mark_at line here.place)) (placed (here.place + 1) here.rest more)

pub placed_as : (number : ℕ) (events : List Timed) (line : ReportLine) (more : List ReportLine)
    → placed number events (line ∷ more) ≡ then_placed line more (found line number events)
placed_as number events line more = by (found line number events)
  where
    by : (o : Option Found) → elim o [
      | None ↦ None
      | Some here ↦
          option_map (with_mark (mark_at line here.place)) (placed (here.place + 1) here.rest more)
    ] ≡ then_placed line more o
    by None = refl
    by (Some here) = refl

placed_here : (number : ℕ) (timed : Timed) (events : List Timed) (line : ReportLine) (more : List ReportLine) → marks timed line ≡ true →
    placed number (timed ∷ events) (line ∷ more) ≡ option_map (with_mark (mark_at line number)) (placed (number + 1) events more)
placed_here number timed events line more is =
    placed_as number (timed ∷ events) line more ∙ ap (then_placed line more) (found_here line number timed events is)

placed_later : (number : ℕ) (timed : Timed) (events : List Timed) (line : ReportLine) (more : List ReportLine) → marks timed line ≡ false
    → is_state timed.event ≡ false →
    placed number (timed ∷ events) (line ∷ more) ≡ placed (number + 1) events (line ∷ more)
placed_later number timed events line more is state =
    placed_as number (timed ∷ events) line more ∙
    (ap (then_placed line more) (found_later line number timed events is state) ∙ sym (placed_as (number + 1) events line more))

placed_none : (number : ℕ) (timed : Timed) (events : List Timed) (line : ReportLine) (more : List ReportLine) → marks timed line ≡ false
    → is_state timed.event ≡ true →
    placed number (timed ∷ events) (line ∷ more) ≡ None
placed_none number timed events line more is state =
    placed_as number (timed ∷ events) line more ∙ ap (then_placed line more) (found_none line number timed events is state)

-- what is placed with a marker in front was placed without it
pub record Rest (mark : Marked) (o : Option Placed) (whole : Placed) : Type 0 where
  pub rest : Placed
  pub is : o ≡ Some rest
  pub same : with_mark mark rest ≡ whole

pub rest_of : (mark : Marked) (o : Option Placed) (whole : Placed) → option_map (with_mark mark) o ≡ Some whole → Rest mark o whole
rest_of mark None whole e = absurd (none-some whole e)
rest_of mark (Some rest) whole e = record { rest = rest; is = refl; same = some_same (with_mark mark rest) whole e }

-- the three ways of an event with a marker
data Way (number : ℕ) (timed : Timed) (events : List Timed) (line : ReportLine) (more : List ReportLine) (p : Placed) : Type 0 where
  Here : marks timed line ≡ true → Rest (mark_at line number) (placed (number + 1) events more) p → Way number timed events line more p
  Later : marks timed line ≡ false → is_state timed.event ≡ false → placed (number + 1) events (line ∷ more) ≡ Some p
      → Way number timed events line more p

way_of : (number : ℕ) (timed : Timed) (events : List Timed) (line : ReportLine) (more : List ReportLine) (p : Placed)
    → placed number (timed ∷ events) (line ∷ more) ≡ Some p → Way number timed events line more p
way_of number timed events line more p e = elim (cases_Bool (marks timed line)) [
  | inl is ↦ Here is (rest_of (mark_at line number) (placed (number + 1) events more) p (sym (placed_here number timed events line more is) ∙ e))
  | inr isnt ↦ elim (cases_Bool (is_state timed.event)) [
    | inl state ↦ absurd (none-some p (sym (placed_none number timed events line more isnt state) ∙ e))
    | inr other ↦ Later isnt other (sym (placed_later number timed events line more isnt other) ∙ e)
  ]
]

nothing_placed : (number : ℕ) (line : ReportLine) (more : List ReportLine) (p : Placed) → placed number [] (line ∷ more) ≡ Some p → ⊥
nothing_placed number line more p e = none-some p (sym (placed_as number [] line more) ∙ e)

-- ---- markers that fit are found

pub not_marked : (N : List ℕ) (timed : Timed) → is_marked N timed ≡ false → (is_state timed.event ≡ false) × (is_named N timed ≡ false)
not_marked N timed e = by (is_state timed.event) (is_named N timed) refl refl
  where
    by : (s n : Bool) → is_state timed.event ≡ s → is_named N timed ≡ n → (is_state timed.event ≡ false) × (is_named N timed ≡ false)
    by true n is has = absurd (both_no (is_marked N timed) (or_left (is_state timed.event) (is_named N timed) is) e)
    by false true is has = absurd (both_no (is_marked N timed) (or_right (is_state timed.event) (is_named N timed) has) e)
    by false false is has = (is, has)

pub filtered : (N : List ℕ) (timed : Timed) (events : List Timed) (b : Bool) → is_marked N timed ≡ b →
    filter (is_marked N) (timed ∷ events) ≡ cond b (timed ∷ filter (is_marked N) events) (filter (is_marked N) events)
filtered N timed events b is = ap (λ c. cond c (timed ∷ filter (is_marked N) events) (filter (is_marked N) events)) is

none_marked : (N : List ℕ) (events : List Timed) → mark_each (filter (is_marked N) events) [] ≡ true → has_state events ≡ false
none_marked N [] e = refl
none_marked N (timed ∷ events) e = elim (cases_Bool (is_marked N timed)) [
  | inl is ↦ absurd (true≢false (sym (sym (ap (λ l. mark_each l []) (filtered N timed events true is)) ∙ e)))
  | inr isnt ↦
      or_from (is_state timed.event) (has_state events) (not_marked N timed isnt).0
      (none_marked N events (sym (ap (λ l. mark_each l []) (filtered N timed events false isnt)) ∙ e))
]

-- what a front of the events leaves: none of its `state` events, and all events after it
pub record Leaves (number : ℕ) (events more : List Timed) (all : List ReportLine) : Type 0 where
  pub placed_is : Placed
  pub is : placed number (events ++ more) all ≡ Some placed_is
  pub back : List Timed
  pub rest : placed_is.rest ≡ back ++ more
  pub stateless : has_state back ≡ false

pub complete : (N : List ℕ) (number : ℕ) (events more : List Timed) (all : List ReportLine) → Within (named all) N →
    mark_each (filter (is_marked N) events) all ≡ true → Leaves number events more all
complete N number events more [] within e = record {
  placed_is = record { marked = []; next = number; rest = events ++ more };
  is = refl;
  back = events;
  rest = refl;
  stateless = none_marked N events e;
}
complete N number [] more (line ∷ all) within e = absurd (true≢false (sym e))
complete N number (timed ∷ events) more (line ∷ all) within e = elim (cases_Bool (is_marked N timed)) [
  | inl is ↦
      let both =
      and_both (marks timed line) (mark_each (filter (is_marked N) events) all)
      (sym (ap (λ l. mark_each l (line ∷ all)) (filtered N timed events true is)) ∙ e) in
      let r = complete N (number + 1) events more all (within_right (refused_line line) (named all) N within) both.1 in
      record {
        placed_is = with_mark (mark_at line number) r.placed_is;
        is = placed_here number timed (events ++ more) line all both.0 ∙ ap (option_map (with_mark (mark_at line number))) r.is;
        back = r.back;
        rest = r.rest;
        stateless = r.stateless;
      }
  | inr isnt ↦
      let no = not_marked N timed isnt in
      let unmarked : marks timed line ≡ false = elim (cases_Bool (marks timed line)) [
        | inl t ↦ absurd (both_no (is_marked N timed) (marked_by timed line N t (within_left (refused_line line) (named all) N within)) isnt)
        | inr f ↦ f
      ] in
      let r = complete N (number + 1) events more (line ∷ all) within
      (sym (ap (λ l. mark_each l (line ∷ all)) (filtered N timed events false isnt)) ∙ e) in
      record {
        placed_is = r.placed_is;
        is = placed_later number timed (events ++ more) line all unmarked no.0 ∙ r.is;
        back = r.back;
        rest = r.rest;
        stateless = r.stateless;
      }
]

-- ---- what is found fits

refused_at : (timed : Timed) (line : ReportLine) → marks timed line ≡ true → (P : ℕ → Type 0) → P timed.line → AllByRecursion P (refused_line line)
refused_at timed (lines.Refused refused reason) is P h =
    let same : refused ≡ timed.line = eqb-true refused timed.line (and_both (refused == timed.line) (is_refusable timed.event) is).0 in
    (subst P (sym same) h, tt)
refused_at timed (lines.State bytes copies buffers due unready) is P h = tt
refused_at timed (lines.Out number iface bytes) is P h = tt
refused_at timed (lines.Halt halted node) is P h = tt
refused_at timed (lines.Put kind from to bytes) is P h = tt
refused_at timed (lines.Take kind from to bytes) is P h = tt
refused_at timed (lines.Hop from to label ttl number) is P h = tt
refused_at timed (lines.Land from to label number) is P h = tt

weaker : (low high : ℕ) → low < high → (all : List ℕ) → AllByRecursion (λ line. high < line) all → AllByRecursion (λ line. low < line) all
weaker low high less [] h = tt
weaker low high less (line ∷ all) h = (let more = h.0 in omega (arith, less, more), weaker low high less all h.1)

-- The events that are named come after the ones before.
named_above : (bound number : ℕ) (events : List Timed) (all : List ReportLine) (p : Placed) → Rises bound events → placed number events all ≡ Some p →
    AllByRecursion (λ line. bound < line) (named all)
named_above bound number events [] p rises e = tt
named_above bound number [] (line ∷ all) p rises e = absurd (nothing_placed number line all p e)
named_above bound number (timed ∷ events) (line ∷ all) p rises e = elim (way_of number timed events line all p e) [
  | Here is rest ↦ all-append (λ own. bound < own) (refused_line line) (named all) (refused_at timed line is (λ own. bound < own) rises.0)
      (weaker bound timed.line rises.0 (named all) (named_above timed.line (number + 1) events all rest.rest rises.1 rest.is))
  | Later isnt state rest ↦ weaker bound timed.line rises.0 (named (line ∷ all))
      (named_above timed.line (number + 1) events (line ∷ all) p rises.1 rest)
]

above_not_named : (line : ℕ) (all : List ℕ) → AllByRecursion (λ own. line < own) all → list_any (λ own. own == line) all ≡ true → ⊥
above_not_named line [] h e = true≢false (sym e)
above_not_named line (own ∷ all) h e = elim (or_cases (own == line) (list_any (λ own. own == line) all) e) [
  | inl is ↦ (let same : own ≡ line = eqb-true own line is in let more = h.0 in omega (arith, same, more))
  | inr later ↦ above_not_named line all h.1 later
]

-- the lines above a bound that the list has are named
abbrev Covers : ℕ → List ℕ → List ReportLine → Type 0
Covers bound N all = (line : ℕ) → bound < line → list_any (λ own. own == line) N ≡ true → list_any (λ own. own == line) (named all) ≡ true

covers_more : (bound : ℕ) (timed : Timed) (N : List ℕ) (line : ReportLine) (all : List ReportLine) → bound < timed.line → marks timed line ≡ true
    → Covers bound N (line ∷ all) → Covers timed.line N all
covers_more bound timed N line all less is covers own above has =
    elim (or_cases (list_any (λ l. l == own) (refused_line line)) (list_any (λ l. l == own) (named all))
    (sym (list_any-append (λ l. l == own) (refused_line line) (named all)) ∙ covers own (omega (arith, less, above)) has)) [
      | inl here ↦ absurd (at_line (refused_line line) (refused_at timed line is (λ l. l ≡ timed.line) refl) here)
      | inr there ↦ there
    ]
  where
    at_line : (some : List ℕ) → AllByRecursion (λ l. l ≡ timed.line) some → list_any (λ l. l == own) some ≡ true → ⊥
    at_line [] h e = true≢false (sym e)
    at_line (l ∷ some) h e = elim (or_cases (l == own) (list_any (λ l. l == own) some) e) [
      | inl t ↦ (let same : l ≡ own = eqb-true l own t in let at = h.0 in omega (arith, same, at, above))
      | inr t ↦ at_line some h.1 t
    ]

pub record Fits (N : List ℕ) (number : ℕ) (events : List Timed) (all : List ReportLine) (p : Placed) : Type 0 where
  pub each : mark_each (filter (is_marked N) events) all ≡ true
  pub places : marked_places N number events ≡ places_of p.marked

pub placed_by : (N : List ℕ) (number : ℕ) (timed : Timed) (events : List Timed) (b : Bool) → is_marked N timed ≡ b →
    marked_places N number (timed ∷ events) ≡ cond b (number ∷ marked_places N (number + 1) events) (marked_places N (number + 1) events)
placed_by N number timed events b is = ap (λ c. cond c (number ∷ marked_places N (number + 1) events) (marked_places N (number + 1) events)) is

fits_skipped : (N : List ℕ) (number : ℕ) (timed : Timed) (events : List Timed) (all : List ReportLine) (p : Placed) → is_marked N timed ≡ false
    → Fits N (number + 1) events all p → Fits N number (timed ∷ events) all p
fits_skipped N number timed events all p isnt r = record {
  each = ap (λ l. mark_each l all) (filtered N timed events false isnt) ∙ r.each;
  places = placed_by N number timed events false isnt ∙ r.places;
}

pub sound : (N : List ℕ) (bound number : ℕ) (events : List Timed) (all : List ReportLine) (p : Placed) → Rises bound events → Covers bound N all
    → Within (named all) N →
    placed number events all ≡ Some p → has_state p.rest ≡ false → Fits N number events all p
sound N bound number [] [] p rises covers within e stateless =
    let same = some_same (record { marked = []; next = number; rest = [] }) p e in
    record { each = refl; places = ap (λ (q : Placed). places_of q.marked) same }
sound N bound number [] (line ∷ all) p rises covers within e stateless = absurd (nothing_placed number line all p e)
sound N bound number (timed ∷ events) [] p rises covers within e stateless =
    let same = some_same (record { marked = []; next = number; rest = timed ∷ events }) p e in
    let none : has_state (timed ∷ events) ≡ false = ap (λ (q : Placed). has_state q.rest) same ∙ stateless in
    let state = neither (is_state timed.event) (has_state events) none in
    let unnamed : is_named N timed ≡ false = elim (cases_Bool (is_named N timed)) [
      | inl t ↦ absurd (true≢false (sym (covers timed.line rises.0 t)))
      | inr f ↦ f
    ] in
    let r = sound N timed.line (number + 1) events [] (record { marked = []; next = number + 1; rest = events }) rises.1
    (λ line above has. covers line (let low = rises.0 in omega (arith, low, above)) has) within refl state.1 in
    fits_skipped N number timed events [] p (or_from (is_state timed.event) (is_named N timed) state.0 unnamed)
    (record { each = r.each; places = r.places ∙ ap (λ (q : Placed). places_of q.marked) same })
  where
    neither : (a b : Bool) → (a || b) ≡ false → (a ≡ false) × (b ≡ false)
    neither true b h = absurd (true≢false h)
    neither false b h = (refl, h)
sound N bound number (timed ∷ events) (line ∷ all) p rises covers within e stateless = elim (way_of number timed events line all p e) [
  | Here is rest ↦
      let r = sound N timed.line (number + 1) events all rest.rest rises.1 (covers_more bound timed N line all rises.0 is covers)
      (within_right (refused_line line) (named all) N within) rest.is
      (ap (λ (q : Placed). has_state q.rest) rest.same ∙ stateless) in
      let marked = marked_by timed line N is (within_left (refused_line line) (named all) N within) in
      record {
        each = ap (λ l. mark_each l (line ∷ all)) (filtered N timed events true marked)
            ∙ and_true (marks timed line) (mark_each (filter (is_marked N) events) all) is r.each;
        places = placed_by N number timed events true marked ∙ (ap (λ l. number ∷ l) r.places ∙ ap (λ (q : Placed). places_of q.marked) rest.same);
      }
  | Later isnt state rest ↦
      let unnamed : is_named N timed ≡ false = elim (cases_Bool (is_named N timed)) [
        | inl t ↦ absurd (above_not_named timed.line (named (line ∷ all)) (named_above timed.line (number + 1) events (line ∷ all) p rises.1 rest)
            (covers timed.line rises.0 t))
        | inr f ↦ f
      ] in
      fits_skipped N number timed events (line ∷ all) p (or_from (is_state timed.event) (is_named N timed) state unnamed)
      (sound N timed.line (number + 1) events (line ∷ all) p rises.1
      (λ own above has. covers own (let low = rises.0 in omega (arith, low, above)) has) within rest stateless)
]

-- ---- the four laws of a forward search

pub placed_fits : (events : List Timed) (all : List ReportLine) (p : Placed) → Rises 0 events → placed 0 events all ≡ Some p
    → has_state p.rest ≡ false →
    (fit events all ≡ true) × (marked_places (named all) 0 events ≡ places_of p.marked)
placed_fits events all p rises e stateless =
    let r = sound (named all) 0 0 events all p rises (λ line above has. has) (λ line has. has) e stateless in
    (r.each, r.places)

append_nothing : (l : List Timed) → l ++ [] ≡ l
append_nothing [] = refl
append_nothing (timed ∷ l) = ap (λ m. timed ∷ m) (append_nothing l)

pub record FitsPlaced (events : List Timed) (all : List ReportLine) : Type 0 where
  pub placed_is : Placed
  pub is : placed 0 events all ≡ Some placed_is
  pub stateless : has_state placed_is.rest ≡ false

pub fits_placed : (events : List Timed) (all : List ReportLine) → fit events all ≡ true → FitsPlaced events all
fits_placed events all e =
    let r = complete (named all) 0 events [] all (λ line has. has) e in
    record {
      placed_is = r.placed_is;
      is = subst (λ l. placed 0 l all ≡ Some r.placed_is) (append_nothing events) r.is;
      stateless = ap has_state (r.rest ∙ append_nothing r.back) ∙ r.stateless;
    }

pub begins_placed : (events : List Timed) (all : List ReportLine) → begin events all ≡ true → (p : Placed) × (placed 0 events all ≡ Some p)
begins_placed events all e =
    let front = passing_front (λ first. fit first all) events e in
    let r = complete (named all) 0 front.front front.more all (λ line has. has) front.passes in
    (r.placed_is, subst (λ l. placed 0 l all ≡ Some r.placed_is) front.whole r.is)

-- the events up to the last one that a marker belongs to
record Used (number : ℕ) (events : List Timed) (all : List ReportLine) (p : Placed) : Type 0 where
  front : List Timed
  whole : front ++ p.rest ≡ events
  own : Placed
  is : placed number front all ≡ Some own
  ends : own.rest ≡ []

used : (number : ℕ) (events : List Timed) (all : List ReportLine) (p : Placed) → placed number events all ≡ Some p → Used number events all p
used number events [] p e =
    let same = some_same (record { marked = []; next = number; rest = events }) p e in
    record {
      front = [];
      whole = sym (ap (λ (q : Placed). q.rest) same);
      own = record { marked = []; next = number; rest = [] };
      is = refl;
      ends =
          refl;
    }
used number [] (line ∷ all) p e = absurd (nothing_placed number line all p e)
used number (timed ∷ events) (line ∷ all) p e = elim (way_of number timed events line all p e) [
  | Here is rest ↦
      let r = used (number + 1) events all rest.rest rest.is in
      record {
        front = timed ∷ r.front;
        whole = ap (λ (q : Placed). timed ∷ (r.front ++ q.rest)) (sym rest.same) ∙ ap (λ l. timed ∷ l) r.whole;
        own = with_mark (mark_at line number) r.own;
        is = placed_here number timed r.front line all is ∙ ap (option_map (with_mark (mark_at line number))) r.is;
        ends = r.ends;
      }
  | Later isnt state rest ↦
      let r = used (number + 1) events (line ∷ all) p rest in
      record {
        front = timed ∷ r.front;
        whole = ap (λ l. timed ∷ l) r.whole;
        own = r.own;
        is = placed_later number timed r.front line all isnt state ∙ r.is;
        ends = r.ends;
      }
]

rises_front : (bound : ℕ) (front more : List Timed) → Rises bound (front ++ more) → Rises bound front
rises_front bound [] more h = tt
rises_front bound (timed ∷ front) more h = (h.0, rises_front timed.line front more h.1)

pub placed_begins : (events : List Timed) (all : List ReportLine) (p : Placed) → Rises 0 events → placed 0 events all ≡ Some p
    → begin events all ≡ true
placed_begins events all p rises e =
    let r = used 0 events all p e in
    let fitting = (placed_fits r.front all r.own (rises_front 0 r.front p.rest (subst (Rises 0) (sym r.whole) rises)) r.is (ap has_state r.ends)).0 in
    subst (λ l. begin l all ≡ true) r.whole (front_passes (λ first. fit first all) r.front p.rest fitting)

-- ---- markers one after the other

-- the marked events with those before them
abbrev pub onto : List Marked → Placed → Placed
onto before p = record p { marked = before ++ p.marked }

abbrev pub placed_from : Option Placed → List ReportLine → Option Placed
placed_from None more = None
placed_from (Some p) more = option_map (onto p.marked) (placed p.next p.rest more)

with_both : (mark : Marked) (p : Placed) (o : Option Placed)
    → option_map (with_mark mark) (option_map (onto p.marked) o) ≡ option_map (onto (mark ∷ p.marked)) o
with_both mark p None = refl
with_both mark p (Some q) = refl

with_from : (mark : Marked) (more : List ReportLine) (o : Option Placed)
    → option_map (with_mark mark) (placed_from o more) ≡ placed_from (option_map (with_mark mark) o) more
with_from mark more None = refl
with_from mark more (Some p) = with_both mark p (placed p.next p.rest more)

onto_nothing : (o : Option Placed) → o ≡ option_map (onto []) o
onto_nothing None = refl
onto_nothing (Some p) = refl

pub placed_append : (number : ℕ) (events : List Timed) (first more : List ReportLine)
    → placed number events (first ++ more) ≡ placed_from (placed number events first) more
placed_append number events [] more = onto_nothing (placed number events more)
placed_append number events (line ∷ first) more =
    placed_as number events line (first ++ more)
    ∙ (by (found line number events) (λ here. placed_append (here.place + 1) here.rest first more)
    ∙ ap (λ o. placed_from o more) (sym (placed_as number events line first)))
  where
    by : (o : Option Found) → ((here : Found) → placed (here.place + 1) here.rest (first ++ more)
        ≡ placed_from (placed (here.place + 1) here.rest first) more) →
        then_placed line (first ++ more) o ≡ placed_from (then_placed line first o) more
    by None later = refl
    by (Some here) later =
        ap (option_map (with_mark (mark_at line here.place))) (later here)
        ∙ with_from (mark_at line here.place) more (placed (here.place + 1) here.rest first)

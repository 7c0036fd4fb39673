-- The lines of a report that is cut by its markers come from entries of that report, of the same event or of an earlier one.
use Rattle.std.specs.Prelude.{Contains}
use Rattle.std.proofs.Common.{◌≡◌, ℕ, zero, suc, ◌+◌, ◌≤◌, Bool, true, false, cond, ◌++◌, length, List, [], ◌∷◌, refl, sym, ap, subst, ◌∙◌, arith}
use Rattle.std.specs.List.{AllByRecursion}
use Rattle.scenario_defs.specs.declared.event.Timed.{Timed}
use Rattle.scenario_defs.specs.declared.report.ReportLine.{ReportLine}
use Rattle.mvpn_model.specs.Report.{Entry, lines_of}
use Rattle.network_laws.proofs.Lists.{each_append, each_weaker}
use Rattle.network_laws.proofs.LabelTaken.{contained}
use Rattle.audit_defs.specs.declared.verdict.Numbered.{Numbered}
use Rattle.audit_defs.specs.Markers.{values, is_marker, is_marked, marked_places}
use Rattle.audit_defs.specs.Cut.{Given, next_of, places_after, give}
use Rattle.audit_defs.proofs.Lists.{both_no}
use Rattle.audit_laws.proofs.Shapes.{IsOrdinary, Head, Marked, Unmarked, Shaped, lines_both}

module _ {X : Type 0} where
  here : (x y : X) (xs : List X) → y ≡ x → Contains (y ∷ xs) x
  here x y xs e = (0, omega arith, e)

  deeper : (x y : X) (xs : List X) → Contains xs x → Contains (y ∷ xs) x
  deeper x y xs (k, less, e) = (suc k, omega (arith, less), e)

  in_front : (first more : List X) (x : X) → Contains first x → Contains (first ++ more) x
  in_front [] more x (k, less, e) = absurd (omega (arith, less))
  in_front (y ∷ first) more x (zero, less, e) = here x y (first ++ more) e
  in_front (y ∷ first) more x (suc k, less, e) = deeper x y (first ++ more) (in_front first more x (k, omega (arith, less), e))

  in_back : (first more : List X) (x : X) → Contains more x → Contains (first ++ more) x
  in_back [] more x h = h
  in_back (y ∷ first) more x h = deeper x y (first ++ more) (in_back first more x h)

  both_each : (P Q : X → Type 0) (xs : List X) → AllByRecursion P xs → AllByRecursion Q xs → AllByRecursion (λ x. P x × Q x) xs
  both_each P Q [] p q = tt
  both_each P Q (x ∷ xs) p q = ((p.0, q.0), both_each P Q xs p.1 q.1)

  each_in : (xs : List X) → AllByRecursion (Contains xs) xs
  each_in [] = tt
  each_in (x ∷ xs) = (here x x xs refl, each_weaker (Contains xs) (Contains (x ∷ xs)) (λ y h. deeper y x xs h) xs (each_in xs))

-- the entry of the report that has a line
pub record Origin (report : List Entry) (given : Given) : Type 0 where
  pub entry : Entry
  pub reported : Contains report entry
  pub has : Contains entry.lines given.value
  pub early : entry.event ≤ given.event
  pub marker : is_marker given.value ≡ true → entry.event ≡ given.event

-- an entry that has a line
pub record HasEntry (report : List Entry) (value : ReportLine) : Type 0 where
  pub entry : Entry
  pub reported : Contains report entry
  pub has : Contains entry.lines value

later_entry : (first : Entry) (report : List Entry) (value : ReportLine) → HasEntry report value → HasEntry (first ∷ report) value
later_entry first report value h = record { entry = h.entry; reported = deeper h.entry first report h.reported; has = h.has }

each_has_entry : (report : List Entry) → AllByRecursion (HasEntry report) (lines_of report)
each_has_entry [] = tt
each_has_entry (entry ∷ report) =
    each_append (HasEntry (entry ∷ report)) entry.lines (lines_of report)
    (each_weaker (Contains entry.lines) (HasEntry (entry ∷ report))
    (λ value h. record { entry = entry; reported = here entry entry report refl; has = h }) entry.lines (each_in entry.lines))
    (each_weaker (HasEntry report) (HasEntry (entry ∷ report)) (later_entry entry report) (lines_of report) (each_has_entry report))

in_whole : (mine rest : List Entry) (given : Given) → Origin rest given → Origin (mine ++ rest) given
in_whole mine rest given o =
    record { entry = o.entry; reported = in_back mine rest o.entry o.reported; has = o.has; early = o.early; marker = o.marker }

-- ---- numbered lines in two

pub record InTwo (all : List Numbered) (first more : List ReportLine) : Type 0 where
  pub front : List Numbered
  pub back : List Numbered
  pub whole : all ≡ front ++ back
  pub is_front : values front ≡ first
  pub is_back : values back ≡ more

cons_parts : {X : Type 0} (x y : X) (xs ys : List X) → x ∷ xs ≡ y ∷ ys → (x ≡ y) × (xs ≡ ys)
cons_parts x y xs ys e = (let heads : x ≡ y = cc in let tails : xs ≡ ys = cc in (heads, tails))

nil_cons : {X : Type 0} (y : X) (ys : List X) → [] ≡ y ∷ ys → ⊥
nil_cons y ys e = (let long = ap length e in omega (arith, long))

in_two : (all : List Numbered) (first more : List ReportLine) → values all ≡ first ++ more → InTwo all first more
in_two all [] more e = record { front = []; back = all; whole = refl; is_front = refl; is_back = e }
in_two [] (value ∷ first) more e = absurd (nil_cons value (first ++ more) e)
in_two (line ∷ all) (value ∷ first) more e =
    let parts = cons_parts line.value value (values all) (first ++ more) e in
    let r = in_two all first more parts.1 in
    record { front = line ∷ r.front; back = r.back; whole = (λ i. line ∷ r.whole i); is_front = (λ i. parts.0 i ∷ r.is_front i); is_back = r.is_back }

-- ---- events

from_there : (number : ℕ) (own : List ℕ) (all : List Timed) → AllByRecursion (λ (place : ℕ). number ≤ place) (marked_places own number all)
from_there number own [] = tt
from_there number own (timed ∷ all) =
    by (is_marked own timed) (each_weaker (λ (place : ℕ). number + 1 ≤ place) (λ (place : ℕ). number ≤ place) (λ place le. omega (arith, le))
    (marked_places own (number + 1) all) (from_there (number + 1) own all))
  where
    by : (b : Bool) → AllByRecursion (λ (place : ℕ). number ≤ place) (marked_places own (number + 1) all)
        → AllByRecursion (λ (place : ℕ). number ≤ place) (cond b (number ∷ marked_places own (number + 1) all) (marked_places own (number + 1) all))
    by true h = (omega arith, h)
    by false h = h

next_there : (number end : ℕ) (places : List ℕ) → number ≤ end → AllByRecursion (λ (place : ℕ). number ≤ place) places → number ≤ next_of end places
next_there number end [] le h = le
next_there number end (place ∷ places) le h = h.0

module _ (end : ℕ) where
  -- lines that are no markers, and then others
  unmarked : (Q : Given → Type 0) (places : List ℕ) (front back : List Numbered) → AllByRecursion IsOrdinary (values front)
      → AllByRecursion (λ (value : ReportLine). (line : ℕ) → Q (record { line = line; event = next_of end places; value = value })) (values front)
      → AllByRecursion Q (give end places back) → AllByRecursion Q (give end places (front ++ back))
  unmarked Q places [] back ordinary each rest = rest
  unmarked Q places (line ∷ front) back ordinary each rest = (
    each.0 line.line,
    ap_back (λ (b : Bool). AllByRecursion Q (give end (places_after b places) (front ++ back))) ordinary.0.marker
        (unmarked Q places front back ordinary.1 each.1 rest),
  )
    where
      ap_back : (P : Bool → Type 0) → is_marker line.value ≡ false → P false → P (is_marker line.value)
      ap_back P e h = subst P (sym e) h

  pub given_of : (own : List ℕ) (number : ℕ) (all : List Timed) (report : List Entry) (numbered : List Numbered) → number + length all ≡ end
      → Shaped own number all report → values numbered ≡ lines_of report
      → AllByRecursion (Origin report) (give end (marked_places own number all) numbered)
  given_of own number [] report [] at_end shaped e = tt
  given_of own number [] report (line ∷ numbered) at_end shaped e = absurd (nil_cons line.value (values numbered) (sym (e ∙ ap lines_of shaped)))
  given_of own number (timed ∷ all) report numbered at_end (mine, rest, whole, turn, later) e =
      let two = in_two numbered (lines_of mine) (lines_of rest) (e ∙ ap lines_of whole ∙ lines_both mine rest) in
      let after = given_of own (number + 1) all rest two.back (omega (arith, at_end)) later two.is_back in
      let there =
      each_weaker (Origin rest) (Origin (mine ++ rest)) (in_whole mine rest) (give end (marked_places own (number + 1) all) two.back) after in
      subst (λ (l : List Entry). AllByRecursion (Origin l) (give end (marked_places own number (timed ∷ all)) numbered)) (sym whole)
      (subst (λ (l : List Numbered). AllByRecursion (Origin (mine ++ rest)) (give end (marked_places own number (timed ∷ all)) l)) (sym two.whole)
      (by (lines_of mine) refl turn.head two.front two.is_front two.back there))
    where
      mine_has : (value : ReportLine) → HasEntry mine value
          → (entry : Entry) × Contains mine entry × Contains entry.lines value × (entry.event ≡ number)
      mine_has value h = (h.entry, h.reported, h.has, contained (λ (entry : Entry). entry.event ≡ number) mine h.entry turn.of_event h.reported)

      from_mine : (event line : ℕ) (value : ReportLine) → HasEntry mine value → number ≤ event → (is_marker value ≡ true → number ≡ event)
          → Origin (mine ++ rest) (record { line = line; event = event; value = value })
      from_mine event line value h le same =
          (let r = mine_has value h in
          record {
            entry = r.0;
            reported = in_front mine rest r.0 r.1;
            has = r.2;
            early = (let at = r.3 in omega (arith, at, le));
            marker =
                λ is. r.3 ∙ same is;
          })

      by : (first : List ReportLine) → lines_of mine ≡ first → Head own timed first → (front : List Numbered) → values front ≡ first
          → (back : List Numbered)
          → AllByRecursion (Origin (mine ++ rest)) (give end (marked_places own (number + 1) all) back)
          → AllByRecursion (Origin (mine ++ rest)) (give end (marked_places own number (timed ∷ all)) (front ++ back))
      by first lines (Marked marker only is fits marked) [] values_are back there = absurd (nil_cons marker [] (values_are ∙ only))
      by first lines (Marked marker only is fits marked) (one ∷ two ∷ front) values_are back there =
          absurd (nil_cons two.value (values front) (sym (cons_parts one.value marker (two.value ∷ values front) [] (values_are ∙ only)).1))
      by first lines (Marked marker only is fits marked) (one ∷ []) values_are back there =
          let same : one.value ≡ marker = (cons_parts one.value marker [] [] (values_are ∙ only)).0 in
          let has : HasEntry mine marker = (subst (AllByRecursion (HasEntry mine)) (lines ∙ only) (each_has_entry mine)).0 in
          subst
          (λ (b : Bool). Origin (mine ++ rest) (record {
            line = one.line;
            event =
                next_of end (cond b (number ∷ marked_places own (number + 1) all) (marked_places own (number + 1) all));
            value = one.value;
          })
          × AllByRecursion (Origin (mine ++ rest)) (give end
          (places_after (is_marker one.value) (cond b (number ∷ marked_places own (number + 1) all) (marked_places own (number + 1) all))) back))
          (sym marked) (
            from_mine number one.line one.value (subst (HasEntry mine) (sym same) has) (omega arith) (λ t. refl),
            subst (λ (b : Bool). AllByRecursion (Origin (mine ++ rest))
                (give end (places_after b (number ∷ marked_places own (number + 1) all)) back)) (sym (ap is_marker same ∙ is)) there,
          )
      by first lines (Unmarked marked ordinary) front values_are back there =
          let le : number ≤ end = (let at = at_end in omega (arith, at)) in
          let low : number ≤ next_of end (marked_places own (number + 1) all) =
          next_there number end (marked_places own (number + 1) all) le
          (each_weaker (λ (place : ℕ). number + 1 ≤ place) (λ (place : ℕ). number ≤ place) (λ place more. omega (arith, more))
          (marked_places own (number + 1) all) (from_there (number + 1) own all)) in
          let plain : AllByRecursion IsOrdinary (values front) = subst (AllByRecursion IsOrdinary) (sym values_are) ordinary in
          let has : AllByRecursion (HasEntry mine) (values front) =
          subst (AllByRecursion (HasEntry mine)) (lines ∙ sym values_are) (each_has_entry mine) in
          subst (λ (b : Bool). AllByRecursion (Origin (mine ++ rest))
          (give end (cond b (number ∷ marked_places own (number + 1) all) (marked_places own (number + 1) all)) (front ++ back))) (sym marked)
          (unmarked (Origin (mine ++ rest)) (marked_places own (number + 1) all) front back plain
          (each_weaker (λ (value : ReportLine). IsOrdinary value × HasEntry mine value)
          (λ (value : ReportLine). (line : ℕ) → Origin (mine ++ rest)
          (record { line = line; event = next_of end (marked_places own (number + 1) all); value = value }))
          (λ value both line. from_mine (next_of end (marked_places own (number + 1) all)) line value both.1 low
          (λ t. absurd (both_no (is_marker value) t both.0.marker))) (values front)
          (both_each IsOrdinary (HasEntry mine) (values front) plain has)) there)

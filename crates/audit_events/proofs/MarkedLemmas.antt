-- The markers of a report and the events that they belong to: which lines of the cut report tell a state.
use Rattle.std.specs.Prelude.{filter, Contains}
use Rattle.std.proofs.Common.{◌≡◌, ℕ, zero, suc, ◌+◌, ◌==◌, Bool, true, false, cond, inl, inr, map, List, [], ◌∷◌, slice_get, Some, refl, sym, ap, subst, ◌∙◌, arith}
use Rattle.std.specs.List.{AllByRecursion}
use Rattle.std.proofs.lemmas.Bool.{true≢false, cases_Bool, eq-eqb}
use Rattle.audit_defs.specs.scenario_defs.declared.event.Timed.{Timed}
use Rattle.audit_defs.specs.scenario_defs.declared.report.ReportLine.{ReportLine}
use Rattle.audit_defs.specs.declared.verdict.Numbered.{Numbered}
use Rattle.audit_defs.specs.Cut.{Given, next_of, places_after, give}
use Rattle.audit_defs.specs.Markers.{is_marker, markers, is_marked, marks, mark_each, marked_places}
use Rattle.audit_defs.proofs.Lists.{and_both}
use Rattle.audit_events.specs.declared.fate.Fate.{Fate}
use Rattle.audit_events.specs.declared.fate.Marked.{Marked}
use Rattle.audit_events.specs.Fates.{fate_at, left_after, fates_from, unmarked}
use Rattle.audit_events.specs.Placed.{places_of, fate_of}
use Rattle.audit_events.proofs.PlacedLemmas.{filtered, placed_by}
use Rattle.audit_events.proofs.FateLemmas.{Zipped, later_head, first_place, first_line}

-- a marker, and the place of the event that it belongs to
pub record Pair : Type 0 where
  pub place : ℕ
  pub line : ReportLine

abbrev pub pairs : List Marked → List ReportLine → List Pair
pairs [] all = []
pairs (mark ∷ more) [] = []
pairs (mark ∷ more) (line ∷ all) = record { place = mark.place; line = line } ∷ pairs more all

-- the event that a marker belongs to, by its number counted from that one on
pub record Belongs (number : ℕ) (events : List Timed) (all : List Fate) (pair : Pair) : Type 0 where
  pub offset : ℕ
  pub there : pair.place ≡ number + offset
  pub timed : Timed
  pub at : slice_get events offset ≡ Some timed
  pub is : marks timed pair.line ≡ true
  pub fate : slice_get all offset ≡ Some (fate_of pair.line)

further : (number : ℕ) (first : Timed) (events : List Timed) (own : Fate) (all : List Fate) (list : List Pair)
    → AllByRecursion (Belongs (number + 1) events all) list → AllByRecursion (Belongs number (first ∷ events) (own ∷ all)) list
further number first events own all [] h = tt
further number first events own all (pair ∷ list) h = (
  record {
    offset = suc h.0.offset;
    there = (let e = h.0.there in let sum : pair.place ≡ number + suc h.0.offset = omega (arith, e) in sum);
    timed =
        h.0.timed;
    at = h.0.at;
    is = h.0.is;
    fate = h.0.fate;
  },
  further number first events own all list h.1,
)

-- Each marker belongs to an event that it marks, and the event's fate is what it says.
pub all_belong : (N : List ℕ) (number : ℕ) (events : List Timed) (all : List ReportLine) (marked : List Marked) → Zipped N number events all marked →
    AllByRecursion (Belongs number events (fates_from number events marked)) (pairs marked all)
all_belong N number [] all [] zipped = tt
all_belong N number [] all (mark ∷ more) zipped = absurd (let e = zipped.places in cc)
all_belong N number (first ∷ events) all marked zipped = elim (cases_Bool (is_marked N first)) [
  | inl is ↦
      let head = first_place number (marked_places N (number + 1) events) marked (sym (placed_by N number first events true is) ∙ zipped.places) in
      let line =
      first_line head.0.fate (map (λ (mark : Marked). mark.fate) head.1) all (zipped.fates ∙ ap (map (λ (mark : Marked). mark.fate)) head.2) in
      let both = and_both (marks first line.0) (mark_each (filter (is_marked N) events) line.1)
      (sym (ap (λ l. mark_each l (line.0 ∷ line.1)) (filtered N first events true is))
      ∙ (ap (mark_each (filter (is_marked N) (first ∷ events))) (sym line.2) ∙ zipped.each)) in
      let here : (head.0.place == number) ≡ true = eq-eqb head.0.place number head.3 in
      let fate : fate_at number first marked ≡ head.0.fate = ap (fate_at number first) head.2 ∙ ap (λ b. cond b head.0.fate (unmarked first)) here in
      let left : left_after number marked ≡ head.1 = ap (left_after number) head.2 ∙ ap (λ b. cond b head.1 (head.0 ∷ head.1)) here in
      let rest = all_belong N (number + 1) events line.1 head.1 (record { places = head.4; each = both.1; fates = line.4 }) in
      let more : List Fate = fates_from (number + 1) events head.1 in
      let own : Belongs number (first ∷ events) (fate_of line.0 ∷ more) (record { place = head.0.place; line = line.0 }) =
      record {
        offset = 0;
        there = (let e = head.3 in let sum : head.0.place ≡ number + 0 = omega (arith, e) in sum);
        timed = first;
        at = refl;
        is =
            both.0;
        fate = refl;
      } in
      let whole : AllByRecursion (Belongs number (first ∷ events) (fate_of line.0 ∷ more)) (pairs (head.0 ∷ head.1) (line.0 ∷ line.1)) =
      (own, further number first events (fate_of line.0) more (pairs head.1 line.1) rest) in
      moved (fate ∙ line.3) left head.2 line.2 whole
  | inr isnt ↦
      let later = later_head N number first events marked (sym (placed_by N number first events false isnt) ∙ zipped.places) in
      let rest = all_belong N (number + 1) events all marked (record {
        places = sym (placed_by N number first events false isnt) ∙ zipped.places;
        each = sym (ap (λ l. mark_each l all) (filtered N first events false isnt)) ∙ zipped.each;
        fates = zipped.fates;
      }) in
      moved refl later.1 refl refl (further number first events (fate_at number first marked) (fates_from (number + 1) events marked)
      (pairs marked all) rest)
]
  where
    moved : {own : Fate} {rest ms : List Marked} {ls : List ReportLine} → fate_at number first marked ≡ own → left_after number marked ≡ rest
        → marked ≡ ms → all ≡ ls →
        AllByRecursion (Belongs number (first ∷ events) (own ∷ fates_from (number + 1) events rest)) (pairs ms ls) →
        AllByRecursion (Belongs number (first ∷ events) (fates_from number (first ∷ events) marked)) (pairs marked all)
    moved {ms = ms} {ls = ls} fate left same list h =
        subst (λ (l : List Pair). AllByRecursion (Belongs number (first ∷ events) (fates_from number (first ∷ events) marked)) l)
        (λ i. pairs (sym same i) (sym list i))
        (subst (λ (l : List Fate). AllByRecursion (Belongs number (first ∷ events) l) (pairs ms ls))
        (λ i. sym fate i ∷ fates_from (number + 1) events (sym left i)) h)

-- ---- the given lines

-- a given line that is a marker is one of the pairs
abbrev pub IsPaired : List Pair → Given → Type 0
IsPaired list given = is_marker given.value ≡ true → Contains list (record { place = given.event; line = given.value })

pub contains_first : {X : Type 0} (x : X) (xs : List X) → Contains (x ∷ xs) x
contains_first x xs = (zero, omega arith, refl)

pub contains_later : {X : Type 0} (x y : X) (xs : List X) → Contains xs y → Contains (x ∷ xs) y
contains_later x y xs (k, within, e) = (suc k, omega (arith, within), e)

pub contained : {X : Type 0} (P : X → Type 0) (xs : List X) (x : X) → AllByRecursion P xs → Contains xs x → P x
contained P [] x p (k, within, e) = absurd (omega (arith, within))
contained P (y ∷ ys) x p (zero, within, e) = subst P e p.0
contained P (y ∷ ys) x p (suc k, within, e) = contained P ys x p.1 (k, omega (arith, within), e)

first_mark : (fate : Fate) (rest : List Fate) (marked : List Marked) → fate ∷ rest ≡ map (λ (mark : Marked). mark.fate) marked →
    (mark : Marked) × (more : List Marked) × (marked ≡ mark ∷ more) × (rest ≡ map (λ (m : Marked). m.fate) more)
first_mark fate rest [] e = absurd cc
first_mark fate rest (mark ∷ more) e = (mark, more, refl, (let same : rest ≡ map (λ (m : Marked). m.fate) more = cc in same))

paired_later : (pair : Pair) (list : List Pair) (all : List Given) → AllByRecursion (IsPaired list) all → AllByRecursion (IsPaired (pair ∷ list)) all
paired_later pair list [] h = tt
paired_later pair list (given ∷ all) h =
    (λ is. contains_later pair (record { place = given.event; line = given.value }) list (h.0 is), paired_later pair list all h.1)

markers_by : (line : Numbered) (all : List Numbered) (b : Bool) → is_marker line.value ≡ b
    → markers (line ∷ all) ≡ cond b (line.value ∷ markers all) (markers all)
markers_by line all b is = ap (λ c. cond c (line.value ∷ markers all) (markers all)) is

-- Each line that is a marker is given to the event that it belongs to.
pub all_paired : (end : ℕ) (marked : List Marked) (all : List Numbered) → map fate_of (markers all) ≡ map (λ (mark : Marked). mark.fate) marked →
    AllByRecursion (IsPaired (pairs marked (markers all))) (give end (places_of marked) all)
all_paired end marked [] e = tt
all_paired end marked (line ∷ all) e = elim (cases_Bool (is_marker line.value)) [
  | inl is ↦
      let own = markers_by line all true is in
      let head = first_mark (fate_of line.value) (map fate_of (markers all)) marked (ap (map fate_of) (sym own) ∙ e) in
      let rest = all_paired end head.1 all head.3 in
      let pair : Pair = record { place = head.0.place; line = line.value } in
      let whole : AllByRecursion (IsPaired (pairs (head.0 ∷ head.1) (line.value ∷ markers all)))
      (record { line = line.line; event = head.0.place; value = line.value } ∷ give end (places_of head.1) all) = (
        λ marker. contains_first pair (pairs head.1 (markers all)),
        paired_later pair (pairs head.1 (markers all)) (give end (places_of head.1) all) rest,
      ) in
      moved head.2 own (ap (λ b. give end (places_after b (head.0.place ∷ places_of head.1)) all) is) whole
  | inr isnt ↦
      let own = markers_by line all false isnt in
      let rest = all_paired end marked all (ap (map fate_of) (sym own) ∙ e) in (
        λ is. absurd (true≢false (sym is ∙ isnt)),
        subst (λ (l : List Given). AllByRecursion (IsPaired (pairs marked (markers (line ∷ all)))) l)
            (ap (λ b. give end (places_after b (places_of marked)) all) (sym isnt))
            (subst (λ (l : List ReportLine). AllByRecursion (IsPaired (pairs marked l)) (give end (places_of marked) all)) (sym own) rest),
      )
]
  where
    moved : {ls : List ReportLine} {more : List Given} {mark : Marked} {later : List Marked} → marked ≡ mark ∷ later → markers (line ∷ all) ≡ ls →
        give end (places_after (is_marker line.value) (mark.place ∷ places_of later)) all ≡ more →
        AllByRecursion (IsPaired (pairs (mark ∷ later) ls)) (record { line = line.line; event = mark.place; value = line.value } ∷ more) →
        AllByRecursion (IsPaired (pairs marked (markers (line ∷ all)))) (give end (places_of marked) (line ∷ all))
    moved {ls = ls} {more = more} {mark = mark} {later = later} same own rest h =
        subst (λ (ms : List Marked). AllByRecursion (IsPaired (pairs ms (markers (line ∷ all)))) (give end (places_of ms) (line ∷ all))) (sym same)
        (subst (λ (l : List ReportLine). AllByRecursion (IsPaired (pairs (mark ∷ later) l)) (give end (places_of (mark ∷ later)) (line ∷ all)))
        (sym own)
        (subst (λ (l : List Given). AllByRecursion (IsPaired (pairs (mark ∷ later) ls))
        (record { line = line.line; event = mark.place; value = line.value } ∷ l)) (sym rest) h))

-- a line that is given to the pair's event, and says what its marker says
pub record HasGiven (all : List Given) (pair : Pair) : Type 0 where
  pub given : Given
  pub among : Contains all given
  pub event : given.event ≡ pair.place
  pub value : given.value ≡ pair.line

given_later : (given : Given) (all : List Given) (list : List Pair) → AllByRecursion (HasGiven all) list
    → AllByRecursion (HasGiven (given ∷ all)) list
given_later given all [] h = tt
given_later given all (pair ∷ list) h = (
  record { given = h.0.given; among = contains_later given h.0.given all h.0.among; event = h.0.event; value = h.0.value },
  given_later given all list h.1,
)

-- Each marker is among the given lines.
pub all_given : (end : ℕ) (marked : List Marked) (all : List Numbered) → map fate_of (markers all) ≡ map (λ (mark : Marked). mark.fate) marked →
    AllByRecursion (HasGiven (give end (places_of marked) all)) (pairs marked (markers all))
all_given end [] [] e = tt
all_given end (mark ∷ marked) [] e = absurd cc
all_given end marked (line ∷ all) e = elim (cases_Bool (is_marker line.value)) [
  | inl is ↦
      let own = markers_by line all true is in
      let head = first_mark (fate_of line.value) (map fate_of (markers all)) marked (ap (map fate_of) (sym own) ∙ e) in
      let rest = all_given end head.1 all head.3 in
      let first : Given = record { line = line.line; event = head.0.place; value = line.value } in
      let whole : AllByRecursion (HasGiven (first ∷ give end (places_of head.1) all))
      (record { place = head.0.place; line = line.value } ∷ pairs head.1 (markers all)) = (
        record { given = first; among = contains_first first (give end (places_of head.1) all); event = refl; value = refl },
        given_later first (give end (places_of head.1) all) (pairs head.1 (markers all)) rest,
      ) in
      subst (λ (ms : List Marked). AllByRecursion (HasGiven (give end (places_of ms) (line ∷ all))) (pairs ms (markers (line ∷ all)))) (sym head.2)
      (subst (λ (l : List ReportLine). AllByRecursion (HasGiven (give end (places_of (head.0 ∷ head.1)) (line ∷ all))) (pairs (head.0 ∷ head.1) l))
      (sym own)
      (subst (λ (l : List Given). AllByRecursion (HasGiven (first ∷ l))
      (record { place = head.0.place; line = line.value } ∷ pairs head.1 (markers all)))
      (ap (λ b. give end (places_after b (head.0.place ∷ places_of head.1)) all) (sym is)) whole))
  | inr isnt ↦
      let own = markers_by line all false isnt in
      let rest = all_given end marked all (ap (map fate_of) (sym own) ∙ e) in
      let first : Given = record { line = line.line; event = next_of end (places_of marked); value = line.value } in
      subst (λ (l : List ReportLine). AllByRecursion (HasGiven (give end (places_of marked) (line ∷ all))) (pairs marked l)) (sym own)
      (subst (λ (l : List Given). AllByRecursion (HasGiven (first ∷ l)) (pairs marked (markers all)))
      (ap (λ b. give end (places_after b (places_of marked)) all) (sym isnt))
      (given_later first (give end (places_of marked) all) (pairs marked (markers all)) rest))
]

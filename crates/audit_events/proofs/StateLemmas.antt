-- Which state lines a cut report tells, by the fates of its events.
use Rattle.std.specs.Prelude.{filter, Contains}
use Rattle.std.proofs.Common.{◌≡◌, ℕ, zero, suc, ◌+◌, ◌==◌, Bool, true, false, cond, map, length, List, [], ◌∷◌, slice_get, Some, refl, sym, ap, subst, ◌∙◌, arith}
use Rattle.std.specs.List.{AllByRecursion}
use Rattle.std.proofs.lemmas.Bool.{true≢false}
use Rattle.std.proofs.lemmas.Option.{none-some}
use Rattle.audit_defs.specs.scenario_defs.declared.event.Script.{Script}
use Rattle.audit_defs.specs.scenario_defs.declared.event.Event.{Event}
use Rattle.audit_defs.specs.scenario_defs.declared.event.Timed.{Timed}
use Rattle.audit_defs.specs.scenario_defs.declared.report.ReportLine.{ReportLine}
use Rattle.audit_defs.specs.scenario_defs.declared.report.ReportLine.TheVariants as lines
use Rattle.audit_defs.specs.mvpn_model.Once.{TellsState}
use Rattle.audit_defs.specs.mvpn_model.Report.{Entry}
use Rattle.audit_defs.specs.declared.verdict.ReportLines.{ReportLines}
use Rattle.audit_defs.specs.Cut.{Given, give, audited, entry_of, cut}
use Rattle.audit_defs.specs.Markers.{values, markers, named, is_marker, is_marked, is_state, is_refusable, marks, mark_each, marked_places}
use Rattle.audit_defs.proofs.Lists.{and_both, some_same, or_left}
use Rattle.audit_events.specs.declared.fate.Fate.{Fate}
use Rattle.audit_events.specs.declared.fate.Marked.{Marked}
use Rattle.audit_events.specs.Fates.{fates_from}
use Rattle.audit_events.specs.Marking.{AreMarked}
use Rattle.audit_events.specs.Placed.{places_of, fate_of}
use Rattle.audit_events.proofs.MarkingLemmas.{named_markers}
use Rattle.audit_events.proofs.FateLemmas.{Zipped, state_only}
use Rattle.audit_events.proofs.MarkedLemmas.{Pair, pairs, Belongs, all_belong, IsPaired, all_paired, HasGiven, all_given, contained, contains_first, contains_later}

-- ---- the event of a marked place has a pair

marked_among : (N : List ℕ) (number : ℕ) (all : List Timed) (k : ℕ) (timed : Timed) → slice_get all k ≡ Some timed → is_marked N timed ≡ true
    → Contains (marked_places N number all) (number + k)
marked_among N number [] k timed e is = absurd (none-some timed e)
marked_among N number (first ∷ all) zero timed e is =
    let own : is_marked N first ≡ true = ap (is_marked N) (some_same first timed e) ∙ is in
    subst (λ n. Contains (marked_places N number (first ∷ all)) n) (let same : number ≡ number + 0 = omega arith in same)
    (subst (λ b. Contains (cond b (number ∷ marked_places N (number + 1) all) (marked_places N (number + 1) all)) number) (sym own)
    (contains_first number (marked_places N (number + 1) all)))
marked_among N number (first ∷ all) (suc k) timed e is =
    subst (λ n. Contains (marked_places N number (first ∷ all)) n) (let same : number + 1 + k ≡ number + suc k = omega arith in same)
    (by (is_marked N first) (marked_among N (number + 1) all k timed e is))
  where
    by : (b : Bool) → Contains (marked_places N (number + 1) all) (number + 1 + k)
        → Contains (cond b (number ∷ marked_places N (number + 1) all) (marked_places N (number + 1) all)) (number + 1 + k)
    by true h = contains_later number (number + 1 + k) (marked_places N (number + 1) all) h
    by false h = h

record PairAt (list : List Pair) (place : ℕ) : Type 0 where
  line : ReportLine
  among : Contains list (record { place = place; line = line })

pair_at : (marked : List Marked) (all : List ReportLine) (place : ℕ) → map fate_of all ≡ map (λ (mark : Marked). mark.fate) marked
    → Contains (places_of marked) place → PairAt (pairs marked all) place
pair_at [] all place e (k, within, same) = absurd (omega (arith, within))
pair_at (mark ∷ marked) [] place e h = absurd cc
pair_at (mark ∷ marked) (line ∷ all) place e (zero, within, same) =
    record {
      line = line;
      among =
          subst (λ n. Contains (pairs (mark ∷ marked) (line ∷ all)) (record { place = n; line = line })) same
          (contains_first (record { place = mark.place; line = line }) (pairs marked all));
    }
pair_at (mark ∷ marked) (line ∷ all) place e (suc k, within, same) =
    let r = pair_at marked all place (let rest : map fate_of all ≡ map (λ (m : Marked). m.fate) marked = cc in rest) (k, omega (arith, within), same)
    in
    record {
      line = r.line;
      among =
          contains_later (record { place = mark.place; line = line }) (record { place = place; line = r.line }) (pairs marked all) r.among;
    }

-- ---- the lines of a cut report

contains_map : {X Y : Type 0} (f : X → Y) (xs : List X) (x : X) → Contains xs x → Contains (map f xs) (f x)
contains_map f [] x (k, within, e) = absurd (omega (arith, within))
contains_map f (y ∷ xs) x (zero, within, e) = (zero, omega arith, ap f e)
contains_map f (y ∷ xs) x (suc k, within, e) = contains_later (f y) (f x) (map f xs) (contains_map f xs x (k, omega (arith, within), e))

each_mapped : {X Y : Type 0} (P : Y → Type 0) (f : X → Y) (xs : List X) → AllByRecursion (λ x. P (f x)) xs → AllByRecursion P (map f xs)
each_mapped P f [] h = tt
each_mapped P f (x ∷ xs) h = (h.0, each_mapped P f xs h.1)

each_so : {X : Type 0} (P Q : X → Type 0) → ((x : X) → P x → Q x) → (xs : List X) → AllByRecursion P xs → AllByRecursion Q xs
each_so P Q h [] e = tt
each_so P Q h (x ∷ xs) e = (h x e.0, each_so P Q h xs e.1)

module _ (script : Script) (report : ReportLines) (marked : List Marked) (are : AreMarked script report marked) where
  abbrev pub all_fates : List Fate
  all_fates = fates_from 0 script.events marked

  abbrev own_pairs : List Pair
  own_pairs = pairs marked (markers report.lines)

  zipped : Zipped (named (values report.lines)) 0 script.events (markers report.lines) marked
  zipped = record {
    places = are.places;
    each = ap (λ (l : List ℕ). mark_each (filter (is_marked l) script.events) (markers report.lines)) (sym (named_markers report.lines))
        ∙ are.judged.fitting;
    fates = are.fates;
  }

  belong : AllByRecursion (Belongs 0 script.events all_fates) own_pairs
  belong = all_belong (named (values report.lines)) 0 script.events (markers report.lines) marked zipped

  pub lines_are : (audited script report.lines).lines ≡ give (length script.events) (places_of marked) report.lines
  lines_are = ap (λ l. give (length script.events) l report.lines) are.places

  paired : AllByRecursion (IsPaired own_pairs) (audited script report.lines).lines
  paired = subst (λ (l : List Given). AllByRecursion (IsPaired own_pairs) l) (sym lines_are)
      (all_paired (length script.events) marked report.lines are.fates)

  given : AllByRecursion (HasGiven (audited script report.lines).lines) own_pairs
  given = subst (λ (l : List Given). AllByRecursion (HasGiven l) own_pairs) (sym lines_are)
      (all_given (length script.events) marked report.lines are.fates)

  -- the fate of the event of a pair
  fate_in : (place : ℕ) (line : ReportLine) → Contains own_pairs (record { place = place; line = line })
      → slice_get all_fates place ≡ Some (fate_of line)
  fate_in place line among =
      let b = contained (Belongs 0 script.events all_fates) own_pairs (record { place = place; line = line }) belong among in
      ap (slice_get all_fates) (let e = b.there in let same : place ≡ b.offset = omega (arith, e) in same) ∙ b.fate

  -- A state line that the cut report tells is the fate of its event.
  pub told_fate : (place bytes copies buffers due unready : ℕ)
      → TellsState script.events (cut (audited script report.lines)) place bytes copies buffers due unready →
      slice_get all_fates place ≡ Some (fate_of (lines.State bytes copies buffers due unready))
  told_fate place bytes copies buffers due unready tells =
      contained Claim (cut (audited script report.lines)) tells.entry
      (each_mapped Claim entry_of (audited script report.lines).lines
      (each_so (IsPaired own_pairs) (λ g. Claim (entry_of g)) claims (audited script report.lines).lines paired)) tells.reported tells.of_event
      tells.told
    where
      Claim : Entry → Type 0
      Claim entry =
          entry.event ≡ place → Contains entry.lines (lines.State bytes copies buffers due unready)
          → slice_get all_fates place ≡ Some (fate_of (lines.State bytes copies buffers due unready))

      claims : (g : Given) → IsPaired own_pairs g → Claim (entry_of g)
      claims g is at has =
          let value : g.value ≡ lines.State bytes copies buffers due unready =
          contained (λ (own : ReportLine). g.value ≡ own) (g.value ∷ []) (lines.State bytes copies buffers due unready) (refl, tt) has in
          ap (slice_get all_fates) (sym at) ∙ (fate_in g.event g.value (is (ap is_marker value)) ∙ ap (λ (l : ReportLine). Some (fate_of l)) value)

  -- the line that marks a `state` event, told by the cut report
  pub record StateLine (place : ℕ) : Type 0 where
    pub bytes : ℕ
    pub copies : ℕ
    pub buffers : ℕ
    pub due : ℕ
    pub unready : ℕ
    pub tells : TellsState script.events (cut (audited script report.lines)) place bytes copies buffers due unready
    pub fate : slice_get all_fates place ≡ Some (fate_of (lines.State bytes copies buffers due unready))

  state_line : (place : ℕ) (timed : Timed) → slice_get script.events place ≡ Some timed → is_state timed.event ≡ true → (line : ReportLine)
      → Contains own_pairs (record { place = place; line = line }) →
      marks timed line ≡ true → StateLine place
  state_line place timed e is (lines.State bytes copies buffers due unready) among m =
      let g = contained (HasGiven (audited script report.lines).lines) own_pairs
      (record { place = place; line = lines.State bytes copies buffers due unready }) given among in
      record {
        bytes = bytes;
        copies = copies;
        buffers = buffers;
        due = due;
        unready = unready;
        tells = record {
          line = timed.line;
          at = e ∙ ap (λ (event : Event). Some (record { line = timed.line; event = event })) (state_only timed.event is);
          entry = entry_of g.given;
          reported = contains_map entry_of (audited script report.lines).lines g.given g.among;
          of_event = g.event;
          told = subst (λ (l : ReportLine). Contains (l ∷ []) (lines.State bytes copies buffers due unready)) (sym g.value)
              (contains_first (lines.State bytes copies buffers due unready) []);
        };
        fate = fate_in place (lines.State bytes copies buffers due unready) among;
      }
  state_line place timed e is (lines.Refused line reason) among m =
      absurd (true≢false (sym (and_both (line == timed.line) (is_refusable timed.event) m).1 ∙ ap is_refusable (state_only timed.event is)))
  state_line place timed e is (lines.Out number iface bytes) among m = absurd (true≢false (sym m))
  state_line place timed e is (lines.Halt line node) among m = absurd (true≢false (sym m))
  state_line place timed e is (lines.Put kind from to bytes) among m = absurd (true≢false (sym m))
  state_line place timed e is (lines.Take kind from to bytes) among m = absurd (true≢false (sym m))
  state_line place timed e is (lines.Hop from to label ttl number) among m = absurd (true≢false (sym m))
  state_line place timed e is (lines.Land from to label number) among m = absurd (true≢false (sym m))

  -- Each `state` event has its line.
  pub state_told : (place : ℕ) (timed : Timed) → slice_get script.events place ≡ Some timed → is_state timed.event ≡ true → StateLine place
  state_told place timed e is =
      let N = named (values report.lines) in
      let among =
      subst (Contains (places_of marked)) (let same : 0 + place ≡ place = omega arith in same)
      (subst (λ l. Contains l (0 + place)) are.places (marked_among N 0 script.events place timed e (or_left (is_state timed.event) _ is))) in
      let pair = pair_at marked (markers report.lines) place are.fates among in
      let b = contained (Belongs 0 script.events all_fates) own_pairs (record { place = place; line = pair.line }) belong pair.among in
      let own : b.timed ≡ timed =
      some_same b.timed timed (sym b.at ∙ (ap (slice_get script.events)
      (let at = b.there in let same : b.offset ≡ place = omega (arith, at) in same) ∙ e)) in
      state_line place timed e is pair.line pair.among (subst (λ (t : Timed). marks t pair.line ≡ true) own b.is)

-- The report of a run has no offence.
use Rattle.std.specs.Prelude.{Contains, filter, count_by}
use Rattle.std.proofs.Common.{◌≡◌, ℕ, zero, suc, ◌+◌, ◌-◌, ◌≤◌, inl, inr, ◌++◌, map, take, length, List, [], ◌∷◌, slice_get, Some, refl, sym, ap, subst, ◌∙◌, append-nil, arith}
use Rattle.std.specs.List.{AllByRecursion, list_any}
use Rattle.mv_base.specs.declared.ids.IfaceId.{IfaceId}
use Rattle.scenario_defs.specs.Rules.{Rises}
use Rattle.scenario_defs.specs.declared.event.Event.TheVariants as event
use Rattle.scenario_defs.specs.declared.event.Script.{Script}
use Rattle.scenario_defs.specs.declared.event.Timed.{Timed}
use Rattle.scenario_defs.specs.declared.report.ReportLine.{ReportLine}
use Rattle.scenario_defs.specs.declared.report.ReportLine.TheVariants as lines
use Rattle.scenario_defs.specs.declared.scenario.Scenario.{Scenario}
use Rattle.mvpn_model.specs.Once.{TellsState, EndsWindow, IsWindow, Once}
use Rattle.mvpn_model.specs.Report.{Entry, Datagram, datagrams, lines_of, refused_lines, is_out_at}
use Rattle.mvpn_model.specs.Safe.{IsSafeOut, IsSafeLine, IsSafeEntry, Safe}
use Rattle.network_defs.specs.Costs.{Cores}
use Rattle.network_defs.specs.Run.{Traced, report_of}
use Rattle.network_defs.specs.World.{World, start}
use Rattle.network_laws.specs.SoundRun.{SoundRun}
use Rattle.network_laws.proofs.Lists.{each_map, each_weaker}
use Rattle.network_laws.proofs.LabelTaken.{contained}
use Rattle.once_laws.proofs.delivery_laws.Accepted.{tells_accepted}
use Rattle.once_laws.proofs.Once.{deliver_once}
use Rattle.once_laws.proofs.SafeRuns.{safe}
use Rattle.run_laws.specs.Plain.{plain}
use Rattle.run_laws.proofs.Plain.{same_refused, same_safe, same_once}
use Rattle.audit_defs.specs.declared.verdict.Numbered.{Numbered}
use Rattle.audit_defs.specs.declared.verdict.ReportLines.{ReportLines}
use Rattle.audit_defs.specs.Markers.{values, is_marker, markers, named, is_marked, mark_each, fit, marked_places}
use Rattle.audit_defs.specs.Cut.{unnamed, refused_by, Given, places_after, give, entry_of}
use Rattle.audit_defs.specs.Verdicts.{is_halt, HasNoOffence, IsFair}
use Rattle.once_laws.proofs.delivery_laws.Sendings.{datagrams_both}
use Rattle.audit_defs.proofs.Lists.{got_still}
use Rattle.audit_laws.proofs.Shapes.{Shaped, marks_all, no_halts, none_unnamed, plain_shaped, run_shaped}
use Rattle.audit_laws.proofs.Origins.{Origin, given_of}
use Rattle.audit_laws.proofs.Fair.{no_offence_is_fair}

-- ---- markers name what all lines name

one : (line : ReportLine) (all : List ReportLine) → named (filter is_marker all) ≡ named all
    → named (filter is_marker (line ∷ all)) ≡ named (line ∷ all)
one (lines.State bytes copies buffers due unready) all rest = rest
one (lines.Refused refused reason) all rest = ap (λ l. refused ∷ l) rest
one (lines.Halt halted node) all rest = rest
one (lines.Out number iface bytes) all rest = rest
one (lines.Put kind from to bytes) all rest = rest
one (lines.Take kind from to bytes) all rest = rest
one (lines.Hop from to label ttl number) all rest = rest
one (lines.Land from to label number) all rest = rest

named_markers : (all : List ReportLine) → named (filter is_marker all) ≡ named all
named_markers [] = refl
named_markers (line ∷ all) = one line all (named_markers all)

-- ---- what is safe by some events is safe by more

front_in : {X : Type 0} (xs : List X) (a b : ℕ) → a ≤ b → (rest : List X) × (take a xs ++ rest ≡ take b xs)
front_in xs zero b le = (take b xs, refl)
front_in [] (suc a) zero le = ([], refl)
front_in [] (suc a) (suc b) le = ([], refl)
front_in (x ∷ xs) (suc a) zero le = absurd (omega (arith, le))
front_in (x ∷ xs) (suc a) (suc b) le = (let r = front_in xs a b (omega (arith, le)) in (r.0, λ i. x ∷ r.1 i))

cut_lines : (end : ℕ) (places : List ℕ) (all : List Numbered) → lines_of (map entry_of (give end places all)) ≡ values all
cut_lines end places [] = refl
cut_lines end places (line ∷ all) = (λ i. line.value ∷ cut_lines end (places_after (is_marker line.value) places) all i)

module _ (scenario : Scenario) (events : List Timed) (refused : List ℕ) where
  out_later : (a b : ℕ) → a ≤ b → (number : ℕ) (iface : IfaceId) (bytes : List ℕ) → IsSafeOut scenario (take a events) refused number iface bytes
      → IsSafeOut scenario (take b events) refused number iface bytes
  out_later a b le number iface bytes is =
      let r = front_in events a b le in
      record {
        datagram = is.datagram;
        counted = is.counted;
        accepted =
            ap (λ (l : List Timed). slice_get (datagrams refused 0 l) (number - 1)) (sym r.1)
            ∙ ap (λ (l : List Datagram). slice_get l (number - 1)) (datagrams_both refused (take a events) r.0 0 (0 + length (take a events)) refl)
            ∙ got_still (datagrams refused 0 (take a events)) (datagrams refused (0 + length (take a events)) r.0) (number - 1) is.datagram
            is.accepted;
        carried = is.carried;
        admitted = is.admitted;
      }

  line_later : (a b : ℕ) → a ≤ b → (line : ReportLine) → IsSafeLine scenario (take a events) refused line
      → IsSafeLine scenario (take b events) refused line
  line_later a b le (lines.Out number iface bytes) is = out_later a b le number iface bytes is
  line_later a b le (lines.Put kind from to bytes) is = tt
  line_later a b le (lines.Take kind from to bytes) is = tt
  line_later a b le (lines.Land from to label number) is = tt
  line_later a b le (lines.Hop from to label ttl number) is = tt
  line_later a b le (lines.Refused line reason) is = tt
  line_later a b le (lines.Halt line node) is = tt
  line_later a b le (lines.State bytes copies buffers due unready) is = tt

  module _ (report : List Entry) (givens : List Given) (origins : AllByRecursion (Origin report) givens) where
    given_safe : Safe scenario events refused report → (given : Given) → Origin report given → IsSafeEntry scenario events refused (entry_of given)
    given_safe safe given o =
        let mine : AllByRecursion (IsSafeLine scenario (take (o.entry.event + 1) events) refused) o.entry.lines =
        contained (IsSafeEntry scenario events refused) report o.entry safe o.reported in
        let le : o.entry.event + 1 ≤ given.event + 1 = (let early = o.early in omega (arith, early)) in (
          line_later (o.entry.event + 1) (given.event + 1) le given.value
              (contained (IsSafeLine scenario (take (o.entry.event + 1) events) refused) o.entry.lines given.value mine o.has),
          tt,
        )

    pub cut_safe : Safe scenario events refused report → Safe scenario events refused (map entry_of givens)
    cut_safe safe =
        each_map (IsSafeEntry scenario events refused) entry_of givens
        (each_weaker (Origin report) (λ (given : Given). IsSafeEntry scenario events refused (entry_of given)) (given_safe safe) givens origins)

    state_back : (place line bytes copies buffers due unready : ℕ) → slice_get events place ≡ Some (record { line = line; event = event.State })
        → (given : Given) → Origin report given
        → given.event ≡ place → Contains (given.value ∷ []) (lines.State bytes copies buffers due unready)
        → TellsState events report place bytes copies buffers due unready
    state_back place line bytes copies buffers due unready at given o same told =
        let value : given.value ≡ lines.State bytes copies buffers due unready =
        contained (λ (own : ReportLine). given.value ≡ own) (given.value ∷ []) (lines.State bytes copies buffers due unready) (refl, tt) told in
        record {
          line = line;
          at = at;
          entry = o.entry;
          reported = o.reported;
          of_event = o.marker (ap is_marker value) ∙ same;
          told =
              subst (Contains o.entry.lines) value o.has;
        }

    tells_back : (place bytes copies buffers due unready : ℕ) → TellsState events (map entry_of givens) place bytes copies buffers due unready
        → TellsState events report place bytes copies buffers due unready
    tells_back place bytes copies buffers due unready tells =
        let claim =
        λ (entry : Entry). entry.event ≡ place → Contains entry.lines (lines.State bytes copies buffers due unready)
        → TellsState events report place bytes copies buffers due unready in
        contained claim (map entry_of givens) tells.entry
        (each_map claim entry_of givens (each_weaker (Origin report) (λ (given : Given). claim (entry_of given))
        (state_back place tells.line bytes copies buffers due unready tells.at) givens origins)) tells.reported tells.of_event tells.told

    ends_back : (place : ℕ) → EndsWindow events (map entry_of givens) place → EndsWindow events report place
    ends_back place (inl drains) = inl drains
    ends_back place (inr (bytes, buffers, due, unready, tells)) =
        inr (bytes, buffers, due, unready, tells_back place bytes 0 buffers due unready tells)

    window_back : (first last : ℕ) → IsWindow events refused (map entry_of givens) first last → IsWindow events refused report first last
    window_back first last is =
        record {
          calm = is.calm;
          opens = is.opens;
          is_calm = tells_back is.calm 0 0 0 0 0 is.is_calm;
          closes = ends_back last is.closes;
          within =
              is.within;
        }

    pub cut_once : lines_of (map entry_of givens) ≡ lines_of report → Once scenario events refused report
        → Once scenario events refused (map entry_of givens)
    cut_once same once first last is place datagram at low high iface =
        ap (λ (l : List ReportLine). count_by (is_out_at (place + 1) iface) l) same
        ∙ once first last (window_back first last is) place datagram at low high iface

-- ---- reports of the shape of a run

pub fair_of : (script : Script) (report : ReportLines) (entries : List Entry) → values report.lines ≡ lines_of entries
    → Shaped (refused_lines entries) 0 script.events entries
    → Safe script.scenario script.events (refused_lines entries) entries → Once script.scenario script.events (refused_lines entries) entries
    → IsFair script report
fair_of script report entries same shaped safe once =
    let named_is : named (values report.lines) ≡ refused_lines entries = ap named same in
    let refused_is : refused_by script.events (values report.lines) ≡ refused_lines entries =
    ap (λ (l : List ℕ). l ++ unnamed l script.events) named_is
    ∙ ap (λ (l : List ℕ). refused_lines entries ++ l) (none_unnamed (refused_lines entries) 0 script.events entries shaped)
    ∙ append-nil (refused_lines entries) in
    let origins = given_of (length script.events) (refused_lines entries) 0 script.events entries report.lines (omega arith) shaped same in
    let lines_are = cut_lines (length script.events) (marked_places (refused_lines entries) 0 script.events) report.lines ∙ same in
    let Cut = λ (l : List ℕ). map entry_of (give (length script.events) (marked_places l 0 script.events) report.lines) in
    let safe_cut =
    cut_safe script.scenario script.events (refused_lines entries) entries
    (give (length script.events) (marked_places (refused_lines entries) 0 script.events) report.lines) origins safe in
    let once_cut =
    cut_once script.scenario script.events (refused_lines entries) entries
    (give (length script.events) (marked_places (refused_lines entries) 0 script.events) report.lines) origins lines_are once in
    let markers_are : markers report.lines ≡ filter is_marker (lines_of entries) = ap (filter is_marker) same in
    record {
      judged = record {
        fitting =
            ap (λ (l : List ReportLine). fit script.events l) markers_are
            ∙ ap (λ (l : List ℕ). mark_each (filter (is_marked l) script.events) (filter is_marker (lines_of entries)))
            (named_markers (lines_of entries))
            ∙ marks_all (refused_lines entries) 0 script.events entries shaped;
        unhalted = ap (list_any is_halt) same ∙ no_halts (refused_lines entries) 0 script.events entries shaped;
      };
      safe = subst (λ (l : List ℕ). Safe script.scenario script.events l (Cut (named (values report.lines)))) (sym refused_is)
          (subst (λ (l : List ℕ). Safe script.scenario script.events (refused_lines entries) (Cut l)) (sym named_is) safe_cut);
      once = subst (λ (l : List ℕ). Once script.scenario script.events l (Cut (named (values report.lines)))) (sym refused_is)
          (subst (λ (l : List ℕ). Once script.scenario script.events (refused_lines entries) (Cut l)) (sym named_is) once_cut);
    }

module _ (cores : Cores) (script : Script) (trace : List Traced) (world : World) (report : ReportLines)
    (sound : SoundRun cores script script.events trace world) (rises : Rises 0 script.events) where
  shaped : Shaped (refused_lines (report_of trace)) 0 script.events (report_of trace)
  shaped =
      run_shaped (refused_lines (report_of trace)) script.events (start script.scenario cores) 0 trace world
      (tells_accepted script.events (start script.scenario cores) 0 trace world 0 [] (refused_lines (report_of trace)) rises (λ line less. refl) refl
      sound.run) sound.run

  is_safe : Safe script.scenario script.events (refused_lines (report_of trace)) (report_of trace)
  is_safe = safe cores script script.events trace world sound rises

  is_once : Once script.scenario script.events (refused_lines (report_of trace)) (report_of trace)
  is_once = deliver_once cores script script.events trace world sound rises

  pub whole_report : values report.lines ≡ lines_of (report_of trace) → HasNoOffence script report
  whole_report same = (no_offence_is_fair script report).1 (fair_of script report (report_of trace) same shaped is_safe is_once)

  pub plain_report : values report.lines ≡ lines_of (plain (report_of trace)) → HasNoOffence script report
  plain_report same =
      let refused : refused_lines (report_of trace) ≡ refused_lines (plain (report_of trace)) = sym (same_refused (report_of trace)) in
      (no_offence_is_fair script report).1
      (fair_of script report (plain (report_of trace)) same
      (subst (λ (l : List ℕ). Shaped l 0 script.events (plain (report_of trace))) refused
      (plain_shaped (refused_lines (report_of trace)) 0 script.events (report_of trace) shaped))
      (subst (λ (l : List ℕ). Safe script.scenario script.events l (plain (report_of trace))) refused
      ((same_safe script.scenario script.events (refused_lines (report_of trace)) (report_of trace)).1 is_safe))
      (subst (λ (l : List ℕ). Once script.scenario script.events l (plain (report_of trace))) refused
      ((same_once script.scenario script.events (refused_lines (report_of trace)) (report_of trace)).1 is_once)))

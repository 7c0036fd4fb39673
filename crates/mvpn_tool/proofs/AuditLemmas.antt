-- Laws of how an audit ends.
use Rattle.std.proofs.Common.{◌≡◌, ◌≢◌, ℕ, ◌+◌, ◌<◌, ◌≤◌, ◌⊎◌, List, [], ◌∷◌, ◌++◌, length, refl, inl, inr, sym, ap, subst, ◌∙◌, arith, length-append}
use Rattle.std.proofs.lemmas.List.{append-nil}
use Rattle.std.proofs.lemmas.Bool.{cases_lt}
use Rattle.std.specs.Prelude.{Option, None, Some, Result, Ok, Err, IfErr}
use Rattle.std.specs.List.{AllByRecursion}
use Rattle.mv_io.specs.Octets.{Appended, AppendedPart}
use Rattle.scenario_defs.specs.Rules.{ScriptRules}
use Rattle.scenario_defs.specs.declared.event.Script.{Script}
use Rattle.scenario_defs.specs.declared.event.Timed.{Timed}
use Rattle.scenario_defs.specs.declared.scenario.Scenario.{Scenario}
use Rattle.line_words.specs.FaultText.{fault_text}
use Rattle.line_words.specs.declared.fault.ReadFault.{ReadFault}
use Rattle.line_words.specs.declared.fault.ReadFault.TheVariants as faults
use Rattle.line_words.specs.declared.fault.TextFault.{TextFault}
use Rattle.audit_defs.specs.declared.verdict.Numbered.{Numbered}
use Rattle.audit_defs.specs.declared.verdict.Offence.{Offence}
use Rattle.audit_defs.specs.declared.verdict.ReportLines.{ReportLines}
use Rattle.audit_defs.specs.declared.verdict.Verdict.{Verdict}
use Rattle.audit_defs.specs.declared.verdict.Verdict.TheVariants as verdicts
use Rattle.audit_defs.specs.Verdicts.{HasNoOffence, Offends}
use Rattle.audit_text.specs.declared.reader.AuditText.{AuditText}
use Rattle.audit_text.specs.Texts.{AreWritten, HasFault, IsLong, IsRead, IsUnmarked, OfReport, OfScript, Says}
use Rattle.audit_text.proofs.SaysLemmas.{front_rules, said_once, said_whole}
use Rattle.mvpn_audit.specs.Marking.{ComesAfter, LinesRise, last_line}
use Rattle.mvpn_tool.specs.declared.command.Command.{Command}
use Rattle.mvpn_tool.specs.declared.stop.Stop.{Stop}
use Rattle.mvpn_tool.specs.declared.stop.Stop.TheVariants as stops
use Rattle.mvpn_tool.specs.Input.{IsInput, IsReadUpTo, Taken}
use Rattle.mvpn_tool.specs.AuditOutcome.{AuditEnds, AuditTakes, AuditsFaulty, Judged, OfFault, OfVerdict, VerdictEnds}
use Rattle.mvpn_tool.specs.Endings.{Ending}
use Rattle.mvpn_tool.specs.Runs.{AuditRun}

-- ---- what was read

-- Too long a text has that fault whatever follows it.
long_fault : (octets more : List ℕ) (fault : TextFault) → 16777216 < length octets → HasFault octets fault → HasFault (octets ++ more) fault
long_fault octets more fault long (IsLong l is) = IsLong (omega (arith, long, length-append octets more)) is
long_fault octets more fault long (IsUnmarked short none is) = absurd (omega (arith, long, short))
long_fault octets more fault long (OfScript short front thereafter cut e) = absurd (omega (arith, long, short))
long_fault octets more fault long (OfReport short front thereafter cut script e stray is) = absurd (omega (arith, long, short))

long_read : (octets more : List ℕ) (result : Result AuditText ReadFault) → 16777216 < length octets → IsRead octets result
    → IsRead (octets ++ more) result
long_read octets more (Ok found) long r = let short = r.short in absurd (omega (arith, long, short))
long_read octets more (Err (faults.Text fault)) long r = long_fault octets more fault long r
long_read octets more (Err faults.NoMemory) long r = tt

-- Some input that the source may have had is read so.
pub record InputRead (left : Option (List ℕ)) (result : Result AuditText ReadFault) : Type 0 where
  pub input : List ℕ
  pub is_input : IsInput left input
  pub is : IsRead input result

pub input_read : (left new : Option (List ℕ)) (octets : List ℕ) (result : Result AuditText ReadFault) → IsReadUpTo 16777216 left new octets
    → IsRead octets result → InputRead left result
input_read None new octets result h r = record { input = octets; is_input = tt; is = r }
input_read (Some xs) None octets result h r = absurd h.taken
input_read (Some xs) (Some ys) octets result h r = elim (cases_lt 16777216 (length octets)) [
  | inl lt ↦ record { input = xs; is_input = refl; is = rw h.taken (long_read octets ys result lt r) }
  | inr le ↦ record { input = octets; is_input = rw h.taken (rw (h.whole le) (append-nil octets)); is = r }
]

-- ---- the numbers of lines

last_within : (end : ℕ) (timed : Timed) (more : List Timed) → timed.line < end → AllByRecursion (λ timed. timed.line < end) more
    → last_line (timed ∷ more) < end
last_within end timed [] h all = h
last_within end timed (next ∷ more) h all = last_within end next more all.0 all.1

last_before : (end : ℕ) (events : List Timed) → 0 < end → AllByRecursion (λ timed. timed.line < end) events → last_line events < end
last_before end [] h all = h
last_before end (timed ∷ more) h all = last_within end timed more all.0 all.1

lines_rise : (scenario : Scenario) (bound number end : ℕ) (all : List (List ℕ)) (read : List Numbered) → bound < number → end ≡ number + length all
    → AreWritten scenario number all read → LinesRise bound read end
lines_rise scenario bound number end [] [] h e w = omega (arith, h, e)
lines_rise scenario bound number end [] (one ∷ more) h e w = absurd w
lines_rise scenario bound number end (octets ∷ rest) [] h e w = absurd w
lines_rise scenario bound number end (octets ∷ rest) (one ∷ more) h e w =
    (omega (arith, h, w.0), lines_rise scenario one.line (number + 1) end rest more (omega (arith, w.0)) (omega (arith, e)) w.2)

-- The lines of a report come after those of its script.
pub comes_after : (text : List ℕ) (script : Script) (report : ReportLines) → Says text script report → ComesAfter script report
comes_after text script report h =
    let front = front_rules h.front script h.scripted in
    let last : last_line script.events < script.end = last_before script.end script.events (omega (arith, front.1)) front.0.last in
    lines_rise script.scenario (last_line script.events) (length h.front + 2) report.end h.thereafter report.lines (omega (arith, last, front.1)) h.end
    h.reported

-- ---- how an audit ends

pub audit_takes : (left new : Option (List ℕ)) (result : Result Verdict Stop) → Taken left new → result ≢ Err stops.Label → AuditTakes result left new
audit_takes left new (Ok verdict) t n = t
audit_takes left new (Err stops.Text) t n = t
audit_takes left new (Err stops.Source) t n = tt
audit_takes left new (Err stops.Sink) t n = t
audit_takes left new (Err stops.Memory) t n = tt
audit_takes left new (Err stops.Label) t n = absurd (n refl)

abbrev failed : Stop → Result Verdict Stop
failed stop = Err stop

pub fault_not_label : (stop : Stop) → stop ≢ stops.Label → failed stop ≢ failed stops.Label
fault_not_label stop n e = n cc

pub verdict_not_label : (result : Result Verdict Stop) → IfErr result (λ e. (e ≡ stops.Sink) ⊎ (e ≡ stops.Memory)) → result ≢ Err stops.Label
verdict_not_label (Ok verdict) o e = absurd cc
verdict_not_label (Err stop) (inl t) e = absurd cc
verdict_not_label (Err stop) (inr t) e = absurd cc

-- The text had a fault.
pub ends_faulty : (left old new : Option (List ℕ)) (fault : TextFault) (stop : Stop) → InputRead left (Err (faults.Text fault))
    → (stop ≡ stops.Text → Appended old new (fault_text fault)) →
    (stop ≡ stops.Text) ⊎ AppendedPart old new (fault_text fault) → (stop ≢ stops.Source) × (stop ≢ stops.Label) → AuditEnds left (Err stop) old new
ends_faulty left old new fault stops.Text r w p n = record { input = r.input; is_input = r.is_input; fault = fault; has = r.is; text = w refl }
ends_faulty left old new fault stops.Source r w p n = absurd (n.0 refl)
ends_faulty left old new fault stops.Sink r w (inl t) n = absurd cc
ends_faulty left old new fault stops.Sink r w (inr p) n =
    record { input = r.input; is_input = r.is_input; text = fault_text fault; tells = OfFault fault r.is refl; part = p }
ends_faulty left old new fault stops.Memory r w (inl t) n = absurd cc
ends_faulty left old new fault stops.Memory r w (inr p) n =
    inr (record { input = r.input; is_input = r.is_input; text = fault_text fault; tells = OfFault fault r.is refl; part = p })
ends_faulty left old new fault stops.Label r w p n = absurd (n.1 refl)

-- The report was judged.
pub ends_judged : (left old new : Option (List ℕ)) (found : AuditText) (result : Result Verdict Stop) → InputRead left (Ok found)
    → VerdictEnds found.script found.report result old new →
    IfErr result (λ e. (e ≡ stops.Sink) ⊎ (e ≡ stops.Memory)) → AuditEnds left result old new
ends_judged left old new found (Ok verdict) r v o =
    record { input = r.input; is_input = r.is_input; script = found.script; report = found.report; said = r.is; is = v.0; text = v.1 }
ends_judged left old new found (Err stops.Sink) r v o =
    record { input = r.input; is_input = r.is_input; text = _; tells = OfVerdict found.script found.report v.verdict r.is v.is refl; part = v.part }
ends_judged left old new found (Err stops.Memory) r v o = inl v
ends_judged left old new found (Err stops.Label) r v (inl t) = absurd cc
ends_judged left old new found (Err stops.Label) r v (inr t) = absurd cc
ends_judged left old new found (Err stops.Text) r v (inl t) = absurd cc
ends_judged left old new found (Err stops.Text) r v (inr t) = absurd cc
ends_judged left old new found (Err stops.Source) r v (inl t) = absurd cc
ends_judged left old new found (Err stops.Source) r v (inr t) = absurd cc

-- ---- each status

some_is : (x y : List ℕ) → Some x ≡ Some y → x ≡ y
some_is x y e = cc

-- What was read is what the source says that it had left.
read_is : (left : Option (List ℕ)) (read input : List ℕ) → IsInput left read → left ≡ Some input → read ≡ input
read_is None read input is tells = absurd cc
read_is (Some xs) read input is tells = sym is ∙ some_is xs input tells

module _ (left rest old new : Option (List ℕ)) (source_before source_now sink_before sink_now : ℕ) (taken : Taken left rest) where
  abbrev ending : ℕ → Ending
  ending status = record {
    status = status;
    world = None;
    left = left;
    rest = rest;
    old = old;
    new = new;
    source_before = source_before;
    source_now = source_now;
    sink_before = sink_before;
    sink_now = sink_now;
  }

  -- The script and the report that were judged are those that the source says.
  same_report : (verdict : Verdict) (input : List ℕ) (script : Script) (report : ReportLines) → (j : Judged left old new verdict) → left ≡ Some input
      → Says input script report → (j.script ≡ script) × (j.report ≡ report)
  same_report verdict input script report j tells said =
      said_once input j.script script j.report report
      (subst (λ (text : List ℕ). Says text j.script j.report) (read_is left j.input input j.is_input tells) j.said) said

  judged_whole : (verdict : Verdict) (input : List ℕ) (fault : TextFault) → Judged left old new verdict → left ≡ Some input → HasFault input fault → ⊥
  judged_whole verdict input fault j tells has =
      said_whole input j.script j.report fault (subst (λ (text : List ℕ). Says text j.script j.report) (read_is left j.input input j.is_input tells)
      j.said) has

  pub yes_ended : Judged left old new verdicts.Yes → AuditRun (ending 0)
  yes_ended j = record {
    zero = λ e. j;
    zero_always = λ script report gives none. inl refl;
    eight = λ e. absurd (omega (arith, e));
    eight_always = λ script report line reason gives offends.
        let same = same_report verdicts.Yes gives.0 script report j gives.1 gives.2 in
        absurd (j.is line reason (subst (λ (s : Script). Offends s j.report line reason) (sym same.0)
        (subst (λ (r : ReportLines). Offends script r line reason) (sym same.1) offends)));
    three = λ e. absurd (omega (arith, e));
    three_always = λ input fault tells has. absurd (judged_whole verdicts.Yes input fault j tells has);
    four = λ e. absurd (omega (arith, e));
    four_cause = λ e. absurd (omega (arith, e));
    five = λ e. absurd (omega (arith, e));
    five_cause = λ e. absurd (omega (arith, e));
    six = λ e. absurd (omega (arith, e));
    taken = λ e f. taken;
    complete = λ script report source sink gives. inl refl;
    only = inl refl;
    worldless = refl;
  }

  pub no_ended : (line : ℕ) (reason : Offence) → Judged left old new (verdicts.No line reason) → AuditRun (ending 8)
  no_ended line reason j = record {
    zero = λ e. absurd (omega (arith, e));
    zero_always = λ script report gives none.
        let same = same_report (verdicts.No line reason) gives.0 script report j gives.1 gives.2 in
        absurd (none line reason (subst (λ (s : Script). Offends s report line reason) same.0
        (subst (λ (r : ReportLines). Offends j.script r line reason) same.1 j.is.offends)));
    eight = λ e. (line, reason, j);
    eight_always = λ script report other another gives offends. inl refl;
    three = λ e. absurd (omega (arith, e));
    three_always = λ input fault tells has. absurd (judged_whole (verdicts.No line reason) input fault j tells has);
    four = λ e. absurd (omega (arith, e));
    four_cause = λ e. absurd (omega (arith, e));
    five = λ e. absurd (omega (arith, e));
    five_cause = λ e. absurd (omega (arith, e));
    six = λ e. absurd (omega (arith, e));
    taken = λ e f. taken;
    complete = λ script report source sink gives. inr (inr refl);
    only = inr (inr (inl refl));
    worldless = refl;
  }

  faulty_not : (script : Script) (report : ReportLines) (input : List ℕ) → AuditsFaulty left old new → left ≡ Some input → Says input script report
      → ⊥
  faulty_not script report input f tells said =
      said_whole input script report f.fault said (subst (λ (text : List ℕ). HasFault text f.fault) (read_is left f.input input f.is_input tells)
      f.has)

  pub fault_ended : AuditsFaulty left old new → AuditRun (ending 3)
  fault_ended f = record {
    zero = λ e. absurd (omega (arith, e));
    zero_always = λ script report gives none. absurd (faulty_not script report gives.0 f gives.1 gives.2);
    eight = λ e. absurd (omega (arith, e));
    eight_always = λ script report line reason gives offends. absurd (faulty_not script report gives.0 f gives.1 gives.2);
    three = λ e. f;
    three_always = λ input fault tells has. inl refl;
    four = λ e. absurd (omega (arith, e));
    four_cause = λ e. absurd (omega (arith, e));
    five = λ e. absurd (omega (arith, e));
    five_cause = λ e. absurd (omega (arith, e));
    six = λ e. absurd (omega (arith, e));
    taken = λ e f. taken;
    complete = λ script report source sink gives. absurd (faulty_not script report gives.0 f gives.1 gives.2);
    only = inr (inl refl);
    worldless = refl;
  }

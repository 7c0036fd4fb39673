-- No offence is that the report is fair.
use Rattle.std.specs.Prelude.{◌↔◌}
use Rattle.std.proofs.Common.{◌≡◌, ℕ, zero, suc, ◌+◌, Bool, true, false, ◌||◌, inl, inr, take, length, List, [], ◌∷◌, slice_get, Option, None, Some, refl, sym, ap, ◌∙◌, arith}
use Rattle.std.specs.List.{list_any}
use Rattle.std.proofs.lemmas.Bool.{true≢false}
use Rattle.scenario_defs.specs.declared.event.Script.{Script}
use Rattle.scenario_defs.specs.declared.report.ReportLine.{ReportLine}
use Rattle.audit_defs.specs.declared.verdict.Numbered.{Numbered}
use Rattle.audit_defs.specs.declared.verdict.Offence.{Offence}
use Rattle.audit_defs.specs.declared.verdict.Offence.TheVariants as offences
use Rattle.audit_defs.specs.declared.verdict.ReportLines.{ReportLines}
use Rattle.audit_defs.specs.Markers.{values, is_marker, markers, fit, begin}
use Rattle.audit_defs.specs.Verdicts.{IsMisfit, is_halt, AreJudged, of_report, Offends, HasNoOffence, IsFair}
use Rattle.audit_defs.proofs.Lists.{both_no, got_map, got_any}
use Rattle.audit_defs.proofs.Fitting.{begins_to_fit, nothing_begins, past_all, past_other, take_whole}
use Rattle.audit_laws.proofs.Safety.{lines_are_quiet, is_true, safe_there, has_datagram, has_octets, is_admitted}
use Rattle.audit_laws.proofs.Delivery.{once_there, none_again, all_asked, not_missing}

halted : (all : List Numbered) → list_any is_halt (values all) ≡ true
    → (place : ℕ) × (line : Numbered) × (slice_get all place ≡ Some line) × (is_halt line.value ≡ true)
halted [] e = absurd (true≢false (sym e))
halted (line ∷ all) e = by (is_halt line.value) refl (λ t. halted all t)
  where
    by : (b : Bool) → is_halt line.value ≡ b → (list_any is_halt (values all) ≡ true
        → (place : ℕ) × (own : Numbered) × (slice_get all place ≡ Some own) × (is_halt own.value ≡ true))
        → (place : ℕ) × (own : Numbered) × (slice_get (line ∷ all) place ≡ Some own) × (is_halt own.value ≡ true)
    by true is more = (zero, line, refl, is)
    by false is more = (let r = more (sym (ap (λ b. b || list_any is_halt (values all)) is) ∙ e) in (suc r.0, r.1, r.2, r.3))

module _ (script : Script) (report : ReportLines) where
  -- ---- without an offence

  module _ (none : HasNoOffence script report) where
    all_begin : (count : ℕ) → begin script.events (markers (take count report.lines)) ≡ true
    all_begin zero = nothing_begins script.events
    all_begin (suc count) = by (slice_get report.lines count) refl (all_begin count)
      where
        marker_by : (line : Numbered) → slice_get report.lines count ≡ Some line → begin script.events (markers (take count report.lines)) ≡ true
            → (b : Bool) → is_marker line.value ≡ b → begin script.events (markers (take (suc count) report.lines)) ≡ true
        marker_by line at before false is = ap (λ (l : List ReportLine). begin script.events l) (past_other report.lines count line at is) ∙ before
        marker_by line at before true is =
            let next : count + 1 ≡ suc count = omega arith in
            is_true (begin script.events (markers (take (suc count) report.lines)))
            (λ with. none line.line offences.Markers (inl (record {
              place = count;
              marker = line;
              at = at;
              of_line = refl;
              is = is;
              before = before;
              with = ap (λ k. begin script.events (markers (take k report.lines))) next ∙ with;
            })))

        by : (o : Option Numbered) → slice_get report.lines count ≡ o → begin script.events (markers (take count report.lines)) ≡ true
            → begin script.events (markers (take (suc count) report.lines)) ≡ true
        by None at before = ap (λ (l : List Numbered). begin script.events (markers l)) (past_all report.lines count at) ∙ before
        by (Some line) at before = marker_by line at before (is_marker line.value) refl

    begins : begin script.events (markers report.lines) ≡ true
    begins = ap (λ (l : List Numbered). begin script.events (markers l)) (sym (take_whole report.lines)) ∙ all_begin (length report.lines)

    no_halt : (b : Bool) → list_any is_halt (values report.lines) ≡ b → b ≡ false
    no_halt false e = refl
    no_halt true e =
        (let r = halted report.lines e in
        absurd (none r.1.line offences.Halt (record { place = r.0; halt = r.1; at = r.2; of_line = refl; is = r.3 })))

    abbrev judged_there : AreJudged script report
    judged_there = record {
      fitting =
          is_true (fit script.events (markers report.lines))
          (λ misfits. none report.end offences.Markers (inr (record { at_end = refl; begins = begins; misfits = misfits })));
      unhalted = no_halt (list_any is_halt (values report.lines)) refl;
    }

    fair : IsFair script report
    fair = record {
      judged = judged_there;
      safe = safe_there (of_report script report) (lines_are_quiet script report.lines) (λ line h. none line offences.Number (judged_there, h))
          (λ line h. none line offences.Bytes (judged_there, h)) (λ line h. none line offences.Admit (judged_there, h));
      once = once_there (of_report script report) (λ line h. none line offences.Number (judged_there, h))
          (λ line h. none line offences.Again (judged_there, h)) (λ line h. none line offences.Asked (judged_there, h))
          (λ line h. none line offences.Missing (judged_there, h));
    }

  -- ---- of a fair report

  module _ (fair : IsFair script report) where
    no_misfit : (line : ℕ) → IsMisfit script report line → ⊥
    no_misfit line h =
        both_no (begin script.events (markers (take (h.place + 1) report.lines)))
        (begins_to_fit script.events report.lines (h.place + 1) fair.judged.fitting) h.with

    no_offence : (line : ℕ) (reason : Offence) → Offends script report line reason → ⊥
    no_offence line offences.Markers (inl h) = no_misfit line h
    no_offence line offences.Markers (inr h) = both_no (fit script.events (markers report.lines)) fair.judged.fitting h.misfits
    no_offence line offences.Halt h =
        both_no (list_any is_halt (values report.lines))
        (got_any is_halt (values report.lines) h.place h.halt.value (got_map (λ (line : Numbered). line.value) report.lines h.place h.halt h.at) h.is)
        fair.judged.unhalted
    no_offence line offences.Number h = has_datagram (of_report script report) (lines_are_quiet script report.lines) fair.safe line h.1
    no_offence line offences.Bytes h = has_octets (of_report script report) (lines_are_quiet script report.lines) fair.safe line h.1
    no_offence line offences.Admit h = is_admitted (of_report script report) (lines_are_quiet script report.lines) fair.safe line h.1
    no_offence line offences.Again h = none_again (of_report script report) fair.once line h.1
    no_offence line offences.Asked h = all_asked (of_report script report) fair.once line h.1
    no_offence line offences.Missing h = not_missing (of_report script report) fair.once line h.1

pub no_offence_is_fair : (script : Script) (report : ReportLines) → HasNoOffence script report ↔ IsFair script report
no_offence_is_fair script report = (fair script report, no_offence script report)

use Rattle.std.proofs.Common.{◌≡◌, Bool, true, false, sym, ◌∙◌, ap, Ok, inl}
use Rattle.scenario_defs.specs.declared.report.ReportLine.{ReportLine}
use Rattle.report_text.proofs.report_lines.NamedLemmas.{named_is}
use Rattle.report_text.proofs.report_lines.ReadLemmas.{only_written, only_line, unnamed, unwritten}
use Rattle.report_text.proofs.report_lines.reader.read_line.Goals as goal

differ : (b : Bool) → b ≡ false → b ≡ true → ⊥
differ b no_line line = absurd cc

pub returns-in_default-clause-back : goal.returns-in_default-clause-back
returns-in_default-clause-back c = λ line is bounds written.
    absurd (unnamed c.args.scenario.now c.requires c.args.text.now c.in_ok-line.field-0 c.in_ok-line.ensures c.in_default.is line is bounds written)

pub returns-in_default-clause-none : goal.returns-in_default-clause-none
returns-in_default-clause-none c = λ _ line is bounds written.
    unnamed c.args.scenario.now c.requires c.args.text.now c.in_ok-line.field-0 c.in_ok-line.ensures c.in_default.is line is bounds written

pub write_line-requires : goal.write_line-requires
write_line-requires c = named_is c.args.scenario.now c.args.text.now c.in-Some.line (sym c.in_ok-line.ensures ∙ c.in-Some.is)

pub returns-then-not-is_ended-clause-back : goal.returns-then-not-is_ended-clause-back
returns-then-not-is_ended-clause-back c = λ line is bounds written.
    absurd (unwritten c.args.scenario.now c.requires c.args.text.now c.in_ok-line.field-0 c.in-Some.line c.in_ok-line.ensures c.in-Some.is
    (λ same. differ c.is_ended.result c.if-not-is_ended.true
    (c.is_ended.ensures.1 (only_written _ _ _ c.new-written.ensures (c.as_slice.ensures ∙ c.in_ok-write_line.ensures.ok) ∙ same))) line is bounds
    written)

pub returns-then-not-is_ended-clause-none : goal.returns-then-not-is_ended-clause-none
returns-then-not-is_ended-clause-none c = λ _ line is bounds written.
    unwritten c.args.scenario.now c.requires c.args.text.now c.in_ok-line.field-0 c.in-Some.line c.in_ok-line.ensures c.in-Some.is
    (λ same. differ c.is_ended.result c.if-not-is_ended.true
    (c.is_ended.ensures.1 (only_written _ _ _ c.new-written.ensures (c.as_slice.ensures ∙ c.in_ok-write_line.ensures.ok) ∙ same))) line is bounds
    written

pub returns-clause-line : goal.returns-clause-line
returns-clause-line c = (
  named_is c.args.scenario.now c.args.text.now c.in-Some.line (sym c.in_ok-line.ensures ∙ c.in-Some.is),
  sym (only_written _ _ _ c.new-written.ensures (c.as_slice.ensures ∙ c.in_ok-write_line.ensures.ok)) ∙ c.is_ended.ensures.0 c.if-not-is_ended.false,
)

pub returns-clause-back : goal.returns-clause-back
returns-clause-back c = λ line is bounds written.
    inl (ap (λ (found : ReportLine). Ok found) (only_line c.args.scenario.now c.requires c.args.text.now c.in_ok-line.field-0 c.in-Some.line
    c.in_ok-line.ensures c.in-Some.is line is bounds written))

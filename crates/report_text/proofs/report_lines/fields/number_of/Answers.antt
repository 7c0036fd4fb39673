use Rattle.std.proofs.Common.{ℕ, List, sym, subst, ◌∙◌}
use Rattle.std.specs.Str.Parse.{ParsesUnsigned}
use Rattle.report_text.proofs.report_lines.NumberLemmas.{parsed, digits_are_text}
use Rattle.report_text.proofs.report_lines.fields.number_of.Goals as goal

pub returns-in-Ok : goal.returns-in-Ok
returns-in-Ok c =
    c.ok.ensures.value ∙ parsed c.args.text.now c.parse.result (sym c.are_digits.ensures ∙ c.if-not-are_digits.false)
    (subst (λ (text : List ℕ). ParsesUnsigned 64 10 text c.parse.result) c.in-Ok.ensures.cases.0 c.parse.ensures.value.0)

pub returns-in-Err : goal.returns-in-Err
returns-in-Err c = absurd (c.in-Err.ensures.cases.0 (digits_are_text c.args.text.now (sym c.are_digits.ensures ∙ c.if-not-are_digits.false)))

use Rattle.std.proofs.Common.{◌≡◌, true, sym, ◌∙◌, ap, Some}
use Rattle.mv_base.specs.Number.{is_number}
use Rattle.mv_base.proofs.NumberLemmas.{number_written, number_short, number_only, written_number}
use Rattle.mv_base.proofs.number.read_number.Goals as goal

pub returns-then-not-is_number-clause-only_written : goal.returns-then-not-is_number-clause-only_written
returns-then-not-is_number-clause-only_written c = λ n small e. let t = written_number c.args.text.now n small e in absurd cc

pub digits_value-requires : goal.digits_value-requires
digits_value-requires c = record { few = number_short _ (sym c.is_number.ensures ∙ c.if-not-is_number.false) }

pub returns-clause-written : goal.returns-clause-written
returns-clause-written c = rw (c.digits_value.ensures) (number_written _ (sym c.is_number.ensures ∙ c.if-not-is_number.false))

pub returns-clause-only_written : goal.returns-clause-only_written
returns-clause-only_written c = λ n small e.
    let t = number_only c.args.text.now n small e in
    let read : is_number c.args.text.now ≡ true = sym c.is_number.ensures ∙ c.if-not-is_number.false in
    ap Some c.digits_value.ensures ∙ (rw read at t)

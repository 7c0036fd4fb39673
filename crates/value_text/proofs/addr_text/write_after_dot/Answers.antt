use Rattle.std.proofs.Common.{◌≤◌, ◌++◌, ◌∙◌, drop, arith, ap}
use Rattle.std.specs.Fmt.{decimal}
use Rattle.value_text.proofs.DottedLemmas.{few_digits, mark_before}
use Rattle.value_text.proofs.addr_text.write_after_dot.Goals as goal

pub write_digits-digits-requires : goal.write_digits-digits-requires
write_digits-digits-requires c =
    let few = few_digits c.args.octet c.from.result c.ranges.octet.fits c.from.ensures in
    (omega (arith, few), omega arith)

pub overflow_sub-dot : goal.overflow_sub-dot
overflow_sub-dot c = omega (arith, few_digits c.args.octet c.from.result c.ranges.octet.fits c.from.ensures)

pub returns-clause-start : goal.returns-clause-start
returns-clause-start c = omega (arith, few_digits c.args.octet c.from.result c.ranges.octet.fits c.from.ensures)

pub returns-clause-text : goal.returns-clause-text
returns-clause-text c =
    let some : 1 ≤ c.write_digits-digits.result = omega (arith, few_digits c.args.octet c.from.result c.ranges.octet.fits c.from.ensures) in
    mark_before c.write_digits-digits.new.buf c.write_digits-digits.result 46 (decimal c.args.octet ++ drop c.args.end c.args.text.now) some
    (omega arith) (c.write_digits-digits.ensures.written ∙ ap (λ n. decimal n ++ drop c.args.end c.args.text.now) c.from.ensures)

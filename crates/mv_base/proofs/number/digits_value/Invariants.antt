use Rattle.std.proofs.Common.{◌≡◌, ◌+◌, ◌*◌, ◌^◌, ◌≤◌, drop}
use Rattle.mv_base.specs.Number.{value_after}
use Rattle.mv_base.proofs.number.digits_value.Given as goal

abbrev pub invariant-loop-digit : goal.invariant-loop-digit
invariant-loop-digit l = record {
  value : value_after l.value (drop l.digit-index l.text) ≡ value_after 0 l.text;
  bound : l.value + 23 ≤ 23 * 10 ^ l.digit-index;
}

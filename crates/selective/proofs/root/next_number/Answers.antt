use Rattle.std.proofs.Common.{◌≡◌, ℕ, ◌+◌, ◌-◌, ◌<◌, true, length, ap, ◌∙◌, arith}
use Rattle.std.specs.List.{list_any}
use Rattle.selective_defs.specs.Selective.{free_number, has_number}
use Rattle.selective.proofs.RootLemmas.{free_next}
use Rattle.selective.proofs.root.next_number.Goals as goal

pub loop-number-preserved : goal.loop-number-preserved
loop-number-preserved c =
    let count = length c.args.selections.now + 1 in
    let used = λ (k : ℕ). list_any (has_number k) c.args.selections.now in
    let number = c.loop-number.number in
    let taken : list_any (has_number c.loop-number.number) c.args.selections.now ≡ true = cc (c.if-not-has_number.ensures) in
    let some : 0 < (length c.args.selections.now + 1) - c.loop-number.number = omega arith in
    let less : ((length c.args.selections.now + 1) - c.loop-number.number) - 1 ≡ (length c.args.selections.now + 1) - (c.loop-number.number + 1) =
    omega arith in
    c.loop-number.invariant ∙ (free_next used (count - number) number taken some ∙ ap (λ (k : ℕ). free_number used k (number + 1)) less)

use Rattle.std.proofs.Common.{arith}
use Rattle.pim_state.proofs.ChangesLemmas.{count-after}
use Rattle.pim_state.proofs.changes.count_after.Goals as goal

pub overflow_sub-result : goal.overflow_sub-result
overflow_sub-result c =
    let sum =
    count-after c.args.entries.now.entries c.args.changes.now.entries c.len.result c.count_kept.result c.count_present.result
    c.len.ensures.unique c.count_present.ensures.unique c.len.ensures.len c.count_kept.ensures.count c.count_present.ensures.count in
    omega (arith, sum)

pub returns : goal.returns
returns c =
    let sum =
    count-after c.args.entries.now.entries c.args.changes.now.entries c.len.result c.count_kept.result c.count_present.result
    c.len.ensures.unique c.count_present.ensures.unique c.len.ensures.len c.count_kept.ensures.count c.count_present.ensures.count in
    omega (arith, sum)

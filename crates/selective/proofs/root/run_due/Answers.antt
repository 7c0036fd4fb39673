use Rattle.std.proofs.Common.{◌≡◌, length, arith}
use Rattle.selective.proofs.RootLemmas.{run_more}
use Rattle.selective.proofs.root.run_due.Goals as goal

pub loop-selection-preserved : goal.loop-selection-preserved
loop-selection-preserved c =
    let same : length c.loop-selection.selection-items ≡ length c.args.selections.now.items = omega arith in
    run_more c.args.delay c.args.now c.args.selections.now.items c.loop-selection.selection-items c.loop-selection.selection-index _
    c.with_delay_run.result
    same (omega arith) c.loop-selection.invariant c.with_delay_run.ensures

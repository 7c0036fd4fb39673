use Rattle.edge_tables.specs.Slots.{IsSilentAt}
use Rattle.edge_tables.proofs.ActivityLemmas.{all_end, all_more}
use Rattle.edge_tables.proofs.tables.are_silent.Goals as goal

pub loop-slot-init : goal.loop-slot-init
loop-slot-init c = tt

pub loop-slot-preserved : goal.loop-slot-preserved
loop-slot-preserved c =
    all_more IsSilentAt c.args.slots.now c.loop-slot.slot-index c.slot-item.result c.loop-slot-test.true c.slot-item.is (c.is_empty.ensures.0 c.if-not-is_empty.false) c.loop-slot.invariant

pub returns : goal.returns
returns c _ = all_end IsSilentAt c.args.slots.now c.loop-slot.slot-index c.loop-slot-test.false c.loop-slot.invariant

use Rattle.edge_tables.specs.Slots.{IsPutAt}
use Rattle.edge_tables.proofs.ActivityLemmas.{all_end, all_more}
use Rattle.edge_tables.proofs.tables.are_put.Goals as goal

pub loop-slot-init : goal.loop-slot-init
loop-slot-init c = tt

pub loop-slot-preserved : goal.loop-slot-preserved
loop-slot-preserved c =
    all_more IsPutAt c.args.slots.now c.loop-slot.slot-index c.slot-item.result c.loop-slot-test.true c.slot-item.is (c.is_put.ensures c.if-not-is_put.false) c.loop-slot.invariant

pub returns : goal.returns
returns c _ = all_end IsPutAt c.args.slots.now c.loop-slot.slot-index c.loop-slot-test.false c.loop-slot.invariant

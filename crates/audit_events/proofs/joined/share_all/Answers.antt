use Rattle.std.proofs.lemmas.List.{take_more}
use Rattle.indexmap.specs.IndexMap.{get}
use Rattle.pim_state.specs.Plan.{is_at}
use Rattle.audit_events.proofs.SetLemmas.{share_more}
use Rattle.audit_events.proofs.joined.share_all.Goals as goal

pub loop-at-preserved : goal.loop-at-preserved
loop-at-preserved c = λ at.
    share_more c.args.taking.now.message.now c.args.taking.now.event
    (get is_at c.args.shared.now) (get is_at c.loop-at.shared) (get is_at c.share_one.new.shared) _ _ _ at
    (take_more c.args.named.now c.loop-at.at-index _ c.loop-at-test.true) (c.loop-at.invariant at) (c.in_ok-share_one.ensures at)

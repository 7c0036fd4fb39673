use Rattle.pim_state.proofs.PlanLemmas.{named-more}
use Rattle.pim_state.proofs.arrival.add_named.Goals as goal

pub loop-source-preserved : goal.loop-source-preserved
loop-source-preserved c = λ entry.
    named-more c.args.group c.args.sources.now c.loop-source.source-index _ c.entry_of.result entry _ _ _ c.loop-source-test.true c.entry_of.ensures
    (c.in_ok-insert.ensures.updates.0 entry) (c.loop-source.invariant entry)

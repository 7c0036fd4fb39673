use Rattle.std.proofs.lemmas.List.{take_more}
use Rattle.indexmap.specs.IndexMap.{get}
use Rattle.pim_state.specs.Plan.{is_at}
use Rattle.audit_events.specs.Joined.{since_of}
use Rattle.audit_events.proofs.SetLemmas.{set_more, fresh_unset}
use Rattle.audit_events.proofs.joined.set_all.Goals as goal

pub loop-at-preserved : goal.loop-at-preserved
loop-at-preserved c = λ at.
    set_more c.args.taking.now.message.now c.args.taking.now.clock c.args.taking.now.event
    (since_of c.args.scenario.now c.args.restarts.now c.args.shared.now)
    (get is_at c.args.entries.now) (get is_at c.loop-at.entries) (get is_at c.set_one.new.entries) _ _ _ at c.since_of-since.result
    c.since_of-since.ensures
    (take_more c.args.named.now c.loop-at.at-index _ c.loop-at-test.true)
    (λ other. fresh_unset c.args.taking.now.event (get is_at c.args.entries.now other) (λ held e. c.requires.fresh other held e))
    c.loop-at.invariant (c.in_ok-set_one.ensures at)

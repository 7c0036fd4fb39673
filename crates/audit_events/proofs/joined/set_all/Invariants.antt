use Rattle.std.proofs.Common.{◌≡◌, take}
use Rattle.indexmap.specs.IndexMap.{get}
use Rattle.audit_defs.specs.scenario_defs.declared.event.IfaceEntry.{IfaceEntry}
use Rattle.pim_state.specs.Plan.{is_at}
use Rattle.audit_events.specs.Joined.{since_of}
use Rattle.audit_events.proofs.SetLemmas.{with_set}
use Rattle.audit_events.proofs.joined.set_all.Given as goal

abbrev pub invariant-loop-at : goal.invariant-loop-at
invariant-loop-at l = (at : IfaceEntry) → get is_at l.entries at ≡
    with_set l.taking.message.now l.taking.clock l.taking.event (since_of l.scenario l.restarts l.shared) (get is_at l.fn.entries)
    (take l.at-index l.named) at

use Rattle.std.proofs.Common.{◌≡◌, take}
use Rattle.indexmap.specs.IndexMap.{get}
use Rattle.audit_defs.specs.scenario_defs.declared.event.IfaceEntry.{IfaceEntry}
use Rattle.pim_state.specs.Plan.{is_at}
use Rattle.audit_events.proofs.SetLemmas.{with_shared}
use Rattle.audit_events.proofs.joined.share_all.Given as goal

abbrev pub invariant-loop-at : goal.invariant-loop-at
invariant-loop-at l = (at : IfaceEntry) → get is_at l.shared at ≡
    with_shared l.taking.message.now l.taking.event (get is_at l.fn.shared) (take l.at-index l.named) at

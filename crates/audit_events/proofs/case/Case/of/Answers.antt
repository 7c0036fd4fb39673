use Rattle.std.proofs.Common.{length, ap, ◌∙◌}
use Rattle.audit_events.proofs.InWindows.{length_fates}
use Rattle.audit_events.proofs.case.Case.of.Goals as goal

pub closings-requires : goal.closings-requires
closings-requires c =
    ap length c.as_slice-2.ensures ∙ (ap length c.in_ok-fates.ensures ∙ length_fates 0 c.as_slice-events.result.now c.as_slice.result.now)

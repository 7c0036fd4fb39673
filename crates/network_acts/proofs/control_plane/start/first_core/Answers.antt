use Rattle.std.proofs.Common.{◌∙◌, Err}
use Rattle.network_acts.proofs.control_plane.StartLemmas.{is_reached}
use Rattle.network_acts.proofs.control_plane.start.first_core.Goals as goal

pub unreachable-requires : goal.unreachable-requires
unreachable-requires c =
    is_reached c.args.scenario.now c.len-nodes.result c.as_slice.result.now c.in-Err-Disconnected.field-0-0 c.requires.connected c.len-nodes.ensures
    c.as_slice.ensures
    (c.of.ensures.disconnected c.in-Err-Disconnected.field-0-0 (c.in-Err-Disconnected.is ∙ (λ i. Err (c.in-Err-Disconnected.field-0-is i))))

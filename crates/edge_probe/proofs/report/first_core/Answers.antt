use Rattle.std.proofs.Common.{◌∙◌, Err}
use Rattle.edge_probe.proofs.ProbeLemmas.{is_reached}
use Rattle.edge_probe.proofs.report.first_core.Goals as goal

pub unreachable-requires : goal.unreachable-requires
unreachable-requires c =
    is_reached c.args.scenario.now c.len-nodes.result c.as_slice.result.now c.in-Err-Disconnected.field-0-0 c.requires.connected c.len-nodes.ensures
    c.as_slice.ensures
    (c.of.ensures.disconnected c.in-Err-Disconnected.field-0-0 (c.in-Err-Disconnected.is ∙ (λ i. Err (c.in-Err-Disconnected.field-0-is i))))

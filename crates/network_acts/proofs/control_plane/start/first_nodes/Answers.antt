use Rattle.std.proofs.Common.{refl}
use Rattle.network_acts.proofs.control_plane.StartLemmas.{one_first}
use Rattle.network_acts.proofs.control_plane.start.first_nodes.Goals as goal

pub loop-number-preserved : goal.loop-number-preserved
loop-number-preserved c =
    one_first c.args.scenario.now c.loop-number.number _ c.loop-number.nodes.items c.in_ok-nodes.nodes.items c.in_ok-nodes.ensures.0
    c.loop-number.invariant refl
    c.in_ok-nodes.ensures.1 c.in_ok-nodes.ensures.2

use Rattle.std.proofs.Common.{map, ap, List, ◌∙◌}
use Rattle.scenario_defs.specs.declared.scenario.Node.{Node}
use Rattle.network_nodes.proofs.NodeLemmas.{stands}
use Rattle.network_nodes.proofs.node.first_core.Goals as goal

pub of-requires-clause-place : goal.of-requires-clause-place
of-requires-clause-place c = stands c.args.scenario.now c.args.n c.in_ok-addrs.addrs c.requires.rules c.requires.within
    (c.in_ok-addrs.ensures ∙ ap (λ (nodes : List Node). map (λ node. node.addr) nodes) c.as_slice.ensures)

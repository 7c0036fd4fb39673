use Rattle.std.proofs.Common.{List, ap, map, ◌∙◌}
use Rattle.scenario_defs.specs.declared.scenario.Node.{Node}
use Rattle.edge_core.proofs.FirstLemmas.{labels_live}
use Rattle.edge_core.proofs.edge.first_labels.Goals as goal

pub returns-clause-live : goal.returns-clause-live
returns-clause-live c = labels_live c.args.scenario.now c.args.me c.in_ok-addrs.addrs
    (c.in_ok-addrs.ensures ∙ ap (λ (nodes : List Node). map (λ node. node.addr) nodes) c.as_slice.ensures) c.of.result c.of.ensures

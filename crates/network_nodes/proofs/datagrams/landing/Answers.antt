use Rattle.std.proofs.Common.{List, ap, subst, sym, ◌∙◌}
use Rattle.label_defs.specs.LabelData.{branches_of, use_of}
use Rattle.label_forwarding.specs.declared.branch.Branch.{Branch}
use Rattle.label_forwarding.specs.FibData.{AreHops}
use Rattle.edge_defs.specs.Datagrams.{tree_of}
use Rattle.mldp_node.specs.NodeData.{NodeData}
use Rattle.edge_core.proofs.FateLemmas.{one_tree, tree_branches}
use Rattle.network_nodes.proofs.NodeLemmas.{core_arrives}
use Rattle.network_nodes.proofs.datagrams.landing.Goals as goal

pub returns-in_ok-branches_along-in-Some : goal.returns-in_ok-branches_along-in-Some
returns-in_ok-branches_along-in-Some c = λ none.
    let noted = c.in-Some.ensures.noted in
    let fec = c.in-Some.entry.now.fec in
    let own = c.label_node.ensures.goes_on none in
    core_arrives c.args.core_node.now.labels.node.part c.args.from c.args.label fec
    (record { outs = c.new-outs.result; branches = c.in_ok-branches_along-in-Some.field-0 })
    (ap (λ (n : NodeData). tree_of c.args.from (use_of n.node.part c.args.label)) (sym own)
    ∙ (one_tree c.args.from (use_of c.label_node.result.now.node.part c.args.label)
    ∙ (sym (c.fib.ensures.mapped c.args.from c.args.label) ∙ noted.0)))
    c.new-outs.ensures
    (c.in_ok-branches_along-in-Some.ensures
    ∙ (tree_branches fec c.label_node.result.now.node.part c.fib.result.now c.branches.result.now c.fib.ensures
    (subst (λ (hops : List Branch). AreHops c.fib.result.now fec hops) (sym c.branches.ensures) noted.1.branches)
    ∙ ap (λ (n : NodeData). branches_of n.node.part fec) own))

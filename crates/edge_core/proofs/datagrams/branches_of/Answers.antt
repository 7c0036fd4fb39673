use Rattle.std.proofs.Common.{IfOk, ◌≡◌, List, ap, subst, ◌∙◌}
use Rattle.label_defs.specs.declared.branch.Branch.{Branch}
use Rattle.label_defs.specs.LabelData.{branches_of}
use Rattle.mldp_node.specs.NodeData.{NodeData}
use Rattle.edge_core.proofs.FateLemmas.{tree_branches}
use Rattle.edge_core.proofs.datagrams.branches_of.Goals as goal

pub returns : goal.returns
returns c = subst (λ (xs : List Branch). IfOk c.branches_along.result (λ branches. branches ≡ xs))
    (tree_branches c.args.fec.now c.node.result.now.node.part c.fib.result.now c.push.result.now c.fib.ensures c.push.ensures
    ∙ ap (λ (n : NodeData). branches_of n.node.part c.args.fec.now) c.node.ensures)
    c.branches_along.ensures

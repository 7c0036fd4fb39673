use Rattle.std.proofs.Common.{List, ap, subst, sym, ◌∙◌}
use Rattle.mv_base.specs.core_walks.Core.{Core, IsCoreOf}
use Rattle.label_defs.specs.LabelData.{branches_of, use_of}
use Rattle.label_forwarding.specs.declared.branch.Branch.{Branch}
use Rattle.label_forwarding.specs.FibData.{AreHops}
use Rattle.mldp_node.specs.NodeData.{NodeData}
use Rattle.edge_defs.specs.Datagrams.{arriving_fate, outs_of, tree_of}
use Rattle.edge_routes.specs.edge_home.Home.{place_of}
use Rattle.edge_core.specs.declared.fate.Fate.{Fate}
use Rattle.edge_core.specs.Called.{going}
use Rattle.edge_core.specs.State.{IsFate, data_of, home_of}
use Rattle.edge_core.specs.View.{EdgeView}
use Rattle.edge_core.proofs.FateLemmas.{arrives, one_tree, tree_branches}
use Rattle.edge_core.proofs.edge.Edge.arrive.Goals as goal

pub returns-in_ok-branches_along-in-Some : goal.returns-in_ok-branches_along-in-Some
returns-in_ok-branches_along-in-Some c =
    let parts = c.self.inside.parts in
    let edge = data_of (going parts) in
    let datagram = c.args.datagram.now in
    let noted = c.in-Some.ensures.noted in
    let fec = c.in-Some.entry.now.fec in
    let fate : Fate = record { outs = c.in_ok-delivered-in-Some.field-0; branches = c.in_ok-branches_along-in-Some.field-0 } in
    subst (λ (view : EdgeView). (walks : Core) → IsCoreOf c.args.core.now.nodes c.args.core.now.links walks
    → IsFate (arriving_fate (place_of (home_of view) walks) c.args.now (data_of view) c.args.from c.args.label datagram.source datagram.group) fate)
    c.self.view_is (λ walks is.
    let place = place_of parts.routing.control.home walks in
    arrives place c.args.now edge datagram.source datagram.group c.args.from c.args.label fec fate
    (ap (λ (n : NodeData). tree_of c.args.from (use_of n.node.part c.args.label)) (sym c.node.ensures)
    ∙ (one_tree c.args.from (use_of c.node.result.now.node.part c.args.label) ∙ (sym (c.fib.ensures.mapped c.args.from c.args.label) ∙ noted.0)))
    (c.in_ok-delivered-in-Some.ensures walks is
    ∙ (λ i. outs_of place c.args.now edge fec (c.source-source.ensures i) (c.group-group.ensures i)))
    (c.in_ok-branches_along-in-Some.ensures
    ∙ (tree_branches fec c.node.result.now.node.part c.fib.result.now c.branches.result.now c.fib.ensures
    (subst (λ (hops : List Branch). AreHops c.fib.result.now fec hops) (sym c.branches.ensures) noted.1.branches)
    ∙ ap (λ (n : NodeData). branches_of n.node.part fec) c.node.ensures)))

use Rattle.std.proofs.Common.{◌≡◌, ◌∙◌, refl, sym, ap, subst, arith, ◌+◌, ◌<◌, List, length, get_or}
use Rattle.network_nodes.specs.declared.node.NetworkNode.{NetworkNode}
use Rattle.network_acts.specs.control_plane.Acted.{IsIn}
use Rattle.network_acts.specs.control_plane.PlaneView.{PlaneView}
use Rattle.network_acts.proofs.control_plane.QueryLemmas.{AreDue, all_due, due_more}
use Rattle.network_acts.proofs.control_plane.plane.ControlPlane.due.Goals as goal

pub loop-node-init : goal.loop-node-init
loop-node-init c = λ at is. refl

pub loop-node-preserved : goal.loop-node-preserved
loop-node-preserved c =
    let inside = c.self.inside in
    let plane : PlaneView =
    record { nodes = inside.nodes.items; ways = inside.ways; transit = inside.transit; core = inside.core; clock = inside.clock } in
    let nodes = c.as_slice-node-items.ensures.value in
    subst (λ (p : PlaneView). AreDue p (c.loop-node.node-index + 1) c.saturating_add-count.result) c.self.view_is
    (due_more plane c.loop-node.node-index c.loop-node.count c.due.result c.saturating_add-count.result c.node-item.result
    (subst (λ (l : List NetworkNode). c.loop-node.node-index < length l) nodes c.loop-node-test.true)
    (c.node-item.is ∙ ap (λ (l : List NetworkNode). get_or l c.loop-node.node-index c.node-item.result) nodes)
    (subst (λ (p : PlaneView). AreDue p c.loop-node.node-index c.loop-node.count) (sym c.self.view_is) c.loop-node.invariant)
    c.due.ensures c.saturating_add-count.ensures)

pub returns : goal.returns
returns c =
    let inside = c.self.inside in
    let plane : PlaneView =
    record { nodes = inside.nodes.items; ways = inside.ways; transit = inside.transit; core = inside.core; clock = inside.clock } in
    let as_many = ap (λ (l : List NetworkNode). length l) c.as_slice-node-items.ensures.value in
    let all : c.loop-node.node-index ≡ length inside.nodes.items = omega (arith, as_many, c.loop-node-test.false, c.loop-node.auto.node-index-end) in
    λ at is. all_due plane c.loop-node.node-index c.loop-node.count all
    (subst (λ (p : PlaneView). AreDue p c.loop-node.node-index c.loop-node.count) (sym c.self.view_is) c.loop-node.invariant) at
    (subst (IsIn at) (sym c.self.view_is) is)

use Rattle.std.proofs.Common.{◌≡◌, ◌<◌, length, sym, ap, subst, ◌∙◌}
use Rattle.std.proofs.lemmas.Result.{IfOk-weaker, on_ok_weaker}
use Rattle.mv_base.specs.declared.ids.NodeId.{NodeId}
use Rattle.umh_select.specs.Routes.{AreCosts}
use Rattle.edge_defs.specs.Edge.{Control}
use Rattle.edge_defs.specs.Steps.{refreshed}
use Rattle.edge_routes.specs.edge_home.Home.{place_of}
use Rattle.control_laws.specs.Control.{Kept, control_of}
use Rattle.edge_control.specs.Sound.{kept_of}
use Rattle.edge_control.specs.Refreshing.{AreChanged, AreTold}
use Rattle.edge_control.proofs.RefreshMade.{are_changed, are_of_core, after_rest, after_sound, is_node, least_costs, refresh_makes}
use Rattle.edge_control.proofs.control.EdgeControl.refresh.Goals as goal

pub refresh_trees-requires : goal.refresh_trees-requires
refresh_trees-requires c =
    let kept : Kept = kept_of c.self.inside.home c.self.inside.trees.items c.self.inside.taken in
    let count : c.args.core.now.nodes ≡ length kept.home.scenario.nodes =
    c.requires ∙ ap (λ (k : Kept). length k.home.scenario.nodes) (sym c.self.view_is) in
    record {
      me = subst (λ (me : NodeId). me.0 < c.args.core.now.nodes) (sym c.me-me.ensures) (is_node kept c.self.invariant c.args.core.now.nodes count);
      peers = are_of_core kept c.self.invariant c.args.core.now.nodes count;
    }

pub invariant_of-self : goal.invariant_of-self
invariant_of-self c =
    let kept : Kept = kept_of c.self.inside.home c.self.inside.trees.items c.self.inside.taken in
    after_sound kept c.self.invariant c.refresh_trees.new.trees.items c.refresh_trees.ensures.rest

pub returns-clause-refreshed : goal.returns-clause-refreshed
returns-clause-refreshed c = λ own is.
    let kept : Kept = kept_of c.self.inside.home c.self.inside.trees.items c.self.inside.taken in
    let count : c.args.core.now.nodes ≡ length kept.home.scenario.nodes =
    c.requires ∙ ap (λ (k : Kept). length k.home.scenario.nodes) (sym c.self.view_is) in
    let costs : AreCosts c.args.core.now c.me-me.result (own.cost kept.home.me) =
    subst (λ (me : NodeId). AreCosts c.args.core.now me (own.cost kept.home.me)) (sym c.me-me.ensures)
    (least_costs c.args.core.now own is kept.home.me (is_node kept c.self.invariant c.args.core.now.nodes count)) in
    on_ok_weaker c.refresh_trees.result (λ zip.
    (refresh_makes kept c.self.invariant c.have_octets.ensures c.spelled.ensures own c.args.now c.refresh_trees.new.trees.items zip).is
    ∙ ap (λ (k : Kept). refreshed (place_of k.home own) c.args.now (control_of k)) c.self.view_is)
    (c.refresh_trees.ensures.refreshed (own.cost kept.home.me) costs)

pub returns-clause-wanted : goal.returns-clause-wanted
returns-clause-wanted c =
    let kept : Kept = kept_of c.self.inside.home c.self.inside.trees.items c.self.inside.taken in
    let count : c.args.core.now.nodes ≡ length kept.home.scenario.nodes =
    c.requires ∙ ap (λ (k : Kept). length k.home.scenario.nodes) (sym c.self.view_is) in
    let (own, is) = c.known.ensures in
    let costs : AreCosts c.args.core.now c.me-me.result (own.cost kept.home.me) =
    subst (λ (me : NodeId). AreCosts c.args.core.now me (own.cost kept.home.me)) (sym c.me-me.ensures)
    (least_costs c.args.core.now own is kept.home.me (is_node kept c.self.invariant c.args.core.now.nodes count)) in
    on_ok_weaker c.refresh_trees.result (λ zip.
    (refresh_makes kept c.self.invariant c.have_octets.ensures c.spelled.ensures own c.args.now c.refresh_trees.new.trees.items zip).trees)
    (c.refresh_trees.ensures.refreshed (own.cost kept.home.me) costs)

pub returns-clause-rest : goal.returns-clause-rest
returns-clause-rest c =
    let kept : Kept = kept_of c.self.inside.home c.self.inside.trees.items c.self.inside.taken in
    let new : Control = control_of (record kept { trees = c.refresh_trees.new.trees.items }) in
    after_rest kept c.self.invariant c.refresh_trees.new.trees.items c.refresh_trees.ensures.rest
    ∙ ap (λ (k : Kept). record (control_of k) { flows = new.flows }) c.self.view_is

pub returns-clause-joins : goal.returns-clause-joins
returns-clause-joins c =
    let kept : Kept = kept_of c.self.inside.home c.self.inside.trees.items c.self.inside.taken in
    let count : c.args.core.now.nodes ≡ length kept.home.scenario.nodes =
    c.requires ∙ ap (λ (k : Kept). length k.home.scenario.nodes) (sym c.self.view_is) in
    let (own, is) = c.known.ensures in
    let costs =
    least_costs c.args.core.now own is c.me-me.result
    (subst (λ (me : NodeId). me.0 < c.args.core.now.nodes) (sym c.me-me.ensures) (is_node kept c.self.invariant c.args.core.now.nodes count)) in
    IfOk-weaker c.refresh_trees.result _ _ (λ changes moved.
    subst (λ (k : Kept). AreChanged (control_of k).flows (control_of (record kept { trees = c.refresh_trees.new.trees.items })).flows
    changes.joins.items) c.self.view_is
    (are_changed kept c.self.invariant c.refresh_trees.new.trees.items c.refresh_trees.ensures.rest changes.joins.items moved))
    (c.refresh_trees.ensures.joins (own.cost c.me-me.result) costs)

pub returns-clause-tunnels : goal.returns-clause-tunnels
returns-clause-tunnels c =
    IfOk-weaker c.refresh_trees.result _ _ (λ changes told.
    subst (λ (k : Kept). AreTold k.trees c.refresh_trees.new.trees.items changes.tunnels.items) c.self.view_is told)
    c.refresh_trees.ensures.tunnels

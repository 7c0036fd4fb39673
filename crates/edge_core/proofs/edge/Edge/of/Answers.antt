use Rattle.std.proofs.Common.{sym, ap, subst, ◌∙◌}
use Rattle.scenario_defs.specs.declared.scenario.Scenario.{Scenario}
use Rattle.label_defs.specs.Node.{fresh_node}
use Rattle.edge_routes.specs.edge_home.Home.{home_of}
use Rattle.edge_core.specs.State.{IsLive}
use Rattle.edge_core.proofs.FirstLemmas.{first_in}
use Rattle.edge_core.proofs.edge.Edge.of.Goals as goal

pub invariant_of-result : goal.invariant_of-result
invariant_of-result c = λ unspent.
    subst (IsLive c.in_ok-routing.routing c.in_ok-labels.labels) (sym c.of-streams.ensures)
    (c.in_ok-labels.ensures.live c.in_ok-routing.routing c.in_ok-routing.ensures.step
    (c.in_ok-routing.ensures.home ∙ ap (λ (scenario : Scenario). home_of scenario c.args.me) (sym c.lent.ensures)) c.in_ok-routing.ensures.nothing)

pub returns-clause-is : goal.returns-clause-is
returns-clause-is c = first_in c.args.scenario.now.labels c.in_ok-routing.routing c.in_ok-labels.labels c.of-streams.result c.of-2.result
    (c.in_ok-labels.ensures.fresh ∙ ap (λ (scenario : Scenario). fresh_node scenario.labels) c.lent.ensures) c.in_ok-routing.ensures.nothing
    c.in_ok-routing.ensures.silent c.of-streams.ensures c.of-2.ensures

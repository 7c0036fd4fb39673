use Rattle.std.proofs.Common.{get_or, subst, sym}
use Rattle.std.proofs.lemmas.Result.{IfOk-weaker}
use Rattle.scenario_defs.specs.Rules.{IsVrf, Rules}
use Rattle.scenario_defs.specs.declared.scenario.Scenario.{Scenario}
use Rattle.edge_control.proofs.StartLemmas.{own_rules, trees_are}
use Rattle.edge_control.proofs.starting.first_trees.Goals as goal

pub trees_of-requires-clause-rules : goal.trees_of-requires-clause-rules
trees_of-requires-clause-rules c = subst Rules (sym c.scenario.ensures.scenario) c.scenario.ensures.is.rules

pub trees_of-requires-clause-each : goal.trees_of-requires-clause-each
trees_of-requires-clause-each c = λ i own lt.
    subst (λ (s : Scenario). IsVrf s (get_or c.vrfs.result.now i own).local.vrf) (sym c.scenario.ensures.scenario)
    (own_rules c.args.home.now c.vrfs.result.now c.scenario.ensures.is.rules c.vrfs.ensures.vrfs i own lt)

pub returns : goal.returns
returns c = IfOk-weaker c.trees_of.result _ _ (λ trees is.
    trees_are c.args.home.now c.vrfs.result.now c.scenario.result.now trees.items c.vrfs.ensures.vrfs c.scenario.ensures.scenario is)
    c.trees_of.ensures

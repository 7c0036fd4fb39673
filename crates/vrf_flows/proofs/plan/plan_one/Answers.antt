use Rattle.std.proofs.Common.{rules, ◌≡◌, Option, Some, OnOk, sym, subst}
use Rattle.indexmap.specs.IndexMap.{get}
use Rattle.vrf_words.specs.tree_defs.Keys.{same_flow}
use Rattle.vrf_flows.specs.declared.held.Held.{Held}
use Rattle.vrf_flows.specs.Plan.{planned, put_at}
use Rattle.vrf_flows.specs.Sight.{seen}
use Rattle.vrf_flows.proofs.plan.plan_one.Goals as goal

pub returns-in-Some-clause-each : goal.returns-in-Some-clause-each
returns-in-Some-clause-each c = λ cost costs q.
    let there : get same_flow c.args.flows.now c.args.flow ≡ Some c.in-Some.held.now = search rules in
    subst (λ (o : Option Held). OnOk c.plan_flow.result
    (get same_flow c.plan_flow.new.plan q ≡ put_at (same_flow c.args.flow q) (planned o (seen c.args.sight.now cost c.args.flow))
    (get same_flow c.args.plan.now q))) (sym there)
    (c.plan_flow.ensures.each cost costs q)

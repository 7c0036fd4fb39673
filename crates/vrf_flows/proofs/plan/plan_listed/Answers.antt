use Rattle.std.proofs.Common.{◌≡◌, List, ap, ◌∙◌}
use Rattle.std.specs.List.{list_any}
use Rattle.std.proofs.lemmas.List.{take_all}
use Rattle.vrf_words.specs.declared.tree_defs.flow.Flow.{Flow}
use Rattle.indexmap.specs.IndexMap.{get}
use Rattle.vrf_words.specs.tree_defs.Keys.{same_flow}
use Rattle.vrf_flows.specs.Plan.{planned}
use Rattle.vrf_flows.specs.Sight.{seen}
use Rattle.vrf_flows.proofs.StaleLemmas.{planned_by, plans-all, plans-more, unlisted-none}
use Rattle.vrf_flows.proofs.plan.plan_listed.Goals as goal

pub loop-flow-preserved : goal.loop-flow-preserved
loop-flow-preserved c = record {
  each = λ cost costs q. plans-more (λ flow. planned (get same_flow c.args.flows.now flow) (seen c.args.sight.now cost flow)) c.args.listed.now
      c.loop-flow.flow-index _ q _ _ c.loop-flow-test.true
      (c.loop-flow.invariant.each cost costs q) (c.in_ok-plan_one.ensures.each cost costs q);
  unique = c.plan_one.ensures.unique;
}

pub returns-clause-each : goal.returns-clause-each
returns-clause-each c = λ cost costs q.
    let all : get same_flow c.loop-flow.plan q ≡ planned_by (list_any (same_flow q) c.args.listed.now)
    (planned (get same_flow c.args.flows.now q) (seen c.args.sight.now cost q)) =
    c.loop-flow.invariant.each cost costs q ∙ ap
    (λ (l : List Flow). planned_by (list_any (same_flow q) l) (planned (get same_flow c.args.flows.now q) (seen c.args.sight.now cost q)))
    (take_all c.loop-flow.flow-index c.args.listed.now c.loop-flow-test.false) in
    plans-all (list_any (same_flow q) c.args.listed.now) (get same_flow c.loop-flow.plan q)
    (planned (get same_flow c.args.flows.now q) (seen c.args.sight.now cost q))
    (unlisted-none (get same_flow c.args.flows.now q) (seen c.args.sight.now cost q) (list_any (same_flow q) c.args.listed.now)
    (c.requires.among.among q)) all

use Rattle.std.proofs.Common.{◌≡◌, List, ap, ◌∙◌}
use Rattle.std.specs.List.{list_any}
use Rattle.std.proofs.lemmas.List.{take_all}
use Rattle.vrf_words.specs.declared.tree_defs.flow.Flow.{Flow}
use Rattle.indexmap.specs.IndexMap.{get}
use Rattle.vrf_words.specs.tree_defs.Keys.{same_flow}
use Rattle.vrf_flows.proofs.StaleLemmas.{planned_by, plans-all, plans-more}
use Rattle.vrf_trees.specs.Plan.{planned}
use Rattle.vrf_trees.proofs.PlanLemmas.{unlisted-none}
use Rattle.vrf_trees.proofs.plan.plan_listed.Goals as goal

pub loop-flow-preserved : goal.loop-flow-preserved
loop-flow-preserved c = record {
  each = λ q. plans-more (λ flow. planned c.args.leaf.now flow (get same_flow c.args.wants.now flow)) c.args.listed.now c.loop-flow.flow-index _ q _ _
      c.loop-flow-test.true
      (c.loop-flow.invariant.each q) (c.in_ok-plan_one.ensures.each q);
  unique = c.plan_one.ensures.unique;
}

pub returns-clause-each : goal.returns-clause-each
returns-clause-each c = λ q.
    let all : get same_flow c.loop-flow.plan q ≡ planned_by (list_any (same_flow q) c.args.listed.now)
    (planned c.args.leaf.now q (get same_flow c.args.wants.now q)) =
    c.loop-flow.invariant.each q ∙ ap (λ (l : List Flow). planned_by (list_any (same_flow q) l)
    (planned c.args.leaf.now q (get same_flow c.args.wants.now q))) (take_all c.loop-flow.flow-index c.args.listed.now c.loop-flow-test.false) in
    plans-all (list_any (same_flow q) c.args.listed.now) (get same_flow c.loop-flow.plan q)
    (planned c.args.leaf.now q (get same_flow c.args.wants.now q))
    (unlisted-none c.args.leaf.now q (get same_flow c.args.wants.now q) (list_any (same_flow q) c.args.listed.now) (c.requires.among.among q)) all

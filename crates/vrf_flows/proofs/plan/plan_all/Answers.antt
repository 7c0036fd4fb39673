use Rattle.std.proofs.Common.{◌≡◌, List, [], Option, None, sym, ap, ◌∙◌}
use Rattle.std.specs.Map.Iter.{deref_pair}
use Rattle.std.proofs.lemmas.Map.Iter.{rest_all, rest_more}
use Rattle.indexmap.specs.IndexMap.{get}
use Rattle.vrf_words.specs.declared.tree_defs.flow.Flow.{Flow}
use Rattle.vrf_words.specs.tree_defs.Keys.{same_flow}
use Rattle.vrf_flows.specs.declared.held.Held.{Held}
use Rattle.vrf_flows.specs.Held.{Now}
use Rattle.vrf_flows.specs.Plan.{puts, replan}
use Rattle.vrf_flows.specs.Sight.{seen}
use Rattle.vrf_flows.proofs.FlowLemmas.{puts-lookup, plan-end}
use Rattle.vrf_flows.proofs.plan.plan_all.Goals as goal

pub loop-flow-preserved : goal.loop-flow-preserved
loop-flow-preserved c = record {
  each = λ cost costs q.
      let front = rest_more deref_pair _ _ c.next.result _ c.in-Some.is c.next.ensures.steps in
      ap (λ (o : Option Now). puts (λ flow held. replan held (seen c.args.sight.now cost flow)) c.next.new.self o q)
      (c.in_ok-plan_flow.ensures.each cost costs q)
      ∙ (ap (λ (l : List (Flow × Held)). puts (λ flow held. replan held (seen c.args.sight.now cost flow)) l (get same_flow c.loop-flow.plan q) q)
      (sym front)
      ∙ c.loop-flow.invariant.each cost costs q);
  unique = c.plan_flow.ensures.unique;
}

pub returns-clause-each : goal.returns-clause-each
returns-clause-each c = λ cost costs q.
    let done : c.loop-flow.flow-iterator ≡ [] = rest_all deref_pair _ _ c.next.result c.in-None.is c.next.ensures.steps in
    ap (λ (l : List (Flow × Held)). puts (λ flow held. replan held (seen c.args.sight.now cost flow)) l (get same_flow c.loop-flow.plan q) q)
    (sym done)
    ∙ (c.loop-flow.invariant.each cost costs q
    ∙ (puts-lookup (λ flow held. replan held (seen c.args.sight.now cost flow)) c.args.flows.now.entries None q c.requires.unique
    ∙ plan-end (seen c.args.sight.now cost) q (get same_flow c.args.flows.now q)))

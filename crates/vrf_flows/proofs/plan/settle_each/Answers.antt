use Rattle.std.proofs.Common.{rules, ◌≡◌, cond, List, Option, ap, sym, ◌∙◌}
use Rattle.std.proofs.lemmas.Map.Iter.{rest_more}
use Rattle.indexmap.specs.IndexMap.{get}
use Rattle.vrf_words.specs.declared.tree_defs.flow.Flow.{Flow}
use Rattle.vrf_words.specs.tree_defs.Keys.{same_flow}
use Rattle.vrf_flows.specs.declared.held.Held.{Held}
use Rattle.vrf_flows.specs.Held.{Now}
use Rattle.vrf_flows.specs.Sight.{needs}
use Rattle.vrf_flows.specs.Plan.{sets, settled_by}
use Rattle.vrf_flows.proofs.FlowLemmas.{sets-lookup, settle-end, settled-held}
use Rattle.vrf_flows.proofs.plan.settle_each.Goals as goal

pub loop-flow-preserved : goal.loop-flow-preserved
loop-flow-preserved c =
    let now : (q : Flow) → get same_flow c.settle_flow.new.flows q
    ≡ cond (same_flow c.in-Some.flow q) (settled_by (needs c.args.sight.now c.in-Some.flow) c.in-Some.kept) (get same_flow c.loop-flow.flows q) =
    λ q.
    c.in_ok-settle_flow.ensures.each q in
    record {
      each = λ q.
          let front = rest_more (λ p. p) _ _ c.next.result _ c.in-Some.is c.next.ensures.steps in
          ap (λ (o : Option Held). sets (λ flow now. settled_by (needs c.args.sight.now flow) now) c.next.new.self o q) (now q)
          ∙ (ap (λ (l : List (Flow × Now)). sets (λ flow now. settled_by (needs c.args.sight.now flow) now) l (get same_flow c.loop-flow.flows q) q)
          (sym front)
          ∙ c.loop-flow.invariant.each q);
      held = λ q need held. settled-held (needs c.args.sight.now) c.in-Some.flow q c.in-Some.kept (get same_flow c.loop-flow.flows q)
          (get same_flow c.settle_flow.new.flows q) need (c.loop-flow.invariant.held q need held) (now q);
      unique = c.settle_flow.ensures.unique;
    }

pub returns-clause-each : goal.returns-clause-each
returns-clause-each c = λ q.
    let all : get same_flow c.loop-flow.flows q ≡ sets (λ flow now. settled_by (needs c.args.sight.now flow) now) c.args.plan.entries
    (get same_flow c.args.flows.now q) q = search rules in
    all ∙ (sets-lookup (λ flow now. settled_by (needs c.args.sight.now flow) now) c.args.plan.entries (get same_flow c.args.flows.now q) q
    c.requires.unique ∙ settle-end (needs c.args.sight.now) q (get same_flow c.args.plan q) (get same_flow c.args.flows.now q))

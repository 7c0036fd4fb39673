use Rattle.std.proofs.Common.{rules, ◌≡◌, None, Some, ◌∙◌}
use Rattle.indexmap.specs.IndexMap.{get}
use Rattle.vrf_words.specs.tree_defs.Keys.{same_flow}
use Rattle.vrf_flows.specs.Plan.{puts, loss}
use Rattle.vrf_flows.proofs.FlowLemmas.{puts-lookup, loss-end}
use Rattle.vrf_flows.proofs.plan.leaves_of.Goals as goal

pub returns-clause-each : goal.returns-clause-each
returns-clause-each c = λ q.
    let all : get same_flow c.loop-flow.leaves q
    ≡ puts (λ flow now. loss (get same_flow c.args.flows.now flow) (Some now)) c.args.plan.now.entries None q = search rules in
    all ∙ (puts-lookup (λ flow now. loss (get same_flow c.args.flows.now flow) (Some now)) c.args.plan.now.entries None q c.requires.unique
    ∙ loss-end (get same_flow c.args.flows.now) q (get same_flow c.args.plan.now q))

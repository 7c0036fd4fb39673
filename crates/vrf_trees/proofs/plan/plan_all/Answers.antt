use Rattle.std.proofs.Common.{rules, ◌≡◌, None, ◌∙◌}
use Rattle.indexmap.specs.IndexMap.{get}
use Rattle.vrf_words.specs.tree_defs.Keys.{same_flow}
use Rattle.vrf_flows.specs.Plan.{puts}
use Rattle.vrf_flows.proofs.FlowLemmas.{puts-lookup}
use Rattle.vrf_trees.specs.Plan.{renewal}
use Rattle.vrf_trees.proofs.PlanLemmas.{stale-end}
use Rattle.vrf_trees.proofs.plan.plan_all.Goals as goal

pub returns-clause-each : goal.returns-clause-each
returns-clause-each c = λ q.
    let all : get same_flow c.loop-flow.plan q ≡ puts (renewal c.args.leaf.now) c.args.wants.now.entries None q = search rules in
    all ∙ (puts-lookup (renewal c.args.leaf.now) c.args.wants.now.entries None q c.requires.unique
    ∙ stale-end c.args.leaf.now q (get same_flow c.args.wants.now q))

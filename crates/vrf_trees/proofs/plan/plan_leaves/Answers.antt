use Rattle.std.proofs.Common.{rules, ◌≡◌, ◌∙◌}
use Rattle.indexmap.specs.IndexMap.{get}
use Rattle.vrf_words.specs.tree_defs.Keys.{same_flow}
use Rattle.vrf_flows.specs.Plan.{puts}
use Rattle.vrf_flows.proofs.FlowLemmas.{puts-lookup}
use Rattle.vrf_trees.specs.Plan.{leaves_for}
use Rattle.vrf_trees.proofs.PlanLemmas.{leaves-end}
use Rattle.vrf_trees.proofs.plan.plan_leaves.Goals as goal

pub returns-clause-each : goal.returns-clause-each
returns-clause-each c = λ q.
    let all : get same_flow c.loop-flow.plan q ≡ puts leaves_for c.args.leaves.now.entries (get same_flow c.args.plan.now q) q = search rules in
    all ∙ (puts-lookup leaves_for c.args.leaves.now.entries (get same_flow c.args.plan.now q) q c.requires.leaves
    ∙ leaves-end q (get same_flow c.args.leaves.now q) (get same_flow c.args.plan.now q))

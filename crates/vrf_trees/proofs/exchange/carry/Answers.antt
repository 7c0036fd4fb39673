use Rattle.std.proofs.Common.{rules, ◌≡◌, ◌∙◌}
use Rattle.indexmap.specs.IndexMap.{get}
use Rattle.vrf_words.specs.tree_defs.Keys.{same_flow}
use Rattle.vrf_flows.specs.Plan.{sets}
use Rattle.vrf_flows.proofs.FlowLemmas.{sets-lookup}
use Rattle.vrf_trees.specs.Plan.{next_for}
use Rattle.vrf_trees.proofs.PlanLemmas.{carry-end}
use Rattle.vrf_trees.proofs.exchange.carry.Goals as goal

pub returns-clause-each : goal.returns-clause-each
returns-clause-each c = λ q.
    let all : get same_flow c.loop-flow.wants q ≡ sets next_for c.args.plan.entries (get same_flow c.args.wants.now q) q = search rules in
    all ∙ (sets-lookup next_for c.args.plan.entries (get same_flow c.args.wants.now q) q c.requires.unique
    ∙ carry-end q (get same_flow c.args.plan q) (get same_flow c.args.wants.now q))

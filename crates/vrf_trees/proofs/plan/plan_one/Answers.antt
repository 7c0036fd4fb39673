use Rattle.std.proofs.Common.{rules, ◌≡◌, Option, Some, OnOk, sym, subst}
use Rattle.indexmap.specs.IndexMap.{get}
use Rattle.vrf_words.specs.tree_defs.Keys.{same_flow}
use Rattle.vrf_flows.specs.Plan.{put_at}
use Rattle.vrf_trees.specs.declared.wants.Wants.{Wants}
use Rattle.vrf_trees.specs.Plan.{planned}
use Rattle.vrf_trees.proofs.plan.plan_one.Goals as goal

pub returns-in-Some-clause-each : goal.returns-in-Some-clause-each
returns-in-Some-clause-each c = λ q.
    let there : get same_flow c.args.wants.now c.args.flow ≡ Some c.in-Some.held.now = search rules in
    subst (λ (o : Option Wants). OnOk c.plan_held.result
    (get same_flow c.plan_held.new.plan q ≡ put_at (same_flow c.args.flow q) (planned c.args.leaf.now c.args.flow o)
    (get same_flow c.args.plan.now q))) (sym there)
    (c.plan_held.ensures.each q)

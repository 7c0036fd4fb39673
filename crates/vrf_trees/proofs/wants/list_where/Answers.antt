use Rattle.std.proofs.Common.{rules, ◌≡◌, []}
use Rattle.vrf_trees.specs.Wants.{is_news}
use Rattle.vrf_flows.proofs.StaleLemmas.{all-listed}
use Rattle.vrf_trees.proofs.wants.list_where.Goals as goal

pub returns-clause-listed : goal.returns-clause-listed
returns-clause-listed c = λ q.
    let done : c.loop-flow.flow-iterator ≡ [] = search rules in
    all-listed (is_news c.args.cause.now) q c.args.wants.now.entries c.loop-flow.flow-iterator c.loop-flow.stale done (c.loop-flow.invariant.listed q)

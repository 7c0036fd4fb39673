use Rattle.std.proofs.Common.{rules, ◌≡◌, true, Some}
use Rattle.indexmap.specs.IndexMap.{get}
use Rattle.vrf_words.specs.tree_defs.Keys.{same_flow}
use Rattle.vrf_flows.proofs.FlowLemmas.{mark-one}
use Rattle.vrf_flows.proofs.marks.mark_held.Goals as goal

pub returns-in-Some-clause-each : goal.returns-in-Some-clause-each
returns-in-Some-clause-each c = λ q.
    let there : get same_flow c.args.flows.now c.args.flow ≡ Some c.in-Some.held.now = search rules in
    let written = (c.get_mut.follows.holds (record { stale = true; kept = c.in-Some.held.now.kept })).3 (search rules) in
    mark-one (get same_flow c.args.flows.now) c.args.flow q c.in-Some.held.now _ there (written.0 q)

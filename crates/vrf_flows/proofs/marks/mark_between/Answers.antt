use Rattle.std.proofs.Common.{rules, ◌≡◌, ap, sym, ◌∙◌, Bool}
use Rattle.indexmap.specs.IndexMap.{get}
use Rattle.vrf_words.specs.tree_defs.Keys.{same_flow}
use Rattle.vrf_flows.specs.Held.{marked}
use Rattle.vrf_flows.proofs.FlowLemmas.{unlapsed, marked-not}
use Rattle.vrf_flows.proofs.marks.mark_between.Goals as goal

pub returns-else-from-to-clause-each : goal.returns-else-from-to-clause-each
returns-else-from-to-clause-each c = λ q.
    let one : c.args.from ≡ c.args.to = search rules in
    sym (ap (λ (b : Bool). marked b (get same_flow c.args.flows.now q)) (unlapsed c.args.from c.args.to q c.args.entries.now.entries one)
    ∙ marked-not (get same_flow c.args.flows.now q))

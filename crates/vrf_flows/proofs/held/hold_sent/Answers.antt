use Rattle.std.proofs.Common.{sym, ◌∙◌}
use Rattle.indexmap.specs.IndexMap.{get}
use Rattle.vrf_words.specs.tree_defs.Keys.{same_flow}
use Rattle.vrf_flows.proofs.FlowLemmas.{held-present, held-absent}
use Rattle.vrf_flows.proofs.held.hold_sent.Goals as goal

pub returns-then-holds-clause-each : goal.returns-then-holds-clause-each
returns-then-holds-clause-each c = λ q. held-present (get same_flow c.args.flows.now) c.args.asked c.args.flow q (sym c.if-holds.ensures)

pub returns-clause-each : goal.returns-clause-each
returns-clause-each c =
    λ q. held-absent (get same_flow c.args.flows.now) c.args.asked c.args.flow q _ (sym c.holds.ensures ∙ c.if-holds.false)
    (c.in_ok-hold.ensures.each q)

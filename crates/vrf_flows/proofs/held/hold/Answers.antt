use Rattle.std.proofs.Common.{true, sym, ◌∙◌}
use Rattle.indexmap.specs.IndexMap.{get}
use Rattle.vrf_words.specs.tree_defs.Keys.{same_flow}
use Rattle.vrf_flows.proofs.FlowLemmas.{held-present, held-absent, grown-by}
use Rattle.vrf_flows.proofs.held.hold.Goals as goal

pub returns-then-holds-clause-each : goal.returns-then-holds-clause-each
returns-then-holds-clause-each c = λ q. held-present (get same_flow c.args.flows.now) true c.args.flow q (sym c.if-holds.ensures)

pub returns-clause-each : goal.returns-clause-each
returns-clause-each c =
    λ q. held-absent (get same_flow c.args.flows.now) true c.args.flow q _ (sym c.holds.ensures ∙ c.if-holds.false) (c.in_ok-hold.ensures.each q)

pub returns-clause-grown : goal.returns-clause-grown
returns-clause-grown c =
    λ q. grown-by (same_flow c.args.flow q) _ _ (held-absent (get same_flow c.args.flows.now) true c.args.flow q _ (sym c.holds.ensures ∙ c.if-holds.false)
    (c.in_ok-hold.ensures.each q))

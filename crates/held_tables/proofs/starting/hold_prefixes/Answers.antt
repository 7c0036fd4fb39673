use Rattle.held_tables.proofs.StartLemmas.{prefix_cut, prefix_end, prefix_more}
use Rattle.edge_tables.proofs.WayLemmas.{on_err}
use Rattle.held_tables.proofs.starting.hold_prefixes.Goals as goal

pub returns-in_err-set-clause-partly : goal.returns-in_err-set-clause-partly
returns-in_err-set-clause-partly c =
    on_err c.from_residual.result _
    (prefix_cut c.args.own.now.vrf.rd c.args.value.now c.args.routes.now c.loop-route.route-index _ c.loop-route-test.true c.args.tables.now
    c.loop-route.tables c.set.new.self c.unicast_key-key.result
    c.loop-route.invariant c.unicast_key-key.ensures c.in_err-set.ensures.partly)

pub loop-route-preserved : goal.loop-route-preserved
loop-route-preserved c =
    prefix_more c.args.own.now.vrf.rd c.args.value.now c.args.routes.now c.loop-route.route-index _ c.loop-route-test.true c.args.tables.now
    c.loop-route.tables c.set.new.self c.unicast_key-key.result
    c.loop-route.invariant c.unicast_key-key.ensures c.in_ok-set.ensures.set

pub returns-clause-set : goal.returns-clause-set
returns-clause-set c =
    prefix_end c.args.own.now.vrf.rd c.args.value.now c.args.routes.now c.loop-route.route-index c.loop-route-test.false c.args.tables.now
    c.loop-route.tables c.loop-route.invariant

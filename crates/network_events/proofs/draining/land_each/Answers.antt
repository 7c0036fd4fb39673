use Rattle.std.proofs.Common.{get_or, refl}
use Rattle.mv_base.specs.declared.ids.NodeId.{NodeId}
use Rattle.network_events.proofs.HopLemmas.{landing_next, landing_none}
use Rattle.network_events.proofs.draining.land_each.Goals as goal

pub loop-way-init : goal.loop-way-init
loop-way-init c = landing_none c.args.network.now c.args.lines.now c.requires.network

pub loop-way-preserved : goal.loop-way-preserved
loop-way-preserved c =
    let none : NodeId × NodeId = (record { 0 = 0 }, record { 0 = 0 }) in
    landing_next c.args.network.now c.loop-way.network c.land.new.network c.args.ways.now c.loop-way.way-index none
    (get_or c.args.ways.now c.loop-way.way-index none)
    c.args.lines.now c.loop-way.lines c.land.new.lines c.loop-way-test.true refl c.loop-way.invariant c.in_ok-land.ensures

use Rattle.std.proofs.Common.{◌∙◌, ap, get_or, refl, sym, Some, None, Ok}
use Rattle.std.proofs.lemmas.Result.{on_ok_weaker}
use Rattle.mv_base.specs.declared.ids.VrfId.{VrfId}
use Rattle.scenario_defs.specs.Vpn.{entered}
use Rattle.scenario_defs.specs.declared.scenario.Scenario.{Scenario}
use Rattle.network_acts.specs.Instant.{Any}
use Rattle.network_acts.specs.NetworkView.{NetworkView}
use Rattle.network_acts.proofs.CopyActs.{accepts, sends, some_sending}
use Rattle.network_events.specs.Datagrams.{EntersAt}
use Rattle.network_events.proofs.CustomerLemmas.{found_vrf_edge}
use Rattle.network_events.proofs.DatagramLemmas.{entering_all, entering_next, entering_none, enters_nowhere, enters_there, sent_all, some_after, some_handling, some_sent}
use Rattle.network_events.proofs.datagrams.sent.Goals as goal

pub loop-vrf-init : goal.loop-vrf-init
loop-vrf-init c =
    entering_none c.args.site c.args.datagram.now _ c.args.lines.now
    (some_sent c.args.site c.args.datagram.now c.args.network.now _
    (accepts _ c.args.network.now c.network.view_is c.accept.new.self c.accept.ensures.accepted) c.requires.network)

pub enter-requires : goal.enter-requires
enter-requires c =
    let none : VrfId = record { 0 = 0 } in
    let vrf : VrfId = get_or c.as_slice-own.result.now c.loop-vrf.vrf-index none in
    let edge =
    found_vrf_edge c.loop-vrf.network vrf c.scenario-in-loop-vrf.result.now c.scenario-in-loop-vrf.ensures c.edge_of_vrf.result (Some c.in-Some.n)
    c.edge_of_vrf.ensures c.in-Some.is in
    record { network = some_handling c.args.site c.args.datagram.now vrf c.loop-vrf.network c.in-Some.n edge c.loop-vrf.invariant.some }

pub loop-vrf-preserved : goal.loop-vrf-preserved
loop-vrf-preserved c =
    let none : VrfId = record { 0 = 0 } in
    let vrf : VrfId = get_or c.as_slice-own.result.now c.loop-vrf.vrf-index none in
    let edge =
    found_vrf_edge c.loop-vrf.network vrf c.scenario-in-loop-vrf.result.now c.scenario-in-loop-vrf.ensures c.edge_of_vrf.result (Some c.in-Some.n)
    c.edge_of_vrf.ensures c.in-Some.is in
    entering_next c.args.site c.args.datagram.now c.as_slice-own.result.now c.loop-vrf.vrf-index none vrf
    _ c.loop-vrf.network c.enter.new.self
    c.args.lines.now c.loop-vrf.lines c.enter.new.lines c.loop-vrf-test.true refl c.loop-vrf.invariant
    (enters_there c.args.site c.args.datagram.now vrf c.loop-vrf.network c.in-Some.n edge c.enter.new.self c.loop-vrf.lines c.enter.new.lines
    (Ok tt) c.in_ok-enter.ensures)

pub loop-vrf-preserved-in_default : goal.loop-vrf-preserved-in_default
loop-vrf-preserved-in_default c =
    let none : VrfId = record { 0 = 0 } in
    let vrf : VrfId = get_or c.as_slice-own.result.now c.loop-vrf.vrf-index none in
    let edge =
    found_vrf_edge c.loop-vrf.network vrf c.scenario-in-loop-vrf.result.now c.scenario-in-loop-vrf.ensures c.edge_of_vrf.result None
    c.edge_of_vrf.ensures c.in_default.is in
    entering_next c.args.site c.args.datagram.now c.as_slice-own.result.now c.loop-vrf.vrf-index none vrf
    _ c.loop-vrf.network c.loop-vrf.network
    c.args.lines.now c.loop-vrf.lines c.loop-vrf.lines c.loop-vrf-test.true refl c.loop-vrf.invariant
    (enters_nowhere c.args.site c.args.datagram.now vrf c.loop-vrf.network edge c.loop-vrf.lines)

pub send-requires : goal.send-requires
send-requires c =
    let inside = c.network.inside in
    let mid : NetworkView = record { scenario = inside.scenario; plane = inside.plane; datagrams = c.accept.new.self } in
    let enters : EntersAt c.args.site c.args.datagram.now c.as_slice-own.result.now mid c.loop-vrf.network c.args.lines.now c.loop-vrf.lines =
    entering_all c.args.site c.args.datagram.now c.as_slice-own.result.now c.loop-vrf.vrf-index mid c.loop-vrf.network c.args.lines.now
    c.loop-vrf.lines c.loop-vrf-test.false c.loop-vrf.invariant in
    record {
      sending = some_sending Any _ c.loop-vrf.network c.network-2.view_is
          (some_after c.args.site c.args.datagram.now c.args.network.now mid
          (accepts _ c.args.network.now c.network.view_is c.accept.new.self c.accept.ensures.accepted)
          c.as_slice-own.result.now c.loop-vrf.network c.args.lines.now c.loop-vrf.lines enters c.requires.network);
    }

pub returns : goal.returns
returns c =
    let inside = c.network.inside in
    let mid : NetworkView = record { scenario = inside.scenario; plane = inside.plane; datagrams = c.accept.new.self } in
    let enters : EntersAt c.args.site c.args.datagram.now c.as_slice-own.result.now mid c.loop-vrf.network c.args.lines.now c.loop-vrf.lines =
    entering_all c.args.site c.args.datagram.now c.as_slice-own.result.now c.loop-vrf.vrf-index mid c.loop-vrf.network c.args.lines.now
    c.loop-vrf.lines c.loop-vrf-test.false c.loop-vrf.invariant in
    on_ok_weaker c.send.result (λ goes.
    sent_all c.args.site c.args.datagram.now c.args.network.now mid
    (accepts _ c.args.network.now c.network.view_is c.accept.new.self c.accept.ensures.accepted) c.as_slice-own.result.now
    (c.as_slice-own.ensures ∙ (c.in_ok-vrfs.ensures ∙ ap (λ (s : Scenario). entered s c.args.site) c.scenario.ensures))
    c.loop-vrf.network _ c.args.lines.now c.loop-vrf.lines enters c.bytes.result.now c.bytes.ensures
    (sends _ c.loop-vrf.network c.network-2.view_is c.bytes.result.now c.clock-now.result c.send.new.self
    (λ standing plane. c.clock-now.ensures.own ∙ (ap (λ (n : NetworkView). n.plane.clock) (sym c.network-2.view_is) ∙ sym plane.around.clock)) goes))
    c.send.ensures.sent

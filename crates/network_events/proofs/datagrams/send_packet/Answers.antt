use Rattle.std.proofs.Common.{◌∙◌, Option, Result, ap, sym, subst}
use Rattle.scenario_defs.specs.declared.event.Event.TheVariants as events
use Rattle.scenario_defs.specs.declared.report.Refusal.{Refusal}
use Rattle.network_events.specs.Meeting.{Meets, met}
use Rattle.network_events.specs.declared.halt.Halt.{Halt}
use Rattle.network_events.proofs.DatagramLemmas.{octets_refused, octets_sent, sends_octets}
use Rattle.network_events.proofs.datagrams.send_packet.Goals as goal

pub returns-in-Ok : goal.returns-in-Ok
returns-in-Ok c =
    let event = events.Packet c.args.site c.args.octets.now in
    subst (λ (r : Result (Option Refusal) Halt). Meets event c.args.network.now c.sent.new.network c.args.lines.now c.sent.new.lines r)
    (sym (c.met.ensures ∙ ap met c.of_memory.ensures))
    (octets_sent c.args.site c.args.octets.now event (sends_octets c.args.site c.args.octets.now) c.args.network.now c.args.lines.now
    c.in-Ok.datagram c.in-Ok.ensures.fits c.sent.new.network c.sent.new.lines c.sent.result c.sent.ensures)

pub returns-in-Err : goal.returns-in-Err
returns-in-Err c =
    octets_refused c.args.site c.args.octets.now (events.Packet c.args.site c.args.octets.now) (sends_octets c.args.site c.args.octets.now)
    c.args.network.now c.args.lines.now c.in-Err.reason c.in-Err.ensures.refused

use Rattle.std.proofs.Common.{◌∙◌, Option, Result, ap, sym, subst}
use Rattle.scenario_defs.specs.declared.event.Event.TheVariants as events
use Rattle.scenario_defs.specs.declared.report.Refusal.{Refusal}
use Rattle.network_events.specs.Meeting.{Meets, met}
use Rattle.network_events.specs.declared.halt.Halt.{Halt}
use Rattle.network_events.proofs.DatagramLemmas.{octets_refused, octets_sent, sends_flow}
use Rattle.network_events.proofs.datagrams.send.Goals as goal

pub returns-in-Ok-fitting : goal.returns-in-Ok-fitting
returns-in-Ok-fitting c =
    let event = events.Send c.args.site c.args.source c.args.group c.args.payload.now in
    let octets = c.as_slice.result.now in
    let sends =
    sends_flow c.args.site octets c.args.source c.args.group c.args.payload.now c.requires.event.of_it.1 c.requires.event.of_it.2
    (c.as_slice.ensures ∙ c.in-Ok.ensures) in
    subst (λ (r : Result (Option Refusal) Halt). Meets event c.args.network.now c.sent.new.network c.args.lines.now c.sent.new.lines r)
    (sym (c.met.ensures ∙ ap met c.of_memory.ensures))
    (octets_sent c.args.site octets event sends c.args.network.now c.args.lines.now
    c.in-Ok-fitting.datagram c.in-Ok-fitting.ensures.fits c.sent.new.network c.sent.new.lines c.sent.result c.sent.ensures)

pub returns : goal.returns
returns c =
    let event = events.Send c.args.site c.args.source c.args.group c.args.payload.now in
    let octets = c.as_slice.result.now in
    let sends =
    sends_flow c.args.site octets c.args.source c.args.group c.args.payload.now c.requires.event.of_it.1 c.requires.event.of_it.2
    (c.as_slice.ensures ∙ c.in-Ok.ensures) in
    octets_refused c.args.site octets event sends c.args.network.now c.args.lines.now c.in-Err.reason c.in-Err.ensures.refused

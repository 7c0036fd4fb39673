use Rattle.std.proofs.Common.{◌∙◌, Option, Result, ap, sym, subst}
use Rattle.scenario_defs.specs.declared.event.Event.TheVariants as events
use Rattle.scenario_defs.specs.declared.report.Refusal.{Refusal}
use Rattle.network_acts.specs.Instant.{IsWorld}
use Rattle.network_events.specs.Meeting.{Meets, met}
use Rattle.network_events.specs.declared.halt.Halt.{Halt}
use Rattle.network_events.proofs.HopLemmas.{hop_meets, not_lacks, some_landing}
use Rattle.network_events.proofs.datagrams.hop.Goals as goal

pub hop-requires : goal.hop-requires
hop-requires c =
    record { network = some_landing c.args.network.now c.args.from c.args.to c.args.place c.args.lines.now c.requires.event c.requires.network }

pub returns : goal.returns
returns c =
    subst (λ (r : Result (Option Refusal) Halt). Meets (events.Hop c.args.from c.args.to c.args.place) c.args.network.now c.hop.new.self
    c.args.lines.now c.hop.new.lines r) (sym (c.met.ensures ∙ ap met c.of_memory.ensures))
    (hop_meets c.args.network.now c.args.from c.args.to c.args.place c.args.lines.now c.requires.event
    (not_lacks c.args.network.now c.args.from c.args.to c.args.place c.args.lines.now c.count_on.result
    (λ at is. c.count_on.ensures at.world (subst (IsWorld at) (sym c.network.view_is) is).datagrams)
    c.if-count_on-place.false) c.hop.new.self c.hop.new.lines c.hop.result c.hop.ensures)

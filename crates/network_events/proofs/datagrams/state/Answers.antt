use Rattle.std.proofs.Common.{◌∙◌, Option, Result, ap, sym, subst}
use Rattle.scenario_defs.specs.declared.event.Event.TheVariants as events
use Rattle.scenario_defs.specs.declared.report.Refusal.{Refusal}
use Rattle.network_events.specs.Meeting.{Meets, met}
use Rattle.network_events.specs.declared.halt.Halt.{Halt}
use Rattle.network_events.proofs.HopLemmas.{state_meets}
use Rattle.network_events.proofs.datagrams.state.Goals as goal

pub returns-in-Ok : goal.returns-in-Ok
returns-in-Ok c =
    subst (λ (r : Result (Option Refusal) Halt). Meets events.State c.args.network.now c.args.network.now c.args.lines.now c.tell.new.lines r)
    (sym (c.met.ensures ∙ ap met c.of_memory.ensures))
    (state_meets c.args.network.now c.args.network.now c.args.lines.now c.tell.new.lines c.tell.result c.tell.ensures)

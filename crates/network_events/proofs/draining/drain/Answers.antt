use Rattle.std.proofs.Common.{◌∙◌, Option, Result, ap, sym, subst}
use Rattle.scenario_defs.specs.declared.event.Event.TheVariants as events
use Rattle.scenario_defs.specs.declared.report.Refusal.{Refusal}
use Rattle.network_events.specs.Meeting.{Meets, met}
use Rattle.network_events.specs.declared.halt.Halt.{Halt}
use Rattle.network_events.proofs.HopLemmas.{drain_meets}
use Rattle.network_events.proofs.draining.drain.Goals as goal

pub returns : goal.returns
returns c =
    subst (λ (r : Result (Option Refusal) Halt). Meets events.Drain c.args.network.now c.rounds.new.network c.args.lines.now c.rounds.new.lines r)
    (sym (c.met.ensures ∙ ap met c.of_memory.ensures))
    (drain_meets c.args.network.now c.rounds.new.network c.args.lines.now c.rounds.new.lines c.rounds.result c.rounds.ensures)

use Rattle.std.proofs.Common.{refl, sym, subst, Option, Result}
use Rattle.scenario_defs.specs.declared.event.Event.TheVariants as events
use Rattle.scenario_defs.specs.declared.report.Refusal.{Refusal}
use Rattle.network_defs.specs.Events.{settled}
use Rattle.network_events.specs.Meeting.{IsReady, IsResting, Meets}
use Rattle.network_events.specs.declared.halt.Halt.{Halt}
use Rattle.network_events.proofs.EventLemmas.{meets_by}
use Rattle.network_events.proofs.NodeLemmas.{some_as}
use Rattle.network_events.proofs.settling.settle.Goals as goal

pub settle_nodes-requires : goal.settle_nodes-requires
settle_nodes-requires c = record { network = some_as IsReady IsResting c.args.network.now (λ at ready is. ready.resting) c.requires.network }

pub returns : goal.returns
returns c =
    subst (λ (r : Result (Option Refusal) Halt). Meets events.Settle c.args.network.now c.settle_nodes.new.network c.args.lines.now
    c.settle_nodes.new.lines r) (sym c.met.ensures)
    (meets_by IsResting events.Settle settled c.args.network.now c.settle_nodes.new.network c.args.lines.now c.settle_nodes.new.lines
    c.settle_nodes.result (λ at ready is. refl)
    (λ at ready is. (ready.resting, refl)) c.settle_nodes.ensures)

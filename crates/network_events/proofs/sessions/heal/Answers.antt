use Rattle.std.proofs.Common.{refl, sym, subst, Option, Result}
use Rattle.scenario_defs.specs.declared.event.Event.TheVariants as events
use Rattle.scenario_defs.specs.declared.report.Refusal.{Refusal}
use Rattle.mvpn_model.specs.Sessions.{sessions}
use Rattle.network_defs.specs.Events.{each, healed}
use Rattle.network_defs.specs.World.{scenario_of}
use Rattle.network_events.specs.Meeting.{IsReady, IsResting, Meets}
use Rattle.network_events.specs.declared.halt.Halt.{Halt}
use Rattle.network_events.proofs.EventLemmas.{meets_by}
use Rattle.network_events.proofs.NodeLemmas.{some_as}
use Rattle.network_events.proofs.sessions.heal.Goals as goal

pub heal_sessions-requires : goal.heal_sessions-requires
heal_sessions-requires c = record { network = some_as IsReady IsResting c.args.network.now (λ at ready is. ready.resting) c.requires.network }

pub returns : goal.returns
returns c =
    subst (λ (r : Result (Option Refusal) Halt). Meets events.Heal c.args.network.now c.heal_sessions.new.network c.args.lines.now
    c.heal_sessions.new.lines r) (sym c.met.ensures)
    (meets_by IsResting events.Heal (λ world. each healed (sessions (scenario_of world)) world) c.args.network.now c.heal_sessions.new.network
    c.args.lines.now c.heal_sessions.new.lines c.heal_sessions.result (λ at ready is. refl)
    (λ at ready is. (ready.resting, refl)) c.heal_sessions.ensures)

use Rattle.std.proofs.Common.{refl, subst, arith, List, [], take, Ok}
use Rattle.std.proofs.lemmas.List.{take_all}
use Rattle.mvpn_model.specs.declared.session.Session.{Session}
use Rattle.network_defs.specs.Events.{each, healed}
use Rattle.network_acts.specs.Words.{same_moment}
use Rattle.network_events.specs.Doing.{Does}
use Rattle.network_events.specs.Meeting.{IsResting}
use Rattle.network_events.proofs.FoundLemmas.{session_at}
use Rattle.network_events.proofs.KeptLemmas.{each_even, healed_even, same_scenario, still_some}
use Rattle.network_events.proofs.LoopLemmas.{turn_more, turn_stops}
use Rattle.network_events.proofs.RowLemmas.{does_nothing}
use Rattle.network_events.proofs.sessions.heal_all.Goals as goal

pub loop-session-init : goal.loop-session-init
loop-session-init c = does_nothing IsResting (each healed []) c.args.network.now c.args.lines.now (λ at resting is. refl)

pub heal_session-requires-clause-network : goal.heal_session-requires-clause-network
heal_session-requires-clause-network c =
    let first = take c.loop-session.session-index c.args.sessions.now in
    still_some (each healed first) (each_even healed healed_even first) c.args.network.now c.loop-session.network c.args.lines.now
    c.loop-session.lines c.loop-session.invariant c.requires.network

pub heal_session-requires-clause-way : goal.heal_session-requires-clause-way
heal_session-requires-clause-way c =
    let first = take c.loop-session.session-index c.args.sessions.now in
    session_at c.args.network.now c.loop-session.network c.args.sessions.now c.loop-session.session-index _
    (same_scenario (each healed first) (each_even healed healed_even first) c.args.network.now c.loop-session.network c.args.lines.now
    c.loop-session.lines c.loop-session.invariant c.requires.network)
    c.requires.sessions c.loop-session-test.true

pub loop-session-preserved : goal.loop-session-preserved
loop-session-preserved c =
    turn_more healed healed_even c.args.sessions.now c.loop-session.session-index _ c.loop-session-test.true c.args.network.now c.loop-session.network
    c.args.lines.now c.loop-session.lines c.loop-session.invariant
    c.heal_session.new.network c.heal_session.new.lines c.in_default.ensures

pub returns-in-Err : goal.returns-in-Err
returns-in-Err c =
    turn_stops healed healed_even c.args.sessions.now c.loop-session.session-index _ c.loop-session-test.true c.args.network.now
    c.loop-session.network c.args.lines.now c.loop-session.lines c.loop-session.invariant
    c.heal_session.new.network c.heal_session.new.lines c.in-Err.halt c.in-Err.ensures

pub returns : goal.returns
returns c =
    subst (λ (l : List Session). Does IsResting same_moment (each healed l) c.args.network.now c.loop-session.network c.args.lines.now
    c.loop-session.lines (Ok tt))
    (take_all c.loop-session.session-index c.args.sessions.now (omega (arith, c.loop-session-test.false))) c.loop-session.invariant

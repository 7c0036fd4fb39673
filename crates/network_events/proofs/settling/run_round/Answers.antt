use Rattle.std.proofs.Common.{refl, subst, arith, List, [], take, Ok}
use Rattle.std.proofs.lemmas.List.{take_all}
use Rattle.network_defs.specs.declared.session_defs.direction.Direction.{Direction}
use Rattle.network_defs.specs.Events.{each, turn}
use Rattle.network_acts.specs.Words.{same_moment}
use Rattle.network_events.specs.Doing.{Does}
use Rattle.network_events.specs.Meeting.{IsResting}
use Rattle.network_events.proofs.KeptLemmas.{each_even, same_scenario, still_some, turn_even}
use Rattle.network_events.proofs.LoopLemmas.{turn_more, turn_stops}
use Rattle.network_events.proofs.RowLemmas.{does_nothing}
use Rattle.network_events.proofs.SettleLemmas.{way_at}
use Rattle.network_events.proofs.settling.run_round.Goals as goal

pub loop-over-init : goal.loop-over-init
loop-over-init c = does_nothing IsResting (each turn []) c.args.network.now c.args.lines.now (λ at resting is. refl)

pub move_all-requires-clause-network : goal.move_all-requires-clause-network
move_all-requires-clause-network c =
    let first = take c.loop-over.over-index c.args.ways.now in
    still_some (each turn first) (each_even turn turn_even first) c.args.network.now c.loop-over.network c.args.lines.now c.loop-over.lines
    c.loop-over.invariant c.requires.network

pub move_all-requires-clause-way : goal.move_all-requires-clause-way
move_all-requires-clause-way c =
    let first = take c.loop-over.over-index c.args.ways.now in
    way_at c.args.network.now c.loop-over.network c.args.ways.now c.loop-over.over-index _
    (same_scenario (each turn first) (each_even turn turn_even first) c.args.network.now c.loop-over.network c.args.lines.now c.loop-over.lines
    c.loop-over.invariant c.requires.network)
    c.requires.ways c.loop-over-test.true

pub loop-over-preserved : goal.loop-over-preserved
loop-over-preserved c =
    turn_more turn turn_even c.args.ways.now c.loop-over.over-index _ c.loop-over-test.true c.args.network.now c.loop-over.network c.args.lines.now
    c.loop-over.lines c.loop-over.invariant
    c.move_all.new.network c.move_all.new.lines c.in_default.ensures

pub returns-in-Err : goal.returns-in-Err
returns-in-Err c =
    turn_stops turn turn_even c.args.ways.now c.loop-over.over-index _ c.loop-over-test.true c.args.network.now c.loop-over.network c.args.lines.now
    c.loop-over.lines c.loop-over.invariant
    c.move_all.new.network c.move_all.new.lines c.in-Err.halt c.in-Err.ensures

pub returns : goal.returns
returns c =
    subst (λ (l : List Direction). Does IsResting same_moment (each turn l) c.args.network.now c.loop-over.network c.args.lines.now c.loop-over.lines
    (Ok tt))
    (take_all c.loop-over.over-index c.args.ways.now (omega (arith, c.loop-over-test.false))) c.loop-over.invariant

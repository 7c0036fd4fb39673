use Rattle.std.proofs.Common.{◌∙◌, refl, sym, ap}
use Rattle.network_defs.specs.Counts.{directions}
use Rattle.network_defs.specs.Events.{each, times, turn}
use Rattle.network_events.specs.Meeting.{IsResting}
use Rattle.network_events.proofs.KeptLemmas.{each_even, same_scenario, still_some, times_even, turn_even}
use Rattle.network_events.proofs.LoopLemmas.{round_more, round_stops, rounds_end}
use Rattle.network_events.proofs.RowLemmas.{does_nothing}
use Rattle.network_events.proofs.SettleLemmas.{idle_round}
use Rattle.network_events.proofs.settling.run_rounds.Goals as goal

pub loop-round-init : goal.loop-round-init
loop-round-init c = does_nothing IsResting (times (each turn c.args.ways.now) 0) c.args.network.now c.args.lines.now (λ at resting is. refl)

pub returns-then-total-eq0 : goal.returns-then-total-eq0
returns-then-total-eq0 c =
    let round = each turn c.args.ways.now in
    let even = each_even turn turn_even c.args.ways.now in
    let done = c.loop-round.invariant in
    rounds_end round even c.loop-round._round c.args.network.now c.loop-round.network c.args.lines.now c.loop-round.lines done c.args.rounds
    c.loop-round-test.true
    (idle_round c.args.network.now c.loop-round.network c.args.ways.now
    (same_scenario (times round c.loop-round._round) (times_even round even c.loop-round._round) c.args.network.now c.loop-round.network
    c.args.lines.now c.loop-round.lines done c.requires.network)
    c.requires.ways (λ at is. sym (c.total.ensures at is) ∙ c.if-total-eq0.true))

pub run_round-requires-clause-network : goal.run_round-requires-clause-network
run_round-requires-clause-network c =
    let round = each turn c.args.ways.now in
    let even = each_even turn turn_even c.args.ways.now in
    still_some (times round c.loop-round._round) (times_even round even c.loop-round._round) c.args.network.now c.loop-round.network c.args.lines.now
    c.loop-round.lines c.loop-round.invariant c.requires.network

pub run_round-requires-clause-ways : goal.run_round-requires-clause-ways
run_round-requires-clause-ways c =
    let round = each turn c.args.ways.now in
    let even = each_even turn turn_even c.args.ways.now in
    c.requires.ways
    ∙ ap directions (sym (same_scenario (times round c.loop-round._round) (times_even round even c.loop-round._round) c.args.network.now
    c.loop-round.network c.args.lines.now c.loop-round.lines c.loop-round.invariant
    c.requires.network))

pub returns-in-Err : goal.returns-in-Err
returns-in-Err c =
    round_stops (each turn c.args.ways.now) (each_even turn turn_even c.args.ways.now) c.loop-round._round c.args.network.now c.loop-round.network
    c.args.lines.now c.loop-round.lines c.loop-round.invariant
    c.args.rounds c.loop-round-test.true c.run_round.new.network c.run_round.new.lines c.in-Err.halt c.in-Err.ensures

pub loop-round-preserved : goal.loop-round-preserved
loop-round-preserved c =
    round_more (each turn c.args.ways.now) (each_even turn turn_even c.args.ways.now) c.loop-round._round c.args.network.now c.loop-round.network
    c.args.lines.now c.loop-round.lines c.loop-round.invariant
    c.run_round.new.network c.run_round.new.lines c.in_default.ensures

use Rattle.std.proofs.Common.{◌≡◌, refl, sym, subst, arith, ◌<◌, [], map, length, Ok}
use Rattle.scenario_defs.specs.declared.scenario.Scenario.{Scenario}
use Rattle.network_defs.specs.Acts as acts
use Rattle.network_defs.specs.Counts.{node_ids}
use Rattle.network_defs.specs.Events.{row}
use Rattle.network_acts.specs.Words.{same_moment}
use Rattle.network_events.specs.Doing.{Does}
use Rattle.network_events.specs.Meeting.{IsResting}
use Rattle.network_events.proofs.KeptLemmas.{row_even, same_scenario, still_some}
use Rattle.network_events.proofs.LoopLemmas.{node_more, node_stops}
use Rattle.network_events.proofs.RowLemmas.{does_nothing}
use Rattle.network_events.proofs.settling.run_timers.Goals as goal

pub loop-number-init : goal.loop-number-init
loop-number-init c = does_nothing IsResting (row []) c.args.network.now c.args.lines.now (λ at resting is. refl)

pub timers_at-requires-clause-network : goal.timers_at-requires-clause-network
timers_at-requires-clause-network c =
    let acts_so_far = map (λ n. acts.Timers n) (node_ids 0 c.loop-number.number) in
    still_some (row acts_so_far) (row_even acts_so_far) c.args.network.now c.loop-number.network c.args.lines.now c.loop-number.lines
    c.loop-number.invariant c.requires.network

pub timers_at-requires-clause-within : goal.timers_at-requires-clause-within
timers_at-requires-clause-within c =
    let acts_so_far = map (λ n. acts.Timers n) (node_ids 0 c.loop-number.number) in
    subst (λ (s : Scenario). c.loop-number.number < length s.nodes)
    (sym (same_scenario (row acts_so_far) (row_even acts_so_far) c.args.network.now c.loop-number.network c.args.lines.now c.loop-number.lines
    c.loop-number.invariant c.requires.network))
    (subst (λ n. c.loop-number.number < n) c.requires.nodes c.loop-number-test.true)

pub loop-number-preserved : goal.loop-number-preserved
loop-number-preserved c =
    node_more (λ n. acts.Timers n) c.loop-number.number c.args.network.now c.loop-number.network c.args.lines.now c.loop-number.lines
    c.loop-number.invariant c.timers_at.new.network c.timers_at.new.lines
    c.in_default.ensures

pub returns-in-Err : goal.returns-in-Err
returns-in-Err c =
    node_stops (λ n. acts.Timers n) c.loop-number.number c.args.network.now c.loop-number.network c.args.lines.now c.loop-number.lines
    c.loop-number.invariant c.timers_at.new.network c.timers_at.new.lines
    c.args.nodes c.loop-number-test.true c.in-Err.halt c.in-Err.ensures

pub returns : goal.returns
returns c =
    let all : c.loop-number.number ≡ c.args.nodes = omega (arith, c.loop-number-test.false, c.loop-number.auto.number-end) in
    subst (λ n. Does IsResting same_moment (row (map (λ m. acts.Timers m) (node_ids 0 n))) c.args.network.now c.loop-number.network c.args.lines.now
    c.loop-number.lines (Ok tt)) all c.loop-number.invariant

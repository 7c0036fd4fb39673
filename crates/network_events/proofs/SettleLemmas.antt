-- A network settles: the timers of its nodes run, and then octets are moved in rounds.
use Rattle.std.proofs.Common.{◌≡◌, ◌∙◌, refl, sym, ap, subst, ℕ, ◌+◌, ◌<◌, List, [], ◌∷◌, length, map, get_or, Result, Ok, Err}
use Rattle.mv_base.specs.Lists.{Among}
use Rattle.mldp_node.specs.declared.fault.NodeFault.{NodeFault}
use Rattle.scenario_defs.specs.declared.report.ReportLine.{ReportLine}
use Rattle.scenario_defs.specs.declared.scenario.Scenario.{Scenario}
use Rattle.network_defs.specs.declared.session_defs.direction.Direction.{Direction}
use Rattle.network_defs.specs.Acts as acts
use Rattle.network_defs.specs.Counts.{directions, node_ids, octets_in_transit}
use Rattle.network_defs.specs.Events.{Outcome, Done, and_then, each, row, settled, times, turn}
use Rattle.network_defs.specs.World.{World, scenario_of}
use Rattle.network_acts.specs.wire_laws.Edges.{IsWay}
use Rattle.network_acts.specs.Acting.{ActsAs}
use Rattle.network_acts.specs.Instant.{Instant, IsSome, IsWorld, OfPlane, standing_of}
use Rattle.network_acts.specs.NetworkView.{NetworkView}
use Rattle.network_acts.specs.Words.{IsMovable, same_moment}
use Rattle.network_events.specs.Doing.{Does, answer_at}
use Rattle.network_events.specs.Meeting.{IsResting}
use Rattle.network_events.specs.declared.halt.Halt.{Halt}
use Rattle.network_events.proofs.DoLemmas.{act_does, first_halts, then_does}
use Rattle.network_events.proofs.KeptLemmas.{rests_on, row_even}
use Rattle.network_events.proofs.LoopLemmas.{among_place}
use Rattle.network_events.proofs.RowLemmas.{does_alike, does_as, does_nothing}
use Rattle.network_events.proofs.TurnLemmas.{moving_some, round_idle, turn_idle, turn_moves}

-- ---- the turn of a direction

module _ (over : Direction) (network : NetworkView) (count : ℕ)
    (counts : (at : Instant) → IsWorld at network → count ≡ length (at.world.network.transit over)) where
  pub turn_passes : count ≡ 0 → (lines : List ReportLine) → Does IsResting same_moment (turn over) network network lines lines (Ok tt)
  turn_passes none lines = does_nothing IsResting (turn over) network lines (λ at resting is. turn_idle over at.world (sym (counts at is) ∙ none))

  module _ (some : count ≡ 0 → ⊥) (way : IsWay network.scenario over) where
    movable : (at : Instant) → IsResting at → IsWorld at network → IsMovable over (standing_of at)
    movable at resting is =
        moving_some at network over resting is (subst (λ (s : Scenario). IsWay s over) is.scenario way) (λ none. some (counts at is ∙ none))

    pub some_movable : IsSome IsResting network → IsSome (OfPlane (IsMovable over)) network
    some_movable (at, resting, is) = (at, movable at resting is, is)

    pub turn_does : (new : NetworkView) (lines new_lines : List ReportLine) (answer : Result (Unit {0}) NodeFault)
        → ActsAs (OfPlane (IsMovable over)) same_moment (acts.Move over.kind over.from over.to count) over.to network new lines new_lines answer
        → Does IsResting same_moment (turn over) network new lines new_lines (answer_at over.to answer)
    turn_does new lines new_lines answer one =
        does_as (OfPlane (IsMovable over)) IsResting same_moment same_moment (row (acts.Move over.kind over.from over.to count ∷ [])) (turn over)
        network new lines new_lines (answer_at over.to answer)
        (λ at resting is. (movable at resting is, turn_moves over at.world count (counts at is) some, refl))
        (act_does (OfPlane (IsMovable over)) same_moment (acts.Move over.kind over.from over.to count) over.to network new lines new_lines answer one)

-- ---- the directions of a round

pub way_at : (old mid : NetworkView) (ways : List Direction) (place : ℕ) (d : Direction) → mid.scenario ≡ old.scenario
    → ways ≡ directions old.scenario → place < length ways → IsWay mid.scenario (get_or ways place d)
way_at old mid ways place d same are below =
    subst (λ (s : Scenario). IsWay s (get_or ways place d)) (sym same)
    (subst (λ (l : List Direction). Among (get_or ways place d) l) are (among_place ways place (get_or ways place d) d below refl))

-- ---- a round in which nothing is in transit

pub idle_round : (old mid : NetworkView) (ways : List Direction) → mid.scenario ≡ old.scenario → ways ≡ directions old.scenario
    → ((at : Instant) → IsWorld at mid → octets_in_transit at.world ≡ 0)
    → (at : Instant) → IsWorld at mid → each turn ways at.world ≡ Done [] at.world
idle_round old mid ways same are none at is = round_idle at.world mid.scenario ways (sym is.scenario) (are ∙ ap directions (sym same)) (none at is)

-- ---- all of it

module _ (network : NetworkView) (nodes : ℕ) (ways : List Direction) (nodes_are : nodes ≡ length network.scenario.nodes)
    (ways_are : ways ≡ directions network.scenario) where
  abbrev timer_row : World → Outcome
  timer_row = row (map (λ n. acts.Timers n) (node_ids 0 nodes))

  abbrev rounds : World → Outcome
  rounds = times (each turn ways) (nodes + 3)

  settles : (at : Instant) → IsWorld at network → and_then (timer_row at.world) rounds ≡ settled at.world
  settles at is =
      let count : nodes ≡ length (scenario_of at.world).nodes = nodes_are ∙ ap (λ (s : Scenario). length s.nodes) is.scenario in
      let all : ways ≡ directions (scenario_of at.world) = ways_are ∙ ap directions is.scenario in
      (λ i. and_then (row (map (λ n. acts.Timers n) (node_ids 0 (count i))) at.world) (times (each turn (all i)) (count i + 3)))

  module _ (mid : NetworkView) (lines mid_lines : List ReportLine) where
    pub timers_stop : (halt : Halt) → Does IsResting same_moment timer_row network mid lines mid_lines (Err halt)
        → Does IsResting same_moment settled network mid lines mid_lines (Err halt)
    timers_stop halt one =
        does_alike IsResting (λ world. and_then (timer_row world) rounds) settled network mid lines mid_lines (Err halt)
        (λ at resting is. settles at is)
        (first_halts IsResting IsResting same_moment same_moment timer_row rounds network mid mid lines mid_lines mid_lines halt one)

    pub rounds_follow : Does IsResting same_moment timer_row network mid lines mid_lines (Ok tt)
        → (new : NetworkView) (new_lines : List ReportLine) (result : Result (Unit {0}) Halt)
        → Does IsResting same_moment rounds mid new mid_lines new_lines result → Does IsResting same_moment settled network new lines new_lines result
    rounds_follow one new new_lines result two =
        does_alike IsResting (λ world. and_then (timer_row world) rounds) settled network new lines new_lines result (λ at resting is. settles at is)
        (then_does IsResting IsResting same_moment same_moment timer_row rounds network mid new lines mid_lines new_lines one
        (rests_on timer_row (row_even (map (λ n. acts.Timers n) (node_ids 0 nodes))) network mid lines mid_lines rounds new new_lines) result two)

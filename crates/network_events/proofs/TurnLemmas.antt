-- Turns of directions: all octets in transit are moved, in rounds.
use Rattle.std.proofs.Common.{◌≡◌, ◌∙◌, refl, sym, ap, subst, arith, ℕ, ◌+◌, Bool, true, false, List, [], ◌∷◌, length, sum_by}
use Rattle.std.proofs.lemmas.List.Sums.{sum_by-cons}
use Rattle.scenario_defs.specs.declared.event.Kind.{Kind}
use Rattle.scenario_defs.specs.declared.scenario.Scenario.{Scenario}
use Rattle.network_defs.specs.session_defs.Message.{SessionMessage}
use Rattle.network_defs.specs.session_defs.Octets.{Stream}
use Rattle.network_defs.specs.session_defs.Refined.{IsLine}
use Rattle.network_defs.specs.declared.session_defs.direction.Direction.{Direction}
use Rattle.network_defs.specs.Acts as acts
use Rattle.network_defs.specs.Counts.{directions, octets_in_transit}
use Rattle.network_defs.specs.Events.{Outcome, Done, and_then, each, row, turn}
use Rattle.network_defs.specs.World.{World, scenario_of}
use Rattle.network_acts.specs.wire_laws.Edges.{IsWay}
use Rattle.network_acts.specs.Instant.{Instant, IsWorld, standing_of}
use Rattle.network_acts.specs.NetworkView.{NetworkView}
use Rattle.network_acts.specs.Words.{IsMovable, Moment}
use Rattle.network_events.specs.Meeting.{IsResting}
use Rattle.network_events.proofs.EndLemmas.{ends_within, rests_at, rules_of}
use Rattle.network_events.proofs.RowLemmas.{none_first}

-- ---- one direction

pub turn_idle : (over : Direction) (world : World) → length (world.network.transit over) ≡ 0 → turn over world ≡ Done [] world
turn_idle over world none = by (world.network.transit over) none
  where
    by : (transit : List ℕ) → length transit ≡ 0
        → elim transit [ [] ↦ Done [] world | octet ∷ more ↦ row (acts.Move over.kind over.from over.to (length (octet ∷ more)) ∷ []) world ]
        ≡ Done [] world
    by [] e = refl
    by (octet ∷ more) e = absurd (omega (arith, e))

pub turn_moves : (over : Direction) (world : World) (count : ℕ) → count ≡ length (world.network.transit over) → (count ≡ 0 → ⊥)
    → row (acts.Move over.kind over.from over.to count ∷ []) world ≡ turn over world
turn_moves over world count is some = by (world.network.transit over) is
  where
    by : (transit : List ℕ) → count ≡ length transit
        → row (acts.Move over.kind over.from over.to count ∷ []) world
        ≡ elim transit [ [] ↦ Done [] world | octet ∷ more ↦ row (acts.Move over.kind over.from over.to (length (octet ∷ more)) ∷ []) world ]
    by [] e = absurd (some e)
    by (octet ∷ more) e = ap (λ n. row (acts.Move over.kind over.from over.to n ∷ []) world) e

-- octets are in transit over joined sessions alone
line_joined : (kind : Kind) (joined : Bool) (stream : Stream) (transit : List ℕ) (pending : List SessionMessage)
    → IsLine kind joined stream transit pending → (length transit ≡ 0 → ⊥) → joined ≡ true
line_joined kind true stream transit pending line some = refl
line_joined kind false stream transit pending line some = absurd (some (ap (λ (l : List ℕ). length l) line.0))

pub moving : (at : Instant) (network : NetworkView) (over : Direction) → IsResting at → IsWorld at network → IsWay (scenario_of at.world) over
    → at.world.network.joined over ≡ true → IsMovable over (standing_of at)
moving at network over resting is way joined = record {
  within = (ends_within (scenario_of at.world) (rules_of at network is) over.kind over.from over.to way).1;
  current = rests_at at resting over.to;
  joined = joined;
  up = ap (λ (m : Moment). m.rising over) resting.rest;
}

pub moving_some : (at : Instant) (network : NetworkView) (over : Direction) → IsResting at → IsWorld at network → IsWay (scenario_of at.world) over
    → (length (at.world.network.transit over) ≡ 0 → ⊥)
    → IsMovable over (standing_of at)
moving_some at network over resting is way some =
    moving at network over resting is way
    (line_joined over.kind (at.world.network.joined over) (at.world.network.stream over) (at.world.network.transit over)
    (is.plane.around.steady.pending over) (is.plane.around.steady.lines over) some)

-- ---- a round

idle_turns : (world : World) (ways : List Direction) → sum_by (λ over. length (world.network.transit over)) ways ≡ 0
    → each turn ways world ≡ Done [] world
idle_turns world [] none = refl
idle_turns world (over ∷ more) none =
    let both : length (world.network.transit over) + sum_by (λ other. length (world.network.transit other)) more ≡ 0 =
    sym (sum_by-cons (λ (other : Direction). length (world.network.transit other)) over more) ∙ none in
    let first : length (world.network.transit over) ≡ 0 = omega (arith, both) in
    let rest : sum_by (λ other. length (world.network.transit other)) more ≡ 0 = omega (arith, both) in
    ap (λ (o : Outcome). and_then o (each turn more)) (turn_idle over world first) ∙ (none_first world (each turn more) ∙ idle_turns world more rest)

-- a round in which nothing is in transit
pub round_idle : (world : World) (scenario : Scenario) (ways : List Direction) → scenario_of world ≡ scenario → ways ≡ directions scenario
    → octets_in_transit world ≡ 0 → each turn ways world ≡ Done [] world
round_idle world scenario ways own are none =
    idle_turns world ways (subst (λ (l : List Direction). sum_by (λ over. length (world.network.transit over)) l ≡ 0)
    (sym (are ∙ ap directions (sym own))) none)

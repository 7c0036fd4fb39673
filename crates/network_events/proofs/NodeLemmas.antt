-- Networks in which nothing is under way, and the acts of their nodes.
use Rattle.std.proofs.Common.{◌≡◌, ◌∙◌, refl, subst, ◌<◌, false, List, [], ◌∷◌, length, Result}
use Rattle.mv_base.specs.declared.ids.NodeId.{NodeId}
use Rattle.scenario_defs.specs.Rules.{HaveSession}
use Rattle.scenario_defs.specs.declared.event.Kind.{Kind}
use Rattle.scenario_defs.specs.declared.report.ReportLine.{ReportLine}
use Rattle.scenario_defs.specs.declared.scenario.Scenario.{Scenario}
use Rattle.mldp_node.specs.declared.fault.NodeFault.{NodeFault}
use Rattle.network_defs.specs.Acts as acts
use Rattle.network_defs.specs.Counts.{direction}
use Rattle.network_defs.specs.Events.{row}
use Rattle.network_defs.specs.World.{scenario_of}
use Rattle.network_acts.specs.wire_laws.Edges.{IsWay}
use Rattle.network_acts.proofs.wire_laws.WayLemmas.{has_way}
use Rattle.network_acts.specs.Acting.{ActsAs}
use Rattle.network_acts.specs.Instant.{Instant, IsSome, IsWorld, OfPlane, standing_of}
use Rattle.network_acts.specs.NetworkView.{NetworkView}
use Rattle.network_acts.specs.Words.{IsCurrent, IsLost, same_moment}
use Rattle.network_events.specs.Doing.{Does, answer_at}
use Rattle.network_events.specs.Meeting.{IsResting}
use Rattle.network_events.proofs.DoLemmas.{act_does}
use Rattle.network_events.proofs.EndLemmas.{ends_within, rests_at, rules_of}
use Rattle.network_events.proofs.RowLemmas.{does_as}

-- a network that is some world of one kind is one of another kind
pub some_as : (F G : Instant → Type 0) (network : NetworkView) → ((at : Instant) → F at → IsWorld at network → G at) → IsSome F network
    → IsSome G network
some_as F G network h (at, fits, is) = (at, h at fits is, is)

-- a node of a network in which nothing is under way
pub current_in : (n : NodeId) (network : NetworkView) → n.0 < length network.scenario.nodes → (at : Instant) → IsResting at → IsWorld at network
    → IsCurrent n (standing_of at)
current_in n network within at resting is =
    record { within = subst (λ (s : Scenario). n.0 < length s.nodes) is.scenario within; current = rests_at at resting n }

pub timers_do : (n : NodeId) (old new : NetworkView) (lines new_lines : List ReportLine) (answer : Result (Unit {0}) NodeFault)
    → n.0 < length old.scenario.nodes
    → ActsAs (OfPlane (IsCurrent n)) same_moment (acts.Timers n) n old new lines new_lines answer
    → Does IsResting same_moment (row (acts.Timers n ∷ [])) old new lines new_lines (answer_at n answer)
timers_do n old new lines new_lines answer within one =
    does_as (OfPlane (IsCurrent n)) IsResting same_moment same_moment (row (acts.Timers n ∷ [])) (row (acts.Timers n ∷ [])) old new lines new_lines
    (answer_at n answer)
    (λ at resting is. (current_in n old within at resting is, refl, refl))
    (act_does (OfPlane (IsCurrent n)) same_moment (acts.Timers n) n old new lines new_lines answer one)

-- ---- the session of an event

module _ (kind : Kind) (a b : NodeId) (network : NetworkView) (has : HaveSession network.scenario kind a b) where
  pub way_in : (at : Instant) → IsWorld at network → IsWay (scenario_of at.world) (direction kind a b)
  way_in at is = has_way (scenario_of at.world) kind a b (subst (λ (s : Scenario). HaveSession s kind a b) is.scenario has)

  pub first_within : (at : Instant) → IsWorld at network → a.0 < length (scenario_of at.world).nodes
  first_within at is = (ends_within (scenario_of at.world) (rules_of at network is) kind a b (way_in at is)).0

  pub second_within : (at : Instant) → IsWorld at network → b.0 < length (scenario_of at.world).nodes
  second_within at is = (ends_within (scenario_of at.world) (rules_of at network is) kind a b (way_in at is)).1

  pub lost_in : (at : Instant) → IsResting at → IsWorld at network → at.world.network.joined (direction kind a b) ≡ false
      → IsLost kind a b (standing_of at)
  lost_in at resting is apart = record {
    within = first_within at is;
    current = rests_at at resting a;
    apart = resting.alike kind b a ∙ apart;
    way = way_in at is;
  }

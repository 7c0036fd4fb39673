-- The session that an event finds, and the sessions that are healed.
use Rattle.std.proofs.Common.{◌≡◌, ◌∙◌, refl, sym, ap, subst, ℕ, ◌<◌, get_or, Bool, true, false, cond, List, [], ◌++◌, length, find, Option, Some, None, Result, Ok}
use Rattle.mv_base.specs.Lists.{Among}
use Rattle.mv_base.specs.declared.ids.NodeId.{NodeId}
use Rattle.scenario_defs.specs.declared.event.Kind.{Kind}
use Rattle.scenario_defs.specs.declared.report.ReportLine.{ReportLine}
use Rattle.scenario_defs.specs.declared.scenario.Scenario.{Scenario}
use Rattle.mvpn_model.specs.Sessions.{sessions}
use Rattle.mvpn_model.specs.declared.session.Session.{Session}
use Rattle.network_defs.specs.Counts.{direction, is_up}
use Rattle.network_defs.specs.Events.{Outcome, Done, healed, is_session_of, notices, raise_acts, raises, row}
use Rattle.network_defs.specs.World.{World, scenario_of}
use Rattle.network_acts.specs.wire_laws.Edges.{IsWay}
use Rattle.network_acts.proofs.wire_laws.SessionPairs.{session_has}
use Rattle.network_acts.proofs.wire_laws.WayLemmas.{has_way}
use Rattle.network_acts.specs.Instant.{Instant, IsSome, IsWorld}
use Rattle.network_acts.specs.NetworkView.{NetworkView}
use Rattle.network_acts.specs.Words.{same_moment}
use Rattle.network_events.specs.Doing.{Does}
use Rattle.network_events.specs.Meeting.{IsResting}
use Rattle.network_events.specs.Parts.{IsRaisable}
use Rattle.network_events.specs.declared.halt.Halt.{Halt}
use Rattle.network_events.proofs.EndLemmas.{ends_within, found_raisable, rules_of}
use Rattle.network_events.proofs.HealLemmas.{IsParted}
use Rattle.network_events.proofs.LoopLemmas.{among_place}
use Rattle.network_events.proofs.RowLemmas.{does_as, does_nothing}

-- ---- the session of two nodes

module _ (kind : Kind) (a b : NodeId) (network : NetworkView) (all : List Session) (are : all ≡ sessions network.scenario) where
  abbrev found_acts : World → Outcome
  found_acts world = row (raises (sessions (scenario_of world)) kind a b) world

  found_in : (found : Option Session) → find (is_session_of kind a b) all ≡ found → (at : Instant) → IsWorld at network
      → find (is_session_of kind a b) (sessions (scenario_of at.world)) ≡ found
  found_in found e at is = ap (λ (l : List Session). find (is_session_of kind a b) l) (ap sessions (sym is.scenario) ∙ sym are) ∙ e

  acts_as : (found : Option Session) → find (is_session_of kind a b) all ≡ found → (at : Instant) → IsWorld at network
      → found_acts at.world ≡ row (elim found [ None ↦ [] | Some session ↦ raise_acts session ]) at.world
  acts_as found e at is =
      ap (λ (o : Option Session). row (elim o [ None ↦ [] | Some session ↦ raise_acts session ]) at.world) (found_in found e at is)

  pub none_raised : find (is_session_of kind a b) all ≡ None → (lines : List ReportLine)
      → Does (IsRaisable kind a b) same_moment found_acts network network lines lines (Ok tt)
  none_raised e lines = does_nothing (IsRaisable kind a b) found_acts network lines (λ at raisable is. acts_as None e at is)

  module _ (session : Session) (e : find (is_session_of kind a b) all ≡ Some session) where
    pub some_found : IsSome (IsRaisable kind a b) network → IsSome (IsRaisable session.kind session.a session.b) network
    some_found (at, raisable, is) = (at, found_raisable at kind a b raisable session (found_in (Some session) e at is), is)

    pub one_raised : (new : NetworkView) (lines new_lines : List ReportLine) (result : Result (Unit {0}) Halt)
        → Does (IsRaisable session.kind session.a session.b) same_moment (row (raise_acts session)) network new lines new_lines result
        → Does (IsRaisable kind a b) same_moment found_acts network new lines new_lines result
    one_raised new lines new_lines result raised =
        does_as (IsRaisable session.kind session.a session.b) (IsRaisable kind a b) same_moment same_moment (row (raise_acts session)) found_acts
        network new lines new_lines result
        (λ at raisable is. (
          found_raisable at kind a b raisable session (found_in (Some session) e at is),
          sym (acts_as (Some session) e at is),
          refl,
        )) raised

-- ---- a session that is healed

module _ (session : Session) (network : NetworkView) where
  -- one that is joined is left as it is
  pub healed_joined : ((at : Instant) → IsWorld at network → at.world.network.joined (direction session.kind session.a session.b) ≡ true)
      → (lines : List ReportLine)
      → Does IsResting same_moment (healed session) network network lines lines (Ok tt)
  healed_joined joined lines =
      does_nothing IsResting (healed session) network lines
      (λ at resting is.
      ap (λ (t : Bool). cond t (Done [] at.world) (row
      (notices at.world session session.a session.b ++ (notices at.world session session.b session.a ++ raise_acts session)) at.world))
      (joined at is))

  module _ (way : IsWay network.scenario (direction session.kind session.a session.b)) (at : Instant) (is : IsWorld at network) where
    ends_in : (session.a.0 < length (scenario_of at.world).nodes) × (session.b.0 < length (scenario_of at.world).nodes) × (session.a ≡ session.b → ⊥)
    ends_in =
        ends_within (scenario_of at.world) (rules_of at network is) session.kind session.a session.b
        (subst (λ (s : Scenario). IsWay s (direction session.kind session.a session.b)) is.scenario way)

    pub first_in : session.a.0 < length (scenario_of at.world).nodes
    first_in = ends_in.0

    pub second_in : session.b.0 < length (scenario_of at.world).nodes
    second_in = ends_in.1

  pub parted_in : (first second : Bool) → IsWay network.scenario (direction session.kind session.a session.b)
      → ((at : Instant) → IsWorld at network → at.world.network.joined (direction session.kind session.a session.b) ≡ false)
      → ((at : Instant) → IsWorld at network → first ≡ is_up at.world session.kind session.a session.b)
      → ((at : Instant) → IsWorld at network → second ≡ is_up at.world session.kind session.b session.a)
      → (at : Instant) → IsResting at → IsWorld at network → IsParted session first second at
  parted_in first second way apart near far at resting is = record {
    resting = resting;
    way = subst (λ (s : Scenario). IsWay s (direction session.kind session.a session.b)) is.scenario way;
    apart = apart at is;
    first_is = sym (near at is);
    second_is = sym (far at is);
  }

-- the session at a place is one of the scenario
pub session_at : (old mid : NetworkView) (all : List Session) (place : ℕ) (d : Session) → mid.scenario ≡ old.scenario → all ≡ sessions old.scenario
    → place < length all
    → IsWay mid.scenario (direction (get_or all place d).kind (get_or all place d).a (get_or all place d).b)
session_at old mid all place d same are below =
    let s : Session = get_or all place d in
    subst (λ (own : Scenario). IsWay own (direction s.kind s.a s.b)) (sym same)
    (has_way old.scenario s.kind s.a s.b (session_has old.scenario s
    (subst (λ (l : List Session). Among s l) are (among_place all place s d below refl))))

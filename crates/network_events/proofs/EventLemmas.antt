-- Events of sessions: why they are refused, and when they are not.
use Rattle.std.proofs.Common.{◌≡◌, refl, ap, ℕ, ◌==◌, ◌||◌, not, Bool, true, false, List, length, Some, None, Result}
use Rattle.std.proofs.lemmas.Bool.{ne_eqb, or_from, or_left, or_right}
use Rattle.mv_base.specs.declared.ids.NodeId.{NodeId}
use Rattle.scenario_defs.specs.declared.event.Event.{Event}
use Rattle.scenario_defs.specs.declared.event.Event.TheVariants as events
use Rattle.scenario_defs.specs.declared.event.Kind.{Kind}
use Rattle.scenario_defs.specs.declared.report.Refusal.TheVariants as refusals
use Rattle.scenario_defs.specs.declared.report.ReportLine.{ReportLine}
use Rattle.network_defs.specs.Counts.{direction, is_up}
use Rattle.network_defs.specs.Events.{Outcome, done}
use Rattle.network_defs.specs.Refusals.{refusal, refused_if}
use Rattle.network_defs.specs.World.{World}
use Rattle.network_acts.specs.Instant.{Instant, IsWorld}
use Rattle.network_acts.specs.NetworkView.{NetworkView}
use Rattle.network_acts.specs.Words.{same_moment}
use Rattle.network_events.specs.Doing.{Does}
use Rattle.network_events.specs.Meeting.{IsReady, Meets, met}
use Rattle.network_events.specs.declared.halt.Halt.{Halt}
use Rattle.network_events.proofs.MeetLemmas.{meets_done}
use Rattle.network_events.proofs.RowLemmas.{does_as}

-- ---- refusals

module _ (world : World) (kind : Kind) (a b : NodeId) where
  abbrev joined : Bool
  joined = world.network.joined (direction kind a b)

  abbrev waiting : ℕ
  waiting = length (world.network.transit (direction kind a b))

  pub move_empty : (count : ℕ) → waiting ≡ 0 → refusal world (events.Move kind a b count) ≡ Some refusals.Empty
  move_empty count none = λ i. refused_if ((none i == 0) || not joined) refusals.Empty

  pub move_apart : (count : ℕ) → joined ≡ false → refusal world (events.Move kind a b count) ≡ Some refusals.Empty
  move_apart count apart = ap (λ (t : Bool). refused_if t refusals.Empty) (or_right (waiting == 0) (not joined) (ap not apart))

  pub move_taken : (count : ℕ) → (waiting ≡ 0 → ⊥) → joined ≡ true → refusal world (events.Move kind a b count) ≡ None
  move_taken count some whole =
      ap (λ (t : Bool). refused_if t refusals.Empty) (or_from (waiting == 0) (not joined) (ne_eqb waiting 0 some) (ap not whole))

  pub lose_apart : joined ≡ false → refusal world (events.Lose kind a b) ≡ Some refusals.State
  lose_apart apart = ap (λ (t : Bool). refused_if (not t) refusals.State) apart

  pub lose_taken : joined ≡ true → refusal world (events.Lose kind a b) ≡ None
  lose_taken whole = ap (λ (t : Bool). refused_if (not t) refusals.State) whole

  pub notice_joined : joined ≡ true → refusal world (events.Notice kind a b) ≡ Some refusals.State
  notice_joined whole = ap (λ (t : Bool). refused_if t refusals.State) (or_left joined (not (is_up world kind a b)) whole)

  pub notice_down : is_up world kind a b ≡ false → refusal world (events.Notice kind a b) ≡ Some refusals.State
  notice_down down = ap (λ (t : Bool). refused_if t refusals.State) (or_right joined (not (is_up world kind a b)) (ap not down))

  pub notice_taken : joined ≡ false → is_up world kind a b ≡ true → refusal world (events.Notice kind a b) ≡ None
  notice_taken apart up = ap (λ (t : Bool). refused_if t refusals.State) (or_from joined (not (is_up world kind a b)) apart (ap not up))

  pub raise_first_up : is_up world kind a b ≡ true → refusal world (events.Raise kind a b) ≡ Some refusals.State
  raise_first_up up = ap (λ (t : Bool). refused_if t refusals.State) (or_left (is_up world kind a b) (is_up world kind b a) up)

  pub raise_second_up : is_up world kind b a ≡ true → refusal world (events.Raise kind a b) ≡ Some refusals.State
  raise_second_up up = ap (λ (t : Bool). refused_if t refusals.State) (or_right (is_up world kind a b) (is_up world kind b a) up)

  pub raise_taken : is_up world kind a b ≡ false → is_up world kind b a ≡ false → refusal world (events.Raise kind a b) ≡ None
  raise_taken first second = ap (λ (t : Bool). refused_if t refusals.State) (or_from (is_up world kind a b) (is_up world kind b a) first second)

-- ---- what is done

-- an event that is not refused does what is done to each network in which nothing is under way
pub meets_by : (F : Instant → Type 0) (event : Event) (change : World → Outcome) (old new : NetworkView) (lines new_lines : List ReportLine)
    (answer : Result (Unit {0}) Halt)
    → ((at : Instant) → IsReady at → IsWorld at old → refusal at.world event ≡ None)
    → ((at : Instant) → IsReady at → IsWorld at old → F at × (change at.world ≡ done at.world event))
    → Does F same_moment change old new lines new_lines answer → Meets event old new lines new_lines (met answer)
meets_by F event change old new lines new_lines answer free same does =
    meets_done event old lines new new_lines answer free
    (does_as F IsReady same_moment same_moment change (λ world. done world event) old new lines new_lines answer
    (λ at ready is. let own = same at ready is in (own.0, own.1, refl)) does)

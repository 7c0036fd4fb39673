-- What comes of an event: it is refused, or its acts are done.
use Rattle.std.proofs.Common.{◌≡◌, ◌∙◌, refl, ap, Bool, true, false, List, Option, Some, None, Result, Ok, Err}
use Rattle.scenario_defs.specs.declared.event.Event.{Event}
use Rattle.scenario_defs.specs.declared.report.Refusal.{Refusal}
use Rattle.scenario_defs.specs.declared.report.ReportLine.{ReportLine}
use Rattle.network_defs.specs.Events.{done}
use Rattle.network_defs.specs.Refusals.{refusal}
use Rattle.network_acts.specs.Instant.{Instant, IsWorld}
use Rattle.network_acts.specs.NetworkView.{NetworkView}
use Rattle.network_acts.specs.Words.{same_moment}
use Rattle.network_events.specs.Doing.{Does}
use Rattle.network_events.specs.Meeting.{IsReady, Meets, met}
use Rattle.network_events.specs.declared.halt.Halt.{Halt}
use Rattle.network_events.specs.declared.halt.Halt.TheVariants as halts

abbrev Answer : Type 0
Answer = Result (Option Refusal) Halt

abbrev reason_or : Refusal → Answer → Refusal
reason_or other (Ok (Some reason)) = reason
reason_or other r = other

abbrev is_some_reason : Answer → Bool
is_some_reason (Ok (Some reason)) = true
is_some_reason r = false

abbrev is_met : Answer → Bool
is_met (Ok None) = true
is_met r = false

abbrev is_halted : Answer → Bool
is_halted (Err halt) = true
is_halted r = false

abbrev lacks_memory : Answer → Bool
lacks_memory (Err halts.NoMemory) = true
lacks_memory r = false

not_both : true ≡ false → ⊥
not_both t = cc

module _ (event : Event) (old : NetworkView) (lines : List ReportLine) where
  -- It is refused for that reason, and nothing changes.
  pub meets_refused : (reason : Refusal) → ((at : Instant) → IsReady at → IsWorld at old → refusal at.world event ≡ Some reason)
      → Meets event old old lines lines (Ok (Some reason))
  meets_refused reason why = record {
    refused = λ other e. ((λ at ready is. why at ready is ∙ ap (λ (r : Refusal). Some r) (ap (reason_or reason) e)), refl, refl);
    made = λ e. absurd (not_both (ap is_some_reason e));
    lacks = λ n e. absurd (not_both (ap is_some_reason e));
  }

  -- It is not refused, and its acts are done.
  pub meets_done : (new : NetworkView) (new_lines : List ReportLine) (answer : Result (Unit {0}) Halt)
      → ((at : Instant) → IsReady at → IsWorld at old → refusal at.world event ≡ None)
      → Does IsReady same_moment (λ world. done world event) old new lines new_lines answer → Meets event old new lines new_lines (met answer)
  meets_done new new_lines (Ok made) why does = record {
    refused = λ reason e. absurd (not_both (ap is_met e));
    made = λ e at ready is. (why at ready is, does.done at ready is);
    lacks = λ n e. absurd (not_both (ap is_met e));
  }
  meets_done new new_lines (Err halt) why does = record {
    refused = λ reason e. absurd (not_both (ap is_halted e));
    made = λ e. absurd (not_both (ap is_halted e));
    lacks = λ n e at ready is. (why at ready is, does.lacks n (ap told e) at ready is);
  }
    where
      told : Answer → Result (Unit {0}) Halt
      told (Ok r) = Ok tt
      told (Err h) = Err h

  -- Memory is wanted.
  pub meets_memory : (new : NetworkView) (new_lines : List ReportLine) → Meets event old new lines new_lines (Err halts.NoMemory)
  meets_memory new new_lines = record {
    refused = λ reason e. absurd (not_both (ap is_halted e));
    made = λ e. absurd (not_both (ap is_halted e));
    lacks = λ n e. absurd (not_both (ap lacks_memory e));
  }

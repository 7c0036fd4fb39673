-- Events that are one act of a node: refused, made, or lacking a label.
use Rattle.std.proofs.Common.{◌≡◌, ◌∙◌, refl, sym, ap, subst, Bool, List, [], ◌∷◌, Some, None, Result, Ok, Err}
use Rattle.mv_base.specs.declared.ids.NodeId.{NodeId}
use Rattle.scenario_defs.specs.declared.event.Event.{Event}
use Rattle.scenario_defs.specs.declared.report.Refusal.TheVariants as refusals
use Rattle.scenario_defs.specs.declared.report.ReportLine.{ReportLine}
use Rattle.edge_defs.specs.Steps.{Call}
use Rattle.mldp_node.specs.declared.fault.NodeFault.{NodeFault}
use Rattle.mldp_node.specs.declared.fault.NodeFault.TheVariants as faults
use Rattle.network_defs.specs.Acts.{Act, At}
use Rattle.network_defs.specs.Events.{done, row}
use Rattle.network_defs.specs.Refusals.{refusal, refused_if}
use Rattle.network_acts.specs.Acting.{ActsAs}
use Rattle.network_acts.specs.Customers.{CustomerActsAs}
use Rattle.network_acts.specs.Instant.{Instant, IsWorld, OfPlane, standing_of}
use Rattle.network_acts.specs.NetworkView.{NetworkView}
use Rattle.network_acts.specs.Words.{FitsAt, is_full_at, same_moment}
use Rattle.network_acts.specs.declared.control_plane.customers.Verdict.{Verdict}
use Rattle.network_acts.specs.declared.control_plane.customers.Verdict.TheVariants.{Full as VerdictFull, Made as VerdictMade}
use Rattle.network_events.specs.Customers.{verdict_at}
use Rattle.network_events.specs.Doing.{answer_at}
use Rattle.network_events.specs.Meeting.{IsReady, Meets, met}
use Rattle.network_events.proofs.DoLemmas.{act_does}
use Rattle.network_events.proofs.MeetLemmas.{meets_done, meets_memory, meets_refused}
use Rattle.network_events.proofs.RowLemmas.{does_as}

module _ (event : Event) (old : NetworkView) (lines : List ReportLine) where
  -- One act is what the event does, with which that holds.
  record IsAct (Fits : Instant → Type 0) (one : Act) (at : Instant) : Type 0 where
    fits : Fits at
    does : done at.world event ≡ row (one ∷ []) at.world

  act_meets : (Fits : Instant → Type 0) (one : Act) (n : NodeId) (new : NetworkView) (new_lines : List ReportLine)
      (answer : Result (Unit {0}) NodeFault)
      → ((at : Instant) → IsReady at → IsWorld at old → IsAct Fits one at)
      → ((at : Instant) → IsReady at → IsWorld at old → refusal at.world event ≡ None)
      → ActsAs Fits same_moment one n old new lines new_lines answer → Meets event old new lines new_lines (met (answer_at n answer))
  act_meets Fits one n new new_lines answer is_act free acts =
      meets_done event old lines new new_lines (answer_at n answer) free
      (does_as Fits IsReady same_moment same_moment (row (one ∷ [])) (λ world. done world event) old new lines new_lines (answer_at n answer)
      (λ at ready is. ((is_act at ready is).fits, sym (is_act at ready is).does, refl))
      (act_does Fits same_moment one n old new lines new_lines answer acts))

  -- A call at a node is what the event does, and it is refused exactly where there is no room for it.
  pub record IsCall (n : NodeId) (call : Call) (at : Instant) : Type 0 where
    pub fits : FitsAt n call (standing_of at)
    pub does : done at.world event ≡ row (At n call ∷ []) at.world
    pub why : refusal at.world event ≡ refused_if (is_full_at n call (standing_of at)) refusals.Full

  pub call_meets : (n : NodeId) (call : Call) (new : NetworkView) (new_lines : List ReportLine) (answer : Result Verdict NodeFault)
      → ((at : Instant) → IsReady at → IsWorld at old → IsCall n call at)
      → CustomerActsAs n call old new lines new_lines answer → Meets event old new lines new_lines (verdict_at n answer)
  call_meets n call new new_lines (Ok VerdictMade) is_call acts =
      act_meets (OfPlane (FitsAt n call)) (At n call) n new new_lines (Ok tt)
      (λ at ready is. record { fits = (is_call at ready is).fits; does = (is_call at ready is).does })
      (λ at ready is. (is_call at ready is).why ∙ ap (λ (b : Bool). refused_if b refusals.Full) (acts.made refl at (is_call at ready is).fits is).0)
      (record { made = λ at fits is. (acts.made refl at fits is).1; lacks = λ e. absurd cc })
  call_meets n call new new_lines (Ok VerdictFull) is_call acts =
      let full = acts.full refl in
      subst (λ (l : List ReportLine). Meets event old new lines l (Ok (Some refusals.Full))) (sym full.2)
      (subst (λ (v : NetworkView). Meets event old v lines lines (Ok (Some refusals.Full))) (sym full.1)
      (meets_refused event old lines refusals.Full
      (λ at ready is. (is_call at ready is).why ∙ ap (λ (b : Bool). refused_if b refusals.Full) (full.0 at (is_call at ready is).fits is))))
  call_meets n call new new_lines (Err faults.NoLabel) is_call acts =
      act_meets (OfPlane (FitsAt n call)) (At n call) n new new_lines (Err faults.NoLabel)
      (λ at ready is. record { fits = (is_call at ready is).fits; does = (is_call at ready is).does })
      (λ at ready is. (is_call at ready is).why ∙ ap (λ (b : Bool). refused_if b refusals.Full) (acts.lacks refl at (is_call at ready is).fits is).0)
      (record { made = tt; lacks = λ e at fits is. let lacking = acts.lacks refl at fits is in (lacking.1, lacking.2) })
  call_meets n call new new_lines (Err faults.NoMemory) is_call acts = meets_memory event old lines new new_lines

-- A step of a network that is after events of a scenario.
use Rattle.std.proofs.Common.{◌≡◌, ◌∙◌, refl, sym, ap, subst, arith, ℕ, ◌+◌, Bool, true, false, List, [], ◌∷◌, ◌++◌, length, append-nil, Option, Some, None, Result, Ok, Err, OnOk, ◌⊎◌, inl, inr}
use Rattle.std.proofs.lemmas.Option.{none-some}
use Rattle.mv_base.specs.declared.ids.NodeId.{NodeId}
use Rattle.scenario_defs.specs.Rules.{IsEventOf, Rules}
use Rattle.scenario_defs.specs.declared.event.Event.{Event}
use Rattle.scenario_defs.specs.declared.event.Timed.{Timed}
use Rattle.scenario_defs.specs.declared.report.Refusal.{Refusal}
use Rattle.scenario_defs.specs.declared.report.ReportLine.{ReportLine}
use Rattle.scenario_defs.specs.declared.report.ReportLine.TheVariants as told
use Rattle.scenario_defs.specs.declared.scenario.Scenario.{Scenario}
use Rattle.network_defs.specs.Costs.{AreCoresOf, Cores}
use Rattle.network_defs.specs.Events.{Done, Halted, Happened, Outcome, done}
use Rattle.network_defs.specs.Refusals.{refusal}
use Rattle.network_defs.specs.Run.{Runs, Traced, outcome, traced}
use Rattle.network_defs.specs.World.{World, start}
use Rattle.once_laws.specs.delivery_laws.Flood.{lines_in}
use Rattle.network_acts.specs.run_laws.Octets.{EventHasOctets}
use Rattle.network_acts.proofs.run_laws.SoundEvents.{sound_event}
use Rattle.network_acts.proofs.network_laws.Lists.{each_append}
use Rattle.network_acts.specs.Instant.{IsSome, IsWorld, beginning}
use Rattle.network_acts.specs.NetworkView.{NetworkView}
use Rattle.network_events.specs.Behind.{Advances, IsBegun, IsBehind, IsReached, Lacks, Steps, at_line, between_events}
use Rattle.network_events.specs.Meeting.{IsGiven, IsReady, Meets}
use Rattle.network_events.specs.Telling.{Appends, IsTold, Tells, refused_lines}
use Rattle.network_events.specs.WorldView.{WorldView}
use Rattle.network_events.specs.declared.halt.Halt.{Halt}
use Rattle.network_events.specs.declared.halt.Halt.TheVariants as halts
use Rattle.network_events.proofs.BehindLemmas.{network_scenario, ready_there}
use Rattle.network_events.proofs.RunLemmas.{runs_more}

-- ---- from each run that the network is after

module _ (cores : Cores) (scenario : Scenario) (events : List Timed) (trace : List Traced) (world : World) (view : WorldView)
    (thereafter : IsBehind cores scenario events trace world view) where
  abbrev own_scenario : view.network.scenario ≡ scenario
  own_scenario = network_scenario cores scenario events trace world view thereafter

  ready : IsReady (between_events cores world)
  ready = ready_there cores scenario events trace world view thereafter

  module _ (timed : Timed) (is : IsEventOf view.network.scenario timed.event) (new : NetworkView) (halt : Option Halt) where
    abbrev now : WorldView
    now = record { network = new; halt = halt }

    own_event : IsEventOf scenario timed.event
    own_event = subst (λ (s : Scenario). IsEventOf s timed.event) own_scenario is

    run_more : (acts : List Happened) (next : World) → outcome world timed ≡ Done acts next
        → Runs (start scenario cores) 0 (events ++ timed ∷ []) (trace ++ traced (length events) acts) next
    run_more acts next e =
        let number : 0 + length events ≡ length events = omega arith in
        subst (λ (k : ℕ). Runs (start scenario cores) 0 (events ++ timed ∷ []) (trace ++ traced k acts) next) number
        (runs_more events (start scenario cores) 0 trace world timed acts next thereafter.run e)

    refused_outcome : (reason : Refusal) → refusal world timed.event ≡ Some reason
        → outcome world timed ≡ Done (record { act = None; lines = told.Refused timed.line reason ∷ [] } ∷ []) world
    refused_outcome reason e =
        ap (λ (o : Option Refusal). elim o [
          | None ↦ done world timed.event
          | Some r ↦
              Done (record { act = None; lines = told.Refused timed.line r ∷ [] } ∷ []) world
        ]) e

    done_outcome : refusal world timed.event ≡ None → outcome world timed ≡ done world timed.event
    done_outcome e =
        ap (λ (o : Option Refusal). elim o [
          | None ↦ done world timed.event
          | Some r ↦
              Done (record { act = None; lines = told.Refused timed.line r ∷ [] } ∷ []) world
        ]) e

    -- the event is gone through, with these lines of its own
    gone : (acts : List Happened) (next : World) → outcome world timed ≡ Done acts next → IsWorld (between_events cores next) new
        → (lines own new_lines : List ReportLine) → own ≡ lines_in acts → new_lines ≡ lines ++ own
        → halt ≡ None → Advances cores scenario events trace world timed lines new_lines now
    gone acts next is_done stands lines own new_lines own_lines appended going = record {
      acts = acts;
      next = next;
      is = is_done;
      thereafter = record {
        rules = thereafter.rules;
        of_scenario = thereafter.of_scenario;
        events_of = each_append (λ (t : Timed). IsEventOf scenario t.event) events (timed ∷ []) thereafter.events_of (own_event, tt);
        run = run_more acts next is_done;
        stands = stands;
        going = going;
      };
      told = appended ∙ ap (λ (l : List ReportLine). lines ++ l) own_lines;
    }

    -- the event was met and told
    pub advances : (lines mid own new_lines : List ReportLine) (answer : Result (Option Refusal) Halt)
        → Meets timed.event view.network new [] mid answer → IsTold timed.line answer mid own → new_lines ≡ lines ++ own
        → halt ≡ None → Advances cores scenario events trace world timed lines new_lines now
    advances lines mid own new_lines (Ok None) meets written appended going =
        let both = meets.made refl (between_events cores world) ready thereafter.stands in
        let did = both.1 in
        gone did.acts did.world (done_outcome both.0 ∙ did.is) did.stands lines own new_lines (written ∙ (append-nil mid ∙ did.told)) appended going
    advances lines mid own new_lines (Ok (Some reason)) meets written appended going =
        let all = meets.refused reason refl in
        let why = all.0 (between_events cores world) ready thereafter.stands in
        gone (record { act = None; lines = told.Refused timed.line reason ∷ [] } ∷ []) world (refused_outcome reason why)
        (subst (IsWorld (between_events cores world)) (sym all.1) thereafter.stands) lines own new_lines
        (written ∙ ap (λ (l : List ReportLine). l ++ told.Refused timed.line reason ∷ []) all.2) appended going
    advances lines mid own new_lines (Err h) meets written appended going = absurd written

    -- the event lacks a label
    pub lacks_here : (n : NodeId) (lines mid own new_lines : List ReportLine) (answer : Result (Option Refusal) Halt)
        → Meets timed.event view.network new [] mid answer → answer ≡ Err (halts.NoLabel n) → own ≡ mid
        → new_lines ≡ lines ++ own → Lacks world timed n lines new_lines
    lacks_here n lines mid own new_lines answer meets e written appended =
        let both = meets.lacks n e (between_events cores world) ready thereafter.stands in
        record {
          acts = both.1.acts;
          is = done_outcome both.0 ∙ both.1.is;
          told =
              appended ∙ ap (λ (l : List ReportLine). lines ++ l) (written ∙ both.1.told);
        }

-- ---- what the event asks of the network

module _ (view : WorldView) (reached : IsReached view) where
  pub some_ready : IsSome IsReady view.network
  some_ready =
      let r = reached in
      (between_events r.cores r.world, ready r.cores r.scenario r.events r.trace r.world view r.thereafter, r.thereafter.stands)

  own_rules : Rules view.network.scenario
  own_rules =
      let r = reached in
      subst Rules (sym (network_scenario r.cores r.scenario r.events r.trace r.world view r.thereafter)) r.thereafter.rules

  pub given_event : (event : Event) → IsEventOf view.network.scenario event → EventHasOctets event → IsGiven view.network.scenario event
  given_event event is octets = record { of_it = is; sound = sound_event view.network.scenario event own_rules is octets }

-- a network in which nothing has happened has begun
pub begun : (scenario : Scenario) (network : NetworkView) → Rules scenario → network.scenario ≡ scenario
    → ((cores : Cores) → AreCoresOf scenario cores → IsWorld (beginning scenario cores) network)
    → IsBegun scenario (record { network = network; halt = None })
begun scenario network rules same first = record {
  scenario_is = same;
  thereafter = λ cores of_scenario. record {
    rules = rules;
    of_scenario = of_scenario;
    events_of = tt;
    run = (refl, refl);
    stands = first cores of_scenario;
    going = refl;
  };
}

-- and is one after no events
pub begun_reached : (scenario : Scenario) (view : WorldView) → IsBegun scenario view → (cores : Cores) × AreCoresOf scenario cores → IsReached view
begun_reached scenario view begun own = record {
  cores = own.0;
  scenario = scenario;
  events = [];
  trace = [];
  world = start scenario own.0;
  thereafter = begun.thereafter own.0 own.1;
}

-- one that went through an event is after it
pub still_reached : (line : ℕ) (event : Event) (old new : WorldView) (lines new_lines : List ReportLine) (result : Result (Unit {0}) Halt)
    → ((h : Halt) → result ≡ Err h → ⊥) → Steps line event old new lines new_lines result
    → IsReached old → IsReached new
still_reached line event old new lines new_lines (Err h) fine steps r = absurd (fine h refl)
still_reached line event old new lines new_lines (Ok tt) fine steps r =
    let a = steps.made r.cores r.scenario r.events r.trace r.world r.thereafter in
    record {
      cores = r.cores;
      scenario = r.scenario;
      events = r.events ++ at_line line event ∷ [];
      trace = r.trace ++ traced (length r.events) a.acts;
      world = a.next;
      thereafter = a.thereafter;
    }

-- ---- the step

abbrev stopped : Halt → Result (Unit {0}) Halt
stopped halt = Err halt

abbrev went_on : Result (Unit {0}) Halt
went_on = Ok tt

halt_or : Halt → Result (Unit {0}) Halt → Halt
halt_or other (Ok done) = other
halt_or other (Err halt) = halt

same_halt : (h k : Halt) → stopped h ≡ stopped k → h ≡ k
unfolding halt_or
same_halt h k e = ap (halt_or h) e

is_label : Halt → Bool
is_label (halts.NoLabel n) = true
is_label halts.NoMemory = false

label_or_memory : (n : NodeId) → halts.NoMemory ≡ halts.NoLabel n → ⊥
label_or_memory n e = (let t = ap {B = Bool} is_label e in cc)

is_stopped : Result (Unit {0}) Halt → Bool
is_stopped (Ok done) = false
is_stopped (Err h) = true

not_stopped : (h : Halt) → went_on ≡ stopped h → ⊥
not_stopped h e = (let t = ap {B = Bool} is_stopped e in cc)

module _ (line : ℕ) (event : Event) (old : WorldView) (going : old.halt ≡ None) (is : IsEventOf old.network.scenario event) (new : NetworkView)
    (lines mid own new_lines : List ReportLine)
    (answer : Result (Option Refusal) Halt) (meets : Meets event old.network new [] mid answer) where
  not_halted : (halt : Halt) → old.halt ≡ Some halt → ⊥
  not_halted halt e = none-some halt (sym going ∙ e)

  lacking : (cores : Cores) (scenario : Scenario) (events : List Timed) (trace : List Traced) (world : World)
      → IsBehind cores scenario events trace world old → (n : NodeId)
      → (halts.NoLabel n ≡ halts.NoMemory) ⊎ ((answer ≡ Err (halts.NoLabel n)) × (own ≡ mid)) → new_lines ≡ lines ++ own
      → Lacks world (at_line line event) n lines new_lines
  lacking cores scenario events trace world thereafter n (inl f) appended = absurd (label_or_memory n (sym f))
  lacking cores scenario events trace world thereafter n (inr both) appended =
      lacks_here cores scenario events trace world old thereafter (at_line line event) is new None n lines mid own new_lines answer meets both.0 both.1
      appended

  pub step_halts : (h : Halt) (told result : Result (Unit {0}) Halt) → result ≡ Err h → Tells line answer mid own told
      → Appends told own lines new_lines result
      → Steps line event old (record { network = new; halt = Some h }) lines new_lines (Err h)
  step_halts h told result e tells appends = record {
    made = tt;
    lacks = λ n f unhalted cores scenario events trace world thereafter.
        let label = same_halt h (halts.NoLabel n) f in
        let whole = appends.all (λ memory. label_or_memory n (sym (same_halt h halts.NoMemory (sym e ∙ memory)) ∙ label)) in
        lacking cores scenario events trace world thereafter n
        (subst (λ (k : Halt). (k ≡ halts.NoMemory) ⊎ ((answer ≡ Err k) × (own ≡ mid))) label (tells.lacks h (sym whole.0 ∙ e))) whole.1;
    wanting = λ memory unhalted. appends.wanting (e ∙ memory);
    spent = λ k f. ap (λ (x : Halt). Some x) (same_halt h k f);
    again = λ k f. absurd (not_halted k f);
  }

  pub step_goes : (halt : Option Halt) → halt ≡ None → (told result : Result (Unit {0}) Halt) → ((h : Halt) → result ≡ Err h → ⊥)
      → Tells line answer mid own told → Appends told own lines new_lines result
      → Steps line event old (record { network = new; halt = halt }) lines new_lines result
  step_goes halt none told (Err h) fine tells appends = absurd (fine h refl)
  step_goes halt none told (Ok tt) fine tells appends =
      let whole = appends.all (λ memory. not_stopped halts.NoMemory memory) in
      record {
        made = λ cores scenario events trace world thereafter.
            advances cores scenario events trace world old thereafter (at_line line event) is new halt lines mid own new_lines answer meets
            (tells.made (sym whole.0)) whole.1 none;
        lacks = λ n f. absurd (not_stopped (halts.NoLabel n) f);
        wanting = λ f. absurd (not_stopped halts.NoMemory f);
        spent = λ k f. absurd (not_stopped k f);
        again = λ k f. absurd (not_halted k f);
      }

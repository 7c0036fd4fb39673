-- Any events run or halt, never both; and the first events of a run run.
use Rattle.std.proofs.Common.{◌≡◌, ℕ, ◌+◌, List, [], ◌∷◌, ◌++◌, length, refl, sym, ap, subst, ◌∙◌, append_assoc, arith}
use Rattle.mv_base.specs.declared.ids.NodeId.{NodeId}
use Rattle.scenario_defs.specs.declared.event.Script.{Script}
use Rattle.scenario_defs.specs.declared.event.Timed.{Timed}
use Rattle.scenario_defs.specs.declared.report.ReportLine.TheVariants as lines
use Rattle.mvpn_model.specs.Report.{Entry}
use Rattle.network_defs.specs.Costs.{Cores, AreCoresOf}
use Rattle.network_defs.specs.Events.{Happened, Outcome, Done, Halted}
use Rattle.network_defs.specs.Run.{Traced, traced, report_of, outcome, Runs, Run, Halts}
use Rattle.network_defs.specs.World.{World, start}
use Rattle.network_defs.proofs.OneRun.{one_run}
use Rattle.delivery_laws.proofs.Splits.{Split, runs_split}
use Rattle.run_laws.specs.Runs.{of_events, RunsOrHalts, AllRun, OneHalts, RunsInTwo, ReportBegins}

-- ---- one or the other

-- the first events run from there, and the next one runs out of labels
record Stops (old : World) (number : ℕ) (events : List Timed) : Type 0 where
  before : List Timed
  timed : Timed
  after : List Timed
  parts : events ≡ before ++ timed ∷ after
  trace : List Traced
  world : World
  run : Runs old number before trace world
  acts : List Happened
  node : NodeId
  lacks : outcome world timed ≡ Halted acts node

data Ending (old : World) (number : ℕ) (events : List Timed) : Type 0 where
  Whole : (trace : List Traced) → (new : World) → Runs old number events trace new → Ending old number events
  Stopped : Stops old number events → Ending old number events

-- one more event in front
in_front : (old : World) (number : ℕ) (timed : Timed) (more : List Timed) (acts : List Happened) (next : World) → outcome old timed ≡ Done acts next
    → Ending next (number + 1) more → Ending old number (timed ∷ more)
in_front old number timed more acts next is (Whole trace new run) = Whole (traced number acts ++ trace) new (acts, next, trace, is, refl, run)
in_front old number timed more acts next is (Stopped s) = Stopped (record {
  before = timed ∷ s.before;
  timed = s.timed;
  after = s.after;
  parts = ap (λ (l : List Timed). timed ∷ l) s.parts;
  trace = traced number acts ++ s.trace;
  world = s.world;
  run = (acts, next, s.trace, is, refl, s.run);
  acts = s.acts;
  node = s.node;
  lacks = s.lacks;
})

by_outcome : (old : World) (number : ℕ) (timed : Timed) (more : List Timed) → ((next : World) → Ending next (number + 1) more) → (o : Outcome)
    → outcome old timed ≡ o → Ending old number (timed ∷ more)
by_outcome old number timed more goes_on (Done acts next) is = in_front old number timed more acts next is (goes_on next)
by_outcome old number timed more goes_on (Halted acts node) is =
    Stopped (record {
      before = [];
      timed = timed;
      after = more;
      parts = refl;
      trace = [];
      world = old;
      run = (refl, refl);
      acts = acts;
      node =
          node;
      lacks = is;
    })

ends : (events : List Timed) (old : World) (number : ℕ) → Ending old number events
ends [] old number = Whole [] old (refl, refl)
ends (timed ∷ more) old number = by_outcome old number timed more (λ next. ends more next (number + 1)) (outcome old timed) refl

either_by : (cores : Cores) (script : Script) (events : List Timed) → AreCoresOf script.scenario cores → Ending (start script.scenario cores) 0 events
    → RunsOrHalts cores (of_events script events)
either_by cores script events of_scenario (Whole trace new run) = AllRun trace new run
either_by cores script events of_scenario (Stopped s) =
    OneHalts (report_of (s.trace ++ traced (length s.before) s.acts)
    ++ record { event = length s.before; lines = lines.Halt s.timed.line s.node ∷ [] } ∷ []) s.node
    (record {
      of_scenario = of_scenario;
      before = s.before;
      timed = s.timed;
      after = s.after;
      events = s.parts;
      trace = s.trace;
      world =
          s.world;
      run = s.run;
      acts = s.acts;
      lacks = s.lacks;
      whole = refl;
    })

pub either : (cores : Cores) (script : Script) (events : List Timed) → AreCoresOf script.scenario cores → RunsOrHalts cores (of_events script events)
either cores script events of_scenario = either_by cores script events of_scenario (ends events (start script.scenario cores) 0)

-- ---- never both

done_or_halted : (o : Outcome) (acts others : List Happened) (next : World) (node : NodeId) → o ≡ Done acts next → o ≡ Halted others node → ⊥
done_or_halted o acts others next node e f = absurd cc

pub never_both : (cores : Cores) (script : Script) (events : List Timed) (trace : List Traced) (new : World) (report : List Entry) (node : NodeId)
    → Run cores script events trace new → Halts cores (of_events script events) report node → ⊥
never_both cores script events trace new report node run halt =
    let begin : World = start script.scenario cores in
    let cut : Split begin 0 halt.before (halt.timed ∷ halt.after) trace new =
    runs_split halt.before (halt.timed ∷ halt.after) begin 0 trace new (subst (λ (l : List Timed). Runs begin 0 l trace new) halt.events run) in
    let same : (cut.early ≡ halt.trace) × (cut.middle ≡ halt.world) =
    one_run begin 0 halt.before cut.early halt.trace cut.middle halt.world cut.begins halt.run in
    let later : Runs cut.middle (0 + length halt.before) (halt.timed ∷ halt.after) cut.late new = cut.goes_on (0 + length halt.before) refl in
    done_or_halted (outcome cut.middle halt.timed) later.0 halt.acts later.1 node later.3
    (ap (λ (w : World). outcome w halt.timed) same.1 ∙ halt.lacks)

-- ---- one halt

pub one_of_all : (cores : Cores) (script : Script) (events : List Timed) (trace other : List Traced) (new last : World)
    → Run cores script events trace new → Run cores script events other last → (trace ≡ other) × (new ≡ last)
one_of_all cores script events trace other new last run again = one_run (start script.scenario cores) 0 events trace other new last run again

record SamePlace (before other : List Timed) (timed then_timed : Timed) : Type 0 where
  first : before ≡ other
  next : timed ≡ then_timed

same_heads : (x y : Timed) (xs ys : List Timed) → x ∷ xs ≡ y ∷ ys → (x ≡ y) × (xs ≡ ys)
same_heads x y xs ys e = (cc, cc)

one_next : (o : Outcome) (acts others : List Happened) (next last : World) → o ≡ Done acts next → o ≡ Done others last → next ≡ last
one_next o acts others next last e f = cc

-- both stop at one event
one_place : (before other : List Timed) (timed then_timed : Timed) (after thereafter : List Timed)
    → before ++ timed ∷ after ≡ other ++ then_timed ∷ thereafter
    → (old : World) (number : ℕ) (trace again : List Traced) (world last : World) → Runs old number before trace world
    → Runs old number other again last
    → (acts others : List Happened) (node at : NodeId) → outcome world timed ≡ Halted acts node → outcome last then_timed ≡ Halted others at
    → SamePlace before other timed then_timed
one_place [] [] timed then_timed after thereafter e old number trace again world last run run1 acts others node at lacks lacks1 =
    record { first = refl; next = (same_heads timed then_timed after thereafter e).0 }
one_place [] (one ∷ other) timed then_timed after thereafter e old number trace again world last run run1 acts others node at lacks lacks1 =
    let here : timed ≡ one = (same_heads timed one after (other ++ then_timed ∷ thereafter) e).0 in
    let stops : outcome old one ≡ Halted acts node = ap (outcome old) (sym here) ∙ ap (λ (w : World). outcome w timed) (sym run.1) ∙ lacks in
    absurd (done_or_halted (outcome old one) run1.0 acts run1.1 node run1.3 stops)
one_place (one ∷ before) [] timed then_timed after thereafter e old number trace again world last run run1 acts others node at lacks lacks1 =
    let here : one ≡ then_timed = (same_heads one then_timed (before ++ timed ∷ after) thereafter e).0 in
    let stops : outcome old one ≡ Halted others at = ap (outcome old) here ∙ ap (λ (w : World). outcome w then_timed) (sym run1.1) ∙ lacks1 in
    absurd (done_or_halted (outcome old one) run.0 others run.1 at run.3 stops)
one_place (one ∷ before) (two ∷ other) timed then_timed after thereafter e old number trace again world last run run1 acts others node at lacks lacks1 =
    let heads : (one ≡ two) × (before ++ timed ∷ after ≡ other ++ then_timed ∷ thereafter) =
    same_heads one two (before ++ timed ∷ after) (other ++ then_timed ∷ thereafter) e in
    let next : run.1 ≡ run1.1 = one_next (outcome old one) run.0 run1.0 run.1 run1.1 run.3 (ap (outcome old) heads.0 ∙ run1.3) in
    let rest : SamePlace before other timed then_timed =
    one_place before other timed then_timed after thereafter heads.1 run1.1 (number + 1) run.2 run1.2 world last
    (subst (λ (w : World). Runs w (number + 1) before run.2 world) next run.5) run1.5 acts others node at lacks lacks1 in
    record { first = (λ i. heads.0 i ∷ rest.first i); next = rest.next }

same_halts : (o : Outcome) (acts others : List Happened) (node at : NodeId) → o ≡ Halted acts node → o ≡ Halted others at
    → (acts ≡ others) × (node ≡ at)
same_halts o acts others node at e f = (cc, cc)

pub one_halt : (cores : Cores) (script : Script) (report other : List Entry) (node last : NodeId) (halt : Halts cores script report node)
    (again : Halts cores script other last)
    → (halt.before ≡ again.before) × (halt.timed ≡ again.timed) × (node ≡ last) × (report ≡ other)
one_halt cores script report other node last halt again =
    let begin : World = start script.scenario cores in
    let place : SamePlace halt.before again.before halt.timed again.timed =
    one_place halt.before again.before halt.timed again.timed halt.after again.after (sym halt.events ∙ again.events)
    begin 0 halt.trace again.trace halt.world again.world halt.run again.run halt.acts again.acts node last halt.lacks again.lacks in
    let same : (halt.trace ≡ again.trace) × (halt.world ≡ again.world) = one_run begin 0 again.before halt.trace again.trace halt.world again.world
    (subst (λ (l : List Timed). Runs begin 0 l halt.trace halt.world) place.first halt.run) again.run in
    let stops : (halt.acts ≡ again.acts) × (node ≡ last) = same_halts (outcome again.world again.timed) halt.acts again.acts node last
    ((λ i. outcome (sym same.1 i) (sym place.next i)) ∙ halt.lacks) again.lacks in (
      place.first,
      place.next,
      stops.1,
      halt.whole
          ∙ (λ i. report_of (same.0 i ++ traced (length (place.first i)) (stops.0 i))
          ++ record { event = length (place.first i); lines = lines.Halt (place.next i).line (stops.1 i) ∷ [] } ∷ []) ∙ sym again.whole,
    )

-- ---- the first events

pub in_two : (cores : Cores) (script : Script) (first more : List Timed) (trace : List Traced) (new : World)
    → Run cores script (first ++ more) trace new → RunsInTwo cores script first more trace new
in_two cores script first more trace new run =
    let cut : Split (start script.scenario cores) 0 first more trace new = runs_split first more (start script.scenario cores) 0 trace new run in
    record {
      early = cut.early;
      late = cut.late;
      middle = cut.middle;
      begins = cut.begins;
      goes_on = cut.goes_on (length first) (omega arith);
      whole =
          cut.whole;
    }

report_parts : (early late : List Traced) → report_of (early ++ late) ≡ report_of early ++ report_of late
report_parts [] late = refl
report_parts (step ∷ early) late = ap (λ (l : List Entry). record { event = step.event; lines = step.happened.lines } ∷ l) (report_parts early late)

pub halt_begins : (cores : Cores) (script : Script) (report : List Entry) (node : NodeId) (halt : Halts cores script report node)
    (first more : List Timed) → halt.before ≡ first ++ more → ReportBegins cores script first report
halt_begins cores script report node halt first more e =
    let two : RunsInTwo cores script first more halt.trace halt.world =
    in_two cores script first more halt.trace halt.world (subst (λ (l : List Timed). Run cores script l halt.trace halt.world) e halt.run) in
    let acts : List Traced = traced (length halt.before) halt.acts in
    let stop : List Entry = record { event = length halt.before; lines = lines.Halt halt.timed.line node ∷ [] } ∷ [] in
    let grouped : halt.trace ++ acts ≡ two.early ++ (two.late ++ acts) =
    ap (λ (t : List Traced). t ++ acts) two.whole ∙ append_assoc two.early two.late acts in
    record {
      early = two.early;
      middle = two.middle;
      begins = two.begins;
      more = report_of (two.late ++ acts) ++ stop;
      whole = halt.whole ∙ ap (λ (t : List Traced). report_of t ++ stop) grouped
          ∙ ap (λ (l : List Entry). l ++ stop) (report_parts two.early (two.late ++ acts))
          ∙ append_assoc (report_of two.early) (report_of (two.late ++ acts)) stop;
    }

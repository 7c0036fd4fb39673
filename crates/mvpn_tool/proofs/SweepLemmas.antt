-- Laws of the run of a made network, whose lines are counted.
use Rattle.std.proofs.Common.{◌≡◌, ◌∙◌, ℕ, ◌+◌, ◌≤◌, ◌⊎◌, inl, inr, List, [], ◌++◌, length, take, slice_get, refl, sym, ap, subst, arith}
use Rattle.std.specs.Prelude.{Option, Some, Result, Ok, Err, IsErrOf, fold}
use Rattle.std.proofs.lemmas.List.{take_all}
use Rattle.std.proofs.lemmas.List.Sums.{fold-append}
use Rattle.mv_base.specs.declared.ids.NodeId.{NodeId}
use Rattle.mv_io.specs.Octets.{Appended, AppendedPart}
use Rattle.mv_io.proofs.OctetsLemmas.{appended-nil}
use Rattle.scenario_defs.specs.Rules.{ScriptRules}
use Rattle.scenario_defs.specs.declared.event.Script.{Script}
use Rattle.scenario_defs.specs.declared.event.Timed.{Timed}
use Rattle.scenario_defs.specs.declared.report.ReportLine.{ReportLine}
use Rattle.line_words.specs.declared.fault.TextFault.{TextFault}
use Rattle.scenario_text.specs.Grammar.{script_of}
use Rattle.generator.specs.Made.{made}
use Rattle.made_laws.specs.MadeScript.{made_script}
use Rattle.made_laws.specs.growth_laws.Labels.{labels_held}
use Rattle.mvpn_model.specs.Report.{Entry, lines_of}
use Rattle.network_defs.specs.Costs.{Cores}
use Rattle.network_defs.specs.Events.{Happened}
use Rattle.network_defs.specs.Nodes.{part_of}
use Rattle.network_defs.specs.Run.{Halts, Run, Traced, report_of, traced}
use Rattle.network_defs.specs.World.{World, start}
use Rattle.network_events.specs.delivery_laws.Flood.{lines_in}
use Rattle.hop_laws.specs.run_laws.Octets.{ScriptHasOctets}
use Rattle.network_events.specs.Behind.{IsBegun, Steps}
use Rattle.network_events.specs.WorldView.{WorldView}
use Rattle.network_events.specs.declared.halt.Halt.TheVariants as halts
use Rattle.mvpn_tool.specs.FirstEvents.{IsBehindFirst, IsReached}
use Rattle.mvpn_tool.specs.Known.{KnownRuns}
use Rattle.mvpn_tool.specs.Sweep.{EventCounts, HoldsFewLabels, NeverHalts, SweepEnds, SweepsWell, SweepsWhole, TellsNumbers, no_counts, sweep_text, with_line}
use Rattle.mvpn_tool.specs.declared.counts.Counts.{Counts}
use Rattle.mvpn_tool.specs.declared.stop.Stop.{Stop}
use Rattle.mvpn_tool.specs.declared.stop.Stop.TheVariants as stops
use Rattle.mvpn_tool.specs.declared.sweep.Swept.{Swept}
use Rattle.mvpn_tool.proofs.CountLemmas.{counted_all}
use Rattle.mvpn_tool.proofs.FirstEventLemmas.{after_none, reached_more}
use Rattle.mvpn_tool.proofs.OutcomeLemmas.{halted_report, halts_at}
use Rattle.mvpn_tool.proofs.TextLemmas.{lines_at, lines_of-append, report_of-append}

abbrev Answer : Type 0
Answer = Result (Unit {0}) Stop

abbrev stopped : Stop → Answer
stopped stop = Err stop

same_stop : (stop other : Stop) → stopped stop ≡ stopped other → stop ≡ other
same_stop stop other e = cc

-- ---- one event

module _ (timed : Timed) (view now : WorldView) (before after : Counts) (own new_lines : List ReportLine) (none : own ≡ []) where
  -- The step was made, and its lines were counted.
  pub event_counted : Steps timed.line timed.event view now own new_lines (Ok tt) → after ≡ fold with_line before new_lines
      → EventCounts timed view now before after (Ok tt)
  event_counted steps told = record {
    made = λ at.
        let a = steps.made at.cores at.script.scenario (take at.count at.script.events) at.trace at.world at.thereafter.is in
        record {
          acts = a.acts;
          state = a.next;
          is = a.is;
          thereafter = reached_more timed view at own new_lines now a;
          told = told ∙ ap (fold with_line before) (a.told ∙ ap (λ (l : List ReportLine). l ++ lines_in a.acts) none);
        };
    lacks = λ e. absurd cc;
  }

  -- Labels ran out.
  pub event_lacks_label : (n : NodeId) → Steps timed.line timed.event view now own new_lines (Err (halts.NoLabel n))
      → EventCounts timed view now before after (Err stops.Label)
  event_lacks_label n steps = record {
    made = tt;
    lacks = λ e at.
        let a = steps.lacks n refl at.thereafter.is.going at.cores at.script.scenario (take at.count at.script.events) at.trace at.world at.thereafter.is in
        record { acts = a.acts; node = n; is = a.is };
  }

-- Memory ran out.
pub event_lacks_memory : (timed : Timed) (view now : WorldView) (before after : Counts) → EventCounts timed view now before after (Err stops.Memory)
event_lacks_memory timed view now before after = record { made = tt; lacks = λ e. absurd cc }

-- ---- the events of a script

-- The first so many events run, the world is the one after them, and these are the counts of their lines.
pub record SweptSoFar (script : Script) (count : ℕ) (view : WorldView) (counts : Counts) : Type 0 where
  pub cores : Cores
  pub trace : List Traced
  pub state : World
  pub thereafter : IsBehindFirst cores script count trace state view
  pub told : counts ≡ fold with_line no_counts (lines_of (report_of trace))

-- the counts after the acts of one event more
more_counts : (counts after : Counts) (trace : List Traced) (number : ℕ) (acts : List Happened)
    → counts ≡ fold with_line no_counts (lines_of (report_of trace)) →
    after ≡ fold with_line counts (lines_in acts) → after ≡ fold with_line no_counts (lines_of (report_of (trace ++ traced number acts)))
more_counts counts after trace number acts told more =
    more
    ∙ (ap (λ (c : Counts). fold with_line c (lines_in acts)) told
    ∙ (sym (fold-append with_line no_counts (lines_of (report_of trace)) (lines_in acts))
    ∙ ap (fold with_line no_counts)
    (sym (ap lines_of (report_of-append trace (traced number acts)) ∙ (lines_of-append (report_of trace) (report_of (traced number acts))
    ∙ ap (λ (l : List ReportLine). lines_of (report_of trace) ++ l) (lines_at number acts))))))

module _ (known : KnownRuns) (script : Script) (rules : ScriptRules script) (octets : ScriptHasOctets script) where
  -- No event ran yet.
  pub swept_none : (view : WorldView) (counts : Counts) → IsBegun script.scenario view → counts ≡ no_counts → SweptSoFar script 0 view counts
  swept_none view counts begun none =
      let own = known.cores script.scenario rules.scenario in
      record { cores = own.0; trace = []; state = start script.scenario own.0; thereafter = after_none script rules view begun own.0 own.1; told = none }

  module _ (count : ℕ) (timed : Timed) (view : WorldView) (counts : Counts) (at : slice_get script.events count ≡ Some timed)
      (so_far : SweptSoFar script count view counts) where
    -- where the next event is met
    abbrev pub swept_to : IsReached timed view
    swept_to =
        record { cores = so_far.cores; script = script; count = count; trace = so_far.trace; world = so_far.state; thereafter = so_far.thereafter; next = at }

    -- One event more.
    pub swept_more : (now : WorldView) (after : Counts) → EventCounts timed view now counts after (Ok tt) → SweptSoFar script (count + 1) now after
    swept_more now after ends =
        let on = ends.made swept_to in
        record {
          cores = so_far.cores;
          trace = so_far.trace ++ traced count on.acts;
          state = on.state;
          thereafter = on.thereafter;
          told = more_counts counts after so_far.trace count on.acts so_far.told on.told;
        }

    -- The event runs out of memory.
    pub swept_stops : (now : WorldView) (after : Counts) (stop : Stop) → NeverHalts script → EventCounts timed view now counts after (Err stop)
        → (stop ≡ stops.Label) ⊎ (stop ≡ stops.Memory) → stop ≡ stops.Memory
    swept_stops now after stop never ends (inl label) =
        let lacks = ends.lacks (ap stopped label) swept_to in
        absurd
        (never so_far.cores (halted_report so_far.trace count timed.line lacks.acts lacks.node) lacks.node
        (halts_at so_far.cores script count so_far.trace so_far.state timed lacks.acts lacks.node so_far.thereafter.is.of_scenario so_far.thereafter.is.run at
        lacks.is))
    swept_stops now after stop never ends (inr memory) = memory

  -- All events ran.
  pub swept_all : (count : ℕ) (view : WorldView) (counts : Counts) → count ≡ length script.events → SweptSoFar script count view counts
      → SweepsWhole script (record { world = view; counts = counts })
  swept_all count view counts all so_far =
      let whole : SweptSoFar script (length script.events) view counts = subst (λ (n : ℕ). SweptSoFar script n view counts) all so_far in
      record {
        cores = whole.cores;
        trace = whole.trace;
        state = whole.state;
        thereafter = whole.thereafter;
        whole = known.whole whole.cores script whole.trace whole.state rules octets whole.thereafter.is.of_scenario
            (subst (λ (l : List Timed). Run whole.cores script l whole.trace whole.state)
            (take_all (length script.events) script.events (omega arith)) whole.thereafter.is.run);
        counts = whole.told ∙ counted_all (lines_of (report_of whole.trace));
      }

-- ---- a number

module _ (number : ℕ) (script : Script) (said : script_of (made number) ≡ Ok script) (few : (cores : Cores) → HoldsFewLabels cores script) where
  numbers_of : (Written : List ℕ → Type 0) (swept : Swept) → SweepsWhole script swept
      → Written (sweep_text number swept.world.network.datagrams.count swept.counts) →
      TellsNumbers Written number swept.world script
  numbers_of Written swept whole text = record {
    counts = swept.counts;
    whole = whole;
    labels = few whole.cores;
    text = subst (λ (n : ℕ). Written (sweep_text number n swept.counts)) whole.thereafter.is.stands.datagrams.count text;
  }

  -- The line was written.
  pub number_swept : (old new : Option (List ℕ)) (swept : Swept) → SweepsWhole script swept
      → Appended old new (sweep_text number swept.world.network.datagrams.count swept.counts) →
      SweepsWell number old new swept.world
  number_swept old new swept whole text = record { script = script; said = said; holds = numbers_of (Appended old new) swept whole text }

  -- It was not, or a part of it.
  pub number_cut : (old new : Option (List ℕ)) (swept : Swept) (stop : Stop) → SweepsWhole script swept
      → AppendedPart old new (sweep_text number swept.world.network.datagrams.count swept.counts) →
      (IsErrOf (stopped stop) stops.Memory → Appended old new []) → (stop ≡ stops.Sink) ⊎ (stop ≡ stops.Memory) → SweepEnds number (Err stop) old new
  number_cut old new swept stop whole text nothing (inl sink) =
      subst (λ (s : Stop). SweepEnds number (Err s) old new) (sym sink)
      (record { script = script; said = said; holds = (swept.world, numbers_of (AppendedPart old new) swept whole text) })
  number_cut old new swept stop whole text nothing (inr memory) =
      subst (λ (s : Stop). SweepEnds number (Err s) old new) (sym memory) (nothing (ap stopped memory))

-- There was no memory, and nothing was written.
pub number_unmade : (number : ℕ) (old : Option (List ℕ)) (stop : Stop) → stop ≡ stops.Memory → SweepEnds number (Err stop) old old
number_unmade number old stop memory = subst (λ (s : Stop). SweepEnds number (Err s) old old) (sym memory) (appended-nil old)

-- ---- the laws of generated networks

abbrev pub AreRead : Type 0
AreRead = (number : ℕ) → script_of (made number) ≡ Ok (made_script number)

abbrev pub AreNeverHalting : Type 0
AreNeverHalting = (cores : Cores) (number : ℕ) (report : List Entry) (node : NodeId) → Halts cores (made_script number) report node → ⊥

abbrev pub HoldFewLabels : Type 0
HoldFewLabels =
    (cores : Cores) (number count : ℕ) (trace : List Traced) (new : World) (node : NodeId)
    → Run cores (made_script number) (take count (made_script number).events) trace new →
    labels_held (part_of (new.network.state.node node)) ≤ 260

abbrev said_as : Script → Result Script TextFault
said_as script = Ok script

one_script : (x y : Script) (r : Result Script TextFault) → r ≡ Ok x → r ≡ Ok y → x ≡ y
one_script x y r one other = cc

same_script : AreRead → (number : ℕ) (script : Script) → script_of (made number) ≡ Ok script → made_script number ≡ script
same_script are_read number script said = one_script (made_script number) script (script_of (made number)) (are_read number) said

-- The script that the text of a number says never halts.
pub made_never_halts : AreRead → AreNeverHalting → (number : ℕ) (script : Script) → script_of (made number) ≡ Ok script → NeverHalts script
made_never_halts are_read never number script said =
    subst NeverHalts (same_script are_read number script said) (λ cores report node. never cores number report node)

-- Its nodes hold few labels.
pub made_holds_few : AreRead → HoldFewLabels → (number : ℕ) (script : Script) → script_of (made number) ≡ Ok script → (cores : Cores)
    → HoldsFewLabels cores script
made_holds_few are_read few number script said cores =
    subst (HoldsFewLabels cores) (same_script are_read number script said) (λ count trace state node. few cores number count trace state node)

-- It says no fault.
pub made_not_faulty : AreRead → (number : ℕ) (fault : TextFault) → script_of (made number) ≡ Err fault → ⊥
made_not_faulty are_read number fault says = (let both : said_as (made_script number) ≡ Err fault = sym (are_read number) ∙ says in absurd cc)

-- What laws of runs come to.
use Rattle.std.proofs.Common.{◌≡◌, ℕ, suc, ◌+◌, ◌-◌, ◌<◌, ◌≤◌, inl, inr, List, [], ◌∷◌, ◌++◌, length, take, drop, refl, sym, ap, subst, ◌∙◌, arith, All}
use Rattle.std.specs.List.{flat_map, AllByRecursion}
use Rattle.core_pcap.specs.declared.hop.CoreHop.{CoreHop}
use Rattle.core_pcap.specs.Spelling.{IsHop}
use Rattle.std.proofs.lemmas.Bool.{cases_lt}
use Rattle.std.proofs.lemmas.List.Elements.{All-from_recursion, recursion_from_All}
use Rattle.std.proofs.lemmas.List.{take_all, take-append-drop, take-append-le}
use Rattle.std.proofs.Math.Seq.{take-append-add}
use Rattle.mv_base.specs.declared.ids.NodeId.{NodeId}
use Rattle.scenario_defs.specs.Rules.{IsEventOf, Rises, Rules, ScriptRules}
use Rattle.scenario_defs.specs.Text.{IsLineOf}
use Rattle.scenario_defs.specs.declared.event.Event.{Event}
use Rattle.scenario_defs.specs.declared.event.Script.{Script}
use Rattle.scenario_defs.specs.declared.event.Timed.{Timed}
use Rattle.scenario_defs.specs.declared.report.ReportLine.TheVariants as lines
use Rattle.scenario_defs.specs.declared.scenario.Scenario.{Scenario}
use Rattle.mvpn_model.specs.Once.{Once}
use Rattle.mvpn_model.specs.Report.{Entry, lines_of, refused_line, refused_lines}
use Rattle.hop_laws.specs.Hops.{NameDatagrams, hops_in, hops_of}
use Rattle.hop_laws.proofs.Ends.{halting_hops, hops_at_halt, hops_go_on, hops_next, run_next}
use Rattle.audit_defs.specs.declared.verdict.ReportLines.{ReportLines}
use Rattle.audit_defs.specs.Markers.{values}
use Rattle.audit_defs.specs.Verdicts.{HasNoOffence}
use Rattle.hop_laws.specs.run_laws.Plain.{plain}
use Rattle.mvpn_model.specs.Safe.{Safe}
use Rattle.network_defs.specs.Costs.{AreCoresOf, Cores}
use Rattle.network_defs.specs.Events.{Happened, Outcome, Done, Halted}
use Rattle.network_defs.specs.LabelRule.{LabelRule}
use Rattle.network_defs.specs.Local.{Local}
use Rattle.network_defs.specs.Run.{Halts, IsDrained, IsSettled, Run, Traced, outcome, report_of, traced}
use Rattle.network_defs.specs.World.{World, start}
use Rattle.network_events.proofs.network_laws.Lists.{each_at}
use Rattle.network_events.specs.network_laws.Honest.{IsSoundEvent}
use Rattle.network_events.specs.network_laws.Sound.{SoundScenario}
use Rattle.network_events.specs.network_laws.SoundRun.{SoundRun}
use Rattle.network_events.proofs.delivery_laws.OnceLemmas.{rises_first}
use Rattle.network_events.proofs.delivery_laws.Splits.{take_to}
use Rattle.hop_laws.proofs.run_laws.rule_laws.Halting.{each_after, run_before}
use Rattle.hop_laws.specs.run_laws.Ready.{ReportsUnready}
use Rattle.hop_laws.specs.run_laws.rule_laws.SoundHalt.{SoundHalt}
use Rattle.hop_laws.specs.run_laws.rule_laws.Throughout.{ThroughoutEvents}
use Rattle.settle_laws.specs.Behind.{IsBehind, Settles, drain_at, settle_at}
use Rattle.network_events.specs.delivery_laws.Flood.{lines_in}
use Rattle.hop_laws.specs.run_laws.Octets.{EventHasOctets, ScriptHasOctets}
use Rattle.hop_laws.specs.run_laws.Runs as parts
use Rattle.network_events.specs.WorldView.{WorldView}
use Rattle.mvpn_tool.specs.Known.{ReportGoesOn}
use Rattle.mvpn_tool.specs.Outcome.{Place}
use Rattle.mvpn_tool.specs.Output.{event_hops}
use Rattle.mvpn_tool.specs.Report.{IsHaltedRun, IsWholeRun, OfAll, UpToHalt, event_lines}
use Rattle.mvpn_tool.specs.declared.command.Output.{Output}
use Rattle.mvpn_tool.specs.declared.sent_hops.SoFar.{SoFar}
use Rattle.mvpn_tool.proofs.TextLemmas.{report_of-append}

abbrev SoundEvents : Script → List Timed → Type 0
SoundEvents script events = AllByRecursion (λ (timed : Timed). IsSoundEvent script.scenario timed.event) events

-- what `readable_events_are_sound` says of runs
abbrev pub ReadableRuns : Type 0
ReadableRuns =
    (cores : Cores) (script : Script) (count : ℕ) (trace : List Traced) (new : World) → ScriptRules script → ScriptHasOctets script
    → AreCoresOf script.scenario cores →
    Run cores script (take count script.events) trace new → SoundRun cores script (take count script.events) trace new

abbrev pub ReadableEvents : Type 0
ReadableEvents = (script : Script) (count : ℕ) → ScriptRules script → ScriptHasOctets script → SoundEvents script (take count script.events)

abbrev pub ReadableEvent : Type 0
ReadableEvent = (scenario : Scenario) (event : Event) → Rules scenario → IsEventOf scenario event → EventHasOctets event → IsSoundEvent scenario event

-- ---- lines

module _ (readable_event : ReadableEvent) (readable_runs : ReadableRuns)
    (done : (cores : Cores) (script : Script) (events : List Timed) (trace : List Traced) (world : World) → SoundRun cores script events trace world
    → (timed : Timed) → IsSoundEvent script.scenario timed.event →
    (acts : List Happened) (new : World) → outcome world timed ≡ Done acts new → All (IsLineOf script.scenario) (lines_in acts))
    (halted : (cores : Cores) (script : Script) (events : List Timed) (trace : List Traced) (world : World) → SoundRun cores script events trace world
    → (timed : Timed) → IsSoundEvent script.scenario timed.event →
    (acts : List Happened) (node : NodeId) → outcome world timed ≡ Halted acts node
    → All (IsLineOf script.scenario) (lines_in acts ++ lines.Halt timed.line node ∷ []))
    (output : Output) (scenario : Scenario) (timed : Timed) (view : WorldView) (so_far : SoFar) (place : Place output scenario timed view so_far)
  where
    sound_here : SoundRun place.cores place.script (take place.count place.script.events) place.trace place.state
    sound_here =
        readable_runs place.cores place.script place.count place.trace place.state place.thereafter.rules place.octets place.thereafter.is.of_scenario
        place.thereafter.is.run

    sound_next : IsSoundEvent place.script.scenario timed.event
    sound_next =
        readable_event place.script.scenario timed.event place.thereafter.rules.scenario
        (each_at (λ (t : Timed). IsEventOf place.script.scenario t.event) place.script.events place.count timed place.thereafter.rules.events place.next)
        (each_at (λ (t : Timed). EventHasOctets t.event) place.script.events place.count timed place.octets.events place.next)

    by_outcome : (o : Outcome) → outcome place.state timed ≡ o → All (IsLineOf place.script.scenario) (event_lines timed.line o)
    by_outcome (Done acts new) e =
        done place.cores place.script (take place.count place.script.events) place.trace place.state sound_here timed sound_next acts new e
    by_outcome (Halted acts node) e =
        halted place.cores place.script (take place.count place.script.events) place.trace place.state sound_here timed sound_next acts node e

    -- The lines of the next event name what is there.
    pub lines_known : All (IsLineOf scenario) (event_lines timed.line (outcome place.state timed))
    lines_known =
        subst (λ (s : Scenario). All (IsLineOf s) (event_lines timed.line (outcome place.state timed))) place.of_scenario
        (by_outcome (outcome place.state timed) refl)

-- ---- hops

-- what `hops_have_spellings` says
abbrev pub SpelledHops : Type 0
SpelledHops =
    (cores : Cores) (script : Script) (count : ℕ) (trace : List Traced) (new : World) → ScriptRules script
    → SoundRun cores script (take count script.events) trace new →
    All IsHop (hops_of script.events (report_of trace))

-- what `hop_lines_name_datagrams` says
abbrev pub NamedHops : Type 0
NamedHops =
    (cores : Cores) (script : Script) (count : ℕ) (trace : List Traced) (new : World) → ScriptRules script
    → SoundRun cores script (take count script.events) trace new →
    NameDatagrams script.events (report_of trace)

module _ (readable_runs : ReadableRuns) (spelled : SpelledHops)
    (output : Output) (scenario : Scenario) (timed : Timed) (view : WorldView) (so_far : SoFar) (place : Place output scenario timed view so_far)
  where
    abbrev hops_by : Outcome → List CoreHop
    hops_by o = event_hops place.script.events (report_of place.trace) place.count (event_lines timed.line o)

    hops_after : (first more : List CoreHop) → All IsHop (first ++ more) → All IsHop more
    hops_after first more all = All-from_recursion IsHop more (each_after IsHop first more (recursion_from_All IsHop (first ++ more) all))

    spelled_by : (o : Outcome) → outcome place.state timed ≡ o → All IsHop (hops_by o)
    spelled_by (Done acts new) e =
        let run = place.thereafter.is.run in
        let rules = place.thereafter.rules in
        let trace : List Traced = place.trace ++ traced place.count acts in
        let next : Run place.cores place.script (take (suc place.count) place.script.events) trace new =
        subst (λ (l : List Timed). Run place.cores place.script l trace new) (sym (take_to place.script.events place.count timed place.next))
        (run_next place.cores place.script place.count place.trace place.state run rules timed place.next acts new e) in
        let all =
        spelled place.cores place.script (suc place.count) trace new rules
        (readable_runs place.cores place.script (suc place.count) trace new rules place.octets place.thereafter.is.of_scenario next) in
        hops_after (hops_of place.script.events (report_of place.trace)) (hops_by (Done acts new))
        (subst (All IsHop) (hops_next place.cores place.script place.count place.trace place.state run rules timed place.next acts new e) all)
    spelled_by (Halted acts node) e =
        let own = lines_in acts ++ lines.Halt timed.line node ∷ [] in
        subst (All IsHop) (sym (halting_hops place.state timed acts node e place.script.events
        (refused_lines (report_of place.trace) ++ flat_map refused_line own) place.count)) (All-from_recursion IsHop [] tt)

    -- The hops of the next event have spellings.
    pub hops_known : All IsHop (hops_by (outcome place.state timed))
    hops_known = spelled_by (outcome place.state timed) refl

-- ---- whole runs, and runs that halt

every_event : (script : Script) → take (length script.events) script.events ≡ script.events
every_event script = take_all (length script.events) script.events (omega arith)

-- what `settle_settles` and `drain_drains` say of the events within a run
abbrev pub SettlesWithin : Type 0
SettlesWithin =
    (cores : Cores) (script : Script) (before after : List Timed) (line : ℕ) (trace : List Traced) (new : World)
    → SoundRun cores script (before ++ settle_at line ∷ after) trace new →
    IsBehind cores script (before ++ settle_at line ∷ []) trace IsSettled

abbrev pub DrainsWithin : Type 0
DrainsWithin =
    (cores : Cores) (script : Script) (before after : List Timed) (line : ℕ) (trace : List Traced) (new : World)
    → Run cores script (before ++ drain_at line ∷ after) trace new →
    IsBehind cores script (before ++ drain_at line ∷ []) trace IsDrained

-- what `state_lines_report_unready` says
abbrev pub ReportsReady : Type 0
ReportsReady =
    (cores : Cores) (script : Script) (events : List Timed) (trace : List Traced) (new : World) → Rules script.scenario → Rises 0 events
    → Run cores script events trace new →
    ReportsUnready script.scenario events (refused_lines (report_of trace)) (report_of trace)

-- what `runs_keep_the_label_rule` says of the events that come next
abbrev pub KeepsRule : Type 0
KeepsRule =
    (cores : Cores) (script : Script) (events more : List Timed) (trace : List Traced) (new : World) → SoundRun cores script events trace new
    → SoundEvents script more → ThroughoutEvents LabelRule new more

module _ (settled : SettlesWithin) (drained : DrainsWithin) where
  settles_in : (cores : Cores) (script : Script) (events : List Timed) (trace : List Traced) (new : World) → SoundRun cores script events trace new
      → Settles cores script events trace
  settles_in cores script events trace new sound = record {
    settled =
        λ before after line parts. settled cores script before after line trace new
        (subst (λ (l : List Timed). SoundRun cores script l trace new) parts sound);
    drained =
        λ before after line parts. drained cores script before after line trace new
        (subst (λ (l : List Timed). Run cores script l trace new) parts sound.run);
  }

-- before any event
rule_from_start : KeepsRule → (cores : Cores) (script : Script) → SoundScenario script.scenario → AreCoresOf script.scenario cores
    → SoundEvents script script.events → ThroughoutEvents LabelRule (start script.scenario cores) script.events
rule_from_start rule cores script scenario of_scenario sound =
    rule cores script [] script.events [] (start script.scenario cores)
    (record { scenario = scenario; of_scenario = of_scenario; sound_events = tt; run = (refl, refl) }) sound

module _ (readable_runs : ReadableRuns) (named : NamedHops) (spelled : SpelledHops) (rule : KeepsRule) (tells : ReportsReady)
    (settled : SettlesWithin) (drained : DrainsWithin)
    (safe : (cores : Cores) (script : Script) (events : List Timed) (trace : List Traced) (new : World) → SoundRun cores script events trace new
    → Rises 0 events →
    Safe script.scenario events (refused_lines (report_of trace)) (report_of trace))
    (once : (cores : Cores) (script : Script) (events : List Timed) (trace : List Traced) (new : World) → SoundRun cores script events trace new
    → Rises 0 events →
    Once script.scenario events (refused_lines (report_of trace)) (report_of trace))
    (local : (cores : Cores) (script : Script) (events : List Timed) (trace : List Traced) (new : World) → SoundRun cores script events trace new
    → Local new trace)
    (fair : (cores : Cores) (script : Script) (trace : List Traced) (new : World) (report : ReportLines)
    → SoundRun cores script script.events trace new → Rises 0 script.events →
    values report.lines ≡ lines_of (report_of trace) → HasNoOffence script report)
    (plain_fair : (cores : Cores) (script : Script) (trace : List Traced) (new : World) (report : ReportLines)
    → SoundRun cores script script.events trace new → Rises 0 script.events →
    values report.lines ≡ lines_of (plain (report_of trace)) → HasNoOffence script report) where
  -- A run of all events is as it is to be.
  pub whole_run : (cores : Cores) (script : Script) (trace : List Traced) (state : World) → ScriptRules script → ScriptHasOctets script
      → AreCoresOf script.scenario cores →
      Run cores script script.events trace state → IsWholeRun cores script trace state
  whole_run cores script trace state rules octets of_scenario run =
      let all = every_event script in
      let first : SoundRun cores script (take (length script.events) script.events) trace state =
      readable_runs cores script (length script.events) trace state rules octets of_scenario
      (subst (λ (l : List Timed). Run cores script l trace state) (sym all) run) in
      let sound : SoundRun cores script script.events trace state = subst (λ (l : List Timed). SoundRun cores script l trace state) all first in
      record {
        of_scenario = of_scenario;
        run = run;
        safe = safe cores script script.events trace state sound rules.lines;
        once = once cores script script.events trace state sound rules.lines;
        local = local cores script script.events trace state sound;
        label_rule = rule_from_start rule cores script sound.scenario of_scenario sound.sound_events;
        unready = tells cores script script.events trace state rules.scenario rules.lines run;
        settles = settles_in settled drained cores script script.events trace state sound;
        fair = λ report same. elim same [
          | inl whole ↦ fair cores script trace state report sound rules.lines whole
          | inr told ↦ plain_fair cores script trace state report sound rules.lines told
        ];
        named = named cores script (length script.events) trace state rules first;
        spelled = spelled cores script (length script.events) trace state rules first;
      }

-- the first events of a script, cut off before the one that runs out of labels
halt_cut : (script : Script) (before after : List Timed) → script.events ≡ before ++ after → take (length before) script.events ≡ before
halt_cut script before after parts =
    ap (take (length before)) parts ∙ take-append-le (length before) before after (omega arith) ∙ take_all (length before) before (omega arith)

module _ (readable_events : ReadableEvents) (named : NamedHops) (spelled : SpelledHops) (rule : KeepsRule) (tells : ReportsReady)
    (settled : SettlesWithin) (drained : DrainsWithin)
    (safe : (cores : Cores) (script : Script) (report : List Entry) (node : NodeId) → SoundHalt cores script report node → Rises 0 script.events
    → Safe script.scenario script.events (refused_lines report) report)
    (once : (cores : Cores) (script : Script) (report : List Entry) (node : NodeId) → (run : SoundHalt cores script report node)
    → Rises 0 script.events →
    Once script.scenario run.halt.before (refused_lines (report_of run.halt.trace)) (report_of run.halt.trace))
    (local : (cores : Cores) (script : Script) (report : List Entry) (node : NodeId) → (run : SoundHalt cores script report node) →
    Local run.halt.world (run.halt.trace ++ traced (length run.halt.before) run.halt.acts)) where
  -- A run that halts is as it is to be.
  pub halted_run : (cores : Cores) (script : Script) (report : List Entry) (node : NodeId) → ScriptRules script → ScriptHasOctets script
      → Halts cores script report node → IsHaltedRun cores script report node
  halted_run cores script report node rules octets halt =
      let sound : SoundHalt cores script report node = record {
        scenario = record { rules = rules.scenario; octets = octets.scenario };
        sound_events = subst (SoundEvents script) (every_event script) (readable_events script (length script.events) rules octets);
        halt = halt;
      } in
      let cut : take (length halt.before) script.events ≡ halt.before = halt_cut script halt.before (halt.timed ∷ halt.after) halt.events in
      let before : SoundRun cores script (take (length halt.before) script.events) halt.trace halt.world =
      subst (λ (l : List Timed). SoundRun cores script l halt.trace halt.world) (sym cut) (run_before cores script report node sound) in
      let hops : hops_of script.events report ≡ hops_of script.events (report_of halt.trace) =
      ap (hops_of script.events) halt.whole ∙ hops_at_halt cores script (length halt.before) halt.trace halt.world before.run halt.timed halt.acts
      node halt.lacks in
      record {
        halt = halt;
        safe = safe cores script report node sound rules.lines;
        once = once cores script report node sound rules.lines;
        local = local cores script report node sound;
        label_rule = rule_from_start rule cores script sound.scenario halt.of_scenario sound.sound_events;
        unready =
            tells cores script halt.before halt.trace halt.world rules.scenario
            (rises_first 0 halt.before (halt.timed ∷ halt.after) (subst (Rises 0) halt.events rules.lines)) halt.run;
        settles = settles_in settled drained cores script halt.before halt.trace halt.world (run_before cores script report node sound);
        named = named cores script (length halt.before) halt.trace halt.world rules before;
        spelled = subst (All IsHop) (sym hops) (spelled cores script (length halt.before) halt.trace halt.world rules before);
      }

-- ---- the report that goes on

module _ (whole : (cores : Cores) (script : Script) (trace : List Traced) (state : World) → ScriptRules script → ScriptHasOctets script
    → AreCoresOf script.scenario cores →
    Run cores script script.events trace state → IsWholeRun cores script trace state)
    (halted : (cores : Cores) (script : Script) (report : List Entry) (node : NodeId) → ScriptRules script → ScriptHasOctets script
    → Halts cores script report node → IsHaltedRun cores script report node)
    (either : (cores : Cores) (script : Script) (events : List Timed) → AreCoresOf script.scenario cores
    → parts.RunsOrHalts cores (parts.of_events script events))
    (never_both : (cores : Cores) (script : Script) (events : List Timed) (trace : List Traced) (new : World) (report : List Entry) (node : NodeId)
    → Run cores script events trace new →
    Halts cores (parts.of_events script events) report node → ⊥)
    (one_run : (cores : Cores) (script : Script) (events : List Timed) (trace other : List Traced) (new last : World)
    → Run cores script events trace new → Run cores script events other last →
    (trace ≡ other) × (new ≡ last))
    (in_two : (cores : Cores) (script : Script) (first more : List Timed) (trace : List Traced) (new : World)
    → Run cores script (first ++ more) trace new → parts.RunsInTwo cores script first more trace new)
    (halt_begins : (cores : Cores) (script : Script) (report : List Entry) (node : NodeId) (halt : Halts cores script report node)
    (first more : List Timed) → halt.before ≡ first ++ more →
    parts.ReportBegins cores script first report)
    (cores : Cores) (script : Script) (count : ℕ) (trace : List Traced) (state : World) (rules : ScriptRules script) (octets : ScriptHasOctets script)
    (of_scenario : AreCoresOf script.scenario cores)
    (run : Run cores script (take count script.events) trace state) where
  abbrev first : List Timed
  first = take count script.events

  -- The hops of a run that goes on begin with those of the first events.
  later_hops : (more : List Timed) (late : List Traced) (new : World) → Rises 0 (first ++ more)
      → Run cores script (first ++ more) (trace ++ late) new →
      (hops : List CoreHop) × (hops_of script.events (report_of (trace ++ late)) ≡ hops_of script.events (report_of trace) ++ hops)
  later_hops more late new rises goes_on = (
    flat_map (hops_in script.events (refused_lines (report_of trace) ++ refused_lines (report_of late))) (report_of late),
    hops_go_on cores script count trace state run more late new rises goes_on,
  )

  on_to_the_end : (all : List Traced) (new : World) → Run cores script script.events all new → ReportGoesOn script (report_of trace)
  on_to_the_end all new to_end =
      let two =
      in_two cores script first (drop count script.events) all new
      (subst (λ (l : List Timed). Run cores script l all new) (sym (take-append-drop count script.events)) to_end) in
      let same = one_run cores script first trace two.early state two.middle run two.begins in
      let joined : all ≡ trace ++ two.late = two.whole ∙ ap (λ (t : List Traced). t ++ two.late) (sym same.0) in
      let on = later_hops (drop count script.events) two.late new
      (subst (λ (l : List Timed). Rises 0 l) (sym (take-append-drop count script.events)) rules.lines)
      (subst (λ (l : List Timed). Run cores script l (trace ++ two.late) new) (sym (take-append-drop count script.events))
      (subst (λ (t : List Traced). Run cores script script.events t new) joined to_end)) in
      record {
        report = report_of all;
        is_report = OfAll cores all new (whole cores script all new rules octets of_scenario to_end) refl;
        more = report_of two.late;
        whole = ap report_of two.whole ∙ report_of-append two.early two.late
            ∙ ap (λ (t : List Traced). report_of t ++ report_of two.late) (sym same.0);
        more_hops = on.0;
        hops = ap (λ (t : List Traced). hops_of script.events (report_of t)) joined ∙ on.1;
      }

  -- The events before the halt are no fewer than those that ran.
  module _ (report : List Entry) (node : NodeId) (halt : Halts cores script report node) where
    no_earlier : length halt.before < count → ⊥
    no_earlier less =
        let rest : ℕ = count - (length halt.before + 1) in
        let sum : count ≡ length halt.before + suc rest = omega (arith, less) in
        let taken : first ≡ halt.before ++ halt.timed ∷ take rest halt.after =
        ap (take count) halt.events ∙ ap (λ (n : ℕ). take n (halt.before ++ halt.timed ∷ halt.after)) sum
        ∙ take-append-add halt.before (halt.timed ∷ halt.after) (suc rest) in
        never_both cores script first trace state report node run (record {
          of_scenario = of_scenario;
          before = halt.before;
          timed = halt.timed;
          after = take rest halt.after;
          events = taken;
          trace = halt.trace;
          world = halt.world;
          run = halt.run;
          acts = halt.acts;
          lacks = halt.lacks;
          whole = halt.whole;
        })

    -- Those of a run that halts are those of the run before the event that runs out of labels.
    halt_hops : halt.before ≡ first ++ drop count halt.before
        → (hops : List CoreHop) × (hops_of script.events report ≡ hops_of script.events (report_of trace) ++ hops)
    halt_hops cut =
        let two =
        in_two cores script first (drop count halt.before) halt.trace halt.world
        (subst (λ (l : List Timed). Run cores script l halt.trace halt.world) cut halt.run) in
        let same = one_run cores script first trace two.early state two.middle run two.begins in
        let joined : halt.trace ≡ trace ++ two.late = two.whole ∙ ap (λ (t : List Traced). t ++ two.late) (sym same.0) in
        let rises : Rises 0 halt.before = rises_first 0 halt.before (halt.timed ∷ halt.after) (subst (Rises 0) halt.events rules.lines) in
        let on = later_hops (drop count halt.before) two.late halt.world (subst (λ (l : List Timed). Rises 0 l) cut rises)
        (subst (λ (l : List Timed). Run cores script l (trace ++ two.late) halt.world) cut
        (subst (λ (t : List Traced). Run cores script halt.before t halt.world) joined halt.run)) in
        let all : take (length halt.before) script.events ≡ halt.before = halt_cut script halt.before (halt.timed ∷ halt.after) halt.events in
        let run_whole : Run cores script (take (length halt.before) script.events) halt.trace halt.world =
        subst (λ (l : List Timed). Run cores script l halt.trace halt.world) (sym all) halt.run in (
          on.0,
          ap (hops_of script.events) halt.whole
              ∙ hops_at_halt cores script (length halt.before) halt.trace halt.world run_whole halt.timed halt.acts node halt.lacks
              ∙ ap (λ (t : List Traced). hops_of script.events (report_of t)) joined ∙ on.1,
        )

    on_to_the_halt : count ≤ length halt.before → ReportGoesOn script (report_of trace)
    on_to_the_halt less =
        let front : first ≡ take count halt.before = ap (take count) halt.events ∙ take-append-le count halt.before (halt.timed ∷ halt.after) less in
        let cut : halt.before ≡ first ++ drop count halt.before =
        sym (take-append-drop count halt.before) ∙ ap (λ (l : List Timed). l ++ drop count halt.before) (sym front) in
        let begins = halt_begins cores script report node halt first (drop count halt.before) cut in
        let same = one_run cores script first trace begins.early state begins.middle run begins.begins in
        let before = halt_hops cut in
        record {
          report = report;
          is_report = UpToHalt cores node (halted cores script report node rules octets halt);
          more = begins.more;
          whole = begins.whole ∙ ap (λ (t : List Traced). report_of t ++ begins.more) (sym same.0);
          more_hops = before.0;
          hops = before.1;
        }

  by_end : parts.RunsOrHalts cores script → ReportGoesOn script (report_of trace)
  by_end (parts.AllRun all new to_end) = on_to_the_end all new to_end
  by_end (parts.OneHalts report node halt) = elim (cases_lt (length halt.before) count) [
    | inl less ↦ absurd (no_earlier report node halt less)
    | inr less ↦ on_to_the_halt report node halt less
  ]

  -- The report of the script begins with what happens in the first events.
  pub goes_on : ReportGoesOn script (report_of trace)
  goes_on = by_end (either cores script script.events of_scenario)

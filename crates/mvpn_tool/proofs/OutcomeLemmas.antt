-- Laws of what was replayed so far.
use Rattle.std.proofs.Common.{◌≡◌, ℕ, zero, suc, ◌+◌, ◌<◌, ◌⊎◌, inl, inr, List, [], ◌∷◌, ◌++◌, length, take, drop, get_or, slice_get, refl, sym, ap, subst, ◌∙◌, arith}
use Rattle.std.specs.Prelude.{Option, Some, Result, Ok, Err}
use Rattle.std.specs.List.{AllByRecursion}
use Rattle.std.proofs.lemmas.List.{take_all}
use Rattle.std.proofs.lemmas.Option.{slice_get_read}
use Rattle.mv_base.specs.declared.ids.NodeId.{NodeId}
use Rattle.mv_io.specs.Octets.{Appended, AppendedPart}
use Rattle.mv_io.proofs.OctetsLemmas.{appended-append, part_after, part_of_front}
use Rattle.scenario_defs.specs.Rules.{ScriptRules}
use Rattle.scenario_defs.specs.declared.event.Script.{Script}
use Rattle.scenario_defs.specs.declared.event.Timed.{Timed}
use Rattle.scenario_defs.specs.declared.report.ReportLine.TheVariants as lines
use Rattle.scenario_defs.specs.declared.scenario.Scenario.{Scenario}
use Rattle.scenario_defs.specs.declared.report.ReportLine.{ReportLine}
use Rattle.audit_text.specs.Texts.{IsKnown}
use Rattle.mvpn_model.specs.Report.{Entry, lines_of}
use Rattle.network_events.specs.delivery_laws.Flood.{lines_in}
use Rattle.network_defs.specs.Costs.{AreCoresOf, Cores}
use Rattle.network_defs.specs.Events.{Happened, Outcome, Done, Halted}
use Rattle.network_defs.specs.Run.{Halts, Run, Traced, outcome, report_of, traced}
use Rattle.network_defs.specs.World.{World, start}
use Rattle.network_events.proofs.delivery_laws.Splits.{cut_at, take_to}
use Rattle.hop_laws.specs.run_laws.Octets.{ScriptHasOctets}
use Rattle.network_events.specs.Behind.{IsBegun}
use Rattle.network_events.specs.WorldView.{WorldView}
use Rattle.mvpn_tool.specs.Known.{KnownRuns}
use Rattle.hop_laws.proofs.Ends.{run_next}
use Rattle.mvpn_tool.specs.Outcome.{EventEnds, GoesOn, Lacks, OnWay, Place, Replayed, Replays, ReplaysPart, ReplaysUpToHalt, ReplaysWhole, written_at}
use Rattle.mvpn_tool.specs.Output.{IsKept, event_output, front_of, output_of}
use Rattle.mvpn_tool.specs.Report.{UpToHalt, event_lines}
use Rattle.mvpn_tool.specs.declared.command.Output.{Output}
use Rattle.mvpn_tool.specs.declared.command.Output.TheVariants as outputs
use Rattle.mvpn_tool.specs.declared.sent_hops.SoFar.{SoFar}
use Rattle.mvpn_tool.specs.declared.stop.Stop.{Stop}
use Rattle.mvpn_tool.specs.declared.stop.Stop.TheVariants as stops
use Rattle.mvpn_tool.proofs.FirstEventLemmas.{after_none}
use Rattle.mvpn_tool.proofs.OutputLemmas.{output_begins, output_halted, output_more, output_none}
use Rattle.mvpn_tool.proofs.TextLemmas.{lines_at, lines_of-append, report_of-append}

abbrev ended : Stop → Result WorldView Stop
ended stop = Err stop

length_first : {X : Type 0} (xs : List X) (place : ℕ) (x : X) → slice_get xs place ≡ Some x → length (take place xs) ≡ place
length_first [] place x e = absurd cc
length_first (y ∷ xs) zero x e = refl
length_first (y ∷ xs) (suc place) x e = ap suc (length_first xs place x e)

-- the report of a run that halts in the event of that number and line: what happened before, the acts that were done, and the line that says so
abbrev pub halted_report : List Traced → ℕ → ℕ → List Happened → NodeId → List Entry
halted_report trace count line acts node = report_of (trace ++ traced count acts) ++ record { event = count; lines = lines.Halt line node ∷ [] } ∷ []

-- Where the event at that place runs out of labels, the run halts there.
pub halts_at : (cores : Cores) (script : Script) (count : ℕ) (trace : List Traced) (state : World) (timed : Timed) (acts : List Happened)
    (node : NodeId) → AreCoresOf script.scenario cores →
    Run cores script (take count script.events) trace state → slice_get script.events count ≡ Some timed → outcome state timed ≡ Halted acts node →
    Halts cores script (halted_report trace count timed.line acts node) node
halts_at cores script count trace state timed acts node of_scenario run at lacks = record {
  of_scenario = of_scenario;
  before = take count script.events;
  timed = timed;
  after = drop (suc count) script.events;
  events = cut_at script.events count timed at;
  trace = trace;
  world = state;
  run = run;
  acts = acts;
  lacks = lacks;
  whole = ap (λ (n : ℕ). report_of (trace ++ traced n acts) ++ record { event = n; lines = lines.Halt timed.line node ∷ [] } ∷ [])
      (sym (length_first script.events count timed at));
}

known_append : (scenario : Scenario) (first more : List ReportLine) → AllByRecursion (IsKnown scenario) first → AllByRecursion (IsKnown scenario) more
    → AllByRecursion (IsKnown scenario) (first ++ more)
known_append scenario [] more a b = b
known_append scenario (line ∷ first) more a b = (a.0, known_append scenario first more a.1 b)

-- The lines of one event more are known.
known_more : (scenario : Scenario) (trace : List Traced) (count : ℕ) (acts : List Happened)
    → AllByRecursion (IsKnown scenario) (lines_of (report_of trace)) → AllByRecursion (IsKnown scenario) (lines_in acts) →
    AllByRecursion (IsKnown scenario) (lines_of (report_of (trace ++ traced count acts)))
known_more scenario trace count acts a b =
    subst (AllByRecursion (IsKnown scenario)) (sym
    (ap lines_of (report_of-append trace (traced count acts)) ∙ lines_of-append (report_of trace) (report_of (traced count acts))))
    (known_append scenario (lines_of (report_of trace)) (lines_of (report_of (traced count acts))) a
    (subst (AllByRecursion (IsKnown scenario)) (sym (lines_at count acts)) b))

-- nothing happened yet
nothing_kept : (output : Output) (events : List Timed) (so_far : SoFar) → so_far.clock ≡ 0 → so_far.sent ≡ [] → IsKept output events [] 0 so_far
nothing_kept (outputs.Report detail) events so_far clock sent = tt
nothing_kept outputs.Hops events so_far clock sent = (clock, sent)

module _ (known : KnownRuns) (output : Output) (script : Script) (rules : ScriptRules script) (octets : ScriptHasOctets script) where
  abbrev text : List Entry → List ℕ
  text report = output_of output script report

  -- At most the front was written.
  replayed-front : (old new : Option (List ℕ)) → AppendedPart old new (front_of output) → ReplaysPart output script old new
  replayed-front old new part =
      let own = known.cores script.scenario rules.scenario in
      let on = known.begins own.0 script 0 [] (start script.scenario own.0) rules octets own.1 (refl, refl) in
      let begins = output_begins known.text output script [] on in
      record {
        report = on.report;
        is_report = on.is_report;
        text = subst (AppendedPart old new) (sym begins.1)
            (part_of_front old new (text []) begins.0 (subst (AppendedPart old new) (sym (output_none known.text output script)) part));
      }

  -- No event was replayed yet.
  pub replayed-none : (old new : Option (List ℕ)) (view : WorldView) → IsBegun script.scenario view → Appended old new (front_of output)
      → (so_far : SoFar) → so_far.clock ≡ 0 → so_far.sent ≡ [] → OnWay output script 0 old new view so_far
  replayed-none old new view begun front so_far clock sent =
      let own = known.cores script.scenario rules.scenario in
      record {
        replayed = record {
          cores = own.0;
          trace = [];
          state = start script.scenario own.0;
          thereafter = after_none script rules view begun own.0 own.1;
          known = tt;
          text = subst (Appended old new) (sym (output_none known.text output script)) front;
        };
        kept = nothing_kept output script.events so_far clock sent;
      }

  module _ (scenario : Scenario) (names : script.scenario ≡ scenario) (count : ℕ) (timed : Timed) (old mid new : Option (List ℕ)) (view : WorldView)
      (so_far : SoFar)
      (at : slice_get script.events count ≡ Some timed) (way : OnWay output script count old mid view so_far) where
    abbrev r : Replayed output script count old mid view
    r = way.replayed

    -- where the next event is met
    abbrev pub place_of : Place output scenario timed view so_far
    place_of = record {
      cores = way.replayed.cores;
      script = script;
      count = count;
      trace = way.replayed.trace;
      state = way.replayed.state;
      of_scenario = names;
      octets = octets;
      thereafter = way.replayed.thereafter;
      next = at;
      kept = way.kept;
    }

    -- what is written of the event, by the names of the script's scenario
    abbrev own_by : Outcome → List ℕ
    own_by o = event_output output script.scenario script.events (report_of r.trace) count (event_lines timed.line o)

    abbrev own : List ℕ
    own = written_at output scenario timed view so_far place_of

    own_text : own ≡ own_by (outcome r.state timed)
    own_text =
        ap (λ (s : Scenario). event_output output s script.events (report_of r.trace) count (event_lines timed.line (outcome r.state timed)))
        (sym names)

    more_text : (acts : List Happened) (next : World) → outcome r.state timed ≡ Done acts next
        → text (report_of (r.trace ++ traced count acts)) ≡ text (report_of r.trace) ++ own
    more_text acts next is =
        output_more known.text r.cores script rules count r.trace r.state r.thereafter.is.run timed at acts next is output
        ∙ ap (λ (l : List ℕ). text (report_of r.trace) ++ l) (ap own_by (sym is) ∙ sym own_text)

    -- One event more.
    replayed-more : (now : WorldView) (kept_now : SoFar) → GoesOn output scenario timed view so_far place_of mid new now kept_now
        → OnWay output script (count + 1) old new now kept_now
    replayed-more now kept_now g = record {
      replayed = record {
        cores = r.cores;
        trace = r.trace ++ traced count g.acts;
        state = g.state;
        thereafter = g.thereafter;
        known = known_more script.scenario r.trace count g.acts r.known
            (subst (λ (s : Scenario). AllByRecursion (IsKnown s) (lines_in g.acts)) (sym names) g.known);
        text = subst (Appended old new) (sym (more_text g.acts g.state g.is))
            (appended-append old mid new (text (report_of r.trace)) own r.text g.text);
      };
      kept = g.kept;
    }

    -- ---- where the event runs out of labels

    abbrev own_report : List Happened → NodeId → List Entry
    own_report acts node = halted_report r.trace count timed.line acts node

    halts_here : (acts : List Happened) (node : NodeId) → outcome r.state timed ≡ Halted acts node → Halts r.cores script (own_report acts node) node
    halts_here acts node lacks = halts_at r.cores script count r.trace r.state timed acts node r.thereafter.is.of_scenario r.thereafter.is.run at lacks

    halted_text : (acts : List Happened) (node : NodeId) → outcome r.state timed ≡ Halted acts node
        → text (own_report acts node) ≡ text (report_of r.trace) ++ own
    halted_text acts node lacks =
        output_halted known.text r.cores script rules count r.trace r.state r.thereafter.is.run timed at acts node lacks output
        ∙ ap (λ (l : List ℕ). text (report_of r.trace) ++ l) (ap own_by (sym lacks) ∙ sym own_text)

    replayed-halted : Lacks output scenario timed view so_far place_of mid new → ReplaysUpToHalt output script old new
    replayed-halted l = record {
      cores = r.cores;
      report = own_report l.acts l.node;
      node = l.node;
      halted = known.halted r.cores script (own_report l.acts l.node) l.node rules octets (halts_here l.acts l.node l.is);
      text = subst (Appended old new) (sym (halted_text l.acts l.node l.is))
          (appended-append old mid new (text (report_of r.trace)) own r.text l.text);
    }

    -- ---- where it ended early

    run_more : (acts : List Happened) (next : World) → outcome r.state timed ≡ Done acts next
        → Run r.cores script (take (suc count) script.events) (r.trace ++ traced count acts) next
    run_more acts next is =
        subst (λ (l : List Timed). Run r.cores script l (r.trace ++ traced count acts) next) (sym (take_to script.events count timed at))
        (run_next r.cores script count r.trace r.state r.thereafter.is.run rules timed at acts next is)

    module _ (part : AppendedPart mid new own) where
      both_parts : AppendedPart old new (text (report_of r.trace) ++ own)
      both_parts = part_after old mid new (text (report_of r.trace)) own r.text part

      part_by : (o : Outcome) → outcome r.state timed ≡ o → ReplaysPart output script old new
      part_by (Done acts next) is =
          let trace : List Traced = r.trace ++ traced count acts in
          let on = known.begins r.cores script (suc count) trace next rules octets r.thereafter.is.of_scenario (run_more acts next is) in
          let begins = output_begins known.text output script (report_of trace) on in
          let all : text on.report ≡ (text (report_of r.trace) ++ own) ++ begins.0 =
          begins.1 ∙ ap (λ (l : List ℕ). l ++ begins.0) (more_text acts next is) in
          record {
            report = on.report;
            is_report = on.is_report;
            text = subst (AppendedPart old new) (sym all) (part_of_front old new (text (report_of r.trace) ++ own) begins.0 both_parts);
          }
      part_by (Halted acts node) is = record {
        report = own_report acts node;
        is_report = UpToHalt r.cores node (known.halted r.cores script (own_report acts node) node rules octets (halts_here acts node is));
        text = subst (AppendedPart old new) (sym (halted_text acts node is)) both_parts;
      }

      replayed-part : ReplaysPart output script old new
      replayed-part = part_by (outcome r.state timed) refl

    -- ---- what an event leaves

    pub after-event : (now : WorldView) (kept_now : SoFar) → EventEnds output scenario timed view now so_far kept_now mid new (Ok tt)
        → OnWay output script (count + 1) old new now kept_now
    after-event now kept_now ends = replayed-more now kept_now (ends.made place_of)

    pub after-stop : (now : WorldView) (kept_now : SoFar) (stop : Stop) → EventEnds output scenario timed view now so_far kept_now mid new (Err stop)
        → Replays output script (Err stop) old new
    after-stop now kept_now stops.Label ends = replayed-halted (ends.lacks refl place_of)
    after-stop now kept_now stops.Text ends = replayed-part (ends.part place_of)
    after-stop now kept_now stops.Source ends = replayed-part (ends.part place_of)
    after-stop now kept_now stops.Sink ends = replayed-part (ends.part place_of)
    after-stop now kept_now stops.Memory ends = replayed-part (ends.part place_of)

  -- It ended before the first event, with at most the front written.
  pub never-begun : (old new : Option (List ℕ)) (result : Result WorldView Stop) (stop : Stop) → result ≡ Err stop
      → (stop ≡ stops.Sink) ⊎ (stop ≡ stops.Memory) → AppendedPart old new (front_of output) → Replays output script result old new
  never-begun old new result stop is (inl sink) part =
      subst (λ (r : Result WorldView Stop). Replays output script r old new) (sym (is ∙ ap ended sink)) (replayed-front old new part)
  never-begun old new result stop is (inr memory) part =
      subst (λ (r : Result WorldView Stop). Replays output script r old new) (sym (is ∙ ap ended memory)) (replayed-front old new part)

  -- All events were replayed.
  pub replayed-all : (count : ℕ) (old new : Option (List ℕ)) (view : WorldView) (so_far : SoFar) → count ≡ length script.events
      → OnWay output script count old new view so_far → ReplaysWhole output script old new view
  replayed-all count old new view so_far all way =
      let whole : Replayed output script (length script.events) old new view =
      subst (λ (n : ℕ). Replayed output script n old new view) all way.replayed in
      record {
        replayed = whole;
        whole = known.whole whole.cores script whole.trace whole.state rules octets whole.thereafter.is.of_scenario
            (subst (λ (l : List Timed). Run whole.cores script l whole.trace whole.state)
            (take_all (length script.events) script.events (omega arith)) whole.thereafter.is.run);
      }

-- The event at a place of the list is that of the script.
pub event_at : (script : Script) (timeds : List Timed) (i : ℕ) (timed : Timed) → timeds ≡ script.events → i < length timeds
    → timed ≡ get_or timeds i timed → slice_get script.events i ≡ Some timed
event_at script timeds i timed same less is =
    subst (λ (l : List Timed). slice_get l i ≡ Some timed) same (slice_get_read timeds (length timeds) i timed refl less is)

-- Each hop of a run has a spelling, and each `hop` line names a datagram: event by event.
use Rattle.std.proofs.Common.{◌≡◌, ℕ, ◌+◌, ◌++◌, take, drop, length, List, [], ◌∷◌, refl, sym, ap, subst, ◌∙◌, All, append_assoc, length-append, arith}
use Rattle.std.specs.List.{flat_map, AllByRecursion}
use Rattle.std.proofs.lemmas.List.{take-append-drop, take_at}
use Rattle.std.proofs.lemmas.List.Elements.{All-from_recursion, recursion_from_All}
use Rattle.core_pcap.specs.Spelling.{IsHop}
use Rattle.scenario_defs.specs.Rules.{Rises, ScriptRules}
use Rattle.scenario_defs.specs.Text.{IsLineOf}
use Rattle.scenario_defs.specs.declared.event.Script.{Script}
use Rattle.scenario_defs.specs.declared.event.Timed.{Timed}
use Rattle.scenario_defs.specs.declared.report.ReportLine.{ReportLine}
use Rattle.scenario_defs.specs.declared.report.ReportLine.TheVariants as lines
use Rattle.mvpn_model.specs.Past.{ticks_in}
use Rattle.mvpn_model.specs.Report.{Datagram as Accepted, Entry, datagrams, refused_lines}
use Rattle.network_defs.specs.Costs.{AreCoresOf, Cores}
use Rattle.network_defs.specs.Events.{Happened}
use Rattle.network_defs.specs.Run.{Run, Runs, Traced, report_of, traced}
use Rattle.network_defs.specs.World.{World, Datagram, start}
use Rattle.delivery_laws.specs.Flood.{lines_in}
use Rattle.delivery_laws.specs.Once.{in_network}
use Rattle.delivery_laws.specs.network_laws.Honest.{IsSoundEvent}
use Rattle.delivery_laws.specs.network_laws.Sound.{SoundScenario}
use Rattle.delivery_laws.specs.network_laws.SoundRun.{SoundRun}
use Rattle.delivery_laws.proofs.Accepted.{TellsAccepted, tells_accepted}
use Rattle.delivery_laws.proofs.Sendings.{in_networks, runs_send, tells_first}
use Rattle.delivery_laws.proofs.Splits.{runs_one_more}
use Rattle.delivery_laws.proofs.OnceLemmas.{rises_first}
use Rattle.delivery_laws.proofs.network_laws.Lists.{each_append, each_front, length_map}
use Rattle.run_laws.proofs.rule_laws.Halting.{each_after}
use Rattle.run_laws.proofs.line_laws.Events.{done_names}
use Rattle.license_laws.specs.Hops.{HopsMay}
use Rattle.hop_laws.specs.Hops.{NamesDatagram, NameDatagrams, hop_by, hops_in, hops_of, sent_in}
use Rattle.hop_laws.proofs.Alive.{IsPut, ArePut}
use Rattle.hop_laws.proofs.Events.{IsKept, event_puts}
use Rattle.hop_laws.proofs.Labels.{IsLabelled, lines_labelled}
use Rattle.hop_laws.proofs.Octets.{clock_fits, octets_fit}

both_of : {X : Type 0} (P Q : X → Type 0) (xs : List X) → AllByRecursion P xs → AllByRecursion Q xs → AllByRecursion (λ x. P x × Q x) xs
both_of P Q [] p q = tt
both_of P Q (x ∷ xs) p q = ((p.0, q.0), both_of P Q xs p.1 q.1)

octets_in : Accepted → List ℕ
octets_in datagram = datagram.octets

-- what is said of a line of the event of that number: it names a datagram that was sent up to then, and nodes of the scenario
abbrev IsSaid : Script → List ℕ → ℕ → ReportLine → Type 0
IsSaid script refused number line = IsPut (length (sent_in script.events refused (number + 1))) line × IsLineOf script.scenario line

abbrev AreSaid : Script → List ℕ → List Traced → Type 0
AreSaid script refused trace = AllByRecursion (λ (step : Traced). AllByRecursion (IsSaid script refused step.event) step.happened.lines) trace

acts_said : (script : Script) (refused : List ℕ) (number : ℕ) (acts : List Happened) → AllByRecursion (IsSaid script refused number) (lines_in acts)
    → AreSaid script refused (traced number acts)
acts_said script refused number [] all = tt
acts_said script refused number (happened ∷ more) all = (
  each_front (IsSaid script refused number) happened.lines (lines_in more) all,
  acts_said script refused number more (each_after (IsSaid script refused number) happened.lines (lines_in more) all),
)

module _ (cores : Cores) (script : Script) (sound : SoundScenario script.scenario) (of_scenario : AreCoresOf script.scenario cores) (refused : List ℕ)
  where
    abbrev begin : World
    begin = start script.scenario cores

    abbrev AreSoundEvents : List Timed → Type 0
    AreSoundEvents events = AllByRecursion (λ (timed : Timed). IsSoundEvent script.scenario timed.event) events

    -- as many datagrams as the report says
    counted : (upto : List Timed) (count : ℕ) (world : World) → take count script.events ≡ upto
        → world.datagrams ≡ in_networks (datagrams refused 0 upto) → length world.datagrams ≡ length (sent_in script.events refused count)
    counted upto count world taken sent =
        ap (λ (list : List Datagram). length list) sent
        ∙ length_map in_network (datagrams refused 0 upto)
        ∙ ap (λ (l : List Timed). length (datagrams refused 0 l)) (sym taken)
        ∙ sym (length_map (λ (datagram : Accepted). datagram.octets) (datagrams refused 0 (take count script.events)))

    -- the lines of later events, after a run of the first ones
    runs_said : (more before rest : List Timed) → script.events ≡ (before ++ more) ++ rest → AreSoundEvents (before ++ more)
        → TellsAccepted refused begin (before ++ more) → (early : List Traced) (old : World) → Run cores script before early old
        → IsKept old → (number : ℕ) → number ≡ length before → (trace : List Traced) (new : World) → Runs old number more trace new
        → AreSaid script refused trace
    runs_said [] before rest parts events_sound tells early old first kept number e trace new run = subst (AreSaid script refused) (sym run.0) tt
    runs_said (timed ∷ more) before rest parts events_sound tells early old first kept number e trace new run =
        let upto : List Timed = before ++ timed ∷ [] in
        let own : List Traced = traced number run.0 in
        let so_far : List Traced = early ++ (own ++ []) in
        let grouped : upto ++ more ≡ before ++ timed ∷ more = append_assoc before (timed ∷ []) more in
        let count : length upto ≡ number + 1 = (let long = length-append before (timed ∷ []) in omega (arith, long, e)) in
        let joined : Run cores script upto so_far run.1 =
        runs_one_more before timed begin old run.1 0 early run.0 first run.3 number (omega (arith, e)) in
        let sound_then : AreSoundEvents (upto ++ more) = subst AreSoundEvents (sym grouped) events_sound in
        let tells_then : TellsAccepted refused begin (upto ++ more) = subst (TellsAccepted refused begin) (sym grouped) tells in
        let sent : run.1.datagrams ≡ in_networks (datagrams refused 0 upto) =
        runs_send refused upto begin 0 so_far run.1 (tells_first refused upto more begin tells_then) joined in
        let whole : script.events ≡ upto ++ (more ++ rest) = parts ∙ ap (λ (l : List Timed). l ++ rest) (sym grouped) ∙ append_assoc upto more rest in
        let taken : take (number + 1) script.events ≡ upto =
        ap (λ (l : List Timed). take (number + 1) l) whole ∙ take_at upto (more ++ rest) (number + 1) count in
        let puts = event_puts old kept timed run.0 run.1 run.3 in
        let put : ArePut (length (sent_in script.events refused (number + 1))) (lines_in run.0) =
        subst (λ (n : ℕ). ArePut n (lines_in run.0)) (counted upto (number + 1) run.1 taken sent) puts.0 in
        let sound_first : SoundRun cores script before early old =
        record {
          scenario = sound;
          of_scenario = of_scenario;
          sound_events =
              each_front (λ (t : Timed). IsSoundEvent script.scenario t.event) before (timed ∷ more) events_sound;
          run = first;
        } in
        let here : IsSoundEvent script.scenario timed.event =
        (each_after (λ (t : Timed). IsSoundEvent script.scenario t.event) before (timed ∷ more) events_sound).0 in
        let names =
        recursion_from_All (IsLineOf script.scenario) (lines_in run.0)
        (done_names cores script before early old sound_first timed here run.0 run.1 run.3) in
        let said : AreSaid script refused own =
        acts_said script refused number run.0 (both_of (IsPut (length (sent_in script.events refused (number + 1)))) (IsLineOf script.scenario)
        (lines_in run.0) put names) in
        let later : AreSaid script refused run.2 =
        runs_said more upto rest (parts ∙ ap (λ (l : List Timed). l ++ rest) (sym grouped)) sound_then tells_then so_far run.1 joined puts.1
        (number + 1) (sym count) run.2 new run.5 in
        subst (AreSaid script refused) (sym run.4) (each_append
        (λ (step : Traced). AllByRecursion (IsSaid script refused step.event) step.happened.lines) own run.2 said later)

-- ---- runs of the first events of a script

module _ (cores : Cores) (script : Script) (count : ℕ) (trace : List Traced) (new : World) (rules : ScriptRules script)
    (run : SoundRun cores script (take count script.events) trace new) where
  abbrev first : List Timed
  first = take count script.events

  abbrev refused : List ℕ
  refused = refused_lines (report_of trace)

  rises : Rises 0 first
  rises = rises_first 0 first (drop count script.events) (subst (Rises 0) (sym (take-append-drop count script.events)) rules.lines)

  said : AreSaid script refused trace
  said = runs_said cores script run.scenario run.of_scenario refused first [] (drop count script.events) (sym (take-append-drop count script.events))
      run.sound_events
      (tells_accepted first (start script.scenario cores) 0 trace new 0 [] refused rises (λ line less. refl) refl run.run) []
      (start script.scenario cores) (refl, refl) (λ u n. tt) 0 refl trace new run.run

  -- ---- names

  named : (number : ℕ) (line : ReportLine) → IsSaid script refused number line → NamesDatagram (sent_in script.events refused (number + 1)) line
  named number (lines.Hop from to label ttl own) is = (is.0.counted, is.0.known)
  named number other is = tt

  all_named : (number : ℕ) (all : List ReportLine) → AllByRecursion (IsSaid script refused number) all
      → AllByRecursion (NamesDatagram (sent_in script.events refused (number + 1))) all
  all_named number [] is = tt
  all_named number (line ∷ more) is = (named number line is.0, all_named number more is.1)

  steps_named : (steps : List Traced) → AreSaid script refused steps
      → AllByRecursion (λ (entry : Entry). AllByRecursion (NamesDatagram (sent_in script.events refused (entry.event + 1))) entry.lines)
      (report_of steps)
  steps_named [] is = tt
  steps_named (step ∷ more) is = (all_named step.event step.happened.lines is.0, steps_named more is.1)

  pub names_datagrams : NameDatagrams script.events (report_of trace)
  names_datagrams = steps_named trace said

  -- ---- spellings

  hop_spelled : (number : ℕ) (line : ReportLine) → IsSaid script refused number line → IsLabelled line →
      AllByRecursion IsHop (hop_by (ticks_in (take number script.events)) (sent_in script.events refused (number + 1)) line)
  hop_spelled number (lines.Hop from to label ttl own) is labelled =
      let few = rules.scenario.core.topology.few_nodes in
      let a = is.1.0 in
      let b = is.1.1 in
      let most = is.0.bounded in (
        record {
          tick = clock_fits script rules number;
          from = omega (arith, few, a);
          to = omega (arith, few, b);
          label = labelled;
          ttl = (is.0.alive, omega (arith, most));
          few = octets_fit script rules refused (number + 1) own;
        },
        tt,
      )
  hop_spelled number other is labelled = tt

  lines_spelled : (number : ℕ) (all : List ReportLine) → AllByRecursion (IsSaid script refused number) all → AllByRecursion IsLabelled all →
      AllByRecursion IsHop (flat_map (hop_by (ticks_in (take number script.events)) (sent_in script.events refused (number + 1))) all)
  lines_spelled number [] is labelled = tt
  lines_spelled number (line ∷ more) is labelled =
      let hops = hop_by (ticks_in (take number script.events)) (sent_in script.events refused (number + 1)) in
      each_append IsHop (hops line) (flat_map hops more) (hop_spelled number line is.0 labelled.0) (lines_spelled number more is.1 labelled.1)

  steps_spelled : (steps : List Traced) → AreSaid script refused steps
      → AllByRecursion (λ (step : Traced). AllByRecursion IsLabelled step.happened.lines) steps →
      AllByRecursion IsHop (flat_map (hops_in script.events refused) (report_of steps))
  steps_spelled [] is labelled = tt
  steps_spelled (step ∷ more) is labelled =
      each_append IsHop (flat_map (hop_by (ticks_in (take step.event script.events)) (sent_in script.events refused (step.event + 1)))
      step.happened.lines) (flat_map (hops_in script.events refused) (report_of more))
      (lines_spelled step.event step.happened.lines is.0 labelled.0) (steps_spelled more is.1 labelled.1)

  pub all_spelled : HopsMay trace → All IsHop (hops_of script.events (report_of trace))
  all_spelled may = All-from_recursion IsHop (hops_of script.events (report_of trace)) (steps_spelled trace said (lines_labelled trace may))

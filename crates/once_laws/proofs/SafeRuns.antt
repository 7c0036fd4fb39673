-- In every run each `out` line names a datagram that was accepted by then, and an interface whose VRF admits the sender's.
use Rattle.std.specs.Prelude.{slice_get, option_map}
use Rattle.std.proofs.Common.{◌≡◌, ℕ, ◌+◌, ◌-◌, ◌++◌, take, length, List, [], ◌∷◌, Option, None, Some, refl, sym, ap, subst, ◌∙◌, append_assoc, length-append, arith}
use Rattle.std.specs.List.{AllByRecursion}
use Rattle.std.proofs.lemmas.List.{take_at}
use Rattle.std.proofs.lemmas.Option.{none-some, same_Some, slice_get-map}
use Rattle.mv_base.specs.declared.ids.IfaceId.{IfaceId}
use Rattle.scenario_defs.specs.Rules.{Rises}
use Rattle.scenario_defs.specs.declared.event.Script.{Script}
use Rattle.scenario_defs.specs.declared.event.Timed.{Timed}
use Rattle.scenario_defs.specs.declared.report.ReportLine.{ReportLine}
use Rattle.scenario_defs.specs.declared.report.ReportLine.TheVariants as lines
use Rattle.scenario_defs.specs.declared.scenario.Scenario.{Scenario}
use Rattle.mvpn_model.specs.Report.{Datagram as Accepted, datagrams, refused_lines}
use Rattle.mvpn_model.specs.Safe.{IsAdmitted, IsSafeOut, IsSafeLine, Safe}
use Rattle.network_defs.specs.Costs.{Cores}
use Rattle.network_defs.specs.Events.{Happened}
use Rattle.network_defs.specs.Run.{Traced, traced, report_of, Runs, Run}
use Rattle.network_defs.specs.World.{World, Datagram, start}
use Rattle.network_defs.proofs.Numbered.{numbered_some}
use Rattle.network_laws.specs.Honest.{IsSoundEvent}
use Rattle.network_laws.specs.Sound.{SoundScenario}
use Rattle.network_laws.specs.SoundRun.{SoundRun}
use Rattle.network_laws.proofs.Lists.{each_front, each_weaker}
use Rattle.rule_laws.specs.Outs.{IsAdmittedOut, IsAdmittedLine}
use Rattle.rule_laws.proofs.Halting.{each_after}
use Rattle.rule_laws.proofs.Start.{run_says}
use Rattle.delivery_laws.specs.Once.{in_network}
use Rattle.delivery_laws.proofs.Accepted.{TellsAccepted, tells_accepted}
use Rattle.delivery_laws.proofs.Sendings.{in_networks, runs_send, tells_first}
use Rattle.delivery_laws.proofs.Splits.{runs_one_more}

-- the datagram of the report that the network has
got_accepted : (list : List Accepted) (place : ℕ) (datagram : Datagram) (o : Option Accepted) → slice_get list place ≡ o
    → option_map in_network o ≡ Some datagram → (accepted : Accepted) × (slice_get list place ≡ Some accepted) × (in_network accepted ≡ datagram)
got_accepted list place datagram None at e = absurd (none-some datagram e)
got_accepted list place datagram (Some accepted) at e = (accepted, at, same_Some (in_network accepted) datagram e)

module _ (scenario : Scenario) (refused : List ℕ) where
  -- what is admitted by the datagrams of the accepted ones of these events is safe by them
  abbrev Admitted : List Timed → ReportLine → Type 0
  Admitted events line = IsAdmittedLine scenario (in_networks (datagrams refused 0 events)) line

  out_safe : (events : List Timed) (number : ℕ) (iface : IfaceId) (octets : List ℕ)
      → IsAdmittedOut scenario (in_networks (datagrams refused 0 events)) number iface octets → IsSafeOut scenario events refused number iface octets
  out_safe events number iface octets is =
      let list : List Accepted = datagrams refused 0 events in
      let sent = numbered_some (in_networks list) number is.datagram is.sent in
      let got =
      got_accepted list (number - 1) is.datagram (slice_get list (number - 1)) refl (sym (slice_get-map in_network list (number - 1)) ∙ sent.1) in
      record {
        datagram = got.0;
        counted = sent.0;
        accepted = got.1;
        carried = is.carried ∙ ap (λ (d : Datagram). d.octets) (sym got.2);
        admitted = subst (λ (d : Datagram). IsAdmitted scenario iface d.site) (sym got.2) is.admitted;
      }

  line_safe : (events : List Timed) (line : ReportLine) → Admitted events line → IsSafeLine scenario events refused line
  line_safe events (lines.Out number iface octets) is = out_safe events number iface octets is
  line_safe events (lines.Put kind from to octets) is = tt
  line_safe events (lines.Take kind from to octets) is = tt
  line_safe events (lines.Land from to label number) is = tt
  line_safe events (lines.Hop from to label ttl number) is = tt
  line_safe events (lines.Refused line reason) is = tt
  line_safe events (lines.Halt line node) is = tt
  line_safe events (lines.State bytes copies buffers due unready) is = tt

  acts_safe : (events : List Timed) (number : ℕ) (acts : List Happened)
      → AllByRecursion (λ (step : Traced). AllByRecursion (Admitted (take (number + 1) events)) step.happened.lines) (traced number acts)
      → Safe scenario events refused (report_of (traced number acts))
  acts_safe events number [] h = tt
  acts_safe events number (happened ∷ more) h = (
    each_weaker (Admitted (take (number + 1) events)) (IsSafeLine scenario (take (number + 1) events) refused) (line_safe (take (number + 1) events))
        happened.lines h.0,
    acts_safe events number more h.1,
  )

  both_safe : (events : List Timed) (first more : List Traced) → Safe scenario events refused (report_of first)
      → Safe scenario events refused (report_of more) → Safe scenario events refused (report_of (first ++ more))
  both_safe events [] more a b = b
  both_safe events (step ∷ first) more a b = (a.0, both_safe events first more a.1 b)

-- ---- runs

module _ (cores : Cores) (script : Script) (sound : SoundScenario script.scenario) (refused : List ℕ) where
  abbrev begin : World
  begin = start script.scenario cores

  abbrev AreSoundEvents : List Timed → Type 0
  AreSoundEvents events = AllByRecursion (λ (timed : Timed). IsSoundEvent script.scenario timed.event) events

  -- the lines of later events, after a run of the first ones
  runs_safe : (more before : List Timed) → AreSoundEvents (before ++ more) → TellsAccepted refused begin (before ++ more)
      → (early : List Traced) (old : World) → Run cores script before early old
      → (number : ℕ) → number ≡ length before → (trace : List Traced) (new : World) → Runs old number more trace new
      → Safe script.scenario (before ++ more) refused (report_of trace)
  runs_safe [] before events_sound tells early old first number e trace new run =
      subst (λ (t : List Traced). Safe script.scenario (before ++ []) refused (report_of t)) (sym run.0) tt
  runs_safe (timed ∷ more) before events_sound tells early old first number e trace new run =
      let events : List Timed = before ++ timed ∷ more in
      let upto : List Timed = before ++ timed ∷ [] in
      let own : List Traced = traced number run.0 in
      let so_far : List Traced = early ++ (own ++ []) in
      let grouped : upto ++ more ≡ events = append_assoc before (timed ∷ []) more in
      let count : length upto ≡ number + 1 = (let long = length-append before (timed ∷ []) in omega (arith, long, e)) in
      let joined : Run cores script upto so_far run.1 =
      runs_one_more before timed begin old run.1 0 early run.0 first run.3 number (omega (arith, e)) in
      let sound_then : AreSoundEvents (upto ++ more) = subst AreSoundEvents (sym grouped) events_sound in
      let tells_then : TellsAccepted refused begin (upto ++ more) = subst (TellsAccepted refused begin) (sym grouped) tells in
      let sound_upto : AreSoundEvents upto = each_front (λ (timed : Timed). IsSoundEvent script.scenario timed.event) upto more sound_then in
      let sent : run.1.datagrams ≡ in_networks (datagrams refused 0 upto) =
      runs_send refused upto begin 0 so_far run.1 (tells_first refused upto more begin tells_then) joined in
      let taken : take (number + 1) events ≡ upto =
      ap (λ (l : List Timed). take (number + 1) l) (sym grouped) ∙ take_at upto more (number + 1) count in
      let Says : List Datagram → List Traced → Type 0 =
      λ list steps. AllByRecursion (λ (step : Traced). AllByRecursion (IsAdmittedLine script.scenario list) step.happened.lines) steps in
      let all : Says run.1.datagrams so_far = run_says script.scenario cores upto so_far run.1 sound sound_upto joined in
      let here : Says run.1.datagrams own =
      each_front (λ (step : Traced). AllByRecursion (IsAdmittedLine script.scenario run.1.datagrams) step.happened.lines) own []
      (each_after (λ (step : Traced). AllByRecursion (IsAdmittedLine script.scenario run.1.datagrams) step.happened.lines) early (own ++ []) all)
      in
      let own_safe : Safe script.scenario events refused (report_of own) = acts_safe script.scenario refused events number run.0
      (subst (λ (list : List Datagram). Says list own) (sent ∙ ap (λ (l : List Timed). in_networks (datagrams refused 0 l)) (sym taken)) here) in
      let later : Safe script.scenario events refused (report_of run.2) =
      subst (λ (l : List Timed). Safe script.scenario l refused (report_of run.2)) grouped
      (runs_safe more upto sound_then tells_then so_far run.1 joined (number + 1) (sym count) run.2 new run.5) in
      subst (λ (t : List Traced). Safe script.scenario events refused (report_of t)) (sym run.4)
      (both_safe script.scenario refused events own run.2 own_safe later)

pub safe : (cores : Cores) (script : Script) (events : List Timed) (trace : List Traced) (new : World) → SoundRun cores script events trace new
    → Rises 0 events → Safe script.scenario events (refused_lines (report_of trace)) (report_of trace)
safe cores script events trace new s rises =
    let refused : List ℕ = refused_lines (report_of trace) in
    runs_safe cores script s.scenario refused events [] s.sound_events
    (tells_accepted events (start script.scenario cores) 0 trace new 0 [] refused rises (λ line less. refl) refl s.run) []
    (start script.scenario cores) (refl, refl) 0 refl trace new s.run

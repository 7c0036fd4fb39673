-- How many sessions are not ready at a `state` line is what the events before it say.
use Rattle.std.proofs.Common.{◌≡◌, ℕ, ◌++◌, not, cond, take, drop, map, List, [], ◌∷◌, refl, sym, ap, subst, ◌∙◌}
use Rattle.std.specs.Prelude.{count_by}
use Rattle.std.specs.List.{AllByRecursion, filter, fold}
use Rattle.scenario_defs.specs.Rules.{Rules, Rises}
use Rattle.scenario_defs.specs.declared.event.Script.{Script}
use Rattle.scenario_defs.specs.declared.event.Timed.{Timed}
use Rattle.scenario_defs.specs.declared.report.ReportLine.TheVariants as lines
use Rattle.mvpn_model.specs.Past.{is_accepted}
use Rattle.mvpn_model.specs.Report.{refused_lines}
use Rattle.mvpn_model.specs.Sessions.{sessions}
use Rattle.mvpn_model.specs.Unready.{none_joined, thereafter, is_ready_in}
use Rattle.network_defs.specs.Costs.{Cores}
use Rattle.network_defs.specs.Counts as counts
use Rattle.network_defs.specs.Counts.{state_line}
use Rattle.network_defs.specs.Run.{Traced, Run, report_of}
use Rattle.network_defs.specs.World.{World, start}
use Rattle.delivery_laws.proofs.network_laws.ready_laws.Counted.{told_unready}
use Rattle.delivery_laws.proofs.Accepted.{TellsAccepted, tells_accepted}
use Rattle.delivery_laws.proofs.OnceLemmas.{rises_first}
use Rattle.delivery_laws.proofs.Sendings.{tell_same, tells_first}
use Rattle.delivery_laws.proofs.Splits.{Split, cut_in_two, runs_split}
use Rattle.delivery_laws.proofs.Told.{state_at}
use Rattle.run_laws.specs.Ready.{ReportsUnready}

-- the events that two lists of refused lines accept
accepted_alike : (a b : List ℕ) (events : List Timed) → AllByRecursion (λ (timed : Timed). is_accepted a timed ≡ is_accepted b timed) events
    → filter (is_accepted a) events ≡ filter (is_accepted b) events
accepted_alike a b [] same = refl
accepted_alike a b (timed ∷ more) same = (let rest = accepted_alike a b more same.1 in λ i. cond (same.0 i) (timed ∷ rest i) (rest i))

module _ (cores : Cores) (script : Script) (events : List Timed) (trace : List Traced) (new : World) (rules : Rules script.scenario)
    (rises : Rises 0 events) (run : Run cores script events trace new) where
  pub reports_unready : ReportsUnready script.scenario events (refused_lines (report_of trace)) (report_of trace)
  reports_unready place bytes copies buffers due unready tells =
      let first : List Timed = take place events in
      let more : List Timed = drop place events in
      let begin : World = start script.scenario cores in
      let all : List ℕ = refused_lines (report_of trace) in
      let parts : events ≡ first ++ more = cut_in_two place events in
      let cut : Split begin 0 first more trace new =
      runs_split first more begin 0 trace new (subst (λ (l : List Timed). Run cores script l trace new) parts run) in
      let own : List ℕ = refused_lines (report_of cut.early) in
      let rises_early : Rises 0 first = rises_first 0 first more (subst (Rises 0) parts rises) in
      let line : state_line cut.middle ≡ lines.State bytes copies buffers due unready =
      state_at cores script events trace new run place bytes copies buffers due unready tells cut.early cut.middle cut.begins in
      let number : counts.unready cut.middle ≡ unready = cc in
      let told = told_unready cores script first cut.early cut.middle rules rises_early cut.begins in
      let by_own : TellsAccepted own begin first =
      tells_accepted first begin 0 cut.early cut.middle 0 [] own rises_early (λ n lt. refl) refl cut.begins in
      let by_all : TellsAccepted all begin (first ++ more) =
      subst (TellsAccepted all begin) parts (tells_accepted events begin 0 trace new 0 [] all rises (λ n lt. refl) refl run) in
      let alike =
      accepted_alike own all first (tell_same own all first begin 0 cut.early cut.middle by_own (tells_first all first more begin by_all)
      cut.begins) in
      sym number ∙ told
      ∙ ap (λ (accepted : List Timed). count_by (λ session. not
      (is_ready_in (fold (thereafter script.scenario) none_joined (map (λ (timed : Timed). timed.event) accepted)) session))
      (sessions script.scenario)) alike

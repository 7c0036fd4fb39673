-- What the line of a `state` event tells of the network at it.
use Rattle.std.specs.Prelude.{Contains}
use Rattle.std.proofs.Common.{◌≡◌, ℕ, suc, ◌+◌, ◌<◌, ◌≤◌, ◌++◌, take, drop, length, List, [], ◌∷◌, Some, sym, ap, subst, ◌∙◌, arith}
use Rattle.std.specs.List.{AllByRecursion}
use Rattle.std.proofs.lemmas.Option.{slice_get_within}
use Rattle.scenario_defs.specs.declared.event.Event.TheVariants as event
use Rattle.scenario_defs.specs.declared.event.Script.{Script}
use Rattle.scenario_defs.specs.declared.event.Timed.{Timed}
use Rattle.scenario_defs.specs.declared.report.ReportLine.{ReportLine}
use Rattle.scenario_defs.specs.declared.report.ReportLine.TheVariants as lines
use Rattle.mvpn_model.specs.Once.{TellsState}
use Rattle.mvpn_model.specs.Report.{Entry}
use Rattle.network_defs.specs.Costs.{Cores}
use Rattle.network_defs.proofs.OneRun.{one_run}
use Rattle.network_defs.specs.Acts.{Tell}
use Rattle.network_defs.specs.Counts.{state_line}
use Rattle.network_defs.specs.Events.{Happened, Done}
use Rattle.network_defs.specs.Run.{Traced, outcome, traced, report_of, Run}
use Rattle.network_defs.specs.World.{World, start}
use Rattle.delivery_laws.proofs.Splits.{cut_at, runs_split, run_numbers, long_take}
use Rattle.network_laws.proofs.Lists.{each_weaker, each_append}
use Rattle.network_laws.proofs.LabelTaken.{contained}

-- what a `state` event does
pub record Told (world : World) (acts : List Happened) (next : World) : Type 0 where
  pub stays : next ≡ world
  pub says : acts ≡ record { act = Some Tell; lines = state_line world ∷ [] } ∷ []

pub state_acts : (world : World) (line : ℕ) (acts : List Happened) (next : World)
    → outcome world (record { line = line; event = event.State }) ≡ Done acts next → Told world acts next
state_acts world line acts next is =
    let one : List Happened = record { act = Some Tell; lines = state_line world ∷ [] } ∷ [] in
    let told : Done one world ≡ Done acts next = is in
    record { stays = (let same : world ≡ next = cc in sym same); says = (let same : one ≡ acts = cc in sym same) }

entries : (P : Entry → Type 0) (trace : List Traced) → AllByRecursion (λ step. P (record { event = step.event; lines = step.happened.lines })) trace
    → AllByRecursion P (report_of trace)
entries P [] h = tt
entries P (step ∷ more) h = (h.0, entries P more h.1)

-- The line tells of the network after the events before it.
pub state_at : (cores : Cores) (script : Script) (events : List Timed) (trace : List Traced) (new : World) → Run cores script events trace new
    → (place bytes copies buffers due unready : ℕ) → TellsState events (report_of trace) place bytes copies buffers due unready
    → (early : List Traced) (world : World) → Run cores script (take place events) early world
    → state_line world ≡ lines.State bytes copies buffers due unready
state_at cores script events trace new run place bytes copies buffers due unready tells early world before =
    let first = take place events in
    let timed : Timed = record { line = tells.line; event = event.State } in
    let post = drop (suc place) events in
    let long : length first ≡ place = long_take place events (let lt = slice_get_within events place timed tells.at in omega (arith, lt)) in
    let s = runs_split first (timed ∷ post) (start script.scenario cores) 0 trace new
    (subst (λ (l : List Timed). Run cores script l trace new) (cut_at events place timed tells.at) run) in
    let same = one_run (start script.scenario cores) 0 first early s.early world s.middle before s.begins in
    let r = s.goes_on place (omega (arith, long)) in
    let told = state_acts s.middle tells.line r.0 r.1 r.3 in
    let claim =
    λ (entry : Entry). entry.event ≡ place → Contains entry.lines (lines.State bytes copies buffers due unready)
    → state_line world ≡ lines.State bytes copies buffers due unready in
    let of_step =
    λ (step : Traced). step.event ≡ place → Contains step.happened.lines (lines.State bytes copies buffers due unready)
    → state_line world ≡ lines.State bytes copies buffers due unready in
    let low : AllByRecursion of_step s.early =
    each_weaker (λ (step : Traced). (0 ≤ step.event) × (step.event < place)) of_step
    (λ step h e c. (let lt = h.1 in absurd (omega (arith, lt, e)))) s.early
    (run_numbers first (start script.scenario cores) 0 s.early s.middle s.begins 0 place (omega arith) (omega (arith, long))) in
    let high : AllByRecursion of_step r.2 =
    each_weaker (λ (step : Traced). (place + 1 ≤ step.event) × (step.event < place + 1 + length post)) of_step
    (λ step h e c. (let le = h.0 in absurd (omega (arith, le, e)))) r.2
    (run_numbers post r.1 (place + 1) r.2 new r.5 (place + 1) (place + 1 + length post) (omega arith) (omega arith)) in
    let here : AllByRecursion of_step (traced place r.0) =
    subst (λ (a : List Happened). AllByRecursion of_step (traced place a)) (sym told.says) (
      (λ e c. contained (λ (l : ReportLine). state_line world ≡ l) (state_line s.middle ∷ []) (lines.State bytes copies buffers due unready)
          (ap state_line same.1, tt) c),
      tt,
    ) in
    let every : AllByRecursion of_step trace =
    subst (AllByRecursion of_step) (sym (s.whole ∙ ap (λ (t : List Traced). s.early ++ t) r.4))
    (each_append of_step s.early (traced place r.0 ++ r.2) low (each_append of_step (traced place r.0) r.2 here high)) in
    contained claim (report_of trace) tells.entry (entries claim trace every) tells.reported tells.of_event tells.told

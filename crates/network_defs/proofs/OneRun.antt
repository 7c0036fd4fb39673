-- A script has at most one run: each event has one outcome, and its scenario's cores are one.
use Rattle.std.proofs.Common.{◌≡◌, ℕ, ◌+◌, List, [], ◌∷◌, ◌++◌, take, subst, sym, ◌∙◌}
use Rattle.scenario_defs.specs.declared.event.Script.{Script}
use Rattle.scenario_defs.specs.declared.event.Timed.{Timed}
use Rattle.network_defs.specs.Costs.{Cores}
use Rattle.network_defs.proofs.CostLemmas.{same_cores}
use Rattle.network_defs.specs.Events.{Happened, Outcome, Done}
use Rattle.network_defs.specs.Run.{Traced, traced, outcome, Runs, Run, RunOf}
use Rattle.network_defs.specs.World.{World, start}

one_outcome : (reached : Outcome) (acts other : List Happened) (next last : World) → reached ≡ Done acts next → reached ≡ Done other last
    → (acts ≡ other) × (next ≡ last)
one_outcome reached acts other next last e f = (cc, cc)

pub one_run : (old : World) (number : ℕ) (events : List Timed) (trace other : List Traced) (new last : World) → Runs old number events trace new
    → Runs old number events other last → (trace ≡ other) × (new ≡ last)
one_run old number [] trace other new last run run1 = (run.0 ∙ sym run1.0, run.1 ∙ sym run1.1)
one_run old number (timed ∷ more) trace other new last (acts, next, rest, ends, says, run) (others, then_next, thereafter, ends1, says1, run1) =
    let same = one_outcome (outcome old timed) acts others next then_next ends ends1 in
    let from_there =
    one_run then_next (number + 1) more rest thereafter new last (subst (λ (world : World). Runs world (number + 1) more rest new) same.1 run) run1 in
    (says ∙ (λ i. traced number (same.0 i) ++ from_there.0 i) ∙ sym says1, from_there.1)

-- The cores of a script's scenario are one, and so is the run of its first events.
pub one_of_script : (script : Script) (count : ℕ) (trace other : List Traced) (new last : World) → RunOf script count trace new
    → RunOf script count other last → (trace ≡ other) × (new ≡ last)
one_of_script script count trace other new last own that =
    let same : own.cores ≡ that.cores = same_cores script.scenario own.cores that.cores own.of_scenario that.of_scenario in
    let run : Run that.cores script (take count script.events) trace new =
    subst (λ (cores : Cores). Run cores script (take count script.events) trace new) same own.run in
    one_run (start script.scenario that.cores) 0 (take count script.events) trace other new last run that.run

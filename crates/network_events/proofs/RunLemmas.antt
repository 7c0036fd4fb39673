-- A run with one event more.
use Rattle.std.proofs.Common.{◌≡◌, ◌∙◌, refl, sym, ap, subst, arith, ℕ, ◌+◌, List, [], ◌∷◌, ◌++◌, length, append_assoc, append-nil}
use Rattle.scenario_defs.specs.declared.event.Timed.{Timed}
use Rattle.network_defs.specs.Events.{Happened, Done}
use Rattle.network_defs.specs.Run.{Runs, Traced, outcome, traced}
use Rattle.network_defs.specs.World.{World}

pub runs_more : (events : List Timed) (old : World) (number : ℕ) (trace : List Traced) (world : World) (timed : Timed) (acts : List Happened)
    (next : World) → Runs old number events trace world
    → outcome world timed ≡ Done acts next → Runs old number (events ++ timed ∷ []) (trace ++ traced (number + length events) acts) next
runs_more [] old number trace world timed acts next run e =
    let at : number + 0 ≡ number = omega arith in (
      acts,
      next,
      [],
      subst (λ (w : World). outcome w timed ≡ Done acts next) run.1 e,
      ap (λ (t : List Traced). t ++ traced (number + 0) acts) run.0 ∙ (ap (λ (k : ℕ). traced k acts) at ∙ sym (append-nil (traced number acts))),
      (refl, refl),
    )
runs_more (first ∷ more) old number trace world timed acts next run e =
    let count : number + length (first ∷ more) ≡ number + 1 + length more = omega arith in
    let rest = runs_more more run.1 (number + 1) run.2 world timed acts next run.5 e in (
      run.0,
      run.1,
      run.2 ++ traced (number + 1 + length more) acts,
      run.3,
      ap (λ (t : List Traced). t ++ traced (number + length (first ∷ more)) acts) run.4
          ∙ (append_assoc (traced number run.0) run.2 (traced (number + length (first ∷ more)) acts)
          ∙ ap (λ (k : ℕ). traced number run.0 ++ (run.2 ++ traced k acts)) count),
      rest,
    )

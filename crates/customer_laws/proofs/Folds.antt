-- A fold over a history is one over the events that concern a VPN, where the others change nothing.
use Rattle.std.proofs.Common.{◌≡◌, ℕ, Bool, true, false, cond, List, [], ◌∷◌, map, refl, ap, ◌∙◌}
use Rattle.std.specs.List.{fold, filter}
use Rattle.scenario_defs.specs.declared.event.Timed.{Timed}
use Rattle.customer_laws.specs.Concerns.{Answered, answered}

-- events that are not kept change nothing
pub fold_kept : {B : Type 0} (step : B → Answered → B) (keep : Answered → Bool) →
    ((old : B) (own : Answered) → keep own ≡ false → step old own ≡ old) →
    (refused : List ℕ) (old : B) (events : List Timed) →
    fold (λ (b : B) (timed : Timed). step b (answered refused timed)) old events ≡ fold step old (filter keep (map (answered refused) events))
fold_kept step keep idle refused old [] = refl
fold_kept {B} step keep idle refused old (timed ∷ more) =
    by (λ b. fold_kept step keep idle refused b more) (keep (answered refused timed)) refl
  where
    by : ((b : B) → fold (λ (b : B) (timed : Timed). step b (answered refused timed)) b more
        ≡ fold step b (filter keep (map (answered refused) more))) →
        (kept : Bool) → keep (answered refused timed) ≡ kept →
        fold (λ (b : B) (timed : Timed). step b (answered refused timed)) (step old (answered refused timed)) more
        ≡ fold step old (cond kept (answered refused timed ∷ filter keep (map (answered refused) more)) (filter keep (map (answered refused) more)))
    by rest true e = rest (step old (answered refused timed))
    by rest false e =
        ap (λ (b : B). fold (λ (b : B) (timed : Timed). step b (answered refused timed)) b more) (idle old (answered refused timed) e) ∙ rest old

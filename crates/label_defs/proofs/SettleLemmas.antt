-- Trees that settle one after another are all settled then.
use Rattle.std.proofs.Common.{◌≡◌, false, ◌||◌, ◌++◌, inl, inr, List, [], ◌∷◌, Option, Some, None, refl, sym, ap, subst, ◌∙◌}
use Rattle.std.specs.List.{list_any}
use Rattle.std.proofs.lemmas.Option.{same_Some, none-some}
use Rattle.mldp.specs.mv_base.Number.{◌>>?◌}
use Rattle.mldp.specs.declared.mldp_fec.fec.Fec.{Fec}
use Rattle.label_defs.specs.LabelData.{Place, LabelData, same_fec}
use Rattle.label_defs.specs.Settling.{change_of, changed, put_by, Stepped, settle_all}
use Rattle.label_defs.specs.Settled.{Settled, AllSettled}
use Rattle.label_defs.proofs.KeyLemmas.{fec_cases, fec_apart}
use Rattle.label_defs.proofs.TreeLemmas.{Tied, After, tied, beside_tied, beside_settled, step_after}

pub bind_some : {A B : Type 0} (o : Option A) (next : A → Option B) (y : B) → (o >>? next) ≡ Some y → (x : A) × (o ≡ Some x) × (next x ≡ Some y)
bind_some None next y e = absurd (none-some y e)
bind_some (Some x) next y e = (x, refl, e)

-- all trees but those of the list are settled
pub record Good (place : Place) (fecs : List Fec) (part : LabelData) : Type 0 where
  pub tied : (fec : Fec) → Tied place part fec
  pub settled : (fec : Fec) → list_any (same_fec fec) fecs ≡ false → Settled place part fec

after_good : (place : Place) (fec : Fec) (more : List Fec) (old new : LabelData) → After place old fec new
    → ((own : Fec) → Settled place new own → Tied place new own) → Good place (fec ∷ more) old → Good place more new
after_good place fec more old new a weaker g =
    record {
      tied = λ x. elim (fec_cases x fec) [
        | inl e ↦ subst (Tied place new) (sym e) (weaker fec a.done)
        | inr ne ↦ beside_tied place old new x (a.others x ne) (g.tied x)
      ];
      settled = λ x h. elim (fec_cases x fec) [
        | inl e ↦ subst (Settled place new) (sym e) a.done
        | inr ne ↦ beside_settled place old new x (a.others x ne) (g.settled x (ap (λ b. b || list_any (same_fec x) more) (fec_apart x fec ne) ∙ h))
      ];
    }

pub settle_all_good : (place : Place) (fecs : List Fec) (old new : Stepped) → Good place fecs old.part → settle_all place fecs old ≡ Some new
    → AllSettled place new.part
settle_all_good place [] old new g e = λ fec. subst (λ (s : Stepped). Settled place s.part fec) (same_Some old new e) (g.settled fec refl)
settle_all_good place (fec ∷ more) old new g e =
    let x = bind_some (changed old.part fec (change_of place old.part fec))
    (λ next. settle_all place more (record { part = next; puts = old.puts ++ put_by fec (change_of place old.part fec) })) new e in
    settle_all_good place more (record { part = x.0; puts = old.puts ++ put_by fec (change_of place old.part fec) }) new
    (after_good place fec more old.part x.0 (step_after place old.part fec x.0 (g.tied fec) x.1) (tied place x.0) g) x.2

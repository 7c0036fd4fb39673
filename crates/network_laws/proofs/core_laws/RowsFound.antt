-- There are rows of least costs and of first steps, toward each node of a core.
use Rattle.std.proofs.Common.{◌≡◌, ◌≢◌, ◌≤◌, ◌<◌, ◌*◌, ℕ, zero, suc, false, List, [], length, get_or, set, replicate, sum, inl, inr, refl, sym, subst, ◌∙◌, arith}
use Rattle.std.specs.List.{All, list_all}
use Rattle.std.proofs.lemmas.Bool.{cases_Bool, cases_eq, cases_lt}
use Rattle.std.proofs.lemmas.List.{get_or-set_same, get_or-set_other, get_or-replicate, get_or_past, length-set, length-replicate}
use Rattle.mv_base.specs.declared.core_link.Link.{Link}
use Rattle.mv_base.specs.core_walks.Topology.{HasEnds, IsTopology}
use Rattle.core_paths.specs.Rows.{far, relaxed_all, noted_all, is_tight, IsCostRow, IsStepRow}
use Rattle.core_paths.proofs.RowLemmas.{IsSound, HasWalk, reached, relaxed_all_sound, relaxed_all_falls, cost_row}
use Rattle.core_paths.proofs.StepLemmas.{steps_written}

module _ (nodes : ℕ) (links : List Link) (topology : IsTopology nodes links) (root : ℕ) where
  -- ---- least costs

  falls : (row : List ℕ) → IsSound links nodes root row → list_all (is_tight row) links ≡ false → sum (relaxed_all row links) < sum row
  falls row sound loose = relaxed_all_falls links row (subst (λ (n : ℕ). All (HasEnds n) links) (sym sound.size) topology.ends) loose

  -- Rounds lower the row until each link is tight.
  settled : (bound : ℕ) (row : List ℕ) → IsSound links nodes root row → sum row < bound → (least : List ℕ) × IsCostRow links nodes root least
  settled zero row sound below = absurd (omega (arith, below))
  settled (suc bound) row sound below = elim (cases_Bool (list_all (is_tight row) links)) [
    | inl tight ↦ (row, cost_row links nodes root row topology sound tight)
    | inr loose ↦ settled bound (relaxed_all row links) (relaxed_all_sound links nodes root row topology sound)
        (omega (arith, below, falls row sound loose))
  ]

  -- the row in which the root alone is known
  abbrev first_row : List ℕ
  first_row = set (replicate nodes far) root 0

  first_sound : root < nodes → IsSound links nodes root first_row
  first_sound within = record {
    size = length-set (replicate nodes far) root 0 ∙ length-replicate nodes far;
    here = here;
    top = top;
    walks = λ k l near. subst (λ (j : ℕ). HasWalk links j root (get_or first_row j 0)) (sym (only k l near))
        (subst (λ (x : ℕ). HasWalk links root root x) (sym here) (record { steps = []; walk = (refl, refl) }));
    near = λ k l near. subst (λ (j : ℕ). get_or first_row j 0 ≤ 65535 * reached first_row) (sym (only k l near)) (omega (arith, here));
  }
    where
      here : get_or first_row root 0 ≡ 0
      here = get_or-set_same (replicate nodes far) root 0 0 (omega (arith, within, length-replicate nodes far))

      beside : (k : ℕ) → k < nodes → k ≢ root → get_or first_row k 0 ≡ far
      beside k l ne = get_or-set_other (replicate nodes far) root k 0 0 ne ∙ get_or-replicate nodes k far 0 l

      only : (k : ℕ) → k < nodes → get_or first_row k 0 < far → k ≡ root
      only k l near = elim (cases_eq k root) [ inl e ↦ e | inr ne ↦ absurd (omega (arith, near, beside k l ne)) ]

      top : (k : ℕ) → get_or first_row k 0 ≤ far
      top k = elim (cases_lt k nodes) [
        | inr past ↦ omega (
          arith,
          get_or_past first_row k 0
              (omega (arith, past, length-set (replicate nodes far) root 0, length-replicate nodes far)),
        )
        | inl l ↦ elim (cases_eq k root) [
          | inl e ↦ subst (λ (j : ℕ). get_or first_row j 0 ≤ far) (sym e) (omega (arith, here))
          | inr ne ↦ omega (arith, beside k l ne)
        ]
      ]

  pub some_costs : root < nodes → (row : List ℕ) × IsCostRow links nodes root row
  some_costs within = settled (suc (sum first_row)) first_row (first_sound within) (omega arith)

  -- ---- first steps

  pub some_steps : (row : List ℕ) → IsCostRow links nodes root row → ((k : ℕ) → k < nodes → get_or row k 0 < far)
      → (nexts : List ℕ) × IsStepRow links nodes root nexts
  some_steps row costs near =
      let first : List ℕ = replicate nodes 65535 in
      (_, steps_written links nodes root row first (noted_all row first links) (length first) topology costs near refl refl refl)

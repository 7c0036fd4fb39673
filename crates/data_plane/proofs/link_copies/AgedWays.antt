-- Copies of all ways, as those that are old are dropped.
use Rattle.std.proofs.Common.{◌≡◌, ℕ, zero, suc, ◌+◌, ◌≤◌, Bool, true, false, cond, List, [], ◌∷◌, length, slice_get, Some, None, refl, sym, ap, ◌∙◌, arith}
use Rattle.std.specs.List.{count_by}
use Rattle.std.specs.Map.{lookup, keys_of, values_of}
use Rattle.indexmap.specs.IndexMap.{set_value_at}
use Rattle.mv_base.specs.declared.ids.NodeId.{NodeId}
use Rattle.data_plane.specs.link_copies.CopiesData.{KeptCopy}
use Rattle.data_plane.specs.link_copies.Kept.{Entry, is_way, recent, aged_to, aged_at}
use Rattle.data_plane.proofs.link_copies.Basics.{one_more, some_equal, not_some}
use Rattle.data_plane.proofs.link_copies.Sums.{copies_in, sum_in, sum-cons}
use Rattle.data_plane.proofs.link_copies.OldCopies.{recent-fewer}

abbrev first : NodeId × NodeId → List KeptCopy → List Entry → List Entry
first way copies es = (way, copies) ∷ es

-- ---- one way's copies become others

module _ (f : List KeptCopy → ℕ) where
  pub sum-set : (es : List Entry) (i : ℕ) (x w : List KeptCopy) → slice_get (values_of es) i ≡ Some x
      → sum_in f (set_value_at es i w) + f x ≡ sum_in f es + f w
  sum-set [] i x w e = absurd (not_some x e)
  sum-set (e ∷ es) zero x w is = omega (arith, sum-cons f (e.0, w) es, sum-cons f e es, ap f (some_equal e.1 x is))
  sum-set (e ∷ es) (suc i) x w is = omega (arith, sum-cons f e (set_value_at es i w), sum-cons f e es, sum-set es i x w is)

  pub sum-least : (es : List Entry) (i : ℕ) (x : List KeptCopy) → slice_get (values_of es) i ≡ Some x → f x ≤ sum_in f es
  sum-least [] i x e = absurd (not_some x e)
  sum-least (e ∷ es) zero x is = omega (arith, sum-cons f e es, ap f (some_equal e.1 x is))
  sum-least (e ∷ es) (suc i) x is = omega (arith, sum-cons f e es, sum-least es i x is)

-- ---- the copies of one way age, and of one way after another

module _ (now life : ℕ) where
  pub set-aged : (es : List Entry) (i : ℕ) (x : List KeptCopy) → slice_get (values_of es) i ≡ Some x
      → set_value_at es i (recent now life x) ≡ aged_at now life i es
  set-aged [] i x e = absurd (not_some x e)
  set-aged (e ∷ es) zero x is = ap (λ (y : List KeptCopy). first e.0 (recent now life y) es) (sym (some_equal e.1 x is))
  set-aged (e ∷ es) (suc i) x is = ap (λ (rest : List Entry). e ∷ rest) (set-aged es i x is)

  pub aged-past : (es : List Entry) (i : ℕ) → slice_get (values_of es) i ≡ None → es ≡ aged_at now life i es
  aged-past [] zero e = refl
  aged-past [] (suc i) e = refl
  aged-past (e ∷ es) zero is = absurd (not_some e.1 (sym is))
  aged-past (e ∷ es) (suc i) is = ap (λ (rest : List Entry). e ∷ rest) (aged-past es i is)

  aged-next : (es : List Entry) (i : ℕ) → aged_at now life i (aged_to now life i es) ≡ aged_to now life (suc i) es
  aged-next [] zero = refl
  aged-next [] (suc i) = refl
  aged-next (e ∷ es) zero = refl
  aged-next (e ∷ es) (suc i) = ap (first e.0 (recent now life e.1)) (aged-next es i)

  pub aged-more : (es : List Entry) (i : ℕ) → aged_at now life i (aged_to now life i es) ≡ aged_to now life (i + 1) es
  aged-more es i = aged-next es i ∙ ap (λ (n : ℕ). aged_to now life n es) (sym (one_more i))

  -- ---- all of them

  pub aged-keys : (es : List Entry) (n : ℕ) → keys_of (aged_to now life n es) ≡ keys_of es
  aged-keys es zero = refl
  aged-keys [] (suc n) = refl
  aged-keys (e ∷ es) (suc n) = ap (λ (ways : List (NodeId × NodeId)). e.0 ∷ ways) (aged-keys es n)

  pub aged-seen : (es : List Entry) (n : ℕ) → length es ≤ n → (way : NodeId × NodeId)
      → copies_in (lookup (is_way way) (aged_to now life n es)) ≡ recent now life (copies_in (lookup (is_way way) es))
  aged-seen [] zero all way = refl
  aged-seen [] (suc n) all way = refl
  aged-seen (e ∷ es) zero all way = absurd (omega (arith, all))
  aged-seen (e ∷ es) (suc n) all way = by (is_way way e.0) (aged-seen es n (omega (arith, all)) way)
    where
      by : (b : Bool) → copies_in (lookup (is_way way) (aged_to now life n es)) ≡ recent now life (copies_in (lookup (is_way way) es))
          → copies_in (cond b (Some (recent now life e.1)) (lookup (is_way way) (aged_to now life n es)))
          ≡ recent now life (copies_in (cond b (Some e.1) (lookup (is_way way) es)))
      by true rest = refl
      by false rest = rest

  pub aged-fewer : (t : KeptCopy → Bool) (es : List Entry) (n : ℕ) → sum_in (count_by t) (aged_to now life n es) ≤ sum_in (count_by t) es
  aged-fewer t es zero = omega arith
  aged-fewer t [] (suc n) = omega arith
  aged-fewer t (e ∷ es) (suc n) =
      omega (
        arith,
        sum-cons (count_by t) (e.0, recent now life e.1) (aged_to now life n es),
        sum-cons (count_by t) e es,
        recent-fewer now life t e.1,
        aged-fewer t es n,
      )

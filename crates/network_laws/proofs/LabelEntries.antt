-- What holds of what a map answers holds of each of its entries.
use Rattle.std.proofs.Common.{◌≡◌, Bool, true, false, cond, T, ◌&&◌, inl, inr, List, [], ◌∷◌, Option, Some, None, refl, sym, ap, ◌∙◌}
use Rattle.std.specs.List.{AllByRecursion}
use Rattle.std.specs.Ordering.{eq_by_cmp, is_eq, is_lt}
use Rattle.std.specs.declared.cmp.Ordering.{Ordering}
use Rattle.std.specs.declared.cmp.Ordering.TheVariants.{Less, Equal, Greater}
use Rattle.std.specs.Cmp.{IsTotalOrder, tied_itself}
use Rattle.std.specs.FinMap as maps
use Rattle.std.specs.FinMap.{FinMap, find, is_sorted}
use Rattle.std.specs.FinMap.Entries.{below_all}
use Rattle.std.proofs.lemmas.Bool.{cases_Bool, cond-true, cond-false}
use Rattle.std.proofs.lemmas.Option.{none-some}

front_of : (a b : Bool) → T (a && b) → T a
front_of true b h = tt
front_of false b h = h

back_of : (a b : Bool) → T (a && b) → T b
back_of true b h = h
back_of false b h = absurd h

below_none : {X : Type 0} (r : Ordering) (v : X) (o : Option X) → T (is_lt r) → o ≡ None → cond (is_eq r) (Some v) o ≡ None
below_none Less v o h e = e
below_none Equal v o h e = absurd h
below_none Greater v o h e = absurd h

-- a key below all others is not among them
missed : {K X : Type 0} (R : K → K → Ordering) (q : K) (es : List (K × X)) → T (below_all R q es) → find R q es ≡ None
missed R q [] h = refl
missed R q (e ∷ es) h =
    below_none (R q e.0) e.1 (find R q es) (front_of (is_lt (R q e.0)) (below_all R q es) h)
    (missed R q es (back_of (is_lt (R q e.0)) (below_all R q es) h))

module _ {K X : Type 0} {R : K → K → Ordering} (total : IsTotalOrder R) where
  tied_alike : (q x : K) → eq_by_cmp R q x ≡ true → (es : List (K × X)) → find R q es ≡ find R x es
  tied_alike q x t [] = refl
  tied_alike q x t (e ∷ es) = λ i. cond (is_eq (total.congr q x e.0 (equal (R q x) t) i)) (Some e.1) (tied_alike q x t es i)
    where
      equal : (r : Ordering) → is_eq r ≡ true → r ≡ Equal
      equal Equal e = refl
      equal Less e = absurd cc
      equal Greater e = absurd cc

  thereafter : (e : K × X) (es : List (K × X)) (q : K) (v : X) → T (below_all R e.0 es) → find R q es ≡ Some v → find R q (e ∷ es) ≡ Some v
  thereafter e es q v low is = elim (cases_Bool (eq_by_cmp R q e.0)) [
    | inl t ↦ absurd (none-some v (sym (missed R e.0 es low) ∙ sym (tied_alike q e.0 t es) ∙ is))
    | inr f ↦ cond-false (eq_by_cmp R q e.0) (Some e.1) (find R q es) f ∙ is
  ]

  each_found : (P : K × X → Type 0) (es : List (K × X)) → T (is_sorted R es) → ((e : K × X) → find R e.0 es ≡ Some e.1 → P e) → AllByRecursion P es
  each_found P [] rises each = tt
  each_found P (e ∷ es) rises each = (
    each e (cond-true (eq_by_cmp R e.0 e.0) (Some e.1) (find R e.0 es) (ap is_eq (tied_itself total e.0))),
    each_found P es (back_of (below_all R e.0 es) (is_sorted R es) rises)
        (λ f is. each f (thereafter e es f.0 f.1 (front_of (below_all R e.0 es) (is_sorted R es) rises) is)),
  )

  pub each_entry : (P : K × X → Type 0) (m : FinMap R X) → ((k : K) (v : X) → maps.get m k ≡ Some v → P (k, v)) → AllByRecursion P (maps.entries m)
  each_entry P m each = each_found P (maps.entries m) (maps.entries_sorted m) (λ e is. each e.0 e.1 (maps.get-entries m e.0 ∙ is))

-- Comparisons of keys.
use Rattle.std.proofs.Common.{◌≡◌, ◌≢◌, Bool, true, false, ◌&&◌, T, refl, ap, ◌∙◌}
use Rattle.std.specs.declared.cmp.Ordering.{Ordering}
use Rattle.std.specs.declared.cmp.Ordering.TheVariants.{Less, Equal, Greater}
use Rattle.std.specs.Ordering.{eq_by_cmp, is_eq, is_lt, ordering_reverse}
use Rattle.std.specs.Cmp.{IsTotalOrder, tied_itself}
use Rattle.std.specs.FinMap.{IsAntisymmetric}

pub first : (a b : Bool) → T (a && b) → T a
first true b p = tt
first false b p = p

pub second : (a b : Bool) → T (a && b) → T b
second true b p = p
second false b p = absurd p

pub equal : (order : Ordering) → is_eq order ≡ true → order ≡ Equal
equal Less e = cc
equal Equal e = refl
equal Greater e = cc

pub less : (order : Ordering) → T (is_lt order) → order ≡ Less
less Less h = refl
less Equal h = absurd h
less Greater h = absurd h

pub apart : (order : Ordering) → T (is_lt order) → is_eq order ≡ false
apart Less h = refl
apart Equal h = absurd h
apart Greater h = absurd h

module _ {K : Type 0} {cmp : K → K → Ordering} where
  pub own_key : IsTotalOrder cmp → (key : K) → eq_by_cmp cmp key key ≡ true
  own_key total key = ap is_eq (tied_itself total key)

  pub one_key : IsAntisymmetric cmp → (own other : K) → eq_by_cmp cmp own other ≡ true → own ≡ other
  one_key exact own other e = exact own other (equal (cmp own other) e)

  pub other_key : IsAntisymmetric cmp → (own other : K) → own ≢ other → eq_by_cmp cmp own other ≡ false
  other_key exact own other differs =
      elim (eq_by_cmp cmp own other) as (λ b. eq_by_cmp cmp own other ≡ b → b ≡ false)
      [ true ↦ λ e. absurd (differs (one_key exact own other e)) | false ↦ λ e. refl ] refl

  -- no two keys are each below the other
  pub not_both : IsTotalOrder cmp → (own other : K) → cmp own other ≡ Less → cmp other own ≢ Less
  not_both total own other below e = (let turned = total.antisymm own other ∙ ap ordering_reverse e in absurd cc)

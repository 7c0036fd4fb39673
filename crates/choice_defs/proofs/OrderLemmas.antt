-- The order of routes is total, and what ties in addresses and route distinguishers is equal.
use Rattle.std.proofs.Common.{◌≡◌, ℕ, ◌<◌, true, false, ◌⊎◌, inl, inr, List, refl, sym, ap, subst, ◌∙◌}
use Rattle.std.specs.Ordering.{nat_cmp, is_lt, ordering_reverse, ordering_then, MatchOrdering}
use Rattle.std.specs.declared.cmp.Ordering.{Ordering}
use Rattle.std.specs.declared.cmp.Ordering.TheVariants.{Less, Equal, Greater}
use Rattle.std.specs.Cmp.{IsTotalOrder, tied_itself, ranks, nat_cmp_total}
use Rattle.std.specs.Cmp.Lexicographic.{nat_list_cmp_total}
use Rattle.std.specs.FinMap.{nat_cmp-IsAntisymmetric, slice_cmp-IsAntisymmetric}
use Rattle.std.proofs.lemmas.Cmp.{on_total, back_total, then_total}
use Rattle.scenario_defs.specs.mv_base.declared.addr.Addr.{Addr}
use Rattle.scenario_defs.specs.mv_base.declared.addr.Addr.TheVariants.{V4, V6}
use Rattle.scenario_defs.specs.mv_base.declared.ids.NodeId.{NodeId}
use Rattle.scenario_defs.specs.mv_base.declared.rd.Rd.{Rd}
use Rattle.choice_defs.specs.declared.known_route.KnownRoute.{KnownRoute}
use Rattle.choice_defs.specs.declared.origin.Origin.{Origin}
use Rattle.choice_defs.specs.declared.origin.Origin.TheVariants.{Local, Remote}
use Rattle.choice_defs.specs.Choice.{addr_key, addr_cmp, rd_cmp, remote_cmp, origin_cmp, route_cmp}

-- ---- answers of comparisons

pub less_twice : (o : Ordering) → o ≡ Less → is_lt o ≡ false → ⊥
less_twice o e h = absurd (let bad : true ≡ false = sym (ap is_lt e) ∙ h in cc)

pub not_less : (o : Ordering) → (o ≡ Less → ⊥) → is_lt o ≡ false
not_less Less h = absurd (h refl)
not_less Equal h = refl
not_less Greater h = refl

pub is_less : (o : Ordering) → is_lt o ≡ true → o ≡ Less
is_less Less h = refl
is_less Equal h = absurd cc
is_less Greater h = absurd cc

-- what does not come first by two comparisons
pub then_not_less : (p q : Ordering) → is_lt (ordering_then p q) ≡ false → (p ≡ Greater) ⊎ ((p ≡ Equal) × (is_lt q ≡ false))
then_not_less Less q h = absurd cc
then_not_less Equal q h = inr (refl, h)
then_not_less Greater q h = inl refl

pub nat_greater : (x y : ℕ) → nat_cmp x y ≡ Greater → y < x
nat_greater x y e = subst (λ (o : Ordering). MatchOrdering o (x < y) (x ≡ y) (y < x)) e (ranks x y)

pub nat_equal : (x y : ℕ) → nat_cmp x y ≡ Equal → x ≡ y
nat_equal x y e = nat_cmp-IsAntisymmetric x y e

-- ---- total orders

module _ {K : Type 0} {R : K → K → Ordering} (o : IsTotalOrder R) where
  pub greater_back : (x y : K) → R x y ≡ Greater → R y x ≡ Less
  greater_back x y e = o.antisymm y x ∙ ap ordering_reverse e

  pub not_itself : (x : K) → R x x ≡ Less → ⊥
  not_itself x e = absurd (let bad : Less ≡ Equal = sym e ∙ tied_itself o x in cc)

  pub not_both : (x y : K) → R x y ≡ Less → R y x ≡ Less → ⊥
  not_both x y e f = not_itself x (o.trans x y x e f)

  middle : (x y z : K) (r : Ordering) → R y z ≡ r → is_lt (R x y) ≡ false → is_lt r ≡ false → R x z ≡ Less → ⊥
  middle x y z Less e h k l = absurd cc
  middle x y z Equal e h k l =
      let back : R z y ≡ Equal = o.antisymm z y ∙ ap ordering_reverse e in
      let alike : R y x ≡ R z x = o.congr y z x e in
      less_twice (R x y) (o.antisymm x y ∙ ap ordering_reverse alike ∙ sym (o.antisymm x z) ∙ l) h
  middle x y z Greater e h k l = less_twice (R x y) (o.trans x z y l (greater_back y z e)) h

  -- what is no better than one that is no better than a third is no better than the third
  pub not_less_chain : (x y z : K) → is_lt (R x y) ≡ false → is_lt (R y z) ≡ false → is_lt (R x z) ≡ false
  not_less_chain x y z h k = not_less (R x z) (middle x y z (R y z) refl h k)

  neither : (r : Ordering) (x y : K) → R x y ≡ r → (R x y ≡ Less → ⊥) → (R y x ≡ Less → ⊥) → R x y ≡ Equal
  neither Less x y e h k = absurd (h e)
  neither Equal x y e h k = e
  neither Greater x y e h k = absurd (k (greater_back x y e))

  pub tied : (x y : K) → (R x y ≡ Less → ⊥) → (R y x ≡ Less → ⊥) → R x y ≡ Equal
  tied x y h k = neither (R x y) x y refl h k

pub addr_cmp_total : IsTotalOrder addr_cmp
addr_cmp_total = on_total addr_key nat_list_cmp_total

pub rd_cmp_total : IsTotalOrder rd_cmp
rd_cmp_total = on_total (λ (rd : Rd). rd.0) nat_list_cmp_total

one_key : (a b : Addr) → addr_key a ≡ addr_key b → a ≡ b
one_key (V4 xs) (V4 ys) e = let octets : xs ≡ ys = cc in ap (λ (o : List ℕ). V4 o) octets
one_key (V6 xs) (V6 ys) e = let octets : xs ≡ ys = cc in ap (λ (o : List ℕ). V6 o) octets
one_key (V4 xs) (V6 ys) e = absurd cc
one_key (V6 xs) (V4 ys) e = absurd cc

pub one_addr : (a b : Addr) → addr_cmp a b ≡ Equal → a ≡ b
one_addr a b e = one_key a b (slice_cmp-IsAntisymmetric nat_cmp-IsAntisymmetric (addr_key a) (addr_key b) e)

pub one_rd : (a b : Rd) → rd_cmp a b ≡ Equal → a ≡ b
one_rd a b e = let octets = slice_cmp-IsAntisymmetric nat_cmp-IsAntisymmetric a.0 b.0 e in λ i. record { 0 = octets i }

-- ---- origins and routes

abbrev Triple : Type 0
Triple = NodeId × Addr × Rd

triple_total : (cost : NodeId → ℕ) → IsTotalOrder (λ (x y : Triple). remote_cmp cost x.0 x.1 x.2 y.0 y.1 y.2)
triple_total cost =
    then_total (on_total (λ (x : Triple). cost x.0) nat_cmp_total)
    (then_total (back_total (on_total (λ (x : Triple). x.1) addr_cmp_total)) (on_total (λ (x : Triple). x.2) rd_cmp_total))

origin_total : (cost : NodeId → ℕ) → IsTotalOrder (origin_cmp cost)
origin_total cost = record { antisymm = antisymm; trans = trans; congr = congr }
  where
    antisymm : (x y : Origin) → origin_cmp cost x y ≡ ordering_reverse (origin_cmp cost y x)
    antisymm (Local s) (Local t) = refl
    antisymm (Local s) (Remote f b d) = refl
    antisymm (Remote e a r) (Local t) = refl
    antisymm (Remote e a r) (Remote f b d) = (triple_total cost).antisymm (e, a, r) (f, b, d)

    trans : (x y z : Origin) → origin_cmp cost x y ≡ Less → origin_cmp cost y z ≡ Less → origin_cmp cost x z ≡ Less
    trans (Local s) (Local t) z p q = absurd cc
    trans (Local s) (Remote f b d) (Local u) p q = absurd cc
    trans (Local s) (Remote f b d) (Remote g c k) p q = refl
    trans (Remote e a r) (Local t) z p q = absurd cc
    trans (Remote e a r) (Remote f b d) (Local u) p q = absurd cc
    trans (Remote e a r) (Remote f b d) (Remote g c k) p q = (triple_total cost).trans (e, a, r) (f, b, d) (g, c, k) p q

    congr : (x y z : Origin) → origin_cmp cost x y ≡ Equal → origin_cmp cost x z ≡ origin_cmp cost y z
    congr (Local s) (Local t) (Local u) p = refl
    congr (Local s) (Local t) (Remote g c k) p = refl
    congr (Local s) (Remote f b d) z p = absurd cc
    congr (Remote e a r) (Local t) z p = absurd cc
    congr (Remote e a r) (Remote f b d) (Local u) p = refl
    congr (Remote e a r) (Remote f b d) (Remote g c k) p = (triple_total cost).congr (e, a, r) (f, b, d) (g, c, k) p

pub route_total : (cost : NodeId → ℕ) → IsTotalOrder (route_cmp cost)
route_total cost =
    then_total (back_total (on_total (λ (r : KnownRoute). r.prefix.bits) nat_cmp_total)) (on_total (λ (r : KnownRoute). r.origin) (origin_total cost))

-- The best one of the routes that cover a source.
use Rattle.std.proofs.Common.{◌≡◌, ℕ, Bool, true, false, inl, inr, List, [], ◌∷◌, Option, Some, None, refl, sym, ap, subst, ◌∙◌, cond}
use Rattle.scenario_defs.specs.mv_base.Prefix.{covers}
use Rattle.scenario_defs.specs.mv_base.declared.addr.Addr.{Addr}
use Rattle.scenario_defs.specs.mv_base.declared.ids.NodeId.{NodeId}
use Rattle.choice_defs.specs.declared.known_route.KnownRoute.{KnownRoute}
use Rattle.choice_defs.specs.Choice.{Among, route_cmp, is_better, better_of, best_route, IsUncovered}
use Rattle.choice_defs.proofs.OrderLemmas.{not_less, is_less, not_itself, not_both, not_less_chain, route_total}

pub opposite : (b : Bool) → b ≡ true → b ≡ false → ⊥
opposite b h k = absurd (let bad : true ≡ false = sym h ∙ k in cc)

-- it covers the source, and none that does is better
pub record Best (cost : NodeId → ℕ) (xs : List KnownRoute) (source : Addr) (r : KnownRoute) : Type 0 where
  pub among : Among r xs
  pub covering : covers r.prefix source ≡ true
  pub best : (o : KnownRoute) → Among o xs → covers o.prefix source ≡ true → is_better cost o r ≡ false

abbrev pub BestIs : (NodeId → ℕ) → List KnownRoute → Addr → Option KnownRoute → Type 0
BestIs cost xs source None = IsUncovered xs source
BestIs cost xs source (Some r) = Best cost xs source r

itself : (cost : NodeId → ℕ) (o x : KnownRoute) → o ≡ x → is_better cost o x ≡ false
itself cost o x e = subst (λ (y : KnownRoute). is_better cost y x ≡ false) (sym e) (not_less (route_cmp cost x x) (not_itself (route_total cost) x))

first_best : (cost : NodeId → ℕ) (x : KnownRoute) (xs : List KnownRoute) (source : Addr) → covers x.prefix source ≡ true
    → ((o : KnownRoute) → Among o xs → covers o.prefix source ≡ true → is_better cost o x ≡ false) → Best cost (x ∷ xs) source x
first_best cost x xs source h k = record { among = inl refl; covering = h; best = best }
  where
    best : (o : KnownRoute) → Among o (x ∷ xs) → covers o.prefix source ≡ true → is_better cost o x ≡ false
    best o (inl e) c = itself cost o x e
    best o (inr a) c = k o a c

rest_best : (cost : NodeId → ℕ) (x : KnownRoute) (xs : List KnownRoute) (source : Addr) (y : KnownRoute) → Best cost xs source y
    → (covers x.prefix source ≡ true → is_better cost x y ≡ false) → Best cost (x ∷ xs) source y
rest_best cost x xs source y b k = record { among = inr b.among; covering = b.covering; best = best }
  where
    best : (o : KnownRoute) → Among o (x ∷ xs) → covers o.prefix source ≡ true → is_better cost o y ≡ false
    best o (inl e) c =
        subst (λ (z : KnownRoute). is_better cost z y ≡ false) (sym e) (k (ap (λ (z : KnownRoute). covers z.prefix source) (sym e) ∙ c))
    best o (inr a) c = b.best o a c

compared : (cost : NodeId → ℕ) (x : KnownRoute) (xs : List KnownRoute) (source : Addr) (y : KnownRoute) → covers x.prefix source ≡ true
    → Best cost xs source y
    → (t : Bool) → is_better cost y x ≡ t → BestIs cost (x ∷ xs) source (cond t (Some y) (Some x))
compared cost x xs source y h b true e =
    rest_best cost x xs source y b (λ c. not_less (route_cmp cost x y) (λ l. not_both (route_total cost) x y l (is_less (route_cmp cost y x) e)))
compared cost x xs source y h b false e =
    first_best cost x xs source h (λ o a c. not_less_chain (route_total cost) o y x (b.best o a c) e)

one_more : (cost : NodeId → ℕ) (x : KnownRoute) (xs : List KnownRoute) (source : Addr) (t : Bool) → covers x.prefix source ≡ t
    → (rest : Option KnownRoute) → BestIs cost xs source rest
    → BestIs cost (x ∷ xs) source (better_of cost t x rest)
one_more cost x xs source false h None b = none
  where
    none : (o : KnownRoute) → Among o (x ∷ xs) → covers o.prefix source ≡ false
    none o (inl e) = ap (λ (z : KnownRoute). covers z.prefix source) e ∙ h
    none o (inr a) = b o a
one_more cost x xs source false h (Some y) b = rest_best cost x xs source y b (λ c. absurd (opposite (covers x.prefix source) c h))
one_more cost x xs source true h None b = first_best cost x xs source h (λ o a c. absurd (opposite (covers o.prefix source) c (b o a)))
one_more cost x xs source true h (Some y) b = compared cost x xs source y h b (is_better cost y x) refl

pub best : (cost : NodeId → ℕ) (xs : List KnownRoute) (source : Addr) → BestIs cost xs source (best_route cost xs source)
best cost [] source = λ o a. absurd a
best cost (x ∷ xs) source = one_more cost x xs source (covers x.prefix source) refl (best_route cost xs source) (best cost xs source)

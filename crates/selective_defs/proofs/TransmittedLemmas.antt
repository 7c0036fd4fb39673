-- What a root transmits on.
use Rattle.std.proofs.Common.{◌≡◌, ◌<◌, ◌≤◌, nat_lt, Bool, true, false, ◌↔◌, inl, inr, List, [], ◌∷◌, Option, Some, None, refl, sym, ap, subst, ◌∙◌, arith, cond}
use Rattle.std.proofs.lemmas.Bool.{cases_Bool, and_parts, ltb-true, ltb-false}
use Rattle.mldp.specs.mv_base.Pattern.{rank}
use Rattle.mldp.specs.mv_base.declared.addr.Addr.{Addr}
use Rattle.selective_defs.specs.declared.selection.Selection.{Selection}
use Rattle.selective_defs.specs.Selective.{Among, matches, Matches, is_ready, chosen, transmitted, IsTransmitted, AreDistinct}
use Rattle.selective_defs.proofs.PatternLemmas.{both_true, opposite, matched, matching, one_pattern}

-- the most specific ready one
pub record Best (xs : List Selection) (source group : Addr) (s : Selection) : Type 0 where
  pub among : Among s xs
  pub ready : is_ready source group s ≡ true
  pub most : (o : Selection) → Among o xs → is_ready source group o ≡ true → rank o.pattern ≤ rank s.pattern

abbrev pub BestIs : List Selection → Addr → Addr → Option Selection → Type 0
BestIs xs source group None = (o : Selection) → Among o xs → is_ready source group o ≡ false
BestIs xs source group (Some s) = Best xs source group s

rank_same : (a b : Selection) → a ≡ b → rank a.pattern ≤ rank b.pattern
rank_same a b e = let same : rank a.pattern ≡ rank b.pattern = ap (λ (s : Selection). rank s.pattern) e in omega (arith, same)

first_best : (x : Selection) (xs : List Selection) (source group : Addr) → is_ready source group x ≡ true
    → ((o : Selection) → Among o xs → is_ready source group o ≡ true → rank o.pattern ≤ rank x.pattern) → Best (x ∷ xs) source group x
first_best x xs source group h k =
    record { among = inl refl; ready = h; most = most }
  where
    most : (o : Selection) → Among o (x ∷ xs) → is_ready source group o ≡ true → rank o.pattern ≤ rank x.pattern
    most o (inl e) r = rank_same o x e
    most o (inr a) r = k o a r

rest_best : (x : Selection) (xs : List Selection) (source group : Addr) (y : Selection) → Best xs source group y
    → (is_ready source group x ≡ true → rank x.pattern ≤ rank y.pattern) → Best (x ∷ xs) source group y
rest_best x xs source group y b k =
    record { among = inr b.among; ready = b.ready; most = most }
  where
    most : (o : Selection) → Among o (x ∷ xs) → is_ready source group o ≡ true → rank o.pattern ≤ rank y.pattern
    most o (inl e) r =
        let here : rank x.pattern ≤ rank y.pattern = k (ap (is_ready source group) (sym e) ∙ r) in
        let same : rank o.pattern ≤ rank x.pattern = rank_same o x e in
        omega (arith, here, same)
    most o (inr a) r = b.most o a r

compared : (x : Selection) (xs : List Selection) (source group : Addr) (y : Selection) → is_ready source group x ≡ true → Best xs source group y
    → (t : Bool) → nat_lt (rank x.pattern) (rank y.pattern) ≡ t → BestIs (x ∷ xs) source group (cond t (Some y) (Some x))
compared x xs source group y h b true e =
    let less : rank x.pattern < rank y.pattern = ltb-true (rank x.pattern) (rank y.pattern) e in
    rest_best x xs source group y b (λ r. omega (arith, less))
compared x xs source group y h b false e =
    let least : rank y.pattern ≤ rank x.pattern = ltb-false (rank x.pattern) (rank y.pattern) e in
    first_best x xs source group h (λ o a r. let below : rank o.pattern ≤ rank y.pattern = b.most o a r in omega (arith, below, least))

one_more : (x : Selection) (xs : List Selection) (source group : Addr) (t : Bool) → is_ready source group x ≡ t → (rest : Option Selection)
    → BestIs xs source group rest → BestIs (x ∷ xs) source group (chosen t x rest)
one_more x xs source group false h None b = none
  where
    none : (o : Selection) → Among o (x ∷ xs) → is_ready source group o ≡ false
    none o (inl e) = ap (is_ready source group) e ∙ h
    none o (inr a) = b o a
one_more x xs source group false h (Some y) b = rest_best x xs source group y b (λ r. absurd (opposite (is_ready source group x) r h))
one_more x xs source group true h None b = first_best x xs source group h (λ o a r. absurd (opposite (is_ready source group o) r (b o a)))
one_more x xs source group true h (Some y) b = compared x xs source group y h b (nat_lt (rank x.pattern) (rank y.pattern)) refl

pub best : (xs : List Selection) (source group : Addr) → BestIs xs source group (transmitted xs source group)
best [] source group = λ o a. absurd a
best (x ∷ xs) source group = one_more x xs source group (is_ready source group x) refl (transmitted xs source group) (best xs source group)

pub ready_parts : (source group : Addr) (s : Selection) → is_ready source group s ≡ true → (s.run ≡ true) × Matches s.pattern source group
ready_parts source group s h =
    let both = and_parts s.run (matches s.pattern source group) h in
    (both.0, matched s.pattern source group both.1)

pub is_ready_by : (source group : Addr) (s : Selection) → Matches s.pattern source group → s.run ≡ true → is_ready source group s ≡ true
is_ready_by source group s m r = both_true s.run (matches s.pattern source group) r (matching s.pattern source group m)

pub best_of : (xs : List Selection) (source group : Addr) (s : Selection) → transmitted xs source group ≡ Some s → Best xs source group s
best_of xs source group s e = subst (BestIs xs source group) e (best xs source group)

pub transmitted_so : (xs : List Selection) (source group : Addr) (s : Selection) → transmitted xs source group ≡ Some s
    → IsTransmitted xs source group s
transmitted_so xs source group s e =
    let b = best_of xs source group s e in
    let parts = ready_parts source group s b.ready in
    record { among = b.among; matches = parts.1; run = parts.0; most = λ o a m r. b.most o a (is_ready_by source group o m r) }

chosen_so : (xs : List Selection) (source group : Addr) (s : Selection) → AreDistinct xs → IsTransmitted xs source group s → (o : Option Selection)
    → BestIs xs source group o → o ≡ Some s
chosen_so xs source group s d t None b = absurd (opposite (is_ready source group s) (is_ready_by source group s t.matches t.run) (b s t.among))
chosen_so xs source group s d t (Some y) b =
    let parts = ready_parts source group y b.ready in
    let up : rank s.pattern ≤ rank y.pattern = b.most s t.among (is_ready_by source group s t.matches t.run) in
    let down : rank y.pattern ≤ rank s.pattern = t.most y b.among parts.1 parts.0 in
    let same : rank y.pattern ≡ rank s.pattern = omega (arith, up, down) in
    ap (λ (x : Selection). Some x) (d y s b.among t.among (one_pattern y.pattern s.pattern source group parts.1 t.matches same))

pub transmitted_when : (xs : List Selection) (source group : Addr) (s : Selection) → AreDistinct xs
    → (transmitted xs source group ≡ Some s) ↔ IsTransmitted xs source group s
transmitted_when xs source group s d =
    (transmitted_so xs source group s, λ t. chosen_so xs source group s d t (transmitted xs source group) (best xs source group))

not_run : (source group : Addr) (s : Selection) → is_ready source group s ≡ false → Matches s.pattern source group → s.run ≡ false
not_run source group s h m = elim (cases_Bool s.run) [
  | inl t ↦ absurd (opposite (is_ready source group s) (is_ready_by source group s m t) h)
  | inr f ↦ f
]

none_chosen : (xs : List Selection) (source group : Addr) → ((s : Selection) → Among s xs → Matches s.pattern source group → s.run ≡ false)
    → (o : Option Selection) → BestIs xs source group o → o ≡ None
none_chosen xs source group h None b = refl
none_chosen xs source group h (Some y) b =
    let parts = ready_parts source group y b.ready in
    absurd (opposite y.run parts.0 (h y b.among parts.1))

pub inclusive_when : (xs : List Selection) (source group : Addr)
    → (transmitted xs source group ≡ None) ↔ ((s : Selection) → Among s xs → Matches s.pattern source group → s.run ≡ false)
inclusive_when xs source group = (
  λ e s a m. not_run source group s (subst (BestIs xs source group) e (best xs source group) s a) m,
  λ h. none_chosen xs source group h (transmitted xs source group) (best xs source group),
)

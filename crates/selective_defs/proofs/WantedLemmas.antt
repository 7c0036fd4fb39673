-- What an egress wants.
use Rattle.std.proofs.Common.{◌≡◌, ℕ, ◌+◌, ◌<◌, ◌≤◌, ◌&&◌, ◌||◌, not, nat_lt, Bool, true, false, ◌↔◌, inl, inr, List, [], ◌∷◌, Some, refl, sym, ap, subst, ◌∙◌, arith, cond}
use Rattle.std.specs.List.{filter, list_any}
use Rattle.std.proofs.lemmas.Bool.{cases_Bool, and_parts, ltb-true, lt-ltb}
use Rattle.mldp.specs.mv_base.Pattern.{rank}
use Rattle.mldp.specs.mv_base.declared.addr.Addr.{Addr}
use Rattle.mldp.specs.mv_base.declared.pattern.Pattern.{Pattern}
use Rattle.selective_defs.specs.declared.learned_route.LearnedRoute.{LearnedRoute}
use Rattle.selective_defs.specs.declared.selection.Selection.{Selection}
use Rattle.selective_defs.specs.Selective.{Among, matches, Matches, transmitted, overtakes, is_wanted, wanted, IsWanted, InStep}
use Rattle.selective_defs.proofs.PatternLemmas.{both_true, opposite, matched, matching}
use Rattle.selective_defs.proofs.TransmittedLemmas.{best_of, ready_parts, is_ready_by}

-- ---- lists

among_one : {X : Type 0} (p : X → Bool) (x y : X) (ys : List X) (t : Bool) → p y ≡ t → (Among x (filter p ys) → Among x ys × (p x ≡ true))
    → Among x (cond t (y ∷ filter p ys) (filter p ys)) → Among x (y ∷ ys) × (p x ≡ true)
among_one p x y ys true h k (inl e) = (inl e, ap p e ∙ h)
among_one p x y ys true h k (inr a) = let both = k a in (inr both.0, both.1)
among_one p x y ys false h k a = let both = k a in (inr both.0, both.1)

pub filtered : {X : Type 0} (p : X → Bool) (x : X) (xs : List X) → Among x (filter p xs) → Among x xs × (p x ≡ true)
filtered p x [] a = absurd a
filtered p x (y ∷ ys) a = among_one p x y ys (p y) refl (filtered p x ys) a

keeps_one : {X : Type 0} (p : X → Bool) (x y : X) (ys : List X) (t : Bool) → p y ≡ t → p x ≡ true → (Among x ys → Among x (filter p ys))
    → Among x (y ∷ ys) → Among x (cond t (y ∷ filter p ys) (filter p ys))
keeps_one p x y ys true h r k (inl e) = inl e
keeps_one p x y ys true h r k (inr a) = inr (k a)
keeps_one p x y ys false h r k (inl e) = absurd (opposite (p y) (ap p (sym e) ∙ r) h)
keeps_one p x y ys false h r k (inr a) = k a

pub kept : {X : Type 0} (p : X → Bool) (x : X) (xs : List X) → p x ≡ true → Among x xs → Among x (filter p xs)
kept p x [] r a = absurd a
kept p x (y ∷ ys) r a = keeps_one p x y ys (p y) refl r (kept p x ys r) a

or_false : (a b : Bool) → (a || b) ≡ false → (a ≡ false) × (b ≡ false)
or_false true b h = absurd (opposite true refl h)
or_false false b h = (refl, h)

none_passes : {X : Type 0} (p : X → Bool) (xs : List X) → list_any p xs ≡ false → (x : X) → Among x xs → p x ≡ false
none_passes p [] h x a = absurd a
none_passes p (y ∷ ys) h x (inl e) = ap p e ∙ (or_false (p y) (list_any p ys) h).0
none_passes p (y ∷ ys) h x (inr a) = none_passes p ys (or_false (p y) (list_any p ys) h).1 x a

no_one : {X : Type 0} (p : X → Bool) (xs : List X) → ((x : X) → Among x xs → p x ≡ false) → list_any p xs ≡ false
no_one p [] h = refl
no_one p (y ∷ ys) h = ap (λ (t : Bool). t || list_any p ys) (h y (inl refl)) ∙ no_one p ys (λ x a. h x (inr a))

not_true : (b : Bool) → not b ≡ true → b ≡ false
not_true true h = absurd (opposite false h refl)
not_true false h = refl

-- ---- routes

not_run : (source group : Addr) (route other : LearnedRoute) → overtakes source group route other ≡ false → Matches other.pattern source group
    → rank route.pattern < rank other.pattern → other.run ≡ false
not_run source group route other h m less = elim (cases_Bool other.run) [
  | inl t ↦ absurd (opposite (overtakes source group route other)
      (both_true other.run (matches other.pattern source group && nat_lt (rank route.pattern) (rank other.pattern)) t
      (both_true (matches other.pattern source group) (nat_lt (rank route.pattern) (rank other.pattern)) (matching other.pattern source group m)
      (lt-ltb (rank route.pattern) (rank other.pattern) less))) h)
  | inr f ↦ f
]

not_over : (source group : Addr) (route other : LearnedRoute)
    → (Matches other.pattern source group → rank route.pattern < rank other.pattern → other.run ≡ false) → overtakes source group route other ≡ false
not_over source group route other h = elim (cases_Bool (overtakes source group route other)) [
  | inr f ↦ f
  | inl t ↦
      let run = and_parts other.run (matches other.pattern source group && nat_lt (rank route.pattern) (rank other.pattern)) t in
      let rest = and_parts (matches other.pattern source group) (nat_lt (rank route.pattern) (rank other.pattern)) run.1 in
      absurd (opposite other.run run.0 (h (matched other.pattern source group rest.0) (ltb-true (rank route.pattern) (rank other.pattern) rest.1)))
]

wanted_so : (routes : List LearnedRoute) (source group : Addr) (route : LearnedRoute) → Among route (wanted routes source group)
    → IsWanted routes source group route
wanted_so routes source group route a =
    let own = filtered (is_wanted routes source group) route routes a in
    let both = and_parts (matches route.pattern source group) (not (list_any (overtakes source group route) routes)) own.1 in
    let none = not_true (list_any (overtakes source group route) routes) both.1 in
    record {
      among = own.0;
      matches = matched route.pattern source group both.0;
      kept = λ other b m less. not_run source group route other (none_passes (overtakes source group route) routes none other b) m less;
    }

pub so_wanted : (routes : List LearnedRoute) (source group : Addr) (route : LearnedRoute) → IsWanted routes source group route
    → Among route (wanted routes source group)
so_wanted routes source group route w =
    kept (is_wanted routes source group) route routes
    (both_true (matches route.pattern source group) (not (list_any (overtakes source group route) routes))
    (matching route.pattern source group w.matches)
    (ap not (no_one (overtakes source group route) routes (λ other b. not_over source group route other (w.kept other b))))) w.among

pub wanted_when : (routes : List LearnedRoute) (source group : Addr) (route : LearnedRoute)
    → Among route (wanted routes source group) ↔ IsWanted routes source group route
wanted_when routes source group route = (wanted_so routes source group route, so_wanted routes source group route)

-- ---- a root and an egress

pub each_wanted : (delay now : ℕ) (selections : List Selection) (routes : List LearnedRoute) (source group : Addr) (s : Selection)
    (route : LearnedRoute) → InStep delay now selections routes → transmitted selections source group ≡ Some s
    → Among route routes → route.pattern ≡ s.pattern → Among route (wanted routes source group)
each_wanted delay now selections routes source group s route i e a same =
    let b = best_of selections source group s e in
    let parts = ready_parts source group s b.ready in
    so_wanted routes source group route (record {
      among = a;
      matches = subst (λ (p : Pattern). Matches p source group) (sym same) parts.1;
      kept = λ other c m less. elim (cases_Bool other.run) [
        | inr f ↦ f
        | inl t ↦
            let own = i.selected other c in
            let before : own.0.since ≤ other.since = i.later own.0 other own.1 c own.2 in
            let over : other.since + delay ≤ now = i.over other c t in
            let due : own.0.since + delay ≤ now = omega (arith, before, over) in
            let ready = is_ready_by source group own.0 (subst (λ (p : Pattern). Matches p source group) (sym own.2) m) (i.run own.0 own.1 due) in
            let most : rank own.0.pattern ≤ rank s.pattern = b.most own.0 own.1 ready in
            let here : rank own.0.pattern ≡ rank other.pattern = ap rank own.2 in
            let there : rank route.pattern ≡ rank s.pattern = ap rank same in
            absurd (omega (arith, most, here, there, less))
      ];
    })

pub some_wanted : (delay now : ℕ) (selections : List Selection) (routes : List LearnedRoute) (source group : Addr) (s : Selection)
    → InStep delay now selections routes → transmitted selections source group ≡ Some s
    → (route : LearnedRoute) × (route.pattern ≡ s.pattern) × Among route (wanted routes source group)
some_wanted delay now selections routes source group s i e =
    let own = i.learned s (best_of selections source group s e).among in
    (own.0, own.2, each_wanted delay now selections routes source group s own.0 i e own.1 own.2)

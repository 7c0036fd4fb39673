-- The best of the routes that a VRF knows is the best of those of the greatest length that covers the source.
use Rattle.std.proofs.Common.{◌≡◌, ℕ, ◌<◌, ◌≤◌, ◌==◌, ◌&&◌, Bool, true, false, inl, inr, List, [], ◌∷◌, map, filter, Option, Some, None, refl, sym, ap, subst, ◌∙◌, cond, arith, eqb-true}
use Rattle.std.proofs.lemmas.Bool.Decides.{nat_tests}
use Rattle.std.specs.Cmp.{nat_cmp_is, nat_cmp_total, tied_itself}
use Rattle.std.specs.Ordering.{nat_cmp, is_lt, ordering_then}
use Rattle.std.specs.declared.cmp.Ordering.{Ordering}
use Rattle.std.specs.declared.cmp.Ordering.TheVariants.{Less, Equal, Greater}
use Rattle.mv_base.specs.Prefix.{covers}
use Rattle.mv_base.specs.declared.addr.Addr.{Addr}
use Rattle.mv_base.specs.declared.ids.NodeId.{NodeId}
use Rattle.mv_base.specs.declared.ids.SiteId.{SiteId}
use Rattle.choice_defs.specs.declared.known_route.KnownRoute.{KnownRoute}
use Rattle.choice_defs.specs.declared.origin.Origin.{Origin}
use Rattle.choice_defs.specs.declared.origin.Origin.TheVariants.{Local, Remote}
use Rattle.choice_defs.specs.Choice.{Among, route_cmp, origin_cmp, is_better, better_of, best_route, is_candidate}
use Rattle.choice_defs.proofs.OrderLemmas.{is_less, less_twice, not_less_chain, route_total}
use Rattle.choice_defs.proofs.BestLemmas.{opposite}
use Rattle.umh_select.specs.declared.candidate.Candidate.{Candidate}
use Rattle.umh_select.specs.declared.key.RouteKey.{RouteKey}
use Rattle.umh_select.specs.declared.route.Held.{Held}
use Rattle.umh_select.specs.Routes.{best_of, candidate_cmp, candidate_of, known_from, known_here}

-- ---- the better one of three

module _ (cost : NodeId → ℕ) where
  abbrev pick : KnownRoute → KnownRoute → KnownRoute
  pick r x = cond (is_better cost x r) x r

  left_is : (r x o : KnownRoute) (a : Bool) → better_of cost true r (cond a (Some o) (Some x))
      ≡ cond a (cond (is_better cost o r) (Some o) (Some r)) (cond (is_better cost x r) (Some x) (Some r))
  left_is r x o true = refl
  left_is r x o false = refl

  right_is : (r x o : KnownRoute) (b : Bool) → better_of cost true (cond b x r) (Some o)
      ≡ cond b (cond (is_better cost o x) (Some o) (Some x)) (cond (is_better cost o r) (Some o) (Some r))
  right_is r x o true = refl
  right_is r x o false = refl

  chain : (r x o : KnownRoute) → is_better cost o x ≡ true → is_better cost x r ≡ true → is_better cost o r ≡ false → ⊥
  chain r x o h k l =
      less_twice (route_cmp cost o r) ((route_total cost).trans o x r (is_less (route_cmp cost o x) h) (is_less (route_cmp cost x r) k)) l

  three : (r x o : KnownRoute) (a b c : Bool) → is_better cost o x ≡ a → is_better cost x r ≡ b → is_better cost o r ≡ c
      → cond a (cond c (Some o) (Some r)) (cond b (Some x) (Some r)) ≡ cond b (cond a (Some o) (Some x)) (cond c (Some o) (Some r))
  three r x o true true true h k l = refl
  three r x o true true false h k l = absurd (chain r x o h k l)
  three r x o true false c h k l = refl
  three r x o false true c h k l = refl
  three r x o false false true h k l = absurd (opposite (is_better cost o r) l (not_less_chain (route_total cost) o x r h k))
  three r x o false false false h k l = refl

  some_pick : (r x : KnownRoute) (t : Bool) → cond t (Some x) (Some r) ≡ Some (cond t x r)
  some_pick r x true = refl
  some_pick r x false = refl

  pub regroup : (r x : KnownRoute) (o : Option KnownRoute) → better_of cost true r (better_of cost true x o) ≡ better_of cost true (pick r x) o
  regroup r x None = some_pick r x (is_better cost x r)
  regroup r x (Some o) =
      left_is r x o (is_better cost o x)
      ∙ (three r x o (is_better cost o x) (is_better cost x r) (is_better cost o r) refl refl refl
      ∙ sym (right_is r x o (is_better cost x r)))

  -- ---- the best one along routes of one length

  -- each is of the length and covers the source
  abbrev pub AreAt : ℕ → Addr → List (RouteKey × Held) → Type 0
  AreAt bits source [] = Unit {0}
  AreAt bits source (e ∷ es) = (covers e.0.prefix source ≡ true) × (e.0.prefix.bits ≡ bits) × AreAt bits source es

  abbrev cand : RouteKey × Held → Candidate
  cand e = candidate_of cost e

  abbrev pub wins : RouteKey × Held → RouteKey × Held → Bool
  wins f e = is_lt (candidate_cmp (candidate_of cost f) (candidate_of cost e))

  abbrev pub winner : RouteKey × Held → List (RouteKey × Held) → RouteKey × Held
  winner e [] = e
  winner e (f ∷ fs) = winner (cond (wins f e) f e) fs

  pub winner_among : (e : RouteKey × Held) (es : List (RouteKey × Held)) → Among (winner e es) (e ∷ es)
  winner_among e [] = inl refl
  winner_among e (f ∷ fs) = by (wins f e) (winner_among (cond (wins f e) f e) fs)
    where
      by : (t : Bool) → Among (winner (cond t f e) fs) (cond t f e ∷ fs) → Among (winner (cond t f e) fs) (e ∷ f ∷ fs)
      by true m = inr m
      by false (inl m) = inl m
      by false (inr m) = inr (inr m)

  cand_pick : (e f : RouteKey × Held) (t : Bool) → cond t (cand f) (cand e) ≡ cand (cond t f e)
  cand_pick e f true = refl
  cand_pick e f false = refl

  pub best_winner : (e : RouteKey × Held) (es : List (RouteKey × Held))
      → best_of (Some (candidate_of cost e)) (map (candidate_of cost) es) ≡ Some (candidate_of cost (winner e es))
  best_winner e [] = refl
  best_winner e (f ∷ fs) =
      ap (λ (c : Candidate). best_of (Some c) (map (candidate_of cost) fs)) (cand_pick e f (wins f e))
      ∙ best_winner (cond (wins f e) f e) fs

  -- of one length, the order of routes is that of candidates
  same_test : (e f : RouteKey × Held) → f.0.prefix.bits ≡ e.0.prefix.bits → is_better cost (known_from f) (known_from e) ≡ wins f e
  same_test e f h =
      ap (λ (o : Ordering). is_lt (ordering_then o (candidate_cmp (candidate_of cost f) (candidate_of cost e))))
      (subst (λ (n : ℕ). nat_cmp e.0.prefix.bits n ≡ Equal) (sym h) (tied_itself nat_cmp_total e.0.prefix.bits))

  known_pick : (e f : RouteKey × Held) (t : Bool) → known_from (cond t f e) ≡ cond t (known_from f) (known_from e)
  known_pick e f true = refl
  known_pick e f false = refl

  pub winner_best : (bits : ℕ) (source : Addr) (e : RouteKey × Held) (es : List (RouteKey × Held)) → AreAt bits source (e ∷ es)
      → Some (known_from (winner e es)) ≡ better_of cost true (known_from e) (best_route cost (map known_from es) source)
  winner_best bits source e [] h = refl
  winner_best bits source e (f ∷ fs) h =
      let next = known_from f in
      let rest = best_route cost (map known_from fs) source in
      let own = known_from e in
      let test = same_test e f (h.2.1 ∙ sym h.1) in
      winner_best bits source (cond (wins f e) f e) fs (by (wins f e))
      ∙ (ap (λ (r : KnownRoute). better_of cost true r rest) (known_pick e f (wins f e) ∙ ap (λ (t : Bool). cond t next own) (sym test))
      ∙ (sym (regroup own next rest)
      ∙ ap (λ (t : Bool). better_of cost true own (better_of cost t next rest)) (sym h.2.0)))
    where
      by : (t : Bool) → AreAt bits source (cond t f e ∷ fs)
      by true = h.2
      by false = (h.0, h.1, h.2.2)

  -- ---- routes of the greatest length

  abbrev at : ℕ → Addr → KnownRoute → Bool
  at bits source r = is_candidate bits source r

  abbrev pub NoneLonger : ℕ → Addr → List KnownRoute → Type 0
  NoneLonger bits source [] = Unit {0}
  NoneLonger bits source (r ∷ more) = (covers r.prefix source ≡ true → r.prefix.bits ≤ bits) × NoneLonger bits source more

  abbrev Low : ℕ → Option KnownRoute → Type 0
  Low bits None = Unit {0}
  Low bits (Some r) = r.prefix.bits < bits

  -- what the best of those of the length says of the best of all
  abbrev pub Cut : ℕ → Option KnownRoute → Option KnownRoute → Type 0
  Cut bits None all = Low bits all
  Cut bits (Some r) all = (all ≡ Some r) × (r.prefix.bits ≡ bits)

  first_longer : (r x : KnownRoute) → r.prefix.bits < x.prefix.bits → is_better cost x r ≡ true
  first_longer r x h =
      ap (λ (o : Ordering). is_lt (ordering_then o (origin_cmp cost x.origin r.origin))) (sym (nat_cmp_is r.prefix.bits x.prefix.bits Less h))

  first_shorter : (r x : KnownRoute) → x.prefix.bits < r.prefix.bits → is_better cost x r ≡ false
  first_shorter r x h =
      ap (λ (o : Ordering). is_lt (ordering_then o (origin_cmp cost x.origin r.origin))) (sym (nat_cmp_is r.prefix.bits x.prefix.bits Greater h))

  below : (m n : ℕ) → m ≤ n → (m == n) ≡ false → m < n
  below m n h k = grind (arith, nat_tests)

  low_by : (bits : ℕ) (r y : KnownRoute) → r.prefix.bits < bits → y.prefix.bits < bits → (t : Bool) → Low bits (cond t (Some y) (Some r))
  low_by bits r y h k true = k
  low_by bits r y h k false = h

  shorter : (bits : ℕ) (r : KnownRoute) → r.prefix.bits < bits → (found all : Option KnownRoute) → Cut bits found all
      → Cut bits found (better_of cost true r all)
  shorter bits r h None None c = h
  shorter bits r h None (Some y) c = low_by bits r y h c (is_better cost y r)
  shorter bits r h (Some x) all c = (
    ap (better_of cost true r) c.0 ∙ ap (λ (t : Bool). cond t (Some x) (Some r))
        (first_longer r x (subst (λ (n : ℕ). r.prefix.bits < n) (sym c.1) h)),
    c.1,
  )

  cut_by : (bits : ℕ) (r x : KnownRoute) → r.prefix.bits ≡ bits → x.prefix.bits ≡ bits → (all : Option KnownRoute) (t : Bool)
      → all ≡ cond t (Some x) (Some r) → Cut bits (cond t (Some x) (Some r)) all
  cut_by bits r x h k all true e = (e, k)
  cut_by bits r x h k all false e = (e, h)

  level : (bits : ℕ) (r : KnownRoute) → r.prefix.bits ≡ bits → (found all : Option KnownRoute) → Cut bits found all
      → Cut bits (better_of cost true r found) (better_of cost true r all)
  level bits r h None None c = (refl, h)
  level bits r h None (Some y) c =
      (ap (λ (t : Bool). cond t (Some y) (Some r)) (first_shorter r y (subst (λ (n : ℕ). y.prefix.bits < n) (sym h) c)), h)
  level bits r h (Some x) all c = cut_by bits r x h c.1 (better_of cost true r all) (is_better cost x r) (ap (better_of cost true r) c.0)

  best_if : (source : Addr) (r : KnownRoute) (xs : List KnownRoute) (t : Bool)
      → best_route cost (cond t (r ∷ xs) xs) source
      ≡ cond t (better_of cost (covers r.prefix source) r (best_route cost xs source)) (best_route cost xs source)
  best_if source r xs true = refl
  best_if source r xs false = refl

  pub cut : (bits : ℕ) (source : Addr) (xs : List KnownRoute) → NoneLonger bits source xs
      → Cut bits (best_route cost (filter (is_candidate bits source) xs) source) (best_route cost xs source)
  cut bits source [] h = tt
  cut bits source (r ∷ more) h =
      let found = best_route cost (filter (is_candidate bits source) more) source in
      let all = best_route cost more source in
      subst (λ (o : Option KnownRoute). Cut bits o (better_of cost (covers r.prefix source) r all))
      (sym (best_if source r (filter (is_candidate bits source) more) (is_candidate bits source r)))
      (by (covers r.prefix source) (r.prefix.bits == bits) refl refl found all (cut bits source more h.1))
    where
      by : (c e : Bool) → covers r.prefix source ≡ c → (r.prefix.bits == bits) ≡ e → (found all : Option KnownRoute) → Cut bits found all
          → Cut bits (cond (c && e) (better_of cost c r found) found) (better_of cost c r all)
      by false e p q found all k = k
      by true false p q found all k = shorter bits r (below r.prefix.bits bits (h.0 p) q) found all k
      by true true p q found all k = level bits r (eqb-true r.prefix.bits bits q) found all k

  -- ---- an attached prefix comes first

  -- it is none, or of the length
  abbrev OfLength : ℕ → Option KnownRoute → Type 0
  OfLength bits None = Unit {0}
  OfLength bits (Some r) = r.prefix.bits ≡ bits

  abbrev pub AllAt : ℕ → List KnownRoute → Type 0
  AllAt bits [] = Unit {0}
  AllAt bits (r ∷ more) = (r.prefix.bits ≡ bits) × AllAt bits more

  of_length : (bits : ℕ) (source : Addr) (xs : List KnownRoute) → AllAt bits xs → OfLength bits (best_route cost xs source)
  of_length bits source [] h = tt
  of_length bits source (r ∷ more) h = by (covers r.prefix source) (best_route cost more source) (of_length bits source more h.1)
    where
      either : (y : KnownRoute) → y.prefix.bits ≡ bits → (t : Bool) → OfLength bits (cond t (Some y) (Some r))
      either y k true = k
      either y k false = h.0

      by : (c : Bool) (rest : Option KnownRoute) → OfLength bits rest → OfLength bits (better_of cost c r rest)
      by false rest k = k
      by true None k = h.0
      by true (Some y) k = either y k (is_better cost y r)

  no_better_origin : (o : Origin) (site : SiteId) → is_lt (origin_cmp cost o (Local site)) ≡ false
  no_better_origin (Local other) site = refl
  no_better_origin (Remote edge address rd) site = refl

  local_stays : (bits : ℕ) (e : RouteKey × SiteId) (rest : Option KnownRoute) → e.0.prefix.bits ≡ bits → OfLength bits rest
      → better_of cost true (known_here e) rest ≡ Some (known_here e)
  local_stays bits e None h k = refl
  local_stays bits e (Some y) h k =
      ap (λ (t : Bool). cond t (Some y) (Some (known_here e)))
      (ap (λ (o : Ordering). is_lt (ordering_then o (origin_cmp cost y.origin (Local e.1))))
      (subst (λ (n : ℕ). nat_cmp e.0.prefix.bits n ≡ Equal) (h ∙ sym k) (tied_itself nat_cmp_total e.0.prefix.bits))
      ∙ no_better_origin y.origin e.1)

  pub local_first : (bits : ℕ) (source : Addr) (e : RouteKey × SiteId) (more : List KnownRoute) → covers e.0.prefix source ≡ true
      → e.0.prefix.bits ≡ bits → AllAt bits more
      → best_route cost (known_here e ∷ more) source ≡ Some (known_here e)
  local_first bits source e more c h k =
      ap (λ (t : Bool). better_of cost t (known_here e) (best_route cost more source)) c
      ∙ local_stays bits e (best_route cost more source) h (of_length bits source more k)

-- Tunnels that come and go where a plan is carried out.
use Rattle.std.proofs.Common.{◌≡◌, ℕ, ◌<◌, ◌+◌, ◌&&◌, ◌||◌, not, Bool, true, false, cond, List, [], ◌∷◌, map, take, length, get_or, Option, None, Some, is_some, refl, sym, ap, subst, ◌∙◌}
use Rattle.std.specs.List.{AllByRecursion, IsDistinct, filter, list_any, flat_map}
use Rattle.std.specs.Map.{keys_of, lookup}
use Rattle.std.specs.Cmp.{both_ways, eq_by_cmp_equiv}
use Rattle.std.specs.Ordering.{eq_by_cmp}
use Rattle.std.specs.FinSet as sets
use Rattle.std.proofs.lemmas.Bool.{or_left, or_right}
use Rattle.std.proofs.lemmas.List.Folds.{list_any-append, list_any_more}
use Rattle.std.proofs.lemmas.Map.Keys.{IsDistinct-head, IsDistinct-tail}
use Rattle.mldp.specs.declared.mldp_fec.fec.Fec.{Fec}
use Rattle.mldp.proofs.mldp_fec.SameLemmas.{fec_equal, fec_itself}
use Rattle.label_defs.specs.Keys.{fec_cmp}
use Rattle.label_defs.proofs.KeyLemmas.{fec_cmp_exact, fec_cmp_total}
use Rattle.vrf_flows.proofs.pim_state.MapLemmas.{not_both}
use Rattle.vrf_words.specs.declared.tree_defs.flow.Flow.{Flow}
use Rattle.vrf_words.specs.tree_defs.Keys.{same_flow}
use Rattle.vrf_words.proofs.tree_defs.KeyLemmas.{same_flow_equal, same_flow_itself, tied}
use Rattle.vrf_flows.proofs.SetLemmas.{listed}
use Rattle.vrf_trees.specs.declared.wants.Wants.{Wants}
use Rattle.vrf_trees.specs.Changes.{AreNew}
use Rattle.vrf_trees.specs.Plan.{carried, comes, comes_at, fecs_in, goes, goes_at}
use Rattle.vrf_trees.specs.Wants.{has_fec, is_fec, is_in, tunnels_in}

-- what `==` tells of FECs is what ties
pub fec_ties : (a b : Fec) → is_fec a b ≡ eq_by_cmp fec_cmp a b
fec_ties = tied fec_cmp is_fec fec_cmp_total fec_cmp_exact fec_equal fec_itself

pub fec_turned : (a b : Fec) → is_fec a b ≡ is_fec b a
fec_turned a b = fec_ties a b ∙ ((eq_by_cmp_equiv fec_cmp_total).symm a b ∙ sym (fec_ties b a))

-- One tunnel more of a list is put to others.
pub put-more : (fec x : Fec) (xs keys old new : List Fec) (i : ℕ) (d : Fec) → i < length xs → get_or xs i d ≡ x
    → is_in fec keys ≡ (is_in fec (take i xs) || is_in fec old) → is_in fec new ≡ cond (is_fec x fec) true (is_in fec keys) →
    is_in fec new ≡ (is_in fec (take (i + 1) xs) || is_in fec old)
put-more fec x xs keys old new i d l item before put =
    put
    ∙ (ap (λ (b : Bool). cond (is_fec x fec) true b) before
    ∙ (three (is_fec x fec) (is_in fec (take i xs)) (is_in fec old)
    ∙ ((λ j. (is_in fec (take i xs) || (fec_turned x fec ∙ ap (is_fec fec) (sym item)) j) || is_in fec old)
    ∙ ap (λ (b : Bool). b || is_in fec old) (sym (list_any_more (is_fec fec) xs i d l)))))
  where
    three : (b t o : Bool) → cond b true (t || o) ≡ ((t || b) || o)
    three true true o = refl
    three true false o = refl
    three false true o = refl
    three false false o = refl

-- ---- tunnels of all flows

pub in-flat : {X : Type 0} (fec : Fec) (give : X → List Fec) (xs : List X) → is_in fec (flat_map give xs) ≡ list_any (λ x. is_in fec (give x)) xs
in-flat fec give [] = refl
in-flat fec give (x ∷ xs) =
    list_any-append (is_fec fec) (give x) (flat_map give xs) ∙ ap (λ (b : Bool). is_in fec (give x) || b) (in-flat fec give xs)

pub in-values : (fec : Fec) (es : List (Flow × Wants)) → list_any (has_fec fec) (map (λ e. e.1) es) ≡ is_in fec (tunnels_in es)
in-values fec [] = refl
in-values fec (e ∷ es) = ap (λ (b : Bool). is_in fec e.1.fecs || b) (in-values fec es) ∙ sym (list_any-append (is_fec fec) e.1.fecs (tunnels_in es))

-- whether a flow's tunnels have it
abbrev pub wants_at : Fec → Flow × Wants → Bool
wants_at fec e = is_in fec e.1.fecs

-- ---- entries that pass a test

-- an entry of a flow passes the test
abbrev pub Passes : {X : Type 0} → (Flow × X → Bool) → List (Flow × X) → Type 0
Passes {X} test es = (q : Flow) × (x : X) × (lookup (same_flow q) es ≡ Some x) × (test (q, x) ≡ true)

lookup-apart : {X : Type 0} (q : Flow) (es : List (Flow × X)) → AllByRecursion (λ k. same_flow q k ≡ false) (keys_of es)
    → lookup (same_flow q) es ≡ None
lookup-apart q [] h = refl
lookup-apart q (e ∷ es) h = rw h.0 (lookup-apart q es h.1)

pub passes : {X : Type 0} (test : Flow × X → Bool) (es : List (Flow × X)) → IsDistinct same_flow (keys_of es) → list_any test es ≡ true
    → Passes test es
passes test [] d h = let e : false ≡ true = h in absurd cc
passes {X} test (e ∷ es) d h = by (passes test es (IsDistinct-tail same_flow e.0 (keys_of es) d)) (test e) refl h
  where
    later : (q : Flow) (x : X) → lookup (same_flow q) es ≡ Some x → (b : Bool) → same_flow q e.0 ≡ b
        → cond b (Some e.1) (lookup (same_flow q) es) ≡ Some x
    later q x l true s =
        let none : lookup (same_flow q) es ≡ None =
        subst (λ (k : Flow). lookup (same_flow k) es ≡ None) (sym (same_flow_equal q e.0 s))
        (lookup-apart e.0 es (IsDistinct-head same_flow e.0 (keys_of es) d)) in
        let t : true ≡ false = sym (ap is_some l) ∙ ap is_some none in absurd cc
    later q x l false s = l

    by : (list_any test es ≡ true → Passes test es) → (b : Bool) → test e ≡ b → (b || list_any test es) ≡ true → Passes test (e ∷ es)
    by rest true t k = (e.0, e.1, ap (λ (b : Bool). cond b (Some e.1) (lookup (same_flow e.0) es)) (same_flow_itself e.0), t)
    by rest false t k =
        let one = rest k in
        (one.0, one.1, later one.0 one.1 one.2 (same_flow one.0 e.0) refl, one.3)

some-equal : {X : Type 0} (x y : X) → Some x ≡ Some y → x ≡ y
some-equal {X} x y h = ap (λ (o : Option X). elim o [ None ↦ x | Some z ↦ z ]) h

pub passed : {X : Type 0} (test : Flow × X → Bool) (es : List (Flow × X)) (q : Flow) (x : X) → lookup (same_flow q) es ≡ Some x → test (q, x) ≡ true
    → list_any test es ≡ true
passed test [] q x l t = let e : false ≡ true = ap is_some l in absurd cc
passed {X} test (e ∷ es) q x l t = by (λ k. passed test es q x k t) (same_flow q e.0) refl l
  where
    by : (lookup (same_flow q) es ≡ Some x → list_any test es ≡ true) → (b : Bool) → same_flow q e.0 ≡ b
        → cond b (Some e.1) (lookup (same_flow q) es) ≡ Some x → list_any test (e ∷ es) ≡ true
    by rest true s k =
        let key : q ≡ e.0 = same_flow_equal q e.0 s in
        let value : x ≡ e.1 = sym (some-equal e.1 x k) in
        or_left _ _ ((λ i. test (sym key i, sym value i)) ∙ t)
    by rest false s k = or_right _ _ (rest k)

-- ---- what is left of tunnels

-- Those that pass a test are in what is left.
in-left : (test : Fec → Bool) (fec : Fec) (fecs : List Fec) → is_in fec (filter test fecs) ≡ (is_in fec fecs && test fec)
in-left test fec [] = refl
in-left test fec (x ∷ xs) = by (test x) (is_fec fec x) refl refl (in-left test fec xs)
  where
    here : is_fec fec x ≡ true → test x ≡ test fec
    here s = ap test (sym (fec_equal fec x s))

    by : (b c : Bool) → test x ≡ b → is_fec fec x ≡ c → is_in fec (filter test xs) ≡ (is_in fec xs && test fec)
        → is_in fec (cond b (x ∷ filter test xs) (filter test xs)) ≡ ((c || is_in fec xs) && test fec)
    by true true t s rest = ap (λ (d : Bool). d || is_in fec (filter test xs)) s ∙ (sym t ∙ here s)
    by true false t s rest = ap (λ (d : Bool). d || is_in fec (filter test xs)) s ∙ rest
    by false true t s rest = rest ∙ (ap (λ (d : Bool). is_in fec xs && d) (sym (here s) ∙ t) ∙ (none (is_in fec xs) ∙ (sym t ∙ here s)))
      where
        none : (d : Bool) → (d && false) ≡ false
        none true = refl
        none false = refl
    by false false t s rest = rest

all-left : {X : Type 0} (P : X → Type 0) (test : X → Bool) (xs : List X) → AllByRecursion P xs → AllByRecursion P (filter test xs)
all-left P test [] h = tt
all-left {X} P test (x ∷ xs) h = by (test x) (all-left P test xs h.1)
  where
    by : (b : Bool) → AllByRecursion P (filter test xs) → AllByRecursion P (cond b (x ∷ filter test xs) (filter test xs))
    by true rest = (h.0, rest)
    by false rest = rest

distinct-left : {X : Type 0} (same : X → X → Bool) (test : X → Bool) (xs : List X) → IsDistinct same xs → IsDistinct same (filter test xs)
unfolding IsDistinct
distinct-left same test [] h = tt
distinct-left {X} same test (x ∷ xs) h = by (test x) (distinct-left same test xs h.1)
  where
    by : (b : Bool) → IsDistinct same (filter test xs) → IsDistinct same (cond b (x ∷ filter test xs) (filter test xs))
    by true rest = (all-left _ test xs h.0, rest)
    by false rest = rest

-- What is left of distinct tunnels is new, where it is what is there after and not before.
left-new : (keys fecs before after : List Fec)
    → ((fec : Fec) → (is_in fec keys && not (is_in fec before)) ≡ (is_in fec after && not (is_in fec before))) → IsDistinct is_fec keys →
    fecs ≡ filter (λ fec. not (is_in fec before)) keys → AreNew fecs (sets.from_list before) (sets.from_list after)
left-new keys fecs before after same once e = record {
  each = λ fec. ap (is_in fec) e ∙ (in-left (λ x. not (is_in x before)) fec keys
      ∙ (same fec ∙ sym (λ i. listed fec_cmp_total fec_cmp_exact is_fec fec_ties after fec i
      && not (listed fec_cmp_total fec_cmp_exact is_fec fec_ties before fec i))));
  once = subst (λ (l : List Fec). IsDistinct is_fec l) (sym e) (distinct-left is_fec (λ x. not (is_in x before)) keys once);
}

-- ---- what comes and goes

module _ (plan : List (Flow × Option Wants)) (old new : List (Flow × Wants)) (p : IsDistinct same_flow (keys_of plan))
    (o : IsDistinct same_flow (keys_of old)) (n : IsDistinct same_flow (keys_of new))
    (each : (q : Flow) → lookup (same_flow q) new ≡ carried (lookup (same_flow q) plan) (lookup (same_flow q) old)) where
  abbrev held : Flow → Option Wants
  held q = lookup (same_flow q) old

  was : (fec : Fec) (q : Flow) (own : Wants) → lookup (same_flow q) old ≡ Some own → is_in fec own.fecs ≡ true → is_in fec (tunnels_in old) ≡ true
  was fec q own l t = in-flat fec (λ (e : Flow × Wants). e.1.fecs) old ∙ passed (wants_at fec) old q own l t

  is : (fec : Fec) (q : Flow) (own : Wants) → lookup (same_flow q) new ≡ Some own → is_in fec own.fecs ≡ true → is_in fec (tunnels_in new) ≡ true
  is fec q own l t = in-flat fec (λ (e : Flow × Wants). e.1.fecs) new ∙ passed (wants_at fec) new q own l t

  came : (fec : Fec) → comes plan fec ≡ true → is_in fec (tunnels_in new) ≡ true
  came fec h = let one = passes (comes_at fec) plan p h in by one.0 one.1 one.2 one.3
    where
      by : (q : Flow) (next : Option Wants) → lookup (same_flow q) plan ≡ Some next → is_in fec (fecs_in next) ≡ true
          → is_in fec (tunnels_in new) ≡ true
      by q None l t = let e : false ≡ true = t in absurd cc
      by q (Some own) l t = is fec q own (each q ∙ ap (λ (x : Option (Option Wants)). carried x (held q)) l) t

  comes-back : (fec : Fec) → is_in fec (tunnels_in new) ≡ true → is_in fec (tunnels_in old) ≡ false → comes plan fec ≡ true
  comes-back fec h none =
      let one = passes (wants_at fec) new n (sym (in-flat fec (λ (e : Flow × Wants). e.1.fecs) new) ∙ h) in
      by one.0 one.1 (lookup (same_flow one.0) plan) refl (sym (each one.0) ∙ one.2) one.3
    where
      by : (q : Flow) (own : Wants) (x : Option (Option Wants)) → lookup (same_flow q) plan ≡ x → carried x (held q) ≡ Some own
          → is_in fec own.fecs ≡ true → comes plan fec ≡ true
      by q own None l k t = absurd (not_both _ (was fec q own k t) none)
      by q own (Some next) l k t = passed (comes_at fec) plan q next l (ap (λ (y : Option Wants). is_in fec (fecs_in y)) k ∙ t)

  went : (fec : Fec) → goes held plan fec ≡ true → is_in fec (tunnels_in old) ≡ true
  went fec h = let one = passes (goes_at held fec) plan p h in by one.0 (held one.0) refl one.3
    where
      by : (q : Flow) (x : Option Wants) → held q ≡ x → is_in fec (fecs_in x) ≡ true → is_in fec (tunnels_in old) ≡ true
      by q None l t = let e : false ≡ true = t in absurd cc
      by q (Some own) l t = was fec q own l t

  goes-back : (fec : Fec) → is_in fec (tunnels_in old) ≡ true → is_in fec (tunnels_in new) ≡ false → goes held plan fec ≡ true
  goes-back fec h none =
      let one = passes (wants_at fec) old o (sym (in-flat fec (λ (e : Flow × Wants). e.1.fecs) old) ∙ h) in
      by one.0 one.1 one.2 (lookup (same_flow one.0) plan) refl one.3
    where
      by : (q : Flow) (own : Wants) → held q ≡ Some own → (x : Option (Option Wants)) → lookup (same_flow q) plan ≡ x → is_in fec own.fecs ≡ true
          → goes held plan fec ≡ true
      by q own k None l t = absurd (not_both _ (is fec q own (each q ∙ (ap (λ (x : Option (Option Wants)). carried x (held q)) l ∙ k)) t) none)
      by q own k (Some next) l t = passed (goes_at held fec) plan q next l (ap (λ (y : Option Wants). is_in fec (fecs_in y)) k ∙ t)

  only : (a b c : Bool) → (a ≡ true → b ≡ true) → (b ≡ true → c ≡ false → a ≡ true) → (a && not c) ≡ (b && not c)
  only a b true f g = both-out a b
    where
      both-out : (a b : Bool) → (a && false) ≡ (b && false)
      both-out true true = refl
      both-out true false = refl
      both-out false true = refl
      both-out false false = refl
  only a b false f g = ap (λ (x : Bool). x && true) (both_ways a b f (λ t. g t refl))

  comes-are : (fec : Fec) → (comes plan fec && not (is_in fec (tunnels_in old))) ≡ (is_in fec (tunnels_in new) && not (is_in fec (tunnels_in old)))
  comes-are fec = only (comes plan fec) (is_in fec (tunnels_in new)) (is_in fec (tunnels_in old)) (came fec) (comes-back fec)

  goes-are : (fec : Fec) → (goes held plan fec && not (is_in fec (tunnels_in new))) ≡ (is_in fec (tunnels_in old) && not (is_in fec (tunnels_in new)))
  goes-are fec = only (goes held plan fec) (is_in fec (tunnels_in old)) (is_in fec (tunnels_in new)) (went fec) (goes-back fec)

  pub more-new : (keys fecs : List Fec) → ((fec : Fec) → is_in fec keys ≡ comes plan fec) → IsDistinct is_fec keys
      → fecs ≡ filter (λ fec. not (is_in fec (tunnels_in old))) keys →
      AreNew fecs (sets.from_list (tunnels_in old)) (sets.from_list (tunnels_in new))
  more-new keys fecs has once e =
      left-new keys fecs (tunnels_in old) (tunnels_in new) (λ fec. ap (λ (b : Bool). b && not (is_in fec (tunnels_in old))) (has fec) ∙ comes-are fec)
      once e

  pub less-new : (keys fecs : List Fec) → ((fec : Fec) → is_in fec keys ≡ goes held plan fec) → IsDistinct is_fec keys
      → fecs ≡ filter (λ fec. not (is_in fec (tunnels_in new))) keys →
      AreNew fecs (sets.from_list (tunnels_in new)) (sets.from_list (tunnels_in old))
  less-new keys fecs has once e =
      left-new keys fecs (tunnels_in new) (tunnels_in old) (λ fec. ap (λ (b : Bool). b && not (is_in fec (tunnels_in new))) (has fec) ∙ goes-are fec)
      once e

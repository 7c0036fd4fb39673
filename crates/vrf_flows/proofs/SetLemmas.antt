-- A list of keys, and the finite set of them.
use Rattle.std.proofs.Common.{◌≡◌, ℕ, ◌+◌, suc, arith, Bool, true, false, not, cond, ◌&&◌, ◌||◌, List, [], ◌∷◌, length, refl, sym, ap, subst, ◌∙◌}
use Rattle.std.specs.List.{list_any, AllByRecursion, IsDistinct}
use Rattle.std.proofs.lemmas.Map.Keys.{IsDistinct-head, IsDistinct-tail}
use Rattle.std.specs.Ordering.{eq_by_cmp}
use Rattle.std.specs.declared.cmp.Ordering.{Ordering}
use Rattle.std.specs.Cmp.{IsTotalOrder, Equal-is, eq_by_cmp_equiv, both_ways}
use Rattle.std.specs.FinMap.{IsAntisymmetric}
use Rattle.std.specs.FinSet.{from_list, insert, remove, items, contains, contains-from_list, contains-insert, contains-remove, contains-items, len, len-empty, len-insert, same_set}
use Rattle.std.proofs.lemmas.Bool.{or_left, or_right}
use Rattle.pim_state.proofs.MapLemmas.{not_both}
use Rattle.vrf_words.specs.declared.tree_defs.flow.Flow.{Flow}
use Rattle.vrf_words.specs.tree_defs.Keys.{same_flow}
use Rattle.vrf_words.proofs.tree_defs.KeyLemmas.{same_flow_equal}

module _ {K : Type 0} {cmp : K → K → Ordering} (total : IsTotalOrder cmp) (exact : IsAntisymmetric cmp) (same : K → K → Bool)
    (ties : (a b : K) → same a b ≡ eq_by_cmp cmp a b) where
  pub listed : (keys : List K) (q : K) → contains (from_list {R = cmp} keys) q ≡ list_any (same q) keys
  listed keys q = contains-from_list total keys q ∙ (λ i. list_any (λ x. sym (ties q x) i) keys)

  turned : (a b : K) → same a b ≡ eq_by_cmp cmp b a
  turned a b = ties a b ∙ (eq_by_cmp_equiv total).symm a b

  put : (b c : Bool) → cond b true c ≡ (b || c)
  put true c = refl
  put false c = refl

  taken : (b c : Bool) → cond b false c ≡ (not b && c)
  taken true c = refl
  taken false c = refl

  pub inserted : (old new : List K) (k : K) → ((q : K) → list_any (same q) new ≡ cond (same k q) true (list_any (same q) old))
      → from_list {R = cmp} new ≡ insert (from_list old) k
  inserted old new k updates = same_set total exact _ _ (λ q.
      listed new q ∙ (updates q ∙ (put (same k q) (list_any (same q) old)
      ∙ ((λ i. turned k q i || sym (listed old q) i) ∙ sym (contains-insert total (from_list old) k q)))))

  pub removed : (old new : List K) (k : K) → ((q : K) → list_any (same q) new ≡ cond (same k q) false (list_any (same q) old))
      → from_list {R = cmp} new ≡ remove (from_list old) k
  removed old new k updates = same_set total exact _ _ (λ q.
      listed new q ∙ (updates q ∙ (taken (same k q) (list_any (same q) old)
      ∙ ((λ i. not (turned k q i) && sym (listed old q) i) ∙ sym (contains-remove total (from_list old) k q)))))

  -- Keys that are distinct are as many as the set has.
  pub len-listed : (keys : List K) → IsDistinct same keys → len (from_list {R = cmp} keys) ≡ length keys
  len-listed [] h = len-empty cmp
  len-listed (k ∷ keys) h =
      len-insert total (from_list keys) k
      ∙ (ap (λ (b : Bool). cond b (len (from_list {R = cmp} keys)) (len (from_list {R = cmp} keys) + 1))
      (listed keys k ∙ absent k keys (IsDistinct-head same k keys h))
      ∙ (ap (λ (n : ℕ). n + 1) (len-listed keys (IsDistinct-tail same k keys h)) ∙ one-more (length keys)))
    where
      absent : (k : K) (list : List K) → AllByRecursion (λ x. same k x ≡ false) list → list_any (same k) list ≡ false
      absent k [] g = refl
      absent k (x ∷ list) g = ap (λ (b : Bool). b || list_any (same k) list) g.0 ∙ absent k list g.1

      one-more : (n : ℕ) → n + 1 ≡ suc n
      one-more n = omega arith

  -- some key passes the test
  abbrev pub Passes : (K → Bool) → List K → Type 0
  Passes test keys = (x : K) × (test x ≡ true) × (list_any (same x) keys ≡ true)

  itself : (a : K) → same a a ≡ true
  itself a = ties a a ∙ (eq_by_cmp_equiv total).refl a

  passes : (test : K → Bool) (keys : List K) → list_any test keys ≡ true → Passes test keys
  passes test [] h = absurd cc
  passes test (x ∷ keys) h = by (passes test keys) (test x) refl h
    where
      by : (list_any test keys ≡ true → Passes test keys) → (b : Bool) → test x ≡ b → (b || list_any test keys) ≡ true → Passes test (x ∷ keys)
      by rest true t k = (x, t, or_left _ _ (itself x))
      by rest false t k =
          let more = rest k in
          (more.0, more.1, or_right _ _ more.2)

  passed : (test : K → Bool) (keys : List K) (x : K) → test x ≡ true → list_any (same x) keys ≡ true → list_any test keys ≡ true
  passed test [] x t h = absurd cc
  passed test (y ∷ keys) x t h = by (same x y) refl h (passed test keys x t)
    where
      by : (b : Bool) → same x y ≡ b → (b || list_any (same x) keys) ≡ true → (list_any (same x) keys ≡ true → list_any test keys ≡ true)
          → (test y || list_any test keys) ≡ true
      by true s k rest = or_left _ _ (subst (λ (z : K). test z ≡ true) (exact x y ((Equal-is (cmp x y)).0 (sym (ties x y) ∙ s))) t)
      by false s k rest = or_right _ _ (rest k)

  -- A test passes one of the set exactly where it passes one of the list.
  pub any-items : (test : K → Bool) (keys : List K) → list_any test (items (from_list {R = cmp} keys)) ≡ list_any test keys
  any-items test keys = both_ways _ _
      (λ h. let one = passes test (items (from_list {R = cmp} keys)) h in
      passed test keys one.0 one.1 (sym (listed keys one.0)
      ∙ (contains-items (from_list {R = cmp} keys) one.0
      ∙ ((λ i. list_any (λ x. sym (ties one.0 x) i) (items (from_list {R = cmp} keys))) ∙ one.2))))
      (λ h. let one = passes test keys h in
      passed test (items (from_list {R = cmp} keys)) one.0 one.1
      ((λ i. list_any (λ x. ties one.0 x i) (items (from_list {R = cmp} keys)))
      ∙ (sym (contains-items (from_list {R = cmp} keys) one.0) ∙ (listed keys one.0 ∙ one.2))))

  -- A test of a list with one key more.
  pub any-inserted : (test : K → Bool) (old new : List K) (k : K) → ((q : K) → list_any (same q) new ≡ cond (same k q) true (list_any (same q) old))
      → list_any test new ≡ (test k || list_any test old)
  any-inserted test old new k updates = both_ways _ _
      (λ h. let one = passes test new h in more one.0 one.1 (same k one.0) refl (sym (updates one.0) ∙ one.2))
      (λ h. by (test k) refl h)
    where
      more : (x : K) → test x ≡ true → (b : Bool) → same k x ≡ b → cond b true (list_any (same x) old) ≡ true → (test k || list_any test old) ≡ true
      more x t true s l = or_left _ _ (subst (λ (z : K). test z ≡ true) (sym (exact k x ((Equal-is (cmp k x)).0 (sym (ties k x) ∙ s)))) t)
      more x t false s l = or_right _ _ (passed test old x t l)

      kept : (x : K) (b : Bool) → same k x ≡ b → list_any (same x) old ≡ true → list_any (same x) new ≡ true
      kept x true s l = updates x ∙ ap (λ (b : Bool). cond b true (list_any (same x) old)) s
      kept x false s l = updates x ∙ (ap (λ (b : Bool). cond b true (list_any (same x) old)) s ∙ l)

      by : (b : Bool) → test k ≡ b → (b || list_any test old) ≡ true → list_any test new ≡ true
      by true t h = passed test new k t (updates k ∙ ap (λ (b : Bool). cond b true (list_any (same k) old)) (itself k))
      by false t h =
          let one = passes test old h in
          passed test new one.0 one.1 (kept one.0 (same k one.0) refl one.2)

  -- A test of a list with one key less passes no more, and as much where it does not pass the key.
  pub any-fewer : (test : K → Bool) (old new : List K) (k : K) → ((q : K) → list_any (same q) new ≡ cond (same k q) false (list_any (same q) old))
      → list_any test new ≡ true → list_any test old ≡ true
  any-fewer test old new k updates h =
      let one = passes test new h in
      passed test old one.0 one.1 (was (same k one.0) (list_any (same one.0) old) (sym (updates one.0) ∙ one.2))
    where
      was : (b c : Bool) → cond b false c ≡ true → c ≡ true
      was true c e = absurd cc
      was false c e = e

  pub any-removed : (test : K → Bool) (old new : List K) (k : K) → ((q : K) → list_any (same q) new ≡ cond (same k q) false (list_any (same q) old))
      → test k ≡ false → list_any test new ≡ list_any test old
  any-removed test old new k updates n = both_ways _ _ (any-fewer test old new k updates)
      (λ h. let one = passes test old h in passed test new one.0 one.1 (still one.0 one.1 (same k one.0) refl one.2))
    where
      still : (x : K) → test x ≡ true → (b : Bool) → same k x ≡ b → list_any (same x) old ≡ true → list_any (same x) new ≡ true
      still x t true s l =
          absurd (not_both (test k) (subst (λ (z : K). test z ≡ true) (sym (exact k x ((Equal-is (cmp k x)).0 (sym (ties k x) ∙ s)))) t) n)
      still x t false s l = updates x ∙ (ap (λ (b : Bool). cond b false (list_any (same x) old)) s ∙ l)

-- ---- what is told twice

pub more-left : (f s m a t n : Bool) → s ≡ (m || a) → t ≡ cond f true s → n ≡ (f || m) → t ≡ (n || a)
more-left true s m a t n e p g = p ∙ sym (ap (λ (b : Bool). b || a) g)
more-left false s m a t n e p g = p ∙ (e ∙ sym (ap (λ (b : Bool). b || a) g))

pub more-right : (f s m a t n : Bool) → s ≡ (m || a) → t ≡ cond f true s → n ≡ (f || a) → t ≡ (m || n)
more-right true s m a t n e p g = p ∙ sym (or_right m n g)
more-right false s m a t n e p g = p ∙ (e ∙ sym (ap (λ (b : Bool). m || b) g))

pub fewer-left : (n m a : Bool) → (n ≡ true → m ≡ true) → (n || a) ≡ true → (m || a) ≡ true
fewer-left true m a f h = or_left m a (f refl)
fewer-left false m a f h = or_right m a h

pub fewer-right : (m n a : Bool) → (n ≡ true → a ≡ true) → (m || n) ≡ true → (m || a) ≡ true
fewer-right true n a f h = refl
fewer-right false n a f h = f h

-- Where a flow is told no more, it is known to be sent no more.
pub less : (flow q : Flow) (tells : Flow → Bool) (s t told : Bool) → told ≡ tells flow → t ≡ cond told s (cond (same_flow flow q) false s)
    → (same_flow flow q ≡ false → tells q ≡ s) → (tells q ≡ true → s ≡ true) → t ≡ tells q
less flow q tells s t told at p same fewer = by (same_flow flow q) refl p
  where
    either : (b : Bool) → cond b s s ≡ s
    either true = refl
    either false = refl

    told-by : (b : Bool) → tells q ≡ b → told ≡ b → t ≡ cond told s false → t ≡ b
    told-by true k e p = p ∙ (ap (λ (c : Bool). cond c s false) e ∙ fewer k)
    told-by false k e p = p ∙ ap (λ (c : Bool). cond c s false) e

    by : (b : Bool) → same_flow flow q ≡ b → t ≡ cond told s (cond b false s) → t ≡ tells q
    by false f p = p ∙ (either told ∙ sym (same f))
    by true f p = told-by (tells q) refl (at ∙ ap tells (same_flow_equal flow q f)) p

pub either-one : (b s : Bool) → cond b s s ≡ s
either-one true s = refl
either-one false s = refl

pub unsent-was : (told f s : Bool) → cond told s (cond f false s) ≡ true → s ≡ true
unsent-was true f s h = h
unsent-was false true s h = absurd cc
unsent-was false false s h = h

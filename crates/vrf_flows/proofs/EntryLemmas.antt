-- Entries that pass a test, where an entry that does not pass it comes or goes.
use Rattle.std.proofs.Common.{◌≡◌, Bool, true, false, not, cond, T, List, [], ◌∷◌, Option, None, refl, sym, ap, ◌∙◌}
use Rattle.std.specs.List.{filter}
use Rattle.std.specs.Ordering.{eq_by_cmp}
use Rattle.std.specs.Cmp.{IsTotalOrder, eq_by_cmp_equiv}
use Rattle.std.specs.declared.cmp.Ordering.{Ordering}
use Rattle.std.specs.declared.cmp.Ordering.TheVariants.{Less, Equal, Greater}
use Rattle.std.specs.FinMap.{FinMap, IsAntisymmetric, entries, entries-from_sorted, entries_sorted, find, from_sorted, get, get-entries, get-from_sorted, get-remove, is_sorted, remove, same_map}
use Rattle.std.specs.FinMap.Entries.{by_order, find-where_key, is_sorted-where_key, put, where_key}

module _ {K X : Type 0} (R : K → K → Ordering) (exact : IsAntisymmetric R) (test : K → Bool) where
  abbrev pub passing : List (K × X) → List (K × X)
  passing es = filter (λ (e : K × X). test e.0) es

  -- What does not pass is put beside what does.
  pub filter-put : (k : K) (v : X) (es : List (K × X)) → test k ≡ false → passing (put R k v es) ≡ passing es
  filter-put k v [] h = ap (λ (b : Bool). cond b ((k, v) ∷ []) []) h
  filter-put k v (e ∷ es) h = by (R k e.0) refl (filter-put k v es h)
    where
      by : (o : Ordering) → R k e.0 ≡ o → passing (put R k v es) ≡ passing es
          → passing (by_order o ((k, v) ∷ e ∷ es) ((e.0, v) ∷ es) (e ∷ put R k v es)) ≡ passing (e ∷ es)
      by Less i rest = ap (λ (b : Bool). cond b ((k, v) ∷ passing (e ∷ es)) (passing (e ∷ es))) h
      by Equal i rest =
          let out : test e.0 ≡ false = ap test (sym (exact k e.0 i)) ∙ h in
          ap (λ (b : Bool). cond b ((e.0, v) ∷ passing es) (passing es)) out ∙ sym (ap (λ (b : Bool). cond b (e ∷ passing es) (passing es)) out)
      by Greater i rest = ap (λ (l : List (K × X)). cond (test e.0) (e ∷ l) l) rest

pub filter-within : {X : Type 0} (test kept : X → Bool) → ((x : X) → kept x ≡ false → test x ≡ false) → (xs : List X)
    → filter test (filter kept xs) ≡ filter test xs
filter-within test kept out [] = refl
filter-within {X} test kept out (x ∷ xs) = by (kept x) refl (filter-within test kept out xs)
  where
    by : (b : Bool) → kept x ≡ b → filter test (filter kept xs) ≡ filter test xs
        → filter test (cond b (x ∷ filter kept xs) (filter kept xs)) ≡ cond (test x) (x ∷ filter test xs) (filter test xs)
    by true k rest = ap (λ (l : List X). cond (test x) (x ∷ l) l) rest
    by false k rest = rest ∙ sym (ap (λ (b : Bool). cond b (x ∷ filter test xs) (filter test xs)) (out x k))

module _ {K X : Type 0} {R : K → K → Ordering} (total : IsTotalOrder R) (exact : IsAntisymmetric R) (m : FinMap R X) (k : K) where
  abbrev pub other : K → Bool
  other x = not (eq_by_cmp R k x)

  swap : (b : Bool) (o : Option X) → cond (not b) o None ≡ cond b None o
  swap true o = refl
  swap false o = refl

  sorted-rest : T (is_sorted R (where_key R other (entries m)))
  sorted-rest = is_sorted-where_key R other (entries m) (entries_sorted m)

  without-key : from_sorted {R = R} (where_key R other (entries m)) ≡ remove m k
  without-key = same_map total exact _ _ (λ q.
      get-from_sorted R (where_key R other (entries m)) q sorted-rest
      ∙ (find-where_key R other q (λ x t. ap other (sym (exact q x t))) (entries m)
      ∙ (swap (eq_by_cmp R k q) (find R q (entries m))
      ∙ ((λ i. cond ((eq_by_cmp_equiv total).symm k q i) None (sym (get-entries m q) i)) ∙ sym (get-remove total m k q)))))

  pub entries-remove : entries (remove m k) ≡ where_key R other (entries m)
  entries-remove = ap entries (sym without-key) ∙ entries-from_sorted R (where_key R other (entries m)) sorted-rest

-- Entries of keys that pass a test, as a map.
module _ {K X : Type 0} {R : K → K → Ordering} (exact : IsAntisymmetric R) (m : FinMap R X) (test : K → Bool) where
  sorted-where : T (is_sorted R (where_key R test (entries m)))
  sorted-where = is_sorted-where_key R test (entries m) (entries_sorted m)

  pub entries-where : entries (from_sorted {R = R} (where_key R test (entries m))) ≡ where_key R test (entries m)
  entries-where = entries-from_sorted R (where_key R test (entries m)) sorted-where

  pub get-where : (k : K) → get (from_sorted {R = R} (where_key R test (entries m))) k ≡ cond (test k) (find R k (entries m)) None
  get-where k =
      get-from_sorted R (where_key R test (entries m)) k sorted-where
      ∙ find-where_key R test k (λ x t. ap test (sym (exact k x t))) (entries m)

-- Finite maps and their entries in order, for any keys; what lies between two keys that are compared part by part.
use Rattle.std.proofs.Common.{◌≡◌, ℕ, ◌&&◌, Bool, true, false, cond, not, T, List, [], ◌∷◌, Option, Some, None, length, refl, sym, ap, subst, ◌∙◌}
use Rattle.std.specs.List.{AllByRecursion}
use Rattle.std.specs.List.Sorted.{IsStrictlySortedBy}
use Rattle.std.specs.BTreeMap.{is_at}
use Rattle.std.specs.Map.{keys_of, lookup}
use Rattle.std.specs.FinMap.{FinMap, IsAntisymmetric, empty, empty_of_len, entries, entries-from_sorted, entries_sorted, len-entries, find, from_sorted, get, get-from_sorted, get-insert, get-remove, insert, is_sorted, remove, same_map}
use Rattle.std.specs.FinMap.Entries.{below_all}
use Rattle.std.specs.Ordering.{nat_cmp, is_eq, is_gt, is_le, is_lt, eq_by_cmp, ordering_then}
use Rattle.std.specs.declared.cmp.Ordering.{Ordering}
use Rattle.std.specs.declared.cmp.Ordering.TheVariants.{Less, Equal, Greater}
use Rattle.std.specs.Cmp.{IsTotalOrder, eq_by_cmp_equiv, nat_cmp_total, tied_itself}

-- ---- sorted entries and their map

and_T : (a b : Bool) → T a → T b → T (a && b)
and_T true b p q = q
and_T false b p q = absurd p

T_parts : (a b : Bool) → T (a && b) → (T a) × (T b)
T_parts true b p = (tt, p)
T_parts false b p = absurd p

less : (o : Ordering) → T (is_lt o) → o ≡ Less
less Less p = refl
less Equal p = absurd p
less Greater p = absurd p

module _ {K X : Type 0} (R : K → K → Ordering) where
  below : (x : K) (es : List (K × X)) → AllByRecursion (λ y. R x y ≡ Less) (keys_of es) → T (below_all R x es)
  below x [] h = tt
  below x (e ∷ es) h = and_T (is_lt (R x e.0)) (below_all R x es) (subst (λ (o : Ordering). T (is_lt o)) (sym h.0) tt) (below x es h.1)

  pub sorted : (es : List (K × X)) → IsStrictlySortedBy R (keys_of es) → T (is_sorted R es)
  unfolding IsStrictlySortedBy
  sorted [] h = tt
  sorted (e ∷ es) h = and_T (below_all R e.0 es) (is_sorted R es) (below e.0 es h.0) (sorted es h.1)

  below_back : (x : K) (es : List (K × X)) → T (below_all R x es) → AllByRecursion (λ y. R x y ≡ Less) (keys_of es)
  below_back x [] h = tt
  below_back x (e ∷ es) h =
      let both = T_parts (is_lt (R x e.0)) (below_all R x es) h in
      (less (R x e.0) both.0, below_back x es both.1)

  pub sorted_back : (es : List (K × X)) → T (is_sorted R es) → IsStrictlySortedBy R (keys_of es)
  unfolding IsStrictlySortedBy
  sorted_back [] h = tt
  sorted_back (e ∷ es) h =
      let both = T_parts (below_all R e.0 es) (is_sorted R es) h in
      (below_back e.0 es both.0, sorted_back es both.1)

  pub map_sorted : (m : FinMap R X) → IsStrictlySortedBy R (keys_of (entries m))
  map_sorted m = sorted_back (entries m) (entries_sorted m)

  pub empty_map : from_sorted {X = X} {R = R} [] ≡ empty
  empty_map = empty_of_len (from_sorted []) (len-entries (from_sorted []) ∙ ap length (entries-from_sorted R [] tt))

  pub entries_of : (es : List (K × X)) → IsStrictlySortedBy R (keys_of es) → entries (from_sorted {R = R} es) ≡ es
  entries_of es a = entries-from_sorted R es (sorted es a)

  pub find-lookup : (q : K) (es : List (K × X)) → find R q es ≡ lookup (is_at (R q)) es
  find-lookup q [] = refl
  find-lookup q (e ∷ es) = ap (cond (eq_by_cmp R q e.0) (Some e.1)) (find-lookup q es)

  pub get-lookup : (es : List (K × X)) (q : K) → IsStrictlySortedBy R (keys_of es) → get (from_sorted {R = R} es) q ≡ lookup (is_at (R q)) es
  get-lookup es q a = get-from_sorted R es q (sorted es a) ∙ find-lookup q es

-- what stands at each key after a change of one
abbrev pub Changes : {K X : Type 0} → (K → K → Ordering) → List (K × X) → List (K × X) → K → Option X → Type 0
Changes {K} R es fs k w = (q : K) → lookup (is_at (R q)) fs ≡ cond (is_at (R k) q) w (lookup (is_at (R q)) es)

module _ {K X : Type 0} (R : K → K → Ordering) (total : IsTotalOrder R) (exact : IsAntisymmetric R) (es fs : List (K × X)) (k : K) where
  changed : (w : Option X) → IsStrictlySortedBy R (keys_of es) → IsStrictlySortedBy R (keys_of fs) → Changes R es fs k w → (q : K)
      → get (from_sorted {R = R} fs) q ≡ cond (eq_by_cmp R q k) w (get (from_sorted {R = R} es) q)
  changed w a b u q =
      get-lookup R fs q b ∙ (u q ∙ (ap (λ (t : Bool). cond t w (lookup (is_at (R q)) es)) ((eq_by_cmp_equiv total).symm k q)
      ∙ ap (cond (eq_by_cmp R q k) w) (sym (get-lookup R es q a))))

  pub inserted : (v : X) → IsStrictlySortedBy R (keys_of es) → IsStrictlySortedBy R (keys_of fs) → Changes R es fs k (Some v)
      → from_sorted {R = R} fs ≡ insert (from_sorted es) k v
  inserted v a b u =
      same_map total exact (from_sorted fs) (insert (from_sorted es) k v)
      (λ q. changed (Some v) a b u q ∙ sym (get-insert total (from_sorted es) k v q))

  pub removed : IsStrictlySortedBy R (keys_of es) → IsStrictlySortedBy R (keys_of fs) → Changes R es fs k None
      → from_sorted {R = R} fs ≡ remove (from_sorted es) k
  removed a b u =
      same_map total exact (from_sorted fs) (remove (from_sorted es) k) (λ q. changed None a b u q ∙ sym (get-remove total (from_sorted es) k q))

-- ---- keys that are compared part by part

pub then_equal : (a b : Ordering) → ordering_then a b ≡ Equal → (a ≡ Equal) × (b ≡ Equal)
then_equal Less b h = absurd cc
then_equal Equal b h = (refl, h)
then_equal Greater b h = absurd cc

-- a key is between two others that compare alike in front
pub level : (c x y : Ordering) (b : Bool) → (is_le x && not (is_lt y)) ≡ b
    → (is_le (ordering_then c x) && not (is_lt (ordering_then c y))) ≡ (is_eq c && b)
level Less x y b h = refl
level Equal x y b h = h
level Greater x y b h = refl

pub through : (a b : Ordering) → a ≡ Equal → is_gt b ≡ false → is_gt (ordering_then a b) ≡ false
through Less b e h = refl
through Equal b e h = h
through Greater b e h = absurd cc

pub tied_numbers : (a b : ℕ) → a ≡ b → is_eq (nat_cmp a b) ≡ true
tied_numbers a b e = ap is_eq (subst (λ (x : ℕ). nat_cmp a x ≡ Equal) e (tied_itself nat_cmp_total a))

pub same_bool : (a b : Bool) → (a ≡ true → b ≡ true) → (b ≡ true → a ≡ true) → a ≡ b
same_bool true b h k = sym (h refl)
same_bool false true h k = k refl
same_bool false false h k = refl

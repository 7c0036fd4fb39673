-- Lists of entries in the keys' order, and the finite maps of them.
use Rattle.std.proofs.Common.{◌≡◌, Bool, true, false, cond, ◌&&◌, T, List, [], ◌∷◌, Option, Some, length, refl, sym, ap, subst, ◌∙◌}
use Rattle.std.specs.Prelude.{map}
use Rattle.std.specs.declared.cmp.Ordering.{Ordering}
use Rattle.std.specs.declared.cmp.Ordering.TheVariants.{Less}
use Rattle.std.specs.Ordering.{eq_by_cmp, is_eq, is_lt}
use Rattle.std.specs.Cmp.{IsTotalOrder}
use Rattle.std.specs.List.{AllByRecursion}
use Rattle.std.specs.List.Sorted.{IsStrictlySortedBy}
use Rattle.std.specs.Option.{option_map}
use Rattle.std.specs.Map.{lookup, keys_of}
use Rattle.std.specs.BTreeMap.{BTreeMap, is_at, IsOrdered}
use Rattle.std.specs.BTreeMap as tree
use Rattle.std.specs.FinMap.{FinMap, find, get, empty, empty_of_len, len-entries, entries, entries_sorted, entries-from_sorted, from_sorted, from_entries, get-from_entries, get-from_sorted, same_entries_map}
use Rattle.std.specs.FinMap.Entries.{is_sorted, below_all}
use Rattle.edge_tables.specs.declared.rib_sync.kept.News.{News}

both : (a b : Bool) → T a → T b → T (a && b)
both true b p q = q
both false b p q = absurd p

-- the key with the value that is new
abbrev pub valued : {K V : Type 0} → K × News V → K × V
valued entry = (entry.0, entry.1.value)

valued_head : {V : Type 0} (b : Bool) (news : News V) (rest : Option (News V))
    → cond b (Some news.value) (option_map (λ n. n.value) rest) ≡ option_map (λ n. n.value) (cond b (Some news) rest)
valued_head true news rest = refl
valued_head false news rest = refl

module _ {K E : Type 0} (cmp : K → K → Ordering) where
  pub find-lookup : (es : List (K × E)) (q : K) → find cmp q es ≡ lookup (is_at (cmp q)) es
  find-lookup [] q = refl
  find-lookup (e ∷ es) q = ap (cond (is_eq (cmp q e.0)) (Some e.1)) (find-lookup es q)

  below : (key : K) (es : List (K × E)) → AllByRecursion (λ other. cmp key other ≡ Less) (keys_of es) → T (below_all cmp key es)
  below key [] h = tt
  below key (e ∷ es) h = both _ _ (subst (λ order. T (is_lt order)) (sym h.0) tt) (below key es h.1)

  pub sorted : (es : List (K × E)) → IsStrictlySortedBy cmp (keys_of es) → T (is_sorted cmp es)
  unfolding IsStrictlySortedBy
  sorted [] h = tt
  sorted (e ∷ es) h = both _ _ (below e.0 es h.0) (sorted es h.1)

  pub from_sorted-entries : (m : FinMap cmp E) → from_sorted (entries m) ≡ m
  from_sorted-entries m = same_entries_map (from_sorted (entries m)) m (entries-from_sorted cmp (entries m) (entries_sorted m))

  pub none : from_sorted {R = cmp} [] ≡ empty {X = E}
  none = empty_of_len (from_sorted []) (len-entries (from_sorted []) ∙ ap length (entries-from_sorted cmp [] tt))

  -- what a map in order has at a key
  pub get-tree : IsTotalOrder cmp → (m : BTreeMap K E) (q : K) → get (from_entries {R = cmp} m.entries) q ≡ tree.get cmp m q
  get-tree total m q = get-from_entries total m.entries q ∙ find-lookup m.entries q

  pub get-ordered : (m : BTreeMap K E) → IsOrdered cmp m → (q : K) → get (from_sorted {R = cmp} m.entries) q ≡ tree.get cmp m q
  get-ordered m ordered q = get-from_sorted cmp m.entries q (sorted m.entries ordered) ∙ find-lookup m.entries q

module _ {K V : Type 0} (cmp : K → K → Ordering) where
  below_valued : (key : K) (es : List (K × News V)) → below_all cmp key (map valued es) ≡ below_all cmp key es
  below_valued key [] = refl
  below_valued key (e ∷ es) = ap (λ b. is_lt (cmp key e.0) && b) (below_valued key es)

  pub sorted_valued : (es : List (K × News V)) → is_sorted cmp (map valued es) ≡ is_sorted cmp es
  sorted_valued [] = refl
  sorted_valued (e ∷ es) = λ i. below_valued e.0 es i && sorted_valued es i

  pub find-valued : (es : List (K × News V)) (q : K) → find cmp q (map valued es) ≡ option_map (λ n. n.value) (find cmp q es)
  find-valued [] q = refl
  find-valued (e ∷ es) q =
      ap (cond (eq_by_cmp cmp q e.0) (Some e.1.value)) (find-valued es q)
      ∙ valued_head (eq_by_cmp cmp q e.0) e.1 (find cmp q es)

-- Trees in their order: how two of them compare, and what a sorted list without repeats is.
use denote.Param.Members.{Mut}
use denote.Ref.{Bor}
use Rattle.std.proofs.Common.{◌≡◌, ℕ, ◌||◌, Bool, true, false, cond, List, [], ◌∷◌, ◌++◌, length, map, Option, Some, None, is_some, arith, refl, sym, ap, subst, ◌∙◌}
use Rattle.std.specs.declared.cmp.Ordering.{Ordering}
use Rattle.std.specs.declared.cmp.Ordering.TheVariants.{Less, Equal, Greater}
use Rattle.std.specs.List.{list_any, dedup, dedup_from}
use Rattle.std.specs.List.Sorted.{IsPermutation, IsSorted, IsSortedBy, IsStrictlySortedBy}
use Rattle.std.specs.Map.{keys_of}
use Rattle.std.specs.Ordering.{nat_cmp, ordering_then, eq_by_cmp, is_lt}
use Rattle.std.specs.Cmp.{IsTotalOrder, IsStrictWeakOrder}
use Rattle.std.specs.Fn.{Called, ComparesAs}
use Rattle.std.specs.Cmp.Lexicographic.{slice_cmp}
use Rattle.std.specs.FinMap as maps
use Rattle.std.specs.FinMap.{FinMap, IsAntisymmetric, nat_cmp-IsAntisymmetric}
use Rattle.std.specs.FinSet as sets
use Rattle.std.specs.FinSet.{FinSet}
use Rattle.std.proofs.lemmas.List.Kept.{IsStrictlySortedBy-dedup}
use Rattle.std.proofs.lemmas.Fn.{always_returns_same}
use Rattle.std.proofs.lemmas.List.Sorted.{list_any-IsPermutation, ranks_by}
use Rattle.mv_base.specs.declared.addr.Addr.{Addr}
use Rattle.mv_base.specs.declared.addr.Addr.TheVariants.{V4, V6}
use Rattle.mv_base.specs.Address.{addr_front}
use Rattle.mv_base.proofs.SortedMaps.{entries_of}
use Rattle.mldp.specs.declared.mldp_fec.fec.Fec.{Fec}
use Rattle.mldp.proofs.mldp_fec.SameLemmas.{fec_equal}
use Rattle.label_defs.specs.Keys.{kind_key, fec_cmp}
use Rattle.label_defs.specs.Members.{in_order}
use Rattle.label_defs.proofs.KeyLemmas.{fec_cmp_total, fec_cmp_exact}
use Rattle.label_defs.proofs.MemberLemmas.{contains_in_order}
use Rattle.label_forwarding.specs.Slots.{is_fec}
use Rattle.label_forwarding.proofs.SlotLemmas.{fec-ties}

-- ---- how two trees compare

then_again : (a b c : Ordering) → ordering_then (ordering_then a b) c ≡ ordering_then a (ordering_then b c)
then_again Less b c = refl
then_again Equal b c = refl
then_again Greater b c = refl

-- fronts of one length are compared first
fronts_cmp : (a b x y : List ℕ) → length a ≡ length b
    → slice_cmp nat_cmp (a ++ x) (b ++ y) ≡ ordering_then (slice_cmp nat_cmp a b) (slice_cmp nat_cmp x y)
fronts_cmp [] [] x y h = refl
fronts_cmp [] (n ∷ b) x y h = absurd (omega (arith, h))
fronts_cmp (m ∷ a) [] x y h = absurd (omega (arith, h))
fronts_cmp (m ∷ a) (n ∷ b) x y h =
    ap (ordering_then (nat_cmp m n)) (fronts_cmp a b x y (omega (arith, h)))
    ∙ sym (then_again (nat_cmp m n) (slice_cmp nat_cmp a b) (slice_cmp nat_cmp x y))

-- octets of one family, with their number in front, which tells first where it differs
counted_cmp : (a b x y : List ℕ) → ordering_then (nat_cmp (length a) (length b)) (slice_cmp nat_cmp (a ++ x) (b ++ y))
    ≡ ordering_then (ordering_then (nat_cmp (length a) (length b)) (slice_cmp nat_cmp a b)) (slice_cmp nat_cmp x y)
counted_cmp a b x y = by (nat_cmp (length a) (length b)) refl
  where
    by : (o : Ordering) → nat_cmp (length a) (length b) ≡ o
        → ordering_then o (slice_cmp nat_cmp (a ++ x) (b ++ y)) ≡ ordering_then (ordering_then o (slice_cmp nat_cmp a b)) (slice_cmp nat_cmp x y)
    by Less e = refl
    by Equal e = fronts_cmp a b x y (nat_cmp-IsAntisymmetric (length a) (length b) e)
    by Greater e = refl

roots_cmp : (a b : Addr) (x y : List ℕ) → slice_cmp nat_cmp (addr_front a ++ x) (addr_front b ++ y)
    ≡ ordering_then (slice_cmp nat_cmp (addr_front a) (addr_front b)) (slice_cmp nat_cmp x y)
roots_cmp (V4 a) (V4 b) x y = counted_cmp a b x y
roots_cmp (V6 a) (V6 b) x y = counted_cmp a b x y
roots_cmp (V4 a) (V6 b) x y = refl
roots_cmp (V6 a) (V4 b) x y = refl

pub part_by_part : (a b : Fec) → ordering_then
    (ordering_then (nat_cmp (kind_key a.kind) (kind_key b.kind)) (slice_cmp nat_cmp (addr_front a.root) (addr_front b.root)))
    (slice_cmp nat_cmp a.opaque b.opaque) ≡ fec_cmp a b
part_by_part a b =
    then_again (nat_cmp (kind_key a.kind) (kind_key b.kind)) (slice_cmp nat_cmp (addr_front a.root) (addr_front b.root))
    (slice_cmp nat_cmp a.opaque b.opaque)
    ∙ ap (ordering_then (nat_cmp (kind_key a.kind) (kind_key b.kind))) (sym (roots_cmp a.root b.root a.opaque b.opaque))

-- ---- repeats that are dropped

module _ {K : Type 0} (p : K → Bool) (same : K → K → Bool) (exact : (x y : K) → same x y ≡ true → x ≡ y) where
  twice : (a b : Bool) → (a || b) ≡ (a || (a || b))
  twice true b = refl
  twice false b = refl

  any_from : (k : K) (xs : List K) → list_any p (dedup_from same k xs) ≡ (p k || list_any p xs)
  any_from k [] = refl
  any_from k (x ∷ xs) =
      elim (same x k) as (λ b. same x k ≡ b → list_any p (cond b (dedup_from same k xs) (k ∷ dedup_from same x xs)) ≡ (p k || (p x || list_any p xs))) [
        | true ↦ λ e. any_from k xs ∙ (twice (p k) (list_any p xs) ∙ ap (λ (y : K). p k || (p y || list_any p xs)) (sym (exact x k e)))
        | false ↦ λ e. ap (λ (b : Bool). p k || b) (any_from x xs)
      ] refl

  any_dedup : (xs : List K) → list_any p (dedup same xs) ≡ list_any p xs
  any_dedup [] = refl
  any_dedup (x ∷ xs) = any_from x xs

-- ---- a sorted list with the members of a set

keys_marked : {K : Type 0} (xs : List K) → keys_of (map (λ x. (x, tt {0})) xs) ≡ xs
keys_marked [] = refl
keys_marked (x ∷ xs) = ap (λ ys. x ∷ ys) (keys_marked xs)

one_mark : (x y : Option (Unit {0})) → is_some x ≡ is_some y → x ≡ y
one_mark None None e = refl
one_mark (Some x) (Some y) e = refl
one_mark None (Some y) e = absurd cc
one_mark (Some x) None e = absurd cc

module _ {K : Type 0} {R : K → K → Ordering} (total : IsTotalOrder R) (exact : IsAntisymmetric R) where
  pub is_in_order : (s : FinSet R) (ys : List K) → IsStrictlySortedBy R ys → ((q : K) → list_any (eq_by_cmp R q) ys ≡ sets.contains s q)
      → ys ≡ in_order s
  is_in_order s ys sorted same =
      let marked : List (K × Unit {0}) = map (λ y. (y, tt {0})) ys in
      let members : FinMap R (Unit {0}) = maps.from_entries (map (λ k. (k, tt {0})) (sets.items s)) in
      let listed : keys_of (maps.entries (maps.from_sorted {R = R} marked)) ≡ ys =
      ap keys_of (entries_of R marked (subst (λ (xs : List K). IsStrictlySortedBy R xs) (sym (keys_marked ys)) sorted)) ∙ keys_marked ys in
      let one : maps.from_sorted {R = R} marked ≡ members = maps.same_map total exact (maps.from_sorted marked) members (λ q. one_mark _ _ (
      maps.contains_key-keys (maps.from_sorted {R = R} marked) q
      ∙ (ap (list_any (eq_by_cmp R q)) listed ∙ (same q ∙ (contains_in_order total s q ∙ sym (maps.contains_key-keys members q)))))) in
      sym listed ∙ ap (λ (m : FinMap R (Unit {0})). maps.keys m) one

-- what a sort by a closure leaves, where each call of it compares two trees
pub sorted_by : {F : Type 0} {g : Mut F (Bor Fec × (Bor Fec × Unit {0})) Ordering} {f : F} (xs : List Fec)
    → ((lt : Fec → Fec → Bool) → IsStrictWeakOrder lt → ComparesAs g lt f → IsSortedBy lt xs)
    → ((a : Bor Fec × (Bor Fec × Unit {0})) (r : Ordering) (f' : F) → Called g f a r f' → (r ≡ fec_cmp a.0.now a.1.0.now) × (f' ≡ f))
    → IsSorted fec_cmp xs
sorted_by {g = g} {f = f} xs up h = up (λ x y. is_lt (fec_cmp x y)) (ranks_by fec_cmp_total (λ x. x))
    (always_returns_same g (λ a r. is_lt r ≡ is_lt (fec_cmp a.0.now a.1.0.now)) f (λ a r f' k. (ap is_lt (h a r f' k).0, (h a r f' k).1)))

pub ordered_are : (xs sorted fecs : List Fec) → IsPermutation xs sorted → IsSorted fec_cmp sorted → fecs ≡ dedup is_fec sorted
    → fecs ≡ in_order (sets.from_list {R = fec_cmp} xs)
ordered_are xs sorted fecs moved rises is =
    is ∙ is_in_order fec_cmp_total fec_cmp_exact (sets.from_list {R = fec_cmp} xs) (dedup is_fec sorted)
    (IsStrictlySortedBy-dedup fec_cmp_total fec-ties sorted rises) (λ q.
    any_dedup (eq_by_cmp fec_cmp q) is_fec fec_equal sorted
    ∙ (sym (list_any-IsPermutation (eq_by_cmp fec_cmp q) xs sorted moved) ∙ sym (sets.contains-from_list fec_cmp_total xs q)))

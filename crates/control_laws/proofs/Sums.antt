-- What the entries of a map sum up to, where the map was made of lists that have no key in common.
use Rattle.std.specs.Prelude.{count_by, sum_by}
use Rattle.std.proofs.Common.{◌≡◌, ℕ, ◌+◌, Bool, true, false, cond, ◌||◌, T, inl, inr, List, [], ◌∷◌, ◌++◌, map, flat_map, length, Option, Some, None, is_some, refl, sym, ap, ◌∙◌, arith}
use Rattle.std.specs.List.{list_any}
use Rattle.std.specs.Ordering.{eq_by_cmp, is_eq, is_lt}
use Rattle.std.specs.declared.cmp.Ordering.{Ordering}
use Rattle.std.specs.declared.cmp.Ordering.TheVariants.{Less, Equal, Greater}
use Rattle.std.specs.Cmp.{IsTotalOrder, Equal-is}
use Rattle.std.specs.FinMap as maps
use Rattle.std.specs.Option.{option_or}
use Rattle.std.specs.FinMap.{FinMap, IsAntisymmetric, find, put, is_sorted}
use Rattle.std.specs.FinMap.Entries.{by_order, below_all, is_some-find}
use Rattle.std.specs.FinSet as sets
use Rattle.std.specs.FinSet.{FinSet}
use Rattle.std.proofs.lemmas.List.Sums.{sum_by-cons, sum_by-append}
use Rattle.std.proofs.lemmas.List.Folds.{list_any-append}
use Rattle.mv_base.specs.Lists.{Among}
use Rattle.label_defs.specs.Members.{in_order}
use Rattle.label_defs.proofs.MemberLemmas.{front_of, back_of, not_tied, contains_in_order}
use Rattle.vrf_words.proofs.edge_words.calm_laws.Lists.{any_among}
use Rattle.vrf_words.proofs.edge_words.calm_laws.Maps.{found_stands, empty_entries}
use Rattle.edge_defs.specs.Place.{OwnVrf}
use Rattle.control_laws.specs.Control.{OwnTree}
use Rattle.control_laws.proofs.Gathered.{options, truths, gathered_none, find-append, find-gathered, any-gathered}
use Rattle.control_laws.proofs.Owned.{AreApart, IsOfOne}

-- ---- sums

pub sum-one : {X : Type 0} (xs : List X) → sum_by (λ x. 1) xs ≡ length xs
sum-one [] = refl
sum-one (x ∷ xs) = sum_by-cons (λ y. 1) x xs ∙ (let rest = sum-one xs in omega (arith, rest))

pub sum-map : {X Y : Type 0} (f : Y → ℕ) (g : X → Y) (xs : List X) → sum_by f (map g xs) ≡ sum_by (λ x. f (g x)) xs
sum-map f g [] = refl
sum-map f g (x ∷ xs) = sum_by-cons f (g x) (map g xs) ∙ ap (λ (n : ℕ). f (g x) + n) (sum-map f g xs) ∙ sym (sum_by-cons (λ y. f (g y)) x xs)

pub sum-flat : {X Y : Type 0} (f : Y → ℕ) (g : X → List Y) (xs : List X) → sum_by f (flat_map g xs) ≡ sum_by (λ x. sum_by f (g x)) xs
sum-flat f g [] = refl
sum-flat f g (x ∷ xs) =
    sum_by-append f (g x) (flat_map g xs) ∙ ap (λ (n : ℕ). sum_by f (g x) + n) (sum-flat f g xs) ∙ sym (sum_by-cons (λ y. sum_by f (g y)) x xs)

pub sum-alike : {X : Type 0} (f g : X → ℕ) (xs : List X) → ((x : X) → Among x xs → f x ≡ g x) → sum_by f xs ≡ sum_by g xs
sum-alike f g [] h = refl
sum-alike f g (x ∷ xs) h =
    sum_by-cons f x xs ∙ (λ i. h x (inl refl) i + sum-alike f g xs (λ y a. h y (inr a)) i) ∙ sym (sum_by-cons g x xs)

-- ---- lists in which no key is there twice

module _ {K V : Type 0} (R : K → K → Ordering) where
  abbrev pub StandOnce : List (K × V) → Type 0
  StandOnce [] = Unit {0}
  StandOnce (e ∷ es) = (find R e.0 es ≡ None) × StandOnce es

  none_below : (key : K) (es : List (K × V)) → T (below_all R key es) → find R key es ≡ None
  none_below key [] h = refl
  none_below key (e ∷ es) h =
      ap (λ (b : Bool). cond b (Some e.1) (find R key es)) (not_tied (R key e.0) (front_of (is_lt (R key e.0)) (below_all R key es) h))
      ∙ none_below key es (back_of (is_lt (R key e.0)) (below_all R key es) h)

  sorted_once : (es : List (K × V)) → T (is_sorted R es) → StandOnce es
  sorted_once [] h = tt
  sorted_once (e ∷ es) h =
      (none_below e.0 es (front_of (below_all R e.0 es) (is_sorted R es) h), sorted_once es (back_of (below_all R e.0 es) (is_sorted R es) h))

  pub once_both : (xs ys : List (K × V)) → StandOnce xs → StandOnce ys → ((e : K × V) → Among e xs → find R e.0 ys ≡ None) → StandOnce (xs ++ ys)
  once_both [] ys once thereafter apart = thereafter
  once_both (e ∷ xs) ys once thereafter apart = (
    find-append R e.0 xs ys ∙ ap (λ (o : Option V). option_or o (find R e.0 ys)) once.0 ∙ apart e (inl refl),
    once_both xs ys once.1 thereafter (λ f a. apart f (inr a)),
  )

pub map_once : {K V : Type 0} {R : K → K → Ordering} (m : FinMap R V) → StandOnce R (maps.entries m)
map_once {R = R} m = sorted_once R (maps.entries m) (maps.entries_sorted m)

-- ---- a map that was made of such a list

module _ {K V : Type 0} {R : K → K → Ordering} (total : IsTotalOrder R) (g : K × V → ℕ) where
  swapped : (a b c : ℕ) → a + (b + c) ≡ b + (a + c)
  swapped a b c = omega arith

  sum-put : (key : K) (value : V) (es : List (K × V)) → find R key es ≡ None → sum_by g (put R key value es) ≡ g (key, value) + sum_by g es
  sum-put key value [] none = sum_by-cons g (key, value) []
  sum-put key value (e ∷ es) none = by (R key e.0) none (sum-put key value es)
    where
      by : (r : Ordering) → cond (is_eq r) (Some e.1) (find R key es) ≡ None
          → (find R key es ≡ None → sum_by g (put R key value es) ≡ g (key, value) + sum_by g es)
          → sum_by g (by_order r ((key, value) ∷ e ∷ es) ((e.0, value) ∷ es) (e ∷ put R key value es)) ≡ g (key, value) + sum_by g (e ∷ es)
      by Less n rest = sum_by-cons g (key, value) (e ∷ es)
      by Equal n rest = absurd (let bad : Some e.1 ≡ None = n in cc)
      by Greater n rest =
          sum_by-cons g e (put R key value es) ∙ ap (λ (k : ℕ). g e + k) (rest n) ∙ swapped (g e) (g (key, value)) (sum_by g es)
          ∙ ap (λ (k : ℕ). g (key, value) + k) (sym (sum_by-cons g e es))

  pub sum-made : (es : List (K × V)) → StandOnce R es → sum_by g (maps.entries (maps.from_entries {R = R} es)) ≡ sum_by g es
  sum-made [] once = ap (sum_by g) (empty_entries R)
  sum-made (e ∷ es) once =
      let made : FinMap R V = maps.from_entries es in
      ap (sum_by g) (maps.entries-insert total made e.0 e.1)
      ∙ sum-put e.0 e.1 (maps.entries made) (sym (maps.get-entries made e.0) ∙ maps.get-from_entries total es e.0 ∙ once.0)
      ∙ ap (λ (k : ℕ). g e + k) (sum-made es once.1) ∙ sym (sum_by-cons g e es)

-- ---- a list for each VRF, of keys that are of that VRF alone

module _ {K V : Type 0} {R : K → K → Ordering} (total : IsTotalOrder R) (exact : IsAntisymmetric R) (test : K → OwnVrf → Bool)
    (one : (key : K) → IsOfOne (test key)) (list : OwnTree → List (K × V)) where
  abbrev pub IsOwn : OwnTree → Type 0
  IsOwn it = (e : K × V) → Among e (list it) → test e.0 it.own ≡ true

  not_other : (key : K) (it other : OwnTree) → test key it.own ≡ true → IsOwn other → (other.own.id.0 ≡ it.own.id.0 → ⊥) → (o : Option V)
      → find R key (list other) ≡ o → o ≡ None
  not_other key it other h own ne None e = refl
  not_other key it other h own ne (Some found) e =
      absurd (ne ((one key).one other.own it.own (own (key, found) (found_stands exact key found (list other) e)) h))

  pub flat_once : (its : List OwnTree) → AreApart its → ((it : OwnTree) → Among it its → IsOwn it)
      → ((it : OwnTree) → Among it its → StandOnce R (list it)) → StandOnce R (flat_map list its)
  flat_once [] apart own once = tt
  flat_once (it ∷ more) apart own once =
      once_both R (list it) (flat_map list more) (once it (inl refl)) (flat_once more apart.1 (λ x a. own x (inr a)) (λ x a. once x (inr a)))
      (λ e a. find-gathered R list e.0 more
      ∙ gathered_none options (λ x. find R e.0 (list x)) more
      (λ other b. not_other e.0 it other (own it (inl refl) e a) (own other (inr b)) (apart.0 other b) (find R e.0 (list other)) refl))

  -- so the sum is that of the sums of the VRFs
  pub sum-owned : (g : K × V → ℕ) (its : List OwnTree) → AreApart its → ((it : OwnTree) → Among it its → IsOwn it)
      → ((it : OwnTree) → Among it its → StandOnce R (list it))
      → sum_by g (maps.entries (maps.from_entries {R = R} (flat_map list its))) ≡ sum_by (λ it. sum_by g (list it)) its
  sum-owned g its apart own once = sum-made total g (flat_map list its) (flat_once its apart own once) ∙ sum-flat g list its

pub len-sum : {K V : Type 0} {R : K → K → Ordering} (m : FinMap R V) → maps.len m ≡ sum_by (λ (e : K × V). 1) (maps.entries m)
len-sum m = maps.len-entries m ∙ sym (sum-one (maps.entries m))

pub count-sum : {K V : Type 0} {R : K → K → Ordering} (p : V → Bool) (m : FinMap R V)
    → count_by p (maps.values m) ≡ sum_by (λ (e : K × V). cond (p e.1) 1 0) (maps.entries m)
count-sum p m = sum-map (λ v. cond {A = ℕ} (p v) 1 0) (λ e. e.1) (maps.entries m)

-- ---- sets

module _ {K : Type 0} (R : K → K → Ordering) where
  abbrev pub AreListedOnce : List K → Type 0
  AreListedOnce [] = Unit {0}
  AreListedOnce (k ∷ ks) = (list_any (eq_by_cmp R k) ks ≡ false) × AreListedOnce ks

  listed_both : (xs ys : List K) → AreListedOnce xs → AreListedOnce ys → ((k : K) → Among k xs → list_any (eq_by_cmp R k) ys ≡ false)
      → AreListedOnce (xs ++ ys)
  listed_both [] ys once thereafter apart = thereafter
  listed_both (k ∷ xs) ys once thereafter apart = (
    list_any-append (eq_by_cmp R k) xs ys ∙ ap (λ (b : Bool). b || list_any (eq_by_cmp R k) ys) once.0 ∙ apart k (inl refl),
    listed_both xs ys once.1 thereafter (λ q a. apart q (inr a)),
  )

  keys_once : {V : Type 0} (es : List (K × V)) → StandOnce R es → AreListedOnce (map (λ (e : K × V). e.0) es)
  keys_once [] once = tt
  keys_once (e ∷ es) once = (sym (is_some-find R e.0 es) ∙ ap (λ (o : Option _). is_some o) once.0, keys_once es once.1)

module _ {K : Type 0} {R : K → K → Ordering} (total : IsTotalOrder R) where
  pub members_once : (s : FinSet R) → AreListedOnce R (in_order s)
  members_once s =
      keys_once R (maps.entries (maps.from_entries {R = R} (map (λ k. (k, tt {0})) (sets.items s))))
      (map_once (maps.from_entries {R = R} (map (λ k. (k, tt {0})) (sets.items s))))

  pub len-listed : (ks : List K) → AreListedOnce R ks → sets.len (sets.from_list {R = R} ks) ≡ length ks
  len-listed [] once = sets.len-empty R
  len-listed (k ∷ ks) once =
      sets.len-insert total (sets.from_list ks) k ∙ ap
      (λ (b : Bool). cond b (sets.len (sets.from_list {R = R} ks)) (sets.len (sets.from_list {R = R} ks) + 1))
      (sets.contains-from_list total ks k ∙ once.0)
      ∙ (let rest = len-listed ks once.1 in omega (arith, rest))

  module _ (exact : IsAntisymmetric R) where
    pub of_members : (s : FinSet R) → s ≡ sets.from_list (in_order s)
    of_members s =
        sets.same_set total exact s (sets.from_list (in_order s))
        (λ k. contains_in_order total s k ∙ sym (sets.contains-from_list total (in_order s) k))

    pub len-members : (s : FinSet R) → sets.len s ≡ length (in_order s)
    len-members s = ap (λ (t : FinSet R). sets.len t) (of_members s) ∙ len-listed (in_order s) (members_once s)

    module _ (test : K → OwnVrf → Bool) (one : (key : K) → IsOfOne (test key)) (list : OwnTree → List K) where
      none_listed : (key : K) (it other : OwnTree) → test key it.own ≡ true → ((k : K) → Among k (list other) → test k other.own ≡ true)
          → (other.own.id.0 ≡ it.own.id.0 → ⊥)
          → (b : Bool) → list_any (eq_by_cmp R key) (list other) ≡ b → b ≡ false
      none_listed key it other h own ne false e = refl
      none_listed key it other h own ne true e =
          let (found, among, tied) = any_among (eq_by_cmp R key) (list other) e in
          let same : key ≡ found = exact key found ((Equal-is (R key found)).0 tied) in
          absurd (ne ((one key).one other.own it.own (ap (λ (k : K). test k other.own) same ∙ own found among) h))

      pub flat_listed : (its : List OwnTree) → AreApart its → ((it : OwnTree) → Among it its → (k : K) → Among k (list it) → test k it.own ≡ true)
          → ((it : OwnTree) → Among it its → AreListedOnce R (list it)) → AreListedOnce R (flat_map list its)
      flat_listed [] apart own once = tt
      flat_listed (it ∷ more) apart own once =
          listed_both R (list it) (flat_map list more) (once it (inl refl)) (flat_listed more apart.1 (λ x a. own x (inr a)) (λ x a. once x (inr a)))
          (λ k a. any-gathered (eq_by_cmp R k) list more
          ∙ gathered_none truths (λ x. list_any (eq_by_cmp R k) (list x)) more
          (λ other b. none_listed k it other (own it (inl refl) k a) (own other (inr b)) (apart.0 other b) (list_any (eq_by_cmp R k) (list other))
          refl))

      pub len-owned : (its : List OwnTree) → AreApart its → ((it : OwnTree) → Among it its → (k : K) → Among k (list it) → test k it.own ≡ true)
          → ((it : OwnTree) → Among it its → AreListedOnce R (list it))
          → sets.len (sets.from_list {R = R} (flat_map list its)) ≡ sum_by (λ it. length (list it)) its
      len-owned its apart own once =
          len-listed (flat_map list its) (flat_listed its apart own once) ∙ sym (sum-one (flat_map list its)) ∙ sum-flat (λ k. 1) list its
          ∙ sum-alike (λ it. sum_by (λ k. 1) (list it)) (λ it. length (list it)) its (λ it a. sum-one (list it))

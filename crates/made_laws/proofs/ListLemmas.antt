-- Lists that grow by one for each number: what is found in them.
use Rattle.std.proofs.Common.{◌≡◌, ◌⊎◌, ℕ, zero, suc, ◌+◌, ◌*◌, ◌<◌, ◌≤◌, ◌||◌, Bool, true, false, cond, List, [], ◌∷◌, ◌++◌, length, Some, None, refl, sym, ap, subst, ◌∙◌, arith, inl, inr, append_assoc, append-nil, length-append}
use Rattle.std.specs.List.{list_any, slice_get}
use Rattle.std.specs.Map.{lookup}
use Rattle.std.proofs.lemmas.Bool.{or_from, or_left, or_right, cases_lt}
use Rattle.std.proofs.lemmas.Option.{none-some}
use Rattle.std.proofs.lemmas.List.Folds.{list_any-append}
use Rattle.made_laws.specs.MadeScript.{each, all}

-- the list, and after it what each number from 1 on has, up to that one
abbrev pub thereafter : {A : Type 0} → List A → (ℕ → A) → ℕ → List A
thereafter old of zero = old
thereafter old of (suc count) = thereafter old of count ++ of (suc count) ∷ []

-- the same of rows, each of so many
abbrev pub rows : {A : Type 0} → ℕ → (ℕ → ℕ → A) → ℕ → List A
rows width of zero = []
rows width of (suc row) = thereafter (rows width of row) (of (suc row)) width

-- ---- the same lists, part by part

pub after_all : {A : Type 0} (old : List A) (of : ℕ → A) (count : ℕ) → thereafter old of count ≡ old ++ all of count
after_all old of zero = sym (append-nil old)
after_all old of (suc count) = ap (λ l. l ++ of (suc count) ∷ []) (after_all old of count) ∙ append_assoc old (all of count) (of (suc count) ∷ [])

pub rows_each : {A : Type 0} (width : ℕ) (of : ℕ → ℕ → A) (row : ℕ) → rows width of row ≡ each (λ number. all (of number) width) row
rows_each width of zero = refl
rows_each width of (suc row) = after_all (rows width of row) (of (suc row)) width ∙ ap (λ l. l ++ all (of (suc row)) width) (rows_each width of row)

-- ---- lengths

pub length_after : {A : Type 0} (old : List A) (of : ℕ → A) (count : ℕ) → length (thereafter old of count) ≡ length old + count
length_after old of zero = omega arith
length_after old of (suc count) = omega (arith, length_after old of count, length-append (thereafter old of count) (of (suc count) ∷ []))

-- Rows of eight.
pub length_rows : {A : Type 0} (width : ℕ) (of : ℕ → ℕ → A) (row : ℕ) → width ≡ 8 → length (rows width of row) ≡ 8 * row
length_rows width of zero e = refl
length_rows width of (suc row) e = omega (arith, e, length_rows width of row e, length_after (rows width of row) (of (suc row)) width)

-- ---- tests

any_last : {A : Type 0} (p : A → Bool) (xs : List A) (x : A) → list_any p (xs ++ x ∷ []) ≡ (list_any p xs || list_any p (x ∷ []))
any_last p xs x = list_any-append p xs (x ∷ [])

pub any_none : {A : Type 0} (p : A → Bool) (old : List A) (of : ℕ → A) (count : ℕ) → list_any p old ≡ false
    → ((k : ℕ) → k < count → p (of (suc k)) ≡ false) → list_any p (thereafter old of count) ≡ false
any_none p old of zero h none = h
any_none p old of (suc count) h none =
    any_last p (thereafter old of count) (of (suc count))
    ∙ or_from _ _ (any_none p old of count h (λ k within. none k (omega arith))) (or_from _ _ (none count (omega arith)) refl)

pub any_kept : {A : Type 0} (p : A → Bool) (old : List A) (of : ℕ → A) (count : ℕ) → list_any p old ≡ true → list_any p (thereafter old of count) ≡ true
any_kept p old of zero h = h
any_kept p old of (suc count) h = any_last p (thereafter old of count) (of (suc count)) ∙ or_left _ _ (any_kept p old of count h)

pub any_some : {A : Type 0} (p : A → Bool) (old : List A) (of : ℕ → A) (count k : ℕ) → k < count → p (of (suc k)) ≡ true
    → list_any p (thereafter old of count) ≡ true
any_some p old of zero k within h = absurd (omega arith)
any_some p old of (suc count) k within h = any_last p (thereafter old of count) (of (suc count)) ∙ by_place (any_some p old of count k) (cases_lt k count)
  where
    by_place : (k < count → p (of (suc k)) ≡ true → list_any p (thereafter old of count) ≡ true) → (k < count) ⊎ (count ≤ k)
        → (list_any p (thereafter old of count) || list_any p (of (suc count) ∷ [])) ≡ true
    by_place earlier (inl e) = or_left _ _ (earlier e h)
    by_place earlier (inr e) =
        let same : k ≡ count = omega arith in
        or_right (list_any p (thereafter old of count)) _ (or_left _ _ (subst (λ (n : ℕ). p (of (suc n)) ≡ true) same h))

any_rows : {A : Type 0} (p : A → Bool) (width : ℕ) (of : ℕ → ℕ → A) (row : ℕ) → ((r k : ℕ) → r < row → k < width → p (of (suc r) (suc k)) ≡ false)
    → list_any p (rows width of row) ≡ false
any_rows p width of zero none = refl
any_rows p width of (suc row) none =
    any_none p (rows width of row) (of (suc row)) width (any_rows p width of row (λ r k a b. none r k (omega arith) b))
    (λ k b. none row k (omega arith) b)

-- the rows that are there, and the first of the next one
pub any_place : {A : Type 0} (p : A → Bool) (width : ℕ) (of : ℕ → ℕ → A) (row count : ℕ) → count ≤ width
    → ((r k : ℕ) → (8 * r + k < 8 * row + count) → k < width → p (of (suc r) (suc k)) ≡ false) → width ≡ 8
    → list_any p (thereafter (rows width of row) (of (suc row)) count) ≡ false
any_place p width of row count few none e =
    any_none p (rows width of row) (of (suc row)) count (any_rows p width of row (λ r k a b. none r k (omega arith) b))
    (λ k b. none row k (omega arith) (omega arith))

-- ---- places

get_last : {A : Type 0} (xs : List A) (x : A) → slice_get (xs ++ x ∷ []) (length xs) ≡ Some x
get_last [] x = refl
get_last (y ∷ xs) x = get_last xs x

get_more : {A : Type 0} (xs ys : List A) (k : ℕ) (x : A) → slice_get xs k ≡ Some x → slice_get (xs ++ ys) k ≡ Some x
get_more [] ys k x h = absurd (none-some x h)
get_more (y ∷ xs) ys zero x h = h
get_more (y ∷ xs) ys (suc k) x h = get_more xs ys k x h

pub get_kept : {A : Type 0} (old : List A) (of : ℕ → A) (count k : ℕ) (x : A) → slice_get old k ≡ Some x → slice_get (thereafter old of count) k ≡ Some x
get_kept old of zero k x h = h
get_kept old of (suc count) k x h = get_more (thereafter old of count) (of (suc count) ∷ []) k x (get_kept old of count k x h)

pub get_after : {A : Type 0} (old : List A) (of : ℕ → A) (count k n : ℕ) → k < count → n ≡ length old + k
    → slice_get (thereafter old of count) n ≡ Some (of (suc k))
get_after old of zero k n within e = absurd (omega arith)
get_after old of (suc count) k n within e = by_place (get_after old of count k n) (cases_lt k count)
  where
    by_place : (k < count → n ≡ length old + k → slice_get (thereafter old of count) n ≡ Some (of (suc k))) → (k < count) ⊎ (count ≤ k)
        → slice_get (thereafter old of count ++ of (suc count) ∷ []) n ≡ Some (of (suc k))
    by_place earlier (inl h) = get_more (thereafter old of count) (of (suc count) ∷ []) n (of (suc k)) (earlier h e)
    by_place earlier (inr h) =
        let same : count ≡ k = omega arith in
        let place : length (thereafter old of count) ≡ n = omega (arith, length_after old of count, e) in
        subst (λ (j : ℕ). slice_get (thereafter old of count ++ of (suc count) ∷ []) n ≡ Some (of (suc j))) same
        (subst (λ (j : ℕ). slice_get (thereafter old of count ++ of (suc count) ∷ []) j ≡ Some (of (suc count))) place
        (get_last (thereafter old of count) (of (suc count))))

pub get_rows : {A : Type 0} (width : ℕ) (of : ℕ → ℕ → A) (row r k n : ℕ) → width ≡ 8 → r < row → k < width → n ≡ 8 * r + k
    → slice_get (rows width of row) n ≡ Some (of (suc r) (suc k))
get_rows width of zero r k n e a b h = absurd (omega arith)
get_rows width of (suc row) r k n e a b h = by_row (get_rows width of row r k n e) (cases_lt r row)
  where
    by_row : (r < row → k < width → n ≡ 8 * r + k → slice_get (rows width of row) n ≡ Some (of (suc r) (suc k))) → (r < row) ⊎ (row ≤ r)
        → slice_get (thereafter (rows width of row) (of (suc row)) width) n ≡ Some (of (suc r) (suc k))
    by_row earlier (inl l) = get_kept (rows width of row) (of (suc row)) width n (of (suc r) (suc k)) (earlier l b h)
    by_row earlier (inr l) =
        let same : row ≡ r = omega arith in
        subst (λ (j : ℕ). slice_get (thereafter (rows width of row) (of (suc row)) width) n ≡ Some (of (suc j) (suc k))) same
        (get_after (rows width of row) (of (suc row)) width k n b (omega (arith, h, length_rows width of row e)))

-- the rows that are there, and the first of the next one
pub get_place : {A : Type 0} (width : ℕ) (of : ℕ → ℕ → A) (row count r k n : ℕ) → width ≡ 8 → 8 * r + k < 8 * row + count → count ≤ width → k < width
    → n ≡ 8 * r + k → slice_get (thereafter (rows width of row) (of (suc row)) count) n ≡ Some (of (suc r) (suc k))
get_place width of row count r k n e a few b h = by_row (cases_lt r row)
  where
    by_row : (r < row) ⊎ (row ≤ r) → slice_get (thereafter (rows width of row) (of (suc row)) count) n ≡ Some (of (suc r) (suc k))
    by_row (inl l) = get_kept (rows width of row) (of (suc row)) count n (of (suc r) (suc k)) (get_rows width of row r k n e l b h)
    by_row (inr l) =
        let same : row ≡ r = omega arith in
        subst (λ (j : ℕ). slice_get (thereafter (rows width of row) (of (suc row)) count) n ≡ Some (of (suc j) (suc k))) same
        (get_after (rows width of row) (of (suc row)) count k n (omega arith) (omega (arith, h, length_rows width of row e)))

-- ---- look-ups

pub lookup_none : {K X : Type 0} (test : K → Bool) (xs ys : List (K × X)) → lookup test xs ≡ None → lookup test ys ≡ None
    → lookup test (xs ++ ys) ≡ None
lookup_none test [] ys a b = b
lookup_none test (x ∷ xs) ys a b = at_first (λ h. lookup_none test xs ys h b) (test x.0) a
  where
    at_first : (lookup test xs ≡ None → lookup test (xs ++ ys) ≡ None) → (t : Bool) → cond t (Some x.1) (lookup test xs) ≡ None
        → cond t (Some x.1) (lookup test (xs ++ ys)) ≡ None
    at_first rest true h = absurd (none-some x.1 (sym h))
    at_first rest false h = rest h

pub lookup_more : {K X : Type 0} (test : K → Bool) (xs ys : List (K × X)) (v : X) → lookup test xs ≡ Some v → lookup test (xs ++ ys) ≡ Some v
lookup_more test [] ys v a = absurd (none-some v a)
lookup_more test (x ∷ xs) ys v a = at_first (lookup_more test xs ys v) (test x.0) a
  where
    at_first : (lookup test xs ≡ Some v → lookup test (xs ++ ys) ≡ Some v) → (t : Bool) → cond t (Some x.1) (lookup test xs) ≡ Some v
        → cond t (Some x.1) (lookup test (xs ++ ys)) ≡ Some v
    at_first rest true h = h
    at_first rest false h = rest h

pub lookup_last : {K X : Type 0} (test : K → Bool) (xs : List (K × X)) (k : K) (v : X) → lookup test xs ≡ None → test k ≡ true
    → lookup test (xs ++ (k, v) ∷ []) ≡ Some v
lookup_last test [] k v a h = rw h refl
lookup_last test (x ∷ xs) k v a h = at_first (λ e. lookup_last test xs k v e h) (test x.0) a
  where
    at_first : (lookup test xs ≡ None → lookup test (xs ++ (k, v) ∷ []) ≡ Some v) → (t : Bool) → cond t (Some x.1) (lookup test xs) ≡ None
        → cond t (Some x.1) (lookup test (xs ++ (k, v) ∷ [])) ≡ Some v
    at_first rest true e = absurd (none-some x.1 (sym e))
    at_first rest false e = rest e

pub lookup_one : {K X : Type 0} (test : K → Bool) (k : K) (v : X) → test k ≡ false → lookup test ((k, v) ∷ []) ≡ None
lookup_one test k v h = rw h refl

pub lookup_after : {K X : Type 0} (test : K → Bool) (old : List (K × X)) (of : ℕ → K × X) (count : ℕ) → lookup test old ≡ None
    → ((k : ℕ) → k < count → test (of (suc k)).0 ≡ false) → lookup test (thereafter old of count) ≡ None
lookup_after test old of zero h none = h
lookup_after test old of (suc count) h none =
    lookup_none test (thereafter old of count) (of (suc count) ∷ []) (lookup_after test old of count h (λ k within. none k (omega arith)))
    (lookup_one test (of (suc count)).0 (of (suc count)).1 (none count (omega arith)))

pub lookup_kept : {K X : Type 0} (test : K → Bool) (old : List (K × X)) (of : ℕ → K × X) (count : ℕ) (v : X) → lookup test old ≡ Some v
    → lookup test (thereafter old of count) ≡ Some v
lookup_kept test old of zero v h = h
lookup_kept test old of (suc count) v h = lookup_more test (thereafter old of count) (of (suc count) ∷ []) v (lookup_kept test old of count v h)

-- What the number's name stands for, where none before it has that name.
pub lookup_found : {K X : Type 0} (test : K → Bool) (old : List (K × X)) (of : ℕ → K × X) (count k : ℕ) → k < count
    → lookup test (thereafter old of k) ≡ None → test (of (suc k)).0 ≡ true → lookup test (thereafter old of count) ≡ Some (of (suc k)).1
lookup_found test old of zero k within none h = absurd (omega arith)
lookup_found test old of (suc count) k within none h = by_place (lookup_found test old of count k) (cases_lt k count)
  where
    by_place : (k < count → lookup test (thereafter old of k) ≡ None → test (of (suc k)).0 ≡ true
        → lookup test (thereafter old of count) ≡ Some (of (suc k)).1) → (k < count) ⊎ (count ≤ k)
        → lookup test (thereafter old of count ++ of (suc count) ∷ []) ≡ Some (of (suc k)).1
    by_place earlier (inl l) = lookup_more test (thereafter old of count) (of (suc count) ∷ []) (of (suc k)).1 (earlier l none h)
    by_place earlier (inr l) =
        let same : k ≡ count = omega arith in
        subst (λ (j : ℕ). lookup test (thereafter old of j ++ of (suc j) ∷ []) ≡ Some (of (suc k)).1) same
        (lookup_last test (thereafter old of k) (of (suc k)).0 (of (suc k)).1 none h)

-- The changes between two tables, key by key.
use Rattle.std.proofs.Common.{◌≡◌, Bool, true, false, cond, T, List, [], ◌∷◌, ◌++◌, Option, Some, None, refl, sym, ap, ◌∙◌}
use Rattle.std.specs.Prelude.{not, map, is_none}
use Rattle.std.specs.declared.cmp.Ordering.{Ordering}
use Rattle.std.specs.Option.{option_eq, option_map, option_to_list}
use Rattle.std.specs.Ordering.{eq_by_cmp}
use Rattle.std.specs.Cmp.{IsTotalOrder}
use Rattle.std.specs.FinMap.{FinMap, find, get, entries, entries_sorted, get-entries, get-retain_keys, get_tied}
use Rattle.std.specs.FinMap.Entries.{is_sorted, below_all, find_tied}
use Rattle.mv_base.specs.declared.table_defs.change.Change.{Change}
use Rattle.mv_base.specs.declared.table_defs.change.Change.TheVariants.{Reach, Unreach}
use Rattle.table_laws.proofs.CompareLemmas.{first, second, equal, apart}
use Rattle.mv_base.specs.table_defs.Changes.{key_of, value_of, withdrawals, advertisements, lost, news, changes, values_at, difference}

joined : {X : Type 0} (b : Bool) (x : X) (xs ys : List X) → cond b (x ∷ xs ++ ys) (xs ++ ys) ≡ cond b (x ∷ xs) xs ++ ys
joined true x xs ys = refl
joined false x xs ys = refl

-- one value at most, and given by f
one_at_most : {V X : Type 0} (f : V → X) (b : Bool) (value : V) (rest : Option V) → (b ≡ true → rest ≡ None)
    → cond b (f value ∷ option_to_list (option_map f rest)) (option_to_list (option_map f rest))
    ≡ option_to_list (option_map f (cond b (Some value) rest))
one_at_most f true value rest none = ap (λ o. f value ∷ option_to_list (option_map f o)) (none refl)
one_at_most f false value rest none = refl

abbrev withdrawn : {V : Type 0} → Option V → List (Option V)
withdrawn old = option_to_list (option_map (λ _. None) old)

abbrev advertised : {V : Type 0} → Option V → List (Option V)
advertised new = option_to_list (option_map (λ value. Some value) new)

told : {V : Type 0} (b : Bool) (value : V) → advertised (cond (not b) (Some value) None) ≡ cond b [] (Some value ∷ [])
told true value = refl
told false value = refl

parts : {V : Type 0} (same : V → V → Bool) (old new : Option V)
    → withdrawn (cond (is_none new) old None) ++ advertised (cond (not (option_eq same old new)) new None) ≡ difference same old new
parts same None None = refl
parts same (Some value) None = refl
parts same None (Some next) = refl
parts same (Some value) (Some next) = told (same value next) next

module _ {K V : Type 0} (cmp : K → K → Ordering) where
  pub values_at-append : (key : K) (front thereafter : List (Change K V))
      → values_at cmp key (front ++ thereafter) ≡ values_at cmp key front ++ values_at cmp key thereafter
  values_at-append key [] thereafter = refl
  values_at-append key (change ∷ front) thereafter =
      ap (λ values. cond (eq_by_cmp cmp key (key_of change)) (value_of change ∷ values) values) (values_at-append key front thereafter)
      ∙ joined (eq_by_cmp cmp key (key_of change)) (value_of change) (values_at cmp key front) (values_at cmp key thereafter)

  none_below : (key : K) (es : List (K × V)) → T (below_all cmp key es) → find cmp key es ≡ None
  none_below key [] h = refl
  none_below key (e ∷ es) h = ap (λ b. cond b (Some e.1) (find cmp key es)) (apart (cmp key e.0) (first _ _ h)) ∙ none_below key es (second _ _ h)

module _ {K V : Type 0} {cmp : K → K → Ordering} (total : IsTotalOrder cmp) where
  none_after : (key : K) (e : K × V) (es : List (K × V)) → T (is_sorted cmp (e ∷ es)) → eq_by_cmp cmp key e.0 ≡ true → find cmp key es ≡ None
  none_after key e es h tied = sym (find_tied cmp total key e.0 (equal (cmp key e.0) tied) es) ∙ none_below cmp e.0 es (first _ _ h)

  withdrawals_at : (key : K) (es : List (K × V)) → T (is_sorted cmp es) → values_at cmp key (map (λ e. Unreach e.0) es) ≡ withdrawn (find cmp key es)
  withdrawals_at key [] h = refl
  withdrawals_at key (e ∷ es) h =
      ap (λ values. cond (eq_by_cmp cmp key e.0) (None ∷ values) values) (withdrawals_at key es (second _ _ h))
      ∙ one_at_most (λ _. None) (eq_by_cmp cmp key e.0) e.1 (find cmp key es) (none_after key e es h)

  advertisements_at : (key : K) (es : List (K × V)) → T (is_sorted cmp es)
      → values_at cmp key (map (λ e. Reach e.0 e.1) es) ≡ advertised (find cmp key es)
  advertisements_at key [] h = refl
  advertisements_at key (e ∷ es) h =
      ap (λ values. cond (eq_by_cmp cmp key e.0) (Some e.1 ∷ values) values) (advertisements_at key es (second _ _ h))
      ∙ one_at_most (λ value. Some value) (eq_by_cmp cmp key e.0) e.1 (find cmp key es) (none_after key e es h)

  get-lost : (old new : FinMap cmp V) (key : K) → get (lost old new) key ≡ cond (is_none (get new key)) (get old key) None
  get-lost old new key = get-retain_keys old (λ own. is_none (get new own)) key (λ own tied. ap is_none (get_tied total new key own tied))

  get-news : (same : V → V → Bool) (old new : FinMap cmp V) (key : K)
      → get (news same old new) key ≡ cond (not (option_eq same (get old key) (get new key))) (get new key) None
  get-news same old new key = get-retain_keys new (λ own. not (option_eq same (get old own) (get new own))) key
      (λ own tied. ap (λ o. not (option_eq same o (get new own))) (get_tied total old key own tied)
      ∙ ap (λ o. not (option_eq same (get old key) o)) (get_tied total new key own tied))

  values_at-withdrawals : (gone : FinMap cmp V) (key : K) → values_at cmp key (withdrawals gone) ≡ withdrawn (get gone key)
  values_at-withdrawals gone key = withdrawals_at key (entries gone) (entries_sorted gone) ∙ ap withdrawn (sym (get-entries gone key))

  pub values_at-advertisements : (new : FinMap cmp V) (key : K)
      → values_at cmp key (advertisements new) ≡ option_to_list (option_map (λ value. Some value) (get new key))
  values_at-advertisements new key = advertisements_at key (entries new) (entries_sorted new) ∙ ap advertised (sym (get-entries new key))

  -- the changes between two tables give each key the difference of its values
  pub values_at-changes : (same : V → V → Bool) (old new : FinMap cmp V) (key : K)
      → values_at cmp key (changes same old new) ≡ difference same (get old key) (get new key)
  values_at-changes same old new key =
      values_at-append cmp key (withdrawals (lost old new)) (advertisements (news same old new))
      ∙ ap (λ values. values ++ values_at cmp key (advertisements (news same old new)))
      (values_at-withdrawals (lost old new) key ∙ ap withdrawn (get-lost old new key))
      ∙ ap (λ values. withdrawn (cond (is_none (get new key)) (get old key) None) ++ values)
      (values_at-advertisements (news same old new) key ∙ ap advertised (get-news same old new key))
      ∙ parts same (get old key) (get new key)

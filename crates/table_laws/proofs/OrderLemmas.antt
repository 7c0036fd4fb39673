-- Lists of changes in order: two of them that give each key the same values are one.
use Rattle.std.proofs.Common.{◌≡◌, Bool, true, false, cond, T, List, [], ◌∷◌, ◌++◌, Option, Some, None, refl, sym, ap, subst, ◌∙◌, inl, inr}
use Rattle.std.specs.Prelude.{◌⊎◌, ◌↔◌, map}
use Rattle.std.specs.declared.cmp.Ordering.{Ordering}
use Rattle.std.specs.List.{AllByRecursion}
use Rattle.std.specs.Option.{option_map, option_to_list}
use Rattle.std.specs.Ordering.{eq_by_cmp}
use Rattle.std.specs.Cmp.{IsTotalOrder}
use Rattle.std.specs.FinMap.{FinMap, IsAntisymmetric, get, get-empty, empty, entries, entries_sorted}
use Rattle.std.specs.FinMap.Entries.{is_sorted, below_all}
use Rattle.mv_base.specs.declared.table_defs.change.Change.{Change}
use Rattle.mv_base.specs.declared.table_defs.change.Change.TheVariants.{Reach, Unreach}
use Rattle.mv_base.specs.table_defs.Changes.{key_of, value_of, lost, news, changes, advertisements, values_at, difference}
use Rattle.table_laws.specs.Words.{AreChanges, IsExact, IsOrdered, Precedes}
use Rattle.table_laws.proofs.CompareLemmas.{first, second, less, own_key, one_key, not_both}
use Rattle.table_laws.proofs.KeyLemmas.{values_at-advertisements, values_at-changes}

-- the change that gives the key this value
abbrev change_to : {K V : Type 0} → K → Option V → Change K V
change_to key None = Unreach key
change_to key (Some value) = Reach key value

is_change_to : {K V : Type 0} (change : Change K V) → change_to (key_of change) (value_of change) ≡ change
is_change_to (Reach key value) = refl
is_change_to (Unreach key) = refl

head : {X : Type 0} (x y : X) (xs ys : List X) → x ∷ xs ≡ y ∷ ys → x ≡ y
head x y xs ys e = cc

same_rests : {X : Type 0} (b : Bool) (x : X) (xs ys : List X) → cond b (x ∷ xs) xs ≡ cond b (x ∷ ys) ys → xs ≡ ys
same_rests true x xs ys e = cc
same_rests false x xs ys e = e

all_imply : {X : Type 0} (P Q : X → Type 0) → ((x : X) → P x → Q x) → (xs : List X) → AllByRecursion P xs → AllByRecursion Q xs
all_imply P Q f [] h = tt
all_imply P Q f (x ∷ xs) h = (f x h.0, all_imply P Q f xs h.1)

module _ {K V : Type 0} (cmp : K → K → Ordering) where
  below_news : (key : K) (value : V) (es : List (K × V)) → T (below_all cmp key es)
      → AllByRecursion (Precedes cmp (Reach key value)) (map (λ e. Reach e.0 e.1) es)
  below_news key value [] h = tt
  below_news key value (e ∷ es) h = (less (cmp key e.0) (first _ _ h), below_news key value es (second _ _ h))

  before_news : (key : K) (es : List (K × V)) → AllByRecursion (Precedes {V = V} cmp (Unreach key)) (map (λ e. Reach e.0 e.1) es)
  before_news key [] = tt
  before_news key (e ∷ es) = (tt, before_news key es)

  below_lost : (key : K) (gone new : List (K × V)) → T (below_all cmp key gone)
      → AllByRecursion (Precedes {V = V} cmp (Unreach key)) (map (λ e. Unreach e.0) gone ++ map (λ e. Reach e.0 e.1) new)
  below_lost key [] new h = before_news key new
  below_lost key (e ∷ gone) new h = (less (cmp key e.0) (first _ _ h), below_lost key gone new (second _ _ h))

  news_ordered : (new : List (K × V)) → T (is_sorted cmp new) → IsOrdered cmp (map (λ e. Reach e.0 e.1) new)
  news_ordered [] h = tt
  news_ordered (e ∷ new) h = (below_news e.0 e.1 new (first _ _ h), news_ordered new (second _ _ h))

  -- withdrawals and then advertisements, each of rising keys
  pub both_ordered : (gone new : List (K × V)) → T (is_sorted cmp gone) → T (is_sorted cmp new)
      → IsOrdered cmp (map (λ e. Unreach e.0) gone ++ map (λ e. Reach e.0 e.1) new)
  both_ordered [] new h i = news_ordered new i
  both_ordered (e ∷ gone) new h i = (below_lost e.0 gone new (first _ _ h), both_ordered gone new (second _ _ h) i)

module _ {K V : Type 0} {cmp : K → K → Ordering} where
  pub changes_ordered : (same : V → V → Bool) (old new : FinMap cmp V) → IsOrdered cmp (changes same old new)
  changes_ordered same old new =
      both_ordered cmp (entries (lost old new)) (entries (news same old new)) (entries_sorted (lost old new)) (entries_sorted (news same old new))

  advertisements_ordered : (new : FinMap cmp V) → IsOrdered cmp (advertisements new)
  advertisements_ordered new = news_ordered cmp (entries new) (entries_sorted new)

  not_before : IsTotalOrder cmp → (own other : Change K V) → Precedes cmp own other → Precedes cmp other own → ⊥
  not_before total (Unreach own) (Unreach other) h i = not_both total own other h i
  not_before total (Unreach own) (Reach other value) h i = i
  not_before total (Reach own value) (Unreach other) h i = h
  not_before total (Reach own value) (Reach other next) h i = not_both total own other h i

module _ {K V : Type 0} {cmp : K → K → Ordering} (total : IsTotalOrder cmp) (exact : IsAntisymmetric cmp) where
  -- what holds of all changes holds of the first one about a key
  holds_of_first : (P : Change K V → Type 0) (list : List (Change K V)) → AllByRecursion P list
      → (key : K) (value : Option V) (rest : List (Option V)) → values_at cmp key list ≡ value ∷ rest → P (change_to key value)
  holds_of_first P [] h key value rest e = absurd cc
  holds_of_first P (change ∷ list) h key value rest e =
      elim (eq_by_cmp cmp key (key_of change)) as (λ b. eq_by_cmp cmp key (key_of change) ≡ b
      → cond b (value_of change ∷ values_at cmp key list) (values_at cmp key list) ≡ value ∷ rest → P (change_to key value)) [
        | true ↦ λ tied e. subst P (sym (ap (λ own. change_to own value) (one_key exact key (key_of change) tied)
            ∙ ap (change_to (key_of change)) (sym (head _ _ _ _ e)) ∙ is_change_to change)) h.0
        | false ↦ λ tied e. holds_of_first P list h.1 key value rest e
      ] refl e

  own_values : (change : Change K V) (rest : List (Change K V))
      → values_at cmp (key_of change) (change ∷ rest) ≡ value_of change ∷ values_at cmp (key_of change) rest
  own_values change rest =
      ap (λ b. cond b (value_of change ∷ values_at cmp (key_of change) rest) (values_at cmp (key_of change) rest)) (own_key total (key_of change))

  is_head_or_after : (own other : Change K V) (owns others : List (Change K V)) → AllByRecursion (Precedes cmp other) others
      → values_at cmp (key_of own) (other ∷ others) ≡ values_at cmp (key_of own) (own ∷ owns) → (own ≡ other) ⊎ Precedes cmp other own
  is_head_or_after own other owns others h e =
      subst (λ change. (change ≡ other) ⊎ Precedes cmp other change) (is_change_to own)
      (holds_of_first (λ change. (change ≡ other) ⊎ Precedes cmp other change) (other ∷ others) (inl refl, all_imply _ _ (λ change p. inr p) others h)
      (key_of own) (value_of own) (values_at cmp (key_of own) owns) (e ∙ own_values own owns))

  neither : (own other : Change K V) → (own ≡ other) ⊎ Precedes cmp other own → (other ≡ own) ⊎ Precedes cmp own other → own ≡ other
  neither own other (inl e) i = e
  neither own other (inr h) (inl e) = sym e
  neither own other (inr h) (inr i) = absurd (not_before total own other i h)

  pub one_ordered : (owns others : List (Change K V)) → IsOrdered cmp owns → IsOrdered cmp others
      → ((key : K) → values_at cmp key owns ≡ values_at cmp key others) → owns ≡ others
  one_ordered [] [] h i same = refl
  one_ordered [] (other ∷ others) h i same = (let e = same (key_of other) ∙ own_values other others in absurd cc)
  one_ordered (own ∷ owns) [] h i same = (let e = sym (same (key_of own)) ∙ own_values own owns in absurd cc)
  one_ordered (own ∷ owns) (other ∷ others) h i same =
      let e : own ≡ other =
      neither own other (is_head_or_after own other owns others i.0 (sym (same (key_of own))))
      (is_head_or_after other own others owns h.0 (same (key_of other))) in
      let rests : owns ≡ others = one_ordered owns others h.1 i.1 (λ key.
      same_rests (eq_by_cmp cmp key (key_of own)) (value_of own) (values_at cmp key owns) (values_at cmp key others)
      (same key ∙ ap (λ change. cond (eq_by_cmp cmp key (key_of change)) (value_of change ∷ values_at cmp key others) (values_at cmp key others))
      (sym e))) in
      cc

  pub changes_are : (same : V → V → Bool) (old new : FinMap cmp V) (list : List (Change K V))
      → AreChanges same old new list ↔ (list ≡ changes same old new)
  changes_are same old new list = (
    λ h. one_ordered list (changes same old new) h.ordered (changes_ordered same old new)
        (λ key. h.values key ∙ sym (values_at-changes total same old new key)),
    λ e. subst (AreChanges same old new) (sym e) (record { ordered = changes_ordered same old new; values = values_at-changes total same old new }),
  )

  told_new : (same : V → V → Bool) (new : Option V) → difference same None new ≡ option_to_list (option_map (λ value. Some value) new)
  told_new same None = refl
  told_new same (Some value) = refl

  pub first_are : (same : V → V → Bool) (new : FinMap cmp V) → changes same empty new ≡ advertisements new
  first_are same new = one_ordered (changes same empty new) (advertisements new) (changes_ordered same empty new) (advertisements_ordered new) (λ key.
      values_at-changes total same empty new key ∙ ap (λ old. difference same old (get new key)) (get-empty cmp key)
      ∙ told_new same (get new key) ∙ sym (values_at-advertisements total new key))

  told_same : (same : V → V → Bool) → IsExact same → (old : Option V) → difference same old old ≡ []
  told_same same is None = refl
  told_same same is (Some value) = ap (λ b. cond b [] (Some value ∷ [])) ((is value value).1 refl)

  pub none_are : (same : V → V → Bool) → IsExact same → (old : FinMap cmp V) → changes same old old ≡ []
  none_are same is old =
      one_ordered (changes same old old) [] (changes_ordered same old old) tt
      (λ key. values_at-changes total same old old key ∙ told_same same is (get old key))

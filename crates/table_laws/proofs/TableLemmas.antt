-- What a table has at a key after changes.
use Rattle.std.proofs.Common.{◌≡◌, ◌↔◌, Bool, true, false, cond, List, [], ◌∷◌, Option, refl, sym, ap, subst, ◌∙◌}
use Rattle.std.specs.declared.cmp.Ordering.{Ordering}
use Rattle.std.specs.Ordering.{eq_by_cmp}
use Rattle.std.specs.Cmp.{IsTotalOrder}
use Rattle.std.specs.FinMap.{FinMap, IsAntisymmetric, get, get-insert, get-remove, same_map}
use Rattle.mv_base.specs.declared.table_defs.change.Change.{Change}
use Rattle.mv_base.specs.declared.table_defs.change.Change.TheVariants.{Reach, Unreach}
use Rattle.mv_base.specs.table_defs.Changes.{key_of, value_of, applied, applied_all, values_at, last_value}
use Rattle.table_laws.specs.Words.{IsBehind}
use Rattle.table_laws.proofs.CompareLemmas.{own_key, one_key, other_key}

taken_off : {V : Type 0} (b : Bool) (value old : Option V) (rest : List (Option V))
    → last_value (cond b value old) rest ≡ last_value old (cond b (value ∷ rest) rest)
taken_off true value old rest = refl
taken_off false value old rest = refl

module _ {K V : Type 0} {cmp : K → K → Ordering} (total : IsTotalOrder cmp) where
  pub get-applied : (old : FinMap cmp V) (change : Change K V) (key : K)
      → get (applied old change) key ≡ cond (eq_by_cmp cmp key (key_of change)) (value_of change) (get old key)
  get-applied old (Reach own value) key = get-insert total old own value key
  get-applied old (Unreach own) key = get-remove total old own key

  pub get-applied_all : (old : FinMap cmp V) (list : List (Change K V)) (key : K)
      → get (applied_all old list) key ≡ last_value (get old key) (values_at cmp key list)
  get-applied_all old [] key = refl
  get-applied_all old (change ∷ rest) key =
      get-applied_all (applied old change) rest key
      ∙ ap (λ value. last_value value (values_at cmp key rest)) (get-applied old change key)
      ∙ taken_off (eq_by_cmp cmp key (key_of change)) (value_of change) (get old key) (values_at cmp key rest)

  module _ (exact : IsAntisymmetric cmp) where
    thereafter : (old : FinMap cmp V) (change : Change K V) → IsBehind old change (applied old change)
    thereafter old change = record {
      own = get-applied old change (key_of change) ∙ ap (λ b. cond b (value_of change) (get old (key_of change))) (own_key total (key_of change));
      others = λ key apart. get-applied old change key ∙ ap (λ b. cond b (value_of change) (get old key)) (other_key exact key (key_of change) apart);
    }

    after_at : (old new : FinMap cmp V) (change : Change K V) → IsBehind old change new → (key : K) (b : Bool)
        → eq_by_cmp cmp key (key_of change) ≡ b → get new key ≡ cond b (value_of change) (get old key)
    after_at old new change h key true e = ap (get new) (one_key exact key (key_of change) e) ∙ h.own
    after_at old new change h key false e =
        h.others key (λ same. (let tied = ap (λ own. eq_by_cmp cmp own (key_of change)) same ∙ own_key total (key_of change) in absurd cc))

    pub after_is : (old new : FinMap cmp V) (change : Change K V) → IsBehind old change new ↔ (new ≡ applied old change)
    after_is old new change = (
      λ h. same_map total exact new (applied old change)
          (λ key. after_at old new change h key (eq_by_cmp cmp key (key_of change)) refl ∙ sym (get-applied old change key)),
      λ e. subst (IsBehind old change) (sym e) (thereafter old change),
    )

-- Pending changes lead from one table to another.
use Rattle.std.proofs.Common.{◌≡◌, ◌≢◌, Bool, true, false, cond, List, [], ◌∷◌, ◌++◌, Option, Some, None, refl, sym, ap, subst, ◌∙◌}
use Rattle.std.specs.declared.cmp.Ordering.{Ordering}
use Rattle.std.specs.Ordering.{eq_by_cmp}
use Rattle.std.specs.Cmp.{IsTotalOrder}
use Rattle.std.specs.FinMap.{FinMap, IsAntisymmetric, get, same_map}
use Rattle.mv_base.specs.declared.table_defs.change.Change.{Change}
use Rattle.mv_base.specs.table_defs.Changes.{key_of, value_of, applied, applied_all, changes, values_at, difference, last_value, Leads, LeadsTo}
use Rattle.table_laws.specs.Words.{IsExact}
use Rattle.table_laws.proofs.CompareLemmas.{own_key}
use Rattle.table_laws.proofs.TableLemmas.{get-applied, get-applied_all}
use Rattle.table_laws.proofs.KeyLemmas.{values_at-append, values_at-changes}

module _ {V : Type 0} where
  pub leads_on : (from middle to : Option V) (front thereafter : List (Option V)) → Leads from front middle → Leads middle thereafter to
      → Leads from (front ++ thereafter) to
  leads_on from middle to [] thereafter h i = subst (λ value. Leads value thereafter to) (sym h) i
  leads_on from middle to (value ∷ front) thereafter h i = (h.0, leads_on value middle to front thereafter h.1 i)

  leads_last : (from to : Option V) (values : List (Option V)) → Leads from values to → last_value from values ≡ to
  leads_last from to [] h = h
  leads_last from to (value ∷ values) h = leads_last value to values h.1

  leads_changing : (from to value : Option V) (front thereafter : List (Option V)) → Leads from (front ++ value ∷ thereafter) to
      → last_value from front ≢ value
  leads_changing from to value [] thereafter h = h.0
  leads_changing from to value (next ∷ front) thereafter h = leads_changing next to value front thereafter h.1

  leads_taken : (b : Bool) (from to value : Option V) (rest : List (Option V)) → Leads from (cond b (value ∷ rest) rest) to
      → Leads (cond b value from) rest to
  leads_taken true from to value rest h = h.1
  leads_taken false from to value rest h = h

  other_value : (same : V → V → Bool) → IsExact same → (value next : V) → same value next ≡ false → Some value ≢ Some next
  other_value same is value next e i = (let own : value ≡ next = cc in let j = (is value next).1 own in absurd cc)

  -- the difference of two values leads from the one to the other
  pub difference_leads : (same : V → V → Bool) → IsExact same → (old new : Option V) → Leads old (difference same old new) new
  difference_leads same is None None = refl
  difference_leads same is (Some value) None = (λ e. absurd cc, refl)
  difference_leads same is None (Some next) = (λ e. absurd cc, refl)
  difference_leads same is (Some value) (Some next) =
      elim (same value next) as (λ b. same value next ≡ b → Leads (Some value) (cond b [] (Some next ∷ [])) (Some next)) [
        | true ↦ λ e. ap (λ v. Some v) ((is value next).0 e)
        | false ↦ λ e. (other_value same is value next e, refl)
      ] refl

module _ {K V : Type 0} {cmp : K → K → Ordering} (total : IsTotalOrder cmp) where
  pub changes_lead : (same : V → V → Bool) → IsExact same → (old new : FinMap cmp V) → LeadsTo old (changes same old new) new
  changes_lead same is old new key =
      subst (λ values. Leads (get old key) values (get new key)) (sym (values_at-changes total same old new key))
      (difference_leads same is (get old key) (get new key))

  pub sent_leads : (same : V → V → Bool) → IsExact same → (taken old new : FinMap cmp V) (pending : List (Change K V)) → LeadsTo taken pending old
      → LeadsTo taken (pending ++ changes same old new) new
  sent_leads same is taken old new pending h key =
      subst (λ values. Leads (get taken key) values (get new key)) (sym (values_at-append cmp key pending (changes same old new)))
      (leads_on (get taken key) (get old key) (get new key) (values_at cmp key pending) (values_at cmp key (changes same old new)) (h key)
      (changes_lead same is old new key))

  pub taken_leads : (taken out : FinMap cmp V) (change : Change K V) (pending : List (Change K V)) → LeadsTo taken (change ∷ pending) out
      → LeadsTo (applied taken change) pending out
  taken_leads taken out change pending h key =
      subst (λ value. Leads value (values_at cmp key pending) (get out key)) (sym (get-applied total taken change key))
      (leads_taken (eq_by_cmp cmp key (key_of change)) (get taken key) (get out key) (value_of change) (values_at cmp key pending) (h key))

  own_after : (change : Change K V) (front thereafter : List (Change K V))
      → values_at cmp (key_of change) (front ++ change ∷ thereafter) ≡ values_at cmp (key_of change) front ++ value_of change
      ∷ values_at cmp (key_of change) thereafter
  own_after change front thereafter =
      values_at-append cmp (key_of change) front (change ∷ thereafter)
      ∙ ap (λ b. values_at cmp (key_of change) front
      ++ cond b (value_of change ∷ values_at cmp (key_of change) thereafter) (values_at cmp (key_of change) thereafter)) (own_key total (key_of change))

  pub each_changing : (taken out : FinMap cmp V) (before thereafter : List (Change K V)) (change : Change K V)
      → LeadsTo taken (before ++ change ∷ thereafter) out → get (applied_all taken before) (key_of change) ≢ value_of change
  each_changing taken out before thereafter change h e =
      leads_changing (get taken (key_of change)) (get out (key_of change)) (value_of change) (values_at cmp (key_of change) before)
      (values_at cmp (key_of change) thereafter)
      (subst (λ values. Leads (get taken (key_of change)) values (get out (key_of change))) (own_after change before thereafter) (h (key_of change)))
      (sym (get-applied_all total taken before (key_of change)) ∙ e)

  pub changes_changing : (same : V → V → Bool) → IsExact same → (old new : FinMap cmp V) (before thereafter : List (Change K V)) (change : Change K V)
      → changes same old new ≡ before ++ change ∷ thereafter → get (applied_all old before) (key_of change) ≢ value_of change
  changes_changing same is old new before thereafter change e =
      each_changing old new before thereafter change (subst (λ list. LeadsTo old list new) e (changes_lead same is old new))

  module _ (exact : IsAntisymmetric cmp) where
    pub none_pending : (taken out : FinMap cmp V) → LeadsTo taken [] out → taken ≡ out
    none_pending taken out h = same_map total exact taken out h

    pub all_taken : (taken out : FinMap cmp V) (pending : List (Change K V)) → LeadsTo taken pending out → applied_all taken pending ≡ out
    all_taken taken out pending h = same_map total exact (applied_all taken pending) out (λ key.
        get-applied_all total taken pending key ∙ leads_last (get taken key) (get out key) (values_at cmp key pending) (h key))

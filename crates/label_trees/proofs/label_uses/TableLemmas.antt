-- Tables whose value at one key changes.
use Rattle.std.proofs.Common.{inl, inr, ◌⊎◌, ◌≡◌, ℕ, Bool, true, false, cond, nat_eq, Option, Some, None, refl, sym, ap, subst, ◌∙◌}
use Rattle.std.specs.Ordering.{eq_by_cmp}
use Rattle.std.specs.Cmp.{Equal-is}
use Rattle.std.specs.FinMap as maps
use Rattle.std.specs.FinMap.{FinMap}
use Rattle.std.proofs.lemmas.Bool.{cases_Bool, eq-eqb, ne_eqb}
use Rattle.mldp.specs.declared.mldp_fec.fec.Fec.{Fec}
use Rattle.tunnel_bindings.specs.declared.name.BindingName.{BindingName}
use Rattle.tunnel_bindings.specs.declared.any_binding.AnyBinding.{AnyBinding}
use Rattle.tunnel_bindings.specs.declared.state.LabelState.{LabelState}
use Rattle.tunnel_bindings.specs.Bindings.{name_cmp}
use Rattle.tunnel_bindings.specs.Labels.{Space, state_of, set_label}
use Rattle.tunnel_bindings.proofs.LabelLemmas.{set-label, set-others}
use Rattle.tunnel_bindings.proofs.PlaceLemmas.{name_cmp_total, name_cmp_exact, tied, untied}
use Rattle.mldp.proofs.mldp_fec.SameLemmas.{fec_equal, fec_itself}
use Rattle.label_trees.specs.declared.label_uses.held.Held.{Held}
use Rattle.label_trees.specs.label_uses.Held.{is_fec}

-- the value at one key becomes this one, and every other stays
pub record Sets {A B : Type 0} (old new : A → Option B) (at : A) (value : Option B) : Type 0 where
  pub here : new at ≡ value
  pub others : (other : A) → (other ≡ at → ⊥) → new other ≡ old other

pub one_fec : (a b : Fec) → (a ≡ b) ⊎ (a ≡ b → ⊥)
one_fec a b = elim (cases_Bool (is_fec a b)) [
  | inl e ↦ inl (fec_equal a b e)
  | inr e ↦ inr (λ same. (let t : is_fec a b ≡ true = subst (λ (x : Fec). is_fec a x ≡ true) same (fec_itself a) in absurd cc))
]

pub one_name : (a b : BindingName) → (a ≡ b) ⊎ (a ≡ b → ⊥)
one_name a b = elim (cases_Bool (eq_by_cmp name_cmp a b)) [
  | inl e ↦ inl (name_cmp_exact a b ((Equal-is (name_cmp a b)).0 e))
  | inr e ↦ inr (λ same. (let t = tied a b same in absurd cc))
]

apart_fec : (a b : Fec) → (b ≡ a → ⊥) → is_fec a b ≡ false
apart_fec a b ne = elim (cases_Bool (is_fec a b)) [
  | inl e ↦ absurd (ne (sym (fec_equal a b e)))
  | inr e ↦ e
]

pub sets_at : {B : Type 0} (old new : ℕ → Option B) (at : ℕ) (value : Option B) → ((other : ℕ) → new other ≡ cond (nat_eq at other) value (old other))
    → Sets old new at value
sets_at old new at value each = record {
  here = each at ∙ ap (λ (b : Bool). cond b value (old at)) (eq-eqb at at refl);
  others = λ other ne. each other ∙ ap (λ (b : Bool). cond b value (old other)) (ne_eqb at other (λ e. ne (sym e)));
}

pub sets_label : (old new : ℕ → Option Held) (at : ℕ) (value : Option Held) → ((other : ℕ) → new other ≡ cond (nat_eq at other) value (old other))
    → Sets old new at value
sets_label old new at value each = sets_at old new at value each

pub sets_tree : {B : Type 0} (old new : Fec → Option B) (at : Fec) (value : Option B)
    → ((other : Fec) → new other ≡ cond (is_fec at other) value (old other)) → Sets old new at value
sets_tree old new at value each = record {
  here = each at ∙ ap (λ (b : Bool). cond b value (old at)) (fec_itself at);
  others = λ other ne. each other ∙ ap (λ (b : Bool). cond b value (old other)) (apart_fec at other ne);
}

pub sets_fec : (old new : Fec → Option ℕ) (at : Fec) (value : Option ℕ) → ((other : Fec) → new other ≡ cond (is_fec at other) value (old other))
    → Sets old new at value
sets_fec old new at value each = sets_tree old new at value each

pub name_kept : (old : FinMap name_cmp AnyBinding) (name : BindingName) (b : AnyBinding)
    → Sets (maps.get old) (maps.get (maps.insert old name b)) name (Some b)
name_kept old name b = record {
  here = maps.get-insert name_cmp_total old name b name ∙ ap (λ (t : Bool). cond t (Some b) (maps.get old name)) (tied name name refl);
  others = λ other ne. maps.get-insert name_cmp_total old name b other
      ∙ ap (λ (t : Bool). cond t (Some b) (maps.get old other)) (untied other name ne);
}

pub name_gone : (old : FinMap name_cmp AnyBinding) (name : BindingName) → Sets (maps.get old) (maps.get (maps.remove old name)) name None
name_gone old name = record {
  here = maps.get-remove name_cmp_total old name name ∙ ap (λ (t : Bool). cond t None (maps.get old name)) (tied name name refl);
  others = λ other ne. maps.get-remove name_cmp_total old name other ∙ ap (λ (t : Bool). cond t None (maps.get old other)) (untied other name ne);
}

pub state_set : (space : Space) (label : ℕ) (old new : LabelState) → state_of space label ≡ Some old
    → Sets (state_of space) (state_of (set_label space label new)) label (Some new)
state_set space label old new at = record {
  here = set-label space label old new at;
  others = λ other ne. set-others space label other old new at ne;
}

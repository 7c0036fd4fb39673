-- What is kept of held labels, after a label that comes to be held, one that is held no longer, and a session.
use Rattle.std.proofs.Common.{inl, inr, ◌⊎◌, ◌≡◌, ℕ, Bool, true, false, cond, Option, Some, None, is_some, refl, sym, ap, ◌∙◌}
use Rattle.std.proofs.lemmas.Bool.{cases_eq}
use Rattle.std.proofs.lemmas.Option.{same_Some}
use Rattle.mv_base.specs.declared.ids.NodeId.{NodeId}
use Rattle.mldp.specs.declared.mldp_fec.fec.Fec.{Fec}
use Rattle.tunnel_bindings.specs.declared.binding.Incarnation.{Incarnation}
use Rattle.tunnel_bindings.specs.declared.name.BindingName.{BindingName}
use Rattle.tunnel_bindings.specs.declared.any_binding.AnyBinding.{AnyBinding}
use Rattle.tunnel_bindings.specs.declared.any_binding.AnyBinding.TheVariants as bindings
use Rattle.tunnel_bindings.specs.declared.state.LabelState.{LabelState}
use Rattle.tunnel_bindings.specs.declared.state.LabelState.TheVariants as states
use Rattle.tunnel_bindings.specs.States.{label_of}
use Rattle.label_trees.specs.declared.label_uses.held.Held.{Held}
use Rattle.label_trees.specs.declared.label_uses.table.Waiting.{Waiting}
use Rattle.label_trees.specs.label_uses.Held.{binding_of, waiting_binding, IsBound, IsNamed, IsAwaited, IsMapping, HoldsOwned}
use Rattle.label_trees.proofs.label_uses.TableLemmas.{Sets, one_fec, one_name}

pub States : Type 0
States = ℕ → Option LabelState

-- the value that is there
pub there : {A : Type 0} (o : Option A) → is_some o ≡ true → (x : A) × (o ≡ Some x)
there (Some x) e = (x, refl)
there None e = absurd cc

pub same_own : {A : Type 0} (o : Option A) (x y : A) → o ≡ Some x → o ≡ Some y → x ≡ y
same_own o x y e f = cc

pub not_none : {A : Type 0} (o : Option A) (x : A) → o ≡ Some x → o ≡ None → ⊥
not_none o x e f = absurd cc

-- what the trees lead to, once this label is held too
pub record Leads (old new : Fec → Option ℕ) (label : ℕ) (own : Held) : Type 0 where
  pub more : (fec : Fec) (other : ℕ) → new fec ≡ Some other → (old fec ≡ Some other) ⊎ ((other ≡ label) × (fec ≡ own.fec) × (own.leaving ≡ false))
  pub still : (fec : Fec) (other : ℕ) → old fec ≡ Some other → new fec ≡ Some other
  pub mine : own.leaving ≡ false → new own.fec ≡ Some label

-- a label comes to be held
pub holds_more : (st st' : ℕ → Option LabelState) (f f' : ℕ → Option Held) (k k' : BindingName → Option AnyBinding) (s : NodeId → Option Incarnation)
    (g g' : Fec → Option ℕ) (w : Fec → Option Waiting) (label : ℕ) (own : Held) (raise : Incarnation)
    → HoldsOwned st f k s g w → f label ≡ None → k own.name ≡ None → s own.upstream ≡ Some raise
    → Sets st st' label (Some states.Owned) → Sets f f' label (Some own) → Sets k k' own.name (Some (binding_of label own raise))
    → Leads g g' label own → HoldsOwned st' f' k' s g' w
holds_more st st' f f' k k' s g g' w label own raise old none fresh up sets held kept leads = record {
  owned = λ q o e. elim (cases_eq q label) [
    | inl is ↦ ap st' is ∙ sets.here
    | inr ne ↦ sets.others q ne ∙ old.owned q o (sym (held.others q ne) ∙ e)
  ];
  all = λ q e. elim (cases_eq q label) [
    | inl is ↦ ap (λ (l : ℕ). is_some (f' l)) is ∙ ap is_some held.here
    | inr ne ↦ ap is_some (held.others q ne) ∙ old.all q (sym (sets.others q ne) ∙ e)
  ];
  bound = λ q o e. elim (cases_eq q label) [
    | inl is ↦ mine q o is (same_own (f' label) o own (ap f' (sym is) ∙ e) held.here)
    | inr ne ↦ theirs q o (old.bound q o (sym (held.others q ne) ∙ e))
  ];
  named = λ name e. elim (one_name name own.name) [
    | inl is ↦ inl (record { label = label; own = own; at = held.here; is = sym is })
    | inr ne ↦ either name (old.named name (sym (ap is_some (kept.others name ne)) ∙ e))
  ];
  found = λ q o e m. elim (cases_eq q label) [
    | inl is ↦ (let same : o ≡ own = same_own (f' label) o own (ap f' (sym is) ∙ e) held.here in
        ap (λ (x : Held). g' x.fec) same ∙ (leads.mine (ap (λ (x : Held). x.leaving) (sym same) ∙ m) ∙ ap (λ (l : ℕ). Some l) (sym is)))
    | inr ne ↦ leads.still o.fec q (old.found q o (sym (held.others q ne) ∙ e) m)
  ];
  listed = λ fec q e. elim (leads.more fec q e) [
    | inl was ↦ listed_still fec q (old.listed fec q was)
    | inr is ↦ record { own = own; at = ap f' is.0 ∙ held.here; mapped = is.2; is = sym is.1 }
  ];
  waits = λ fec o e. kept.others o.name (λ same. not_none (k o.name) (waiting_binding fec o) (old.waits fec o e) (ap k same ∙ fresh))
      ∙ old.waits fec o e;
}
  where
    mine : (q : ℕ) (o : Held) → q ≡ label → o ≡ own → IsBound k' s q o
    mine q o at is = record {
      raise = raise;
      present = ap (λ (x : Held). s x.upstream) is ∙ up;
      is = ap (λ (x : Held). k' x.name) is ∙ (kept.here ∙ sym (λ i. Some (binding_of (at i) (is i) raise)));
    }

    theirs : (q : ℕ) (o : Held) → IsBound k s q o → IsBound k' s q o
    theirs q o b = record {
      raise = b.raise;
      present = b.present;
      is = kept.others o.name (λ e. not_none (k o.name) (binding_of q o b.raise) b.is (ap k e ∙ fresh)) ∙ b.is;
    }

    under : (name : BindingName) → IsNamed f name → IsNamed f' name
    under name n = record {
      label = n.label;
      own = n.own;
      at = held.others n.label (λ e. not_none (f n.label) n.own n.at (ap f e ∙ none)) ∙ n.at;
      is = n.is;
    }

    either : (name : BindingName) → IsNamed f name ⊎ IsAwaited w name → IsNamed f' name ⊎ IsAwaited w name
    either name (inl n) = inl (under name n)
    either name (inr a) = inr a

    listed_still : (fec : Fec) (q : ℕ) → IsMapping f q fec → IsMapping f' q fec
    listed_still fec q m = record {
      own = m.own;
      at = held.others q (λ e. not_none (f q) m.own m.at (ap f e ∙ none)) ∙ m.at;
      mapped = m.mapped;
      is = m.is;
    }

-- what the trees lead to, once this label is held no longer
pub record Leaves (old new : Fec → Option ℕ) (label : ℕ) : Type 0 where
  pub fewer : (fec : Fec) (other : ℕ) → new fec ≡ Some other → (old fec ≡ Some other) × (other ≡ label → ⊥)
  pub still : (fec : Fec) (other : ℕ) → old fec ≡ Some other → (other ≡ label → ⊥) → new fec ≡ Some other

-- two labels do not have one name
pub apart : (label : ℕ) (own : Held) (raise : Incarnation) (other : ℕ) (held : Held) (again : Incarnation)
    → binding_of label own raise ≡ binding_of other held again → label ≡ other
apart label own raise other held again e = by own.leaving held.leaving e
  where
    by : (b c : Bool) → cond b (bindings.Leaving
        (record { fec = own.fec; upstream = own.upstream; state = record { label = label; session = raise } }))
        (bindings.Mapped (record { fec = own.fec; upstream = own.upstream; state = record { label = label; session = raise } }))
        ≡ cond c (bindings.Leaving (record { fec = held.fec; upstream = held.upstream; state = record { label = other; session = again } }))
        (bindings.Mapped (record { fec = held.fec; upstream = held.upstream; state = record { label = other; session = again } })) → label ≡ other
    by true true e = same_Some label other (ap label_of e)
    by false false e = same_Some label other (ap label_of e)
    by true false e = absurd cc
    by false true e = absurd cc

-- a binding with a label is not one that waits
pub not_waiting : (label : ℕ) (own : Held) (raise : Incarnation) (fec : Fec) (other : Waiting)
    → binding_of label own raise ≡ waiting_binding fec other → ⊥
not_waiting label own raise fec other e = by own.leaving e
  where
    by : (b : Bool) → cond b (bindings.Leaving (record { fec = own.fec; upstream = own.upstream; state = record { label = label; session = raise } }))
        (bindings.Mapped (record { fec = own.fec; upstream = own.upstream; state = record { label = label; session = raise } }))
        ≡ bindings.Wanted (record { fec = fec; upstream = other.upstream; state = record {} }) → ⊥
    by true e = absurd cc
    by false e = absurd cc

pub names_apart : (st : ℕ → Option LabelState) (f : ℕ → Option Held) (k : BindingName → Option AnyBinding) (s : NodeId → Option Incarnation)
    (g : Fec → Option ℕ) (w : Fec → Option Waiting) → HoldsOwned st f k s g w
    → (label other : ℕ) (own held : Held) → f label ≡ Some own → f other ≡ Some held → own.name ≡ held.name → label ≡ other
names_apart st f k s g w holds label other own held e h same =
    let a = holds.bound label own e in
    let b = holds.bound other held h in
    apart label own a.raise other held b.raise (same_own (k own.name) (binding_of label own a.raise) (binding_of other held b.raise) a.is
    (ap k same ∙ b.is))

-- a label is held no longer
pub holds_less : (st st' : ℕ → Option LabelState) (f f' : ℕ → Option Held) (k k' : BindingName → Option AnyBinding) (s : NodeId → Option Incarnation)
    (g g' : Fec → Option ℕ) (w : Fec → Option Waiting) (label : ℕ) (own : Held) (value : Option LabelState)
    → HoldsOwned st f k s g w → f label ≡ Some own → (value ≡ Some states.Owned → ⊥)
    → Sets st st' label value → Sets f f' label None → Sets k k' own.name None → Leaves g g' label → HoldsOwned st' f' k' s g' w
holds_less st st' f f' k k' s g g' w label own value old at free sets held kept leaves = record {
  owned = λ q o e. sets.others q (not_it q o e) ∙ old.owned q o (was q o e);
  all = λ q e. elim (cases_eq q label) [
    | inl is ↦ absurd (free (sym sets.here ∙ (ap st' (sym is) ∙ e)))
    | inr ne ↦ ap is_some (held.others q ne) ∙ old.all q (sym (sets.others q ne) ∙ e)
  ];
  bound = λ q o e. theirs q o (not_it q o e) (was q o e) (old.bound q o (was q o e));
  named = λ name e. elim (one_name name own.name) [
    | inl is ↦ (let x = there (k' name) e in absurd (not_none (k' name) x.0 x.1 (ap k' is ∙ kept.here)))
    | inr ne ↦ either name ne (old.named name (sym (ap is_some (kept.others name ne)) ∙ e))
  ];
  found = λ q o e m. leaves.still o.fec q (old.found q o (was q o e) m) (not_it q o e);
  listed = λ fec q e. (let x = leaves.fewer fec q e in listed_still fec q x.1 (old.listed fec q x.0));
  waits = λ fec o e. kept.others o.name (λ same.
      (let b = old.bound label own at in
      not_waiting label own b.raise fec o (same_own (k own.name) (binding_of label own b.raise) (waiting_binding fec o) b.is
      (ap k (sym same) ∙ old.waits fec o e)))) ∙ old.waits fec o e;
}
  where
    not_it : (q : ℕ) (o : Held) → f' q ≡ Some o → q ≡ label → ⊥
    not_it q o e is = not_none (f' q) o e (ap f' is ∙ held.here)

    was : (q : ℕ) (o : Held) → f' q ≡ Some o → f q ≡ Some o
    was q o e = sym (held.others q (not_it q o e)) ∙ e

    theirs : (q : ℕ) (o : Held) → (q ≡ label → ⊥) → f q ≡ Some o → IsBound k s q o → IsBound k' s q o
    theirs q o ne e b = record {
      raise = b.raise;
      present = b.present;
      is = kept.others o.name (λ same. ne (names_apart st f k s g w old q label o own e at same)) ∙ b.is;
    }

    under : (name : BindingName) → (name ≡ own.name → ⊥) → IsNamed f name → IsNamed f' name
    under name ne n = record {
      label = n.label;
      own = n.own;
      at = held.others n.label (λ e. ne (sym n.is ∙ ap (λ (x : Held). x.name) (same_own (f label) n.own own (ap f (sym e) ∙ n.at) at))) ∙ n.at;
      is = n.is;
    }

    either : (name : BindingName) → (name ≡ own.name → ⊥) → IsNamed f name ⊎ IsAwaited w name → IsNamed f' name ⊎ IsAwaited w name
    either name ne (inl n) = inl (under name ne n)
    either name ne (inr a) = inr a

    listed_still : (fec : Fec) (q : ℕ) → (q ≡ label → ⊥) → IsMapping f q fec → IsMapping f' q fec
    listed_still fec q ne m = record { own = m.own; at = held.others q ne ∙ m.at; mapped = m.mapped; is = m.is }

-- states that change and leave the owned ones
pub holds_states : (st st' : ℕ → Option LabelState) (f : ℕ → Option Held) (k : BindingName → Option AnyBinding) (s : NodeId → Option Incarnation)
    (g : Fec → Option ℕ) (w : Fec → Option Waiting)
    → HoldsOwned st f k s g w → ((q : ℕ) → st q ≡ Some states.Owned → st' q ≡ Some states.Owned)
    → ((q : ℕ) → st' q ≡ Some states.Owned → st q ≡ Some states.Owned) → HoldsOwned st' f k s g w
holds_states st st' f k s g w old to from = record {
  owned = λ q o e. to q (old.owned q o e);
  all = λ q e. old.all q (from q e);
  bound = old.bound;
  named = old.named;
  found = old.found;
  listed = old.listed;
  waits = old.waits;
}

-- sessions that change, but none of a held label
pub holds_sessions : (st : ℕ → Option LabelState) (f : ℕ → Option Held) (k : BindingName → Option AnyBinding) (s s' : NodeId → Option Incarnation)
    (g : Fec → Option ℕ) (w : Fec → Option Waiting)
    → HoldsOwned st f k s g w → ((q : ℕ) (o : Held) (raise : Incarnation) → f q ≡ Some o → s o.upstream ≡ Some raise → s' o.upstream ≡ Some raise)
    → HoldsOwned st f k s' g w
holds_sessions st f k s s' g w old same = record {
  owned = old.owned;
  all = old.all;
  bound = λ q o e. (let b = old.bound q o e in record { raise = b.raise; present = same q o b.raise e b.present; is = b.is });
  named = old.named;
  found = old.found;
  listed = old.listed;
  waits = old.waits;
}

-- ---- trees that wait

abbrev pub tree_of : AnyBinding → Option Fec
tree_of (bindings.Wanted b) = Some b.fec
tree_of other = None

-- a tree waits no longer
pub holds_unwait : (st : ℕ → Option LabelState) (f : ℕ → Option Held) (k k' : BindingName → Option AnyBinding) (s : NodeId → Option Incarnation)
    (g : Fec → Option ℕ) (w w' : Fec → Option Waiting) (fec : Fec) (own : Waiting)
    → HoldsOwned st f k s g w → w fec ≡ Some own → Sets k k' own.name None → Sets w w' fec None → HoldsOwned st f k' s g w'
holds_unwait st f k k' s g w w' fec own old at kept gone = record {
  owned = old.owned;
  all = old.all;
  bound = λ q o e. (let b = old.bound q o e in record {
    raise = b.raise;
    present = b.present;
    is = kept.others o.name (λ same. not_waiting q o b.raise fec own
        (same_own (k o.name) (binding_of q o b.raise) (waiting_binding fec own) b.is (ap k same ∙ old.waits fec own at))) ∙ b.is;
  });
  named = λ name e. elim (one_name name own.name) [
    | inl is ↦ (let x = there (k' name) e in absurd (not_none (k' name) x.0 x.1 (ap k' is ∙ kept.here)))
    | inr ne ↦ either name ne (old.named name (sym (ap is_some (kept.others name ne)) ∙ e))
  ];
  found = old.found;
  listed = old.listed;
  waits = λ other o e. kept.others o.name (λ same. not_none (w' other) o e (ap w' (one other o (was other o e) same) ∙ gone.here))
      ∙ old.waits other o (was other o e);
}
  where
    was : (other : Fec) (o : Waiting) → w' other ≡ Some o → w other ≡ Some o
    was other o e = sym (gone.others other (λ is. not_none (w' other) o e (ap w' is ∙ gone.here))) ∙ e

    one : (other : Fec) (o : Waiting) → w other ≡ Some o → o.name ≡ own.name → other ≡ fec
    one other o e same =
        same_Some other fec (ap tree_of (same_own (k o.name) (waiting_binding other o) (waiting_binding fec own) (old.waits other o e)
        (ap k same ∙ old.waits fec own at)))

    either : (name : BindingName) → (name ≡ own.name → ⊥) → IsNamed f name ⊎ IsAwaited w name → IsNamed f name ⊎ IsAwaited w' name
    either name ne (inl n) = inl n
    either name ne (inr a) = inr (record {
      fec = a.fec;
      own = a.own;
      at = gone.others a.fec (λ is. ne (sym a.is ∙ ap (λ (x : Waiting). x.name) (same_own (w fec) a.own own (ap w (sym is) ∙ a.at) at))) ∙ a.at;
      is = a.is;
    })

-- a tree comes to wait
pub holds_wait : (st : ℕ → Option LabelState) (f : ℕ → Option Held) (k k' : BindingName → Option AnyBinding) (s : NodeId → Option Incarnation)
    (g : Fec → Option ℕ) (w w' : Fec → Option Waiting) (fec : Fec) (own : Waiting)
    → HoldsOwned st f k s g w → w fec ≡ None → k own.name ≡ None → Sets k k' own.name (Some (waiting_binding fec own)) → Sets w w' fec (Some own)
    → HoldsOwned st f k' s g w'
holds_wait st f k k' s g w w' fec own old none fresh kept comes = record {
  owned = old.owned;
  all = old.all;
  bound = λ q o e. (let b = old.bound q o e in record {
    raise = b.raise;
    present = b.present;
    is = kept.others o.name (λ same. not_none (k o.name) (binding_of q o b.raise) b.is (ap k same ∙ fresh)) ∙ b.is;
  });
  named = λ name e. elim (one_name name own.name) [
    | inl is ↦ inr (record { fec = fec; own = own; at = comes.here; is = sym is })
    | inr ne ↦ either name (old.named name (sym (ap is_some (kept.others name ne)) ∙ e))
  ];
  found = old.found;
  listed = old.listed;
  waits = λ other o e. elim (one_fec other fec) [
    | inl is ↦ mine other o is (same_own (w' fec) o own (ap w' (sym is) ∙ e) comes.here)
    | inr ne ↦ kept.others o.name (λ same. not_none (k o.name) (waiting_binding other o) (old.waits other o (sym (comes.others other ne) ∙ e))
        (ap k same ∙ fresh)) ∙ old.waits other o (sym (comes.others other ne) ∙ e)
  ];
}
  where
    mine : (other : Fec) (o : Waiting) → other ≡ fec → o ≡ own → k' o.name ≡ Some (waiting_binding other o)
    mine other o tree is = ap (λ (x : Waiting). k' x.name) is ∙ (kept.here ∙ sym (λ i. Some (waiting_binding (tree i) (is i))))

    either : (name : BindingName) → IsNamed f name ⊎ IsAwaited w name → IsNamed f name ⊎ IsAwaited w' name
    either name (inl n) = inl n
    either name (inr a) = inr (record {
      fec = a.fec;
      own = a.own;
      at = comes.others a.fec (λ is. not_none (w a.fec) a.own a.at (ap w is ∙ none)) ∙ a.at;
      is = a.is;
    })

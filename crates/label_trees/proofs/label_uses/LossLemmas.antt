-- The labels of a session that is lost, one after another and all at once.
use Rattle.std.proofs.Common.{inl, inr, ◌≡◌, ℕ, suc, ◌+◌, ◌-◌, ◌≤◌, ◌||◌, Bool, true, false, cond, nat_eq, List, [], ◌∷◌, map, slice_get, slice_set, Option, Some, None, option_map, refl, sym, ap, subst, ◌∙◌, arith}
use Rattle.std.specs.List.{list_any}
use Rattle.std.specs.Map.{lookup}
use Rattle.std.proofs.lemmas.Bool.{cases_eq, cases_lt, eq-eqb, ne_eqb}
use Rattle.std.proofs.lemmas.Option.{slice_get-map, slice_get_within, same_Some, none-some}
use Rattle.indexmap.specs.IndexMap.{get}
use Rattle.mv_base.specs.declared.ids.NodeId.{NodeId}
use Rattle.mldp.specs.declared.mldp_fec.fec.Fec.{Fec}
use Rattle.label_defs.specs.declared.label_use.LabelUse.{LabelUse}
use Rattle.label_defs.specs.declared.label_use.LabelUse.TheVariants as uses
use Rattle.label_defs.specs.Steps.{freed}
use Rattle.tunnel_bindings.specs.declared.binding.Incarnation.{Incarnation}
use Rattle.tunnel_bindings.specs.declared.name.BindingName.{BindingName}
use Rattle.tunnel_bindings.specs.declared.any_binding.AnyBinding.{AnyBinding}
use Rattle.tunnel_bindings.specs.Labels.{Space, state_of}
use Rattle.tunnel_bindings.proofs.NumbersLemmas.{get-set_same, get-set_other}
use Rattle.label_trees.specs.declared.label_uses.held.Held.{Held}
use Rattle.label_trees.specs.declared.label_uses.table.Waiting.{Waiting}
use Rattle.label_trees.specs.label_uses.Uses.{use_in, lost_at, lost_all}
use Rattle.label_trees.specs.label_uses.Held.{is_node, use_held, uses_from, labels_toward, HoldsOwned}
use Rattle.label_trees.proofs.label_uses.ListLemmas.{use_low, use_high, use_of_held}
use Rattle.label_trees.proofs.label_uses.StepLemmas.{HeldMap, freed_own, lost_use, Idle, idle, idle_freed}

same_lists : {X : Type 0} (xs ys : List X) → ((k : ℕ) → slice_get xs k ≡ slice_get ys k) → xs ≡ ys
same_lists [] [] h = refl
same_lists [] (y ∷ ys) h = absurd (none-some y (h 0))
same_lists (x ∷ xs) [] h = absurd (none-some x (sym (h 0)))
same_lists (x ∷ xs) (y ∷ ys) h = (let head = same_Some x y (h 0) in let rest = same_lists xs ys (λ k. h (suc k)) in λ i. head i ∷ rest i)

freed_twice : (peer : NodeId) (u : LabelUse) → freed peer (freed peer u) ≡ freed peer u
freed_twice peer uses.Free = refl
freed_twice peer (uses.Resting until) = refl
freed_twice peer (uses.Mapped fec up) = by (nat_eq up.0 peer.0) refl
  where
    by : (t : Bool) → nat_eq up.0 peer.0 ≡ t → freed peer (cond (nat_eq up.0 peer.0) uses.Free (uses.Mapped fec up))
        ≡ cond (nat_eq up.0 peer.0) uses.Free (uses.Mapped fec up)
    by true e =
        ap (λ (b : Bool). freed peer (cond b uses.Free (uses.Mapped fec up))) e ∙ sym (ap (λ (b : Bool). cond b uses.Free (uses.Mapped fec up)) e)
    by false e = ap (λ (b : Bool). freed peer (cond b uses.Free (uses.Mapped fec up))) e
freed_twice peer (uses.Leaving fec up) = by (nat_eq up.0 peer.0) refl
  where
    by : (t : Bool) → nat_eq up.0 peer.0 ≡ t → freed peer (cond (nat_eq up.0 peer.0) uses.Free (uses.Leaving fec up))
        ≡ cond (nat_eq up.0 peer.0) uses.Free (uses.Leaving fec up)
    by true e =
        ap (λ (b : Bool). freed peer (cond b uses.Free (uses.Leaving fec up))) e ∙ sym (ap (λ (b : Bool). cond b uses.Free (uses.Leaving fec up)) e)
    by false e = ap (λ (b : Bool). freed peer (cond b uses.Free (uses.Leaving fec up))) e

twice : (peer : NodeId) (o : Option LabelUse) → option_map (freed peer) (option_map (freed peer) o) ≡ option_map (freed peer) o
twice peer None = refl
twice peer (Some u) = ap (λ (x : LabelUse). Some x) (freed_twice peer u)

-- one label
lost_get : (peer : NodeId) (labels : List LabelUse) (l k : ℕ)
    → slice_get (lost_at peer labels l) k ≡ cond (nat_eq l (16 + k)) (option_map (freed peer) (slice_get labels k)) (slice_get labels k)
lost_get peer labels l k = elim (cases_eq l (16 + k)) [
  | inl e ↦ (let ge : 16 ≤ l = omega (arith, e) in let place : l - 16 ≡ k = omega (arith, e) in
      here place (use_in labels l) refl (sym (ap (slice_get labels) place) ∙ sym (use_high labels l ge))
      ∙ sym (ap (λ (b : Bool). cond b (option_map (freed peer) (slice_get labels k)) (slice_get labels k)) (eq-eqb l (16 + k) e)))
  | inr ne ↦ there ne (use_in labels l) refl ∙ sym
      (ap (λ (b : Bool). cond b (option_map (freed peer) (slice_get labels k)) (slice_get labels k)) (ne_eqb l (16 + k) ne))
]
  where
    here : l - 16 ≡ k → (o : Option LabelUse) → use_in labels l ≡ o → slice_get labels k ≡ use_in labels l
        → slice_get (lost_use peer labels l (use_in labels l)) k ≡ option_map (freed peer) (slice_get labels k)
    here place None e at =
        ap (λ (o : Option LabelUse). slice_get (lost_use peer labels l o) k) e ∙ (at ∙ e) ∙ sym (ap (option_map (freed peer)) (at ∙ e))
    here place (Some u) e at =
        let within = slice_get_within labels k u (at ∙ e) in
        ap (λ (o : Option LabelUse). slice_get (lost_use peer labels l o) k) e
        ∙ (ap (λ (p : ℕ). slice_get (slice_set labels p (freed peer u)) k) place
        ∙ (get-set_same labels k (freed peer u) within ∙ sym (ap (option_map (freed peer)) (at ∙ e))))

    there : (l ≡ 16 + k → ⊥) → (o : Option LabelUse) → use_in labels l ≡ o
        → slice_get (lost_use peer labels l (use_in labels l)) k ≡ slice_get labels k
    there ne None e = ap (λ (o : Option LabelUse). slice_get (lost_use peer labels l o) k) e
    there ne (Some u) e =
        ap (λ (o : Option LabelUse). slice_get (lost_use peer labels l o) k) e
        ∙ get-set_other labels (l - 16) k (freed peer u) (λ is. elim (cases_lt l 16) [
          | inl lt ↦ none-some u (sym (use_low labels l lt) ∙ e)
          | inr ge ↦ ne (omega (arith, is, ge))
        ])

-- all of them
lost_all_get : (peer : NodeId) (ls : List ℕ) (labels : List LabelUse) (k : ℕ)
    → slice_get (lost_all peer labels ls) k ≡ cond (list_any (λ l. nat_eq l (16 + k)) ls) (option_map (freed peer) (slice_get labels k))
    (slice_get labels k)
lost_all_get peer [] labels k = refl
lost_all_get peer (l ∷ ls) labels k =
    lost_all_get peer ls (lost_at peer labels l) k
    ∙ (ap (λ (o : Option LabelUse). cond (list_any (λ l. nat_eq l (16 + k)) ls) (option_map (freed peer) o) o) (lost_get peer labels l k)
    ∙ both (list_any (λ l. nat_eq l (16 + k)) ls) (nat_eq l (16 + k)) (slice_get labels k))
  where
    both : (a b : Bool) (o : Option LabelUse) → cond a (option_map (freed peer) (cond b (option_map (freed peer) o) o))
        (cond b (option_map (freed peer) o) o) ≡ cond (b || a) (option_map (freed peer) o) o
    both true true o = twice peer o
    both true false o = refl
    both false true o = refl
    both false false o = refl

-- each label that is held towards the neighbour is among those that are freed
toward_listed : (peer : NodeId) (es : List (ℕ × Held)) (label : ℕ) (own : Held) → lookup (nat_eq label) es ≡ Some own
    → is_node own.upstream peer ≡ true → list_any (λ l. nat_eq l label) (labels_toward peer es) ≡ true
toward_listed peer [] label own at to = absurd (none-some own at)
toward_listed peer (e ∷ es) label own at to =
    by (λ here. toward_listed peer es label own here to) (nat_eq label e.0) refl at (is_node e.1.upstream peer) refl
  where
    or_true : (b : Bool) → (b || true) ≡ true
    or_true true = refl
    or_true false = refl

    same_number : nat_eq label e.0 ≡ true → nat_eq e.0 label ≡ true
    same_number t = elim (cases_eq label e.0) [
      | inl is ↦ eq-eqb e.0 label (sym is)
      | inr ne ↦ absurd (let no = ne_eqb label e.0 ne in cc)
    ]

    by : (lookup (nat_eq label) es ≡ Some own → list_any (λ l. nat_eq l label) (labels_toward peer es) ≡ true)
        → (t : Bool) → nat_eq label e.0 ≡ t → cond (nat_eq label e.0) (Some e.1) (lookup (nat_eq label) es) ≡ Some own → (u : Bool)
        → is_node e.1.upstream peer ≡ u
        → list_any (λ l. nat_eq l label) (cond (is_node e.1.upstream peer) (e.0 ∷ labels_toward peer es) (labels_toward peer es)) ≡ true
    by thereafter true t at true u =
        ap (λ (b : Bool). list_any (λ l. nat_eq l label) (cond b (e.0 ∷ labels_toward peer es) (labels_toward peer es))) u
        ∙ ap (λ (b : Bool). b || list_any (λ l. nat_eq l label) (labels_toward peer es)) (same_number t)
    by thereafter true t at false u =
        let is : Some e.1 ≡ Some own = sym (ap (λ (b : Bool). cond b (Some e.1) (lookup (nat_eq label) es)) t) ∙ at in
        let same = same_Some e.1 own is in
        absurd (let no : false ≡ true = sym u ∙ (ap (λ (x : Held). is_node x.upstream peer) same ∙ to) in cc)
    by thereafter false t at true u = ap (λ (b : Bool). list_any (λ l. nat_eq l label) (cond b (e.0 ∷ labels_toward peer es) (labels_toward peer es))) u
        ∙ (ap (λ (b : Bool). nat_eq e.0 label || b) (thereafter (sym (ap (λ (b : Bool). cond b (Some e.1) (lookup (nat_eq label) es)) t) ∙ at))
        ∙ or_true (nat_eq e.0 label))
    by thereafter false t at false u = ap (λ (b : Bool). list_any (λ l. nat_eq l label) (cond b (e.0 ∷ labels_toward peer es) (labels_toward peer es))) u
        ∙ thereafter (sym (ap (λ (b : Bool). cond b (Some e.1) (lookup (nat_eq label) es)) t) ∙ at)

module _ (space : Space) (h : HeldMap) (k : BindingName → Option AnyBinding) (s : NodeId → Option Incarnation) (g : Fec → Option ℕ)
    (w : Fec → Option Waiting) (holds : HoldsOwned (state_of space) (get nat_eq h) k s g w) (peer : NodeId) where
  pub lost_is : lost_all peer (uses_from 16 (get nat_eq h) space.states) (labels_toward peer h.entries)
      ≡ map (freed peer) (uses_from 16 (get nat_eq h) space.states)
  lost_is =
      same_lists _ _ (λ p. lost_all_get peer (labels_toward peer h.entries) labels p
      ∙ (by p (list_any (λ l. nat_eq l (16 + p)) (labels_toward peer h.entries)) refl ∙ sym (slice_get-map (freed peer) labels p)))
    where
      labels : List LabelUse
      labels = uses_from 16 (get nat_eq h) space.states

      placed : (p : ℕ) → use_in labels (16 + p) ≡ slice_get labels p
      placed p =
          (let ge : 16 ≤ 16 + p = omega arith in let place : 16 + p - 16 ≡ p = omega arith in
          use_high labels (16 + p) ge ∙ ap (slice_get labels) place)

      held : (p : ℕ) (own : Held) → get nat_eq h (16 + p) ≡ Some own → (t : Bool) → is_node own.upstream peer ≡ t
          → list_any (λ l. nat_eq l (16 + p)) (labels_toward peer h.entries) ≡ false
          → slice_get labels p ≡ option_map (freed peer) (slice_get labels p)
      held p own at true to none = absurd (let no = toward_listed peer h.entries (16 + p) own at to in cc)
      held p own at false to none =
          let is : slice_get labels p ≡ Some (use_held own) = sym (placed p) ∙ use_of_held space (get nat_eq h) k s g w holds (16 + p) own at in
          is ∙ (ap (λ (u : LabelUse). Some u) (sym (freed_own peer own false to)) ∙ sym (ap (option_map (freed peer)) is))

      stays : (p : ℕ) (o : Option Held) → get nat_eq h (16 + p) ≡ o → list_any (λ l. nat_eq l (16 + p)) (labels_toward peer h.entries) ≡ false
          → slice_get labels p ≡ option_map (freed peer) (slice_get labels p)
      stays p None at none = sym (idle_freed peer (slice_get labels p) (subst Idle (placed p) (idle space (get nat_eq h) (16 + p) at)))
      stays p (Some own) at none = held p own at (is_node own.upstream peer) refl none

      by : (p : ℕ) (t : Bool) → list_any (λ l. nat_eq l (16 + p)) (labels_toward peer h.entries) ≡ t
          → cond (list_any (λ l. nat_eq l (16 + p)) (labels_toward peer h.entries)) (option_map (freed peer) (slice_get labels p))
          (slice_get labels p) ≡ option_map (freed peer) (slice_get labels p)
      by p true e = ap (λ (b : Bool). cond b (option_map (freed peer) (slice_get labels p)) (slice_get labels p)) e
      by p false e =
          ap (λ (b : Bool). cond b (option_map (freed peer) (slice_get labels p)) (slice_get labels p)) e ∙ stays p (get nat_eq h (16 + p)) refl e

-- no use is towards the neighbour after the loss
pub freed_away : (peer : NodeId) (u : LabelUse) (own : Held) → freed peer u ≡ use_held own → is_node own.upstream peer ≡ true → ⊥
freed_away peer u own e to =
    let gone : use_held own ≡ uses.Free = sym e ∙ (sym (freed_twice peer u) ∙ (ap (freed peer) e ∙ freed_own peer own true to)) in
    by own.leaving gone
  where
    by : (b : Bool) → cond b (uses.Leaving own.fec own.upstream) (uses.Mapped own.fec own.upstream) ≡ uses.Free → ⊥
    by true e = absurd cc
    by false e = absurd cc

use_in-map : (f : LabelUse → LabelUse) (labels : List LabelUse) (label : ℕ) → use_in (map f labels) label ≡ option_map f (use_in labels label)
use_in-map f labels label = elim (cases_lt label 16) [
  | inl lt ↦ use_low (map f labels) label lt ∙ sym (ap (option_map f) (use_low labels label lt))
  | inr ge ↦ use_high (map f labels) label ge ∙ (slice_get-map f labels (label - 16) ∙ sym (ap (option_map f) (use_high labels label ge)))
]

-- no label is held towards the neighbour after the loss
pub none_toward : (space : Space) (h : HeldMap) (k : BindingName → Option AnyBinding) (s : NodeId → Option Incarnation) (g : Fec → Option ℕ)
    (w : Fec → Option Waiting) → HoldsOwned (state_of space) (get nat_eq h) k s g w
    → (peer : NodeId) (old : List LabelUse) → uses_from 16 (get nat_eq h) space.states ≡ map (freed peer) old → (label : ℕ) (own : Held)
    → get nat_eq h label ≡ Some own → is_node own.upstream peer ≡ true → ⊥
none_toward space h k s g w holds peer old is label own at to =
    by (use_in old label) (sym (use_in-map (freed peer) old label)
    ∙ (ap (λ (ls : List LabelUse). use_in ls label) (sym is) ∙ use_of_held space (get nat_eq h) k s g w holds label own at))
  where
    by : (o : Option LabelUse) → option_map (freed peer) o ≡ Some (use_held own) → ⊥
    by None e = none-some (use_held own) e
    by (Some u) e = freed_away peer u own (same_Some (freed peer u) (use_held own) e) to

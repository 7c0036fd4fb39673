-- The uses of labels as a list, beside what is kept of them.
use Rattle.std.proofs.Common.{inl, inr, ◌≡◌, ℕ, zero, suc, ◌+◌, ◌-◌, ◌<◌, ◌≤◌, Bool, true, false, cond, nat_lt, List, [], ◌∷◌, slice_get, slice_set, Option, Some, None, option_map, is_some, refl, sym, ap, ◌∙◌, arith}
use Rattle.std.proofs.lemmas.Bool.{cases_lt, cond-true, cond-false, lt-ltb, le-ltb}
use Rattle.std.proofs.lemmas.Option.{none-some, same_Some}
use Rattle.mv_base.specs.declared.ids.NodeId.{NodeId}
use Rattle.mldp.specs.declared.mldp_fec.fec.Fec.{Fec}
use Rattle.label_defs.specs.declared.label_use.LabelUse.{LabelUse}
use Rattle.label_defs.specs.declared.label_use.LabelUse.TheVariants as uses
use Rattle.label_defs.specs.LabelData.{LabelData, fresh}
use Rattle.label_defs.proofs.UseLemmas.{mapped_none, mapped_some, free_none, free_some}
use Rattle.tunnel_bindings.specs.declared.binding.Incarnation.{Incarnation}
use Rattle.tunnel_bindings.specs.declared.name.BindingName.{BindingName}
use Rattle.tunnel_bindings.specs.declared.any_binding.AnyBinding.{AnyBinding}
use Rattle.tunnel_bindings.specs.declared.state.LabelState.{LabelState}
use Rattle.tunnel_bindings.specs.declared.state.LabelState.TheVariants as states
use Rattle.tunnel_bindings.specs.Labels.{Space, state_of, set_label, IsLeastFree, NoneFree}
use Rattle.label_trees.specs.declared.label_uses.held.Held.{Held}
use Rattle.label_trees.specs.declared.label_uses.table.Waiting.{Waiting}
use Rattle.label_trees.specs.label_uses.Uses.{use_in, set_use, free_in, mapped_in}
use Rattle.label_trees.specs.label_uses.Held.{use_held, use_by, uses_from, IsMapping, HoldsOwned}
use Rattle.label_trees.proofs.label_uses.HoldLemmas.{not_none}

-- ---- one label changes

uses_same : (n : ℕ) (ss : List LabelState) (f g : ℕ → Option Held) → ((l : ℕ) → n ≤ l → g l ≡ f l) → uses_from n g ss ≡ uses_from n f ss
uses_same n [] f g h = refl
uses_same n (x ∷ ss) f g h = λ i. use_by x (h n (omega arith) i) ∷ uses_same (suc n) ss f g (λ l le. h l (omega (arith, le))) i

uses_set : (n k : ℕ) (ss : List LabelState) (f g : ℕ → Option Held) (s : LabelState) → ((l : ℕ) → (l ≡ n + k → ⊥) → g l ≡ f l)
    → uses_from n g (slice_set ss k s) ≡ slice_set (uses_from n f ss) k (use_by s (g (n + k)))
uses_set n k [] f g s h = refl
uses_set n zero (x ∷ ss) f g s h =
    let here : n ≡ n + 0 = omega arith in
    λ i. use_by s (g (here i)) ∷ uses_same (suc n) ss f g (λ l le. h l (λ e. omega (arith, e, le))) i
uses_set n (suc k) (x ∷ ss) f g s h =
    let head : use_by x (g n) ≡ use_by x (f n) = ap (use_by x) (h n (λ e. omega (arith, e))) in
    let next : suc n + k ≡ n + suc k = omega arith in
    let rest = uses_set (suc n) k ss f g s (λ l ne. h l (λ e. ne (e ∙ sym next))) in
    let thereafter = rest ∙ ap (λ (m : ℕ). slice_set (uses_from (suc n) f ss) k (use_by s (g m))) next in
    λ i. head i ∷ thereafter i

uses_get : (n k : ℕ) (ss : List LabelState) (f : ℕ → Option Held)
    → slice_get (uses_from n f ss) k ≡ option_map (λ s. use_by s (f (n + k))) (slice_get ss k)
uses_get n k [] f = refl
uses_get n zero (x ∷ ss) f = let here : n ≡ n + 0 = omega arith in ap (λ (m : ℕ). Some (use_by x (f m))) here
uses_get n (suc k) (x ∷ ss) f =
    let next : suc n + k ≡ n + suc k = omega arith in
    uses_get (suc n) k ss f ∙ ap (λ (m : ℕ). option_map (λ s. use_by s (f m)) (slice_get ss k)) next

set_itself : {X : Type 0} (xs : List X) (k : ℕ) (x : X) → slice_get xs k ≡ Some x → slice_set xs k x ≡ xs
set_itself [] k x e = refl
set_itself (y ∷ xs) zero x e = ap (λ z. z ∷ xs) (sym (same_Some y x e))
set_itself (y ∷ xs) (suc k) x e = ap (λ l. y ∷ l) (set_itself xs k x e)

set_twice : {X : Type 0} (xs : List X) (k : ℕ) (x y : X) → slice_set (slice_set xs k x) k y ≡ slice_set xs k y
set_twice [] k x y = refl
set_twice (z ∷ xs) zero x y = refl
set_twice (z ∷ xs) (suc k) x y = ap (λ l. z ∷ l) (set_twice xs k x y)

-- ---- by labels

state_low : (space : Space) (label : ℕ) → label < 16 → state_of space label ≡ None
state_low space label lt = cond-true (nat_lt label 16) None (slice_get space.states (label - 16)) (lt-ltb label 16 lt)

state_high : (space : Space) (label : ℕ) → 16 ≤ label → state_of space label ≡ slice_get space.states (label - 16)
state_high space label ge = cond-false (nat_lt label 16) None (slice_get space.states (label - 16)) (le-ltb label 16 ge)

pub use_low : (labels : List LabelUse) (label : ℕ) → label < 16 → use_in labels label ≡ None
use_low labels label lt = cond-true (nat_lt label 16) None (slice_get labels (label - 16)) (lt-ltb label 16 lt)

pub use_high : (labels : List LabelUse) (label : ℕ) → 16 ≤ label → use_in labels label ≡ slice_get labels (label - 16)
use_high labels label ge = cond-false (nat_lt label 16) None (slice_get labels (label - 16)) (le-ltb label 16 ge)

pub state_is_high : (space : Space) (label : ℕ) (s : LabelState) → state_of space label ≡ Some s → 16 ≤ label
state_is_high space label s e = elim (cases_lt label 16) [
  | inl lt ↦ absurd (none-some s (sym (state_low space label lt) ∙ e))
  | inr ge ↦ ge
]

-- a label that is in another state, and in its own again
pub label_back : (space : Space) (label : ℕ) (old new : LabelState) → state_of space label ≡ Some old
    → set_label (set_label space label new) label old ≡ space
label_back space label old new at =
    ap (λ (states : List LabelState). record space { states = states })
    (set_twice space.states (label - 16) new old
    ∙ set_itself space.states (label - 16) old (sym (state_high space label (state_is_high space label old at)) ∙ at))

-- what a label is used for, by its state and its holder
pub use_is : (space : Space) (f : ℕ → Option Held) (label : ℕ)
    → use_in (uses_from 16 f space.states) label ≡ option_map (λ s. use_by s (f label)) (state_of space label)
use_is space f label = elim (cases_lt label 16) [
  | inl lt ↦ use_low (uses_from 16 f space.states) label lt ∙ sym (ap (option_map (λ s. use_by s (f label))) (state_low space label lt))
  | inr ge ↦
      let same : 16 + (label - 16) ≡ label = omega (arith, ge) in
      use_high (uses_from 16 f space.states) label ge ∙ uses_get 16 (label - 16) space.states f
      ∙ ap (λ (m : ℕ). option_map (λ s. use_by s (f m)) (slice_get space.states (label - 16))) same
      ∙ sym (ap (option_map (λ s. use_by s (f label))) (state_high space label ge))
]

pub use_set : (space : Space) (f g : ℕ → Option Held) (label : ℕ) (old new : LabelState) → state_of space label ≡ Some old
    → ((l : ℕ) → (l ≡ label → ⊥) → g l ≡ f l)
    → uses_from 16 g (set_label space label new).states ≡ set_use (uses_from 16 f space.states) label (use_by new (g label))
use_set space f g label old new at same =
    let ge = state_is_high space label old at in
    let place : 16 + (label - 16) ≡ label = omega (arith, ge) in
    uses_set 16 (label - 16) space.states f g new (λ l ne. same l (λ e. ne (e ∙ sym place)))
    ∙ ap (λ (m : ℕ). set_use (uses_from 16 f space.states) label (use_by new (g m))) place

-- the holder alone changes
pub use_change : (space : Space) (f g : ℕ → Option Held) (label : ℕ) (old : LabelState) → state_of space label ≡ Some old
    → ((l : ℕ) → (l ≡ label → ⊥) → g l ≡ f l)
    → uses_from 16 g space.states ≡ set_use (uses_from 16 f space.states) label (use_by old (g label))
use_change space f g label old at same =
    let ge = state_is_high space label old at in
    sym (ap (uses_from 16 g) (set_itself space.states (label - 16) old (sym (state_high space label ge) ∙ at)))
    ∙ use_set space f g label old old at same

-- a use that is set to what it is
pub set_used : (labels : List LabelUse) (label : ℕ) (usage : LabelUse) → use_in labels label ≡ Some usage → set_use labels label usage ≡ labels
set_used labels label usage at = elim (cases_lt label 16) [
  | inl lt ↦ absurd (none-some usage (sym (use_low labels label lt) ∙ at))
  | inr ge ↦ set_itself labels (label - 16) usage (sym (use_high labels label ge) ∙ at)
]

-- ---- what is found

abbrev part_of : List LabelUse → LabelData
part_of labels = record (fresh 0) { labels = labels }

module _ (space : Space) (f : ℕ → Option Held) (k : BindingName → Option AnyBinding) (s : NodeId → Option Incarnation) (g : Fec → Option ℕ)
    (w : Fec → Option Waiting) (holds : HoldsOwned (state_of space) f k s g w) where
  -- a label that is held
  pub use_of_held : (label : ℕ) (own : Held) → f label ≡ Some own → use_in (uses_from 16 f space.states) label ≡ Some (use_held own)
  use_of_held label own at =
      use_is space f label ∙ ap (option_map (λ st. use_by st (f label))) (holds.owned label own at)
      ∙ ap (λ (o : Option Held). Some (use_by states.Owned o)) at

  -- a label that is mapped or leaving is held
  pub held_of_use : (label : ℕ) (usage : LabelUse) → use_in (uses_from 16 f space.states) label ≡ Some usage → (usage ≡ uses.Free → ⊥)
      → ((until : ℕ) → usage ≡ uses.Resting until → ⊥)
      → (own : Held) × (f label ≡ Some own) × (usage ≡ use_held own)
  held_of_use label usage e busy awake = by (state_of space label) refl (sym (use_is space f label) ∙ e)
    where
      held : (o : Option Held) → f label ≡ o → is_some (f label) ≡ true → use_by states.Owned (f label) ≡ usage
          → (own : Held) × (f label ≡ Some own) × (usage ≡ use_held own)
      held None at h u = absurd (let no : false ≡ true = sym (ap is_some at) ∙ h in cc)
      held (Some own) at h u = (own, at, sym u ∙ ap (use_by states.Owned) at)

      by : (o : Option LabelState) → state_of space label ≡ o → option_map (λ st. use_by st (f label)) o ≡ Some usage
          → (own : Held) × (f label ≡ Some own) × (usage ≡ use_held own)
      by None at u = absurd (none-some usage u)
      by (Some states.Free) at u = absurd (busy (sym (same_Some uses.Free usage u)))
      by (Some (states.Resting until)) at u = absurd (awake until (sym (same_Some (uses.Resting until) usage u)))
      by (Some states.Owned) at u = held (f label) refl (holds.all label at) (same_Some (use_by states.Owned (f label)) usage u)

  mapping_of : (label : ℕ) (fec : Fec) (upstream : NodeId) → use_in (uses_from 16 f space.states) label ≡ Some (uses.Mapped fec upstream)
      → IsMapping f label fec
  mapping_of label fec upstream e =
      let x = held_of_use label (uses.Mapped fec upstream) e (λ u. absurd cc) (λ until u. absurd cc) in
      by x.0 x.1 x.0.leaving refl x.2
    where
      by : (own : Held) → f label ≡ Some own → (b : Bool) → own.leaving ≡ b
          → uses.Mapped fec upstream ≡ cond b (uses.Leaving own.fec own.upstream) (uses.Mapped own.fec own.upstream) → IsMapping f label fec
      by own at true l u = absurd cc
      by own at false l u = (let is : own.fec ≡ fec = cc in record { own = own; at = at; mapped = l; is = is })

  -- the label to which a tree leads is the one that is mapped to it
  pub mapped_agrees : (fec : Fec) → g fec ≡ mapped_in (uses_from 16 f space.states) fec
  mapped_agrees fec = by (g fec) (mapped_in (uses_from 16 f space.states) fec) refl refl
    where
      labels : List LabelUse
      labels = uses_from 16 f space.states

      use_mapped : (own : Held) → own.leaving ≡ false → own.fec ≡ fec → use_held own ≡ uses.Mapped fec own.upstream
      use_mapped own l is =
          ap (λ (b : Bool). cond b (uses.Leaving own.fec own.upstream) (uses.Mapped own.fec own.upstream)) l
          ∙ ap (λ (x : Fec). uses.Mapped x own.upstream) is

      by : (a b : Option ℕ) → g fec ≡ a → mapped_in labels fec ≡ b → a ≡ b
      by None None e m = refl
      by None (Some label) e m =
          let x = mapped_some (part_of labels) fec label m in
          let y = mapping_of label fec x.0 x.1 in
          absurd (not_none (g fec) label (ap g (sym y.is) ∙ holds.found label y.own y.at y.mapped) e)
      by (Some label) None e m =
          let y = holds.listed fec label e in
          absurd (mapped_none (part_of labels) fec m label y.own.upstream
          (use_of_held label y.own y.at ∙ ap (λ (u : LabelUse). Some u) (use_mapped y.own y.mapped y.is)))
      by (Some label) (Some other) e m =
          let x = mapped_some (part_of labels) fec other m in
          let y = mapping_of other fec x.0 x.1 in
          sym e ∙ (ap g (sym y.is) ∙ holds.found other y.own y.at y.mapped)

  state_free : (label : ℕ) → use_in (uses_from 16 f space.states) label ≡ Some uses.Free → state_of space label ≡ Some states.Free
  state_free label e = by (state_of space label) refl (sym (use_is space f label) ∙ e)
    where
      busy : (own : Held) (b : Bool) → cond b (uses.Leaving own.fec own.upstream) (uses.Mapped own.fec own.upstream) ≡ uses.Free → ⊥
      busy own true u = absurd cc
      busy own false u = absurd cc

      held : (o : Option Held) → f label ≡ o → is_some (f label) ≡ true → use_by states.Owned (f label) ≡ uses.Free → ⊥
      held None at h u = absurd (let no : false ≡ true = sym (ap is_some at) ∙ h in cc)
      held (Some own) at h u = busy own own.leaving (sym (ap (use_by states.Owned) at) ∙ u)

      by : (o : Option LabelState) → state_of space label ≡ o → option_map (λ st. use_by st (f label)) o ≡ Some uses.Free
          → state_of space label ≡ Some states.Free
      by None at u = absurd (none-some uses.Free u)
      by (Some states.Free) at u = at
      by (Some (states.Resting until)) at u = absurd (let no = same_Some (uses.Resting until) uses.Free u in cc)
      by (Some states.Owned) at u = absurd (held (f label) refl (holds.all label at) (same_Some (use_by states.Owned (f label)) uses.Free u))

  use_free : (label : ℕ) → state_of space label ≡ Some states.Free → use_in (uses_from 16 f space.states) label ≡ Some uses.Free
  use_free label e = use_is space f label ∙ ap (option_map (λ st. use_by st (f label))) e

  -- the least free number is the least free label
  pub least_agrees : (label : ℕ) → IsLeastFree space label → Some label ≡ free_in (uses_from 16 f space.states)
  least_agrees label least = by (free_in labels) refl
    where
      labels : List LabelUse
      labels = uses_from 16 f space.states

      by : (o : Option ℕ) → free_in labels ≡ o → Some label ≡ free_in labels
      by None e = absurd (free_none (part_of labels) e label (use_free label least.free))
      by (Some other) e =
          let x = free_some (part_of labels) other e in
          elim (cases_lt label other) [
            | inl lt ↦ absurd (x.lower label lt (use_free label least.free))
            | inr ge ↦ elim (cases_lt other label) [
              | inl lt ↦ absurd (least.below other lt (state_free other x.free))
              | inr le ↦ (let same : label ≡ other = omega (arith, ge, le) in ap (λ (l : ℕ). Some l) same ∙ sym e)
            ]
          ]

  pub none_agrees : NoneFree space → None ≡ free_in (uses_from 16 f space.states)
  none_agrees none = by (free_in labels) refl
    where
      labels : List LabelUse
      labels = uses_from 16 f space.states

      by : (o : Option ℕ) → free_in labels ≡ o → None ≡ free_in labels
      by None e = sym e
      by (Some other) e = (let x = free_some (part_of labels) other e in absurd (none other (state_free other x.free)))

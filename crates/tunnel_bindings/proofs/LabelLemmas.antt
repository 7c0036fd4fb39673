-- What a change of one label, and a wake, leave of each label.
use Rattle.std.proofs.Common.{inl, inr, zero, suc, ◌≡◌, ◌≢◌, ℕ, ◌-◌, Bool, true, false, cond, nat_lt, List, [], ◌∷◌, map, slice_get, None, Some, option_map, refl, sym, ap, ◌∙◌, arith}
use Rattle.std.proofs.lemmas.Bool.{cases_Bool, ltb-false}
use Rattle.std.proofs.lemmas.Option.{slice_get_within}
use Rattle.tunnel_bindings.specs.declared.state.LabelState.{LabelState}
use Rattle.tunnel_bindings.specs.declared.state.LabelState.TheVariants.{Free, Owned}
use Rattle.tunnel_bindings.specs.Labels.{Space, state_of, IsOwned, IsLeastFree, set_label, wake_all, woken}
use Rattle.tunnel_bindings.proofs.NumbersLemmas.{get-set_same, get-set_other}
use Rattle.tunnel_bindings.proofs.RestingLemmas.{label-at}

reserved : (space : Space) (label : ℕ) → nat_lt label 16 ≡ true → state_of space label ≡ None
reserved space label e = ap (λ (b : Bool). cond b None (slice_get space.states (label - 16))) e

in_space : (space : Space) (label : ℕ) → nat_lt label 16 ≡ false → state_of space label ≡ slice_get space.states (label - 16)
in_space space label e = ap (λ (b : Bool). cond b None (slice_get space.states (label - 16))) e

not_reserved : (space : Space) (label : ℕ) (s : LabelState) → state_of space label ≡ Some s → nat_lt label 16 ≡ false
not_reserved space label s h = elim (cases_Bool (nat_lt label 16)) [
  | inl e ↦ let none = sym (reserved space label e) ∙ h in absurd cc
  | inr e ↦ e
]

pub set-label : (space : Space) (label : ℕ) (old new : LabelState) → state_of space label ≡ Some old
    → state_of (set_label space label new) label ≡ Some new
set-label space label old new h =
    in_space (set_label space label new) label (not_reserved space label old h)
    ∙ get-set_same space.states (label - 16) new (slice_get_within space.states (label - 16) old (label-at space label old h))

pub set-others : (space : Space) (label other : ℕ) (old new : LabelState) → state_of space label ≡ Some old → other ≢ label
    → state_of (set_label space label new) other ≡ state_of space other
set-others space label other old new h apart = elim (cases_Bool (nat_lt other 16)) [
  | inl e ↦ reserved (set_label space label new) other e ∙ sym (reserved space other e)
  | inr e ↦
      let high = ltb-false label 16 (not_reserved space label old h) in
      let high' = ltb-false other 16 e in
      in_space (set_label space label new) other e
      ∙ (get-set_other space.states (label - 16) (other - 16) new (λ same. apart (omega (arith, same, high, high'))) ∙ sym (in_space space other e))
]

get-map : (now : ℕ) (states : List LabelState) (k : ℕ) → slice_get (map (woken now) states) k ≡ option_map (woken now) (slice_get states k)
get-map now [] k = refl
get-map now (s ∷ ss) zero = refl
get-map now (s ∷ ss) (suc k) = get-map now ss k

pub woken-label : (space : Space) (label now : ℕ) → state_of (wake_all now space) label ≡ option_map (woken now) (state_of space label)
woken-label space label now = elim (cases_Bool (nat_lt label 16)) [
  | inl e ↦ reserved (wake_all now space) label e ∙ sym (ap (option_map (woken now)) (reserved space label e))
  | inr e ↦ in_space (wake_all now space) label e
      ∙ (get-map now space.states (label - 16) ∙ sym (ap (option_map (woken now)) (in_space space label e)))
]

-- ---- labels that are owned

-- the label that was taken is owned
pub owned_taken : (space : Space) (label : ℕ) → IsLeastFree space label → IsOwned (set_label space label Owned) label
owned_taken space label h = set-label space label Free Owned h.free

-- a label that is owned is not the one that is taken
pub owned_apart : (space : Space) (label taken : ℕ) → IsOwned space label → IsLeastFree space taken → label ≢ taken
owned_apart space label taken h least e =
    let both : Some Owned ≡ Some Free = sym h ∙ (ap (state_of space) e ∙ least.free) in
    absurd cc

-- a label that is owned stays so where another one changes
pub owned_still : (space : Space) (label other : ℕ) (old new : LabelState) → IsOwned space label → state_of space other ≡ Some old → label ≢ other
    → IsOwned (set_label space other new) label
owned_still space label other old new h at apart = set-others space other label old new at apart ∙ h

-- a label that is owned stays so where another one is taken and given back
pub owned_after : (space : Space) (label taken : ℕ) → IsOwned space label → IsLeastFree space taken
    → IsOwned (set_label (set_label space taken Owned) taken Free) label
owned_after space label taken h least =
    let apart = owned_apart space label taken h least in
    owned_still (set_label space taken Owned) label taken Owned Free (owned_still space label taken Free Owned h least.free apart)
    (owned_taken space taken least) apart

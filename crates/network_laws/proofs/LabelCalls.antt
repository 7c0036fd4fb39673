-- The label calls of an edge's step are sound, and raise no end of an LDP session but where the step does.
use Rattle.std.proofs.Common.{◌≡◌, ℕ, ◌&&◌, not, Bool, true, false, cond, inl, inr, List, [], ◌∷◌, ◌++◌, filter, flat_map, Option, Some, refl, sym, subst, ◌∙◌}
use Rattle.std.specs.List.{AllByRecursion}
use Rattle.std.specs.FinMap as maps
use Rattle.std.specs.FinSet as sets
use Rattle.std.specs.FinSet.{FinSet}
use Rattle.std.proofs.lemmas.Bool.{or_cases}
use Rattle.std.proofs.lemmas.Option.{same_Some}
use Rattle.mv_base.specs.Number.{◌>>?◌}
use Rattle.mv_base.specs.declared.addr.Addr.{Addr}
use Rattle.mv_base.specs.declared.ids.NodeId.{NodeId}
use Rattle.mldp.specs.declared.mldp_fec.fec.Fec.{Fec}
use Rattle.scenario_defs.specs.declared.event.Kind.TheVariants as kinds
use Rattle.label_defs.specs.Keys.{fec_cmp}
use Rattle.label_defs.specs.LabelData.{LabelData}
use Rattle.label_defs.specs.Steps as labels
use Rattle.label_defs.specs.Steps.{label_step}
use Rattle.label_defs.specs.Members.{in_order}
use Rattle.label_defs.proofs.KeyLemmas.{fec_cmp_total}
use Rattle.label_defs.proofs.SettleLemmas.{bind_some}
use Rattle.label_defs.proofs.MemberLemmas.{each_in_order}
use Rattle.network_defs.specs.edge_defs.Edge.{Control}
use Rattle.network_defs.specs.edge_defs.Place.{EdgePlace, label_place}
use Rattle.network_defs.specs.edge_defs.Steps as steps
use Rattle.network_defs.specs.edge_defs.Steps.{own_label_call, changed_leaves, one_call, LabelStep, label_row, part_after}
use Rattle.network_defs.specs.edge_defs.Tunnels.{leaves}
use Rattle.network_defs.specs.node_defs.Puts.{label_puts}
use Rattle.network_laws.specs.Sound.{IsSoundFec, SoundControl}
use Rattle.network_laws.proofs.LabelEnds.{IsNoRaise, own_ends_stay_empty, ends_stay_empty, no_ends_no_puts}
use Rattle.network_laws.proofs.LabelLeaves.{leaves_are_sound}
use Rattle.network_laws.proofs.Lists.{each_append, each_of, each_map, each_filter, each_weaker}
use Rattle.network_laws.proofs.LabelSound.{IsSoundLabelMessage, IsSoundLabelCall}

-- ---- sound calls

-- a label message that the call takes is sound
abbrev pub TakesSound : steps.Call → Type 0
TakesSound (steps.Label neighbour message) = IsSoundLabelMessage message
TakesSound other = Unit {0}

-- the call of a tree that changes
abbrev call_for : FinSet fec_cmp → Fec → labels.Call
call_for new fec = cond (sets.contains new fec) (labels.Want fec) (labels.Unwant fec)

-- what holds of both calls of a tree holds of the one that is made
of_both_calls : (P : labels.Call → Type 0) (fec : Fec) (t : Bool) → P (labels.Want fec) → P (labels.Unwant fec)
    → P (cond t (labels.Want fec) (labels.Unwant fec))
of_both_calls P fec true p q = p
of_both_calls P fec false p q = q

abbrev is_changed : FinSet fec_cmp → FinSet fec_cmp → Fec → Bool
is_changed old new fec = not (sets.contains old fec && sets.contains new fec)

pub changed_leaves_are_sound : (old new : FinSet fec_cmp) → ((fec : Fec) → sets.contains old fec ≡ true → IsSoundFec fec)
    → ((fec : Fec) → sets.contains new fec ≡ true → IsSoundFec fec) → AllByRecursion IsSoundLabelCall (changed_leaves old new)
changed_leaves_are_sound old new before thereafter =
    let both : List Fec = in_order (sets.union old new) in
    let all : AllByRecursion IsSoundFec both = each_in_order fec_cmp_total IsSoundFec (sets.union old new) (λ fec e.
    elim (or_cases (sets.contains old fec) (sets.contains new fec) (sym (sets.contains-union fec_cmp_total old new fec) ∙ e))
    [ inl h ↦ before fec h | inr h ↦ thereafter fec h ]) in
    let some : AllByRecursion IsSoundFec (filter (is_changed old new) both) = each_filter IsSoundFec (is_changed old new) both all in
    each_map IsSoundLabelCall (call_for new) (filter (is_changed old new) both)
    (each_weaker IsSoundFec (λ fec. IsSoundLabelCall (call_for new fec)) (λ fec s. of_both_calls IsSoundLabelCall fec (sets.contains new fec) s s)
    (filter (is_changed old new) both) some)

own_call_sound : (call : steps.Call) → TakesSound call → AllByRecursion IsSoundLabelCall (one_call (own_label_call call))
own_call_sound (steps.Label neighbour message) s = (s, tt)
own_call_sound (steps.Raised kinds.Ldp peer) s = (tt, tt)
own_call_sound (steps.Raised kinds.Bgp peer) s = tt
own_call_sound (steps.Noticed kinds.Ldp peer) s = (tt, tt)
own_call_sound (steps.Noticed kinds.Bgp peer) s = tt
own_call_sound steps.Timers s = (tt, tt)
own_call_sound steps.Rerouted s = (tt, tt)
own_call_sound (steps.Update peer message) s = tt
own_call_sound (steps.Customer call) s = tt

-- the label calls of a step of an edge
pub edge_calls_are_sound : (place : EdgePlace) (old new : Control) (call : steps.Call) → SoundControl old → SoundControl new → TakesSound call
    → AllByRecursion IsSoundLabelCall (one_call (own_label_call call) ++ changed_leaves (leaves place old) (leaves place new))
edge_calls_are_sound place old new call before thereafter s =
    each_append IsSoundLabelCall (one_call (own_label_call call)) (changed_leaves (leaves place old) (leaves place new)) (own_call_sound call s)
    (changed_leaves_are_sound (leaves place old) (leaves place new) (leaves_are_sound place old before) (leaves_are_sound place new thereafter))

-- the label call of a core node
pub own_call_is_sound : (call : steps.Call) (own : labels.Call) → TakesSound call → own_label_call call ≡ Some own → IsSoundLabelCall own
own_call_is_sound call own s e = (subst (λ (o : Option labels.Call). AllByRecursion IsSoundLabelCall (one_call o)) e (own_call_sound call s)).0

-- ---- calls that raise no end of an LDP session

abbrev pub RaisesNone : steps.Call → Type 0
RaisesNone (steps.Raised kinds.Ldp peer) = ⊥
RaisesNone other = Unit {0}

own_call_raises : (call : steps.Call) → RaisesNone call → AllByRecursion IsNoRaise (one_call (own_label_call call))
own_call_raises (steps.Label neighbour message) r = (tt, tt)
own_call_raises (steps.Raised kinds.Ldp peer) r = absurd r
own_call_raises (steps.Raised kinds.Bgp peer) r = tt
own_call_raises (steps.Noticed kinds.Ldp peer) r = (tt, tt)
own_call_raises (steps.Noticed kinds.Bgp peer) r = tt
own_call_raises steps.Timers r = (tt, tt)
own_call_raises steps.Rerouted r = (tt, tt)
own_call_raises (steps.Update peer message) r = tt
own_call_raises (steps.Customer call) r = tt

pub own_call_raises_none : (call : steps.Call) (own : labels.Call) → RaisesNone call → own_label_call call ≡ Some own → IsNoRaise own
own_call_raises_none call own r e = (subst (λ (o : Option labels.Call). AllByRecursion IsNoRaise (one_call o)) e (own_call_raises call r)).0

pub edge_calls_raise_none : (old new : FinSet fec_cmp) (call : steps.Call) → RaisesNone call
    → AllByRecursion IsNoRaise (one_call (own_label_call call) ++ changed_leaves old new)
edge_calls_raise_none old new call r =
    let some : List Fec = filter (is_changed old new) (in_order (sets.union old new)) in
    each_append IsNoRaise (one_call (own_label_call call)) (changed_leaves old new) (own_call_raises call r)
    (each_map IsNoRaise (call_for new) some (each_of (λ fec. IsNoRaise (call_for new fec))
    (λ fec. of_both_calls IsNoRaise fec (sets.contains new fec) tt tt) some))

-- A row of such calls at a node of which no end is up puts nothing, and leaves none.
pub row_without_ends : (n : NodeId) (addr : Addr) (place : EdgePlace) (now : ℕ) (part : LabelData) (calls : List labels.Call) (row : List LabelStep)
    → AllByRecursion IsNoRaise calls → part.ends ≡ maps.empty → label_row place now part calls ≡ Some row
    → ((part_after part row).ends ≡ maps.empty) × (flat_map (label_puts n addr (label_place place.scenario place.core place.me) now) row ≡ [])
row_without_ends n addr place now part [] row r h e =
    subst (λ (made : List LabelStep). ((part_after part made).ends ≡ maps.empty)
    × (flat_map (label_puts n addr (label_place place.scenario place.core place.me) now) made ≡ [])) (same_Some [] row e) (h, refl)
row_without_ends n addr place now part (call ∷ more) row r h e =
    let own = label_place place.scenario place.core place.me in
    let first =
    bind_some (label_step own now part call) (λ new. label_row place now new.part more >>? λ thereafter. Some
    (record { old = part; call = call; new = new } ∷ thereafter)) row e in
    let rest =
    bind_some (label_row place now first.0.part more) (λ thereafter. Some (record { old = part; call = call; new = first.0 } ∷ thereafter)) row first.2 in
    let step : LabelStep = record { old = part; call = call; new = first.0 } in
    let then_none = row_without_ends n addr place now first.0.part more rest.0 r.1 (ends_stay_empty own now part call first.0 r.0 h first.1) rest.1 in
    let none = no_ends_no_puts n addr own now step (own_ends_stay_empty own now part call r.0 h) in
    subst (λ (made : List LabelStep). ((part_after part made).ends ≡ maps.empty) × (flat_map (label_puts n addr own now) made ≡ []))
    (same_Some (step ∷ rest.0) row rest.2)
    (then_none.0, (λ i. none i ++ then_none.1 i))

-- The trees of which the label part is a leaf are, after each step, those that the edge wants.
use Rattle.std.proofs.Common.{◌≡◌, ℕ, ◌+◌, ◌==◌, ◌⊎◌, Bool, true, false, cond, not, ◌&&◌, ◌||◌, inl, inr, List, [], ◌∷◌, ◌++◌, map, Option, Some, None, refl, sym, ap, subst, ◌∙◌}
use Rattle.std.specs.List.{filter, flat_map, list_any}
use Rattle.std.specs.Ordering.{eq_by_cmp}
use Rattle.std.specs.FinMap as maps
use Rattle.std.specs.FinSet as sets
use Rattle.std.specs.FinSet.{FinSet}
use Rattle.std.proofs.lemmas.Bool.{or_cases, or_left, or_right}
use Rattle.std.proofs.lemmas.Option.{same_Some}
use Rattle.mv_base.specs.Number.{◌>>?◌}
use Rattle.mv_base.specs.declared.ids.NodeId.{NodeId}
use Rattle.label_defs.specs.mldp.declared.mldp_fec.fec.Fec.{Fec}
use Rattle.label_defs.specs.mldp.declared.mldp_msgs.message.LabelMessage.{LabelMessage}
use Rattle.label_defs.specs.mldp.declared.mldp_msgs.message.LabelMessage.TheVariants as messages
use Rattle.choice_defs.specs.scenario_defs.declared.event.Kind.TheVariants as kinds
use Rattle.label_defs.specs.declared.label_use.LabelUse.{LabelUse}
use Rattle.label_defs.specs.Keys.{fec_cmp, node_cmp}
use Rattle.label_defs.specs.LabelData.{Place, LabelData, use_of}
use Rattle.label_defs.specs.Settling.{Stepped, with_use}
use Rattle.label_defs.specs.Steps as labels
use Rattle.label_defs.specs.Steps.{label_step}
use Rattle.label_defs.specs.Members.{in_order}
use Rattle.label_defs.proofs.KeyLemmas.{fec_cmp_total, fec_cmp_exact, fec_cases, same_fec_equal}
use Rattle.label_defs.proofs.SetLemmas.{inserted_here, inserted_other, removed_here, removed_other}
use Rattle.label_defs.proofs.SettleLemmas.{bind_some}
use Rattle.label_defs.proofs.WithdrawLemmas.{same_leaves}
use Rattle.label_defs.proofs.MemberLemmas.{contains_in_order}
use Rattle.edge_defs.specs.Edge.{VrfFlow, Upstream, Taken, EdgeData, flow_cmp, no_control, fresh}
use Rattle.edge_defs.specs.Place.{EdgePlace, OwnVrf, own_vrfs, label_place}
use Rattle.edge_defs.specs.Steps as steps
use Rattle.edge_defs.specs.Steps.{EdgeStepped, LabelStep, edge_step, control_step, own_label_call, changed_leaves, one_call, label_row, part_after, raised_after}
use Rattle.edge_defs.specs.Tunnels.{flow_tunnels, inclusive_tunnels, leaves, tunnels_of}
use Rattle.edge_defs.proofs.Example.{no_entries}
use Rattle.edge_defs.proofs.LeafLemmas.{call_for, differs}

-- ---- a fresh edge wants none

no_tunnels : (place : EdgePlace) (own : OwnVrf) → tunnels_of place no_control own ≡ []
no_tunnels place own =
    ap (λ (peers : List (NodeId × Taken)). flat_map (inclusive_tunnels place own) peers ++ flat_map (flow_tunnels place no_control own)
    (filter (λ (entry : VrfFlow × Option Upstream). entry.0.vrf.0 == own.id.0) (maps.entries no_control.flows))) (no_entries node_cmp Taken)
    ∙ ap (λ (flows : List (VrfFlow × Option Upstream)). flat_map (flow_tunnels place no_control own)
    (filter (λ (entry : VrfFlow × Option Upstream). entry.0.vrf.0 == own.id.0) flows)) (no_entries flow_cmp (Option Upstream))

none_of_each : {A B : Type 0} (each : A → List B) → ((x : A) → each x ≡ []) → (list : List A) → flat_map each list ≡ []
none_of_each each none [] = refl
none_of_each each none (x ∷ list) = ap (λ front. front ++ flat_map each list) (none x) ∙ none_of_each each none list

pub fresh_leaves : (place : EdgePlace) (count : ℕ) → (fresh count).part.leaves ≡ leaves place (fresh count).control
fresh_leaves place count =
    ap (λ (list : List Fec). sets.from_list {R = fec_cmp} list) (sym (none_of_each (tunnels_of place no_control) (no_tunnels place) (own_vrfs place)))

-- ---- the call's own label step changes no leaf

mapped_leaves : (b : Bool) (part : LabelData) (new : LabelData) → new.leaves ≡ part.leaves → (cond b new part).leaves ≡ part.leaves
mapped_leaves true part new e = e
mapped_leaves false part new e = refl

taken_leaves : (place : Place) (now : ℕ) (part : LabelData) (from : NodeId) (message : LabelMessage)
    → (labels.taken place now part from message).leaves ≡ part.leaves
taken_leaves place now part from (messages.Mapping fec label) =
    mapped_leaves (place.is_tree fec) part (record part { branches = sets.insert part.branches (labels.branch_to from fec label) }) refl
taken_leaves place now part from (messages.Withdraw fec label) = refl
taken_leaves place now part from (messages.Release fec label) = by (use_of part label)
  where
    by : (found : Option LabelUse) → (elim found as (λ (f : Option LabelUse). LabelData)
        [ None ↦ part | Some usage ↦ with_use part label (labels.released from fec (now + place.life + 1) usage) ]).leaves ≡ part.leaves
    by None = refl
    by (Some usage) = refl
taken_leaves place now part from (messages.Ignored kind) = refl

-- the label call, if there is one, changes no leaf by itself
abbrev SameLeaves : Place → ℕ → LabelData → Option labels.Call → Type 0
SameLeaves place now part None = Unit {0}
SameLeaves place now part (Some call) = (labels.effect place now part call).0.part.leaves ≡ part.leaves

own_leaves : (place : Place) (now : ℕ) (part : LabelData) (call : steps.Call) → SameLeaves place now part (own_label_call call)
own_leaves place now part (steps.Label neighbour message) = taken_leaves place now part neighbour message
own_leaves place now part (steps.Raised kinds.Ldp peer) = refl
own_leaves place now part (steps.Raised kinds.Bgp peer) = tt
own_leaves place now part (steps.Noticed kinds.Ldp peer) = refl
own_leaves place now part (steps.Noticed kinds.Bgp peer) = tt
own_leaves place now part steps.Timers = refl
own_leaves place now part steps.Rerouted = refl
own_leaves place now part (steps.Update peer message) = tt
own_leaves place now part (steps.Customer call) = tt

-- ---- the call of a tree makes it a leaf exactly where it is wanted

here : (place : Place) (now : ℕ) (part : LabelData) (fec : Fec) (b : Bool)
    → sets.contains (labels.effect place now part (cond b (labels.Want fec) (labels.Unwant fec))).0.part.leaves fec ≡ b
here place now part fec true = inserted_here fec_cmp_total fec_cmp_exact part.leaves fec
here place now part fec false = removed_here fec_cmp_total fec_cmp_exact part.leaves fec

there : (place : Place) (now : ℕ) (part : LabelData) (fec other : Fec) (b : Bool) → (other ≡ fec → ⊥)
    → sets.contains (labels.effect place now part (cond b (labels.Want fec) (labels.Unwant fec))).0.part.leaves other
    ≡ sets.contains part.leaves other
there place now part fec other true ne = inserted_other fec_cmp_total fec_cmp_exact part.leaves fec other ne
there place now part fec other false ne = removed_other fec_cmp_total fec_cmp_exact part.leaves fec other ne

-- the sets have the same trees, but for those of the list
abbrev SameBut : List Fec → FinSet fec_cmp → FinSet fec_cmp → Type 0
SameBut fecs own new = (fec : Fec) → (list_any (eq_by_cmp fec_cmp fec) fecs ≡ true) ⊎ (sets.contains own fec ≡ sets.contains new fec)

-- A row of the calls of these trees makes them the same.
row_leaves : (place : EdgePlace) (now : ℕ) (old new : FinSet fec_cmp) (fecs : List Fec) (part : LabelData) (row : List LabelStep)
    → SameBut fecs part.leaves new → label_row place now part (map (call_for old new) fecs) ≡ Some row
    → (fec : Fec) → sets.contains (part_after part row).leaves fec ≡ sets.contains new fec
row_leaves place now old new [] part row same e fec =
    subst (λ (made : List LabelStep). sets.contains (part_after part made).leaves fec ≡ sets.contains new fec) (same_Some [] row e)
    (elim (same fec) [ inl h ↦ absurd cc | inr h ↦ h ])
row_leaves place now old new (next ∷ more) part row same e fec =
    let own : Place = label_place place.scenario place.core place.me in
    let call : labels.Call = call_for old new next in
    let first =
    bind_some (label_step own now part call) (λ (step : Stepped). label_row place now step.part (map (call_for old new) more) >>? λ thereafter. Some
    (record { old = part; call = call; new = step } ∷ thereafter)) row e in
    let rest =
    bind_some (label_row place now first.0.part (map (call_for old new) more))
    (λ thereafter. Some (record { old = part; call = call; new = first.0 } ∷ thereafter)) row first.2 in
    let is : (other : Fec) → sets.contains first.0.part.leaves other ≡ sets.contains (labels.effect own now part call).0.part.leaves other =
    λ other. ap (λ (s : FinSet fec_cmp). sets.contains s other) (same_leaves own now part call first.0 first.1) in
    subst (λ (made : List LabelStep). sets.contains (part_after part made).leaves fec ≡ sets.contains new fec)
    (same_Some (record { old = part; call = call; new = first.0 } ∷ rest.0) row rest.2)
    (row_leaves place now old new more first.0.part rest.0 (λ other. elim (fec_cases other next) [
      | inl one ↦ inr (subst (λ (x : Fec). sets.contains first.0.part.leaves x ≡ sets.contains new x) (sym one)
          (is next ∙ here own now part next (sets.contains new next)))
      | inr ne ↦ elim (same other) [
        | inl h ↦ elim (or_cases (eq_by_cmp fec_cmp other next) (list_any (eq_by_cmp fec_cmp other) more) h)
            [ inl tied ↦ absurd (ne (same_fec_equal other next tied)) | inr among ↦ inl among ]
        | inr h ↦ inr (is other ∙ there own now part next other (sets.contains new next) ne ∙ h)
      ]
    ]) rest.1 fec)

-- ---- the trees that change are all of those that differ

kept_by : (passes : Fec → Bool) (fec : Fec) (list : List Fec) → passes fec ≡ true → list_any (eq_by_cmp fec_cmp fec) list ≡ true
    → list_any (eq_by_cmp fec_cmp fec) (filter passes list) ≡ true
kept_by passes fec [] e h = h
kept_by passes fec (other ∷ list) e h = elim (or_cases (eq_by_cmp fec_cmp fec other) (list_any (eq_by_cmp fec_cmp fec) list) h) [
  | inl tied ↦ subst (λ b. list_any (eq_by_cmp fec_cmp fec) (cond b (other ∷ filter passes list) (filter passes list)) ≡ true)
      (sym e ∙ ap passes (same_fec_equal fec other tied))
      (or_left (eq_by_cmp fec_cmp fec other) (list_any (eq_by_cmp fec_cmp fec) (filter passes list)) tied)
  | inr more ↦ elim (passes other) as (λ b. list_any (eq_by_cmp fec_cmp fec) (cond b (other ∷ filter passes list) (filter passes list)) ≡ true) [
    | true ↦ or_right (eq_by_cmp fec_cmp fec other) (list_any (eq_by_cmp fec_cmp fec) (filter passes list)) (kept_by passes fec list e more)
    | false ↦ kept_by passes fec list e more
  ]
]

-- the trees whose calls are made
abbrev changing : FinSet fec_cmp → FinSet fec_cmp → List Fec
changing old new = filter (differs old new) (in_order (sets.union old new))

same_but : (old new : FinSet fec_cmp) → SameBut (changing old new) old new
same_but old new fec = by (sets.contains old fec) (sets.contains new fec) refl refl
  where
    found : (a b : Bool) → sets.contains old fec ≡ a → sets.contains new fec ≡ b → not (a && b) ≡ true → (a || b) ≡ true
        → list_any (eq_by_cmp fec_cmp fec) (changing old new) ≡ true
    found a b p q apart one =
        kept_by (differs old new) fec (in_order (sets.union old new)) ((λ i. not (p i && q i)) ∙ apart)
        (sym (contains_in_order fec_cmp_total (sets.union old new) fec) ∙ sets.contains-union fec_cmp_total old new fec ∙ (λ i. p i || q i) ∙ one)

    by : (a b : Bool) → sets.contains old fec ≡ a → sets.contains new fec ≡ b
        → (list_any (eq_by_cmp fec_cmp fec) (changing old new) ≡ true) ⊎ (sets.contains old fec ≡ sets.contains new fec)
    by true true p q = inr (p ∙ sym q)
    by true false p q = inl (found true false p q refl refl)
    by false true p q = inl (found false true p q refl refl)
    by false false p q = inr (p ∙ sym q)

-- ---- a step

changed_row : (place : EdgePlace) (now : ℕ) (old new : FinSet fec_cmp) (part : LabelData) (row : List LabelStep) → part.leaves ≡ old
    → label_row place now part (changed_leaves old new) ≡ Some row
    → (fec : Fec) → sets.contains (part_after part row).leaves fec ≡ sets.contains new fec
changed_row place now old new part row is e =
    row_leaves place now old new (changing old new) part row
    (subst (λ (s : FinSet fec_cmp). SameBut (changing old new) s new) (sym is) (same_but old new)) e

-- The row of a step: its own call, if it has one, and those of the trees that change.
step_row : (place : EdgePlace) (now : ℕ) (old new : FinSet fec_cmp) (own : Option labels.Call) (part : LabelData) (row : List LabelStep)
    → part.leaves ≡ old → SameLeaves (label_place place.scenario place.core place.me) now part own
    → label_row place now part (one_call own ++ changed_leaves old new) ≡ Some row → (fec : Fec)
    → sets.contains (part_after part row).leaves fec ≡ sets.contains new fec
step_row place now old new None part row is keeps e = changed_row place now old new part row is e
step_row place now old new (Some call) part row is keeps e =
    let own : Place = label_place place.scenario place.core place.me in
    let first =
    bind_some (label_step own now part call) (λ (step : Stepped). label_row place now step.part (changed_leaves old new) >>? λ thereafter. Some
    (record { old = part; call = call; new = step } ∷ thereafter)) row e in
    let rest =
    bind_some (label_row place now first.0.part (changed_leaves old new))
    (λ thereafter. Some (record { old = part; call = call; new = first.0 } ∷ thereafter)) row first.2 in
    subst (λ (made : List LabelStep). (fec : Fec) → sets.contains (part_after part made).leaves fec ≡ sets.contains new fec)
    (same_Some (record { old = part; call = call; new = first.0 } ∷ rest.0) row rest.2)
    (changed_row place now old new first.0.part rest.0 (same_leaves own now part call first.0 first.1 ∙ keeps ∙ is) rest.1)

pub leaves_follow : (place : EdgePlace) (now : ℕ) (old : EdgeData) (call : steps.Call) (new : EdgeStepped)
    → old.part.leaves ≡ leaves place old.control → edge_step place now old call ≡ Some new
    → new.edge.part.leaves ≡ leaves place new.edge.control
leaves_follow place now old call new is e =
    let control = control_step place now old.control call in
    let made =
    bind_some (label_row place now old.part (one_call (own_label_call call) ++ changed_leaves (leaves place old.control) (leaves place control)))
    (λ row. Some (record {
      edge = record { control = control; part = part_after old.part row; raised = raised_after now old.raised call };
      row =
          row;
    })) new e in
    subst (λ (thereafter : EdgeStepped). thereafter.edge.part.leaves ≡ leaves place thereafter.edge.control)
    (same_Some (record {
      edge = record { control = control; part = part_after old.part made.0; raised = raised_after now old.raised call };
      row =
          made.0;
    }) new made.2)
    (sets.same_set fec_cmp_total fec_cmp_exact (part_after old.part made.0).leaves (leaves place control)
    (step_row place now (leaves place old.control) (leaves place control) (own_label_call call) old.part made.0 is
    (own_leaves (label_place place.scenario place.core place.me) now old.part call) made.1))

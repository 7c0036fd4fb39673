-- Which steps there are: where labels are lacking, at losses and raises, and at messages that are passed over.
use Rattle.std.proofs.Common.{◌≡◌, ◌≢◌, ◌↔◌, ℕ, ◌+◌, ◌-◌, ◌<◌, ◌==◌, nat_le, zero, suc, Bool, true, false, not, cond, ◌&&◌, List, [], ◌∷◌, filter, count_by, slice_get, slice_set, Option, Some, None, option_map, is_some, inl, inr, refl, sym, ap, subst, ◌∙◌, arith}
use Rattle.std.specs.FinMap as maps
use Rattle.std.specs.FinSet as sets
use Rattle.std.proofs.lemmas.Bool.{cases_Bool, cond-false, and_parts, or_cases, or_left, or_right, false_from_ne_true}
use Rattle.std.proofs.lemmas.Option.{same_Some}
use Rattle.mldp.specs.mv_base.declared.ids.NodeId.{NodeId}
use Rattle.mldp.specs.declared.mldp_fec.fec.Fec.{Fec}
use Rattle.mldp.specs.declared.mldp_msgs.message.LabelMessage.TheVariants as messages
use Rattle.label_defs.specs.declared.label_use.LabelUse.{LabelUse}
use Rattle.label_defs.specs.declared.label_use.LabelUse.TheVariants as uses
use Rattle.label_defs.specs.Keys.{fec_cmp}
use Rattle.label_defs.specs.LabelData.{Place, LabelData, same_fec, use_of, is_free, mapped_label, has_branch, has_tree, is_ready, trees}
use Rattle.label_defs.specs.Settling.{Stepped, with_use, is_ready_to, settle_all}
use Rattle.label_defs.specs.Steps.{Call, Taken, Want, Unwant, Raised, Noticed, Timers, Rerouted, released, with_release, freed, woken, without_session, effect, counted, label_step}
use Rattle.label_defs.specs.Settled.{Settled, AllSettled, WereSettled}
use Rattle.label_defs.specs.Laws.{is_free_in, needs_label, needs_new_label, passing, LacksLabels}
use Rattle.label_defs.proofs.KeyLemmas.{same_fec_equal, node_equal, node_cmp_total, node_cmp_exact}
use Rattle.label_defs.proofs.UseLemmas.{used_some, map_none}
use Rattle.label_defs.proofs.SetLemmas.{cut_here}
use Rattle.label_defs.proofs.TreeLemmas.{not_both, loose}
use Rattle.label_defs.proofs.EffectLemmas.{held}
use Rattle.label_defs.proofs.LossLemmas.{freed_stays, ready_stays, loss_adds_no_branch}
use Rattle.label_defs.proofs.CountLemmas.{Distinct, distinct_in_order, count_as, count-map, count_set}
use Rattle.label_defs.proofs.LackLemmas.{is_mapped_by, none_where}
use Rattle.label_defs.proofs.RerouteLemmas.{trees_once, none_moves}
use Rattle.label_defs.proofs.StepLemmas.{needs_nothing}

-- ---- how many labels are free in a step

released_keeps : (from : NodeId) (fec : Fec) (until : ℕ) (usage : LabelUse) → is_free (released from fec until usage) ≡ is_free usage
released_keeps from fec until uses.Free = refl
released_keeps from fec until (uses.Mapped own v) = refl
released_keeps from fec until (uses.Resting moment) = refl
released_keeps from fec until (uses.Leaving own v) = by (same_fec own fec && v.0 == from.0)
  where
    by : (t : Bool) → is_free (cond t (uses.Resting until) (uses.Leaving own v)) ≡ false
    by true = refl
    by false = refl

freed_test : (t : Bool) (usage : LabelUse) → is_free usage ≡ false → is_free (cond t uses.Free usage) ≡ t
freed_test true usage e = refl
freed_test false usage e = e

count_released : (part : LabelData) (from : NodeId) (fec : Fec) (label until : ℕ)
    → count_by is_free (with_release part from fec label until).labels ≡ count_by is_free part.labels
count_released part from fec label until = by (use_of part label) refl
  where
    by : (o : Option LabelUse) → use_of part label ≡ o
        → count_by is_free (let next : LabelData = elim o [ None ↦ part | Some usage ↦ with_use part label (released from fec until usage) ] in
        next.labels) ≡ count_by is_free part.labels
    by None e = refl
    by (Some usage) e =
        let set = count_set is_free part.labels (label - 16) usage (released from fec until usage) (used_some part.labels label usage e).1 in
        let same = ap {B = ℕ} (λ (b : Bool). cond b 1 0) (released_keeps from fec until usage) in
        omega (arith, set, same)

count_mapping : (part next : LabelData) (t : Bool) → next.labels ≡ part.labels
    → count_by is_free (cond t next part).labels ≡ count_by is_free part.labels
count_mapping part next true e = ap (λ (labels : List LabelUse). count_by is_free labels) e
count_mapping part next false e = refl

-- a test that only a free label passes
as_before : (test : LabelUse → Bool) → test uses.Free ≡ true → ((own : Fec) (u : NodeId) → test (uses.Mapped own u) ≡ false)
    → ((own : Fec) (u : NodeId) → test (uses.Leaving own u) ≡ false) → ((until : ℕ) → test (uses.Resting until) ≡ false)
    → (labels : List LabelUse) → count_by is_free labels ≡ count_by test labels
as_before test free mapped leaving resting labels = count_as is_free test by labels
  where
    by : (u : LabelUse) → is_free u ≡ test u
    by uses.Free = sym free
    by (uses.Mapped own v) = sym (mapped own v)
    by (uses.Leaving own v) = sym (leaving own v)
    by (uses.Resting until) = sym (resting until)

count_free : (place : Place) (now : ℕ) (part : LabelData) (call : Call)
    → count_by is_free (effect place now part call).0.part.labels ≡ count_by (is_free_in now call) part.labels
count_free place now part (Taken from (messages.Mapping fec label)) =
    count_mapping part _ (place.is_tree fec) refl
    ∙ as_before (is_free_in now (Taken from (messages.Mapping fec label))) refl (λ own v. refl) (λ own v. refl) (λ until. refl) part.labels
count_free place now part (Taken from (messages.Release fec label)) =
    count_released part from fec label (now + place.life + 1)
    ∙ as_before (is_free_in now (Taken from (messages.Release fec label))) refl (λ own v. refl) (λ own v. refl) (λ until. refl) part.labels
count_free place now part (Taken from (messages.Withdraw fec label)) =
    as_before (is_free_in now (Taken from (messages.Withdraw fec label))) refl (λ own v. refl) (λ own v. refl) (λ until. refl) part.labels
count_free place now part (Taken from (messages.Ignored kind)) =
    as_before (is_free_in now (Taken from (messages.Ignored kind))) refl (λ own v. refl) (λ own v. refl) (λ until. refl) part.labels
count_free place now part (Want fec) = as_before (is_free_in now (Want fec)) refl (λ own v. refl) (λ own v. refl) (λ until. refl) part.labels
count_free place now part (Unwant fec) = as_before (is_free_in now (Unwant fec)) refl (λ own v. refl) (λ own v. refl) (λ until. refl) part.labels
count_free place now part (Raised peer) = as_before (is_free_in now (Raised peer)) refl (λ own v. refl) (λ own v. refl) (λ until. refl) part.labels
count_free place now part Rerouted = as_before (is_free_in now Rerouted) refl (λ own v. refl) (λ own v. refl) (λ until. refl) part.labels
count_free place now part (Noticed peer) = count-map is_free (is_free_in now (Noticed peer)) (freed peer) (λ u. by u) part.labels
  where
    by : (u : LabelUse) → is_free (freed peer u) ≡ is_free_in now (Noticed peer) u
    by uses.Free = refl
    by (uses.Mapped own v) = freed_test (v.0 == peer.0) (uses.Mapped own v) refl
    by (uses.Leaving own v) = freed_test (v.0 == peer.0) (uses.Leaving own v) refl
    by (uses.Resting until) = refl
count_free place now part Timers = count-map is_free (is_free_in now Timers) (woken now) (λ u. by u) part.labels
  where
    by : (u : LabelUse) → is_free (woken now u) ≡ is_free_in now Timers u
    by uses.Free = refl
    by (uses.Mapped own v) = refl
    by (uses.Leaving own v) = refl
    by (uses.Resting until) = freed_test (nat_le until now) (uses.Resting until) refl

no_step : (place : Place) (now : ℕ) (part : LabelData) (call : Call) → Distinct (effect place now part call).1
    → (label_step place now part call ≡ None) ↔ (count_by (is_free_in now call) part.labels < sets.len
    (passing (needs_label place (effect place now part call).0.part) (effect place now part call).1))
no_step place now part call once =
    let own = effect place now part call in
    let which = none_where place own.1 own.0 once in
    let count = count_free place now part call in (
      λ e. (let lt = which.0 (map_none counted (settle_all place own.1 own.0) e) in
          subst (λ n. n < sets.len (passing (needs_label place own.0.part) own.1)) count lt),
      λ lt. ap (option_map counted) (which.1 (subst (λ n. n < sets.len (passing (needs_label place own.0.part) own.1)) (sym count) lt)),
    )

no_reroute : (place : Place) (now : ℕ) (part : LabelData) → WereSettled part Rerouted
    → (label_step place now part Rerouted ≡ None) ↔ LacksLabels place now part Rerouted
no_reroute place now part were =
    let own = effect place now part Rerouted in
    let which = none_moves place (trees part) (record { part = part; puts = [] }) (trees_once part) (λ fec. loose were.0 part fec (were.1 fec)) in
    let count = count_free place now part Rerouted in (
      λ e. (let lt = which.0 (map_none counted (settle_all place own.1 own.0) e) in
          subst (λ n. n < sets.len (passing (needs_new_label place part) (trees part))) count lt),
      λ lt. ap (option_map counted) (which.1 (subst (λ n. n < sets.len (passing (needs_new_label place part) (trees part))) (sym count) lt)),
    )

pub no_step_where : (place : Place) (now : ℕ) (part : LabelData) (call : Call) → WereSettled part call
    → (label_step place now part call ≡ None) ↔ LacksLabels place now part call
no_step_where place now part (Taken from (messages.Mapping fec label)) were =
    no_step place now part (Taken from (messages.Mapping fec label)) (refl, tt)
no_step_where place now part (Taken from (messages.Withdraw fec label)) were =
    no_step place now part (Taken from (messages.Withdraw fec label)) (refl, tt)
no_step_where place now part (Taken from (messages.Release fec label)) were = no_step place now part (Taken from (messages.Release fec label)) tt
no_step_where place now part (Taken from (messages.Ignored kind)) were = no_step place now part (Taken from (messages.Ignored kind)) tt
no_step_where place now part (Want fec) were = no_step place now part (Want fec) (refl, tt)
no_step_where place now part (Unwant fec) were = no_step place now part (Unwant fec) (refl, tt)
no_step_where place now part (Raised peer) were = no_step place now part (Raised peer) tt
no_step_where place now part (Noticed peer) were = no_step place now part (Noticed peer) (trees_once part)
no_step_where place now part Timers were = no_step place now part Timers (distinct_in_order part.waiting)
no_step_where place now part Rerouted were = no_reroute place now part were

-- ---- losses and raises

none_filtered : (p : Fec → Bool) → ((fec : Fec) → p fec ≡ false) → (fecs : List Fec) → filter p fecs ≡ []
none_filtered p none [] = refl
none_filtered p none (fec ∷ more) = cond-false (p fec) (fec ∷ filter p more) (filter p more) (none fec) ∙ none_filtered p none more

loss_tree : (part : LabelData) (peer : NodeId) (fec : Fec) → has_tree (without_session part peer) fec ≡ true → has_tree part fec ≡ true
loss_tree part peer fec h = elim (or_cases (has_branch (without_session part peer) fec) (sets.contains part.leaves fec) h) [
  | inl t ↦ or_left (has_branch part fec) (sets.contains part.leaves fec) (loss_adds_no_branch part peer fec t)
  | inr t ↦ or_right (has_branch part fec) (sets.contains part.leaves fec) t
]

-- what was ready and still is, is another neighbour
ready_other : (part : LabelData) (peer node : NodeId) → is_ready (without_session part peer) node ≡ true → node ≡ peer → ⊥
ready_other part peer node r e =
    not_both (is_ready (without_session part peer) node) r
    (ap held (ap (maps.get (maps.remove part.ends peer)) e ∙ cut_here node_cmp_total node_cmp_exact part.ends peer))

loss_needs : (place : Place) (part : LabelData) (peer : NodeId) → AllSettled place part → (fec : Fec)
    → needs_label place (without_session part peer) fec ≡ false
loss_needs place part peer all fec =
    let new = without_session part peer in
    false_from_ne_true (needs_label place new fec) (λ need.
    let x = and_parts (has_tree new fec) (not (is_some (mapped_label new fec)) && is_ready_to new (place.upstream fec)) need in
    let y = and_parts (not (is_some (mapped_label new fec))) (is_ready_to new (place.upstream fec)) x.1 in
    by (place.upstream fec) refl (loss_tree part peer fec x.0) y.0 y.1)
  where
    by : (o : Option NodeId) → place.upstream fec ≡ o → has_tree part fec ≡ true → not (is_some (mapped_label (without_session part peer) fec)) ≡ true
        → is_ready_to (without_session part peer) o ≡ true → ⊥
    by None e tree none ready = absurd cc
    by (Some u) e tree none ready =
        let apart = ready_other part peer u ready in
        let x = (all fec).mapped u tree e (sym (ready_stays part peer u apart) ∙ ready) in
        let is = is_mapped_by (without_session part peer) fec x.0 u (freed_stays part peer fec x.0 u apart x.1) in
        not_both (not (is_some (mapped_label (without_session part peer) fec))) none (ap not is)

pub loss_steps : (place : Place) (now : ℕ) (part : LabelData) (peer : NodeId) → AllSettled place part
    → label_step place now part (Noticed peer) ≢ None
loss_steps place now part peer all e =
    let lt = (no_step_where place now part (Noticed peer) tt).0 e in
    let empty =
    ap (λ fecs. sets.len (sets.from_list {R = fec_cmp} fecs))
    (none_filtered (needs_label place (without_session part peer)) (loss_needs place part peer all) (trees part)) ∙ sets.len-empty fec_cmp in
    omega (arith, lt, empty)

pub raise_steps : (place : Place) (now : ℕ) (part : LabelData) (peer : NodeId) → label_step place now part (Raised peer) ≢ None
raise_steps place now part peer e = absurd cc

-- ---- messages that are passed over

set_again : {X : Type 0} (xs : List X) (k : ℕ) (x : X) → slice_get xs k ≡ Some x → slice_set xs k x ≡ xs
set_again [] k x e = refl
set_again (y ∷ ys) zero x e = ap (λ z. z ∷ ys) (sym (same_Some y x e))
set_again (y ∷ ys) (suc k) x e = ap (λ zs. y ∷ zs) (set_again ys k x e)

pub mapping_passed : (place : Place) (now : ℕ) (part : LabelData) (from : NodeId) (fec : Fec) (label : ℕ) → place.is_tree fec ≡ false
    → Settled place part fec
    → label_step place now part (Taken from (messages.Mapping fec label)) ≡ Some (record { part = part; puts = [] })
mapping_passed place now part from fec label foreign s =
    let old : Stepped = record { part = part; puts = [] } in
    ap (λ p. option_map counted (settle_all place (fec ∷ []) (record { part = p; puts = [] }))) (cond-false (place.is_tree fec) _ part foreign)
    ∙ ap (option_map counted) (needs_nothing place old fec s)

same_released : (from : NodeId) (fec : Fec) (until : ℕ) (usage : LabelUse) → (usage ≡ uses.Leaving fec from → ⊥)
    → released from fec until usage ≡ usage
same_released from fec until uses.Free ne = refl
same_released from fec until (uses.Mapped own v) ne = refl
same_released from fec until (uses.Resting moment) ne = refl
same_released from fec until (uses.Leaving own v) ne = elim (cases_Bool (same_fec own fec && v.0 == from.0)) [
  | inr f ↦ cond-false (same_fec own fec && v.0 == from.0) (uses.Resting until) (uses.Leaving own v) f
  | inl t ↦
      let x = and_parts (same_fec own fec) (v.0 == from.0) t in
      let tree = same_fec_equal own fec x.0 in
      let node = node_equal v from x.1 in
      absurd (ne (λ i. uses.Leaving (tree i) (node i)))
]

release_same : (part : LabelData) (from : NodeId) (fec : Fec) (label until : ℕ) → (use_of part label ≡ Some (uses.Leaving fec from) → ⊥)
    → with_release part from fec label until ≡ part
release_same part from fec label until ne = by (use_of part label) refl
  where
    by : (o : Option LabelUse) → use_of part label ≡ o
        → (let next : LabelData = elim o [ None ↦ part | Some usage ↦ with_use part label (released from fec until usage) ] in next) ≡ part
    by None e = refl
    by (Some usage) e =
        let same = same_released from fec until usage (λ h. ne (e ∙ ap (λ (u : LabelUse). Some u) h)) in
        ap (with_use part label) same ∙ ap (λ labels. record part { labels = labels })
        (set_again part.labels (label - 16) usage (used_some part.labels label usage e).1)

pub release_passed : (place : Place) (now : ℕ) (part : LabelData) (from : NodeId) (fec : Fec) (label : ℕ)
    → (use_of part label ≡ Some (uses.Leaving fec from) → ⊥)
    → label_step place now part (Taken from (messages.Release fec label)) ≡ Some (record { part = part; puts = [] })
release_passed place now part from fec label ne =
    ap (λ (p : LabelData). Some (counted (record { part = p; puts = [] }))) (release_same part from fec label (now + place.life + 1) ne)

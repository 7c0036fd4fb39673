-- Withdraws are answered; labels that leave or rest stay so until their moment.
use Rattle.std.proofs.Common.{◌≡◌, ℕ, ◌+◌, ◌<◌, ◌==◌, nat_le, Bool, true, false, cond, ◌&&◌, ◌++◌, ◌⊎◌, inl, inr, List, [], ◌∷◌, filter, Some, option_map, refl, sym, ap, ◌∙◌}
use Rattle.std.proofs.lemmas.Bool.{cases_Bool, cond-true, cond-false, eq-eqb, eqb-true, and_parts, and_from, lt-leb}
use Rattle.std.proofs.lemmas.List.{append-nil}
use Rattle.std.proofs.lemmas.List.Elements.{filter-append}
use Rattle.std.proofs.lemmas.Option.{same_Some}
use Rattle.mldp.specs.mv_base.declared.ids.NodeId.{NodeId}
use Rattle.mldp.specs.declared.mldp_fec.fec.Fec.{Fec}
use Rattle.mldp.specs.declared.mldp_msgs.message.LabelMessage.TheVariants as messages
use Rattle.label_defs.specs.declared.label_use.LabelUse.{LabelUse}
use Rattle.label_defs.specs.declared.label_use.LabelUse.TheVariants as uses
use Rattle.label_defs.specs.declared.put.Put.{Put}
use Rattle.label_defs.specs.LabelData.{Place, LabelData, same_fec, use_of}
use Rattle.label_defs.specs.Settling.{Stepped}
use Rattle.label_defs.specs.Steps.{Call, Taken, Want, Unwant, Raised, Noticed, Timers, Rerouted, released, effect, label_step}
use Rattle.label_defs.specs.Laws.{releases, owed_releases, StopsLeaving}
use Rattle.label_defs.proofs.KeyLemmas.{same_fec_equal, same_fec_itself, node_equal, node_itself}
use Rattle.label_defs.proofs.UseLemmas.{used, set_there}
use Rattle.label_defs.proofs.TurnLemmas.{Turn}
use Rattle.label_defs.proofs.OwnLemmas.{step_keeps, own_use, effect_use}

-- ---- releases

pub withdraw_answered : (place : Place) (now : ℕ) (part : LabelData) (from : NodeId) (fec : Fec) (label : ℕ) (new : Stepped)
    → label_step place now part (Taken from (messages.Withdraw fec label)) ≡ Some new
    → (rest : List Put) × (new.puts ≡ record { to = from; message = messages.Release fec label } ∷ rest)
withdraw_answered place now part from fec label new e =
    let first : Put = record { to = from; message = messages.Release fec label } in
    step_keeps place now part (Taken from (messages.Withdraw fec label)) new (λ p puts. (rest : List Put) × (puts ≡ first ∷ rest))
    (λ old puts own next more t x. (x.0 ++ more, ap (λ (ps : List Put). ps ++ more) x.1)) (λ old x. x) ([], refl) e

abbrev is_release : Put → Bool
is_release put = releases put.message

no_release : (place : Place) (old : LabelData) (fec : Fec) (next : LabelData) (more : List Put) → Turn place old fec next more
    → filter is_release more ≡ []
no_release place old fec next more t = elim t.how [
  | inl q ↦ ap (filter is_release) q.silent
  | inr (inl m) ↦ ap (filter is_release) m.put
  | inr (inr w) ↦ ap (filter is_release) w.put
]

own_releases : (place : Place) (now : ℕ) (part : LabelData) (call : Call) → filter is_release (effect place now part call).0.puts ≡ owed_releases call
own_releases place now part (Taken from (messages.Mapping fec label)) = refl
own_releases place now part (Taken from (messages.Withdraw fec label)) = refl
own_releases place now part (Taken from (messages.Release fec label)) = refl
own_releases place now part (Taken from (messages.Ignored kind)) = refl
own_releases place now part (Want fec) = refl
own_releases place now part (Unwant fec) = refl
own_releases place now part (Raised peer) = refl
own_releases place now part (Noticed peer) = refl
own_releases place now part Timers = refl
own_releases place now part Rerouted = refl

pub only_answers : (place : Place) (now : ℕ) (part : LabelData) (call : Call) (new : Stepped) → label_step place now part call ≡ Some new
    → filter (λ (put : Put). releases put.message) new.puts ≡ owed_releases call
only_answers place now part call new e =
    step_keeps place now part call new (λ p puts. filter is_release puts ≡ owed_releases call)
    (λ old puts own next more t x. filter-append is_release puts more
    ∙ ap (λ (ps : List Put). filter is_release puts ++ ps) (no_release place old own next more t) ∙ append-nil (filter is_release puts) ∙ x)
    (λ old x. x) (own_releases place now part call) e

-- ---- labels that leave or rest

-- in a turn a label that is neither free nor mapped stays
pub turn_stays : (place : Place) (old : LabelData) (fec : Fec) (next : LabelData) (more : List Put) → Turn place old fec next more
    → (label : ℕ) (usage : LabelUse)
    → (usage ≡ uses.Free → ⊥) → ((own : Fec) (u : NodeId) → usage ≡ uses.Mapped own u → ⊥) → use_of old label ≡ Some usage
    → use_of next label ≡ Some usage
turn_stays place old fec next more t label usage not_free not_mapped is = elim t.how [
  | inl q ↦ ap (λ (labels : List LabelUse). used labels label) q.labels ∙ is
  | inr (inl m) ↦ ap (λ (labels : List LabelUse). used labels label) m.labels
      ∙ set_there old m.label uses.Free (uses.Mapped fec m.to) label m.least.free
      (λ e. not_free (same_Some usage uses.Free (sym is ∙ ap (use_of old) e ∙ m.least.free))) ∙ is
  | inr (inr w) ↦ ap (λ (labels : List LabelUse). used labels label) w.labels
      ∙ set_there old w.label (uses.Mapped fec w.to) (uses.Leaving fec w.to) label w.was
      (λ e. not_mapped fec w.to (same_Some usage (uses.Mapped fec w.to) (sym is ∙ ap (use_of old) e ∙ w.was))) ∙ is
]

-- what the effect makes neither free nor mapped stays so in the step
stays : (place : Place) (now : ℕ) (part : LabelData) (call : Call) (new : Stepped) (label : ℕ) (before usage : LabelUse) → (usage ≡ uses.Free → ⊥)
    → ((own : Fec) (u : NodeId) → usage ≡ uses.Mapped own u → ⊥)
    → use_of part label ≡ Some before → own_use place now call label before ≡ usage → label_step place now part call ≡ Some new
    → use_of new.part label ≡ Some usage
stays place now part call new label before usage not_free not_mapped is own e =
    step_keeps place now part call new (λ p puts. use_of p label ≡ Some usage)
    (λ old puts fec next more t x. turn_stays place old fec next more t label usage not_free not_mapped x) (λ old x. x)
    (effect_use place now part call label ∙ ap (option_map (own_use place now call label)) is ∙ ap (λ (u : LabelUse). Some u) own) e

pub released_rests : (place : Place) (now : ℕ) (part : LabelData) (from : NodeId) (fec : Fec) (label : ℕ) (new : Stepped)
    → use_of part label ≡ Some (uses.Leaving fec from)
    → label_step place now part (Taken from (messages.Release fec label)) ≡ Some new
    → use_of new.part label ≡ Some (uses.Resting (now + place.life + 1))
released_rests place now part from fec label new is e =
    stays place now part (Taken from (messages.Release fec label)) new label (uses.Leaving fec from) (uses.Resting (now + place.life + 1))
    (λ h. absurd cc) (λ own u h. absurd cc) is
    (cond-true (label == label) (released from fec (now + place.life + 1) (uses.Leaving fec from)) (uses.Leaving fec from) (eq-eqb label label refl)
    ∙ cond-true (same_fec fec fec && from.0 == from.0) (uses.Resting (now + place.life + 1)) (uses.Leaving fec from)
    (and_from (same_fec fec fec) (from.0 == from.0) (same_fec_itself fec) (node_itself from from refl)))
    e

either_way : {A : Type 0} (t : Bool) (x : A) → cond t x x ≡ x
either_way true x = refl
either_way false x = refl

own_rests : (place : Place) (now : ℕ) (call : Call) (label until : ℕ) → (call ≡ Timers → now < until)
    → own_use place now call label (uses.Resting until) ≡ uses.Resting until
own_rests place now (Taken from (messages.Release fec own)) label until later = either_way (label == own) (uses.Resting until)
own_rests place now (Taken from (messages.Mapping fec own)) label until later = refl
own_rests place now (Taken from (messages.Withdraw fec own)) label until later = refl
own_rests place now (Taken from (messages.Ignored kind)) label until later = refl
own_rests place now (Want fec) label until later = refl
own_rests place now (Unwant fec) label until later = refl
own_rests place now (Raised peer) label until later = refl
own_rests place now (Noticed peer) label until later = refl
own_rests place now Rerouted label until later = refl
own_rests place now Timers label until later = cond-false (nat_le until now) uses.Free (uses.Resting until) (lt-leb until now (later refl))

pub rests_on : (place : Place) (now : ℕ) (part : LabelData) (call : Call) (new : Stepped) (label until : ℕ) → (call ≡ Timers → now < until)
    → use_of part label ≡ Some (uses.Resting until)
    → label_step place now part call ≡ Some new → use_of new.part label ≡ Some (uses.Resting until)
rests_on place now part call new label until later is e =
    stays place now part call new label (uses.Resting until) (uses.Resting until) (λ h. absurd cc) (λ own u h. absurd cc) is
    (own_rests place now call label until later) e

own_leaves : (place : Place) (now : ℕ) (call : Call) (label : ℕ) (fec : Fec) (to : NodeId)
    → (own_use place now call label (uses.Leaving fec to) ≡ uses.Leaving fec to) ⊎ StopsLeaving call fec to label
own_leaves place now (Taken from (messages.Release own number)) label fec to =
    elim (cases_Bool (label == number)) [
      | inr f ↦ inl (cond-false (label == number) (released from own (now + place.life + 1) (uses.Leaving fec to)) (uses.Leaving fec to) f)
      | inl t ↦ elim (cases_Bool (same_fec fec own && to.0 == from.0)) [
        | inr f ↦ inl (cond-true (label == number) (released from own (now + place.life + 1) (uses.Leaving fec to)) (uses.Leaving fec to) t
            ∙ cond-false (same_fec fec own && to.0 == from.0) (uses.Resting (now + place.life + 1)) (uses.Leaving fec to) f)
        | inl both ↦
            let x = and_parts (same_fec fec own) (to.0 == from.0) both in
            let tree = same_fec_equal fec own x.0 in
            let node = node_equal to from x.1 in
            let same : label ≡ number = eqb-true label number t in
            inr (inl (λ i. Taken (sym node i) (messages.Release (sym tree i) (sym same i))))
      ]
    ]
own_leaves place now (Taken from (messages.Mapping own number)) label fec to = inl refl
own_leaves place now (Taken from (messages.Withdraw own number)) label fec to = inl refl
own_leaves place now (Taken from (messages.Ignored kind)) label fec to = inl refl
own_leaves place now (Want own) label fec to = inl refl
own_leaves place now (Unwant own) label fec to = inl refl
own_leaves place now (Raised peer) label fec to = inl refl
own_leaves place now (Noticed peer) label fec to = elim (cases_Bool (to.0 == peer.0)) [
  | inl t ↦ inr (inr (ap (λ (n : NodeId). Noticed n) (sym (node_equal to peer t))))
  | inr f ↦ inl (cond-false (to.0 == peer.0) uses.Free (uses.Leaving fec to) f)
]
own_leaves place now Timers label fec to = inl refl
own_leaves place now Rerouted label fec to = inl refl

pub leaves_on : (place : Place) (now : ℕ) (part : LabelData) (call : Call) (new : Stepped) (label : ℕ) (fec : Fec) (to : NodeId)
    → use_of part label ≡ Some (uses.Leaving fec to)
    → label_step place now part call ≡ Some new → (use_of new.part label ≡ Some (uses.Leaving fec to)) ⊎ StopsLeaving call fec to label
leaves_on place now part call new label fec to is e = elim (own_leaves place now call label fec to) [
  | inl own ↦ inl (stays place now part call new label (uses.Leaving fec to) (uses.Leaving fec to) (λ h. absurd cc) (λ other u h. absurd cc) is own e)
  | inr stop ↦ inr stop
]

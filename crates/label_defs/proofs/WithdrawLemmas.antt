-- A label leaves exactly where its withdraw is put.
use Rattle.std.proofs.Common.{◌≡◌, ℕ, ◌+◌, ◌==◌, Bool, true, false, cond, ◌++◌, ◌⊎◌, inl, inr, List, [], ◌∷◌, Some, option_map, refl, sym, ap, subst, ◌∙◌}
use Rattle.std.proofs.lemmas.Bool.{cases_eq, cases_Bool, cond-false}
use Rattle.std.proofs.lemmas.List.{append-nil, append_assoc}
use Rattle.std.proofs.lemmas.Option.{same_Some}
use Rattle.mldp.specs.mv_base.declared.ids.NodeId.{NodeId}
use Rattle.mldp.specs.declared.mldp_fec.fec.Fec.{Fec}
use Rattle.mldp.specs.declared.mldp_msgs.message.LabelMessage.TheVariants as messages
use Rattle.label_defs.specs.declared.label_use.LabelUse.{LabelUse}
use Rattle.label_defs.specs.declared.label_use.LabelUse.TheVariants as uses
use Rattle.label_defs.specs.declared.put.Put.{Put}
use Rattle.label_defs.specs.LabelData.{Place, LabelData, use_of, has_tree}
use Rattle.label_defs.specs.Settling.{Stepped, with_use}
use Rattle.label_defs.specs.Steps.{Call, Taken, Want, Unwant, Raised, Noticed, Timers, Rerouted, released, effect, counted, label_step}
use Rattle.label_defs.specs.Settled.{Maps}
use Rattle.label_defs.specs.Laws.{WithdrawIs, MappedThen, withdraw_to}
use Rattle.label_defs.proofs.KeyLemmas.{node_equal}
use Rattle.label_defs.proofs.UseLemmas.{used, map_some, set_here, set_there}
use Rattle.label_defs.proofs.TreeLemmas.{one_tree}
use Rattle.label_defs.proofs.EffectLemmas.{released_maps}
use Rattle.label_defs.proofs.LossLemmas.{freed_maps}
use Rattle.label_defs.proofs.TimerLemmas.{woken_maps}
use Rattle.label_defs.proofs.TurnLemmas.{SameRest, Turn, Quiet, Takes, Gives, Off, on_it}
use Rattle.label_defs.proofs.OwnLemmas.{step_keeps, own_use, effect_use, rest_tree}
use Rattle.label_defs.proofs.RestLemmas.{turn_stays}
use Rattle.label_defs.proofs.MappingLemmas.{snoc_split, same_uses, no_own_put}

-- ---- what is withdrawn was mapped

own_maps : (place : Place) (now : ℕ) (call : Call) (label : ℕ) (usage : LabelUse) (fec : Fec) (to : NodeId)
    → own_use place now call label usage ≡ uses.Mapped fec to → usage ≡ uses.Mapped fec to
own_maps place now (Taken from (messages.Release own number)) label usage fec to e = by (label == number) e
  where
    by : (t : Bool) → cond t (released from own (now + place.life + 1) usage) usage ≡ uses.Mapped fec to → usage ≡ uses.Mapped fec to
    by true e = released_maps from own fec (now + place.life + 1) usage to e
    by false e = e
own_maps place now (Taken from (messages.Mapping own number)) label usage fec to e = e
own_maps place now (Taken from (messages.Withdraw own number)) label usage fec to e = e
own_maps place now (Taken from (messages.Ignored kind)) label usage fec to e = e
own_maps place now (Want own) label usage fec to e = e
own_maps place now (Unwant own) label usage fec to e = e
own_maps place now (Raised peer) label usage fec to e = e
own_maps place now (Noticed peer) label usage fec to e = (freed_maps peer usage fec to e).0
own_maps place now Rerouted label usage fec to e = e
own_maps place now Timers label usage fec to e = woken_maps now usage fec to e

pub mapped_before : (place : Place) (now : ℕ) (part : LabelData) (call : Call) (label : ℕ) (fec : Fec) (to : NodeId)
    → Maps (effect place now part call).0.part fec label to → Maps part fec label to
mapped_before place now part call label fec to e =
    let x = map_some (own_use place now call label) (use_of part label) (uses.Mapped fec to) (sym (effect_use place now part call label) ∙ e) in
    x.1 ∙ ap (λ (u : LabelUse). Some u) (own_maps place now call label x.0 fec to x.2)

record Withdrawn (place : Place) (start part : LabelData) (to : NodeId) (fec : Fec) (label : ℕ) : Type 0 where
  was : Maps start fec label to
  leaves : use_of part label ≡ Some (uses.Leaving fec to)
  off : Off place part fec to

same_withdrawn : (place : Place) (start part : LabelData) (u v : NodeId) (f g : Fec) (l k : ℕ) → u ≡ v → f ≡ g → l ≡ k
    → Withdrawn place start part u f l → Withdrawn place start part v g k
same_withdrawn place start part u v f g l k eu ef el x =
    subst (λ (n : ℕ). Withdrawn place start part v g n) el
    (subst (λ (n : Fec). Withdrawn place start part v n l) ef (subst (λ (n : NodeId). Withdrawn place start part n f l) eu x))

rest_off : (place : Place) (old next : LabelData) → SameRest old next → (fec : Fec) (to : NodeId) → Off place old fec to → Off place next fec to
rest_off place old next same fec to (inl off) = inl (rest_tree old next same fec ∙ off)
rest_off place old next same fec to (inr away) = inr away

-- as the trees settle from the data at the start
record Told (place : Place) (start part : LabelData) (puts : List Put) : Type 0 where
  kept : (label : ℕ) (fec : Fec) (to : NodeId) → Maps part fec label to
      → Maps start fec label to ⊎ ((has_tree part fec ≡ true) × (place.upstream fec ≡ Some to))
  found : (before thereafter : List Put) (to : NodeId) (fec : Fec) (label : ℕ) → puts ≡ before ++ withdraw_to to fec label ∷ thereafter
      → Withdrawn place start part to fec label

module _ (place : Place) (start old : LabelData) (fec : Fec) (next : LabelData) (puts more : List Put) where
  carry : Turn place old fec next more → Told place start old puts → (label : ℕ) (own : Fec) (to : NodeId) → Maps old own label to
      → Maps start own label to ⊎ ((has_tree next own ≡ true) × (place.upstream own ≡ Some to))
  carry t x label own to is = elim (x.kept label own to is) [
    | inl was ↦ inl was
    | inr on ↦ inr (rest_tree old next t.rest own ∙ on.0, on.1)
  ]

  quiet_told : Turn place old fec next more → Quiet place old fec next more → Told place start old puts → Told place start next (puts ++ more)
  quiet_told t q x =
      let same : (k : ℕ) → use_of next k ≡ use_of old k = same_uses old next old.labels q.labels in
      record {
        kept = λ k own to is. carry t x k own to (sym (same k) ∙ is);
        found = λ before thereafter to own label e.
            let f = x.found before thereafter to own label (sym (ap (λ (ps : List Put). puts ++ ps) q.silent ∙ append-nil puts) ∙ e) in
            record { was = f.was; leaves = same label ∙ f.leaves; off = rest_off place old next t.rest own to f.off };
      }

  takes_told : Turn place old fec next more → Takes place old fec next more → Told place start old puts → Told place start next (puts ++ more)
  takes_told t m x =
      let same : (k : ℕ) → use_of next k ≡ use_of (with_use old m.label (uses.Mapped fec m.to)) k =
      same_uses old next (with_use old m.label (uses.Mapped fec m.to)).labels m.labels in
      let here : Maps next fec m.label m.to = same m.label ∙ set_here old m.label uses.Free (uses.Mapped fec m.to) m.least.free in
      let there : (k : ℕ) → (k ≡ m.label → ⊥) → use_of next k ≡ use_of old k =
      λ k ne. same k ∙ set_there old m.label uses.Free (uses.Mapped fec m.to) k m.least.free ne in
      let one : Put = record { to = m.to; message = messages.Mapping fec m.label } in
      record {
        kept = λ k own to is. elim (cases_eq k m.label) [
          | inl p ↦
              let both = one_tree fec own m.to to (same_Some (uses.Mapped fec m.to) (uses.Mapped own to) (sym (ap (use_of next) p ∙ here) ∙ is)) in
              inr (
                ap (has_tree next) (sym both.0) ∙ rest_tree old next t.rest fec ∙ m.tree,
                ap place.upstream (sym both.0) ∙ m.toward
                    ∙ ap (λ (x : NodeId). Some x) both.1,
              )
          | inr ne ↦ carry t x k own to (sym (there k ne) ∙ is)
        ];
        found = λ before thereafter to own label e. elim (snoc_split puts before one (withdraw_to to own label) thereafter
            (sym (ap (λ (ps : List Put). puts ++ ps) m.put) ∙ e)) [
              | inr r ↦ (let message : messages.Mapping fec m.label ≡ messages.Withdraw own label = ap (λ (put : Put). put.message) r.1 in absurd cc)
              | inl r ↦
                  let f = x.found before r.0 to own label r.1 in
                  record {
                    was = f.was;
                    off = rest_off place old next t.rest own to f.off;
                    leaves = there label (λ p. (let both = same_Some (uses.Leaving own to) uses.Free (sym f.leaves ∙ ap (use_of old) p ∙ m.least.free) in
                        absurd cc)) ∙ f.leaves;
                  }
            ];
      }

  gives_told : Turn place old fec next more → Gives place old fec next more → Told place start old puts → Told place start next (puts ++ more)
  gives_told t w x =
      let same : (k : ℕ) → use_of next k ≡ use_of (with_use old w.label (uses.Leaving fec w.to)) k =
      same_uses old next (with_use old w.label (uses.Leaving fec w.to)).labels w.labels in
      let here : use_of next w.label ≡ Some (uses.Leaving fec w.to) =
      same w.label ∙ set_here old w.label (uses.Mapped fec w.to) (uses.Leaving fec w.to) w.was in
      let there : (k : ℕ) → (k ≡ w.label → ⊥) → use_of next k ≡ use_of old k =
      λ k ne. same k ∙ set_there old w.label (uses.Mapped fec w.to) (uses.Leaving fec w.to) k w.was ne in
      let off : Off place next fec w.to = rest_off place old next t.rest fec w.to w.off in
      let was : Maps start fec w.label w.to =
      elim (x.kept w.label fec w.to w.was) [ inl was ↦ was | inr on ↦ absurd (on_it place old fec w.to on.0 on.1 w.off) ] in
      let one : Put = withdraw_to w.to fec w.label in
      record {
        kept = λ k own to is. elim (cases_eq k w.label) [
          | inl p ↦ (let both = same_Some (uses.Leaving fec w.to) (uses.Mapped own to) (sym (ap (use_of next) p ∙ here) ∙ is) in absurd cc)
          | inr ne ↦ carry t x k own to (sym (there k ne) ∙ is)
        ];
        found = λ before thereafter to own label e. elim (snoc_split puts before one (withdraw_to to own label) thereafter
            (sym (ap (λ (ps : List Put). puts ++ ps) w.put) ∙ e)) [
              | inr r ↦
                  let message : messages.Withdraw fec w.label ≡ messages.Withdraw own label = ap (λ (put : Put). put.message) r.1 in
                  let tree : fec ≡ own = cc in
                  let number : w.label ≡ label = cc in
                  same_withdrawn place start next w.to to fec own w.label label (ap (λ (put : Put). put.to) r.1) tree number
                  (record { was = was; leaves = here; off = off })
              | inl r ↦
                  let f = x.found before r.0 to own label r.1 in
                  record {
                    was = f.was;
                    off = rest_off place old next t.rest own to f.off;
                    leaves = there label (λ p. (let both = same_Some (uses.Leaving own to) (uses.Mapped fec w.to)
                        (sym f.leaves ∙ ap (use_of old) p ∙ w.was) in absurd cc)) ∙ f.leaves;
                  }
            ];
      }

  turn_told : Turn place old fec next more → Told place start old puts → Told place start next (puts ++ more)
  turn_told t x = elim t.how [
    | inl q ↦ quiet_told t q x
    | inr (inl m) ↦ takes_told t m x
    | inr (inr w) ↦ gives_told t w x
  ]

pub withdraw_is : (place : Place) (now : ℕ) (part : LabelData) (call : Call) (new : Stepped) (before thereafter : List Put) (to : NodeId) (fec : Fec)
    (label : ℕ) → label_step place now part call ≡ Some new
    → new.puts ≡ before ++ withdraw_to to fec label ∷ thereafter → WithdrawIs place part new.part to fec label
withdraw_is place now part call new before thereafter to fec label e is =
    let start = (effect place now part call).0.part in
    let told =
    step_keeps place now part call new (λ p puts. Told place start p puts)
    (λ old puts own next more t x. turn_told place start old own next puts more t x)
    (λ old x. record {
      kept = x.kept;
      found = λ b r u f l h. (let y = x.found b r u f l h in record { was = y.was; leaves = y.leaves; off = y.off });
    })
    (record { kept = λ k f u h. inl h; found = λ b r u f l h. absurd (no_own_put place now part call b r (withdraw_to u f l) refl h) }) e in
    let f = told.found before thereafter to fec label is in
    record { mapped = mapped_before place now part call label fec to f.was; leaves = f.leaves; off = f.off }

-- ---- what was mapped

own_mapped : (place : Place) (now : ℕ) (call : Call) (label : ℕ) (fec : Fec) (to : NodeId)
    → (own_use place now call label (uses.Mapped fec to) ≡ uses.Mapped fec to) ⊎ (call ≡ Noticed to)
own_mapped place now (Taken from (messages.Release own number)) label fec to = inl (by (label == number))
  where
    by : (t : Bool) → cond t (uses.Mapped fec to) (uses.Mapped fec to) ≡ uses.Mapped fec to
    by true = refl
    by false = refl
own_mapped place now (Taken from (messages.Mapping own number)) label fec to = inl refl
own_mapped place now (Taken from (messages.Withdraw own number)) label fec to = inl refl
own_mapped place now (Taken from (messages.Ignored kind)) label fec to = inl refl
own_mapped place now (Want own) label fec to = inl refl
own_mapped place now (Unwant own) label fec to = inl refl
own_mapped place now (Raised peer) label fec to = inl refl
own_mapped place now Rerouted label fec to = inl refl
own_mapped place now (Noticed peer) label fec to = elim (cases_Bool (to.0 == peer.0)) [
  | inl t ↦ inr (ap (λ (n : NodeId). Noticed n) (sym (node_equal to peer t)))
  | inr f ↦ inl (cond-false (to.0 == peer.0) uses.Free (uses.Mapped fec to) f)
]
own_mapped place now Timers label fec to = inl refl

mapped_turn : (place : Place) (old : LabelData) (puts : List Put) (fec : Fec) (next : LabelData) (more : List Put) → Turn place old fec next more
    → (label : ℕ) (own : Fec) (to : NodeId)
    → MappedThen old puts own to label → MappedThen next (puts ++ more) own to label
mapped_turn place old puts fec next more t label own to (inr x) =
    inr (record {
      leaves = turn_stays place old fec next more t label (uses.Leaving own to) (λ h. absurd cc) (λ f u h. absurd cc) x.leaves;
      before = x.before;
      thereafter = x.thereafter ++ more;
      put = ap (λ (ps : List Put). ps ++ more) x.put ∙ append_assoc x.before (withdraw_to to own label ∷ x.thereafter) more;
    })
mapped_turn place old puts fec next more t label own to (inl is) = elim t.how [
  | inl q ↦ inl (ap (λ (labels : List LabelUse). used labels label) q.labels ∙ is)
  | inr (inl m) ↦ inl (ap (λ (labels : List LabelUse). used labels label) m.labels
      ∙ set_there old m.label uses.Free (uses.Mapped fec m.to) label m.least.free
      (λ e. (let both = same_Some (uses.Mapped own to) uses.Free (sym is ∙ ap (use_of old) e ∙ m.least.free) in absurd cc)) ∙ is)
  | inr (inr w) ↦ elim (cases_eq label w.label) [
    | inr ne ↦ inl (ap (λ (labels : List LabelUse). used labels label) w.labels
        ∙ set_there old w.label (uses.Mapped fec w.to) (uses.Leaving fec w.to) label w.was ne ∙ is)
    | inl e ↦
        let both = one_tree fec own w.to to (same_Some (uses.Mapped fec w.to) (uses.Mapped own to) (sym w.was ∙ sym (ap (use_of old) e) ∙ is)) in
        let leaves =
        ap (λ (labels : List LabelUse). used labels label) w.labels ∙ ap (use_of (with_use old w.label (uses.Leaving fec w.to))) e
        ∙ set_here old w.label (uses.Mapped fec w.to) (uses.Leaving fec w.to) w.was in
        inr (record {
          leaves = leaves ∙ (λ i. Some (uses.Leaving (both.0 i) (both.1 i)));
          before = puts;
          thereafter = [];
          put = ap (λ (ps : List Put). puts ++ ps) w.put ∙ (λ i. puts ++ withdraw_to (both.1 i) (both.0 i) (sym e i) ∷ []);
        })
  ]
]

pub mapped_then : (place : Place) (now : ℕ) (part : LabelData) (call : Call) (new : Stepped) (label : ℕ) (fec : Fec) (to : NodeId)
    → label_step place now part call ≡ Some new → Maps part fec label to
    → MappedThen new.part new.puts fec to label ⊎ (call ≡ Noticed to)
mapped_then place now part call new label fec to e is = elim (own_mapped place now call label fec to) [
  | inr loss ↦ inr loss
  | inl own ↦ inl (step_keeps place now part call new (λ p puts. MappedThen p puts fec to label)
      (λ old puts f next more t x. mapped_turn place old puts f next more t label fec to x) (λ old x. same old x)
      (inl (effect_use place now part call label ∙ ap (option_map (own_use place now call label)) is ∙ ap (λ (u : LabelUse). Some u) own)) e)
]
  where
    same : (old : Stepped) → MappedThen old.part old.puts fec to label → MappedThen (counted old).part old.puts fec to label
    same old (inl x) = inl x
    same old (inr x) = inr (record { leaves = x.leaves; before = x.before; thereafter = x.thereafter; put = x.put })

-- ---- what settling keeps

record SameTrees (old new : LabelData) : Type 0 where
  branches : new.branches ≡ old.branches
  leaves : new.leaves ≡ old.leaves

settling_rest : (place : Place) (now : ℕ) (part : LabelData) (call : Call) (new : Stepped) → label_step place now part call ≡ Some new
    → SameTrees (effect place now part call).0.part new.part
settling_rest place now part call new e =
    let own = (effect place now part call).0.part in
    step_keeps place now part call new (λ p puts. SameTrees own p)
    (λ old puts fec next more t x. record { branches = t.rest.branches ∙ x.branches; leaves = t.rest.leaves ∙ x.leaves })
    (λ old x. record { branches = x.branches; leaves = x.leaves }) (record { branches = refl; leaves = refl }) e

pub same_branches : (place : Place) (now : ℕ) (part : LabelData) (call : Call) (new : Stepped) → label_step place now part call ≡ Some new
    → new.part.branches ≡ (effect place now part call).0.part.branches
same_branches place now part call new e = (settling_rest place now part call new e).branches

pub same_leaves : (place : Place) (now : ℕ) (part : LabelData) (call : Call) (new : Stepped) → label_step place now part call ≡ Some new
    → new.part.leaves ≡ (effect place now part call).0.part.leaves
same_leaves place now part call new e = (settling_rest place now part call new e).leaves

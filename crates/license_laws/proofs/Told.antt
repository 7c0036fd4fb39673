-- The labels that a node has mapped towards a neighbour are those that its messages there map, and do not withdraw.
use Rattle.std.proofs.Common.{◌≡◌, ◌≢◌, ◌⊎◌, inl, inr, ◌==◌, ◌&&◌, ℕ, Bool, true, false, cond, is_some, List, [], ◌∷◌, ◌++◌, map, Option, Some, None, refl, sym, ap, subst, ◌∙◌}
use Rattle.std.specs.FinMap as maps
use Rattle.std.specs.FinMap.{FinMap}
use Rattle.std.specs.Ordering.{eq_by_cmp}
use Rattle.std.proofs.lemmas.Bool.{cases_eq}
use Rattle.std.proofs.lemmas.List.{append-nil, append_assoc}
use Rattle.std.proofs.lemmas.Option.{same_Some}
use Rattle.mv_base.specs.declared.addr.Addr.{Addr}
use Rattle.mv_base.specs.declared.ids.NodeId.{NodeId}
use Rattle.mldp.specs.declared.mldp_fec.fec.Fec.{Fec}
use Rattle.mldp.specs.mldp_msgs.Labels.{IsMapped}
use Rattle.mldp.specs.declared.mldp_msgs.message.LabelMessage.{LabelMessage}
use Rattle.mldp.specs.declared.mldp_msgs.message.LabelMessage.TheVariants as messages
use Rattle.scenario_defs.specs.declared.event.Kind.TheVariants as kinds
use Rattle.label_defs.specs.Keys.{node_cmp}
use Rattle.label_defs.specs.LabelData.{Place, LabelData, use_of, is_up, is_ready}
use Rattle.label_defs.specs.Settling.{Stepped}
use Rattle.label_defs.specs.Steps.{Call, Taken, Want, Unwant, Raised, Noticed, Timers, Rerouted, effect, told, numbered, label_step}
use Rattle.label_defs.specs.declared.end.End.{End}
use Rattle.label_defs.specs.declared.label_use.LabelUse.{LabelUse}
use Rattle.label_defs.specs.declared.label_use.LabelUse.TheVariants as uses
use Rattle.label_defs.specs.declared.put.Put.{Put}
use Rattle.label_defs.proofs.OwnLemmas.{step_keeps}
use Rattle.label_defs.proofs.KeyLemmas.{node_equal, node_itself, node_cmp_total, node_cmp_exact}
use Rattle.label_defs.proofs.TurnLemmas.{Turn, Quiet, Takes, Gives}
use Rattle.label_defs.proofs.UseLemmas.{used, set_here, set_there}
use Rattle.label_defs.proofs.WithdrawLemmas.{mapped_before}
use Rattle.label_laws.specs.Network.{messages_to}
use Rattle.network_defs.specs.session_defs.Message.{Label}
use Rattle.network_defs.specs.session_defs.System.{messages_over}
use Rattle.table_laws.proofs.CompareLemmas.{one_key}
use Rattle.network_defs.specs.Counts.{direction}
use Rattle.network_defs.specs.node_defs.Puts.{label_put, label_puts}
use Rattle.rule_laws.specs.Labels.{labels_in}
use Rattle.label_defs.proofs.IdLemmas.{counted_up}
use Rattle.rule_laws.proofs.Puts.{over_ldp, to_both, has_end, counted_puts, here}
use Rattle.license_laws.proofs.Branches.{mapped_more, mapped_now}

-- ---- messages to a neighbour towards whom no end is up

apart_from : (ends : FinMap node_cmp End) (to : NodeId) (o : Option End) → maps.get ends to ≡ o → is_some o ≡ true → has_end ends to ≡ false → ⊥
apart_from ends to o e some none = let x : true ≡ false = sym some ∙ ap is_some (sym e) ∙ none in cc

nowhere : (n to : NodeId) (addr : Addr) (ends : FinMap node_cmp End) (puts : List Put) → has_end ends to ≡ false
    → over_ldp n to (counted_puts n addr ends puts) ≡ []
nowhere n to addr ends [] none = refl
nowhere n to addr ends (put ∷ more) none = by (λ now off. nowhere n to addr now more off) (maps.get ends put.to) refl
  where
    other : (end : End) → maps.get ends put.to ≡ Some end → (b : Bool) → (put.to.0 == to.0) ≡ b → (put.to.0 == to.0) ≡ false
    other end e true t = absurd (apart_from ends to (Some end) (ap (maps.get ends) (sym (node_equal put.to to t)) ∙ e) refl none)
    other end e false t = t

    still : (end : End) → maps.get ends put.to ≡ Some end → has_end (maps.insert ends put.to (told end)) to ≡ false
    still end e = ap is_some (maps.get-insert node_cmp_total ends put.to (told end) to) ∙ kept (eq_by_cmp node_cmp to put.to) refl
      where
        kept : (b : Bool) → eq_by_cmp node_cmp to put.to ≡ b → is_some (cond b (Some (told end)) (maps.get ends to)) ≡ false
        kept true t = absurd (apart_from ends to (Some end) (ap (maps.get ends) (one_key node_cmp_exact to put.to t) ∙ e) refl none)
        kept false t = none

    drops : (b : Bool) (rest : List _) → b ≡ false → labels_in rest ≡ [] → labels_in (cond b (Label put.message ∷ []) [] ++ rest) ≡ []
    drops true rest t e = absurd cc
    drops false rest t e = e

    both : (b : Bool) → (put.to.0 == to.0) ≡ false → (b && (put.to.0 == to.0)) ≡ false
    both true e = e
    both false e = refl

    by : ((now : FinMap node_cmp End) → has_end now to ≡ false → over_ldp n to (counted_puts n addr now more) ≡ []) → (o : Option End)
        → maps.get ends put.to ≡ o → over_ldp n to (map (label_put n addr)
        (elim o [ None ↦ numbered ends more | Some end ↦ record { id = end.next; put = put } ∷ numbered (maps.insert ends put.to (told end)) more ]))
        ≡ []
    by rest None e = rest ends none
    by rest (Some end) e =
        drops ((n.0 == n.0) && (put.to.0 == to.0)) (messages_over (direction kinds.Ldp n to)
        (counted_puts n addr (maps.insert ends put.to (told end)) more)) (both (n.0 == n.0) (other end e (put.to.0 == to.0) refl))
        (rest (maps.insert ends put.to (told end)) (still end e))

-- what goes to the neighbour, by whether the end towards it is up
abbrev told_to : Bool → NodeId → List Put → List LabelMessage
told_to h to puts = cond h (messages_to to puts) []

told_is : (n to : NodeId) (addr : Addr) (ends : FinMap node_cmp End) (puts : List Put)
    → over_ldp n to (counted_puts n addr ends puts) ≡ told_to (has_end ends to) to puts
told_is n to addr ends puts = by (has_end ends to) refl
  where
    by : (h : Bool) → has_end ends to ≡ h → over_ldp n to (counted_puts n addr ends puts) ≡ told_to h to puts
    by true e = here n to addr ends puts e
    by false e = nowhere n to addr ends puts e

-- ---- one label step

-- one message more, which does not withdraw it
told_more : (h : Bool) (to : NodeId) (before : List LabelMessage) (puts : List Put) (put : Put) (fec : Fec) (label : ℕ)
    → put.message ≢ messages.Withdraw fec label → IsMapped (before ++ told_to h to puts) fec label
    → IsMapped (before ++ told_to h to (puts ++ put ∷ [])) fec label
told_more false to before puts put fec label ne is = is
told_more true to before puts put fec label ne is =
    subst (λ (ms : List LabelMessage). IsMapped (before ++ ms) fec label) (sym (to_both to puts (put ∷ []))) (by (put.to.0 == to.0))
  where
    by : (b : Bool) → IsMapped (before ++ (messages_to to puts ++ cond b (put.message ∷ []) [])) fec label
    by true =
        subst (λ (ms : List LabelMessage). IsMapped ms fec label) (append_assoc before (messages_to to puts) (put.message ∷ []))
        (mapped_more (before ++ messages_to to puts) put.message fec label ne is)
    by false = subst (λ (ms : List LabelMessage). IsMapped (before ++ ms) fec label) (sym (append-nil (messages_to to puts))) is

told_now : (h : Bool) (to : NodeId) (before : List LabelMessage) (puts : List Put) (put : Put) (fec : Fec) (label : ℕ) → h ≡ true → put.to ≡ to
    → put.message ≡ messages.Mapping fec label → IsMapped (before ++ told_to h to (puts ++ put ∷ [])) fec label
told_now false to before puts put fec label up there is = absurd cc
told_now true to before puts put fec label up there is =
    subst (λ (ms : List LabelMessage). IsMapped (before ++ ms) fec label) (sym (to_both to puts (put ∷ [])))
    (by (put.to.0 == to.0) (node_itself put.to to there))
  where
    by : (b : Bool) → b ≡ true → IsMapped (before ++ (messages_to to puts ++ cond b (put.message ∷ []) [])) fec label
    by true e = subst (λ (ms : List LabelMessage). IsMapped ms fec label) (append_assoc before (messages_to to puts) (put.message ∷ []))
        (subst (λ (m : LabelMessage). IsMapped ((before ++ messages_to to puts) ++ m ∷ []) fec label) (sym is)
        (mapped_now (before ++ messages_to to puts) fec label))
    by false e = absurd cc

abbrev AllMapped : NodeId → List LabelMessage → LabelData → Type 0
AllMapped to ms part = (fec : Fec) (label : ℕ) → use_of part label ≡ Some (uses.Mapped fec to) → IsMapped ms fec label

-- Each label that is mapped towards the neighbour is mapped by the messages.
pub record Says (to : NodeId) (ms : List LabelMessage) (part : LabelData) : Type 0 where
  pub mapped : (fec : Fec) (label : ℕ) → use_of part label ≡ Some (uses.Mapped fec to) → IsMapped ms fec label

ready_up : (o : Option End) → (elim o as (λ _. Bool) [ None ↦ false | Some end ↦ end.held ]) ≡ true → is_some o ≡ true
ready_up None e = absurd cc
ready_up (Some end) e = refl

record Settles (place : Place) (now : ℕ) (start : LabelData) (call : Call) (to : NodeId) (before : List LabelMessage) (part : LabelData)
    (puts : List Put) : Type 0 where
  up : is_up part to ≡ is_up (effect place now start call).0.part to
  mapped : (fec : Fec) (label : ℕ) → use_of part label ≡ Some (uses.Mapped fec to)
      → IsMapped (before ++ told_to (has_end (effect place now start call).0.part.ends to) to puts) fec label

module _ (place : Place) (now : ℕ) (start : LabelData) (call : Call) (to : NodeId) (before : List LabelMessage) where
  settle_turn : (old : LabelData) (puts : List Put) (fec : Fec) (next : LabelData) (more : List Put) → Turn place old fec next more
      → Settles place now start call to before old puts → Settles place now start call to before next (puts ++ more)
  settle_turn old puts fec next more t s =
      record { up = ap (λ (ends : FinMap node_cmp End). is_some (maps.get ends to)) t.rest.ends ∙ s.up; mapped = λ own label e. by own label e t.how }
    where
      h : Bool
      h = has_end (effect place now start call).0.part.ends to

      Goal : Fec → ℕ → List Put → Type 0
      Goal own label more = IsMapped (before ++ told_to (has_end (effect place now start call).0.part.ends to) to (puts ++ more)) own label

      by : (own : Fec) (label : ℕ) → use_of next label ≡ Some (uses.Mapped own to)
          → Quiet place old fec next more ⊎ (Takes place old fec next more ⊎ Gives place old fec next more)
          → IsMapped (before ++ told_to (has_end (effect place now start call).0.part.ends to) to (puts ++ more)) own label
      by own label e (inl q) =
          subst (λ (ps : List Put). IsMapped (before ++ told_to (has_end (effect place now start call).0.part.ends to) to ps) own label)
          (sym (ap (λ (ps : List Put). puts ++ ps) q.silent ∙ append-nil puts))
          (s.mapped own label (sym (ap (λ (ls : List LabelUse). used ls label) q.labels) ∙ e))
      by own label e (inr (inl m)) =
          subst (λ (ps : List Put). IsMapped (before ++ told_to (has_end (effect place now start call).0.part.ends to) to (puts ++ ps)) own label)
          (sym m.put) (elim (cases_eq label m.label) [
            | inl same ↦
                let now_is : use_of next m.label ≡ Some (uses.Mapped fec m.to) =
                ap (λ (ls : List LabelUse). used ls m.label) m.labels ∙ set_here old m.label uses.Free (uses.Mapped fec m.to) m.least.free in
                let one : uses.Mapped fec m.to ≡ uses.Mapped own to =
                same_Some (uses.Mapped fec m.to) (uses.Mapped own to) (sym now_is ∙ ap (use_of next) (sym same) ∙ e) in
                let f_is : fec ≡ own = cc in
                let t_is : m.to ≡ to = cc in
                let up : is_up (effect place now start call).0.part to ≡ true =
                sym s.up ∙ ready_up (maps.get old.ends to) (subst (λ (x : NodeId). is_ready old x ≡ true) t_is m.ready) in
                told_now (has_end (effect place now start call).0.part.ends to) to before puts
                (record { to = m.to; message = messages.Mapping fec m.label }) own label up t_is (λ i. messages.Mapping (f_is i) (sym same i))
            | inr ne ↦
                let was : use_of old label ≡ Some (uses.Mapped own to) =
                sym (ap (λ (ls : List LabelUse). used ls label) m.labels
                ∙ set_there old m.label uses.Free (uses.Mapped fec m.to) label m.least.free ne) ∙ e in
                told_more (has_end (effect place now start call).0.part.ends to) to before puts
                (record { to = m.to; message = messages.Mapping fec m.label }) own label (λ x. absurd cc) (s.mapped own label was)
          ])
      by own label e (inr (inr w)) =
          subst (λ (ps : List Put). IsMapped (before ++ told_to (has_end (effect place now start call).0.part.ends to) to (puts ++ ps)) own label)
          (sym w.put) (elim (cases_eq label w.label) [
            | inl same ↦
                let now_is : use_of next w.label ≡ Some (uses.Leaving fec w.to) =
                ap (λ (ls : List LabelUse). used ls w.label) w.labels
                ∙ set_here old w.label (uses.Mapped fec w.to) (uses.Leaving fec w.to) w.was in
                let one : uses.Leaving fec w.to ≡ uses.Mapped own to =
                same_Some (uses.Leaving fec w.to) (uses.Mapped own to) (sym now_is ∙ ap (use_of next) (sym same) ∙ e) in
                absurd cc
            | inr ne ↦
                let was : use_of old label ≡ Some (uses.Mapped own to) =
                sym (ap (λ (ls : List LabelUse). used ls label) w.labels
                ∙ set_there old w.label (uses.Mapped fec w.to) (uses.Leaving fec w.to) label w.was ne) ∙ e in
                told_more (has_end (effect place now start call).0.part.ends to) to before puts
                (record { to = w.to; message = messages.Withdraw fec w.label }) own label (λ x. ne (let y : w.label ≡ label = cc in sym y))
                (s.mapped own label was)
          ])

  effect_settles : (mapped : (fec : Fec) (label : ℕ) → use_of start label ≡ Some (uses.Mapped fec to) → IsMapped before fec label)
      → Settles place now start call to before (effect place now start call).0.part (effect place now start call).0.puts
  effect_settles mapped =
      record {
        up = refl;
        mapped =
            λ fec label e. answered call (has_end (effect place now start call).0.part.ends to) fec label
            (mapped fec label (mapped_before place now start call label fec to e));
      }
    where
      plain : (h : Bool) (fec : Fec) (label : ℕ) → IsMapped before fec label → IsMapped (before ++ told_to h to []) fec label
      plain true fec label is = subst (λ (ms : List LabelMessage). IsMapped ms fec label) (sym (append-nil before)) is
      plain false fec label is = subst (λ (ms : List LabelMessage). IsMapped ms fec label) (sym (append-nil before)) is

      answered : (own : Call) (h : Bool) (fec : Fec) (label : ℕ) → IsMapped before fec label
          → IsMapped (before ++ told_to h to (effect place now start own).0.puts) fec label
      answered (Taken from (messages.Withdraw f l)) h fec label is =
          told_more h to before [] (record { to = from; message = messages.Release f l }) fec label (λ x. absurd cc) (plain h fec label is)
      answered (Taken from (messages.Mapping f l)) h fec label is = plain h fec label is
      answered (Taken from (messages.Release f l)) h fec label is = plain h fec label is
      answered (Taken from (messages.Ignored kind)) h fec label is = plain h fec label is
      answered (Want f) h fec label is = plain h fec label is
      answered (Unwant f) h fec label is = plain h fec label is
      answered (Raised peer) h fec label is = plain h fec label is
      answered (Noticed peer) h fec label is = plain h fec label is
      answered Timers h fec label is = plain h fec label is
      answered Rerouted h fec label is = plain h fec label is

-- A label step says what it maps.
pub step_says : (n to : NodeId) (addr : Addr) (place : Place) (now : ℕ) (part : LabelData) (call : Call) (new : Stepped) (before : List LabelMessage)
    → label_step place now part call ≡ Some new → Says to before part
    → Says to (before ++ over_ldp n to (label_puts n addr place now (record { old = part; call = call; new = new }))) new.part
step_says n to addr place now part call new before e s =
    let x = step_keeps place now part call new (Settles place now part call to before) (settle_turn place now part call to before)
    (λ old y. record { up = counted_up old to ∙ y.up; mapped = y.mapped }) (effect_settles place now part call to before s.mapped) e in
    record {
      mapped = λ fec label h. subst (λ (ms : List LabelMessage). IsMapped (before ++ ms) fec label)
          (sym (told_is n to addr (effect place now part call).0.part.ends new.puts)) (x.mapped fec label h);
    }

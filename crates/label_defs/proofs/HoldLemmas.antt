-- A hold is run by the timers alone, and when it is due; a noticed loss ends what the session had.
use Rattle.std.proofs.Common.{◌≡◌, ℕ, ◌+◌, ◌≤◌, ◌==◌, nat_le, Bool, true, false, not, ◌&&◌, ◌||◌, ◌⊎◌, inl, inr, List, Some, option_map, is_some, refl, sym, ap, subst, ◌∙◌}
use Rattle.std.specs.FinMap as maps
use Rattle.std.specs.FinMap.{FinMap}
use Rattle.std.specs.FinSet as sets
use Rattle.std.proofs.lemmas.Bool.{cases_Bool, cases_eq, cond-true, cond-false, and_parts, or_cases, leb-true, le-leb}
use Rattle.std.proofs.lemmas.Option.{same_Some, none-some}
use Rattle.mldp.specs.mv_base.declared.ids.NodeId.{NodeId}
use Rattle.mldp.specs.declared.mldp_fec.fec.Fec.{Fec}
use Rattle.label_defs.specs.declared.branch.Branch.{Branch}
use Rattle.label_defs.specs.declared.end.End.{End}
use Rattle.label_defs.specs.declared.label_use.LabelUse.{LabelUse}
use Rattle.label_defs.specs.declared.label_use.LabelUse.TheVariants as uses
use Rattle.label_defs.specs.declared.put.Put.{Put}
use Rattle.label_defs.specs.Keys.{node_cmp}
use Rattle.label_defs.specs.LabelData.{Place, LabelData, use_of, is_up, is_ready, is_hold_due}
use Rattle.label_defs.specs.Settling.{Stepped, with_use}
use Rattle.label_defs.specs.Steps.{Call, Taken, Want, Unwant, Raised, Noticed, Timers, Rerouted, freed, hold_run, raised_end, without_session, effect, label_step}
use Rattle.label_defs.specs.Laws.{is_towards, HeldBefore, HeldSince}
use Rattle.label_defs.proofs.KeyLemmas.{branch_cmp_total, branch_cmp_exact, node_cmp_total, node_cmp_exact, node_cases, node_apart}
use Rattle.label_defs.proofs.UseLemmas.{used, set_here, set_there, used-map, map_some}
use Rattle.label_defs.proofs.SetLemmas.{retained, put_here, put_other, cut_here, cut_other}
use Rattle.label_defs.proofs.TreeLemmas.{not_both}
use Rattle.label_defs.proofs.EffectLemmas.{held}
use Rattle.label_defs.proofs.TimerLemmas.{timed_end}
use Rattle.label_defs.proofs.TurnLemmas.{Turn}
use Rattle.label_defs.proofs.IdLemmas.{passed, passed_held, passed_raised, up_after, counted_ready, step_ends, step_end, effect_ends}
use Rattle.label_defs.proofs.OwnLemmas.{step_keeps, rest_ready}

-- ---- holds

-- a hold that runs was run before, or is due
held_before : (life now : ℕ) (before after : End) → hold_run life now before ≡ after → after.held ≡ true
    → (before.held ≡ true) ⊎ (after.raised + life + 1 ≤ now)
held_before life now before after e h =
    let raised : before.raised ≡ after.raised = ap (λ (x : End). x.raised) e in
    let held : (before.held || is_hold_due life now before) ≡ true = ap (λ (x : End). x.held) e ∙ h in
    elim (or_cases before.held (is_hold_due life now before) held) [
      | inl t ↦ inl t
      | inr t ↦
          let due = and_parts (not before.held) (nat_le (before.raised + life + 1) now) t in
          inr (subst (λ (moment : ℕ). moment + life + 1 ≤ now) raised (leb-true (before.raised + life + 1) now due.1))
    ]

own_held : (place : Place) (now : ℕ) (part : LabelData) (call : Call) (node : NodeId) (end : End)
    → maps.get (effect place now part call).0.part.ends node ≡ Some end → end.held ≡ true
    → HeldBefore part node end ⊎ ((call ≡ Timers) × (end.raised + place.life + 1 ≤ now))
own_held place now part (Taken from message) node end e h =
    inl (end, ap (λ (ends : FinMap node_cmp End). maps.get ends node) (sym (effect_ends place now part from message)) ∙ e, h, refl)
own_held place now part (Want fec) node end e h = inl (end, e, h, refl)
own_held place now part (Unwant fec) node end e h = inl (end, e, h, refl)
own_held place now part Rerouted node end e h = inl (end, e, h, refl)
own_held place now part (Raised peer) node end e h = elim (node_cases node peer) [
  | inr ne ↦ inl (end, sym (put_other node_cmp_total node_cmp_exact part.ends peer (raised_end now) node ne) ∙ e, h, refl)
  | inl same ↦
      let is : raised_end now ≡ end =
      same_Some (raised_end now) end (sym (ap (maps.get (maps.insert part.ends peer (raised_end now))) same
      ∙ put_here node_cmp_total node_cmp_exact part.ends peer (raised_end now)) ∙ e) in
      absurd (not_both end.held h (sym (ap (λ (x : End). x.held) is)))
]
own_held place now part (Noticed peer) node end e h = elim (node_cases node peer) [
  | inr ne ↦ inl (end, sym (cut_other node_cmp_total node_cmp_exact part.ends peer node ne) ∙ e, h, refl)
  | inl same ↦ absurd (none-some end (sym (ap (maps.get (maps.remove part.ends peer)) same ∙ cut_here node_cmp_total node_cmp_exact part.ends peer)
      ∙ e))
]
own_held place now part Timers node end e h =
    let x = map_some (hold_run place.life now) (maps.get part.ends node) end (sym (timed_end place now part node) ∙ e) in
    elim (held_before place.life now x.0 end x.2 h) [
      | inl was ↦ inl (x.0, x.1, was, ap (λ (y : End). y.raised) x.2)
      | inr due ↦ inr (refl, due)
    ]

pub held_when : (place : Place) (now : ℕ) (part : LabelData) (call : Call) (new : Stepped) (node : NodeId) (end : End)
    → label_step place now part call ≡ Some new → maps.get new.part.ends node ≡ Some end → end.held ≡ true
    → HeldBefore part node end ⊎ ((call ≡ Timers) × (end.raised + place.life + 1 ≤ now))
held_when place now part call new node end e is h =
    let x = map_some (passed node new.puts) (maps.get (effect place now part call).0.part.ends node) end
    (sym (step_end place now part call new node e) ∙ is) in
    let raised : x.0.raised ≡ end.raised = sym (passed_raised node new.puts x.0) ∙ ap (λ (y : End). y.raised) x.2 in
    let was : x.0.held ≡ true = sym (passed_held node new.puts x.0) ∙ ap (λ (y : End). y.held) x.2 ∙ h in
    elim (own_held place now part call node x.0 x.1 was) [
      | inl before ↦ inl (before.0, before.1, before.2, before.3 ∙ raised)
      | inr due ↦ inr (due.0, subst (λ (moment : ℕ). moment + place.life + 1 ≤ now) raised due.1)
    ]

due_runs : (life now : ℕ) (end : End) → end.raised + life + 1 ≤ now → (end.held || is_hold_due life now end) ≡ true
due_runs life now end due = by end.held
  where
    by : (t : Bool) → (t || (not t && nat_le (end.raised + life + 1) now)) ≡ true
    by true = refl
    by false = le-leb (end.raised + life + 1) now due

pub hold_runs : (place : Place) (now : ℕ) (part : LabelData) (new : Stepped) (node : NodeId) (end : End) → label_step place now part Timers ≡ Some new
    → maps.get part.ends node ≡ Some end → end.raised + place.life + 1 ≤ now
    → HeldSince new.part node end.raised
hold_runs place now part new node end e is due =
    let run : End = hold_run place.life now end in (
      passed node new.puts run,
      step_end place now part Timers new node e ∙ ap (option_map (passed node new.puts))
          (timed_end place now part node ∙ ap (option_map (hold_run place.life now)) is),
      passed_held node new.puts run ∙ due_runs place.life now end due,
      passed_raised node new.puts run,
    )

-- ---- losses

-- no label is of the session, and it is not ready
record Ended (peer : NodeId) (part : LabelData) : Type 0 where
  labels : (label : ℕ) (usage : LabelUse) → use_of part label ≡ Some usage → is_towards peer usage ≡ false
  ready : is_ready part peer ≡ false

ended_turn : (place : Place) (peer : NodeId) (old : LabelData) (fec : Fec) (next : LabelData) (more : List Put) → Turn place old fec next more
    → Ended peer old → Ended peer next
ended_turn place peer old fec next more t x =
    record {
      labels = elim t.how [
        | inl q ↦ λ label usage is. x.labels label usage (sym (ap (λ (labels : List LabelUse). used labels label) q.labels) ∙ is)
        | inr (inl m) ↦ λ label usage is.
            let now_is = sym (ap (λ (labels : List LabelUse). used labels label) m.labels) ∙ is in
            elim (cases_eq label m.label) [
              | inl e ↦
                  let same : uses.Mapped fec m.to ≡ usage =
                  same_Some (uses.Mapped fec m.to) usage (sym
                  (ap (use_of (with_use old m.label (uses.Mapped fec m.to))) e
                  ∙ set_here old m.label uses.Free (uses.Mapped fec m.to) m.least.free) ∙ now_is) in
                  sym (ap (is_towards peer) same) ∙ node_apart m.to peer
                  (λ p. not_both (is_ready old peer) (ap (is_ready old) (sym p) ∙ m.ready) x.ready)
              | inr ne ↦ x.labels label usage (sym (set_there old m.label uses.Free (uses.Mapped fec m.to) label m.least.free ne) ∙ now_is)
            ]
        | inr (inr w) ↦ λ label usage is.
            let now_is = sym (ap (λ (labels : List LabelUse). used labels label) w.labels) ∙ is in
            elim (cases_eq label w.label) [
              | inl e ↦
                  let same : uses.Leaving fec w.to ≡ usage =
                  same_Some (uses.Leaving fec w.to) usage
                  (sym (ap (use_of (with_use old w.label (uses.Leaving fec w.to))) e
                  ∙ set_here old w.label (uses.Mapped fec w.to) (uses.Leaving fec w.to) w.was) ∙ now_is) in
                  sym (ap (is_towards peer) same) ∙ x.labels w.label (uses.Mapped fec w.to) w.was
              | inr ne ↦ x.labels label usage (sym (set_there old w.label (uses.Mapped fec w.to) (uses.Leaving fec w.to) label w.was ne) ∙ now_is)
            ]
      ];
      ready = rest_ready old next t.rest peer ∙ x.ready;
    }

freed_towards : (peer : NodeId) (before after : LabelUse) → freed peer before ≡ after → is_towards peer after ≡ false
freed_towards peer uses.Free after e = sym (ap (is_towards peer) e)
freed_towards peer (uses.Resting until) after e = sym (ap (is_towards peer) e)
freed_towards peer (uses.Mapped fec to) after e = elim (cases_Bool (to.0 == peer.0)) [
  | inl t ↦ sym (ap (is_towards peer) (sym (cond-true (to.0 == peer.0) uses.Free (uses.Mapped fec to) t) ∙ e))
  | inr f ↦ sym (ap (is_towards peer) (sym (cond-false (to.0 == peer.0) uses.Free (uses.Mapped fec to) f) ∙ e)) ∙ f
]
freed_towards peer (uses.Leaving fec to) after e = elim (cases_Bool (to.0 == peer.0)) [
  | inl t ↦ sym (ap (is_towards peer) (sym (cond-true (to.0 == peer.0) uses.Free (uses.Leaving fec to) t) ∙ e))
  | inr f ↦ sym (ap (is_towards peer) (sym (cond-false (to.0 == peer.0) uses.Free (uses.Leaving fec to) f) ∙ e)) ∙ f
]

own_ended : (part : LabelData) (peer : NodeId) → Ended peer (without_session part peer)
own_ended part peer =
    record {
      labels = λ label usage is.
          let x = map_some (freed peer) (use_of part label) usage (sym (used-map (freed peer) part.labels label) ∙ is) in
          freed_towards peer x.0 usage x.2;
      ready = ap held (cut_here node_cmp_total node_cmp_exact part.ends peer);
    }

pub loss_frees : (place : Place) (now : ℕ) (part : LabelData) (peer : NodeId) (new : Stepped) (label : ℕ) (usage : LabelUse)
    → label_step place now part (Noticed peer) ≡ Some new → use_of new.part label ≡ Some usage → is_towards peer usage ≡ false
loss_frees place now part peer new label usage e is =
    (step_keeps place now part (Noticed peer) new (λ p puts. Ended peer p) (λ old puts fec next more t x. ended_turn place peer old fec next more t x)
    (λ old x. record { labels = x.labels; ready = counted_ready old peer ∙ x.ready }) (own_ended part peer) e).labels label usage is

pub loss_drops : (place : Place) (now : ℕ) (part : LabelData) (peer : NodeId) (new : Stepped) (branch : Branch)
    → label_step place now part (Noticed peer) ≡ Some new
    → sets.contains new.part.branches branch ≡ (sets.contains part.branches branch && not (branch.node.0 == peer.0))
loss_drops place now part peer new branch e =
    let kept : Branch → Bool = λ own. not (own.node.0 == peer.0) in
    let same : new.part.branches ≡ sets.retain part.branches kept =
    step_keeps place now part (Noticed peer) new (λ p puts. p.branches ≡ sets.retain part.branches kept)
    (λ old puts fec next more t x. t.rest.branches ∙ x) (λ old x. x) refl e in
    ap (λ branches. sets.contains branches branch) same ∙ retained branch_cmp_total branch_cmp_exact part.branches kept branch

pub loss_downs : (place : Place) (now : ℕ) (part : LabelData) (peer : NodeId) (new : Stepped) → label_step place now part (Noticed peer) ≡ Some new
    → is_up new.part peer ≡ false
loss_downs place now part peer new e =
    ap (λ (ends : FinMap node_cmp End). is_some (maps.get ends peer)) (step_ends place now part (Noticed peer) new e)
    ∙ up_after (maps.remove part.ends peer) new.puts peer
    ∙ ap is_some (cut_here node_cmp_total node_cmp_exact part.ends peer)

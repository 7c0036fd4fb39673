-- After its timers no timer of a label part is due, and while the clock stands still none becomes due.
use Rattle.std.proofs.Common.{◌≡◌, ℕ, ◌+◌, ◌-◌, ◌==◌, ◌&&◌, ◌||◌, not, nat_le, nat_lt, Bool, true, false, cond, inl, inr, List, [], ◌∷◌, map, fold, Option, Some, None, option_map, slice_get, refl, sym, ap, subst, ◌∙◌, arith}
use Rattle.std.specs.List.{AllByRecursion, sum_by, count_by}
use Rattle.std.specs.FinMap as maps
use Rattle.std.specs.FinSet as sets
use Rattle.std.proofs.lemmas.Bool.{leb-true}
use Rattle.mv_base.specs.declared.ids.NodeId.{NodeId}
use Rattle.mldp.specs.declared.mldp_fec.fec.Fec.{Fec}
use Rattle.mldp.specs.declared.mldp_msgs.message.LabelMessage.{LabelMessage}
use Rattle.mldp.specs.declared.mldp_msgs.message.LabelMessage.TheVariants as messages
use Rattle.label_defs.specs.LabelData.{Place, LabelData, same_fec, use_of, is_rested, is_hold_due, due}
use Rattle.label_defs.specs.Settling.{Stepped, with_use}
use Rattle.label_defs.specs.Steps.{branch_to, Call, Taken, Want, Unwant, Raised, Noticed, Timers, Rerouted, released, with_release, taken, woken, hold_run, effect, counted, label_step}
use Rattle.label_defs.specs.declared.end.End.{End}
use Rattle.label_defs.specs.declared.label_use.LabelUse.{LabelUse}
use Rattle.label_defs.specs.declared.label_use.LabelUse.TheVariants as uses
use Rattle.label_defs.specs.declared.put.Put.{Put}
use Rattle.label_defs.proofs.KeyLemmas.{node_cmp_total}
use Rattle.label_defs.proofs.IdLemmas.{passed, passed_held, passed_raised, get_after}
use Rattle.label_defs.proofs.OwnLemmas.{step_keeps}
use Rattle.label_defs.proofs.TimerLemmas.{timed_end}
use Rattle.label_defs.proofs.TurnLemmas.{Turn}
use Rattle.selective_defs.specs.Selective.{Among}
use Rattle.edge_words.proofs.calm_laws.Lists.{map_among}
use Rattle.edge_words.proofs.calm_laws.Maps.{entry_get}
use Rattle.network_laws.proofs.Lists.{each_set, each_at}

-- ---- sums that are 0

sum_from : {X : Type 0} (f : X → ℕ) (xs : List X) (n : ℕ) → n ≡ 0 → ((x : X) → Among x xs → f x ≡ 0) → fold (λ a x. a + f x) n xs ≡ 0
sum_from f [] n e h = e
sum_from f (x ∷ xs) n e h = let y = h x (inl refl) in sum_from f xs (n + f x) (omega (arith, e, y)) (λ z a. h z (inr a))

pub sum_zero : {X : Type 0} (f : X → ℕ) (xs : List X) → ((x : X) → Among x xs → f x ≡ 0) → sum_by f xs ≡ 0
sum_zero f xs h = sum_from f xs 0 refl h

pub count_zero : {X : Type 0} (p : X → Bool) (xs : List X) → ((x : X) → Among x xs → p x ≡ false) → count_by p xs ≡ 0
count_zero p xs h = sum_zero (λ x. cond (p x) 1 0) xs (λ x a. ap (λ (b : Bool). cond b 1 0) (h x a))

pub each_among : {X : Type 0} (P : X → Type 0) (xs : List X) → AllByRecursion P xs → (x : X) → Among x xs → P x
each_among P [] all x a = absurd a
each_among P (y ∷ ys) all x (inl e) = subst P (sym e) all.0
each_among P (y ∷ ys) all x (inr a) = each_among P ys all.1 x a

-- ---- what is not due

-- no label rests until now or before, and no hold is due
pub record Rested (life now : ℕ) (part : LabelData) : Type 0 where
  pub labels : AllByRecursion (λ (usage : LabelUse). is_rested now usage ≡ false) part.labels
  pub holds : (node : NodeId) (end : End) → maps.get part.ends node ≡ Some end → is_hold_due life now end ≡ false

pub none_due : (place : Place) (now : ℕ) (part : LabelData) → Rested place.life now part → due place now part ≡ 0
none_due place now part r =
    let labels =
    count_zero (is_rested now) part.labels (λ usage a. each_among (λ (u : LabelUse). is_rested now u ≡ false) part.labels r.labels usage a) in
    let holds = count_zero (is_hold_due place.life now) (maps.values part.ends) (λ end a.
    let by = map_among (λ (e : NodeId × End). e.1) end (maps.entries part.ends) a in
    ap (is_hold_due place.life now) by.2 ∙ r.holds by.0.0 by.0.1 (entry_get node_cmp_total part.ends by.0.0 by.0.1 by.1)) in
    omega (arith, labels, holds)

-- ---- what steps keep

later : (now life : ℕ) → nat_le (now + life + 1) now ≡ false
later now life = by (nat_le (now + life + 1) now) refl
  where
    by : (b : Bool) → nat_le (now + life + 1) now ≡ b → b ≡ false
    by true e = let le = leb-true (now + life + 1) now e in absurd (omega (arith, le))
    by false e = refl

release_rests : (now life : ℕ) (from : NodeId) (fec : Fec) (usage : LabelUse) → is_rested now usage ≡ false
    → is_rested now (released from fec (now + life + 1) usage) ≡ false
release_rests now life from fec (uses.Leaving own upstream) h =
    elim (same_fec own fec && upstream.0 == from.0) as
    (λ b. is_rested now (cond b (uses.Resting (now + life + 1)) (uses.Leaving own upstream)) ≡ false) [
      | true ↦ later now life
      | false ↦ refl
    ]
release_rests now life from fec uses.Free h = h
release_rests now life from fec (uses.Mapped own upstream) h = h
release_rests now life from fec (uses.Resting until) h = h

used_rests : (now label : ℕ) (labels : List LabelUse) (low : Bool) (usage : LabelUse)
    → AllByRecursion (λ (u : LabelUse). is_rested now u ≡ false) labels → cond low None (slice_get labels (label - 16)) ≡ Some usage
    → is_rested now usage ≡ false
used_rests now label labels true usage all e = absurd cc
used_rests now label labels false usage all e = each_at (λ (u : LabelUse). is_rested now u ≡ false) labels (label - 16) usage all e

release_kept : (life now : ℕ) (part : LabelData) (from : NodeId) (fec : Fec) (label : ℕ) → Rested life now part
    → Rested life now (with_release part from fec label (now + life + 1))
release_kept life now part from fec label r = by (use_of part label) refl
  where
    by : (o : Option LabelUse) → use_of part label ≡ o
        → Rested life now (elim o [ None ↦ part | Some usage ↦ with_use part label (released from fec (now + life + 1) usage) ])
    by None e = r
    by (Some usage) e = record {
      labels = each_set (λ (u : LabelUse). is_rested now u ≡ false) part.labels (label - 16) (released from fec (now + life + 1) usage) r.labels
          (release_rests now life from fec usage (used_rests now label part.labels (nat_lt label 16) usage r.labels e));
      holds = r.holds;
    }

taken_kept : (place : Place) (now : ℕ) (part : LabelData) (from : NodeId) (message : LabelMessage) → Rested place.life now part
    → Rested place.life now (taken place now part from message)
taken_kept place now part from (messages.Mapping fec label) r =
    elim (place.is_tree fec) as (λ b. Rested place.life now
    (cond b (record part { branches = sets.insert part.branches (branch_to from fec label) }) part))
    [ true ↦ record { labels = r.labels; holds = r.holds } | false ↦ r ]
taken_kept place now part from (messages.Withdraw fec label) r = record { labels = r.labels; holds = r.holds }
taken_kept place now part from (messages.Release fec label) r = release_kept place.life now part from fec label r
taken_kept place now part from (messages.Ignored kind) r = r

-- a tree that settles makes no label rest, and touches no hold
turn_kept : (place : Place) (now : ℕ) (old : LabelData) (puts : List Put) (fec : Fec) (next : LabelData) (more : List Put)
    → Turn place old fec next more → Rested place.life now old → Rested place.life now next
turn_kept place now old puts fec next more t r = record {
  labels = elim t.how [
    | inl q ↦ subst (AllByRecursion (λ (u : LabelUse). is_rested now u ≡ false)) (sym q.labels) r.labels
    | inr (inl m) ↦ subst (AllByRecursion (λ (u : LabelUse). is_rested now u ≡ false)) (sym m.labels)
        (each_set (λ (u : LabelUse). is_rested now u ≡ false) old.labels (m.label - 16) (uses.Mapped fec m.to) r.labels refl)
    | inr (inr g) ↦ subst (AllByRecursion (λ (u : LabelUse). is_rested now u ≡ false)) (sym g.labels)
        (each_set (λ (u : LabelUse). is_rested now u ≡ false) old.labels (g.label - 16) (uses.Leaving fec g.to) r.labels refl)
  ];
  holds = λ node end e. r.holds node end (sym (ap (λ (ends : _). maps.get ends node) t.rest.ends) ∙ e);
}

-- the id that comes next tells nothing of a hold
passed_due : (life now : ℕ) (node : NodeId) (puts : List Put) (end : End) → is_hold_due life now (passed node puts end) ≡ is_hold_due life now end
passed_due life now node puts end = λ i. not (passed_held node puts end i) && nat_le (passed_raised node puts end i + life + 1) now

counted_rests : (life now : ℕ) (old : Stepped) → Rested life now old.part → Rested life now (counted old).part
counted_rests life now old h =
    record {
      labels = h.labels;
      holds =
          λ node end e. by node end (maps.get old.part.ends node) refl (sym (get_after old.part.ends old.puts node) ∙ e);
    }
  where
    by : (node : NodeId) (end : End) (o : Option End) → maps.get old.part.ends node ≡ o → option_map (passed node old.puts) o ≡ Some end
        → is_hold_due life now end ≡ false
    by node end None was e = absurd cc
    by node end (Some own) was e =
        let same : passed node old.puts own ≡ end = cc in
        subst (λ (x : End). is_hold_due life now x ≡ false) same (passed_due life now node old.puts own ∙ h.holds node own was)

step_kept : (place : Place) (now : ℕ) (part : LabelData) (call : Call) (new : Stepped) → Rested place.life now (effect place now part call).0.part
    → label_step place now part call ≡ Some new → Rested place.life now new.part
step_kept place now part call new r e =
    step_keeps place now part call new (λ p puts. Rested place.life now p)
    (λ old puts fec next more t h. turn_kept place now old puts fec next more t h) (λ old h. counted_rests place.life now old h) r e

-- a message that is taken, and a tree of which the node becomes or stops being a leaf
abbrev pub IsInner : Call → Type 0
IsInner (Taken from message) = Unit {0}
IsInner (Want fec) = Unit {0}
IsInner (Unwant fec) = Unit {0}
IsInner other = ⊥

pub inner_rests : (place : Place) (now : ℕ) (part : LabelData) (call : Call) (new : Stepped) → IsInner call → Rested place.life now part
    → label_step place now part call ≡ Some new → Rested place.life now new.part
inner_rests place now part (Taken from message) new is r e =
    step_kept place now part (Taken from message) new (taken_kept place now part from message r) e
inner_rests place now part (Want fec) new is r e = step_kept place now part (Want fec) new (record { labels = r.labels; holds = r.holds }) e
inner_rests place now part (Unwant fec) new is r e = step_kept place now part (Unwant fec) new (record { labels = r.labels; holds = r.holds }) e
inner_rests place now part (Raised peer) new is r e = absurd is
inner_rests place now part (Noticed peer) new is r e = absurd is
inner_rests place now part Timers new is r e = absurd is
inner_rests place now part Rerouted new is r e = absurd is

-- ---- timers

woken_rests : (now : ℕ) (usage : LabelUse) → is_rested now (woken now usage) ≡ false
woken_rests now uses.Free = refl
woken_rests now (uses.Mapped fec upstream) = refl
woken_rests now (uses.Leaving fec upstream) = refl
woken_rests now (uses.Resting until) = by (nat_le until now) refl
  where
    by : (b : Bool) → nat_le until now ≡ b → is_rested now (cond b uses.Free (uses.Resting until)) ≡ false
    by true e = refl
    by false e = e

all_woken : (now : ℕ) (labels : List LabelUse) → AllByRecursion (λ (u : LabelUse). is_rested now u ≡ false) (map (woken now) labels)
all_woken now [] = tt
all_woken now (usage ∷ more) = (woken_rests now usage, all_woken now more)

run_rests : (held late : Bool) → (not (held || (not held && late)) && late) ≡ false
run_rests true late = refl
run_rests false true = refl
run_rests false false = refl

was_run : (life now : ℕ) (o : Option End) (end : End) → option_map (hold_run life now) o ≡ Some end → is_hold_due life now end ≡ false
was_run life now None end e = absurd cc
was_run life now (Some old) end e =
    let same : hold_run life now old ≡ end = cc in
    subst (λ (x : End). is_hold_due life now x ≡ false) same (run_rests old.held (nat_le (old.raised + life + 1) now))

pub timers_rest : (place : Place) (now : ℕ) (part : LabelData) (new : Stepped) → label_step place now part Timers ≡ Some new
    → Rested place.life now new.part
timers_rest place now part new e =
    step_kept place now part Timers new (record {
      labels = all_woken now part.labels;
      holds = λ node end at. was_run place.life now (maps.get part.ends node) end (sym (timed_end place now part node) ∙ at);
    }) e

-- What a call's own effect does to each label, and what holds after a whole step.
use Rattle.std.proofs.Common.{◌≡◌, ℕ, ◌+◌, ◌==◌, nat_le, Bool, true, false, cond, ◌&&◌, ◌||◌, ◌++◌, List, Option, Some, None, option_map, inl, inr, refl, sym, ap, subst, ◌∙◌}
use Rattle.std.specs.List.{list_any}
use Rattle.std.specs.FinSet as sets
use Rattle.std.specs.FinMap as maps
use Rattle.std.proofs.lemmas.Bool.{cases_eq, cond-true, cond-false, eq-eqb, ne_eqb}
use Rattle.mldp.specs.mv_base.declared.ids.NodeId.{NodeId}
use Rattle.mldp.specs.declared.mldp_fec.fec.Fec.{Fec}
use Rattle.mldp.specs.declared.mldp_msgs.message.LabelMessage.TheVariants as messages
use Rattle.label_defs.specs.declared.label_use.LabelUse.{LabelUse}
use Rattle.label_defs.specs.declared.label_use.LabelUse.TheVariants as uses
use Rattle.label_defs.specs.declared.put.Put.{Put}
use Rattle.label_defs.specs.LabelData.{Place, LabelData, same_fec, use_of, has_tree, is_ready}
use Rattle.label_defs.specs.Settling.{Stepped, with_use, settle_all}
use Rattle.label_defs.specs.Steps.{Call, Taken, Want, Unwant, Raised, Noticed, Timers, Rerouted, released, with_release, freed, woken, effect, counted, label_step}
use Rattle.label_defs.specs.Laws.{is_free_in, FreeIn}
use Rattle.label_defs.specs.Members.{in_order}
use Rattle.label_defs.proofs.UseLemmas.{set_here, set_there, used-map, map_some}
use Rattle.label_defs.proofs.EffectLemmas.{held}
use Rattle.label_defs.proofs.TurnLemmas.{SameRest, Turn, settle_all_keeps}

-- what a turn keeps of trees and ends
pub rest_tree : (old new : LabelData) → SameRest old new → (fec : Fec) → has_tree new fec ≡ has_tree old fec
rest_tree old new same fec = λ i. list_any (λ branch. same_fec branch.fec fec) (in_order (same.branches i)) || sets.contains (same.leaves i) fec

pub rest_ready : (old new : LabelData) → SameRest old new → (node : NodeId) → is_ready new node ≡ is_ready old node
rest_ready old new same node = ap (λ ends. held (maps.get ends node)) same.ends

-- What the effect shows and each turn keeps holds after the step.
pub step_keeps : (place : Place) (now : ℕ) (part : LabelData) (call : Call) (new : Stepped) (P : LabelData → List Put → Type 0)
    → ((old : LabelData) (puts : List Put) (fec : Fec) (next : LabelData) (more : List Put) → Turn place old fec next more → P old puts
    → P next (puts ++ more))
    → ((old : Stepped) → P old.part old.puts → P (counted old).part old.puts)
    → P (effect place now part call).0.part (effect place now part call).0.puts → label_step place now part call ≡ Some new → P new.part new.puts
step_keeps place now part call new P step ids start e =
    let own = effect place now part call in
    let x = map_some counted (settle_all place own.1 own.0) new e in
    subst (λ (s : Stepped). P s.part s.puts) x.2 (ids x.0 (settle_all_keeps place P step own.1 own.0 x.0 start x.1))

-- the use of a label after the call's own effect, by its use before
abbrev pub own_use : Place → ℕ → Call → ℕ → LabelUse → LabelUse
own_use place now (Taken from (messages.Release fec own)) label usage = cond (label == own) (released from fec (now + place.life + 1) usage) usage
own_use place now (Taken from other) label usage = usage
own_use place now (Want fec) label usage = usage
own_use place now (Unwant fec) label usage = usage
own_use place now (Raised peer) label usage = usage
own_use place now (Noticed peer) label usage = freed peer usage
own_use place now Timers label usage = woken now usage
own_use place now Rerouted label usage = usage

map_same : {A : Type 0} (f : A → A) → ((x : A) → f x ≡ x) → (o : Option A) → o ≡ option_map f o
map_same f same None = refl
map_same f same (Some x) = ap Some (sym (same x))

mapped_or_not : (part next : LabelData) (t : Bool) (label : ℕ) → (use_of next label ≡ use_of part label)
    → use_of (cond t next part) label ≡ use_of part label
mapped_or_not part next true label e = e
mapped_or_not part next false label e = refl

release_use : (part : LabelData) (from : NodeId) (fec : Fec) (own until label : ℕ)
    → use_of (with_release part from fec own until) label
    ≡ option_map (λ usage. cond (label == own) (released from fec until usage) usage) (use_of part label)
release_use part from fec own until label = by (use_of part own) refl
  where
    other : (label ≡ own → ⊥) → use_of part label
        ≡ option_map (λ usage. cond (label == own) (released from fec until usage) usage) (use_of part label)
    other ne =
        map_same (λ usage. cond (label == own) (released from fec until usage) usage)
        (λ x. cond-false (label == own) (released from fec until x) x (ne_eqb label own ne)) (use_of part label)

    by : (o : Option LabelUse) → use_of part own ≡ o
        → use_of (elim o [ None ↦ part | Some usage ↦ with_use part own (released from fec until usage) ]) label
        ≡ option_map (λ usage. cond (label == own) (released from fec until usage) usage) (use_of part label)
    by None e = elim (cases_eq label own) [
      | inl same ↦ (let none = ap (use_of part) same ∙ e in
          none ∙ sym (ap (option_map (λ usage. cond (label == own) (released from fec until usage) usage)) none))
      | inr ne ↦ other ne
    ]
    by (Some usage) e = elim (cases_eq label own) [
      | inl same ↦
          let some = ap (use_of part) same ∙ e in
          ap (use_of (with_use part own (released from fec until usage))) same ∙ set_here part own usage (released from fec until usage) e
          ∙ sym (ap (λ x. Some x) (cond-true (label == own) (released from fec until usage) usage (eq-eqb label own same)))
          ∙ sym (ap (option_map (λ x. cond (label == own) (released from fec until x) x)) some)
      | inr ne ↦ set_there part own usage (released from fec until usage) label e ne ∙ other ne
    ]

pub effect_use : (place : Place) (now : ℕ) (part : LabelData) (call : Call) (label : ℕ)
    → use_of (effect place now part call).0.part label ≡ option_map (own_use place now call label) (use_of part label)
effect_use place now part (Taken from (messages.Mapping fec own)) label =
    mapped_or_not part _ (place.is_tree fec) label refl ∙ map_same (λ x. x) (λ x. refl) (use_of part label)
effect_use place now part (Taken from (messages.Withdraw fec own)) label = map_same (λ x. x) (λ x. refl) (use_of part label)
effect_use place now part (Taken from (messages.Release fec own)) label = release_use part from fec own (now + place.life + 1) label
effect_use place now part (Taken from (messages.Ignored kind)) label = map_same (λ x. x) (λ x. refl) (use_of part label)
effect_use place now part (Want fec) label = map_same (λ x. x) (λ x. refl) (use_of part label)
effect_use place now part (Unwant fec) label = map_same (λ x. x) (λ x. refl) (use_of part label)
effect_use place now part (Raised peer) label = map_same (λ x. x) (λ x. refl) (use_of part label)
effect_use place now part (Noticed peer) label = used-map (freed peer) part.labels label
effect_use place now part Timers label = used-map (woken now) part.labels label
effect_use place now part Rerouted label = map_same (λ x. x) (λ x. refl) (use_of part label)

-- ---- what is free then

by_test : (t : Bool) (usage : LabelUse) → (usage ≡ uses.Free → ⊥) → cond t uses.Free usage ≡ uses.Free → t ≡ true
by_test true usage ne e = refl
by_test false usage ne e = absurd (ne e)

released_free : (from : NodeId) (fec : Fec) (until : ℕ) (usage : LabelUse) → released from fec until usage ≡ uses.Free → usage ≡ uses.Free
released_free from fec until uses.Free e = refl
released_free from fec until (uses.Mapped own v) e = e
released_free from fec until (uses.Resting moment) e = e
released_free from fec until (uses.Leaving own v) e = by (same_fec own fec && v.0 == from.0) e
  where
    by : (t : Bool) → cond t (uses.Resting until) (uses.Leaving own v) ≡ uses.Free → uses.Leaving own v ≡ uses.Free
    by true e = absurd cc
    by false e = e

is_free_then : (now : ℕ) (call : Call) (usage : LabelUse) → usage ≡ uses.Free → is_free_in now call usage ≡ true
is_free_then now call uses.Free e = refl
is_free_then now call (uses.Mapped own v) e = absurd cc
is_free_then now call (uses.Leaving own v) e = absurd cc
is_free_then now call (uses.Resting until) e = absurd cc

-- a use that the call makes free
pub own_free : (place : Place) (now : ℕ) (call : Call) (label : ℕ) (usage : LabelUse) → own_use place now call label usage ≡ uses.Free
    → is_free_in now call usage ≡ true
own_free place now (Taken from (messages.Release fec own)) label usage e =
    is_free_then now (Taken from (messages.Release fec own)) usage (by (label == own) e)
  where
    by : (t : Bool) → cond t (released from fec (now + place.life + 1) usage) usage ≡ uses.Free → usage ≡ uses.Free
    by true e = released_free from fec (now + place.life + 1) usage e
    by false e = e
own_free place now (Taken from (messages.Mapping fec own)) label usage e = is_free_then now (Taken from (messages.Mapping fec own)) usage e
own_free place now (Taken from (messages.Withdraw fec own)) label usage e = is_free_then now (Taken from (messages.Withdraw fec own)) usage e
own_free place now (Taken from (messages.Ignored kind)) label usage e = is_free_then now (Taken from (messages.Ignored kind)) usage e
own_free place now (Want fec) label usage e = is_free_then now (Want fec) usage e
own_free place now (Unwant fec) label usage e = is_free_then now (Unwant fec) usage e
own_free place now (Raised peer) label usage e = is_free_then now (Raised peer) usage e
own_free place now (Noticed peer) label uses.Free e = refl
own_free place now (Noticed peer) label (uses.Mapped own v) e = by_test (v.0 == peer.0) (uses.Mapped own v) (λ h. absurd cc) e
own_free place now (Noticed peer) label (uses.Leaving own v) e = by_test (v.0 == peer.0) (uses.Leaving own v) (λ h. absurd cc) e
own_free place now (Noticed peer) label (uses.Resting until) e = absurd cc
own_free place now Rerouted label usage e = is_free_then now Rerouted usage e
own_free place now Timers label uses.Free e = refl
own_free place now Timers label (uses.Mapped own v) e = absurd cc
own_free place now Timers label (uses.Leaving own v) e = absurd cc
own_free place now Timers label (uses.Resting until) e = by_test (nat_le until now) (uses.Resting until) (λ h. absurd cc) e

free_own_release : (t : Bool) (from : NodeId) (fec : Fec) (until : ℕ) → cond t (released from fec until uses.Free) uses.Free ≡ uses.Free
free_own_release true from fec until = refl
free_own_release false from fec until = refl

pub free_own : (place : Place) (now : ℕ) (call : Call) (label : ℕ) (usage : LabelUse) → is_free_in now call usage ≡ true
    → own_use place now call label usage ≡ uses.Free
free_own place now (Taken from (messages.Release fec own)) label uses.Free e = free_own_release (label == own) from fec (now + place.life + 1)
free_own place now (Taken from (messages.Mapping fec own)) label uses.Free e = refl
free_own place now (Taken from (messages.Withdraw fec own)) label uses.Free e = refl
free_own place now (Taken from (messages.Ignored kind)) label uses.Free e = refl
free_own place now (Want fec) label uses.Free e = refl
free_own place now (Unwant fec) label uses.Free e = refl
free_own place now (Raised peer) label uses.Free e = refl
free_own place now (Noticed peer) label uses.Free e = refl
free_own place now Timers label uses.Free e = refl
free_own place now Rerouted label uses.Free e = refl
free_own place now (Noticed peer) label (uses.Mapped own v) e = cond-true (v.0 == peer.0) uses.Free (uses.Mapped own v) e
free_own place now (Noticed peer) label (uses.Leaving own v) e = cond-true (v.0 == peer.0) uses.Free (uses.Leaving own v) e
free_own place now (Noticed peer) label (uses.Resting until) e = absurd cc
free_own place now Timers label (uses.Mapped own v) e = absurd cc
free_own place now Timers label (uses.Leaving own v) e = absurd cc
free_own place now Timers label (uses.Resting until) e = cond-true (nat_le until now) uses.Free (uses.Resting until) e
free_own place now (Taken from message) label (uses.Mapped own v) e = absurd cc
free_own place now (Taken from message) label (uses.Leaving own v) e = absurd cc
free_own place now (Taken from message) label (uses.Resting until) e = absurd cc
free_own place now (Want fec) label (uses.Mapped own v) e = absurd cc
free_own place now (Want fec) label (uses.Leaving own v) e = absurd cc
free_own place now (Want fec) label (uses.Resting until) e = absurd cc
free_own place now (Unwant fec) label (uses.Mapped own v) e = absurd cc
free_own place now (Unwant fec) label (uses.Leaving own v) e = absurd cc
free_own place now (Unwant fec) label (uses.Resting until) e = absurd cc
free_own place now (Raised peer) label (uses.Mapped own v) e = absurd cc
free_own place now Rerouted label (uses.Mapped own v) e = absurd cc
free_own place now Rerouted label (uses.Leaving own v) e = absurd cc
free_own place now Rerouted label (uses.Resting until) e = absurd cc
free_own place now (Raised peer) label (uses.Leaving own v) e = absurd cc
free_own place now (Raised peer) label (uses.Resting until) e = absurd cc

pub free_then : (place : Place) (now : ℕ) (part : LabelData) (call : Call) (label : ℕ)
    → use_of (effect place now part call).0.part label ≡ Some uses.Free → FreeIn now part call label
free_then place now part call label e =
    let x = map_some (own_use place now call label) (use_of part label) uses.Free (sym (effect_use place now part call label) ∙ e) in
    (x.0, x.1, own_free place now call label x.0 x.2)

pub then_free : (place : Place) (now : ℕ) (part : LabelData) (call : Call) (label : ℕ) → FreeIn now part call label
    → use_of (effect place now part call).0.part label ≡ Some uses.Free
then_free place now part call label x =
    effect_use place now part call label ∙ ap (option_map (own_use place now call label)) x.1
    ∙ ap (λ (u : LabelUse). Some u) (free_own place now call label x.0 x.2)

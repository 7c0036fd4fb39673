-- What messages make of the ends that they go to: the ids that come next alone.
use Rattle.std.proofs.Common.{◌≡◌, ℕ, ◌+◌, ◌≤◌, ◌==◌, Bool, true, false, cond, ◌++◌, inl, inr, List, [], ◌∷◌, Option, Some, None, option_map, is_some, refl, sym, ap, subst, ◌∙◌, arith}
use Rattle.std.specs.FinMap as maps
use Rattle.std.specs.FinMap.{FinMap}
use Rattle.std.proofs.lemmas.Bool.{cases_eq, cond-true, cond-false, eq-eqb, ne_eqb}
use Rattle.std.proofs.lemmas.Option.{same_Some, none-some}
use Rattle.mldp.specs.mv_base.declared.ids.NodeId.{NodeId}
use Rattle.mldp.specs.declared.mldp_fec.fec.Fec.{Fec}
use Rattle.mldp.specs.declared.mldp_msgs.message.LabelMessage.{LabelMessage}
use Rattle.mldp.specs.declared.mldp_msgs.message.LabelMessage.TheVariants as messages
use Rattle.label_defs.specs.declared.end.End.{End}
use Rattle.label_defs.specs.declared.label_use.LabelUse.{LabelUse}
use Rattle.label_defs.specs.declared.put.Put.{Put}
use Rattle.label_defs.specs.Keys.{node_cmp}
use Rattle.label_defs.specs.LabelData.{Place, LabelData, fresh, use_of, is_up, is_ready}
use Rattle.label_defs.specs.Settling.{Stepped, with_use, settle_all}
use Rattle.label_defs.specs.Steps.{Call, Taken, Want, Unwant, Raised, Noticed, Timers, Rerouted, released, with_release, hold_run, raised_end, next_id, told, Numbered, numbered, ends_after, effect, counted, label_step, step_puts}
use Rattle.label_defs.specs.Settled.{IdsFit}
use Rattle.label_defs.proofs.KeyLemmas.{node_cmp_total, node_cmp_exact, node_cases, node_itself, node_apart}
use Rattle.label_defs.proofs.UseLemmas.{map_some}
use Rattle.label_defs.proofs.SetLemmas.{put_here, put_other, cut_here, cut_other}
use Rattle.label_defs.proofs.EffectLemmas.{held}
use Rattle.label_defs.proofs.TimerLemmas.{timed_end}
use Rattle.label_defs.proofs.TurnLemmas.{settle_all_keeps}

-- the end towards the neighbour after messages
abbrev pub passed : NodeId → List Put → End → End
passed node [] end = end
passed node (put ∷ more) end = passed node more (cond (put.to.0 == node.0) (told end) end)

pub passed_held : (node : NodeId) (puts : List Put) (end : End) → (passed node puts end).held ≡ end.held
passed_held node [] end = refl
passed_held node (put ∷ more) end = passed_held node more (cond (put.to.0 == node.0) (told end) end) ∙ by (put.to.0 == node.0)
  where
    by : (t : Bool) → (cond t (told end) end).held ≡ end.held
    by true = refl
    by false = refl

pub passed_raised : (node : NodeId) (puts : List Put) (end : End) → (passed node puts end).raised ≡ end.raised
passed_raised node [] end = refl
passed_raised node (put ∷ more) end = passed_raised node more (cond (put.to.0 == node.0) (told end) end) ∙ by (put.to.0 == node.0)
  where
    by : (t : Bool) → (cond t (told end) end).raised ≡ end.raised
    by true = refl
    by false = refl

pub get_after : (ends : FinMap node_cmp End) (puts : List Put) (node : NodeId)
    → maps.get (ends_after ends puts) node ≡ option_map (passed node puts) (maps.get ends node)
get_after ends [] node = by (maps.get ends node)
  where
    by : (o : Option End) → o ≡ option_map (λ end. end) o
    by None = refl
    by (Some end) = refl
get_after ends (put ∷ more) node = by (λ ends'. get_after ends' more node) (maps.get ends put.to) refl
  where
    other : (put.to.0 == node.0) ≡ false → (o : Option End)
        → option_map (passed node more) o ≡ option_map (λ end. passed node more (cond (put.to.0 == node.0) (told end) end)) o
    other f None = refl
    other f (Some end) = ap (λ b. Some (passed node more (cond b (told end) end))) (sym f)

    by : ((ends' : FinMap node_cmp End) → maps.get (ends_after ends' more) node ≡ option_map (passed node more) (maps.get ends' node))
        → (o : Option End) → maps.get ends put.to ≡ o
        → maps.get (elim o [ None ↦ ends_after ends more | Some end ↦ ends_after (maps.insert ends put.to (told end)) more ]) node
        ≡ option_map (λ end. passed node more (cond (put.to.0 == node.0) (told end) end)) (maps.get ends node)
    by rest None e = rest ends ∙ elim (node_cases node put.to) [
      | inl same ↦
          let none = ap (maps.get ends) same ∙ e in
          ap (option_map (passed node more)) none ∙ sym (ap (option_map (λ end. passed node more (cond (put.to.0 == node.0) (told end) end))) none)
      | inr ne ↦ other (node_apart put.to node (λ h. ne (sym h))) (maps.get ends node)
    ]
    by rest (Some own) e = rest (maps.insert ends put.to (told own)) ∙ elim (node_cases node put.to) [
      | inl same ↦
          let here = ap (maps.get (maps.insert ends put.to (told own))) same ∙ put_here node_cmp_total node_cmp_exact ends put.to (told own) in
          let was = ap (maps.get ends) same ∙ e in
          ap (option_map (passed node more)) here ∙ ap (λ b. Some (passed node more (cond b (told own) own)))
          (sym (node_itself put.to node (sym same)))
          ∙ sym (ap (option_map (λ end. passed node more (cond (put.to.0 == node.0) (told end) end))) was)
      | inr ne ↦ ap (option_map (passed node more)) (put_other node_cmp_total node_cmp_exact ends put.to (told own) node ne)
          ∙ other (node_apart put.to node (λ h. ne (sym h))) (maps.get ends node)
    ]

-- ---- what is up and what is ready

up_passed : (node : NodeId) (puts : List Put) (o : Option End) → is_some (option_map (passed node puts) o) ≡ is_some o
up_passed node puts None = refl
up_passed node puts (Some end) = refl

held_passed : (node : NodeId) (puts : List Put) (o : Option End) → held (option_map (passed node puts) o) ≡ held o
held_passed node puts None = refl
held_passed node puts (Some end) = passed_held node puts end

pub up_after : (ends : FinMap node_cmp End) (puts : List Put) (node : NodeId)
    → is_some (maps.get (ends_after ends puts) node) ≡ is_some (maps.get ends node)
up_after ends puts node = ap is_some (get_after ends puts node) ∙ up_passed node puts (maps.get ends node)

pub held_after : (ends : FinMap node_cmp End) (puts : List Put) (node : NodeId)
    → held (maps.get (ends_after ends puts) node) ≡ held (maps.get ends node)
held_after ends puts node = ap held (get_after ends puts node) ∙ held_passed node puts (maps.get ends node)

pub counted_up : (new : Stepped) (node : NodeId) → is_up (counted new).part node ≡ is_up new.part node
counted_up new node = up_after new.part.ends new.puts node

pub counted_ready : (new : Stepped) (node : NodeId) → is_ready (counted new).part node ≡ is_ready new.part node
counted_ready new node = held_after new.part.ends new.puts node

-- ---- the ends after a step

pub step_ends : (place : Place) (now : ℕ) (part : LabelData) (call : Call) (new : Stepped) → label_step place now part call ≡ Some new
    → new.part.ends ≡ ends_after (effect place now part call).0.part.ends new.puts
step_ends place now part call new e =
    let own = effect place now part call in
    let x = map_some counted (settle_all place own.1 own.0) new e in
    let same : x.0.part.ends ≡ own.0.part.ends =
    settle_all_keeps place (λ p puts. p.ends ≡ own.0.part.ends) (λ old puts fec next more t y. t.rest.ends ∙ y) own.1 own.0 x.0 refl x.1 in
    ap (λ (s : Stepped). s.part.ends) (sym x.2) ∙ ap (λ (ends : FinMap node_cmp End). ends_after ends x.0.puts) same
    ∙ ap (λ (s : Stepped). ends_after own.0.part.ends s.puts) x.2

-- the end towards a neighbour after a step
pub step_end : (place : Place) (now : ℕ) (part : LabelData) (call : Call) (new : Stepped) (node : NodeId) → label_step place now part call ≡ Some new
    → maps.get new.part.ends node ≡ option_map (passed node new.puts) (maps.get (effect place now part call).0.part.ends node)
step_end place now part call new node e =
    ap (λ (ends : FinMap node_cmp End). maps.get ends node) (step_ends place now part call new e)
    ∙ get_after (effect place now part call).0.part.ends new.puts node

-- ---- the ids are in their range

abbrev pub Fits : ℕ → Type 0
Fits id = (1 ≤ id) × (id ≤ 4294967295)

pub next_fits : (id : ℕ) → Fits id → Fits (next_id id)
next_fits id h = elim (cases_eq id 4294967295) [
  | inl e ↦ subst Fits (sym (cond-true (id == 4294967295) 1 (id + 1) (eq-eqb id 4294967295 e))) (omega arith, omega arith)
  | inr ne ↦ subst Fits (sym (cond-false (id == 4294967295) 1 (id + 1) (ne_eqb id 4294967295 ne)))
      (omega arith, (let high = h.1 in omega (arith, high, ne)))
]

passed_fits : (node : NodeId) (puts : List Put) (end : End) → Fits end.next → Fits (passed node puts end).next
passed_fits node [] end h = h
passed_fits node (put ∷ more) end h = passed_fits node more (cond (put.to.0 == node.0) (told end) end) (by (put.to.0 == node.0))
  where
    by : (t : Bool) → Fits (cond t (told end) end).next
    by true = next_fits end.next h
    by false = h

-- the next ids of ends
abbrev pub AllFit : FinMap node_cmp End → Type 0
AllFit ends = (node : NodeId) (end : End) → maps.get ends node ≡ Some end → Fits end.next

put_fits : (ends : FinMap node_cmp End) (peer : NodeId) (own : End) → Fits own.next → AllFit ends → AllFit (maps.insert ends peer own)
put_fits ends peer own h all node end e = elim (node_cases node peer) [
  | inl same ↦ subst (λ (x : End). Fits x.next)
      (same_Some own end (sym (ap (maps.get (maps.insert ends peer own)) same ∙ put_here node_cmp_total node_cmp_exact ends peer own) ∙ e)) h
  | inr ne ↦ all node end (sym (put_other node_cmp_total node_cmp_exact ends peer own node ne) ∙ e)
]

mapping_ends : (part next : LabelData) (t : Bool) → next.ends ≡ part.ends → (cond t next part).ends ≡ part.ends
mapping_ends part next true e = e
mapping_ends part next false e = refl

release_ends : (part : LabelData) (from : NodeId) (fec : Fec) (label until : ℕ) → (with_release part from fec label until).ends ≡ part.ends
release_ends part from fec label until = by (use_of part label)
  where
    by : (o : Option LabelUse) → (let next : LabelData = elim o [ None ↦ part | Some usage ↦ with_use part label (released from fec until usage) ] in
        next.ends) ≡ part.ends
    by None = refl
    by (Some usage) = refl

-- a call's own effect on the ends, where it is no raise, no loss and no timer
pub effect_ends : (place : Place) (now : ℕ) (part : LabelData) (from : NodeId) (message : LabelMessage)
    → (effect place now part (Taken from message)).0.part.ends ≡ part.ends
effect_ends place now part from (messages.Mapping fec label) = mapping_ends part _ (place.is_tree fec) refl
effect_ends place now part from (messages.Withdraw fec label) = refl
effect_ends place now part from (messages.Release fec label) = release_ends part from fec label (now + place.life + 1)
effect_ends place now part from (messages.Ignored kind) = refl

effect_fits : (place : Place) (now : ℕ) (part : LabelData) (call : Call) → AllFit part.ends → AllFit (effect place now part call).0.part.ends
effect_fits place now part (Taken from message) all = subst AllFit (sym (effect_ends place now part from message)) all
effect_fits place now part (Want fec) all = all
effect_fits place now part (Unwant fec) all = all
effect_fits place now part (Raised peer) all = put_fits part.ends peer (raised_end now) (omega arith, omega arith) all
effect_fits place now part (Noticed peer) all = λ node end e. elim (node_cases node peer) [
  | inl same ↦ absurd (none-some end (sym (ap (maps.get (maps.remove part.ends peer)) same ∙ cut_here node_cmp_total node_cmp_exact part.ends peer)
      ∙ e))
  | inr ne ↦ all node end (sym (cut_other node_cmp_total node_cmp_exact part.ends peer node ne) ∙ e)
]
effect_fits place now part Timers all = λ node end e.
    let x = map_some (hold_run place.life now) (maps.get part.ends node) end (sym (timed_end place now part node) ∙ e) in
    subst (λ (own : End). Fits own.next) x.2 (all node x.0 x.1)
effect_fits place now part Rerouted all = all

pub fresh_fits : (count : ℕ) → IdsFit (fresh count)
fresh_fits count node end e = absurd (none-some end (sym (maps.get-empty node_cmp node) ∙ e))

pub step_fits : (place : Place) (now : ℕ) (part : LabelData) (call : Call) (new : Stepped) → IdsFit part → label_step place now part call ≡ Some new
    → IdsFit new.part
step_fits place now part call new all e node end is =
    let x = map_some (passed node new.puts) (maps.get (effect place now part call).0.part.ends node) end
    (sym (step_end place now part call new node e) ∙ is) in
    subst (λ (own : End). Fits own.next) x.2 (passed_fits node new.puts x.0 (effect_fits place now part call all node x.0 x.1))

-- each id of a row of messages
numbered_fit : (ends : FinMap node_cmp End) (puts : List Put) → AllFit ends → (before thereafter : List Numbered) (own : Numbered)
    → numbered ends puts ≡ before ++ own ∷ thereafter → Fits own.id
numbered_fit ends [] all [] thereafter own e = absurd cc
numbered_fit ends [] all (x ∷ before) thereafter own e = absurd cc
numbered_fit ends (put ∷ more) all before thereafter own e =
    by (λ ends' all' before'. numbered_fit ends' more all' before' thereafter own) (maps.get ends put.to) refl before e
  where
    by : ((ends' : FinMap node_cmp End) → AllFit ends' → (before' : List Numbered) → numbered ends' more ≡ before' ++ own ∷ thereafter → Fits own.id)
        → (o : Option End) → maps.get ends put.to ≡ o → (front : List Numbered)
        → (elim o [ None ↦ numbered ends more | Some end ↦ record { id = end.next; put = put } ∷ numbered (maps.insert ends put.to (told end)) more ])
        ≡ front ++ own ∷ thereafter → Fits own.id
    by rest None is front e = rest ends all front e
    by rest (Some end) is [] e = (let first : end.next ≡ own.id = cc in subst Fits first (all put.to end is))
    by rest (Some end) is (x ∷ front) e =
        let tail : numbered (maps.insert ends put.to (told end)) more ≡ front ++ own ∷ thereafter = cc in
        rest (maps.insert ends put.to (told end)) (put_fits ends put.to (told end) (next_fits end.next (all put.to end is)) all) front tail

pub puts_fit : (place : Place) (now : ℕ) (part : LabelData) (call : Call) (puts : List Put) (before thereafter : List Numbered) (put : Numbered)
    → IdsFit part → step_puts place now part call puts ≡ before ++ put ∷ thereafter → Fits put.id
puts_fit place now part call puts before thereafter put all e =
    numbered_fit (effect place now part call).0.part.ends puts (effect_fits place now part call all) before thereafter put e

-- What the steps of a node do to the ends of its sessions over LDP.
use Rattle.std.specs.Prelude.{⊤}
use Rattle.std.proofs.Common.{◌≡◌, ℕ, ◌+◌, ◌==◌, Bool, true, false, not, cond, nat_le, ◌&&◌, ◌||◌, ◌++◌, map, List, [], ◌∷◌, Option, Some, None, option_map, inl, inr, refl, sym, ap, ◌∙◌}
use Rattle.std.specs.Prelude.{if◌then◌else◌}
use Rattle.std.specs.List.{filter, AllByRecursion}
use Rattle.std.specs.FinMap as maps
use Rattle.std.specs.FinMap.{FinMap}
use Rattle.std.specs.FinSet as sets
use Rattle.std.specs.FinSet.{FinSet}
use Rattle.std.proofs.lemmas.Bool.{cond-true, cond-false}
use Rattle.mv_base.specs.Number.{◌>>?◌}
use Rattle.mv_base.specs.declared.ids.NodeId.{NodeId}
use Rattle.mldp.specs.declared.mldp_fec.fec.Fec.{Fec}
use Rattle.mldp.specs.declared.mldp_msgs.message.LabelMessage.TheVariants as messages
use Rattle.label_defs.specs.declared.end.End.{End}
use Rattle.label_defs.specs.declared.label_use.LabelUse.{LabelUse}
use Rattle.label_defs.specs.Keys.{node_cmp, fec_cmp}
use Rattle.label_defs.specs.LabelData.{Place, LabelData, use_of}
use Rattle.label_defs.specs.Settling.{Stepped, with_use}
use Rattle.label_defs.specs.declared.put.Put.{Put}
use Rattle.label_defs.specs.Steps as labels
use Rattle.label_defs.specs.Steps.{Call, Taken, Want, Unwant, Raised, Noticed, Timers, Rerouted, released, with_release, told, ends_after, effect, label_step}
use Rattle.network_defs.specs.mvpn_model.Unready.{hold_run}
use Rattle.network_defs.specs.mvpn_model.declared.readiness.UpEnd.{UpEnd}
use Rattle.label_defs.specs.Members.{in_order}
use Rattle.label_defs.proofs.KeyLemmas.{node_cmp_total, node_cmp_exact, node_cases, node_itself, node_apart}
use Rattle.label_defs.proofs.SetLemmas.{put_here, put_other, cut_here, cut_other}
use Rattle.label_defs.proofs.TimerLemmas.{timed_end}
use Rattle.label_defs.proofs.OwnLemmas.{step_keeps}
use Rattle.network_defs.specs.edge_defs.Place.{EdgePlace, label_place}
use Rattle.network_defs.specs.edge_defs.Steps.{LabelStep, changed_leaves, one_call, label_row, part_after}

-- ---- what may be there

-- what is there, if anything, has the property
abbrev pub Holds : {A : Type 0} → (A → Type 0) → Option A → Type 0
Holds P None = ⊤
Holds P (Some x) = P x

pub holds_from : {A : Type 0} (P : A → Type 0) (o : Option A) → ((x : A) → o ≡ Some x → P x) → Holds P o
holds_from P None h = tt
holds_from P (Some x) h = h x refl

pub holds_then : {A B : Type 0} (P : A → Type 0) (Q : B → Type 0) (o : Option A) (next : A → Option B) → Holds P o
    → ((x : A) → P x → Holds Q (next x)) → Holds Q (o >>? next)
holds_then P Q None next p h = tt
holds_then P Q (Some x) next p h = h x p

-- ---- a label step

-- what of an end says whether it is ready
abbrev pub up_end : End → UpEnd
up_end end = record { raised = end.raised; held = end.held }

abbrev pub up_in : FinMap node_cmp End → NodeId → Option UpEnd
up_in ends peer = option_map up_end (maps.get ends peer)

-- the end of a session that comes up
abbrev pub new_end : ℕ → UpEnd
new_end now = record { raised = now; held = false }

-- an end after the timers
abbrev pub end_run : ℕ → ℕ → Option UpEnd → Option UpEnd
end_run life now old = elim old [ None ↦ None | Some end ↦ Some (hold_run life now end) ]

-- the end of the session with a peer after a call, by what it was before
abbrev pub end_by : ℕ → ℕ → Call → NodeId → Option UpEnd → Option UpEnd
end_by life now (Raised own) peer old = if peer.0 == own.0 then Some (new_end now) else old
end_by life now (Noticed own) peer old = if peer.0 == own.0 then None else old
end_by life now Timers peer old = end_run life now old
end_by life now other peer old = old

or_else : (t u : Bool) → (t || (not t && u)) ≡ (t || u)
or_else true u = refl
or_else false u = refl

run_is : (life now : ℕ) (o : Option End) → option_map up_end (option_map (labels.hold_run life now) o) ≡ end_run life now (option_map up_end o)
run_is life now None = refl
run_is life now (Some end) = λ i. Some (record { raised = end.raised; held = or_else end.held (nat_le (end.raised + life + 1) now) i })

either_ends : (part next : LabelData) (t : Bool) → next.ends ≡ part.ends → (cond t next part).ends ≡ part.ends
either_ends part next true e = e
either_ends part next false e = refl

release_ends : (part : LabelData) (from : NodeId) (fec : Fec) (label until : ℕ) → (with_release part from fec label until).ends ≡ part.ends
release_ends part from fec label until = by (use_of part label)
  where
    by : (o : Option LabelUse) → (let next : LabelData = elim o [ None ↦ part | Some usage ↦ with_use part label (released from fec until usage) ] in
        next.ends) ≡ part.ends
    by None = refl
    by (Some usage) = refl

effect_end : (place : Place) (now : ℕ) (part : LabelData) (call : Call) (peer : NodeId)
    → up_in (effect place now part call).0.part.ends peer ≡ end_by place.life now call peer (up_in part.ends peer)
effect_end place now part (Taken from (messages.Mapping fec label)) peer =
    ap (λ (ends : FinMap node_cmp End). up_in ends peer) (either_ends part _ (place.is_tree fec) refl)
effect_end place now part (Taken from (messages.Withdraw fec label)) peer = refl
effect_end place now part (Taken from (messages.Release fec label)) peer =
    ap (λ (ends : FinMap node_cmp End). up_in ends peer) (release_ends part from fec label (now + place.life + 1))
effect_end place now part (Taken from (messages.Ignored kind)) peer = refl
effect_end place now part (Want fec) peer = refl
effect_end place now part (Unwant fec) peer = refl
effect_end place now part (Raised own) peer = elim (node_cases peer own) [
  | inl e ↦ ap (up_in (maps.insert part.ends own (labels.raised_end now))) e
      ∙ ap (option_map up_end) (put_here node_cmp_total node_cmp_exact part.ends own (labels.raised_end now))
      ∙ sym (cond-true (peer.0 == own.0) (Some (new_end now)) (up_in part.ends peer) (node_itself peer own e))
  | inr ne ↦ ap (option_map up_end) (put_other node_cmp_total node_cmp_exact part.ends own (labels.raised_end now) peer ne)
      ∙ sym (cond-false (peer.0 == own.0) (Some (new_end now)) (up_in part.ends peer) (node_apart peer own ne))
]
effect_end place now part (Noticed own) peer = elim (node_cases peer own) [
  | inl e ↦ ap (up_in (maps.remove part.ends own)) e ∙ ap (option_map up_end) (cut_here node_cmp_total node_cmp_exact part.ends own)
      ∙ sym (cond-true (peer.0 == own.0) None (up_in part.ends peer) (node_itself peer own e))
  | inr ne ↦ ap (option_map up_end) (cut_other node_cmp_total node_cmp_exact part.ends own peer ne)
      ∙ sym (cond-false (peer.0 == own.0) None (up_in part.ends peer) (node_apart peer own ne))
]
effect_end place now part Timers peer = ap (option_map up_end) (timed_end place now part peer) ∙ run_is place.life now (maps.get part.ends peer)
effect_end place now part Rerouted peer = refl

-- A message that is put changes the next id of its end alone.
told_up : (ends : FinMap node_cmp End) (to : NodeId) (end : End) → maps.get ends to ≡ Some end → (peer : NodeId)
    → up_in (maps.insert ends to (told end)) peer ≡ up_in ends peer
told_up ends to end e peer = elim (node_cases peer to) [
  | inl same ↦ ap (up_in (maps.insert ends to (told end))) same
      ∙ ap (option_map up_end) (put_here node_cmp_total node_cmp_exact ends to (told end) ∙ sym (ap (option_map told) e))
      ∙ by (maps.get ends to)
      ∙ ap (up_in ends) (sym same)
  | inr ne ↦ ap (option_map up_end) (put_other node_cmp_total node_cmp_exact ends to (told end) peer ne)
]
  where
    by : (o : Option End) → option_map up_end (option_map told o) ≡ option_map up_end o
    by None = refl
    by (Some x) = refl

ends_up : (puts : List Put) (ends : FinMap node_cmp End) (peer : NodeId) → up_in (ends_after ends puts) peer ≡ up_in ends peer
ends_up [] ends peer = refl
ends_up (put ∷ more) ends peer = by (maps.get ends put.to) refl (λ all. ends_up more all peer)
  where
    by : (o : Option End) → maps.get ends put.to ≡ o → ((all : FinMap node_cmp End) → up_in (ends_after all more) peer ≡ up_in all peer)
        → up_in (elim o [ None ↦ ends_after ends more | Some end ↦ ends_after (maps.insert ends put.to (told end)) more ]) peer ≡ up_in ends peer
    by None e h = h ends
    by (Some end) e h = h (maps.insert ends put.to (told end)) ∙ told_up ends put.to end e peer

-- The trees that settle change no end, but for the ids of what they put.
pub step_end : (place : Place) (now : ℕ) (part : LabelData) (call : Call)
    → Holds (λ (new : Stepped). (peer : NodeId) → up_in new.part.ends peer ≡ end_by place.life now call peer (up_in part.ends peer))
    (label_step place now part call)
step_end place now part call =
    holds_from (λ (new : Stepped). (peer : NodeId) → up_in new.part.ends peer ≡ end_by place.life now call peer (up_in part.ends peer))
    (label_step place now part call) (λ new e peer.
    step_keeps place now part call new (λ p puts. up_in p.ends peer ≡ up_in (effect place now part call).0.part.ends peer)
    (λ old puts fec next more t x. ap (λ (ends : FinMap node_cmp End). up_in ends peer) t.rest.ends ∙ x)
    (λ old x. ends_up old.puts old.part.ends peer ∙ x) refl e
    ∙ effect_end place now part call peer)

-- ---- the row of label steps of an edge

-- the call is one of a leaf
abbrev pub IsOfLeaf : Call → Type 0
IsOfLeaf (Want fec) = ⊤
IsOfLeaf (Unwant fec) = ⊤
IsOfLeaf other = ⊥

leaf_end : (life now : ℕ) (call : Call) (peer : NodeId) (old : Option UpEnd) → IsOfLeaf call → end_by life now call peer old ≡ old
leaf_end life now (Want fec) peer old h = refl
leaf_end life now (Unwant fec) peer old h = refl
leaf_end life now other peer old h = absurd h

each_leaf : (new : FinSet fec_cmp) (fecs : List Fec)
    → AllByRecursion IsOfLeaf (map (λ fec. if sets.contains new fec then Want fec else Unwant fec) fecs)
each_leaf new [] = tt
each_leaf new (fec ∷ more) = (by (sets.contains new fec), each_leaf new more)
  where
    by : (t : Bool) → IsOfLeaf (if t then Want fec else Unwant fec)
    by true = tt
    by false = tt

pub leaves_are : (old new : FinSet fec_cmp) → AllByRecursion IsOfLeaf (changed_leaves old new)
leaves_are old new = each_leaf new (filter (λ fec. not (sets.contains old fec && sets.contains new fec)) (in_order (sets.union old new)))

-- the ends after a row are those before it
abbrev SameBehind : LabelData → List LabelStep → Type 0
SameBehind part row = (peer : NodeId) → up_in (part_after part row).ends peer ≡ up_in part.ends peer

leaves_end : (place : EdgePlace) (now : ℕ) (part : LabelData) (calls : List Call) → AllByRecursion IsOfLeaf calls
    → Holds (SameBehind part) (label_row place now part calls)
leaves_end place now part [] h = λ peer. refl
leaves_end place now part (call ∷ more) h =
    holds_then (λ (new : Stepped). (peer : NodeId) → up_in new.part.ends peer ≡ end_by place.scenario.life now call peer (up_in part.ends peer))
    (SameBehind part)
    (label_step (label_place place.scenario place.core place.me) now part call)
    (λ new. label_row place now new.part more >>? λ thereafter. Some (record { old = part; call = call; new = new } ∷ thereafter))
    (step_end (label_place place.scenario place.core place.me) now part call) (λ new p.
    holds_then (SameBehind new.part) (SameBehind part) (label_row place now new.part more)
    (λ thereafter. Some (record { old = part; call = call; new = new } ∷ thereafter))
    (leaves_end place now new.part more h.1) (λ thereafter q peer. q peer ∙ p peer
    ∙ leaf_end place.scenario.life now call peer (up_in part.ends peer) h.0))

-- the end of the session with a peer after the call that a step makes, if it makes one
abbrev pub end_with : ℕ → ℕ → Option Call → NodeId → Option UpEnd → Option UpEnd
end_with life now None peer old = old
end_with life now (Some call) peer old = end_by life now call peer old

-- the ends after a row are those of its first call
abbrev pub EndsBehind : ℕ → ℕ → Option Call → LabelData → LabelData → Type 0
EndsBehind life now own old new = (peer : NodeId) → up_in new.ends peer ≡ end_with life now own peer (up_in old.ends peer)

pub row_end : (place : EdgePlace) (now : ℕ) (part : LabelData) (own : Option Call) (calls : List Call) → AllByRecursion IsOfLeaf calls
    → Holds (λ row. EndsBehind place.scenario.life now own part (part_after part row)) (label_row place now part (one_call own ++ calls))
row_end place now part None calls h = leaves_end place now part calls h
row_end place now part (Some call) calls h =
    holds_then (λ (new : Stepped). (peer : NodeId) → up_in new.part.ends peer ≡ end_by place.scenario.life now call peer (up_in part.ends peer))
    (λ row. EndsBehind place.scenario.life now (Some call) part (part_after part row))
    (label_step (label_place place.scenario place.core place.me) now part call)
    (λ new. label_row place now new.part calls >>? λ thereafter. Some (record { old = part; call = call; new = new } ∷ thereafter))
    (step_end (label_place place.scenario place.core place.me) now part call) (λ new p.
    holds_then (SameBehind new.part) (λ row. EndsBehind place.scenario.life now (Some call) part (part_after part row))
    (label_row place now new.part calls) (λ thereafter. Some (record { old = part; call = call; new = new } ∷ thereafter))
    (leaves_end place now new.part calls h) (λ thereafter q peer. q peer ∙ p peer))

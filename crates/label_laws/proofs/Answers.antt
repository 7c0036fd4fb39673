-- What a node puts as it takes a message ranks below that message.
use Rattle.std.proofs.Common.{◌≡◌, ℕ, ◌+◌, ◌<◌, ◌==◌, Bool, true, false, cond, inl, inr, refl, sym, ap, subst, ◌∙◌, List, [], ◌∷◌, ◌++◌, Some, option_map, arith}
use Rattle.std.proofs.lemmas.Option.{same_Some}
use Rattle.std.specs.List.{AllByRecursion}
use Rattle.mv_base.specs.declared.ids.NodeId.{NodeId}
use Rattle.mldp.specs.declared.mldp_fec.fec.Fec.{Fec}
use Rattle.mldp.specs.declared.mldp_msgs.message.LabelMessage.{LabelMessage}
use Rattle.mldp.specs.declared.mldp_msgs.message.LabelMessage.TheVariants as messages
use Rattle.label_defs.specs.declared.label_use.LabelUse.{LabelUse}
use Rattle.label_defs.specs.declared.put.Put.{Put}
use Rattle.label_defs.specs.LabelData.{Place, LabelData}
use Rattle.label_defs.specs.Settling.{Stepped, change_of, changed, put_by, settle_all}
use Rattle.label_defs.specs.Steps as steps
use Rattle.label_defs.specs.Steps.{counted, label_step, taken, answers}
use Rattle.label_defs.specs.Settled.{Maps, AllSettled}
use Rattle.label_defs.proofs.KeyLemmas.{node_equal}
use Rattle.label_defs.proofs.SettleLemmas.{bind_some}
use Rattle.label_defs.proofs.TurnLemmas.{Turn, turn}
use Rattle.label_defs.proofs.UseLemmas.{used, map_some}
use Rattle.label_laws.specs.Network.{messages_to}
use Rattle.label_laws.specs.Rounds.{rank}

-- all that is put ranks below a bound
abbrev pub PutsBelow : (NodeId → Fec → ℕ) → ℕ → List Put → Type 0
PutsBelow depth bound puts = AllByRecursion (λ (put : Put). rank depth put.to put.message < bound) puts

-- so do the messages on their way to n
abbrev pub Below : (NodeId → Fec → ℕ) → ℕ → NodeId → List LabelMessage → Type 0
Below depth bound n ms = AllByRecursion (λ (m : LabelMessage). rank depth n m < bound) ms

pub below_to : (depth : NodeId → Fec → ℕ) (bound : ℕ) (n : NodeId) (puts : List Put) → PutsBelow depth bound puts
    → Below depth bound n (messages_to n puts)
below_to depth bound n [] h = tt
below_to depth bound n (p ∷ more) h = by (p.to.0 == n.0) refl (below_to depth bound n more h.1)
  where
    by : (t : Bool) → (p.to.0 == n.0) ≡ t → Below depth bound n (messages_to n more)
        → Below depth bound n (cond t (p.message ∷ messages_to n more) (messages_to n more))
    by true e rest = (let P : NodeId → Type 0 = λ x. rank depth x p.message < bound in subst P (node_equal p.to n e) h.0, rest)
    by false e rest = rest

pub all_after : {X : Type 0} (P : X → Type 0) (xs ys : List X) → AllByRecursion P xs → AllByRecursion P ys → AllByRecursion P (xs ++ ys)
all_after P [] ys h k = k
all_after P (x ∷ xs) ys h k = (h.0, all_after P xs ys h.1 k)

-- a choice between two nodes with the same labels
same_labels : (t : Bool) (new old : LabelData) → new.labels ≡ old.labels → (cond t new old).labels ≡ old.labels
same_labels true new old e = e
same_labels false new old e = refl

-- one tree settles
one_settles : (place : Place) (part : LabelData) (fec : Fec) (puts : List Put) (new : Stepped)
    → settle_all place (fec ∷ []) (record { part = part; puts = puts }) ≡ Some new
    → (next : LabelData) × (more : List Put) × Turn place part fec next more × (puts ++ more ≡ new.puts)
one_settles place part fec puts new e =
    let change = change_of place part fec in
    let x = bind_some (changed part fec change) (λ next. settle_all place [] (record { part = next; puts = puts ++ put_by fec change })) new e in (
      x.0,
      put_by fec change,
      turn place part fec x.0 x.1,
      ap (λ (s : Stepped). s.puts) (same_Some (record { part = x.0; puts = puts ++ put_by fec change }) new x.2),
    )

-- what the turn of a tree puts goes to the neighbour towards the root
turn_below : (place : Place) (depth : NodeId → Fec → ℕ) (bound : ℕ) (old : LabelData) (fec : Fec) (next : LabelData) (more : List Put)
    → Turn place old fec next more
    → ((label : ℕ) (to : NodeId) → Maps old fec label to → place.upstream fec ≡ Some to)
    → ((to : NodeId) → place.upstream fec ≡ Some to → depth to fec < bound) → PutsBelow depth (1 + bound) more
turn_below place depth bound old fec next more t toward nearer = elim t.how [
  | inl q ↦ subst (PutsBelow depth (1 + bound)) (sym q.silent) tt
  | inr (inl m) ↦ (let less = nearer m.to m.toward in subst (PutsBelow depth (1 + bound)) (sym m.put) (omega (arith, less), tt))
  | inr (inr g) ↦ (let less = nearer g.to (toward g.label g.to g.was) in subst (PutsBelow depth (1 + bound)) (sym g.put) (omega (arith, less), tt))
]

module _ (place : Place) (now : ℕ) (part : LabelData) (depth : NodeId → Fec → ℕ) (a b : NodeId) (all : AllSettled place part)
    (nearer : (v : NodeId) (fec : Fec) → place.upstream fec ≡ Some v → depth v fec < depth b fec) where
  -- what settles after a mapping or a withdraw
  settles_below : (fec : Fec) (old : LabelData) (puts : List Put) (new : Stepped) → old.labels ≡ part.labels → PutsBelow depth (1 + depth b fec) puts
      → settle_all place (fec ∷ []) (record { part = old; puts = puts }) ≡ Some new → PutsBelow depth (1 + depth b fec) new.puts
  settles_below fec old puts new same low e =
      let x = one_settles place old fec puts new e in
      let more = turn_below place depth (depth b fec) old fec x.0 x.1 x.2
      (λ label to is. ((all fec).toward label to (ap (λ (labels : List LabelUse). used labels label) (sym same) ∙ is)).0) (λ to up. nearer to fec up)
      in
      subst (PutsBelow depth (1 + depth b fec)) x.3 (all_after (λ (put : Put). rank depth put.to put.message < 1 + depth b fec) puts x.1 low more)

  -- what is no mapping and no withdraw is not answered
  silent_below : (own : LabelData) (bound : ℕ) (new : Stepped)
      → option_map counted (settle_all place [] (record { part = own; puts = [] })) ≡ Some new → PutsBelow depth bound new.puts
  silent_below own bound new e =
      subst (λ (s : Stepped). PutsBelow depth bound s.puts) (same_Some (counted (record { part = own; puts = [] })) new e) tt

  tree_below : (fec : Fec) (old : LabelData) (puts : List Put) (new : Stepped) → old.labels ≡ part.labels → PutsBelow depth (1 + depth b fec) puts
      → option_map counted (settle_all place (fec ∷ []) (record { part = old; puts = puts })) ≡ Some new
      → PutsBelow depth (1 + depth b fec) new.puts
  tree_below fec old puts new same low e =
      let x = map_some counted (settle_all place (fec ∷ []) (record { part = old; puts = puts })) new e in
      subst (λ (s : Stepped). PutsBelow depth (1 + depth b fec) s.puts) x.2 (settles_below fec old puts x.0 same low x.1)

  pub answers_below : (m : LabelMessage) (new : Stepped) → label_step place now part (steps.Taken a m) ≡ Some new
      → PutsBelow depth (rank depth b m) new.puts
  answers_below (messages.Mapping fec label) new e =
      tree_below fec (taken place now part a (messages.Mapping fec label)) [] new (same_labels (place.is_tree fec) _ part refl) tt e
  answers_below (messages.Withdraw fec label) new e =
      tree_below fec (taken place now part a (messages.Withdraw fec label)) (answers a (messages.Withdraw fec label)) new refl (omega arith, tt) e
  answers_below (messages.Release fec label) new e = silent_below (taken place now part a (messages.Release fec label)) 0 new e
  answers_below (messages.Ignored kind) new e = silent_below part 0 new e

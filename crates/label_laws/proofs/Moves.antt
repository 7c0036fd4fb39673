-- A message that is delivered leaves the front of its direction, and what is put in answer ranks below it.
use Rattle.std.proofs.Common.{◌≡◌, ◌≢◌, ℕ, ◌==◌, ◌&&◌, Bool, true, false, cond, inl, inr, refl, sym, subst, ◌∙◌, List, [], ◌∷◌, ◌++◌, Some}
use Rattle.std.proofs.lemmas.Bool.{cases_Bool, cond-true, cond-false, and_from, and_left, and_right}
use Rattle.std.proofs.lemmas.List.{append-nil}
use Rattle.mv_base.specs.declared.ids.NodeId.{NodeId}
use Rattle.mldp.specs.declared.mldp_fec.fec.Fec.{Fec}
use Rattle.mldp.specs.declared.mldp_msgs.message.LabelMessage.{LabelMessage}
use Rattle.label_defs.specs.LabelData.{is_up}
use Rattle.label_defs.specs.Settling.{Stepped}
use Rattle.label_defs.specs.Steps as steps
use Rattle.label_defs.specs.Steps.{label_step}
use Rattle.label_defs.proofs.KeyLemmas.{node_itself, node_apart, node_cases}
use Rattle.label_defs.proofs.UseLemmas.{map_some}
use Rattle.label_laws.specs.Network.{LabelNetwork, place_of, messages_to, thereafter}
use Rattle.label_laws.specs.Acts.{Deliver, stepped, left_in_transit, delivered, act}
use Rattle.label_laws.specs.Rule.{Rule, Kept, OnNetwork}
use Rattle.label_laws.specs.Rounds.{rank, Lists, IsNearer}
use Rattle.label_laws.proofs.Steps.{call_kept, taken_rule}
use Rattle.label_laws.proofs.Answers.{Below, below_to, answers_below}

-- more was put after what was in transit, and it ranks below a bound
pub record Grown (depth : NodeId → Fec → ℕ) (bound : ℕ) (n : NodeId) (old new : List LabelMessage) : Type 0 where
  pub more : List LabelMessage
  pub grown : new ≡ old ++ more
  pub low : Below depth bound n more

grown_by : (depth : NodeId → Fec → ℕ) (bound : ℕ) (n : NodeId) (t : Bool) (old ms : List LabelMessage) → Below depth bound n ms
    → Grown depth bound n old (cond t (old ++ ms) old)
grown_by depth bound n true old ms h = record { more = ms; grown = refl; low = h }
grown_by depth bound n false old ms h = record { more = []; grown = sym (append-nil old); low = tt }

-- what holds throughout rounds
pub record Going (depth : NodeId → Fec → ℕ) (order : List (NodeId × NodeId)) (w : LabelNetwork) : Type 0 where
  pub kept : Kept w
  pub nearer : IsNearer w depth
  pub lists : Lists order w

-- the network after the delivery of a message
pub record Moved (depth : NodeId → Fec → ℕ) (order : List (NodeId × NodeId)) (w x : LabelNetwork) (a b : NodeId) (m : LabelMessage)
    (rest : List LabelMessage) : Type 0 where
  pub going : Going depth order x
  pub here : Grown depth (rank depth b m) b rest (x.direction a b).transit
  pub there : (u n : NodeId) → (u ≡ a → n ≡ b → ⊥) → Grown depth (rank depth b m) n (w.direction u n).transit (x.direction u n).transit

-- a session with a message in transit is joined, and its ends are up
taker_up : (w : LabelNetwork) (a b : NodeId) (m : LabelMessage) (rest : List LabelMessage) → a ≢ b → Rule w → (w.direction a b).transit ≡ m ∷ rest
    → is_up (w.node b) a ≡ true
taker_up w a b m rest ne rule e =
    let s = rule.session a b ne in
    elim (cases_Bool (w.direction a b).joined) [
      | inl up ↦ (rule.session b a (λ x. ne (sym x))).ends (sym s.alike ∙ up)
      | inr off ↦ (let x = sym (s.quiet off) ∙ e in absurd cc)
    ]

module _ (depth : NodeId → Fec → ℕ) (order : List (NodeId × NodeId)) (w : LabelNetwork) (a b : NodeId) (m : LabelMessage) (rest : List LabelMessage)
    (ne : a ≢ b) (going : Going depth order w) (e : (w.direction a b).transit ≡ m ∷ rest) where
  abbrev left : LabelNetwork
  left = left_in_transit w a b rest

  left_here : (left.direction a b).transit ≡ rest
  left_here =
      cond-true ((a.0 == a.0) && (b.0 == b.0)) rest (w.direction a b).transit
      (and_from (a.0 == a.0) (b.0 == b.0) (node_itself a a refl) (node_itself b b refl))

  left_there : (u n : NodeId) → (u ≡ a → n ≡ b → ⊥) → (left.direction u n).transit ≡ (w.direction u n).transit
  left_there u n other =
      cond-false ((u.0 == a.0) && (n.0 == b.0)) rest (w.direction u n).transit (elim (node_cases u a) [
        | inl same ↦ and_right (u.0 == a.0) (n.0 == b.0) (node_apart n b (other same))
        | inr apart ↦ and_left (u.0 == a.0) (n.0 == b.0) (node_apart u a apart)
      ])

  after_grown : (new : Stepped) → label_step (place_of w b) w.clock (w.node b) (steps.Taken a m) ≡ Some new → (u n : NodeId)
      → Grown depth (rank depth b m) n (left.direction u n).transit ((thereafter left b new).direction u n).transit
  after_grown new is u n =
      grown_by depth (rank depth b m) n ((u.0 == b.0) && (left.direction u n).joined) (left.direction u n).transit (messages_to n new.puts)
      (below_to depth (rank depth b m) n new.puts (answers_below (place_of w b) w.clock (w.node b) depth a b (going.kept.settled b)
      (λ v fec up. going.nearer b v fec up) m new is))

  is_stepped : act w (Deliver a b) ≡ stepped left b (steps.Taken a m)
  is_stepped = λ i. delivered w a b (node_apart a b ne i) (taker_up w a b m rest ne going.kept.rule e i) (e i)

  step_kept : OnNetwork Kept (stepped left b (steps.Taken a m))
  step_kept = call_kept left b (steps.Taken a m) tt (taken_rule w a b m rest ne e going.kept.rule) going.kept.settled

  pub moves : (x : LabelNetwork) → act w (Deliver a b) ≡ Some x → Moved depth order w x a b m rest
  moves x is =
      let taken = sym is_stepped ∙ is in
      let y = map_some (thereafter left b) (label_step (place_of w b) w.clock (w.node b) (steps.Taken a m)) x taken in
      let kept : Kept x = subst (OnNetwork Kept) taken step_kept in
      let P : LabelNetwork → Type 0 = λ v. Kept v → Moved depth order w v a b m rest in
      subst P y.2 (λ k. record {
        going = record { kept = k; nearer = going.nearer; lists = going.lists };
        here = subst (λ old. Grown depth (rank depth b m) b old ((thereafter left b y.0).direction a b).transit) left_here (after_grown y.0 y.1 a b);
        there = λ u n other. subst (λ old. Grown depth (rank depth b m) n old ((thereafter left b y.0).direction u n).transit) (left_there u n other)
            (after_grown y.0 y.1 u n);
      }) kept

-- Rounds empty what is in transit: each of them lowers the ranks of all messages.
use Rattle.std.proofs.Common.{◌≡◌, ◌≢◌, ℕ, zero, suc, ◌+◌, ◌<◌, ◌≤◌, ◌==◌, ◌&&◌, ◌⊎◌, true, inl, inr, refl, sym, ap, subst, ◌∙◌, List, [], ◌∷◌, ◌++◌, length, Option, Some, arith}
use Rattle.std.proofs.lemmas.Bool.{cases_Bool, or_cases, and_parts}
use Rattle.std.proofs.lemmas.List.{append-nil, append_assoc}
use Rattle.std.proofs.lemmas.Option.{same_Some}
use Rattle.std.specs.List.{AllByRecursion}
use Rattle.mv_base.specs.Number.{◌>>?◌}
use Rattle.mv_base.specs.declared.ids.NodeId.{NodeId}
use Rattle.mldp.specs.declared.mldp_fec.fec.Fec.{Fec}
use Rattle.mldp.specs.declared.mldp_msgs.message.LabelMessage.{LabelMessage}
use Rattle.mldp.specs.declared.mldp_msgs.message.LabelMessage.TheVariants as messages
use Rattle.label_defs.specs.LabelData.{is_up}
use Rattle.label_defs.proofs.KeyLemmas.{node_equal, node_itself, node_cases}
use Rattle.label_defs.proofs.SettleLemmas.{bind_some}
use Rattle.label_laws.specs.Network.{LabelNetwork}
use Rattle.label_laws.specs.Acts.{Act, Deliver, delivered, act, run}
use Rattle.label_laws.specs.Rule.{Kept, OnNetwork}
use Rattle.label_laws.specs.Rounds.{moved, turn, round, rounds, is_listed, Lists, IsQuiet, rank, IsNearer}
use Rattle.label_laws.proofs.Frames.{each_kept}
use Rattle.label_laws.proofs.Answers.{Below, all_after}
use Rattle.label_laws.proofs.Runs.{run_kept}
use Rattle.label_laws.proofs.Moves.{Going, moves}

lower : (depth : NodeId → Fec → ℕ) (r s : ℕ) (n : NodeId) (ms : List LabelMessage) → r ≤ s → Below depth r n ms → Below depth s n ms
lower depth r s n ms le h =
    each_kept (λ (m : LabelMessage). rank depth n m < r) (λ (m : LabelMessage). rank depth n m < s) (λ m lt. omega (arith, le, lt)) ms h

none_below : (depth : NodeId → Fec → ℕ) (n : NodeId) (ms : List LabelMessage) → Below depth 0 n ms → ms ≡ []
none_below depth n [] h = refl
none_below depth n (m ∷ ms) h = let x = h.0 in absurd (omega (arith, x))

-- nothing is delivered from a node to itself
self_moved : (w x : LabelNetwork) (a : NodeId) (k : ℕ) → moved w a a k ≡ Some x → w ≡ x
self_moved w x a zero e = same_Some w x e
self_moved w x a (suc k) e =
    let y = bind_some (act w (Deliver a a)) (λ next. moved next a a k) x e in
    let stays : act w (Deliver a a) ≡ Some w = λ i. delivered w a a (node_itself a a refl i) (is_up (w.node a) a) (w.direction a a).transit in
    same_Some w y.0 (sym stays ∙ y.1) ∙ self_moved y.0 x a k y.2

pair_cases : (u n a b : NodeId) → ((u ≡ a) × (n ≡ b)) ⊎ (u ≡ a → n ≡ b → ⊥)
pair_cases u n a b = elim (node_cases u a) [
  | inr ne ↦ inr (λ p q. ne p)
  | inl e ↦ elim (node_cases n b) [ inl h ↦ inl (e, h) | inr ne ↦ inr (λ p q. ne q) ]
]

module _ (depth : NodeId → Fec → ℕ) (order : List (NodeId × NodeId)) where
  abbrev In : LabelNetwork → Type 0
  In w = Going depth order w

  abbrev Low : ℕ → LabelNetwork → NodeId → NodeId → Type 0
  Low r w u n = Below depth r n (w.direction u n).transit

  abbrev AllLow : ℕ → LabelNetwork → Type 0
  AllLow r w = (u n : NodeId) → u ≢ n → Low r w u n

  -- a direction had its turn: what is in transit there now ranks lower, and elsewhere each bound from that on stands
  record Turned (r : ℕ) (w x : LabelNetwork) (a b : NodeId) : Type 0 where
    going : In x
    here : a ≢ b → Low r x a b
    there : (s : ℕ) → r ≤ s → (u n : NodeId) → (u ≡ a → n ≡ b → ⊥) → Low s w u n → Low s x u n

  moved_turns : (k r : ℕ) (w x : LabelNetwork) (a b : NodeId) (front back : List LabelMessage) → a ≢ b → In w
      → (w.direction a b).transit ≡ front ++ back → length front ≡ k
      → Below depth (suc r) b front → Below depth r b back → moved w a b k ≡ Some x → Turned r w x a b
  moved_turns zero r w x a b [] back ne g e l f h is =
      let P : LabelNetwork → Type 0 = λ v. Turned r w v a b in
      subst P (same_Some w x is) (record { going = g; here = λ apart. subst (Below depth r b) (sym e) h; there = λ s le u n other low. low })
  moved_turns zero r w x a b (m ∷ front) back ne g e l f h is = absurd (omega (arith, l))
  moved_turns (suc k) r w x a b [] back ne g e l f h is = absurd (omega (arith, l))
  moved_turns (suc k) r w x a b (m ∷ front) back ne g e l f h is =
      let y = bind_some (act w (Deliver a b)) (λ next. moved next a b k) x is in
      let d = moves depth order w a b m (front ++ back) ne g e y.0 y.1 in
      let top = f.0 in
      let le : rank depth b m ≤ r = omega (arith, top) in
      let rec =
      moved_turns k r y.0 x a b front (back ++ d.here.more) ne d.going (d.here.grown ∙ append_assoc front back d.here.more) (omega (arith, l)) f.1
      (all_after (λ (m : LabelMessage). rank depth b m < r) back d.here.more h (lower depth (rank depth b m) r b d.here.more le d.here.low)) y.2 in
      record {
        going = rec.going;
        here = rec.here;
        there = λ s at u n other low.
            let t = d.there u n other in
            rec.there s at u n other (subst (Below depth s n) (sym t.grown)
            (all_after (λ (m : LabelMessage). rank depth n m < s) (w.direction u n).transit t.more low
            (lower depth (rank depth b m) s n t.more (omega (arith, le, at)) t.low)));
      }

  turn_turns : (r : ℕ) (w x : LabelNetwork) (a b : NodeId) → In w → AllLow (suc r) w → turn w a b ≡ Some x → Turned r w x a b
  turn_turns r w x a b g low is = elim (node_cases a b) [
    | inr ne ↦ moved_turns (length (w.direction a b).transit) r w x a b (w.direction a b).transit [] ne g (sym (append-nil (w.direction a b).transit))
        refl (low a b ne) tt is
    | inl same ↦
        let k = length (w.direction a b).transit in
        let stays = self_moved w x a k (ap (λ z. moved w a z k) same ∙ is) in
        let P : LabelNetwork → Type 0 = λ v. Turned r w v a b in
        subst P stays (record { going = g; here = λ apart. absurd (apart same); there = λ s le u n other h. h })
  ]

  -- after a round each direction that had its turn, or that was low before, is low
  record Passed (r : ℕ) (order_left : List (NodeId × NodeId)) (w x : LabelNetwork) : Type 0 where
    going : In x
    low : (u n : NodeId) → u ≢ n → (is_listed order_left u n ≡ true) ⊎ Low r w u n → Low r x u n

  at_pair : (P : NodeId → NodeId → Type 0) (u n a b : NodeId) → u ≡ a → n ≡ b → P a b → P u n
  at_pair P u n a b e h p = subst (λ z. P z n) (sym e) (subst (λ z. P a z) (sym h) p)

  round_passes : (ds : List (NodeId × NodeId)) (r : ℕ) (w x : LabelNetwork) → In w → AllLow (suc r) w → round ds w ≡ Some x → Passed r ds w x
  round_passes [] r w x g low is =
      let P : LabelNetwork → Type 0 = λ v. Passed r [] w v in
      subst P (same_Some w x is) (record { going = g; low = λ u n ne which. elim which [ inl none ↦ absurd cc | inr h ↦ h ] })
  round_passes (d ∷ ds) r w x g low is =
      let a = d.0 in
      let b = d.1 in
      let y = bind_some (turn w a b) (λ next. round ds next) x is in
      let t = turn_turns r w y.0 a b g low y.1 in
      let v : LabelNetwork = y.0 in
      let here : (s : ℕ) (u n : NodeId) → r ≤ s → u ≢ n → u ≡ a → n ≡ b → Low s v u n = λ s u n le ne p q.
      lower depth r s n (v.direction u n).transit le (at_pair (λ z m. Low r v z m) u n a b p q (t.here (λ same. ne (p ∙ same ∙ sym q)))) in
      let all : AllLow (suc r) v = λ u n ne. elim (pair_cases u n a b) [
        | inl e ↦ here (suc r) u n (omega arith) ne e.0 e.1
        | inr other ↦ t.there (suc r) (omega arith) u n other (low u n ne)
      ] in
      let rest = round_passes ds r v x t.going all y.2 in
      record {
        going = rest.going;
        low = λ u n ne which. rest.low u n ne (elim (pair_cases u n a b) [
          | inl e ↦ inr (here r u n (omega arith) ne e.0 e.1)
          | inr other ↦ elim which [
            | inr h ↦ inr (t.there r (omega arith) u n other h)
            | inl listed ↦ elim (or_cases ((a.0 == u.0) && (b.0 == n.0)) (is_listed ds u n) listed) [
              | inl now ↦ let z = and_parts (a.0 == u.0) (b.0 == n.0) now in absurd (other (sym (node_equal a u z.0)) (sym (node_equal b n z.1)))
              | inr later ↦ inl later
            ]
          ]
        ]);
      }

  rounds_empty : (k : ℕ) (w x : LabelNetwork) → In w → AllLow k w → rounds order k w ≡ Some x → IsQuiet x
  rounds_empty zero w x g low is =
      subst IsQuiet (same_Some w x is) (λ u n ne. none_below depth n (w.direction u n).transit (low u n ne))
  rounds_empty (suc k) w x g low is =
      let y = bind_some (round order w) (λ next. rounds order k next) x is in
      let p = round_passes order k w y.0 g low y.1 in
      rounds_empty k y.0 x p.going (λ u n ne. p.low u n ne (elim (cases_Bool (w.direction u n).joined) [
        | inl up ↦ inl (g.lists u n ne up)
        | inr off ↦ inr (subst (Below depth k n) (sym ((g.kept.rule.session u n ne).quiet off)) tt)
      ])) y.2

rank_bound : (depth : NodeId → Fec → ℕ) (nodes count : ℕ) → ((n : NodeId) (fec : Fec) → depth n fec < nodes) → nodes + 1 ≤ count
    → (n : NodeId) (m : LabelMessage) → rank depth n m < count
rank_bound depth nodes count bound le n (messages.Mapping fec label) = let x = bound n fec in omega (arith, le, x)
rank_bound depth nodes count bound le n (messages.Withdraw fec label) = let x = bound n fec in omega (arith, le, x)
rank_bound depth nodes count bound le n (messages.Release fec label) = omega (arith, le)
rank_bound depth nodes count bound le n (messages.Ignored kind) = omega (arith, le)

all_of : {X : Type 0} (P : X → Type 0) → ((x : X) → P x) → (xs : List X) → AllByRecursion P xs
all_of P h [] = tt
all_of P h (x ∷ xs) = (h x, all_of P h xs)

pub sessions_emptied : (network new : LabelNetwork) (depth : NodeId → Fec → ℕ) (nodes count : ℕ) (order : List (NodeId × NodeId)) → Kept network
    → IsNearer network depth → ((n : NodeId) (fec : Fec) → depth n fec < nodes)
    → Lists order network → nodes + 1 ≤ count → rounds order count network ≡ Some new → IsQuiet new
sessions_emptied network new depth nodes count order kept nearer bound lists le is =
    rounds_empty depth order count network new (record { kept = kept; nearer = nearer; lists = lists })
    (λ u n ne. all_of (λ (m : LabelMessage). rank depth n m < count) (rank_bound depth nodes count bound le n) (network.direction u n).transit) is

-- ---- what is kept

acts_kept : (w x : LabelNetwork) (a : Act) → Kept w → act w a ≡ Some x → Kept x
acts_kept w x a k is = subst (OnNetwork Kept) (ap (λ (o : Option LabelNetwork). o >>? λ next. run next []) is) (run_kept w (a ∷ []) k)

moved_kept : (count : ℕ) (w x : LabelNetwork) (a b : NodeId) → Kept w → moved w a b count ≡ Some x → Kept x
moved_kept zero w x a b k is = subst Kept (same_Some w x is) k
moved_kept (suc count) w x a b k is =
    let y = bind_some (act w (Deliver a b)) (λ next. moved next a b count) x is in
    moved_kept count y.0 x a b (acts_kept w y.0 (Deliver a b) k y.1) y.2

round_kept : (ds : List (NodeId × NodeId)) (w x : LabelNetwork) → Kept w → round ds w ≡ Some x → Kept x
round_kept [] w x k is = subst Kept (same_Some w x is) k
round_kept (d ∷ ds) w x k is =
    let y = bind_some (turn w d.0 d.1) (λ next. round ds next) x is in
    round_kept ds y.0 x (moved_kept (length (w.direction d.0 d.1).transit) w y.0 d.0 d.1 k y.1) y.2

pub rounds_kept : (w x : LabelNetwork) (order : List (NodeId × NodeId)) (count : ℕ) → Kept w → rounds order count w ≡ Some x → Kept x
rounds_kept w x order zero k is = subst Kept (same_Some w x is) k
rounds_kept w x order (suc count) k is =
    let y = bind_some (round order w) (λ next. rounds order count next) x is in
    rounds_kept y.0 x order count (round_kept order w y.0 k y.1) y.2

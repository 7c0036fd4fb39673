-- A direction has its turn: its messages are taken one after another, and what is put in answer ranks below each.
use Rattle.std.proofs.Common.{◌≡◌, ◌<◌, ◌≤◌, ℕ, suc, ◌==◌, Bool, true, false, cond, List, [], ◌∷◌, ◌++◌, length, Some, refl, sym, ap, subst, ◌∙◌, arith}
use Rattle.std.specs.List.{AllByRecursion}
use Rattle.std.proofs.lemmas.Option.{same_Some}
use Rattle.mv_base.specs.declared.ids.NodeId.{NodeId}
use Rattle.mldp.specs.declared.mldp_fec.fec.Fec.{Fec}
use Rattle.scenario_defs.specs.declared.event.Kind.{Kind}
use Rattle.scenario_defs.specs.declared.scenario.Scenario.{Scenario}
use Rattle.label_defs.proofs.KeyLemmas.{node_equal}
use Rattle.label_defs.proofs.SettleLemmas.{bind_some}
use Rattle.network_defs.specs.session_defs.Message.{SessionMessage, same_direction}
use Rattle.network_defs.specs.session_defs.Refined.{IsCarried, Keeps, deliveries}
use Rattle.network_defs.specs.session_defs.System.{Put, Stepped, System, MessageNetwork, Behind, messages_over, with_messages, with_earlier, delivered, message_act, message_run, Deliver}
use Rattle.network_defs.specs.declared.session_defs.direction.Direction.{Direction}
use Rattle.network_defs.proofs.session_defs.Lines.{all_both, own_direction, direction_is}
use Rattle.network_defs.specs.Counts.{direction}
use Rattle.network_defs.specs.Nodes.{NodeState, Nodes, label_place_of}
use Rattle.network_defs.specs.World.{Datagram}
use Rattle.network_laws.specs.Sound.{Sound}
use Rattle.network_laws.specs.Honest.{sound_system, SoundCall}
use Rattle.network_laws.proofs.LabelTaken.{carried_is_sound}
use Rattle.network_laws.proofs.Lists.{each_weaker}
use Rattle.network_laws.proofs.NodeCalls.{taking_is_good}
use Rattle.network_laws.proofs.Nodes.{honest_nodes}
use Rattle.rule_laws.specs.Labels.{Copies}
use Rattle.rule_laws.proofs.Calls.{Good, left, take_good}
use Rattle.rule_laws.proofs.Deliveries.{of_kind, earlier_some, step_some, waits}
use Rattle.settle_laws.specs.Ranks.{rank}
use Rattle.settle_laws.proofs.Steps.{IsStill, AreBelow, Answered, answered}

-- the neighbour of a node towards the root of a tree is less deep in it
abbrev pub IsNearer : (NodeId → Fec → ℕ) → Nodes → Type 0
IsNearer depth nodes = (n v : NodeId) (fec : Fec) → (label_place_of nodes n).upstream fec ≡ Some v → depth v fec < depth n fec

-- each node of the scenario is still
abbrev pub AllStill : Scenario → Nodes → Type 0
AllStill scenario nodes = (n : NodeId) → n.0 < length scenario.nodes → IsStill nodes n (nodes.node n)

-- What holds throughout the rounds.
pub record Going (scenario : Scenario) (copies : Copies) (datagrams : List Datagram) (depth : NodeId → Fec → ℕ)
    (network : MessageNetwork Nodes) : Type 0 where
  pub good : Good scenario network copies datagrams
  pub still : AllStill scenario network.state
  pub nearer : IsNearer depth network.state

module _ (depth : NodeId → Fec → ℕ) (most : ℕ) where
  -- messages on their way over a direction rank below a bound
  abbrev pub Low : ℕ → Direction → List SessionMessage → Type 0
  Low bound over ms = AllByRecursion (λ (m : SessionMessage). rank depth most over.to m < bound) ms

  pub lower : (r s : ℕ) (over : Direction) (ms : List SessionMessage) → r ≤ s → Low r over ms → Low s over ms
  lower r s over ms le h =
      each_weaker (λ (m : SessionMessage). rank depth most over.to m < r) (λ m. rank depth most over.to m < s) (λ m lt. omega (arith, le, lt)) ms h

  -- of what is put, the messages over one direction
  over_below : (bound : ℕ) (over : Direction) (puts : List Put) → AreBelow depth most bound puts → Low bound over (messages_over over puts)
  over_below bound over [] h = tt
  over_below bound over (put ∷ more) h = by (same_direction put.over over) refl (over_below bound over more h.1)
    where
      by : (t : Bool) → same_direction put.over over ≡ t → Low bound over (messages_over over more)
          → Low bound over (cond t put.unit.messages [] ++ messages_over over more)
      by true e rest = all_both (λ (m : SessionMessage). rank depth most over.to m < bound) put.unit.messages (messages_over over more)
          (subst (λ (d : Direction). AllByRecursion (λ (m : SessionMessage). rank depth most d.to m < bound) put.unit.messages)
          (direction_is put.over over e) h.0) rest
      by false e rest = rest

  next_low : (bound : ℕ) (d : Direction) (t j : Bool) (rest xs old news own : List SessionMessage) → Low bound d (cond t rest old) → Low bound d news
      → (t ≡ true → Low bound d own)
      → Low bound d (cond t (rest ++ own) (cond j (cond t xs old ++ news) (cond t xs old)))
  next_low bound d true j rest xs old news own h k l = all_both (λ (m : SessionMessage). rank depth most d.to m < bound) rest own h (l refl)
  next_low bound d false true rest xs old news own h k l = all_both (λ (m : SessionMessage). rank depth most d.to m < bound) old news h k
  next_low bound d false false rest xs old news own h k l = h

  left_low : (bound : ℕ) (d : Direction) (t : Bool) (rest old : List SessionMessage) → (t ≡ true → old ≡ rest) → Low bound d (cond t rest old)
      → Low bound d old
  left_low bound d true rest old e h = subst (Low bound d) (sym (e refl)) h
  left_low bound d false rest old e h = h

  still_at : (nodes : Nodes) (b n : NodeId) (node : NodeState) (t : Bool) → (n.0 == b.0) ≡ t → IsStill nodes b node → IsStill nodes n (nodes.node n)
      → IsStill nodes n (cond t node (nodes.node n))
  still_at nodes b n node true e here there = subst (λ (m : NodeId). IsStill nodes m node) (sym (node_equal n b e)) here
  still_at nodes b n node false e here there = there

  module _ (scenario : Scenario) (copies : Copies) (datagrams : List Datagram) (kind : Kind) (a b : NodeId)
      (most_is : (n : NodeId) (fec : Fec) → depth n fec < most) (is_node : b.0 < length scenario.nodes) (bounds : Direction → ℕ) (r : ℕ)
      (least : (d : Direction) → r ≤ bounds d) where
    abbrev over : Direction
    over = direction kind a b

    abbrev own : System Nodes (SoundCall scenario)
    own = sound_system scenario

    abbrev In : MessageNetwork Nodes → Type 0
    In network = Going scenario copies datagrams depth network

    answer : (network : MessageNetwork Nodes) → In network → (message : SessionMessage) (new : Stepped Nodes)
        → own.taken over message network.state ≡ Some new → Answered depth most network.state b (rank depth most b message) new
    answer network g message new e =
        let delay : 1 ≤ network.state.scenario.delay =
        subst (λ (s : Scenario). 1 ≤ s.delay) (sym g.good.base.sound.same) g.good.base.sound.lines.rules.settings.delay.0 in
        answered depth most network.state a b most_is g.nearer delay (network.state.node b) message new refl ((g.good.kept []).settled b)
        (g.still b is_node) e

    going_on : (network : MessageNetwork Nodes) (message : SessionMessage) (rest : List SessionMessage) → In network → IsCarried kind message
        → network.joined over ≡ true → network.transit over ≡ message ∷ rest → (new : Stepped Nodes) → own.taken over message network.state ≡ Some new
        → In (with_messages (left network over rest) new)
    going_on network message rest g carried joined waiting new e =
        let x = answer network g message new e in
        let keeps : Keeps (Sound scenario) (Some new) =
        subst (Keeps (Sound scenario)) e ((honest_nodes scenario).taken over message network.state g.good.base.sound carried) in
        record {
          good = take_good scenario network copies datagrams g.good kind a b message rest (of_kind kind message carried)
              (taking_is_good a message (carried_is_sound kind message carried)) joined waiting new e keeps.1;
          still = subst (AllStill scenario) (sym x.state) (λ n lt. still_at network.state b n x.node (n.0 == b.0) refl x.still (g.still n lt));
          nearer = subst (IsNearer depth) (sym x.state) g.nearer;
        }

    pub turn_on : (first : List SessionMessage) → AllByRecursion (IsCarried kind) first → Low (suc r) over first
        → (network : MessageNetwork Nodes) (rest : List SessionMessage) → In network → network.joined over ≡ true
        → network.transit over ≡ first ++ rest
        → ((d : Direction) → Low (bounds d) d ((left network over rest).transit d)) → (new : Behind (MessageNetwork Nodes))
        → message_run own network (deliveries over first) ≡ Some new
        → In new.network × ((d : Direction) → Low (bounds d) d (new.network.transit d))
    turn_on [] carried low network rest g joined waiting h new e =
        let P : MessageNetwork Nodes → Type 0 = λ n. In n × ((d : Direction) → Low (bounds d) d (n.transit d)) in
        subst P (ap (λ (s : Behind (MessageNetwork Nodes)). s.network) (same_Some (record { network = network; puts = [] }) new e)) (
          g,
          λ d. left_low (bounds d) d (same_direction d over) rest (network.transit d) (λ t. ap network.transit (direction_is d over t) ∙ waiting)
              (h d),
        )
    turn_on (message ∷ more) carried low network rest g joined waiting h new e =
        let x = bind_some (message_act own network (Deliver over))
        (λ next. with_earlier next.puts (message_run own next.network (deliveries over more))) new e in
        let gone : MessageNetwork Nodes = left network over (more ++ rest) in
        let y = step_some gone (own.taken over message network.state) x.0 (sym (ap (delivered own network over) waiting) ∙ x.1) in
        let after : MessageNetwork Nodes = with_messages gone y.0 in
        let next = going_on network message (more ++ rest) g carried.0 joined waiting y.0 y.1 in
        let z = earlier_some x.0.puts (message_run own x.0.network (deliveries over more)) new x.2 in
        let run : message_run own after (deliveries over more) ≡ Some z.0 =
        ap (λ (n : MessageNetwork Nodes). message_run own n (deliveries over more)) y.2 ∙ z.1 in
        let news : List SessionMessage = messages_over over y.0.puts in
        let still : after.transit over ≡ more ++ (rest ++ news) =
        waits (network.joined over) (same_direction over over) more rest (network.transit over) news joined (own_direction over) in
        let top = low.0 in
        let puts = (answer network g message y.0 y.1).puts in
        let each : (d : Direction) → Low (bounds d) d (messages_over d y.0.puts) = λ d. let le = least d in
        lower (rank depth most b message) (bounds d) d (messages_over d y.0.puts) (omega (arith, top, le))
        (over_below (rank depth most b message) d y.0.puts puts) in
        let rest_low : (d : Direction) → Low (bounds d) d ((left after over (rest ++ news)).transit d) = λ d.
        next_low (bounds d) d (same_direction d over) (network.joined d) rest (more ++ rest) (network.transit d) (messages_over d y.0.puts) news (h d)
        (each d)
        (λ t. subst (λ (o : Direction). Low (bounds d) d (messages_over o y.0.puts)) (direction_is d over t) (each d)) in
        let P : MessageNetwork Nodes → Type 0 = λ n. In n × ((d : Direction) → Low (bounds d) d (n.transit d)) in
        subst P z.2 (turn_on more carried.1 low.1 after (rest ++ news) next joined still rest_low z.0 run)

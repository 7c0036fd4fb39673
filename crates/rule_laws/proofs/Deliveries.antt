-- A row of messages that are taken, one after another, keeps the label rule of the network at the level of messages.
use Rattle.std.proofs.Common.{◌≡◌, Bool, true, cond, List, [], ◌∷◌, ◌++◌, map, Option, Some, None, refl, sym, ap, subst, ◌∙◌}
use Rattle.std.specs.List.{AllByRecursion}
use Rattle.std.proofs.lemmas.List.{append_assoc}
use Rattle.std.proofs.lemmas.Option.{same_Some, none-some}
use Rattle.mv_base.specs.declared.ids.NodeId.{NodeId}
use Rattle.mldp.specs.declared.mldp_msgs.message.LabelMessage.{LabelMessage}
use Rattle.bgp_messages.specs.declared.bgp_attributes.update.Message.{Message}
use Rattle.scenario_defs.specs.declared.event.Kind.{Kind}
use Rattle.scenario_defs.specs.declared.event.Kind.TheVariants as kinds
use Rattle.scenario_defs.specs.declared.scenario.Scenario.{Scenario}
use Rattle.label_defs.proofs.SettleLemmas.{bind_some}
use Rattle.network_defs.specs.session_defs.Message.{SessionMessage, Bgp, Label, same_direction}
use Rattle.network_defs.specs.session_defs.Refined.{IsCarried, Keeps, deliveries}
use Rattle.network_defs.specs.session_defs.System.{Stepped, System, MessageNetwork, Behind, messages_over, with_messages, with_step, with_earlier, delivered, message_act, message_run, Deliver}
use Rattle.network_defs.specs.declared.session_defs.direction.Direction.{Direction}
use Rattle.network_defs.proofs.session_defs.Lines.{own_direction}
use Rattle.network_defs.specs.Counts.{direction}
use Rattle.network_defs.specs.Nodes.{Nodes}
use Rattle.network_defs.specs.World.{Datagram}
use Rattle.network_laws.specs.Sound.{Sound}
use Rattle.network_laws.specs.Honest.{sound_system, SoundCall}
use Rattle.network_laws.proofs.LabelTaken.{carried_is_sound}
use Rattle.network_laws.proofs.NodeCalls.{taking_is_good}
use Rattle.network_laws.proofs.Nodes.{honest_nodes}
use Rattle.rule_laws.specs.Labels.{Copies}
use Rattle.rule_laws.proofs.Calls.{Good, left, IsOfKind, take_good}

-- ---- the kind of a message

pub bgp_in : (before : List SessionMessage) (message : SessionMessage) (thereafter : List SessionMessage) (plain : List Message)
    → before ++ message ∷ thereafter ≡ map (λ own. Bgp own) plain → IsOfKind kinds.Bgp message
bgp_in [] message thereafter [] e = absurd cc
bgp_in [] message thereafter (own ∷ plain) e = let head : message ≡ Bgp own = cc in subst (IsOfKind kinds.Bgp) (sym head) tt
bgp_in (other ∷ before) message thereafter [] e = absurd cc
bgp_in (other ∷ before) message thereafter (own ∷ plain) e = let tail : before ++ message ∷ thereafter ≡ map (λ one. Bgp one) plain = cc in
    bgp_in before message thereafter plain tail

pub label_in : (before : List SessionMessage) (message : SessionMessage) (thereafter : List SessionMessage) (plain : List LabelMessage)
    → before ++ message ∷ thereafter ≡ map (λ own. Label own) plain → IsOfKind kinds.Ldp message
label_in [] message thereafter [] e = absurd cc
label_in [] message thereafter (own ∷ plain) e = let head : message ≡ Label own = cc in subst (IsOfKind kinds.Ldp) (sym head) tt
label_in (other ∷ before) message thereafter [] e = absurd cc
label_in (other ∷ before) message thereafter (own ∷ plain) e = let tail : before ++ message ∷ thereafter ≡ map (λ one. Label one) plain = cc in
    label_in before message thereafter plain tail

pub of_kind : (kind : Kind) (message : SessionMessage) → IsCarried kind message → IsOfKind kind message
of_kind kinds.Bgp message c = bgp_in c.before message c.thereafter c.put.0.0 c.put.0.1
of_kind kinds.Ldp message c = label_in c.before message c.thereafter c.put.0.0 c.put.0.1

-- ---- one step

pub earlier_some : {N : Type 0} (puts : List _) (o : Option (Behind N)) (new : Behind N) → with_earlier puts o ≡ Some new
    → (found : Behind N) × (o ≡ Some found) × (found.network ≡ new.network)
earlier_some puts None new e = absurd (none-some new e)
earlier_some puts (Some found) new e =
    (found, refl, ap (λ (b : Behind _). b.network) (same_Some (record { network = found.network; puts = puts ++ found.puts }) new e))

pub step_some : (old : MessageNetwork Nodes) (o : Option (Stepped Nodes)) (next : Behind (MessageNetwork Nodes)) → with_step old o ≡ Some next
    → (new : Stepped Nodes) × (o ≡ Some new) × (with_messages old new ≡ next.network)
step_some old None next e = absurd (none-some next e)
step_some old (Some new) next e = (
  new,
  refl,
  ap (λ (b : Behind (MessageNetwork Nodes)). b.network)
      (same_Some (record { network = with_messages old new; puts = new.puts }) next e),
)

pub waits : (b c : Bool) (xs ys zs news : List SessionMessage) → b ≡ true → c ≡ true
    → cond b (cond c (xs ++ ys) zs ++ news) (cond c (xs ++ ys) zs) ≡ xs ++ (ys ++ news)
waits b c xs ys zs news p q = (λ i. cond (p i) (cond (q i) (xs ++ ys) zs ++ news) (cond (q i) (xs ++ ys) zs)) ∙ append_assoc xs ys news

module _ (scenario : Scenario) (copies : Copies) (datagrams : List Datagram) (kind : Kind) (a b : NodeId) where
  abbrev over : Direction
  over = direction kind a b

  abbrev own : System Nodes (SoundCall scenario)
  own = sound_system scenario

  pub delivered_good : (first : List SessionMessage) → AllByRecursion (IsCarried kind) first
      → (network : MessageNetwork Nodes) (rest : List SessionMessage) → Good scenario network copies datagrams → network.joined over ≡ true
      → network.transit over ≡ first ++ rest
      → (new : Behind (MessageNetwork Nodes)) → message_run own network (deliveries over first) ≡ Some new
      → Good scenario new.network copies datagrams
  delivered_good [] carried network rest good joined waiting new e =
      subst (λ (n : MessageNetwork Nodes). Good scenario n copies datagrams)
      (ap (λ (s : Behind (MessageNetwork Nodes)). s.network) (same_Some (record { network = network; puts = [] }) new e)) good
  delivered_good (message ∷ more) carried network rest good joined waiting new e =
      let x = bind_some (message_act own network (Deliver over))
      (λ next. with_earlier next.puts (message_run own next.network (deliveries over more))) new e in
      let gone : MessageNetwork Nodes = left network over (more ++ rest) in
      let y = step_some gone (own.taken over message network.state) x.0 (sym (ap (delivered own network over) waiting) ∙ x.1) in
      let keeps : Keeps (Sound scenario) (Some y.0) =
      subst (Keeps (Sound scenario)) y.1 ((honest_nodes scenario).taken over message network.state good.base.sound carried.0) in
      let after : Good scenario (with_messages gone y.0) copies datagrams =
      take_good scenario network copies datagrams good kind a b message (more ++ rest) (of_kind kind message carried.0)
      (taking_is_good a message (carried_is_sound kind message carried.0)) joined waiting y.0 y.1 keeps.1 in
      let z = earlier_some x.0.puts (message_run own x.0.network (deliveries over more)) new x.2 in
      let run : message_run own (with_messages gone y.0) (deliveries over more) ≡ Some z.0 =
      ap (λ (n : MessageNetwork Nodes). message_run own n (deliveries over more)) y.2 ∙ z.1 in
      let still : (with_messages gone y.0).transit over ≡ more ++ (rest ++ messages_over over y.0.puts) =
      waits (network.joined over) (same_direction over over) more rest (network.transit over) (messages_over over y.0.puts) joined
      (own_direction over) in
      subst (λ (n : MessageNetwork Nodes). Good scenario n copies datagrams) z.2
      (delivered_good more carried.1 (with_messages gone y.0) (rest ++ messages_over over y.0.puts) after joined still z.0 run)

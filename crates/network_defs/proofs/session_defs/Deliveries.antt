-- Messages that are taken one after another are delivered one after another.
use Rattle.std.specs.Prelude.{⊤}
use Rattle.std.proofs.Common.{◌≡◌, Bool, true, false, cond, List, [], ◌∷◌, ◌++◌, Option, Some, None, refl, sym, ap, subst, ◌∙◌, append_assoc}
use Rattle.std.specs.List.{AllByRecursion}
use Rattle.mv_base.specs.Number.{◌>>?◌}
use Rattle.network_defs.specs.declared.session_defs.direction.Direction.{Direction}
use Rattle.network_defs.specs.session_defs.Message.{SessionMessage, same_direction}
use Rattle.network_defs.specs.session_defs.System as messages
use Rattle.network_defs.specs.session_defs.System.{Put, Stepped, System, MessageNetwork, Behind, messages_over, octets_over, delivered, message_act, message_run, with_earlier}
use Rattle.network_defs.specs.session_defs.System.MessageAct.{Deliver}
use Rattle.network_defs.specs.session_defs.Octets.{OctetNetwork, with_octets, with_step, all_taken}
use Rattle.network_defs.specs.session_defs.Refined.{AreLines, seen, ArePut, IsCarried, IsHonest, Keeps, IsHonestWhile, deliveries}
use Rattle.network_defs.proofs.session_defs.Lines.{sent_over, line_sent, direction_is, own_direction}

-- Where nodes are honest in every state, each state is a good one.
keeps_always : {S : Type 0} (stepped : Option (Stepped S)) → ArePut stepped → Keeps (λ state. ⊤) stepped
keeps_always None are = tt
keeps_always (Some new) are = (are, tt)

pub honest_while : {S X : Type 0} (system : System S X) → IsHonest system → IsHonestWhile system (λ state. ⊤)
honest_while system honest = record {
  taken = λ direction message state good carried. keeps_always (system.taken direction message state) (honest.taken direction message state carried);
  called = λ call state good. keeps_always (system.called call state) (honest.called call state);
}

-- ---- the same outcome

-- Both end, or both go on: with the same nodes, in a good state, the same sessions and puts, and octets that carry what is
-- pending.
abbrev pub IsSeen : {S : Type 0} → (S → Type 0) → Option (Behind (OctetNetwork S)) → Option (Behind (MessageNetwork S)) → Type 0
IsSeen Good None found = found ≡ None
IsSeen Good (Some new) found =
    (left : Direction → List SessionMessage) × AreLines new.network left
    × (found ≡ Some (record { network = seen new.network left; puts = new.puts })) × Good new.network.state

pub seen_earlier : {S : Type 0} (Good : S → Type 0) (puts : List Put) (new : Option (Behind (OctetNetwork S)))
    (found : Option (Behind (MessageNetwork S))) → IsSeen Good new found → IsSeen Good (with_earlier puts new) (with_earlier puts found)
seen_earlier Good puts None found h = ap (with_earlier puts) h
seen_earlier Good puts (Some new) found (left, lines, same, good) = (left, lines, ap (with_earlier puts) same, good)

-- ---- what is put

-- what is pending after these puts
abbrev pub with_news : {S : Type 0} → OctetNetwork S → (Direction → List SessionMessage) → List Put → Direction → List SessionMessage
with_news network pending puts other = cond (network.joined other) (pending other ++ messages_over other puts) (pending other)

pub news_are : {S : Type 0} (network : OctetNetwork S) (pending : Direction → List SessionMessage) (new : Stepped S) → AreLines network pending
    → ArePut (Some new) → AreLines (with_octets network new) (with_news network pending new.puts)
news_are network pending new lines are other =
    line_sent other.kind (network.joined other) (network.stream other) (network.transit other) (pending other) (octets_over other new.puts)
    (messages_over other new.puts) (sent_over other new.puts are) (lines other)

-- ---- messages in front

-- these messages over the direction, and after them what is pending
abbrev pub in_front : Direction → List SessionMessage → (Direction → List SessionMessage) → Direction → List SessionMessage
in_front direction first pending other = cond (same_direction other direction) (first ++ pending other) (pending other)

front_sent : (here joined : Bool) (message : SessionMessage) (first pending there news : List SessionMessage) → (here ≡ true → there ≡ pending)
    → (let now : List SessionMessage = cond here (first ++ there) (cond here ((message ∷ first) ++ pending) pending) in cond joined (now ++ news) now)
    ≡ cond here (first ++ cond joined (pending ++ news) pending) (cond joined (pending ++ news) pending)
front_sent true true message first pending there news same =
    ap (λ (ms : List SessionMessage). (first ++ ms) ++ news) (same refl) ∙ append_assoc first pending news
front_sent true false message first pending there news same = ap (λ (ms : List SessionMessage). first ++ ms) (same refl)
front_sent false joined message first pending there news same = refl

nothing_in_front : (here : Bool) (pending : List SessionMessage) → cond here ([] ++ pending) pending ≡ pending
nothing_in_front true pending = refl
nothing_in_front false pending = refl

-- the network in messages of which the first over the direction is taken
abbrev one_taken : {S : Type 0} → OctetNetwork S → (Direction → List SessionMessage) → Direction → SessionMessage → List SessionMessage
    → MessageNetwork S
one_taken network pending direction message first =
    record (seen network (in_front direction (message ∷ first) pending))
    { transit = λ other. cond (same_direction other direction) (first ++ pending direction) (in_front direction (message ∷ first) pending other) }

taken_is : {S : Type 0} (network : OctetNetwork S) (pending : Direction → List SessionMessage) (direction : Direction) (message : SessionMessage)
    (first : List SessionMessage) (new : Stepped S)
    → messages.with_messages (one_taken network pending direction message first) new
    ≡ seen (with_octets network new) (in_front direction first (with_news network pending new.puts))
taken_is network pending direction message first new = λ i. record {
  state = new.state;
  joined = network.joined;
  transit =
      λ other. front_sent (same_direction other direction) (network.joined other) message first (pending other) (pending direction)
      (messages_over other new.puts) (λ e. ap pending (sym (direction_is other direction e))) i;
}

delivers : {S X : Type 0} (system : System S X) (network : OctetNetwork S) (pending : Direction → List SessionMessage) (direction : Direction)
    (message : SessionMessage) (first : List SessionMessage)
    → message_act system (seen network (in_front direction (message ∷ first) pending)) (Deliver direction)
    ≡ messages.with_step (one_taken network pending direction message first) (system.taken direction message network.state)
delivers system network pending direction message first =
    let there : in_front direction (message ∷ first) pending direction ≡ message ∷ (first ++ pending direction) =
    ap (λ (b : Bool). cond b ((message ∷ first) ++ pending direction) (pending direction)) (own_direction direction) in
    ap (delivered system (seen network (in_front direction (message ∷ first) pending)) direction) there

-- ---- all of them

-- one message by what the nodes do with it, and then the others
step_seen : {S X : Type 0} (system : System S X) (Good : S → Type 0) (network : OctetNetwork S) (pending : Direction → List SessionMessage)
    (direction : Direction) (message : SessionMessage) (first : List SessionMessage) → AreLines network pending
    → ((next : OctetNetwork S) (waiting : Direction → List SessionMessage) → AreLines next waiting → Good next.state
    → IsSeen Good (all_taken system next direction first)
    (message_run system (seen next (in_front direction first waiting)) (deliveries direction first)))
    → (stepped : Option (Stepped S)) → Keeps Good stepped
    → IsSeen Good (with_step network stepped >>? λ next. with_earlier next.puts (all_taken system next.network direction first))
    (messages.with_step (one_taken network pending direction message first) stepped >>? λ next. with_earlier next.puts
    (message_run system next.network (deliveries direction first)))
step_seen system Good network pending direction message first lines others None keeps = refl
step_seen {S} system Good network pending direction message first lines others (Some new) keeps =
    let rest = others (with_octets network new) (with_news network pending new.puts) (news_are network pending new lines keeps.0) keeps.1 in
    let P : MessageNetwork S → Type 0 =
    λ n. IsSeen Good (with_earlier new.puts (all_taken system (with_octets network new) direction first))
    (with_earlier new.puts (message_run system n (deliveries direction first))) in
    subst P (sym (taken_is network pending direction message first new))
    (seen_earlier Good new.puts (all_taken system (with_octets network new) direction first)
    (message_run system (seen (with_octets network new) (in_front direction first (with_news network pending new.puts)))
    (deliveries direction first)) rest)

pub taken_seen : {S X : Type 0} (system : System S X) (Good : S → Type 0) → IsHonestWhile system Good
    → (direction : Direction) (first : List SessionMessage) → AllByRecursion (λ (message : SessionMessage). IsCarried direction.kind message) first
    → (network : OctetNetwork S) (pending : Direction → List SessionMessage) → AreLines network pending → Good network.state
    → IsSeen Good (all_taken system network direction first)
    (message_run system (seen network (in_front direction first pending)) (deliveries direction first))
taken_seen system Good honest direction [] carried network pending lines good = (
  pending,
  lines,
  (λ i. Some (record {
    network =
        seen network (λ other. nothing_in_front (same_direction other direction) (pending other) i);
    puts = [];
  })),
  good,
)
taken_seen {S} {X} system Good honest direction (message ∷ first) carried network pending lines good =
    let stepped : Option (Stepped S) = system.taken direction message network.state in
    let P : Option (Behind (MessageNetwork S)) → Type 0 =
    λ o. IsSeen Good (with_step network stepped >>? λ next. with_earlier next.puts (all_taken system next.network direction first))
    (o >>? λ next. with_earlier next.puts (message_run system next.network (deliveries direction first))) in
    subst P (sym (delivers system network pending direction message first))
    (step_seen system Good network pending direction message first lines
    (λ next waiting are fine. taken_seen system Good honest direction first carried.1 next waiting are fine) stepped
    (honest.taken direction message network.state good carried.0))

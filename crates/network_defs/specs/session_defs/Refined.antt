-- How a network in octets is one in messages.
use Rattle.std.specs.Prelude.{◌≡◌, ◌≤◌, ℕ, Bool, true, false, List, [], ◌∷◌, ◌++◌, map, length, Option, Some, None, ⊤}
use Rattle.std.specs.List.{AllByRecursion}
use Rattle.mv_base.specs.framing.Cut.Front.{more}
use Rattle.mv_base.specs.framing.Units.{Spelled, octets_of, messages_of, AreUnits}
use Rattle.scenario_defs.specs.declared.event.Kind.{Kind}
use Rattle.network_defs.specs.declared.session_defs.direction.Direction.{Direction}
use Rattle.network_defs.specs.session_defs.Message.{SessionMessage, front_of, IsPut}
use Rattle.network_defs.specs.session_defs.System.{Put, Stepped, System, MessageNetwork, MessageAct, Behind, message_run}
use Rattle.network_defs.specs.session_defs.System.MessageAct.{Deliver, Call as CallNodes}
use Rattle.network_defs.specs.session_defs.Octets.{Stream, OctetNetwork, OctetAct, octet_act, octet_run}
use Rattle.network_defs.specs.session_defs.Octets.OctetAct.{Move, Call}

-- What is held back, with what is in transit after it, is whole units, and they carry what is pending. No whole unit is held back.
pub record Carried (kind : Kind) (stream : Stream) (transit : List ℕ) (pending : List SessionMessage) : Type 0 where
  pub units : List (Spelled SessionMessage)
  pub each : AreUnits (IsPut kind) units
  pub octets : stream.held ++ transit ≡ octets_of units
  pub messages : pending ≡ messages_of units
  pub partial : front_of kind stream.held ≡ more
  pub taken : stream.waiting ≡ []
  pub sound : stream.fault ≡ None

-- Over a direction whose session is joined the octets carry what is pending, and the receiver's stream has no fault. Over any
-- other direction nothing is in transit and nothing is pending.
abbrev pub IsLine : Kind → Bool → Stream → List ℕ → List SessionMessage → Type 0
IsLine kind true stream transit pending = Carried kind stream transit pending
IsLine kind false stream transit pending = (transit ≡ []) × (pending ≡ [])

abbrev pub AreLines : {S : Type 0} → OctetNetwork S → (Direction → List SessionMessage) → Type 0
AreLines network pending = (direction : Direction) →
    IsLine direction.kind (network.joined direction) (network.stream direction) (network.transit direction) (pending direction)

-- the network with these messages in the place of its octets
abbrev pub seen : {S : Type 0} → OctetNetwork S → (Direction → List SessionMessage) → MessageNetwork S
seen network pending = record { state = network.state; joined = network.joined; transit = pending }

-- each unit that is put is spelled as its session asks
abbrev pub ArePut : {S : Type 0} → Option (Stepped S) → Type 0
ArePut None = ⊤
ArePut (Some new) = AllByRecursion (λ (put : Put). IsPut put.over.kind put.unit.messages put.unit.octets) new.puts

-- one of the messages of a unit that is spelled as a session of this kind asks
pub record IsCarried (kind : Kind) (message : SessionMessage) : Type 0 where
  pub before : List SessionMessage
  pub thereafter : List SessionMessage
  pub text : List ℕ
  pub put : IsPut kind (before ++ message ∷ thereafter) text

-- Nodes put only spelled units: at each call of their own, and with each message that a spelled unit carries.
pub record IsHonest {S X : Type 0} (system : System S X) : Type 0 where
  pub taken : (direction : Direction) (message : SessionMessage) (state : S) → IsCarried direction.kind message →
      ArePut (system.taken direction message state)
  pub called : (call : X) (state : S) → ArePut (system.called call state)

-- each unit that is put is spelled, and the state after is a good one
abbrev pub Keeps : {S : Type 0} → (S → Type 0) → Option (Stepped S) → Type 0
Keeps Good None = ⊤
Keeps Good (Some new) = ArePut (Some new) × Good new.state

-- In good states nodes put only spelled units, and a good state comes of it.
pub record IsHonestWhile {S X : Type 0} (system : System S X) (Good : S → Type 0) : Type 0 where
  pub taken : (direction : Direction) (message : SessionMessage) (state : S) → Good state → IsCarried direction.kind message →
      Keeps Good (system.taken direction message state)
  pub called : (call : X) (state : S) → Good state → Keeps Good (system.called call state)

-- Acts on messages lead from the old network to the new one and put the same, and the octets of the new one carry what is
-- pending there.
pub record Refined {S X : Type 0} (system : System S X) (old : OctetNetwork S)
    (pending : Direction → List SessionMessage) (new : Behind (OctetNetwork S)) : Type 0 where
  pub acts : List (MessageAct X)
  pub left : Direction → List SessionMessage
  pub lines : AreLines new.network left
  pub same : message_run system (seen old pending) acts ≡ Some (record { network = seen new.network left; puts = new.puts })

-- so many deliveries, one after another
abbrev pub deliveries : {X : Type 0} → Direction → List SessionMessage → List (MessageAct X)
deliveries direction messages = map (λ message. Deliver direction) messages

-- A move delivers some first messages of those that are pending, one after another: all of them where all octets are moved.
pub record MovesFirst {S X : Type 0} (system : System S X) (old : OctetNetwork S)
    (pending : Direction → List SessionMessage) (direction : Direction) (count : ℕ) (new : Behind (OctetNetwork S)) : Type 0 where
  pub first : List SessionMessage
  pub rest : List SessionMessage
  pub parts : pending direction ≡ first ++ rest
  pub all : length (old.transit direction) ≤ count → rest ≡ []
  pub left : Direction → List SessionMessage
  pub lines : AreLines new.network left
  pub same :
      message_run system (seen old pending) (deliveries direction first)
      ≡ Some (record { network = seen new.network left; puts = new.puts })

-- The acts on messages that an act on octets is where it ends: a call is itself alone, and a move some first messages of those
-- that are pending. No other act ends.
abbrev pub IsRowOf : {X : Type 0} → (Direction → List SessionMessage) → OctetAct X → List (MessageAct X) → Type 0
IsRowOf pending (Call call) row = row ≡ CallNodes call ∷ []
IsRowOf pending (Move direction count) row = (first : List SessionMessage) × (rest : List SessionMessage)
    × (pending direction ≡ first ++ rest) × (row ≡ deliveries direction first)
IsRowOf pending other row = ⊥

-- A run in octets comes, as a run in messages does, to an act that has no step there, and the acts on messages that it is have none
-- there either.
pub record Ends {S X : Type 0} (system : System S X) (old : OctetNetwork S)
    (pending : Direction → List SessionMessage) (acts : List (OctetAct X)) : Type 0 where
  pub before : List (OctetAct X)
  pub act : OctetAct X
  pub after : List (OctetAct X)
  pub parts : acts ≡ before ++ act ∷ after
  pub middle : Behind (OctetNetwork S)
  pub run : octet_run system old before ≡ Some middle
  pub refined : Refined system old pending middle
  pub none : octet_act system middle.network act ≡ None
  pub row : List (MessageAct X)
  pub is_row : IsRowOf refined.left act row
  pub ends : message_run system (seen middle.network refined.left) row ≡ None

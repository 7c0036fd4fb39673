-- A network whose nodes send each other messages over sessions, with whole messages in transit.
use Rattle.std.specs.Prelude.{ℕ, ◌&&◌, ◌||◌, not, Bool, List, [], ◌∷◌, ◌++◌, Option, Some, None, if◌then◌else◌}
use Rattle.std.specs.List.{flat_map}
use Rattle.mv_base.specs.Number.{◌>>?◌}
use Rattle.mv_base.specs.framing.Units.{Spelled}
use Rattle.network_defs.specs.declared.session_defs.direction.Direction.{Direction}
use Rattle.network_defs.specs.session_defs.Message.{SessionMessage, same_direction}

-- a unit that a node puts, and the direction over which it goes
pub record Put : Type 0 where
  pub over : Direction
  pub unit : Spelled SessionMessage

-- all nodes after a step, and what was put, in order
pub record Stepped (S : Type 0) : Type 0 where
  pub state : S
  pub puts : List Put

-- What the nodes do: with a message that comes over a direction, and at a call of their own. There is no step where one is
-- impossible, as where a label is needed and none is free.
pub record System (S X : Type 0) : Type 0 where
  pub taken : Direction → SessionMessage → S → Option (Stepped S)
  pub called : X → S → Option (Stepped S)

-- of what is put, the messages that go over a direction, and the octets
abbrev pub messages_over : Direction → List Put → List SessionMessage
messages_over direction puts = flat_map (λ put. if same_direction put.over direction then put.unit.messages else []) puts

abbrev pub octets_over : Direction → List Put → List ℕ
octets_over direction puts = flat_map (λ put. if same_direction put.over direction then put.unit.octets else []) puts

-- ---- messages in transit

-- all nodes, whether the session of each direction is joined, and the messages in transit there
pub record MessageNetwork (S : Type 0) : Type 0 where
  pub state : S
  pub joined : Direction → Bool
  pub transit : Direction → List SessionMessage

-- A network after acts, and all that was put in them.
pub record Behind (N : Type 0) : Type 0 where
  pub network : N
  pub puts : List Put

-- What may happen: the first message in transit over a direction is taken; the nodes are called; the sessions of some
-- directions are lost, and what is in transit there; the sessions of some directions are joined.
pub data MessageAct (X : Type 0) : Type 0 where
  Deliver : (direction : Direction) → MessageAct X
  Call : (call : X) → MessageAct X
  Lose : (hit : Direction → Bool) → MessageAct X
  Join : (hit : Direction → Bool) → MessageAct X

-- what is put goes after what is in transit; it is lost where the session is not joined
abbrev pub with_messages : {S : Type 0} → MessageNetwork S → Stepped S → MessageNetwork S
with_messages old new = record {
  state = new.state;
  joined = old.joined;
  transit = λ direction.
      if old.joined direction
      then old.transit direction ++ messages_over direction new.puts
      else old.transit direction;
}

abbrev pub with_step : {S : Type 0} → MessageNetwork S → Option (Stepped S) → Option (Behind (MessageNetwork S))
with_step old None = None
with_step old (Some new) = Some (record { network = with_messages old new; puts = new.puts })

-- the network with the rest in transit over the direction
abbrev pub with_rest : {S : Type 0} → MessageNetwork S → Direction → List SessionMessage → MessageNetwork S
with_rest old direction rest = record old { transit = λ other. if same_direction other direction then rest else old.transit other }

abbrev pub delivered :
    {S X : Type 0} → System S X → MessageNetwork S → Direction → List SessionMessage → Option (Behind (MessageNetwork S))
delivered system old direction [] = Some (record { network = old; puts = [] })
delivered system old direction (message ∷ rest) =
    with_step (with_rest old direction rest) (system.taken direction message old.state)

abbrev pub message_act : {S X : Type 0} → System S X → MessageNetwork S → MessageAct X → Option (Behind (MessageNetwork S))
message_act system old (Deliver direction) = delivered system old direction (old.transit direction)
message_act system old (Call call) = with_step old (system.called call old.state)
message_act system old (Lose hit) = Some (record {
  network = record old {
    joined = λ direction. old.joined direction && not (hit direction);
    transit = λ direction. if hit direction then [] else old.transit direction;
  };
  puts = [];
})
message_act system old (Join hit) = Some (record {
  network = record old {
    joined = λ direction. old.joined direction || hit direction;
    transit = λ direction. if hit direction then [] else old.transit direction;
  };
  puts = [];
})

-- the network after, with what was put before it
abbrev pub with_earlier : {N : Type 0} → List Put → Option (Behind N) → Option (Behind N)
with_earlier puts None = None
with_earlier puts (Some new) = Some (record { network = new.network; puts = puts ++ new.puts })

-- the network after a row of acts
abbrev pub message_run : {S X : Type 0} → System S X → MessageNetwork S → List (MessageAct X) → Option (Behind (MessageNetwork S))
message_run system old [] = Some (record { network = old; puts = [] })
message_run system old (act ∷ acts) = message_act system old act >>? λ next. with_earlier next.puts (message_run system next.network acts)

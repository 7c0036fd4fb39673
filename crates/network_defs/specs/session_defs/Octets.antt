-- The same network with octets in transit.
use Rattle.std.specs.Prelude.{ℕ, ◌&&◌, ◌||◌, not, Bool, List, [], ◌∷◌, ◌++◌, take, drop, Option, Some, None, if◌then◌else◌}
use Rattle.mv_base.specs.Number.{◌>>?◌}
use Rattle.mv_base.specs.framing.Feed.{Fed, fed, unfed}
use Rattle.network_defs.specs.declared.session_defs.direction.Direction.{Direction}
use Rattle.network_defs.specs.session_defs.Message.{SessionMessage, SessionFault, same_direction, front_of}
use Rattle.network_defs.specs.session_defs.System.{Stepped, System, Behind, octets_over, with_earlier}

-- the stream of the receiver of a direction: the octets that it holds back, how many came before them, and its first fault
abbrev pub Stream : Type 0
Stream = Fed SessionMessage SessionFault

-- all nodes, whether the session of each direction is joined, the octets in transit there, and the receiver's stream
pub record OctetNetwork (S : Type 0) : Type 0 where
  pub state : S
  pub joined : Direction → Bool
  pub transit : Direction → List ℕ
  pub stream : Direction → Stream

-- What may happen: the first so many octets in transit over a direction are taken, or all where there are fewer; the nodes are
-- called; the sessions of some directions are lost, and the octets in transit there; the receivers of some directions whose
-- sessions are not joined forget what they hold back; the sessions of some directions are joined, with fresh streams and nothing in
-- transit.
pub data OctetAct (X : Type 0) : Type 0 where
  Move : (direction : Direction) → (count : ℕ) → OctetAct X
  Call : (call : X) → OctetAct X
  Lose : (hit : Direction → Bool) → OctetAct X
  Forget : (hit : Direction → Bool) → OctetAct X
  Join : (hit : Direction → Bool) → OctetAct X

abbrev pub with_octets : {S : Type 0} → OctetNetwork S → Stepped S → OctetNetwork S
with_octets old new = record old {
  state = new.state;
  transit = λ direction.
      if old.joined direction
      then old.transit direction ++ octets_over direction new.puts
      else old.transit direction;
}

abbrev pub with_step : {S : Type 0} → OctetNetwork S → Option (Stepped S) → Option (Behind (OctetNetwork S))
with_step old None = None
with_step old (Some new) = Some (record { network = with_octets old new; puts = new.puts })

-- the messages are taken one after another
abbrev pub all_taken : {S X : Type 0} → System S X → OctetNetwork S → Direction → List SessionMessage → Option (Behind (OctetNetwork S))
all_taken system old direction [] = Some (record { network = old; puts = [] })
all_taken system old direction (message ∷ more) =
    with_step old (system.taken direction message old.state) >>? λ next.
    with_earlier next.puts (all_taken system next.network direction more)

-- the piece goes from what is in transit to the receiver's stream, and the messages that are whole then are taken
abbrev pub moved : {S X : Type 0} → System S X → OctetNetwork S → Direction → ℕ → Option (Behind (OctetNetwork S))
moved system old direction count =
    let new = fed (front_of direction.kind) (old.stream direction) (take count (old.transit direction)) in
    let left = record old {
      transit = λ other. if same_direction other direction then drop count (old.transit direction) else old.transit other;
      stream = λ other. if same_direction other direction then record new { waiting = [] } else old.stream other;
    } in
    all_taken system left direction new.waiting

abbrev pub octet_act : {S X : Type 0} → System S X → OctetNetwork S → OctetAct X → Option (Behind (OctetNetwork S))
octet_act system old (Move direction count) =
    if old.joined direction then moved system old direction count else Some (record { network = old; puts = [] })
octet_act system old (Call call) = with_step old (system.called call old.state)
octet_act system old (Lose hit) = Some (record {
  network = record old {
    joined = λ direction. old.joined direction && not (hit direction);
    transit = λ direction. if hit direction then [] else old.transit direction;
  };
  puts = [];
})
octet_act system old (Forget hit) = Some (record {
  network = record old {
    stream = λ direction. if hit direction && not (old.joined direction) then unfed else old.stream direction;
  };
  puts = [];
})
octet_act system old (Join hit) = Some (record {
  network = record old {
    joined = λ direction. old.joined direction || hit direction;
    transit = λ direction. if hit direction then [] else old.transit direction;
    stream = λ direction. if hit direction then unfed else old.stream direction;
  };
  puts = [];
})

-- the network after a row of acts
abbrev pub octet_run : {S X : Type 0} → System S X → OctetNetwork S → List (OctetAct X) → Option (Behind (OctetNetwork S))
octet_run system old [] = Some (record { network = old; puts = [] })
octet_run system old (act ∷ acts) = octet_act system old act >>? λ next. with_earlier next.puts (octet_run system next.network acts)

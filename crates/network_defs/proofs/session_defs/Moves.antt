-- A move over a joined session delivers some first messages of those that are pending.
use Rattle.std.specs.Prelude.{⊤}
use Rattle.std.proofs.Common.{◌≡◌, ℕ, ◌-◌, ◌≤◌, Bool, true, false, cond, List, [], ◌∷◌, ◌++◌, length, take, drop, Option, Some, None, refl, sym, ap, subst, ◌∙◌, append_assoc}
use Rattle.std.specs.List.{AllByRecursion}
use Rattle.std.proofs.lemmas.List.{take-append-drop, drop_all}
use Rattle.std.proofs.lemmas.List.Concat.{flat_map-append}
use Rattle.mv_base.specs.Octets.{IsOctets}
use Rattle.mv_base.specs.framing.Units.{Spelled, octets_of, messages_of, AreUnits}
use Rattle.mv_base.specs.framing.Cut.{Cut}
use Rattle.mv_base.specs.framing.Feed.{fed, fed_by, fed_unless, further}
use Rattle.mv_base.proofs.framing.Cuts.{IsOctets-before}
use Rattle.scenario_defs.specs.declared.event.Kind.{Kind}
use Rattle.network_defs.specs.declared.session_defs.direction.Direction.{Direction}
use Rattle.network_defs.specs.session_defs.Message.{SessionMessage, SessionFault, same_direction, front_of, Spells, IsPut}
use Rattle.network_defs.specs.session_defs.System.{System, Behind, MessageNetwork, message_run}
use Rattle.network_defs.specs.session_defs.Octets.{Stream, OctetNetwork, all_taken, moved}
use Rattle.network_defs.specs.session_defs.Refined.{Carried, IsLine, AreLines, seen, IsCarried, IsHonest, IsHonestWhile, MovesFirst, deliveries}
use Rattle.network_defs.proofs.session_defs.Fronts.{stream_of}
use Rattle.network_defs.proofs.session_defs.Came.{Came, came, came_cut, came_all}
use Rattle.network_defs.proofs.session_defs.Lines.{are_spelled, are_octets, all_both, are_before, are_after, line_moved, direction_is}
use Rattle.network_defs.proofs.session_defs.Deliveries.{IsSeen, in_front, honest_while, taken_seen}

-- ---- what comes of one line

-- what comes of a line when a piece goes to the receiver
pub came_of : (kind : Kind) (stream : Stream) (transit : List ℕ) (pending : List SessionMessage) (count : ℕ) (c : Carried kind stream transit pending)
    → Came (front_of kind) (Spells kind) (stream.held ++ take count transit) (drop count transit) c.units
came_of kind stream transit pending count c =
    let here : List ℕ = stream.held ++ take count transit in
    let split : here ++ drop count transit ≡ octets_of c.units =
    append_assoc stream.held (take count transit) (drop count transit) ∙ ap (λ (xs : List ℕ). stream.held ++ xs) (take-append-drop count transit)
    ∙ c.octets in
    let fits : IsOctets here = IsOctets-before here (drop count transit) (subst IsOctets (sym split) (are_octets kind c.units c.each)) in
    came (front_of kind) (Spells kind) (stream_of kind) here (drop count transit) c.units (are_spelled kind c.units c.each) fits split

-- the receiver's stream without the messages that are taken
abbrev rests : Stream → List ℕ → List ℕ → Stream
rests stream here rest = record { waiting = []; held = rest; before = further stream.before (length here - length rest); fault = None }

fed_is : (kind : Kind) (stream : Stream) (transit : List ℕ) (pending : List SessionMessage) (count : ℕ) (c : Carried kind stream transit pending)
    (some : Came (front_of kind) (Spells kind) (stream.held ++ take count transit) (drop count transit) c.units)
    → fed (front_of kind) stream (take count transit)
    ≡ record (rests stream (stream.held ++ take count transit) some.rest) { waiting = messages_of some.done }
fed_is kind stream transit pending count c some =
    let here : List ℕ = stream.held ++ take count transit in
    ap (λ (o : Option _). fed_unless (front_of kind) o stream (take count transit)) c.sound
    ∙ ap (λ (k : Cut SessionMessage SessionFault). fed_by stream (length here) k)
    (came_cut (front_of kind) (Spells kind) (stream_of kind) here (drop count transit) c.units some)
    ∙ ap (λ (ms : List SessionMessage). record (rests stream here some.rest) { waiting = ms ++ messages_of some.done }) c.taken

-- what is left carries the messages of the units that did not come whole
left_carried : (kind : Kind) (stream : Stream) (transit : List ℕ) (pending : List SessionMessage) (count : ℕ)
    (c : Carried kind stream transit pending) (some : Came (front_of kind) (Spells kind) (stream.held ++ take count transit) (drop count transit)
    c.units)
    → Carried kind (rests stream (stream.held ++ take count transit) some.rest) (drop count transit) (messages_of some.left)
left_carried kind stream transit pending count c some = record {
  units = some.left;
  each = are_after (IsPut kind) some.done some.left (subst (AreUnits (IsPut kind)) some.both c.each);
  octets = some.comes;
  messages = refl;
  partial = some.partial;
  taken = refl;
  sound = refl;
}

none_left : (kind : Kind) (stream : Stream) (transit : List ℕ) (pending : List SessionMessage) (count : ℕ) (c : Carried kind stream transit pending)
    (some : Came (front_of kind) (Spells kind) (stream.held ++ take count transit) (drop count transit) c.units)
    → length transit ≤ count → messages_of some.left ≡ []
none_left kind stream transit pending count c some le =
    let all : some.rest ++ [] ≡ octets_of some.left = ap (λ (xs : List ℕ). some.rest ++ xs) (sym (drop_all count transit le)) ∙ some.comes in
    ap messages_of (came_all (front_of kind) (Spells kind) (stream_of kind) some.rest some.left some.left_are all some.partial)

parts_of : (kind : Kind) (stream : Stream) (transit : List ℕ) (pending : List SessionMessage) (count : ℕ) (c : Carried kind stream transit pending)
    (some : Came (front_of kind) (Spells kind) (stream.held ++ take count transit) (drop count transit) c.units)
    → pending ≡ messages_of some.done ++ messages_of some.left
parts_of kind stream transit pending count c some =
    c.messages ∙ ap messages_of some.both ∙ flat_map-append (λ (u : Spelled SessionMessage). u.messages) some.done some.left

-- each message that came whole is one that a spelled unit carries
all_carried : (kind : Kind) (text : List ℕ) (before messages : List SessionMessage) → IsPut kind (before ++ messages) text
    → AllByRecursion (λ (message : SessionMessage). IsCarried kind message) messages
all_carried kind text before [] put = tt
all_carried kind text before (message ∷ messages) put = (
  record { before = before; thereafter = messages; text = text; put = put },
  all_carried kind text (before ++ message ∷ []) messages
      (subst (λ (ms : List SessionMessage). IsPut kind ms text) (sym (append_assoc before (message ∷ []) messages)) put),
)

units_carried : (kind : Kind) (units : List (Spelled SessionMessage)) → AreUnits (IsPut kind) units
    → AllByRecursion (λ (message : SessionMessage). IsCarried kind message) (messages_of units)
units_carried kind [] are = tt
units_carried kind (unit ∷ units) are =
    all_both (λ (message : SessionMessage). IsCarried kind message) unit.messages (messages_of units)
    (all_carried kind unit.octets [] unit.messages are.0) (units_carried kind units are.1)

done_carried : (kind : Kind) (stream : Stream) (transit : List ℕ) (pending : List SessionMessage) (count : ℕ)
    (c : Carried kind stream transit pending) (some : Came (front_of kind) (Spells kind) (stream.held ++ take count transit) (drop count transit)
    c.units)
    → AllByRecursion (λ (message : SessionMessage). IsCarried kind message) (messages_of some.done)
done_carried kind stream transit pending count c some =
    units_carried kind some.done (are_before (IsPut kind) some.done some.left (subst (AreUnits (IsPut kind)) some.both c.each))

-- ---- the network

-- a line in the place of that of the direction
abbrev placed : {S : Type 0} → OctetNetwork S → Direction → List ℕ → Stream → OctetNetwork S
placed network direction transit stream = record network {
  transit = λ other. cond (same_direction other direction) transit (network.transit other);
  stream = λ other. cond (same_direction other direction) stream (network.stream other);
}

abbrev pending_there : Direction → List SessionMessage → (Direction → List SessionMessage) → Direction → List SessionMessage
pending_there direction left pending other = cond (same_direction other direction) left (pending other)

placed_lines : {S : Type 0} (network : OctetNetwork S) (pending : Direction → List SessionMessage) (direction : Direction) (transit : List ℕ)
    (stream : Stream) (left : List SessionMessage) → AreLines network pending → network.joined direction ≡ true
    → Carried direction.kind stream transit left
    → AreLines (placed network direction transit stream) (pending_there direction left pending)
placed_lines network pending direction transit stream left lines joined carried other =
    line_moved other.kind (same_direction other direction) (network.joined other) (network.stream other) stream (network.transit other) transit
    (pending other) left (λ e.
    let line : IsLine direction.kind (network.joined direction) stream transit left =
    subst (λ (b : Bool). IsLine direction.kind b stream transit left) (sym joined) carried in
    subst (λ (d : Direction). IsLine d.kind (network.joined d) stream transit left) (sym (direction_is other direction e)) line) (lines other)

front_back : (here : Bool) (pending first left : List SessionMessage) → (here ≡ true → pending ≡ first ++ left)
    → pending ≡ cond here (first ++ cond here left pending) (cond here left pending)
front_back true pending first left e = e refl
front_back false pending first left e = refl

fronted : {S : Type 0} (network : OctetNetwork S) (pending : Direction → List SessionMessage) (direction : Direction) (transit : List ℕ)
    (stream : Stream) (first left : List SessionMessage) → pending direction ≡ first ++ left
    → seen network pending ≡ seen (placed network direction transit stream) (in_front direction first (pending_there direction left pending))
fronted network pending direction transit stream first left parts = λ i. record {
  state = network.state;
  joined = network.joined;
  transit =
      λ other. front_back (same_direction other direction) (pending other) first left (λ e. ap pending (direction_is other direction e) ∙ parts) i;
}

-- ---- a move

-- some first messages that are pending, all where all octets are moved, and what comes of their deliveries
pub record Moved {S X : Type 0} (system : System S X) (Good : S → Type 0) (old : OctetNetwork S) (pending : Direction → List SessionMessage)
    (direction : Direction) (count : ℕ) : Type 0 where
  pub first : List SessionMessage
  pub rest : List SessionMessage
  pub parts : pending direction ≡ first ++ rest
  pub all : length (old.transit direction) ≤ count → rest ≡ []
  pub outcome : IsSeen Good (moved system old direction count) (message_run system (seen old pending) (deliveries direction first))

-- what the messages that a fed stream hands out do
abbrev takes : {S X : Type 0} → System S X → OctetNetwork S → Direction → ℕ → Stream → Option (Behind (OctetNetwork S))
takes system old direction count new =
    all_taken system (placed old direction (drop count (old.transit direction)) (record new { waiting = [] })) direction new.waiting

pub moved_seen : {S X : Type 0} (system : System S X) (Good : S → Type 0) → IsHonestWhile system Good
    → (old : OctetNetwork S) (pending : Direction → List SessionMessage) (direction : Direction) (count : ℕ) → AreLines old pending → Good old.state
    → old.joined direction ≡ true
    → Carried direction.kind (old.stream direction) (old.transit direction) (pending direction) → Moved system Good old pending direction count
moved_seen {S} {X} system Good honest old pending direction count lines good joined c =
    let kind : Kind = direction.kind in
    let stream : Stream = old.stream direction in
    let transit : List ℕ = old.transit direction in
    let some = came_of kind stream transit (pending direction) count c in
    let first : List SessionMessage = messages_of some.done in
    let left : List SessionMessage = messages_of some.left in
    let new : Stream = rests stream (stream.held ++ take count transit) some.rest in
    let parts = parts_of kind stream transit (pending direction) count c some in
    let next : OctetNetwork S = placed old direction (drop count transit) new in
    let waiting : Direction → List SessionMessage = pending_there direction left pending in
    let next_lines : AreLines next waiting =
    placed_lines old pending direction (drop count transit) new left lines joined
    (left_carried kind stream transit (pending direction) count c some) in
    let delivered : IsSeen Good (all_taken system next direction first)
    (message_run system (seen next (in_front direction first waiting)) (deliveries direction first)) =
    taken_seen system Good honest direction first (done_carried kind stream transit (pending direction) count c some) next waiting next_lines good
    in
    let same : IsSeen Good (all_taken system next direction first) (message_run system (seen old pending) (deliveries direction first)) =
    subst (λ (n : MessageNetwork S). IsSeen Good (all_taken system next direction first) (message_run system n (deliveries direction first)))
    (sym (fronted old pending direction (drop count transit) new first left parts)) delivered in
    record {
      first = first;
      rest = left;
      parts = parts;
      all = none_left kind stream transit (pending direction) count c some;
      outcome =
          subst (λ (d : Stream). IsSeen Good (takes system old direction count d)
          (message_run system (seen old pending) (deliveries direction first))) (sym (fed_is kind stream transit (pending direction) count c some))
          same;
    }

carried_there : {S : Type 0} (old : OctetNetwork S) (pending : Direction → List SessionMessage) (direction : Direction) → AreLines old pending
    → old.joined direction ≡ true → Carried direction.kind (old.stream direction) (old.transit direction) (pending direction)
carried_there old pending direction lines joined =
    subst (λ (b : Bool). IsLine direction.kind b (old.stream direction) (old.transit direction) (pending direction)) joined (lines direction)

pub moves_first_while : {S X : Type 0} (system : System S X) (Good : S → Type 0) (old : OctetNetwork S) (pending : Direction → List SessionMessage)
    (direction : Direction) (count : ℕ) (new : Behind (OctetNetwork S)) → IsHonestWhile system Good → AreLines old pending
    → Good old.state → old.joined direction ≡ true → moved system old direction count ≡ Some new
    → MovesFirst system old pending direction count new × Good new.network.state
moves_first_while {S} {X} system Good old pending direction count new honest lines good joined e =
    let m = moved_seen system Good honest old pending direction count lines good joined (carried_there old pending direction lines joined) in
    let is : IsSeen Good (Some new) (message_run system (seen old pending) (deliveries direction m.first)) =
    subst (λ (o : Option (Behind (OctetNetwork S))). IsSeen Good o (message_run system (seen old pending) (deliveries direction m.first))) e
    m.outcome in
    (record { first = m.first; rest = m.rest; parts = m.parts; all = m.all; left = is.0; lines = is.1; same = is.2 }, is.3)

pub moves_first : {S X : Type 0} (system : System S X) (old : OctetNetwork S) (pending : Direction → List SessionMessage) (direction : Direction)
    (count : ℕ) (new : Behind (OctetNetwork S)) → IsHonest system → AreLines old pending → old.joined direction ≡ true
    → moved system old direction count ≡ Some new → MovesFirst system old pending direction count new
moves_first system old pending direction count new honest lines joined e =
    (moves_first_while system (λ state. ⊤) old pending direction count new (honest_while system honest) lines tt joined e).0

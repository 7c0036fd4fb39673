-- Acts on octets keep the label rule.
use Rattle.std.specs.Prelude.{⊤, take, drop}
use Rattle.std.proofs.Common.{◌≡◌, ℕ, Bool, true, false, cond, List, [], ◌∷◌, ◌++◌, Option, Some, None, refl, sym, ap, subst, ◌∙◌}
use Rattle.std.specs.List.{AllByRecursion}
use Rattle.mv_base.specs.Number.{◌>>?◌}
use Rattle.mv_base.specs.declared.ids.NodeId.{NodeId}
use Rattle.mv_base.specs.framing.Feed.{fed}
use Rattle.mv_base.specs.framing.Units.{Spelled, messages_of, AreUnits}
use Rattle.scenario_defs.specs.declared.event.Kind.{Kind}
use Rattle.scenario_defs.specs.declared.scenario.Scenario.{Scenario}
use Rattle.network_defs.specs.session_defs.Message.{SessionMessage, IsPut, front_of, same_direction}
use Rattle.network_defs.specs.session_defs.Octets as octets
use Rattle.network_defs.specs.session_defs.Octets.{OctetNetwork, with_step, moved, octet_run}
use Rattle.network_defs.specs.session_defs.Refined.{IsLine, AreLines, seen, Keeps, IsCarried, deliveries}
use Rattle.network_defs.specs.session_defs.System.{Stepped, MessageNetwork, Behind, with_messages, with_earlier, message_run}
use Rattle.network_defs.specs.declared.session_defs.direction.Direction.{Direction}
use Rattle.network_defs.proofs.session_defs.Deliveries.{IsSeen, with_news, news_are}
use Rattle.network_defs.proofs.session_defs.Lines.{all_both}
use Rattle.network_defs.proofs.session_defs.Moves.{moved_seen}
use Rattle.network_defs.specs.Counts.{direction}
use Rattle.network_defs.specs.Nodes.{Nodes}
use Rattle.network_defs.specs.System.{NodeCall, system}
use Rattle.network_defs.specs.World.{Datagram}
use Rattle.network_laws.specs.Sound.{Sound}
use Rattle.network_laws.specs.Honest.{IsSoundNodeCall, sound_system}
use Rattle.network_laws.proofs.Nodes.{honest_nodes}
use Rattle.network_laws.proofs.RunActs.{taken_alike}
use Rattle.rule_laws.specs.Labels.{Copies}
use Rattle.rule_laws.proofs.Calls.{Good}
use Rattle.rule_laws.proofs.Deliveries.{delivered_good}

-- ---- what is kept

-- What is in transit, in octets, carries messages with which all is kept.
abbrev pub OctetsGood : Scenario → OctetNetwork Nodes → Copies → List Datagram → Type 0
OctetsGood scenario network copies datagrams =
    (pending : Direction → List SessionMessage) × AreLines network pending × Good scenario (seen network pending) copies datagrams

-- the same after acts, if there is a network
abbrev pub BehindGood : Scenario → Copies → List Datagram → Option (Behind (OctetNetwork Nodes)) → Type 0
BehindGood scenario copies datagrams None = ⊤
BehindGood scenario copies datagrams (Some new) = OctetsGood scenario new.network copies datagrams

pub earlier_good : (scenario : Scenario) (copies : Copies) (datagrams : List Datagram) (puts : List _) (found : Option (Behind (OctetNetwork Nodes)))
    → BehindGood scenario copies datagrams found → BehindGood scenario copies datagrams (with_earlier puts found)
earlier_good scenario copies datagrams puts None h = tt
earlier_good scenario copies datagrams puts (Some new) h = h

-- ---- a call

pub called_good : (scenario : Scenario) (copies : Copies) (datagrams : List Datagram) (old : OctetNetwork Nodes)
    (pending : Direction → List SessionMessage) → AreLines old pending → Sound scenario old.state → (call : NodeCall) → IsSoundNodeCall scenario call
    → ((new : Stepped Nodes) → system.called call old.state ≡ Some new → Sound scenario new.state
    → Good scenario (with_messages (seen old pending) new) copies datagrams)
    → BehindGood scenario copies datagrams (octet_run system old (octets.Call call ∷ []))
called_good scenario copies datagrams old pending lines sound call is gives =
    by (system.called call old.state) refl ((honest_nodes scenario).called (record { call = call; sound = is }) old.state sound)
  where
    by : (o : Option (Stepped Nodes)) → system.called call old.state ≡ o → Keeps (Sound scenario) o
        → BehindGood scenario copies datagrams (with_step old o >>? λ next. with_earlier next.puts
        (Some (record { network = next.network; puts = [] })))
    by None e keeps = tt
    by (Some new) e keeps = (with_news old pending new.puts, news_are old pending new lines keeps.0, gives new e keeps.1)

-- ---- a move

pub all_carried : (kind : Kind) (text : List ℕ) (before messages : List SessionMessage) → IsPut kind (before ++ messages) text
    → AllByRecursion (IsCarried kind) messages
all_carried kind text before [] put = tt
all_carried kind text before (message ∷ messages) put = (
  record { before = before; thereafter = messages; text = text; put = put },
  all_carried kind text (before ++ message ∷ []) messages
      (subst (λ (ms : List SessionMessage). IsPut kind ms text) (grouped before message messages) put),
)
  where
    grouped : (xs : List SessionMessage) (x : SessionMessage) (ys : List SessionMessage) → xs ++ x ∷ ys ≡ (xs ++ x ∷ []) ++ ys
    grouped [] x ys = refl
    grouped (y ∷ xs) x ys = ap (λ (zs : List SessionMessage). y ∷ zs) (grouped xs x ys)

pub units_carried : (kind : Kind) (units : List (Spelled SessionMessage)) → AreUnits (IsPut kind) units
    → AllByRecursion (IsCarried kind) (messages_of units)
units_carried kind [] are = tt
units_carried kind (unit ∷ units) are =
    all_both (IsCarried kind) unit.messages (messages_of units) (all_carried kind unit.octets [] unit.messages are.0) (units_carried kind units are.1)

first_carried : (kind : Kind) (first rest : List SessionMessage) → AllByRecursion (IsCarried kind) (first ++ rest)
    → AllByRecursion (IsCarried kind) first
first_carried kind [] rest all = tt
first_carried kind (message ∷ first) rest all = (all.0, first_carried kind first rest all.1)

seen_good : (scenario : Scenario) (copies : Copies) (datagrams : List Datagram) (o : Option (Behind (OctetNetwork Nodes)))
    (found : Option (Behind (MessageNetwork Nodes))) → IsSeen (Sound scenario) o found
    → ((new : Behind (MessageNetwork Nodes)) → found ≡ Some new → Good scenario new.network copies datagrams) → BehindGood scenario copies datagrams o
seen_good scenario copies datagrams None found is gives = tt
seen_good scenario copies datagrams (Some new) found is gives = (is.0, is.1, gives (record { network = seen new.network is.0; puts = new.puts }) is.2)

pub move_good : (scenario : Scenario) (copies : Copies) (datagrams : List Datagram) (old : OctetNetwork Nodes) (kind : Kind) (a b : NodeId)
    (count : ℕ) → OctetsGood scenario old copies datagrams
    → BehindGood scenario copies datagrams (octet_run system old (octets.Move (direction kind a b) count ∷ []))
move_good scenario copies datagrams old kind a b count (pending, lines, good) = by (old.joined over) refl (lines over)
  where
    over : Direction
    over = direction kind a b

    by : (joined : Bool) → old.joined over ≡ joined → IsLine kind joined (old.stream over) (old.transit over) (pending over)
        → BehindGood scenario copies datagrams ((cond joined (moved system old over count) (Some (record { network = old; puts = [] }))) >>? λ next.
        with_earlier next.puts (Some (record { network = next.network; puts = [] })))
    by false e line = (pending, lines, good)
    by true e line =
        let m = moved_seen (sound_system scenario) (Sound scenario) (honest_nodes scenario) old pending over count lines good.base.sound e line in
        let all : AllByRecursion (IsCarried kind) (m.first ++ m.rest) =
        subst (AllByRecursion (IsCarried kind)) (sym line.messages ∙ m.parts) (units_carried kind line.units line.each) in
        let P : Option (Behind (OctetNetwork Nodes)) → Type 0 =
        λ o. BehindGood scenario copies datagrams (o >>? λ next. with_earlier next.puts (Some (record { network = next.network; puts = [] }))) in
        let new = fed (front_of kind) (old.stream over) (take count (old.transit over)) in
        let gone : OctetNetwork Nodes = record old {
          transit = λ other. cond (same_direction other over) (drop count (old.transit over)) (old.transit other);
          stream = λ other. cond (same_direction other over) (record new { waiting = [] }) (old.stream other);
        } in
        subst P (taken_alike scenario over new.waiting gone)
        (alone (moved (sound_system scenario) old over count)
        (seen_good scenario copies datagrams (moved (sound_system scenario) old over count)
        (message_run (sound_system scenario) (seen old pending) (deliveries over m.first)) m.outcome
        (λ thereafter is. delivered_good scenario copies datagrams kind a b m.first (first_carried kind m.first m.rest all) (seen old pending) m.rest good
        e m.parts thereafter is)))
      where
        alone : (o : Option (Behind (OctetNetwork Nodes))) → BehindGood scenario copies datagrams o
            → BehindGood scenario copies datagrams (o >>? λ next. with_earlier next.puts (Some (record { network = next.network; puts = [] })))
        alone None h = tt
        alone (Some next) h = h

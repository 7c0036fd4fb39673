-- What each act does to a line: the octets of a direction, and the messages that they carry.
use Rattle.std.proofs.Common.{◌≡◌, ℕ, ◌-◌, Bool, true, false, cond, eqb, not, List, [], ◌∷◌, ◌++◌, length, refl, sym, ap, subst, ◌∙◌, append_assoc, arith, inl, inr, ◌&&◌, ◌||◌}
use Rattle.std.specs.List.{AllByRecursion}
use Rattle.std.proofs.lemmas.Bool.{cases_lt, and_parts, eqb-true, eq-eqb}
use Rattle.std.proofs.lemmas.List.{get_or_append_left, get_or-append_right}
use Rattle.std.proofs.lemmas.List.Concat.{flat_map-append}
use Rattle.mv_base.specs.Octets.{IsOctets}
use Rattle.mv_base.specs.framing.Units.{Spelled, octets_of, messages_of, AreUnits}
use Rattle.mv_base.specs.framing.Feed.{unfed}
use Rattle.scenario_defs.specs.declared.event.Kind.{Kind}
use Rattle.scenario_defs.specs.declared.event.Kind.TheVariants as kinds
use Rattle.network_defs.specs.declared.session_defs.direction.Direction.{Direction}
use Rattle.scenario_defs.specs.Kinds.{same_kind}
use Rattle.network_defs.specs.session_defs.Message.{SessionMessage, IsPut, Spells, same_direction}
use Rattle.network_defs.specs.session_defs.System.{Put, messages_over, octets_over}
use Rattle.network_defs.specs.session_defs.Octets.{Stream}
use Rattle.network_defs.specs.session_defs.Refined.{Carried, IsLine}
use Rattle.network_defs.proofs.session_defs.Fronts.{stream_of}

-- ---- units

pub are_spelled : (kind : Kind) (units : List (Spelled SessionMessage)) → AreUnits (IsPut kind) units → AreUnits (Spells kind) units
are_spelled kind [] h = tt
are_spelled kind (unit ∷ units) h = (h.0.0, are_spelled kind units h.1)

both_octets : (a b : List ℕ) → IsOctets a → IsOctets b → IsOctets (a ++ b)
both_octets a b h k i =
    elim (cases_lt i (length a)) [
      | inl lt ↦ rw (get_or_append_left a b 0 i lt) (h i)
      | inr le ↦ rw (get_or-append_right a b (length a) i 0 refl le) (k (i - length a))
    ]

pub are_octets : (kind : Kind) (units : List (Spelled SessionMessage)) → AreUnits (IsPut kind) units → IsOctets (octets_of units)
are_octets kind [] h = λ i. omega arith
are_octets kind (unit ∷ units) h = both_octets unit.octets (octets_of units) h.0.1 (are_octets kind units h.1)

pub are_both : {M : Type 0} (P : List M → List ℕ → Type 0) (a b : List (Spelled M)) → AreUnits P a → AreUnits P b → AreUnits P (a ++ b)
are_both P [] b h k = k
are_both P (unit ∷ units) b h k = (h.0, are_both P units b h.1 k)

pub all_both : {A : Type 0} (P : A → Type 0) (a b : List A) → AllByRecursion P a → AllByRecursion P b → AllByRecursion P (a ++ b)
all_both P [] b h k = k
all_both P (x ∷ xs) b h k = (h.0, all_both P xs b h.1 k)

pub are_before : {M : Type 0} (P : List M → List ℕ → Type 0) (a b : List (Spelled M)) → AreUnits P (a ++ b) → AreUnits P a
are_before P [] b h = tt
are_before P (unit ∷ units) b h = (h.0, are_before P units b h.1)

pub are_after : {M : Type 0} (P : List M → List ℕ → Type 0) (a b : List (Spelled M)) → AreUnits P (a ++ b) → AreUnits P b
are_after P [] b h = h
are_after P (unit ∷ units) b h = are_after P units b h.1

-- ---- one direction

kind_is : (a b : Kind) → same_kind a b ≡ true → a ≡ b
kind_is kinds.Bgp kinds.Bgp e = refl
kind_is kinds.Ldp kinds.Ldp e = refl
kind_is kinds.Bgp kinds.Ldp e = absurd cc
kind_is kinds.Ldp kinds.Bgp e = absurd cc

own_kind : (a : Kind) → same_kind a a ≡ true
own_kind kinds.Bgp = refl
own_kind kinds.Ldp = refl

pub direction_is : (a b : Direction) → same_direction a b ≡ true → a ≡ b
direction_is a b e =
    let outer = and_parts (same_kind a.kind b.kind && eqb a.from.0 b.from.0) (eqb a.to.0 b.to.0) e in
    let inner = and_parts (same_kind a.kind b.kind) (eqb a.from.0 b.from.0) outer.0 in
    let kind : a.kind ≡ b.kind = kind_is a.kind b.kind inner.0 in
    let from : a.from.0 ≡ b.from.0 = eqb-true a.from.0 b.from.0 inner.1 in
    let to : a.to.0 ≡ b.to.0 = eqb-true a.to.0 b.to.0 outer.1 in
    λ i. record { kind = kind i; from = record { 0 = from i }; to = record { 0 = to i } }

pub own_direction : (a : Direction) → same_direction a a ≡ true
own_direction a =
    let kind : same_kind a.kind a.kind ≡ true = own_kind a.kind in
    let from : eqb a.from.0 a.from.0 ≡ true = eq-eqb a.from.0 a.from.0 refl in
    let to : eqb a.to.0 a.to.0 ≡ true = eq-eqb a.to.0 a.to.0 refl in
    rw (kind, from, to) refl

-- ---- what is put

-- octets that spell messages in units
pub record Sent (kind : Kind) (octets : List ℕ) (messages : List SessionMessage) : Type 0 where
  pub units : List (Spelled SessionMessage)
  pub each : AreUnits (IsPut kind) units
  pub octets_are : octets ≡ octets_of units
  pub messages_are : messages ≡ messages_of units

sent_one : (kind own : Kind) (same : Bool) (unit : Spelled SessionMessage) (octets : List ℕ) (messages : List SessionMessage)
    → (same ≡ true → own ≡ kind) → IsPut own unit.messages unit.octets → Sent kind octets messages
    → Sent kind (cond same unit.octets [] ++ octets) (cond same unit.messages [] ++ messages)
sent_one kind own true unit octets messages is put sent = record {
  units = unit ∷ sent.units;
  each = (subst (λ (k : Kind). IsPut k unit.messages unit.octets) (is refl) put, sent.each);
  octets_are = ap (λ (xs : List ℕ). unit.octets ++ xs) sent.octets_are;
  messages_are = ap (λ (ms : List SessionMessage). unit.messages ++ ms) sent.messages_are;
}
sent_one kind own false unit octets messages is put sent = sent

pub sent_over : (direction : Direction) (puts : List Put) → AllByRecursion (λ (put : Put). IsPut put.over.kind put.unit.messages put.unit.octets) puts
    → Sent direction.kind (octets_over direction puts) (messages_over direction puts)
sent_over direction [] are = record { units = []; each = tt; octets_are = refl; messages_are = refl }
sent_over direction (put ∷ puts) are =
    sent_one direction.kind put.over.kind (same_direction put.over direction) put.unit (octets_over direction puts) (messages_over direction puts)
    (λ e. ap (λ (d : Direction). d.kind) (direction_is put.over direction e)) are.0 (sent_over direction puts are.1)

-- ---- lines

put_after : (kind : Kind) (stream : Stream) (transit : List ℕ) (pending : List SessionMessage) (octets : List ℕ) (messages : List SessionMessage)
    → Sent kind octets messages → Carried kind stream transit pending → Carried kind stream (transit ++ octets) (pending ++ messages)
put_after kind stream transit pending octets messages sent c = record {
  units = c.units ++ sent.units;
  each = are_both (IsPut kind) c.units sent.units c.each sent.each;
  octets = sym (append_assoc stream.held transit octets) ∙ ap (λ (xs : List ℕ). xs ++ octets) c.octets
      ∙ ap (λ (xs : List ℕ). octets_of c.units ++ xs) sent.octets_are
      ∙ sym (flat_map-append (λ (u : Spelled SessionMessage). u.octets) c.units sent.units);
  messages =
      ap (λ (ms : List SessionMessage). ms ++ messages) c.messages ∙ ap (λ (ms : List SessionMessage). messages_of c.units ++ ms) sent.messages_are
      ∙ sym (flat_map-append (λ (u : Spelled SessionMessage). u.messages) c.units sent.units);
  partial = c.partial;
  taken = c.taken;
  sound = c.sound;
}

pub line_sent : (kind : Kind) (joined : Bool) (stream : Stream) (transit : List ℕ) (pending : List SessionMessage) (octets : List ℕ)
    (messages : List SessionMessage) → Sent kind octets messages → IsLine kind joined stream transit pending
    → IsLine kind joined stream (cond joined (transit ++ octets) transit) (cond joined (pending ++ messages) pending)
line_sent kind true stream transit pending octets messages sent line = put_after kind stream transit pending octets messages sent line
line_sent kind false stream transit pending octets messages sent line = line

pub line_lost : (kind : Kind) (hit joined : Bool) (stream : Stream) (transit : List ℕ) (pending : List SessionMessage)
    → IsLine kind joined stream transit pending → IsLine kind (joined && not hit) stream (cond hit [] transit) (cond hit [] pending)
line_lost kind true true stream transit pending line = (refl, refl)
line_lost kind true false stream transit pending line = (refl, refl)
line_lost kind false true stream transit pending line = line
line_lost kind false false stream transit pending line = line

pub line_forgotten : (kind : Kind) (hit joined : Bool) (stream : Stream) (transit : List ℕ) (pending : List SessionMessage)
    → IsLine kind joined stream transit pending → IsLine kind joined (cond (hit && not joined) unfed stream) transit pending
line_forgotten kind true true stream transit pending line = line
line_forgotten kind true false stream transit pending line = line
line_forgotten kind false joined stream transit pending line = line

pub line_joined : (kind : Kind) (hit joined : Bool) (stream : Stream) (transit : List ℕ) (pending : List SessionMessage)
    → IsLine kind joined stream transit pending → IsLine kind (joined || hit) (cond hit unfed stream) (cond hit [] transit) (cond hit [] pending)
line_joined kind true true stream transit pending line =
    record { units = []; each = tt; octets = refl; messages = refl; partial = (stream_of kind).framing.empty; taken = refl; sound = refl }
line_joined kind true false stream transit pending line =
    record { units = []; each = tt; octets = refl; messages = refl; partial = (stream_of kind).framing.empty; taken = refl; sound = refl }
line_joined kind false true stream transit pending line = line
line_joined kind false false stream transit pending line = line

-- another line in the place of one
pub line_moved : (kind : Kind) (here joined : Bool) (stream new : Stream) (transit left : List ℕ) (pending rest : List SessionMessage)
    → (here ≡ true → IsLine kind joined new left rest) → IsLine kind joined stream transit pending
    → IsLine kind joined (cond here new stream) (cond here left transit) (cond here rest pending)
line_moved kind true joined stream new transit left pending rest moved line = moved refl
line_moved kind false joined stream new transit left pending rest moved line = line

-- Datagrams stay, and are of their flows after every event.
use Rattle.std.specs.Prelude.{⊤, ◌==◌, ◌/◌, nat_lt, slice_index}
use Rattle.std.proofs.Common.{◌≡◌, ◌∙◌, ℕ, ◌≤◌, Bool, true, false, cond, List, length, Option, None, Some, Result, Ok, Err, refl, sym, ap, subst, arith}
use Rattle.std.specs.List.{AllByRecursion}
use Rattle.std.specs.Option.{option_or}
use Rattle.std.proofs.lemmas.Option.{none-some}
use Rattle.mv_base.specs.declared.addr.Addr.{Addr}
use Rattle.mv_base.specs.declared.addr.Addr.TheVariants.{V4, V6}
use Rattle.mv_base.specs.declared.ids.NodeId.{NodeId}
use Rattle.mv_base.specs.declared.ids.SiteId.{SiteId}
use Rattle.label_forwarding.proofs.PacketLemmas.{packet_again}
use Rattle.label_forwarding.proofs.WrittenLemmas.{written_spelled}
use Rattle.label_forwarding.specs.Reading.{fault, four_fault, four_of, octets_in, packet_of, six_fault, six_of, unless}
use Rattle.label_forwarding.specs.Spelling.{Packet}
use Rattle.label_forwarding.specs.Written.{MayBeSent, written}
use Rattle.label_forwarding.specs.declared.fault.PacketFault.{PacketFault}
use Rattle.label_forwarding.specs.declared.fault.PacketFault.TheVariants as reasons
use Rattle.scenario_defs.specs.Rules.{AreOfOneFamily, IsEventOf, IsGroup, IsUnicast, NamesFlow, payload_limit}
use Rattle.scenario_defs.specs.declared.event.Event.{Event}
use Rattle.scenario_defs.specs.declared.event.Event.TheVariants as events
use Rattle.scenario_defs.specs.declared.report.Refusal.{Refusal}
use Rattle.scenario_defs.specs.declared.report.Refusal.TheVariants as refusals
use Rattle.mvpn_model.specs.Packets.{group_in, no_addr, packet_fault, packet_word, source_in}
use Rattle.network_defs.proofs.Kept.{Comes, row_keeps}
use Rattle.network_defs.proofs.Kept as kept
use Rattle.network_defs.specs.Acts.{Act, Acted, act}
use Rattle.network_defs.specs.Events.{Done, Happened, done, row}
use Rattle.network_defs.specs.Refusals.{refusal, refused_if, are_links_full}
use Rattle.network_defs.specs.World.{Datagram, World, scenario_of}
use Rattle.network_acts.proofs.network_laws.Lists.{each_append, each_of}
use Rattle.once_laws.proofs.delivery_laws.Delivery.{done_sends}
use Rattle.once_laws.proofs.delivery_laws.Outcomes.{Gives}
use Rattle.once_laws.proofs.delivery_laws.Silent.{Sent, act_sent}
use Rattle.once_laws.specs.delivery_laws.Once.{brought_by}
use Rattle.network_acts.specs.Handling.{AreOfFlows, IsOfFlow}

-- ---- datagrams stay

-- acts bring no datagrams
pub row_datagrams : (acts : List Act) (world new : World) (happened : List Happened) → row acts world ≡ Done happened new
    → new.datagrams ≡ world.datagrams
row_datagrams acts world new happened e =
    let P : World → Type 0 = Sent world.datagrams in
    subst (Comes P) e (row_keeps P acts (each_of (λ (one : Act). (old : World) → P old → kept.Gives P (act old one))
    (λ one old p. given_from world.datagrams (act old one) (act_sent world.datagrams one old p)) acts) world refl)
  where
    given_from : (all : List Datagram) (o : Result Acted NodeId) → Gives (λ lines. ⊤) (Sent all) o → kept.Gives (Sent all) o
    given_from all (Err node) g = tt
    given_from all (Ok new) g = g.1

pub row_flows : (acts : List Act) (world new : World) (happened : List Happened) → row acts world ≡ Done happened new → AreOfFlows world
    → AreOfFlows new
row_flows acts world new happened e flows = subst (AllByRecursion IsOfFlow) (sym (row_datagrams acts world new happened e)) flows

-- ---- packets that are written

-- the packet of a flow that an event names has a spelling
may_be_sent : (source group : Addr) (payload : List ℕ) → IsUnicast source → IsGroup group → AreOfOneFamily source group
    → length payload ≤ payload_limit → MayBeSent source group payload
may_be_sent (V4 s) (V4 g) payload unicast multicast one few = (unicast.0, multicast.0, (multicast.1, multicast.2), multicast.3, omega (arith, few))
may_be_sent (V6 s) (V6 g) payload unicast multicast one few =
    (unicast.0, multicast.0, multicast.1, (λ local. omega (arith, local, multicast.2)), omega (arith, few))
may_be_sent (V4 s) (V6 g) payload unicast multicast one few = absurd one
may_be_sent (V6 s) (V4 g) payload unicast multicast one few = absurd one

-- and reading it gives its flow back
pub written_flow : (source group : Addr) (payload : List ℕ) → NamesFlow source group → length payload ≤ payload_limit
    → packet_of (written source group payload) ≡ Ok (record { source = source; group = group; octets = written source group payload })
written_flow source group payload names few =
    packet_again source group (written source group payload)
    (written_spelled source group payload (may_be_sent source group payload names.unicast names.multicast names.family few))

-- ---- packets that are read

module _ (octets : List ℕ) where
  abbrev octets_of : Result Packet (ℕ × PacketFault) → List ℕ
  octets_of (Ok packet) = packet.octets
  octets_of (Err found) = octets

  abbrev IsWhole : Result Packet (ℕ × PacketFault) → Type 0
  IsWhole read = octets_of read ≡ octets

  if_whole : (b : Bool) (x y : Result Packet (ℕ × PacketFault)) → IsWhole x → IsWhole y → IsWhole (cond b x y)
  if_whole true x y h k = h
  if_whole false x y h k = k

  unless_whole : (o : Option (ℕ × PacketFault)) (packet : Packet) → packet.octets ≡ octets → IsWhole (unless o packet)
  unless_whole None packet h = h
  unless_whole (Some found) packet h = refl

  four_whole : IsWhole (four_of octets)
  unfolding four_of
  four_whole =
      let own : Packet = record { source = V4 (octets_in 4 12 octets); group = V4 (octets_in 4 16 octets); octets = octets } in
      unless_whole (four_fault octets) own refl

  six_whole : IsWhole (six_of octets)
  unfolding six_of
  six_whole =
      let own : Packet = record { source = V6 (octets_in 16 8 octets); group = V6 (octets_in 16 24 octets); octets = octets } in
      if_whole (nat_lt (length octets) 40) (Err (fault (length octets) reasons.Short)) (unless (six_fault octets) own) refl
      (unless_whole (six_fault octets) own refl)

  read_whole : IsWhole (packet_of octets)
  unfolding packet_of
  read_whole =
      let last : Result Packet (ℕ × PacketFault) = Err (fault 0 reasons.Version) in
      let six : Result Packet (ℕ × PacketFault) = cond (slice_index octets 0 / 16 == 6) (six_of octets) last in
      let four : Result Packet (ℕ × PacketFault) = cond (slice_index octets 0 / 16 == 4) (four_of octets) six in
      if_whole (nat_lt (length octets) 20) (Err (fault (length octets) reasons.Short)) four refl
      (if_whole (slice_index octets 0 / 16 == 4) (four_of octets) six four_whole
      (if_whole (slice_index octets 0 / 16 == 6) (six_of octets) last six_whole refl))

  -- the octets of a packet that was read are those that were read
  pub whole : (packet : Packet) → packet_of octets ≡ Ok packet → packet.octets ≡ octets
  whole packet e = ap octets_of (sym e) ∙ read_whole

  -- so octets that are a packet are one of the flow that they tell
  pub read_flow : (site : SiteId) → packet_fault octets ≡ None
      → IsOfFlow (record { site = site; source = source_in octets; group = group_in octets; octets = octets })
  read_flow site none = by (packet_of octets) refl none
    where
      fault_in : Result Packet (ℕ × PacketFault) → Option Refusal
      fault_in read = elim read [ Ok packet ↦ None | Err found ↦ Some (refusals.Bytes found.0 (packet_word found.1)) ]

      by : (read : Result Packet (ℕ × PacketFault)) → packet_of octets ≡ read → fault_in read ≡ None
          → packet_of octets ≡ Ok (record { source = source_in octets; group = group_in octets; octets = octets })
      by (Ok packet) e h =
          e ∙ (λ i. Ok (record { source = ap source_or (sym e) i; group = ap group_or (sym e) i; octets = whole packet e i }))
        where
          source_or : Result Packet (ℕ × PacketFault) → Addr
          source_or r = elim r [ Ok p ↦ p.source | Err found ↦ no_addr ]

          group_or : Result Packet (ℕ × PacketFault) → Addr
          group_or r = elim r [ Ok p ↦ p.group | Err found ↦ no_addr ]
      by (Err found) e h = absurd (none-some (refusals.Bytes found.0 (packet_word found.1)) (sym h))

-- ---- events

first_none : (first rest : Option Refusal) → option_or first rest ≡ None → first ≡ None
first_none None rest h = refl
first_none (Some reason) rest h = absurd (none-some reason (sym h))

brought_flows : (world : World) (event : Event) → refusal world event ≡ None → IsEventOf (scenario_of world) event
    → AllByRecursion IsOfFlow (brought_by event)
brought_flows world (events.Send site source group payload) free is = (written_flow source group payload is.1 is.2, tt)
brought_flows world (events.Packet site octets) free is =
    (read_flow octets site (first_none (packet_fault octets) (refused_if (are_links_full world) refusals.Full) free), tt)
brought_flows world other free is = tt

-- After an event that is not refused the datagrams are of their flows, where they were before.
pub flows_after : (world : World) (event : Event) (acts : List Happened) (new : World) → refusal world event ≡ None
    → done world event ≡ Done acts new → IsEventOf (scenario_of world) event → AreOfFlows world → AreOfFlows new
flows_after world event acts new free e is flows =
    subst (AllByRecursion IsOfFlow) (sym (done_sends world event acts new e))
    (each_append IsOfFlow world.datagrams (brought_by event) flows (brought_flows world event free is))

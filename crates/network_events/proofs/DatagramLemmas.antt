-- Datagrams that sites send, and copies that hop or are dropped.
use Rattle.std.specs.Prelude.{slice_get}
use Rattle.std.proofs.Common.{◌≡◌, ◌∙◌, ℕ, ◌+◌, ◌<◌, ◌≤◌, refl, sym, ap, subst, Bool, true, false, List, [], ◌∷◌, ◌++◌, length, length-append, map, take, get_or, Option, Some, None, Result, Ok, Err, OnOk}
use Rattle.std.specs.Option.{option_or}
use Rattle.std.proofs.lemmas.List.{append-nil, map-append, take_all, take_more}
use Rattle.std.proofs.lemmas.Option.{none-some}
use Rattle.mv_base.specs.declared.addr.Addr.{Addr}
use Rattle.mv_base.specs.declared.ids.NodeId.{NodeId}
use Rattle.mv_base.specs.declared.ids.SiteId.{SiteId}
use Rattle.mv_base.specs.declared.ids.VrfId.{VrfId}
use Rattle.mv_base.specs.declared.memory.NoMemory.{NoMemory}
use Rattle.label_forwarding.specs.Reading.{packet_of}
use Rattle.label_forwarding.specs.Spelling.{Packet}
use Rattle.label_forwarding.specs.declared.fault.PacketFault.{PacketFault}
use Rattle.scenario_defs.specs.Rules.{NamesFlow, payload_limit}
use Rattle.scenario_defs.specs.Vpn.{entered}
use Rattle.scenario_defs.specs.declared.event.Event.{Event}
use Rattle.scenario_defs.specs.declared.event.Event.TheVariants as events
use Rattle.scenario_defs.specs.declared.report.Refusal.{Refusal}
use Rattle.scenario_defs.specs.declared.report.Refusal.TheVariants as refusals
use Rattle.scenario_defs.specs.declared.report.ReportLine.{ReportLine}
use Rattle.scenario_defs.specs.declared.scenario.Scenario.{Scenario}
use Rattle.scenario_defs.specs.declared.scenario.Vrf.{Vrf}
use Rattle.mvpn_model.specs.Packet.{packet}
use Rattle.mvpn_model.specs.Packets.{no_addr, packet_word}
use Rattle.network_defs.specs.Acts.{Act, Acted, Enter, datagram_at, entering}
use Rattle.network_defs.specs.Events.{Done, Happened, Outcome, done, row, sent}
use Rattle.network_defs.specs.Refusals.{are_links_full, edge_of_vrf, refusal, refused_if}
use Rattle.network_defs.specs.World.{Datagram, World, scenario_of}
use Rattle.network_acts.specs.Acting.{Made}
use Rattle.network_acts.specs.Handling.{Enters, IsHandling, IsSentBy, IsSomeHandling}
use Rattle.network_acts.specs.Instant.{Any, Instant, IsSome, IsWorld, OfPlane, standing_of}
use Rattle.network_acts.specs.NetworkView.{NetworkView}
use Rattle.network_acts.specs.Words.{IsEdgeOf, with_datagram}
use Rattle.network_events.specs.Datagrams.{EntersAt, Fits, HasEntered, IsRefusedFor, IsSent, IsSomeSent, Makes, Sends, of_memory}
use Rattle.network_events.specs.Doing.{Did}
use Rattle.network_events.specs.Meeting.{IsReady, Meets, met}
use Rattle.network_events.proofs.DoLemmas.{made_did, one_done, then_done, two_told}
use Rattle.network_events.proofs.FlowLemmas.{whole, written_flow}
use Rattle.network_events.proofs.MeetLemmas.{meets_done, meets_memory, meets_refused}
use Rattle.network_events.proofs.PlaceLemmas.{at_vrf_of}
use Rattle.network_events.proofs.RowLemmas.{row_append}

-- ---- acts that lack no label

-- what an event does is made
pub makes_meet : (Fits : Instant → Type 0) (change : World → Outcome) (event : Event) (old new : NetworkView) (lines new_lines : List ReportLine)
    (answer : Result (Unit {0}) NoMemory)
    → ((at : Instant) → IsReady at → IsWorld at old → (refusal at.world event ≡ None) × Fits at × (done at.world event ≡ change at.world))
    → Makes Fits change old new lines new_lines answer
    → Meets event old new lines new_lines (met (of_memory answer))
makes_meet Fits change event old new lines new_lines (Err wanting) h makes = meets_memory event old lines new new_lines
makes_meet Fits change event old new lines new_lines (Ok made) h makes =
    meets_done event old lines new new_lines (Ok tt) (λ at ready is. (h at ready is).0) (record {
      done = λ at ready is. subst (λ (o : Outcome). Did at at.moment o lines new_lines new) (sym (h at ready is).2) (makes at (h at ready is).1 is);
      lacks = λ n e. absurd cc;
    })

-- what one act does
pub made_makes : (Fits : Instant → Type 0) (one : Act) (old new : NetworkView) (lines new_lines : List ReportLine)
    (answer : Result (Unit {0}) NoMemory)
    → OnOk answer ((at : Instant) → Fits at → IsWorld at old → Made at at.moment one lines new_lines new)
    → Makes Fits (row (one ∷ [])) old new lines new_lines answer
made_makes Fits one old new lines new_lines (Err wanting) made = tt
made_makes Fits one old new lines new_lines (Ok done) made = λ at fits is. made_did at at.moment one lines new_lines new (made at fits is)

-- ---- a datagram that enters

-- what stands in between two rows of acts
pub two_rows : (first more : List Act) (world mid new : World) (acts thereafter : List Happened) → row first world ≡ Done acts mid
    → row more mid ≡ Done thereafter new → row (first ++ more) world ≡ Done (acts ++ thereafter) new
two_rows first more world mid new acts thereafter e f = row_append first more world ∙ then_done acts mid (row more) (row first world) e thereafter new f

module _ (site : SiteId) (packet : Packet) where
  -- no VRF has been entered yet
  pub enters_none : (network : NetworkView) (lines : List ReportLine) → EntersAt site packet [] network network lines lines
  enters_none network lines at datagram is = record { acts = []; world = at.world; is = refl; stands = is.stands; told = sym (append-nil lines) }

  -- the network after it is such a world as well
  pub sent_again : (vrfs : List VrfId) (old new : NetworkView) (lines new_lines : List ReportLine) → EntersAt site packet vrfs old new lines new_lines
      → IsSomeSent site packet old → IsSomeSent site packet new
  sent_again vrfs old new lines new_lines enters (at, datagram, is) =
      let has = enters at datagram is in
      (record at { world = has.world }, datagram, record { rest = is.rest; sent = is.sent; stands = has.stands })

  -- one VRF more
  pub enters_more : (vrfs : List VrfId) (vrf : VrfId) (old mid new : NetworkView) (lines mid_lines new_lines : List ReportLine)
      → EntersAt site packet vrfs old mid lines mid_lines → EntersAt site packet (vrf ∷ []) mid new mid_lines new_lines
      → EntersAt site packet (vrfs ++ vrf ∷ []) old new lines new_lines
  enters_more vrfs vrf old mid new lines mid_lines new_lines one two at datagram is =
      let first = one at datagram is in
      let more = two (record at { world = first.world }) datagram (record { rest = is.rest; sent = is.sent; stands = first.stands }) in
      let enter : VrfId → Act = λ v. Enter v in
      record {
        acts = first.acts ++ more.acts;
        world = more.world;
        is =
            ap (λ (l : List Act). row l at.world) (map-append enter vrfs (vrf ∷ []))
            ∙ two_rows (map enter vrfs) (enter vrf ∷ []) at.world first.world more.world first.acts more.acts first.is more.is;
        stands = more.stands;
        told = two_told lines mid_lines new_lines first.acts more.acts first.told more.told;
      }

  pub enters_next : (vrfs : List VrfId) (k : ℕ) (d vrf : VrfId) (old mid new : NetworkView) (lines mid_lines new_lines : List ReportLine)
      → k < length vrfs → vrf ≡ get_or vrfs k d
      → EntersAt site packet (take k vrfs) old mid lines mid_lines → EntersAt site packet (vrf ∷ []) mid new mid_lines new_lines
      → EntersAt site packet (take (k + 1) vrfs) old new lines new_lines
  enters_next vrfs k d vrf old mid new lines mid_lines new_lines lt same one two =
      subst (λ (l : List VrfId). EntersAt site packet l old new lines new_lines)
      (sym (take_more vrfs k d lt ∙ ap (λ (v : VrfId). take k vrfs ++ v ∷ []) (sym same)))
      (enters_more (take k vrfs) vrf old mid new lines mid_lines new_lines one two)

  -- So many VRFs have been entered, and the network is such a world.
  pub record OnEntering (vrfs : List VrfId) (old : NetworkView) (lines new_lines : List ReportLine) (new : NetworkView) : Type 0 where
    pub enters : EntersAt site packet vrfs old new lines new_lines
    pub some : IsSomeSent site packet new

  pub entering_none : (network : NetworkView) (lines : List ReportLine) → IsSomeSent site packet network → OnEntering [] network lines lines network
  entering_none network lines some = record { enters = enters_none network lines; some = some }

  pub entering_next : (vrfs : List VrfId) (k : ℕ) (d vrf : VrfId) (old mid new : NetworkView) (lines mid_lines new_lines : List ReportLine)
      → k < length vrfs → vrf ≡ get_or vrfs k d
      → OnEntering (take k vrfs) old lines mid_lines mid → EntersAt site packet (vrf ∷ []) mid new mid_lines new_lines
      → OnEntering (take (k + 1) vrfs) old lines new_lines new
  entering_next vrfs k d vrf old mid new lines mid_lines new_lines lt same on one =
      record {
        enters = enters_next vrfs k d vrf old mid new lines mid_lines new_lines lt same on.enters one;
        some =
            sent_again (vrf ∷ []) mid new mid_lines new_lines one on.some;
      }

  pub entering_all : (vrfs : List VrfId) (k : ℕ) (old new : NetworkView) (lines new_lines : List ReportLine) → length vrfs ≤ k
      → OnEntering (take k vrfs) old lines new_lines new → EntersAt site packet vrfs old new lines new_lines
  entering_all vrfs k old new lines new_lines le on =
      (subst (λ (l : List VrfId). OnEntering l old lines new_lines new) (take_all k vrfs le) on).enters

  -- ---- at one VRF

  entered_at : (vrf : VrfId) (new : NetworkView) (lines new_lines : List ReportLine) (at : Instant) (datagram : Datagram)
      → Enters at vrf datagram lines new_lines new → HasEntered at (vrf ∷ []) datagram lines new_lines new
  entered_at vrf new lines new_lines at datagram enters = record {
    acts = record { act = Some (Enter vrf); lines = enters.thereafter.lines } ∷ [];
    world = enters.thereafter.world;
    is = one_done at.world (Enter vrf) enters.thereafter enters.is;
    stands = enters.stands;
    told = enters.told ∙ ap (λ (l : List ReportLine). lines ++ l) (sym (append-nil enters.thereafter.lines));
  }

  module _ (vrf : VrfId) (old : NetworkView) where
    pub some_handling : (n : NodeId) → edge_of_vrf old.scenario vrf ≡ Some n → IsSomeSent site packet old
        → IsSomeHandling (OfPlane (IsEdgeOf vrf n)) old
    some_handling n e (at, datagram, is) =
        (at, length at.world.datagrams, datagram, at_vrf_of at old is.stands.scenario is.stands.plane n vrf is.rest e, is.stands)

    pub enters_there : (n : NodeId) → edge_of_vrf old.scenario vrf ≡ Some n
        → (new : NetworkView) (lines new_lines : List ReportLine) (answer : Result (Unit {0}) NoMemory)
        → OnOk answer ((at : Instant) (own : Datagram) → IsEdgeOf vrf n (standing_of at) → IsSentBy site packet own
        → IsHandling at (length at.world.datagrams) own old → Enters at vrf own lines new_lines new)
        → OnOk answer (EntersAt site packet (vrf ∷ []) old new lines new_lines)
    enters_there n e new lines new_lines (Err wanting) h = tt
    enters_there n e new lines new_lines (Ok done) h =
        λ at datagram is. entered_at vrf new lines new_lines at datagram
        (h at datagram (at_vrf_of at old is.stands.scenario is.stands.plane n vrf is.rest e) is.sent is.stands)

    abbrev edge_in : Option Vrf → Option NodeId
    edge_in o = elim o [ None ↦ None | Some found ↦ Some found.edge ]

    no_vrf : (o : Option Vrf) → edge_in o ≡ None → o ≡ None
    no_vrf None h = refl
    no_vrf (Some found) h = absurd (none-some found.edge (sym h))

    abbrev acted : Acted → Result Acted NodeId
    acted thereafter = Ok thereafter

    -- nothing enters at a VRF that the scenario does not have
    pub enters_nowhere : edge_of_vrf old.scenario vrf ≡ None → (lines : List ReportLine) → EntersAt site packet (vrf ∷ []) old old lines lines
    enters_nowhere e lines at datagram is =
        let none = no_vrf (slice_get (scenario_of at.world).vrfs vrf.0) (subst (λ (s : Scenario). edge_of_vrf s vrf ≡ None) is.stands.scenario e) in
        entered_at vrf old lines lines at datagram (record {
          thereafter = record { world = at.world; lines = [] };
          is = ap (λ (o : Option Vrf). acted (entering at.world vrf o (datagram_at at.world (length at.world.datagrams)))) none;
          stands = is.stands;
          told = sym (append-nil lines);
        })

-- ---- a datagram that is sent

module _ (site : SiteId) (packet : Packet) (old mid : NetworkView) where
  abbrev sent_one : Datagram
  sent_one = record { site = site; source = packet.source; group = packet.group; octets = packet.octets }

  -- from every world that the network was, any datagram is being sent in the one with it
  abbrev pub Accepts : Type 0
  Accepts =
      (at : Instant) (datagram : Datagram) → IsWorld at old
      → IsHandling (record at { world = with_datagram datagram at.world }) (length at.world.datagrams + 1) datagram mid

  accepted : Accepts → (at : Instant) → IsReady at → IsWorld at old
      → IsSent site packet sent_one mid (record at { world = with_datagram sent_one at.world })
  accepted accepts at ready is = record {
    rest = ready.resting.rest;
    sent = record { site = refl; source = refl; group = refl; octets = refl };
    stands = subst (λ n. IsHandling (record at { world = with_datagram sent_one at.world }) n sent_one mid)
        (sym (length-append at.world.datagrams (sent_one ∷ []))) (accepts at sent_one is);
  }

  pub some_sent : Accepts → IsSome IsReady old → IsSomeSent site packet mid
  some_sent accepts (at, ready, is) = (record at { world = with_datagram sent_one at.world }, sent_one, accepted accepts at ready is)

  -- the datagram is still being sent once it has entered
  pub some_after : Accepts → (vrfs : List VrfId) (thereafter : NetworkView) (lines new_lines : List ReportLine)
      → EntersAt site packet vrfs mid thereafter lines new_lines
      → IsSome IsReady old → IsSomeHandling Any thereafter
  some_after accepts vrfs thereafter lines new_lines enters (at, ready, is) =
      let has = enters (record at { world = with_datagram sent_one at.world }) sent_one (accepted accepts at ready is) in
      (record at { world = has.world }, length has.world.datagrams, sent_one, tt, has.stands)

  pub sent_all : Accepts → (vrfs : List VrfId) → vrfs ≡ entered old.scenario site → (thereafter new : NetworkView) (lines new_lines : List ReportLine)
      → EntersAt site packet vrfs mid thereafter lines new_lines
      → (octets : List ℕ) → octets ≡ packet.octets
      → ((at : Instant) (number : ℕ) (datagram : Datagram) → IsHandling at number datagram thereafter → octets ≡ datagram.octets → IsWorld at new)
      → (at : Instant) → IsReady at → IsWorld at old
      → Did at at.moment (sent site packet.source packet.group packet.octets at.world) lines new_lines new
  sent_all accepts vrfs all thereafter new lines new_lines enters octets text finishes at ready is =
      let has = enters (record at { world = with_datagram sent_one at.world }) sent_one (accepted accepts at ready is) in
      let same : vrfs ≡ entered (scenario_of at.world) site = all ∙ ap (λ (s : Scenario). entered s site) is.scenario in
      record {
        acts = has.acts;
        world = has.world;
        is = ap (λ (l : List VrfId). row (map (λ vrf. Enter vrf) l) (with_datagram sent_one at.world)) (sym same) ∙ has.is;
        stands = finishes (record at { world = has.world }) (length has.world.datagrams) sent_one has.stands text;
        told = has.told;
      }

-- ---- events that send octets

abbrev refused_by : Option Refusal → Result Packet (ℕ × PacketFault) → Option Refusal
refused_by rest read = option_or (elim read [ Ok packet ↦ None | Err found ↦ Some (refusals.Bytes found.0 (packet_word found.1)) ]) rest

-- octets that are no packet are refused for their first fault, and others where there is no room
module _ (network : NetworkView) (octets : List ℕ) where
  pub refused_fault : (found : ℕ × PacketFault) → packet_of octets ≡ Err found
      → IsRefusedFor network octets (refusals.Bytes found.0 (packet_word found.1))
  refused_fault found read = λ at ready is. ap (refused_by (refused_if (are_links_full at.world) refusals.Full)) read

  pub refused_full : (own : Packet) → packet_of octets ≡ Ok own
      → ((at : Instant) → IsReady at → IsWorld at network → are_links_full at.world ≡ true) → IsRefusedFor network octets refusals.Full
  refused_full own read full = λ at ready is.
      ap (refused_by (refused_if (are_links_full at.world) refusals.Full)) read ∙ ap (λ (b : Bool). refused_if b refusals.Full) (full at ready is)

module _ (site : SiteId) (octets : List ℕ) where
  pub sends_octets : Sends site octets (events.Packet site octets)
  sends_octets = record { refuses = λ world. refl; does = λ world. refl }

  abbrev source_or : Result Packet (ℕ × PacketFault) → Addr
  source_or read = elim read [ Ok p ↦ p.source | Err found ↦ no_addr ]

  abbrev group_or : Result Packet (ℕ × PacketFault) → Addr
  group_or read = elim read [ Ok p ↦ p.group | Err found ↦ no_addr ]

  pub sends_written : (source group : Addr) (payload : List ℕ) → octets ≡ packet source group payload
      → packet_of octets ≡ Ok (record { source = source; group = group; octets = octets })
      → Sends site octets (events.Send site source group payload)
  sends_written source group payload e read = record {
    refuses = λ world. sym (ap (refused_by (refused_if (are_links_full world) refusals.Full)) read);
    does = λ world. λ i. sent site (sym (ap source_or read) i) (sym (ap group_or read) i) (sym e i) world;
  }

  pub sends_flow : (source group : Addr) (payload : List ℕ) → NamesFlow source group → length payload ≤ payload_limit
      → octets ≡ packet source group payload → Sends site octets (events.Send site source group payload)
  sends_flow source group payload names few e =
      sends_written source group payload e (subst (λ (o : List ℕ). packet_of o ≡ Ok (record { source = source; group = group; octets = o })) (sym e)
      (written_flow source group payload names few))

  module _ (event : Event) (sends : Sends site octets event) (old : NetworkView) (lines : List ReportLine) where
    -- why the octets are refused is why the event is
    pub octets_refused : (reason : Refusal) → IsRefusedFor old octets reason → Meets event old old lines lines (Ok (Some reason))
    octets_refused reason refused = meets_refused event old lines reason (λ at ready is. sends.refuses at.world ∙ refused at ready is)

    why : (own : Packet) → Fits old octets own → (at : Instant) → IsReady at → IsWorld at old → refusal at.world event ≡ None
    why own fits at ready is =
        sends.refuses at.world ∙ (ap (refused_by (refused_if (are_links_full at.world) refusals.Full)) fits.is
        ∙ ap (λ (b : Bool). refused_if b refusals.Full) (fits.room at ready is))

    pub octets_sent : (own : Packet) → Fits old octets own
        → (new : NetworkView) (new_lines : List ReportLine) (answer : Result (Unit {0}) NoMemory)
        → Makes IsReady (sent site own.source own.group own.octets) old new lines new_lines answer
        → Meets event old new lines new_lines (met (of_memory answer))
    octets_sent own fits new new_lines answer makes =
        makes_meet IsReady (sent site own.source own.group own.octets) event old new lines new_lines answer
        (λ at ready is. (
          why own fits at ready is,
          ready,
          sends.does at.world ∙ (λ i. sent site (ap source_or fits.is i) (ap group_or fits.is i) (sym (whole octets own fits.is) i) at.world),
        ))
        makes

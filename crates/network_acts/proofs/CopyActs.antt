-- Acts on datagrams and their copies, as acts of the whole network.
use Rattle.std.specs.Prelude.{T, is_some}
use Rattle.std.proofs.Common.{◌≡◌, ◌∙◌, refl, sym, ap, subst, ℕ, zero, suc, ◌+◌, ◌-◌, List, [], ◌∷◌, ◌++◌, length, map, slice_get, Option, Some, None, Result, Ok, Err, OnOk}
use Rattle.std.specs.List.{AllByRecursion}
use Rattle.std.proofs.lemmas.List.{append-nil, append_assoc}
use Rattle.std.proofs.lemmas.Option.{none-some}
use Rattle.mv_base.specs.declared.ids.IfaceId.{IfaceId}
use Rattle.mv_base.specs.declared.ids.NodeId.{NodeId}
use Rattle.mv_base.specs.declared.ids.SiteId.{SiteId}
use Rattle.mv_base.specs.declared.ids.VrfId.{VrfId}
use Rattle.mv_base.specs.declared.memory.NoMemory.{NoMemory}
use Rattle.label_defs.specs.declared.branch.Branch.{Branch}
use Rattle.label_forwarding.specs.Reading.{packet_of}
use Rattle.label_forwarding.specs.Spelling.{Packet}
use Rattle.label_forwarding.specs.declared.fault.PacketFault.{PacketFault}
use Rattle.scenario_defs.specs.declared.report.ReportLine.{ReportLine}
use Rattle.scenario_defs.specs.declared.report.ReportLine.TheVariants as told
use Rattle.scenario_defs.specs.declared.scenario.Vrf.{Vrf}
use Rattle.network_defs.specs.session_defs.Octets.{OctetNetwork}
use Rattle.edge_defs.specs.Datagrams as fates
use Rattle.edge_defs.specs.Datagrams.{entering_fate}
use Rattle.edge_defs.specs.Edge.{EdgeData}
use Rattle.network_defs.specs.Acts.{Drop, Enter, Land, act, datagram_at, entering, enters_at, fate_at, fated, hop_line, landed, landing, with_branches, with_ttl, without_copy}
use Rattle.network_defs.specs.Nodes as world_nodes
use Rattle.network_defs.specs.Nodes.{NodeState, Nodes, place_of}
use Rattle.network_defs.specs.World.{Datagram, LinkCopy, World, clock_of, numbered, scenario_of}
use Rattle.network_defs.proofs.Kept.{branches_datagrams, branches_keep}
use Rattle.data_plane.specs.link_copies.CopiesData.{Current}
use Rattle.data_plane.specs.declared.link_copies.kept.Landed.{Landed}
use Rattle.network_acts.specs.control_plane.Acted as planes
use Rattle.network_acts.specs.control_plane.Acted.{IsCurrent, IsIn, Standing}
use Rattle.network_acts.specs.control_plane.Plane.{IsPlane}
use Rattle.network_acts.specs.control_plane.Queries as queries
use Rattle.network_acts.specs.control_plane.Queries.{Fate, IsEdgeOf, IsFate}
use Rattle.network_acts.proofs.control_plane.DatagramLemmas.{edge_here}
use Rattle.data_plane.specs.datagram_acts.DatagramsView.{DatagramsView}
use Rattle.data_plane.specs.datagram_acts.Stored as stored
use Rattle.data_plane.specs.datagram_acts.Stored.{Handles, IsIdle, IsSending, with_datagram}
use Rattle.data_plane.proofs.datagram_acts.Along.{all_at}
use Rattle.network_acts.specs.Acting.{Made, Passes}
use Rattle.network_acts.specs.Handling.{Enters, HasLanded, IsHandling, IsLanding, IsOfFlow, IsSentBy, IsSomeHandling, IsSomeLanded, Lands, MayLand, landing_fate}
use Rattle.network_acts.specs.Instant.{Instant, IsSome, IsWorld, OfPlane, standing_of}
use Rattle.network_acts.specs.NetworkView.{NetworkView}
use Rattle.network_acts.proofs.PlaneActs.{own_is}

-- ---- what a call may ask

-- some world has the datagrams
pub some_idle : (Fits : Instant → Type 0) (own old : NetworkView) → own ≡ old → IsSome Fits old → (world : World) × IsIdle world own.datagrams
some_idle Fits own old same (at, fits, is) = (at.world, (own_is own old same at is).datagrams)

pub some_entering : (Fits : Standing → Type 0) (own old : NetworkView) → own ≡ old → IsSomeHandling (OfPlane Fits) old → planes.IsSome Fits own.plane
some_entering Fits own old same (at, number, datagram, fits, is) = (standing_of at, fits, (subst (IsHandling at number datagram) (sym same) is).plane)

pub some_landing : (from to : NodeId) (landed : Landed) (own old : NetworkView) → own ≡ old → IsSomeLanded from to landed old
    → planes.IsSome (IsCurrent to) own.plane
some_landing from to landed own old same (at, place, may, is) =
    (standing_of at, may.node, (subst (HasLanded at from to place landed) (sym same) is).plane)

current_of : (world : World) (number : ℕ) (datagram : Datagram) (view : DatagramsView) → Handles world number datagram view → stored.IsHandling view
current_of world number datagram view handles = subst (λ (o : Option Current). T (is_some o)) (sym handles.is) tt

-- some datagram is being sent
pub some_sending : (Fits : Instant → Type 0) (own old : NetworkView) → own ≡ old → IsSomeHandling Fits old → stored.IsSomeSending own.datagrams
some_sending Fits own old same (at, number, datagram, fits, is) =
    (at.world, number, datagram, (subst (IsHandling at number datagram) (sym same) is).datagrams)

pub landing_current : (from to : NodeId) (landed : Landed) (own old : NetworkView) → own ≡ old → IsSomeLanded from to landed old
    → stored.IsHandling own.datagrams
landing_current from to landed own old same (at, place, may, is) =
    let left = (subst (HasLanded at from to place landed) (sym same) is).left in
    current_of (without_copy at.world from to place) left.copy.number left.datagram own.datagrams left.handles

-- ---- another world with the same nodes and sessions

module _ (at : Instant) (own : NetworkView) (world : World) (same : at.world.network ≡ world.network) (scenario : own.scenario ≡ scenario_of at.world)
    (plane : IsIn (standing_of at) own.plane) (view : DatagramsView) where
  scenario_there : own.scenario ≡ scenario_of world
  scenario_there = scenario ∙ ap (λ (n : OctetNetwork Nodes). n.state.scenario) same

  plane_there : IsIn (standing_of (record at { world = world })) own.plane
  plane_there = subst (λ (n : OctetNetwork Nodes). IsPlane n.state.scenario at.cores at.moment n own.plane) same plane

  sending_there : (number : ℕ) (datagram : Datagram) → IsSending world number datagram view
      → IsHandling (record at { world = world }) number datagram (record own { datagrams = view })
  sending_there number datagram sending = record { scenario = scenario_there; plane = plane_there; datagrams = sending }

  landing_there : (number : ℕ) (datagram : Datagram) → Handles world number datagram view
      → IsLanding (record at { world = world }) number datagram (record own { datagrams = view })
  landing_there number datagram handles = record { scenario = scenario_there; plane = plane_there; datagrams = handles }

-- ---- a datagram is accepted, and its copies are put on links

pub accepts : (own old : NetworkView) → own ≡ old → (view : DatagramsView)
    → ((world : World) (datagram : Datagram) → IsIdle world own.datagrams
    → IsSending (with_datagram datagram world) (own.datagrams.count + 1) datagram view)
    → (at : Instant) (datagram : Datagram) → IsWorld at old
    → IsHandling (record at { world = with_datagram datagram at.world }) (length at.world.datagrams + 1) datagram
    (record own { datagrams = view })
accepts own old same view accept at datagram is =
    let now = own_is own old same at is in
    record {
      scenario = now.scenario;
      plane = now.plane;
      datagrams =
          subst (λ (count : ℕ). IsSending (with_datagram datagram at.world) (count + 1) datagram view) now.datagrams.count
          (accept at.world datagram now.datagrams);
    }

pub sends : (own old : NetworkView) → own ≡ old → (octets : List ℕ) (clock : ℕ) (view : DatagramsView)
    → ((at : Standing) → IsIn at own.plane → clock ≡ at.network.state.clock)
    → ((world : World) (number : ℕ) (datagram : Datagram) → IsSending world number datagram own.datagrams → clock_of world ≡ clock
    → octets ≡ datagram.octets → IsIdle world view)
    → (at : Instant) (number : ℕ) (datagram : Datagram) → IsHandling at number datagram old → octets ≡ datagram.octets
    → IsWorld at (record own { datagrams = view })
sends own old same octets clock view ticks send at number datagram is text =
    let now = subst (IsHandling at number datagram) (sym same) is in
    record {
      scenario = now.scenario;
      plane = now.plane;
      datagrams =
          send at.world number datagram now.datagrams (sym (ticks (standing_of at) now.plane)) text;
    }

-- ---- the datagram is no longer handled

pub finished : (own old : NetworkView) → own ≡ old → (view : DatagramsView)
    → ((world : World) (number : ℕ) (datagram : Datagram) → Handles world number datagram own.datagrams → IsIdle world view)
    → (at : Instant) (number : ℕ) (datagram : Datagram) → IsLanding at number datagram old → IsWorld at (record own { datagrams = view })
finished own old same view finish at number datagram is =
    let now = subst (IsLanding at number datagram) (sym same) is in
    record { scenario = now.scenario; plane = now.plane; datagrams = finish at.world number datagram now.datagrams }

-- ---- a copy is dropped

pub drops : (own old : NetworkView) → own ≡ old → (from to : NodeId) (place : ℕ) (view : DatagramsView)
    → ((world : World) → IsIdle world own.datagrams → IsIdle (without_copy world from to place) view)
    → (at : Instant) → IsWorld at old → Passes at at.moment (Drop from to place) (record own { datagrams = view })
drops own old same from to place view drop at is =
    let now = own_is own old same at is in
    record {
      thereafter = record { world = without_copy at.world from to place; lines = [] };
      is = refl;
      stands = record { scenario = now.scenario; plane = now.plane; datagrams = drop at.world now.datagrams };
      told = refl;
    }

-- ---- a datagram leaves a node

-- What a call that lets the datagram leave, which is sent or handled, says of its datagrams and lines.
pub record Leaves (Has : World → ℕ → Datagram → DatagramsView → Type 0) (n : NodeId) (ttl clock : ℕ) (fate : Fate) (old new : DatagramsView)
    (lines new_lines : List ReportLine) : Type 0 where
  pub left : (world : World) (number : ℕ) (datagram : Datagram) (own : fates.Fate) → Has world number datagram old → clock_of world ≡ clock
      → IsFate own fate
      → Has (with_branches n ttl number own.branches world) number datagram new
  pub lines_are : (world : World) (number : ℕ) (datagram : Datagram) (own : fates.Fate) → Has world number datagram old → IsFate own fate
      → new_lines ≡ lines ++ (map (λ iface. told.Out number iface datagram.octets) own.outs ++ map (hop_line n ttl number) own.branches)

-- so it says where it is told the interfaces and branches of a fate
pub leaves_by : (Has : World → ℕ → Datagram → DatagramsView → Type 0) (n : NodeId) (ttl clock : ℕ) (fate : Fate) (outs : List IfaceId)
    (branches : List Branch) (old new : DatagramsView) (lines new_lines : List ReportLine)
    → outs ≡ fate.outs → branches ≡ fate.branches
    → ((world : World) (number : ℕ) (datagram : Datagram) → Has world number datagram old → clock_of world ≡ clock
    → Has (with_branches n ttl number branches world) number datagram new)
    → ((world : World) (number : ℕ) (datagram : Datagram) → Has world number datagram old
    → new_lines ≡ lines ++ (map (λ iface. told.Out number iface datagram.octets) outs ++ map (hop_line n ttl number) branches))
    → Leaves Has n ttl clock fate old new lines new_lines
leaves_by Has n ttl clock fate outs branches old new lines new_lines at on left lines_are =
    record {
      left = λ world number datagram own handled now is.
          subst (λ (on_branches : List Branch). Has (with_branches n ttl number on_branches world) number datagram new) (on ∙ is.branches)
          (left world number datagram handled now);
      lines_are = λ world number datagram own handled is.
          lines_are world number datagram handled
          ∙ (λ i. lines ++ (map (λ iface. told.Out number iface datagram.octets) ((at ∙ is.outs) i)
          ++ map (hop_line n ttl number) ((on ∙ is.branches) i)));
    }

-- a datagram of these octets is being sent
abbrev pub SendsOf : List ℕ → World → ℕ → Datagram → DatagramsView → Type 0
SendsOf octets world number datagram view = IsSending world number datagram view × (octets ≡ datagram.octets)

-- so says a call that is told its octets
pub leaves_sending : (octets : List ℕ) (n : NodeId) (clock : ℕ) (fate : Fate) (outs : List IfaceId) (branches : List Branch) (old new : DatagramsView)
    (lines new_lines : List ReportLine)
    → outs ≡ fate.outs → branches ≡ fate.branches
    → ((world : World) (number : ℕ) (datagram : Datagram) → IsSending world number datagram old
    → IsSending (with_branches n 255 number branches world) number datagram new)
    → ((world : World) (number : ℕ) (datagram : Datagram) → IsSending world number datagram old
    → new_lines ≡ lines ++ (map (λ iface. told.Out number iface octets) outs ++ map (hop_line n 255 number) branches))
    → Leaves (SendsOf octets) n 255 clock fate old new lines new_lines
leaves_sending octets n clock fate outs branches old new lines new_lines at on left lines_are =
    leaves_by (SendsOf octets) n 255 clock fate outs branches old new lines new_lines at on
    (λ world number datagram sending _. (left world number datagram sending.0, sending.1))
    (λ world number datagram sending.
    lines_are world number datagram sending.0 ∙ (λ i. lines
    ++ (map (λ iface. told.Out number iface (sending.1 i)) outs ++ map (hop_line n 255 number) branches)))

pub on_ok_both : {P Q R : Type 0} (result : Result (Unit {0}) NoMemory) → (P → Q → R) → OnOk result P → OnOk result Q → OnOk result R
on_ok_both (Ok done) both p q = both p q
on_ok_both (Err fault) both p q = tt

-- ---- a datagram enters

enters_alike : (world : World) (n : NodeId) (vrf : VrfId) (found : Vrf) (edge : EdgeData) (datagram : Datagram)
    → slice_get (scenario_of world).vrfs vrf.0 ≡ Some found → found.edge ≡ n
    → world.network.state.node n ≡ world_nodes.Edge edge → datagram_at world (length world.datagrams) ≡ Some datagram
    → act world (Enter vrf) ≡ Ok (fated world n 255 (length world.datagrams) datagram.octets []
    (entering_fate (place_of world.network.state n) (clock_of world) edge (record { id = vrf; vrf = found }) datagram.site datagram.source
    datagram.group))
enters_alike world n vrf found edge datagram at own node last =
    (λ i. Ok (entering world vrf (at i) (last i)))
    ∙ (ap (λ (s : NodeState). Ok (enters_at world (record { id = vrf; vrf = found }) s datagram)) (ap world.network.state.node own ∙ node)
    ∙ ap (λ (m : NodeId). Ok (fated world m 255 (length world.datagrams) datagram.octets []
    (entering_fate (place_of world.network.state m) (clock_of world) edge (record { id = vrf; vrf = found }) datagram.site datagram.source
    datagram.group))) own)

pub enters : (own old : NetworkView) → own ≡ old
    → (n : NodeId) (vrf : VrfId) (site : SiteId) (packet : Packet) (fate : Fate) (view : DatagramsView) (lines new_lines : List ReportLine)
    → ((at : Standing) → (is : IsEdgeOf vrf n at) → IsIn at own.plane → (edge : EdgeData) → at.network.state.node n ≡ world_nodes.Edge edge
    → IsFate (entering_fate (place_of at.network.state n) at.network.state.clock edge (record { id = vrf; vrf = is.vrf }) site packet.source
    packet.group) fate)
    → (octets : List ℕ) → octets ≡ packet.octets → ((clock : ℕ) → Leaves (SendsOf octets) n 255 clock fate own.datagrams view lines new_lines)
    → (at : Instant) (datagram : Datagram) → IsEdgeOf vrf n (standing_of at) → IsSentBy site packet datagram
    → IsHandling at (length at.world.datagrams) datagram old
    → Enters at vrf datagram lines new_lines (record own { datagrams = view })
enters own old same n vrf site packet fate view lines new_lines goes octets text leaves at datagram stands sent handled =
    let number = length at.world.datagrams in
    let now = subst (IsHandling at number datagram) (sym same) handled in
    let own_octets : octets ≡ datagram.octets = text ∙ sym sent.octets in
    let edge = edge_here n vrf own.plane (standing_of at) stands now.plane in
    let place = place_of at.world.network.state n in
    let is : IsFate (entering_fate place (clock_of at.world) edge.0 (record { id = vrf; vrf = stands.vrf }) datagram.site datagram.source
    datagram.group) fate =
    subst (λ (f : fates.Fate). IsFate f fate)
    (λ i. entering_fate place (clock_of at.world) edge.0 (record { id = vrf; vrf = stands.vrf }) (sym sent.site i) (sym sent.source i)
    (sym sent.group i))
    (goes (standing_of at) stands now.plane edge.0 edge.1) in
    let expected =
    entering_fate place (clock_of at.world) edge.0 (record { id = vrf; vrf = stands.vrf }) datagram.site datagram.source datagram.group in
    let thereafter = with_branches n 255 number expected.branches at.world in
    record {
      thereafter = fated at.world n 255 number datagram.octets [] expected;
      is = enters_alike at.world n vrf stands.vrf edge.0 datagram stands.stands stands.edge edge.1 now.datagrams.of_it;
      stands = sending_there at own thereafter (sym (branches_keep n 255 number expected.branches at.world)) now.scenario now.plane view
          (length thereafter.datagrams) datagram
          (subst (λ (k : ℕ). IsSending thereafter k datagram view)
          (ap (λ (ds : List Datagram). length ds) (sym (branches_datagrams n 255 number expected.branches at.world)))
          ((leaves (clock_of at.world)).left at.world number datagram expected (now.datagrams, own_octets) refl is).0);
      told = (leaves (clock_of at.world)).lines_are at.world number datagram expected (now.datagrams, own_octets) is;
    }

-- ---- a copy lands

-- the datagram of a copy is a packet of its flow
flow_of : (datagrams : List Datagram) (number : ℕ) (datagram : Datagram) → AllByRecursion IsOfFlow datagrams
    → numbered datagrams number ≡ Some datagram → IsOfFlow datagram
flow_of datagrams zero datagram flows at = absurd (none-some datagram at)
flow_of datagrams (suc place) datagram flows at = all_at IsOfFlow datagrams place datagram flows at

abbrev packet_or : Packet → Result Packet (ℕ × PacketFault) → Packet
packet_or packet (Ok read) = read
packet_or packet (Err fault) = packet

module _ (from to : NodeId) (copy : Landed) (own old : NetworkView) (same : own ≡ old) (octets : List ℕ)
    (are : (world : World) (number : ℕ) (datagram : Datagram) → Handles world number datagram own.datagrams → octets ≡ datagram.octets) where
  packet_here : (at : Instant) (place : ℕ) → MayLand to at → (is : HasLanded at from to place copy old)
      → packet_of octets ≡ Ok (record { source = is.left.datagram.source; group = is.left.datagram.group; octets = is.left.datagram.octets })
  packet_here at place may is =
      let left = is.left in
      let gone = without_copy at.world from to place in
      let handles = subst (λ (n : NetworkView). Handles gone left.copy.number left.datagram n.datagrams) (sym same) left.handles in
      ap packet_of (are gone left.copy.number left.datagram handles)
      ∙ flow_of at.world.datagrams left.copy.number left.datagram may.flows left.handles.of_it

  pub packet_is : (at : Instant) (place : ℕ) → MayLand to at → (is : HasLanded at from to place copy old) → (packet : Packet)
      → packet_of octets ≡ Ok packet
      → packet ≡ record { source = is.left.datagram.source; group = is.left.datagram.group; octets = is.left.datagram.octets }
  packet_is at place may is packet e = ap (packet_or packet) (sym e ∙ packet_here at place may is)

  -- so it is read
  pub none_faulty : IsSomeLanded from to copy old → (fault : ℕ × PacketFault) → packet_of octets ≡ Err fault → ⊥
  none_faulty (at, place, may, is) fault e = (let t = sym e ∙ packet_here at place may is in cc)

fate_alike : (world : World) (n : NodeId) (state : NodeState) (from : NodeId) (label : ℕ) (datagram : Datagram)
    → queries.landing_fate world.network.state n state from label datagram.source datagram.group ≡ fate_at world n state from label datagram
fate_alike world n (world_nodes.Edge edge) from label datagram = refl
fate_alike world n (world_nodes.CoreNode part) from label datagram = refl

-- where it goes
pub lands_at : (from to : NodeId) (copy : Landed) (own old : NetworkView) → own ≡ old → (packet : Packet) (fate result : Fate)
    → ((at : Standing) → IsCurrent to at → IsIn at own.plane
    → IsFate (queries.landing_fate at.network.state to (at.network.state.node to) from copy.label packet.source packet.group) fate)
    → ((expected : fates.Fate) → IsFate expected fate → IsFate (with_ttl copy.ttl expected) result)
    → (at : Instant) (place : ℕ) → MayLand to at → (is : HasLanded at from to place copy old)
    → packet ≡ record { source = is.left.datagram.source; group = is.left.datagram.group; octets = is.left.datagram.octets }
    → IsFate (landing_fate at from to place is.left.copy is.left.datagram) result
lands_at from to copy own old same packet fate result arrives drops_ at place may is read =
    let left = is.left in
    let gone = without_copy at.world from to place in
    let state = at.world.network.state.node to in
    let plane = subst (λ (n : NetworkView). IsIn (standing_of at) n.plane) (sym same) is.plane in
    let goes : queries.landing_fate at.world.network.state to state from copy.label packet.source packet.group
    ≡ fate_at gone to state from left.copy.label left.datagram =
    (λ i. queries.landing_fate at.world.network.state to state from (left.label i) (read i).source (read i).group)
    ∙ fate_alike gone to state from left.copy.label left.datagram in
    subst (λ (ttl : ℕ). IsFate (with_ttl ttl (fate_at gone to state from left.copy.label left.datagram)) result) left.ttl
    (drops_ (fate_at gone to state from left.copy.label left.datagram)
    (subst (λ (f : fates.Fate). IsFate f fate) goes (arrives (standing_of at) may.node plane)))

pub lands : (from to : NodeId) (copy : Landed) (own old : NetworkView) → own ≡ old
    → (fate : Fate) (ttl clock : ℕ) (view : DatagramsView) (lines between new_lines : List ReportLine)
    → ttl ≡ copy.ttl - 1 → ((at : Standing) → IsIn at own.plane → clock ≡ at.network.state.clock)
    → ((at : Instant) (place : ℕ) → MayLand to at → (is : HasLanded at from to place copy old)
    → IsFate (landing_fate at from to place is.left.copy is.left.datagram) fate)
    → between ≡ lines ++ told.Land from to copy.label copy.number ∷ [] → Leaves Handles to ttl clock fate own.datagrams view between new_lines
    → (at : Instant) (place : ℕ) → MayLand to at → HasLanded at from to place copy old
    → Lands at from to place lines new_lines (record own { datagrams = view })
lands from to copy own old same fate ttl clock view lines between new_lines lower ticks goes first leaves at place may is =
    let left = is.left in
    let gone = without_copy at.world from to place in
    let expected = landing_fate at from to place left.copy left.datagram in
    let landed_line = told.Land from to left.copy.label left.copy.number in
    let now = subst (HasLanded at from to place copy) (sym same) is in
    let handles = subst (λ (n : NetworkView). Handles gone left.copy.number left.datagram n.datagrams) (sym same) left.handles in
    let lowered : ttl ≡ left.copy.ttl - 1 = lower ∙ ap (λ (k : ℕ). k - 1) left.ttl in
    let thereafter = with_branches to (left.copy.ttl - 1) left.copy.number expected.branches gone in
    record {
      number = left.copy.number;
      datagram = left.datagram;
      thereafter = fated gone to (left.copy.ttl - 1) left.copy.number left.datagram.octets (landed_line ∷ []) expected;
      is = ap (λ (o : Option LinkCopy). Ok (landing at.world from to place o)) left.at
          ∙ ap (λ (o : Option Datagram). Ok (landed gone from to left.copy o)) left.handles.of_it;
      stands = landing_there at own thereafter (sym (branches_keep to (left.copy.ttl - 1) left.copy.number expected.branches gone)) now.scenario now.plane
          view left.copy.number left.datagram
          (subst (λ (k : ℕ). Handles (with_branches to k left.copy.number expected.branches gone) left.copy.number left.datagram view) lowered
          (leaves.left gone left.copy.number left.datagram expected handles (sym (ticks (standing_of at) now.plane)) (goes at place may is)));
      told =
          leaves.lines_are gone left.copy.number left.datagram expected handles (goes at place may is)
          ∙ ((λ i. (first ∙ (λ j. lines ++ told.Land from to (left.label j) (left.number j) ∷ [])) i
          ++ (map (λ iface. told.Out left.copy.number iface left.datagram.octets) expected.outs
          ++ map (hop_line to (lowered i) left.copy.number) expected.branches))
          ∙ append_assoc lines (landed_line ∷ []) (map (λ iface. told.Out left.copy.number iface left.datagram.octets) expected.outs
          ++ map (hop_line to (left.copy.ttl - 1) left.copy.number) expected.branches));
    }

-- ---- a hop

-- the copy has landed in the same network
landed_here : (own old : NetworkView) → own ≡ old → (from to : NodeId) (place : ℕ) (copy : Landed) (view : DatagramsView)
    → ((world : World) → IsIdle world own.datagrams → stored.HasLanded world from to place copy view)
    → (at : Instant) → IsWorld at old → HasLanded at from to place copy (record own { datagrams = view })
landed_here own old same from to place copy view land at is =
    let now = own_is own old same at is in
    record { scenario = now.scenario; plane = now.plane; left = land at.world now.datagrams }

pub some_landed : (own old : NetworkView) → own ≡ old → (from to : NodeId) (place : ℕ) (copy : Landed) (view : DatagramsView)
    → ((world : World) → IsIdle world own.datagrams → stored.HasLanded world from to place copy view) → IsSome (MayLand to) old
    → IsSomeLanded from to copy (record own { datagrams = view })
some_landed own old same from to place copy view land (at, may, is) = (at, place, may, landed_here own old same from to place copy view land at is)

-- no copy is there
pub none_lands : (own old : NetworkView) → own ≡ old → (from to : NodeId) (place : ℕ) (view : DatagramsView) (lines : List ReportLine)
    → ((world : World) → IsIdle world own.datagrams → slice_get (world.copies from to) (place - 1) ≡ None) → view ≡ own.datagrams
    → (at : Instant) → IsWorld at old → Made at at.moment (Land from to place) lines lines (record own { datagrams = view })
none_lands own old same from to place view lines none stays at is =
    let now = own_is own old same at is in
    record {
      thereafter = record { world = at.world; lines = [] };
      is = ap (λ (o : Option LinkCopy). Ok (landing at.world from to place o)) (none at.world now.datagrams);
      stands = subst (λ (v : DatagramsView). IsWorld at (record own { datagrams = v })) (sym stays) now;
      told = sym (append-nil lines);
    }

-- the copy has gone on, and its datagram is no longer handled
pub hops : (own old : NetworkView) → own ≡ old
    → (from to : NodeId) (place : ℕ) (copy : Landed) (view : DatagramsView) (next new : NetworkView) (lines new_lines : List ReportLine)
    → ((world : World) → IsIdle world own.datagrams → stored.HasLanded world from to place copy view)
    → ((at : Instant) (place : ℕ) → MayLand to at → HasLanded at from to place copy (record own { datagrams = view })
    → Lands at from to place lines new_lines next)
    → ((at : Instant) (number : ℕ) (datagram : Datagram) → IsLanding at number datagram next → IsWorld at new)
    → (at : Instant) → MayLand to at → IsWorld at old → Made at at.moment (Land from to place) lines new_lines new
hops own old same from to place copy view next new lines new_lines land arrives finishes at may is =
    let done = arrives at place may (landed_here own old same from to place copy view land at is) in
    record {
      thereafter = done.thereafter;
      is = done.is;
      stands = finishes (record at { world = done.thereafter.world }) done.number done.datagram done.stands;
      told = done.told;
    }

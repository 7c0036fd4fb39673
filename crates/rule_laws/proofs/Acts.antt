-- Each act of the whole network keeps the label rule.
use Rattle.std.specs.Prelude.{take}
use Rattle.std.proofs.Common.{◌≡◌, ◌≢◌, ◌<◌, ℕ, ◌+◌, ◌-◌, ◌++◌, nat_le, ◌&&◌, not, Bool, true, false, cond, List, [], ◌∷◌, length, filter, slice_get, Option, Some, None, refl, sym, subst}
use Rattle.std.proofs.lemmas.Option.{same_Some}
use Rattle.mv_base.specs.declared.addr.Addr.{Addr}
use Rattle.mv_base.specs.declared.ids.NodeId.{NodeId}
use Rattle.mv_base.specs.declared.ids.VrfId.{VrfId}
use Rattle.mv_base.specs.framing.Feed.{unfed}
use Rattle.scenario_defs.specs.declared.event.Kind.{Kind}
use Rattle.scenario_defs.specs.declared.event.Kind.TheVariants as kinds
use Rattle.scenario_defs.specs.declared.report.ReportLine.{ReportLine}
use Rattle.scenario_defs.specs.declared.report.ReportLine.TheVariants as lines
use Rattle.scenario_defs.specs.declared.scenario.Scenario.{Scenario}
use Rattle.scenario_defs.specs.declared.scenario.Vrf.{Vrf}
use Rattle.label_defs.specs.LabelData.{use_of, is_up, branches_of}
use Rattle.label_defs.specs.declared.branch.Branch.{Branch}
use Rattle.network_defs.specs.session_defs.Message.{SessionMessage}
use Rattle.network_defs.specs.session_defs.Octets as octets
use Rattle.network_defs.specs.session_defs.Octets.{OctetNetwork, octet_run}
use Rattle.network_defs.specs.session_defs.Refined.{AreLines, seen}
use Rattle.network_defs.specs.session_defs.System.{Stepped, Behind, with_messages}
use Rattle.network_defs.specs.declared.session_defs.direction.Direction.{Direction}
use Rattle.network_defs.proofs.session_defs.Lines.{line_lost, line_forgotten}
use Rattle.mldp.specs.declared.mldp_fec.fec.Fec.{Fec}
use Rattle.edge_defs.specs.Datagrams.{Fate, is_from_site, is_outside}
use Rattle.edge_defs.specs.Flows.{asking_ifaces}
use Rattle.edge_defs.specs.Edge.{Control, EdgeData}
use Rattle.edge_defs.specs.Place.{OwnVrf, EdgePlace}
use Rattle.edge_defs.specs.Steps as steps
use Rattle.edge_defs.specs.Tunnels.{transmit_tunnel, is_joined_in}
use Rattle.edge_defs.specs.Upstream.{upstream_for}
use Rattle.network_defs.specs.Acts.{Act, Tick, Timers, Move, Lose, Notice, RaiseFirst, RaiseSecond, Restart, At, Enter, Land, Drop, Tell, SetCost, Reroute, with_network, is_of_session, is_at, leads_to, is_from_peer, with_branches, datagram_at, enters_at, entering, fate_at, landed, without_copy, landing, act}
use Rattle.network_defs.specs.Counts.{direction}
use Rattle.network_defs.specs.Nodes.{NodeState, Edge, CoreNode, Nodes, place_of, part_of, fresh_node}
use Rattle.network_defs.specs.Nodes as nodes
use Rattle.network_defs.specs.System.{NodeCall, Own, Elapse, Reset, Price, Follow, system, unchanged}
use Rattle.network_defs.specs.World.{World, Datagram, LinkCopy, scenario_of, clock_of}
use Rattle.network_defs.proofs.Kept.{Gives, branches_keep, branches_datagrams}
use Rattle.network_laws.specs.Sound.{Sound}
use Rattle.network_laws.specs.Honest.{IsCost, IsSoundCall}
use Rattle.network_laws.proofs.NodeCalls.{own_is_good}
use Rattle.network_laws.proofs.RunActs.{SoundAct}
use Rattle.rule_laws.specs.Labels.{Copies, vpn_of, origin}
use Rattle.rule_laws.proofs.Calls.{Good, AllKept, IsFitCall, own_good}
use Rattle.rule_laws.proofs.Copies.{branches_by, fate_is, put_kept, drop_kept, land_kept}
use Rattle.rule_laws.proofs.Numbers.{HasRoom}
use Rattle.network_defs.specs.Refusals.{control_of}
use Rattle.rule_laws.proofs.Octets.{OctetsGood, BehindGood, earlier_good, called_good, move_good}
use Rattle.edge_words.specs.edge_laws.Acts as edge_acts
use Rattle.rule_laws.proofs.EdgeCalls.{IsEdgeFit}
use Rattle.mv_base.specs.core_walks.Costs.{with_cost}
use Rattle.rule_laws.proofs.Reroutes.{price_good, follow_good}
use Rattle.rule_laws.proofs.Sessions.{lose_good, restart_good, young_copies, tick_good}

-- What is in transit, in octets, carries messages with which the label rule holds of the world.
abbrev pub InStep : Scenario → World → Type 0
InStep scenario world = OctetsGood scenario world.network world.copies world.datagrams

-- ---- at nodes

pub network_in_step : (scenario : Scenario) (world : World) (before : List ReportLine) (found : Option (Behind (OctetNetwork Nodes))) (node : NodeId)
    → BehindGood scenario world.copies world.datagrams found → Gives (InStep scenario) (with_network world before found node)
network_in_step scenario world before None node h = tt
network_in_step scenario world before (Some new) node h = h

own_in_step : (scenario : Scenario) (copies : Copies) (datagrams : List Datagram) (old : OctetNetwork Nodes)
    (pending : Direction → List SessionMessage) → AreLines old pending → Good scenario (seen old pending) copies datagrams
    → (n : NodeId) (call : steps.Call) → n.0 < length scenario.nodes → IsSoundCall call
    → IsFitCall (seen old pending) n call → IsEdgeFit (seen old pending) n call
    → BehindGood scenario copies datagrams (octet_run system old (octets.Call (Own n call) ∷ []))
own_in_step scenario copies datagrams old pending are good n call lt sound fit fits =
    called_good scenario copies datagrams old pending are good.base.sound (Own n call) (lt, sound)
    (λ new e after. own_good scenario (seen old pending) copies datagrams good n call fit fits (own_is_good call sound) new e after)

lose_in_step : (scenario : Scenario) (world : World) (kind : Kind) (a b : NodeId) → InStep scenario world
    → Gives (InStep scenario) (act world (Lose kind a b))
lose_in_step scenario world kind a b (pending, are, good) =
    let hit : Direction → Bool = is_of_session kind a b in
    let old : OctetNetwork Nodes = world.network in (
      (λ over. cond (hit over) [] (pending over)),
      (λ over. line_lost over.kind (hit over) (old.joined over) (old.stream over) (old.transit over) (pending over) (are over)),
      lose_good scenario (seen old pending) world.copies world.datagrams kind a b good,
    )

-- a notice is fit: the loss of a session is noticed where it is not joined, at an end that is up
abbrev pub IsFitNotice : World → Kind → NodeId → NodeId → Type 0
IsFitNotice world kinds.Bgp a b =
    (world.network.joined (direction kinds.Bgp a b) ≡ false) × (world.network.joined (direction kinds.Bgp b a) ≡ false)
    × (edge_acts.is_up (control_of (world.network.state.node a)) b ≡ true)
IsFitNotice world kinds.Ldp a b = (world.network.joined (direction kinds.Ldp a b) ≡ false) × (is_up (part_of (world.network.state.node a)) b ≡ true)

notice_fit : (world : World) (pending : Direction → List SessionMessage) (kind : Kind) (a b : NodeId) → IsFitNotice world kind a b
    → IsFitCall (seen world.network pending) a (steps.Noticed kind b)
notice_fit world pending kinds.Bgp a b fit = tt
notice_fit world pending kinds.Ldp a b fit = fit

edge_fit : (world : World) (pending : Direction → List SessionMessage) (kind : Kind) (a b : NodeId) → IsFitNotice world kind a b
    → IsEdgeFit (seen world.network pending) a (steps.Noticed kind b)
edge_fit world pending kinds.Bgp a b fit = fit
edge_fit world pending kinds.Ldp a b fit = tt

notice_in_step : (scenario : Scenario) (world : World) (kind : Kind) (a b : NodeId) → a.0 < length scenario.nodes → IsFitNotice world kind a b
    → InStep scenario world → Gives (InStep scenario) (act world (Notice kind a b))
notice_in_step scenario world kind a b lt fit (pending, are, good) =
    let hit : Direction → Bool = is_from_peer kind a b in
    let old : OctetNetwork Nodes = world.network in
    let next : OctetNetwork Nodes = record old { stream = λ over. cond (hit over && not (old.joined over)) unfed (old.stream over) } in
    let lines_next : AreLines next pending =
    λ over. line_forgotten over.kind (hit over) (old.joined over) (old.stream over) (old.transit over) (pending over) (are over) in
    let call : octets.OctetAct NodeCall = octets.Call (Own a (steps.Noticed kind b)) in
    network_in_step scenario world [] (octet_run system old (octets.Forget hit ∷ call ∷ [])) a
    (earlier_good scenario world.copies world.datagrams [] (octet_run system next (call ∷ []))
    (own_in_step scenario world.copies world.datagrams next pending lines_next good a (steps.Noticed kind b) lt tt
    (notice_fit world pending kind a b fit) (edge_fit world pending kind a b fit)))

restart_in_step : (scenario : Scenario) (world : World) (n : NodeId) → InStep scenario world → Gives (InStep scenario) (act world (Restart n))
restart_in_step scenario world n (pending, are, good) =
    let old : OctetNetwork Nodes = world.network in
    let gone : OctetNetwork Nodes =
    record old { joined = λ over. old.joined over && not (is_at n over); transit = λ over. cond (is_at n over) [] (old.transit over) } in
    let waiting : Direction → List SessionMessage = λ over. cond (is_at n over) [] (pending over) in
    let gone_lines : AreLines gone waiting =
    λ over. line_lost over.kind (is_at n over) (old.joined over) (old.stream over) (old.transit over) (pending over) (are over) in
    let next : OctetNetwork Nodes = record gone { stream = λ over. cond (leads_to n over && not (gone.joined over)) unfed (gone.stream over) } in
    let next_lines : AreLines next waiting =
    λ over. line_forgotten over.kind (leads_to n over) (gone.joined over) (gone.stream over) (gone.transit over) (waiting over) (gone_lines over)
    in
    let call : octets.OctetAct NodeCall = octets.Call (Reset n) in
    network_in_step scenario world [] (octet_run system old (octets.Lose (is_at n) ∷ octets.Forget (leads_to n) ∷ call ∷ [])) n
    (earlier_good scenario world.copies world.datagrams [] (octet_run system gone (octets.Forget (leads_to n) ∷ call ∷ []))
    (earlier_good scenario world.copies world.datagrams [] (octet_run system next (call ∷ []))
    (called_good scenario world.copies world.datagrams next waiting next_lines good.base.sound (Reset n) tt (λ new e after.
    let back : Nodes = nodes.with_node old.state n (fresh_node old.state.scenario n) in
    let same : unchanged back ≡ new = same_Some (unchanged back) new e in
    subst (λ (s : Stepped Nodes). Good scenario (with_messages (seen next waiting) s) world.copies world.datagrams) same
    (restart_good scenario (seen old pending) world.copies world.datagrams n good
    (subst (λ (s : Stepped Nodes). Sound scenario s.state) (sym same) after))))))

tick_in_step : (scenario : Scenario) (world : World) (ticks : ℕ) → InStep scenario world → Gives (InStep scenario) (act world (Tick ticks))
tick_in_step scenario world ticks (pending, are, good) =
    let old : OctetNetwork Nodes = world.network in
    let later : Nodes = record old.state { clock = old.state.clock + ticks } in
    (called_good scenario (young_copies (old.state.clock + ticks) old.state.scenario.life world.copies) world.datagrams old pending are
    good.base.sound (Elapse ticks) tt (λ new e after.
    let same : unchanged later ≡ new = same_Some (unchanged later) new e in
    subst (λ (s : Stepped Nodes). Good scenario (with_messages (seen old pending) s)
    (young_copies (old.state.clock + ticks) old.state.scenario.life world.copies) world.datagrams) same
    (tick_good scenario (seen old pending) world.copies world.datagrams ticks good
    (subst (λ (s : Stepped Nodes). Sound scenario s.state) (sym same) after))))

-- ---- costs

price_in_step : (scenario : Scenario) (world : World) (a b : NodeId) (cost : ℕ) → IsCost cost → InStep scenario world
    → Gives (InStep scenario) (act world (SetCost a b cost))
price_in_step scenario world a b cost is (pending, are, good) =
    let old : OctetNetwork Nodes = world.network in
    let next : Nodes = record old.state { links = with_cost a b cost old.state.links } in
    network_in_step scenario world [] (octet_run system old (octets.Call (Price a b cost) ∷ [])) a
    (called_good scenario world.copies world.datagrams old pending are good.base.sound (Price a b cost) is (λ new e after.
    let same : unchanged next ≡ new = same_Some (unchanged next) new e in
    subst (λ (s : Stepped Nodes). Good scenario (with_messages (seen old pending) s) world.copies world.datagrams) same
    (price_good scenario (seen old pending) world.copies world.datagrams (with_cost a b cost old.state.links) good
    (subst (λ (s : Stepped Nodes). Sound scenario s.state) (sym same) after))))

follow_in_step : (scenario : Scenario) (world : World) (n : NodeId) → n.0 < length scenario.nodes → InStep scenario world
    → Gives (InStep scenario) (act world (Reroute n))
follow_in_step scenario world n lt (pending, are, good) =
    network_in_step scenario world [] (octet_run system world.network (octets.Call (Follow n) ∷ [])) n
    (called_good scenario world.copies world.datagrams world.network pending are good.base.sound (Follow n) lt
    (λ new e after. follow_good scenario (seen world.network pending) world.copies world.datagrams n good new e after))

-- ---- copies

-- a world in which copies alone are others
other_copies : (scenario : Scenario) (world new : World) (pending : Direction → List SessionMessage) → AreLines world.network pending
    → Good scenario (seen world.network pending) world.copies world.datagrams → new.network ≡ world.network → new.datagrams ≡ world.datagrams
    → AllKept (seen world.network pending) new.copies world.datagrams → InStep scenario new
other_copies scenario world new pending are good network datagrams kept =
    subst (λ (ds : List Datagram). OctetsGood scenario new.network new.copies ds) (sym datagrams)
    (subst (λ (net : OctetNetwork Nodes). OctetsGood scenario net new.copies world.datagrams) (sym network)
    (pending, are, record { base = good.base; kept = kept; edges = good.edges }))

-- What lets a datagram enter at a VRF: whatever its flow, the tunnel that the edge transmits it on is one of the VPN of its site.
abbrev pub IsFitEnter : World → VrfId → Type 0
IsFitEnter world id =
    (vrf : Vrf) (edge : EdgeData) (source group : Addr) (later : List Datagram) → slice_get (scenario_of world).vrfs id.0 ≡ Some vrf
    → world.network.state.node vrf.edge ≡ Edge edge
    → vpn_of (scenario_of world) (transmit_tunnel (place_of world.network.state vrf.edge) edge.control (record { id = id; vrf = vrf }) source group)
    ≡ origin (scenario_of world) (world.datagrams ++ later) (length world.datagrams)

enter_by : (scenario : Scenario) (world : World) (id : VrfId) → IsFitEnter world id → InStep scenario world → (vrf : Vrf)
    → slice_get (scenario_of world).vrfs id.0 ≡ Some vrf → (state : NodeState) → world.network.state.node vrf.edge ≡ state → (datagram : Datagram)
    → InStep scenario (enters_at world (record { id = id; vrf = vrf }) state datagram).world
enter_by scenario world id fit s vrf known (CoreNode part) at datagram = s
enter_by scenario world id fit (pending, are, good) vrf known (Edge edge) at datagram =
    by (is_from_site datagram.site (upstream_for place edge.control own datagram.source datagram.group))
    (is_joined_in place edge.control own datagram.source datagram.group)
  where
    own : OwnVrf
    own = record { id = id; vrf = vrf }

    place : EdgePlace
    place = place_of world.network.state vrf.edge

    number : ℕ
    number = length world.datagrams

    put : (branches : List Branch) → AllKept (seen world.network pending) (with_branches vrf.edge 255 number branches world).copies world.datagrams
        → InStep scenario (with_branches vrf.edge 255 number branches world)
    put branches kept =
        other_copies scenario world (with_branches vrf.edge 255 number branches world) pending are good
        (branches_keep vrf.edge 255 number branches world) (branches_datagrams vrf.edge 255 number branches world) kept

    tunnel : Fec
    tunnel = transmit_tunnel place edge.control own datagram.source datagram.group

    by : (site joined : Bool) → InStep scenario (with_branches vrf.edge 255 number (cond {A = Fate} site (record {
      outs = filter (is_outside place.scenario datagram.site) (asking_ifaces place (clock_of world) edge.control own datagram.source datagram.group);
      branches = cond joined (branches_of edge.part tunnel) [];
    }) (record { outs = []; branches = [] })).branches world)
    by true true =
        put (branches_of edge.part tunnel) (subst (λ (state : NodeState). AllKept (seen world.network pending)
        (with_branches vrf.edge 255 number (branches_of (part_of state) tunnel) world).copies world.datagrams) at
        (put_kept pending world vrf.edge tunnel 255 number (λ later. fit vrf edge datagram.source datagram.group later known at) good.kept))
    by true false = (pending, are, good)
    by false joined = (pending, are, good)

enter_in_step : (scenario : Scenario) (world : World) (id : VrfId) → IsFitEnter world id → InStep scenario world
    → Gives (InStep scenario) (act world (Enter id))
enter_in_step scenario world id fit s = by (slice_get (scenario_of world).vrfs id.0) refl (datagram_at world (length world.datagrams))
  where
    by : (o : Option Vrf) → slice_get (scenario_of world).vrfs id.0 ≡ o → (d : Option Datagram) → InStep scenario (entering world id o d).world
    by (Some vrf) e (Some datagram) = enter_by scenario world id fit s vrf e (world.network.state.node vrf.edge) refl datagram
    by (Some vrf) e None = s
    by None e d = s

land_in_step : (scenario : Scenario) (world : World) (a b : NodeId) (place : ℕ) → a ≢ b → InStep scenario world
    → Gives (InStep scenario) (act world (Land a b place))
land_in_step scenario world a b place ne (pending, are, good) = by (slice_get (world.copies a b) (place - 1)) refl
  where
    gone : World
    gone = without_copy world a b place

    dropped : InStep scenario (without_copy world a b place)
    dropped = (pending, are, record { base = good.base; kept = drop_kept pending world a b place good.kept; edges = good.edges })

    state : NodeState
    state = world.network.state.node b

    goes_on : (copy : LinkCopy) → slice_get (world.copies a b) (place - 1) ≡ Some copy → (datagram : Datagram) (late : Bool)
        → InStep scenario (with_branches b (copy.ttl - 1) copy.number
        (cond late (record (fate_at (without_copy world a b place) b (world.network.state.node b) a copy.label datagram) { branches = [] })
        (fate_at (without_copy world a b place) b (world.network.state.node b) a copy.label datagram)).branches (without_copy world a b place))
    goes_on copy e datagram true = dropped
    goes_on copy e datagram false =
        let branches : List Branch = branches_by a (part_of state) (use_of (part_of state) copy.label) in
        let new : World = with_branches b (copy.ttl - 1) copy.number branches gone in
        subst (λ (bs : List Branch). InStep scenario (with_branches b (copy.ttl - 1) copy.number bs gone))
        (sym (fate_is gone b state a copy.label datagram))
        (other_copies scenario world new pending are good (branches_keep b (copy.ttl - 1) copy.number branches gone)
        (branches_datagrams b (copy.ttl - 1) copy.number branches gone) (land_kept pending world a b ne place copy e (copy.ttl - 1) good.kept))

    found : (copy : LinkCopy) → slice_get (world.copies a b) (place - 1) ≡ Some copy → (d : Option Datagram)
        → InStep scenario (landed (without_copy world a b place) a b copy d).world
    found copy e None = dropped
    found copy e (Some datagram) = goes_on copy e datagram (nat_le copy.ttl 1)

    by : (o : Option LinkCopy) → slice_get (world.copies a b) (place - 1) ≡ o → InStep scenario (landing world a b place o).world
    by None e = (pending, are, good)
    by (Some copy) e = found copy e (datagram_at gone copy.number)

-- ---- all of them

-- a call of a customer fits an edge that keeps this: there is room for one more selection, and a pattern is not selected twice
abbrev pub IsFitFor : Control → steps.CustomerCall → Type 0
IsFitFor control call = HasRoom control (steps.Customer call) × (edge_acts.selects_again control call ≡ false)

-- What is asked of an act besides that it is sound. The ends of a session come up together alone.
abbrev pub IsFit : World → Act → Type 0
IsFit world (Notice kind a b) = IsFitNotice world kind a b
IsFit world (RaiseFirst kind a b) = ⊥
IsFit world (RaiseSecond kind a b) = ⊥
IsFit world (Enter vrf) = IsFitEnter world vrf
IsFit world (Land from to place) = from ≢ to
IsFit world (At n (steps.Customer call)) = IsFitFor (control_of (world.network.state.node n)) call
IsFit world (At n (steps.Raised kind peer)) = ⊥
IsFit world (At n (steps.Noticed kind peer)) = ⊥
IsFit world other = Unit {0}

at_fit : (scenario : Scenario) (world : World) (pending : Direction → List SessionMessage) (n : NodeId) (call : steps.Call) → IsSoundCall call
    → IsFit world (At n call) → IsFitCall (seen world.network pending) n call × IsEdgeFit (seen world.network pending) n call
at_fit scenario world pending n (steps.Update peer message) sound fit = absurd sound
at_fit scenario world pending n (steps.Label neighbour message) sound fit = absurd sound
at_fit scenario world pending n (steps.Customer call) sound fit = (fit.0, (fit.1, fit.0))
at_fit scenario world pending n (steps.Raised kind peer) sound fit = absurd fit
at_fit scenario world pending n (steps.Noticed kind peer) sound fit = absurd fit
at_fit scenario world pending n steps.Timers sound fit = (tt, tt)
at_fit scenario world pending n steps.Rerouted sound fit = absurd sound

pub act_in_step : (scenario : Scenario) (one : Act) → SoundAct scenario one → (world : World) → IsFit world one → InStep scenario world
    → Gives (InStep scenario) (act world one)
act_in_step scenario (Tick ticks) sound world fit s = tick_in_step scenario world ticks s
act_in_step scenario (Timers n) sound world fit (pending, are, good) =
    network_in_step scenario world [] (octet_run system world.network (octets.Call (Own n steps.Timers) ∷ [])) n
    (own_in_step scenario world.copies world.datagrams world.network pending are good n steps.Timers sound tt tt tt)
act_in_step scenario (Move kind from to count) sound world fit s =
    network_in_step scenario world (lines.Take kind from to (take count (world.network.transit (direction kind from to))) ∷ [])
    (octet_run system world.network (octets.Move (direction kind from to) count ∷ [])) to
    (move_good scenario world.copies world.datagrams world.network kind from to count s)
act_in_step scenario (Lose kind a b) sound world fit s = lose_in_step scenario world kind a b s
act_in_step scenario (Notice kind a b) sound world fit s = notice_in_step scenario world kind a b sound fit s
act_in_step scenario (RaiseFirst kind a b) sound world fit s = absurd fit
act_in_step scenario (RaiseSecond kind a b) sound world fit s = absurd fit
act_in_step scenario (Restart n) sound world fit s = restart_in_step scenario world n s
act_in_step scenario (At n call) sound world fit (pending, are, good) =
    network_in_step scenario world [] (octet_run system world.network (octets.Call (Own n call) ∷ [])) n
    (let fits = at_fit scenario world pending n call sound.1 fit in
    own_in_step scenario world.copies world.datagrams world.network pending are good n call sound.0 sound.1 fits.0 fits.1)
act_in_step scenario (Enter vrf) sound world fit s = enter_in_step scenario world vrf fit s
act_in_step scenario (Land from to place) sound world fit s = land_in_step scenario world from to place fit s
act_in_step scenario (Drop from to place) sound world fit (pending, are, good) =
    (pending, are, record { base = good.base; kept = drop_kept pending world from to place good.kept; edges = good.edges })
act_in_step scenario Tell sound world fit s = s
act_in_step scenario (SetCost a b cost) sound world fit s = price_in_step scenario world a b cost sound s
act_in_step scenario (Reroute n) sound world fit s = follow_in_step scenario world n sound s

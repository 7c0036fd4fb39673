-- In each run a datagram that enters goes on branches of a tunnel of its VRF, and another edge has joined its flow there.
use Rattle.std.specs.Prelude.{Ok}
use Rattle.std.proofs.Common.{◌≡◌, ◌==◌, ◌&&◌, ℕ, Bool, true, false, cond, map, filter, length, slice_get, List, [], ◌∷◌, ◌++◌, Option, Some, None, refl, sym, ap, subst, ◌∙◌}
use Rattle.std.specs.FinMap as maps
use Rattle.std.specs.FinSet as sets
use Rattle.std.specs.List.{AllByRecursion}
use Rattle.std.specs.Cmp.Lexicographic.{pointwise, same_text}
use Rattle.std.specs.Prelude.{nat_eq}
use Rattle.std.proofs.lemmas.Bool.{and_parts, eqb-true}
use Rattle.std.proofs.lemmas.List.{append_assoc}
use Rattle.std.proofs.lemmas.Option.{none-some}
use Rattle.mv_base.proofs.CutLemmas.{if_some}
use Rattle.mv_base.specs.Address.{same_addr, same_addr_equal}
use Rattle.mv_base.specs.declared.addr.Addr.{Addr}
use Rattle.mv_base.specs.declared.ids.IfaceId.{IfaceId}
use Rattle.mv_base.specs.declared.ids.NodeId.{NodeId}
use Rattle.mv_base.specs.declared.ids.VrfId.{VrfId}
use Rattle.mldp.specs.declared.mldp_fec.fec.Fec.{Fec}
use Rattle.bgp_values.specs.declared.mvpn_nlri.route.Afi.{Afi}
use Rattle.bgp_values.specs.declared.mvpn_nlri.route.Route.TheVariants as routes
use Rattle.mv_base.specs.declared.route_targets.communities.ExtComm.{ExtComm}
use Rattle.bgp_messages.specs.declared.bgp_attributes.key.Key.{Key}
use Rattle.bgp_messages.specs.declared.bgp_attributes.key.Key.TheVariants.{Mcast, Unicast}
use Rattle.bgp_messages.specs.bgp_update.Table.{HasRoute}
use Rattle.scenario_defs.specs.declared.event.Kind.TheVariants as kinds
use Rattle.scenario_defs.specs.declared.report.ReportLine.{ReportLine}
use Rattle.scenario_defs.specs.declared.report.ReportLine.TheVariants as lines
use Rattle.scenario_defs.specs.declared.scenario.Scenario.{Scenario}
use Rattle.scenario_defs.specs.declared.scenario.Vrf.{Vrf}
use Rattle.selective_defs.specs.Selective.{transmitted}
use Rattle.label_defs.specs.declared.branch.Branch.{Branch}
use Rattle.label_defs.specs.LabelData.{branches_of}
use Rattle.label_defs.proofs.KeyLemmas.{same_fec_equal}
use Rattle.edge_defs.specs.Datagrams.{Fate, discarded, is_from_site, is_outside, entering_fate}
use Rattle.edge_defs.specs.Edge.{TakenRoute, Taken, Control, EdgeData}
use Rattle.edge_defs.specs.Flows.{asking_ifaces, same_flow}
use Rattle.edge_defs.specs.Imported.{FlowRoute, found_in, has_comm, imported_join, taken_from}
use Rattle.edge_defs.specs.Originated.{import_target, own_import}
use Rattle.edge_defs.specs.Place.{EdgePlace, OwnVrf, addr_of, lsp, tunnel_number}
use Rattle.edge_defs.specs.Tunnels.{number_by, selections_of, transmit_tunnel, is_joined_by, is_joined_in}
use Rattle.edge_defs.specs.Upstream.{upstream_for}
use Rattle.edge_defs.proofs.KeyLemmas.{key_total}
use Rattle.rule_laws.proofs.edge_words.calm_laws.Lists.{any_among, found_among}
use Rattle.rule_laws.proofs.edge_words.calm_laws.Maps.{entry_get}
use Rattle.rule_laws.proofs.edge_words.calm_laws.Tables.{peer_table}
use Rattle.network_defs.specs.Acts.{Act, Enter, RaiseFirst, RaiseSecond, Tick, Timers, Move, Lose, Notice, Restart, At, Land, Drop, Tell, SetCost, Reroute, Acted, hop_line, datagram_at, enters_at, entering, act}
use Rattle.network_defs.specs.Local.{MayHop, MayEnter, EntersBy, taken_since}
use Rattle.network_defs.specs.Nodes.{NodeState, Edge, CoreNode, place_of, part_of}
use Rattle.network_defs.specs.Refusals.{control_of}
use Rattle.network_defs.specs.Run.{Traced}
use Rattle.network_defs.specs.World.{World, Datagram, scenario_of, clock_of}
use Rattle.network_defs.proofs.Numbered.{numbered_more}
use Rattle.network_laws.proofs.Lists.{each_append, each_map, each_of, each_weaker}
use Rattle.rule_laws.proofs.Acts.{InStep}
use Rattle.rule_laws.proofs.Numbers.{NumbersOk}
use Rattle.rule_laws.proofs.Outs.{Says, said_of}
use Rattle.rule_laws.proofs.Safe.{HasThose, act_those}
use Rattle.rule_laws.proofs.Vpns.{number_small}
use Rattle.license_laws.specs.Enters.{EnterMay, EntersMay}
use Rattle.license_laws.proofs.Also.{KeepsAlso, each_next, refused_step}
use Rattle.license_laws.proofs.Branched.{Branched, may_hop}
use Rattle.license_laws.proofs.Follows.{stepped}
use Rattle.license_laws.proofs.Hops.{IsBranchOf, tree_branches}
use Rattle.license_laws.proofs.Moving.{given_by}
use Rattle.license_laws.proofs.Tabled.{Tabling, taken_route}
use Rattle.license_laws.proofs.Taking.{Taking}

-- ---- a flow that was joined

-- the route is a Source Tree Join of that flow, for the VRF
record IsJoin (place : EdgePlace) (vrf : Vrf) (source group : Addr) (key : Key) (route : TakenRoute) : Type 0 where
  afi : Afi
  same : key ≡ Mcast afi (routes.SourceJoin vrf.rd place.scenario.system source group)
  named : has_comm (import_target (own_import place vrf)) route.value.comms ≡ true

join_is : (place : EdgePlace) (vrf : Vrf) (source group : Addr) (key : Key) (route : TakenRoute) (flow : FlowRoute)
    → imported_join place vrf (key, route) ≡ Some flow → same_flow source group flow ≡ true → IsJoin place vrf source group key route
join_is place vrf source group (Unicast rd prefix) route flow e s = absurd (none-some flow e)
join_is place vrf source group (Mcast afi (routes.SourceJoin rd source_as s_own g_own)) route flow e s =
    let test : Bool =
    pointwise nat_eq rd.0 vrf.rd.0 && (source_as == place.scenario.system) && has_comm (import_target (own_import place vrf)) route.value.comms in
    let own : FlowRoute = record { source = s_own; group = g_own } in
    let x = if_some test own flow e in
    let y = and_parts (pointwise nat_eq rd.0 vrf.rd.0 && (source_as == place.scenario.system))
    (has_comm (import_target (own_import place vrf)) route.value.comms) x.0 in
    let z = and_parts (pointwise nat_eq rd.0 vrf.rd.0) (source_as == place.scenario.system) y.0 in
    let w = and_parts (same_addr flow.source source) (same_addr flow.group group) s in
    let rd_is : rd ≡ vrf.rd = ap (λ (octets : List ℕ). record { 0 = octets }) (same_text rd.0 vrf.rd.0 (sym z.0)) in
    let as_is : source_as ≡ place.scenario.system = eqb-true source_as place.scenario.system z.1 in
    let s_is : s_own ≡ source = ap (λ (f : FlowRoute). f.source) x.1 ∙ same_addr_equal flow.source source w.0 in
    let g_is : g_own ≡ group = ap (λ (f : FlowRoute). f.group) x.1 ∙ same_addr_equal flow.group group w.1 in
    record { afi = afi; same = λ i. Mcast afi (routes.SourceJoin (rd_is i) (as_is i) (s_is i) (g_is i)); named = y.1 }
join_is place vrf source group (Mcast afi (routes.Intra rd originator)) route flow e s = absurd (none-some flow e)
join_is place vrf source group (Mcast afi (routes.Inter rd source_as)) route flow e s = absurd (none-some flow e)
join_is place vrf source group (Mcast afi (routes.Selective rd s_own g_own originator)) route flow e s = absurd (none-some flow e)
join_is place vrf source group (Mcast afi (routes.Leaf key originator)) route flow e s = absurd (none-some flow e)
join_is place vrf source group (Mcast afi (routes.Active rd s_own g_own)) route flow e s = absurd (none-some flow e)
join_is place vrf source group (Mcast afi (routes.SharedJoin rd source_as s_own g_own)) route flow e s = absurd (none-some flow e)
join_is place vrf source group (Mcast afi (routes.Other kind octets)) route flow e s = absurd (none-some flow e)

-- a peer, and its route
record Joined (place : EdgePlace) (control : Control) (vrf : Vrf) (source group : Addr) : Type 0 where
  peer : NodeId
  key : Key
  route : TakenRoute
  at : maps.get (taken_from control peer) key ≡ Some route
  is : IsJoin place vrf source group key route

joined_by : (place : EdgePlace) (control : Control) (own : OwnVrf) (source group : Addr) → is_joined_in place control own source group ≡ true
    → Joined place control own.vrf source group
joined_by place control own source group j =
    let x = any_among (is_joined_by place own source group) (maps.entries control.peers) j in
    let y = any_among (same_flow source group) (found_in (imported_join place own.vrf) (maps.entries x.0.1)) x.2 in
    let z = found_among (imported_join place own.vrf) y.0 (maps.entries x.0.1) y.1 in
    let table : taken_from control x.0.0 ≡ x.0.1 = peer_table control x.0.0 x.0.1 x.1 in
    record {
      peer = x.0.0;
      key = z.0.0;
      route = z.0.1;
      at = ap (λ (m : Taken). maps.get m z.0.0) table ∙ entry_get key_total x.0.1 z.0.0 z.0.1 z.1;
      is = join_is place own.vrf source group z.0.0 z.0.1 y.0 z.2 y.2;
    }

-- ---- a datagram that enters

module _ (scenario : Scenario) (trace : List Traced) (world : World) (s : InStep scenario world) (branched : Branched trace world)
    (tabling : Tabling trace world) where
  enter_by : (id : VrfId) (vrf : Vrf) (edge : EdgeData) (datagram : Datagram) → slice_get (scenario_of world).vrfs id.0 ≡ Some vrf
      → world.network.state.node vrf.edge ≡ Edge edge
      → is_joined_in (place_of world.network.state vrf.edge) edge.control (record { id = id; vrf = vrf }) datagram.source datagram.group ≡ true
      → (branch : Branch) → IsBranchOf edge.part (transmit_tunnel (place_of world.network.state vrf.edge) edge.control (record { id = id; vrf = vrf })
      datagram.source datagram.group) branch → MayEnter (scenario_of world) trace id datagram vrf.edge branch.node branch.label
  enter_by id vrf edge datagram known at j branch is =
      let own : OwnVrf = record { id = id; vrf = vrf } in
      let place : EdgePlace = place_of world.network.state vrf.edge in
      let number : ℕ = number_by (transmitted (selections_of edge.control id) datagram.source datagram.group) in
      let numbers : NumbersOk edge.control = subst (λ (state : NodeState). NumbersOk (control_of state)) at (s.2.base.numbers vrf.edge) in
      let tree : branch.fec ≡ lsp (addr_of (scenario_of world) vrf.edge) (tunnel_number vrf number) =
      same_fec_equal branch.fec (transmit_tunnel place edge.control own datagram.source datagram.group) is.1 in
      let join = joined_by place edge.control own datagram.source datagram.group j in
      let found : maps.get (taken_from (control_of (world.network.state.node vrf.edge)) join.peer) join.key ≡ Some join.route =
      ap (λ (state : NodeState). maps.get (taken_from (control_of state) join.peer) join.key) at ∙ join.at in
      let route = taken_route trace world tabling join.peer vrf.edge join.key join.route found in
      record {
        vrf = vrf;
        known = known;
        at_edge = refl;
        number = number;
        own = number_small edge.control id datagram.source datagram.group numbers;
        hop = subst (λ (f : Fec). MayHop trace vrf.edge branch.node branch.label f) tree
            (may_hop trace world branched vrf.edge branch (ap (λ (state : NodeState). sets.contains (part_of state).branches branch) at ∙ is.0));
        peer = join.peer;
        afi = join.is.afi;
        advert = route.advert;
        joined = subst (λ (k : Key). HasRoute (taken_since kinds.Bgp join.peer vrf.edge trace) k route.advert) join.is.same route.taken;
        named = ap (λ (comms : List ExtComm). has_comm (import_target (own_import place vrf)) comms) route.comms ∙ join.is.named;
      }

  enter_says : (id : VrfId) → Says (EntersBy (scenario_of world) trace world.datagrams id) (act world (Enter id))
  enter_says id = by (slice_get (scenario_of world).vrfs id.0) refl (datagram_at world (length world.datagrams)) refl
    where
      Q : ReportLine → Type 0
      Q = EntersBy (scenario_of world) trace world.datagrams id

      at : (vrf : Vrf) → slice_get (scenario_of world).vrfs id.0 ≡ Some vrf → (state : NodeState) → world.network.state.node vrf.edge ≡ state
          → (datagram : Datagram) → datagram_at world (length world.datagrams) ≡ Some datagram
          → AllByRecursion (EntersBy (scenario_of world) trace world.datagrams id)
          (enters_at world (record { id = id; vrf = vrf }) state datagram).lines
      at vrf known (CoreNode part) is datagram sent = tt
      at vrf known (Edge edge) is datagram sent =
          let own : OwnVrf = record { id = id; vrf = vrf } in
          let place : EdgePlace = place_of world.network.state vrf.edge in
          let Fits : Branch → Type 0 = λ branch. MayEnter (scenario_of world) trace id datagram vrf.edge branch.node branch.label in
          let number : ℕ = length world.datagrams in
          let fate : Fate = entering_fate place (clock_of world) edge own datagram.site datagram.source datagram.group in
          let fits : AllByRecursion Fits fate.branches =
          entered (is_from_site datagram.site (upstream_for place edge.control own datagram.source datagram.group))
          (is_joined_in place edge.control own datagram.source datagram.group) refl in
          each_append (EntersBy (scenario_of world) trace world.datagrams id) (map (λ iface. lines.Out number iface datagram.octets) fate.outs)
          (map (hop_line vrf.edge 255 number) fate.branches)
          (each_map (EntersBy (scenario_of world) trace world.datagrams id) (λ iface. lines.Out number iface datagram.octets) fate.outs
          (each_of (λ (iface : IfaceId). Unit {0}) (λ iface. tt) fate.outs))
          (each_map (EntersBy (scenario_of world) trace world.datagrams id) (hop_line vrf.edge 255 number) fate.branches
          (each_weaker Fits (λ branch. EntersBy (scenario_of world) trace world.datagrams id (hop_line vrf.edge 255 number branch))
          (λ branch h. (datagram, sent, h)) fate.branches fits))
        where
          entered : (t j : Bool) → is_joined_in (place_of world.network.state vrf.edge) edge.control (record { id = id; vrf = vrf }) datagram.source
              datagram.group ≡ j
              → AllByRecursion (λ (branch : Branch). MayEnter (scenario_of world) trace id datagram vrf.edge branch.node branch.label)
              (cond {A = Fate} t (record {
                outs = filter (is_outside (scenario_of world) datagram.site)
                    (asking_ifaces (place_of world.network.state vrf.edge) (clock_of world) edge.control (record { id = id; vrf = vrf })
                    datagram.source datagram.group);
                branches =
                    cond j (branches_of edge.part (transmit_tunnel (place_of world.network.state vrf.edge) edge.control
                    (record { id = id; vrf = vrf }) datagram.source datagram.group)) [];
              }) discarded).branches
          entered true true j =
              let tunnel : Fec =
              transmit_tunnel (place_of world.network.state vrf.edge) edge.control (record { id = id; vrf = vrf }) datagram.source datagram.group
              in
              each_weaker (IsBranchOf edge.part tunnel)
              (λ (branch : Branch). MayEnter (scenario_of world) trace id datagram vrf.edge branch.node branch.label)
              (λ branch b. enter_by id vrf edge datagram known is j branch b) (branches_of edge.part tunnel) (tree_branches edge.part tunnel)
          entered true false j = tt
          entered false t j = tt

      by : (o : Option Vrf) → slice_get (scenario_of world).vrfs id.0 ≡ o → (d : Option Datagram) → datagram_at world (length world.datagrams) ≡ d
          → AllByRecursion (EntersBy (scenario_of world) trace world.datagrams id) (entering world id o d).lines
      by (Some vrf) e (Some datagram) sent = at vrf e (world.network.state.node vrf.edge) refl datagram sent
      by (Some vrf) e None sent = tt
      by None e d sent = tt

-- ---- runs

abbrev pub EnterStep : Scenario → List Datagram → List Traced → Traced → Type 0
EnterStep scenario datagrams before step = EnterMay scenario datagrams before step.happened.act step.happened.lines

abbrev pub Entering : Scenario → List Traced → World → Type 0
Entering scenario trace world = EntersMay scenario world.datagrams trace

-- what is licensed stays so when datagrams are added
line_more : (scenario : Scenario) (old more : List Datagram) (before : List Traced) (id : VrfId) (line : ReportLine)
    → EntersBy scenario before old id line → EntersBy scenario before (old ++ more) id line
line_more scenario old more before id (lines.Hop u n label ttl number) (datagram, sent, may) =
    (datagram, numbered_more old more number datagram sent, may)
line_more scenario old more before id (lines.Out number iface bytes) is = tt
line_more scenario old more before id (lines.Put kind from to bytes) is = tt
line_more scenario old more before id (lines.Take kind from to bytes) is = tt
line_more scenario old more before id (lines.Land from to label number) is = tt
line_more scenario old more before id (lines.Refused line reason) is = tt
line_more scenario old more before id (lines.Halt line node) is = tt
line_more scenario old more before id (lines.State a b c d e) is = tt

step_more : (scenario : Scenario) (old more : List Datagram) (before : List Traced) (one : Option Act) (all : List ReportLine)
    → EnterMay scenario old before one all → EnterMay scenario (old ++ more) before one all
step_more scenario old more before (Some (Enter id)) all h =
    each_weaker (EntersBy scenario before old id) (EntersBy scenario before (old ++ more) id) (line_more scenario old more before id) all h
step_more scenario old more before None all h = tt
step_more scenario old more before (Some (Tick ticks)) all h = tt
step_more scenario old more before (Some (Timers n)) all h = tt
step_more scenario old more before (Some (Move own u n count)) all h = tt
step_more scenario old more before (Some (Lose own a b)) all h = tt
step_more scenario old more before (Some (Notice own a b)) all h = tt
step_more scenario old more before (Some (RaiseFirst own a b)) all h = tt
step_more scenario old more before (Some (RaiseSecond own a b)) all h = tt
step_more scenario old more before (Some (Restart n)) all h = tt
step_more scenario old more before (Some (At n call)) all h = tt
step_more scenario old more before (Some (Land a b place)) all h = tt
step_more scenario old more before (Some (Drop a b place)) all h = tt
step_more scenario old more before (Some Tell) all h = tt
step_more scenario old more before (Some (SetCost a b cost)) all h = tt
step_more scenario old more before (Some (Reroute n)) all h = tt

act_enters : (scenario : Scenario) (trace : List Traced) (world : World) → InStep scenario world → Branched trace world → Tabling trace world
    → (one : Act) (acted : Acted) → act world one ≡ Ok acted → EnterMay scenario world.datagrams trace (Some one) acted.lines
act_enters scenario trace world s branched tabling (Enter id) acted e =
    subst (λ (own : Scenario). AllByRecursion (EntersBy own trace world.datagrams id) acted.lines) s.2.base.sound.same
    (said_of (EntersBy (scenario_of world) trace world.datagrams id) (act world (Enter id)) acted
    (enter_says scenario trace world s branched tabling id) e)
act_enters scenario trace world s branched tabling (Tick ticks) acted e = tt
act_enters scenario trace world s branched tabling (Timers n) acted e = tt
act_enters scenario trace world s branched tabling (Move own u n count) acted e = tt
act_enters scenario trace world s branched tabling (Lose own a b) acted e = tt
act_enters scenario trace world s branched tabling (Notice own a b) acted e = tt
act_enters scenario trace world s branched tabling (RaiseFirst own a b) acted e = tt
act_enters scenario trace world s branched tabling (RaiseSecond own a b) acted e = tt
act_enters scenario trace world s branched tabling (Restart n) acted e = tt
act_enters scenario trace world s branched tabling (At n call) acted e = tt
act_enters scenario trace world s branched tabling (Land a b place) acted e = tt
act_enters scenario trace world s branched tabling (Drop a b place) acted e = tt
act_enters scenario trace world s branched tabling Tell acted e = tt
act_enters scenario trace world s branched tabling (SetCost a b cost) acted e = tt
act_enters scenario trace world s branched tabling (Reroute n) acted e = tt

pub entering_kept : (scenario : Scenario) → KeepsAlso scenario (λ trace world. (Taking trace world × Branched trace world) × Tabling trace world)
    (Entering scenario)
entering_kept scenario = record {
  single = λ before number world one acted s sound fit e t k l.
      let same : acted.world.datagrams ≡ world.datagrams =
      given_by (HasThose world.datagrams) (act world one) acted (act_those world.datagrams one world refl) e in
      subst (λ (ds : List Datagram). EntersMay scenario ds (before ++ stepped number one acted ∷ [])) (sym same)
      (each_next (EnterStep scenario world.datagrams) before (stepped number one acted) l (act_enters scenario before world s k.0.1 k.1 one acted e));
  pair = λ before number world session first second declared s off back e g t k l.
      let one : Traced = stepped number (RaiseFirst session.kind session.a session.b) first in
      let two : Traced = stepped number (RaiseSecond session.kind session.a session.b) second in
      let same : first.world.datagrams ≡ world.datagrams =
      given_by (HasThose world.datagrams) (act world (RaiseFirst session.kind session.a session.b)) first
      (act_those world.datagrams (RaiseFirst session.kind session.a session.b) world refl) e in
      let last : second.world.datagrams ≡ world.datagrams =
      given_by (HasThose world.datagrams) (act first.world (RaiseSecond session.kind session.a session.b)) second
      (act_those world.datagrams (RaiseSecond session.kind session.a session.b) first.world same) g in
      subst (λ (ds : List Datagram). EntersMay scenario ds (before ++ one ∷ two ∷ [])) (sym last)
      (subst (EntersMay scenario world.datagrams) (append_assoc before (one ∷ []) (two ∷ []))
      (each_next (EnterStep scenario world.datagrams) (before ++ one ∷ []) two (each_next (EnterStep scenario world.datagrams) before one l tt)
      tt));
  accepted =
      λ before world datagram s k l b after step e. step_more scenario world.datagrams (datagram ∷ []) b step.happened.act step.happened.lines
      (l b after step e);
  refused = λ before number world line reason k l. each_next (EnterStep scenario world.datagrams) before (refused_step number line reason) l tt;
}

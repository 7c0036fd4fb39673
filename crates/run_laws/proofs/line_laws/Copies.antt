-- Lines of copies that land, and of datagrams that enter, name what is there: datagrams leave at interfaces of the scenario, and branches
-- lead along its links.
use Rattle.std.proofs.Common.{◌≡◌, ◌<◌, ◌-◌, ◌++◌, ◌&&◌, nat_le, ℕ, cond, map, filter, slice_get, length, List, [], ◌∷◌, Option, None, Some, refl, subst}
use Rattle.std.specs.List.{AllByRecursion, flat_map}
use Rattle.std.specs.FinMap as maps
use Rattle.std.specs.FinSet as sets
use Rattle.std.proofs.lemmas.Bool.{cond_both}
use Rattle.std.proofs.lemmas.Option.{slice_get_within}
use Rattle.mv_base.specs.declared.addr.Addr.{Addr}
use Rattle.mv_base.specs.declared.ids.IfaceId.{IfaceId}
use Rattle.mv_base.specs.declared.ids.NodeId.{NodeId}
use Rattle.mv_base.specs.declared.ids.SiteId.{SiteId}
use Rattle.mv_base.specs.declared.ids.VrfId.{VrfId}
use Rattle.mldp.specs.declared.mldp_fec.fec.Fec.{Fec}
use Rattle.scenario_defs.proofs.RuleLemmas.{vrf_rules_at}
use Rattle.scenario_defs.specs.Text.{IsLineOf}
use Rattle.scenario_defs.specs.declared.report.ReportLine.{ReportLine}
use Rattle.scenario_defs.specs.declared.report.ReportLine.TheVariants as lines
use Rattle.scenario_defs.specs.declared.scenario.Scenario.{Scenario}
use Rattle.scenario_defs.specs.declared.scenario.Vrf.{Vrf}
use Rattle.label_defs.specs.LabelData.{LabelData, use_of, branches_of}
use Rattle.label_defs.specs.declared.branch.Branch.{Branch}
use Rattle.network_defs.specs.edge_defs.Datagrams.{Fate, discarded, is_from_site, is_outside, entering_fate, is_imported_from, is_from_edge, outs_from, outs_at, outs_of, tree_of}
use Rattle.network_defs.specs.edge_defs.Edge.{Control, EdgeData, Taken}
use Rattle.network_defs.specs.edge_defs.Flows.{asking_ifaces}
use Rattle.network_defs.specs.edge_defs.Place.{EdgePlace, OwnVrf, own_vrfs}
use Rattle.network_defs.specs.edge_defs.Tunnels.{transmit_tunnel, is_joined_in}
use Rattle.network_defs.specs.edge_defs.Upstream.{upstream_for}
use Rattle.network_defs.specs.Acts.{Enter, Land, hop_line, fated, datagram_at, enters_at, entering, fate_at, with_ttl, landed, without_copy, landing, act}
use Rattle.network_defs.specs.Nodes.{NodeState, Edge, CoreNode, place_of, part_of}
use Rattle.network_defs.specs.World.{World, Datagram, LinkCopy, scenario_of, clock_of}
use Rattle.delivery_laws.specs.network_laws.Sound.{SoundScenario}
use Rattle.delivery_laws.proofs.network_laws.Lists.{each_append, each_of, each_map, each_flat, each_filter, each_weaker}
use Rattle.delivery_laws.proofs.network_laws.RunNodes.{IsNode}
use Rattle.rule_laws.proofs.Admits.{IsIfaceOf, asking_are}
use Rattle.delivery_laws.specs.Linked.{HasLinks, NodesLinked}
use Rattle.delivery_laws.proofs.Listed.{each_of_tree}
use Rattle.run_laws.proofs.line_laws.Outcomes.{AreNamed, Says}
use Rattle.run_laws.proofs.line_laws.Sessions.{link_within}

module _ (scenario : Scenario) (sound : SoundScenario scenario) where
  -- ---- interfaces

  abbrev IsIface : IfaceId → Type 0
  IsIface iface = iface.0 < length scenario.ifaces

  asking_within : (place : EdgePlace) → place.scenario ≡ scenario → (now : ℕ) (control : Control) (own : OwnVrf) (source group : Addr)
      → AllByRecursion IsIface (asking_ifaces place now control own source group)
  asking_within place same now control own source group =
      each_weaker (IsIfaceOf place.scenario own.id) IsIface
      (λ iface is. subst (λ (s : Scenario). iface.0 < length s.ifaces) same (slice_get_within place.scenario.ifaces iface.0 is.0 is.1))
      (asking_ifaces place now control own source group)
      (asking_are place now control own source group)

  outs_within : (place : EdgePlace) → place.scenario ≡ scenario → (now : ℕ) (edge : EdgeData) (fec : Fec) (source group : Addr)
      → AllByRecursion IsIface (outs_of place now edge fec source group)
  outs_within place same now edge fec source group =
      cond_both (sets.contains edge.part.leaves fec) (flat_map (outs_at place now edge.control fec source group) (own_vrfs place)) []
      (AllByRecursion IsIface)
      (λ t. each_flat IsIface (outs_at place now edge.control fec source group) (own_vrfs place)
      (each_of (λ own. AllByRecursion IsIface (outs_at place now edge.control fec source group own)) at (own_vrfs place)))
      (λ f. tt)
    where
      from : (own : OwnVrf) (peer : NodeId × Taken) → AllByRecursion IsIface (outs_from place now edge.control own fec source group peer)
      from own peer =
          cond_both (is_imported_from place own fec peer && is_from_edge peer.0 (upstream_for place edge.control own source group))
          (asking_ifaces place now edge.control own source group) [] (AllByRecursion IsIface)
          (λ t. asking_within place same now edge.control own source group) (λ f. tt)

      at : (own : OwnVrf) → AllByRecursion IsIface (outs_at place now edge.control fec source group own)
      at own =
          each_flat IsIface (outs_from place now edge.control own fec source group) (maps.entries edge.control.peers)
          (each_of (λ peer. AllByRecursion IsIface (outs_from place now edge.control own fec source group peer)) (from own)
          (maps.entries edge.control.peers))

  -- ---- fates

  abbrev LeadsToNode : Branch → Type 0
  LeadsToNode branch = IsNode scenario branch.node

  -- where a datagram goes is there
  abbrev IsThere : Fate → Type 0
  IsThere fate = AllByRecursion IsIface fate.outs × AllByRecursion LeadsToNode fate.branches

  tree_within : (n : NodeId) (part : LabelData) → HasLinks scenario n part → (fec : Fec) → AllByRecursion LeadsToNode (branches_of part fec)
  tree_within n part linked fec = each_of_tree LeadsToNode part (λ branch is. (link_within scenario sound n branch.node (linked branch is)).1) fec

  arriving_within : (n : NodeId) (part : LabelData) → HasLinks scenario n part → (outs : Fec → List IfaceId)
      → ((fec : Fec) → AllByRecursion IsIface (outs fec))
      → (o : Option Fec) → IsThere (elim o [ None ↦ discarded | Some fec ↦ record { outs = outs fec; branches = branches_of part fec } ])
  arriving_within n part linked outs h None = (tt, tt)
  arriving_within n part linked outs h (Some fec) = (h fec, tree_within n part linked fec)

  ttl_within : (ttl : ℕ) (fate : Fate) → IsThere fate → IsThere (with_ttl ttl fate)
  ttl_within ttl fate h = cond_both (nat_le ttl 1) (record fate { branches = [] }) fate IsThere (λ t. (h.0, tt)) (λ f. h)

  entering_within : (place : EdgePlace) → place.scenario ≡ scenario → (now : ℕ) (edge : EdgeData) (own : OwnVrf)
      → HasLinks scenario own.vrf.edge edge.part → (site : SiteId) (source group : Addr)
      → IsThere (entering_fate place now edge own site source group)
  entering_within place same now edge own linked site source group =
      let outs = filter (is_outside place.scenario site) (asking_ifaces place now edge.control own source group) in
      let branches = branches_of edge.part (transmit_tunnel place edge.control own source group) in
      let joined = is_joined_in place edge.control own source group in
      cond_both (is_from_site site (upstream_for place edge.control own source group)) (record { outs = outs; branches = cond joined branches [] })
      discarded IsThere
      (λ t. (
        each_filter IsIface (is_outside place.scenario site) (asking_ifaces place now edge.control own source group)
            (asking_within place same now edge.control own source group),
        cond_both joined branches [] (AllByRecursion LeadsToNode)
            (λ j. tree_within own.vrf.edge edge.part linked (transmit_tunnel place edge.control own source group)) (λ j. tt),
      ))
      (λ f. (tt, tt))

  -- ---- lines

  fated_named : (world : World) (node : NodeId) → IsNode scenario node → (ttl number : ℕ) (octets : List ℕ) (before : List ReportLine)
      → AreNamed scenario before → (fate : Fate) → IsThere fate → AreNamed scenario (fated world node ttl number octets before fate).lines
  fated_named world node n ttl number octets before b fate h =
      let outs = map (λ iface. lines.Out number iface octets) fate.outs in
      let hops = map (hop_line node ttl number) fate.branches in
      each_append (IsLineOf scenario) before (outs ++ hops) b
      (each_append (IsLineOf scenario) outs hops (each_map (IsLineOf scenario) (λ iface. lines.Out number iface octets) fate.outs h.0)
      (each_map (IsLineOf scenario) (hop_line node ttl number) fate.branches
      (each_weaker LeadsToNode (λ branch. IsLineOf scenario (hop_line node ttl number branch)) (λ branch leads. (n, leads)) fate.branches h.1)))

  module _ (world : World) (linked : NodesLinked scenario world.network.state) where
    fate_within : (old : World) → scenario_of old ≡ scenario → (n : NodeId) (state : NodeState) → HasLinks scenario n (part_of state)
        → (from : NodeId) (label : ℕ) (datagram : Datagram) → IsThere (fate_at old n state from label datagram)
    fate_within old same n (CoreNode part) h from label datagram = arriving_within n part h (λ fec. []) (λ fec. tt) (tree_of from (use_of part label))
    fate_within old same n (Edge edge) h from label datagram =
        let outs = λ (fec : Fec). outs_of (place_of old.network.state n) (clock_of old) edge fec datagram.source datagram.group in
        arriving_within n edge.part h outs (λ fec. outs_within (place_of old.network.state n) same (clock_of old) edge fec datagram.source
        datagram.group) (tree_of from (use_of edge.part label))

    pub land_says : (from to : NodeId) → IsNode scenario from → IsNode scenario to → (place : ℕ) → Says scenario (act world (Land from to place))
    land_says from to f t place = by (slice_get (world.copies from to) (place - 1))
      where
        gone : World
        gone = without_copy world from to place

        found : (copy : LinkCopy) (o : Option Datagram) → AreNamed scenario (landed gone from to copy o).lines
        found copy None = tt
        found copy (Some datagram) =
            let fate = fate_at gone to (world.network.state.node to) from copy.label datagram in
            fated_named gone to t (copy.ttl - 1) copy.number datagram.octets (lines.Land from to copy.label copy.number ∷ []) ((f, t), tt)
            (with_ttl copy.ttl fate)
            (ttl_within copy.ttl fate (fate_within gone linked.place to (world.network.state.node to) (linked.links to) from copy.label datagram))

        by : (o : Option LinkCopy) → AreNamed scenario (landing world from to place o).lines
        by None = tt
        by (Some copy) = found copy (datagram_at world copy.number)

    pub enter_says : (id : VrfId) → Says scenario (act world (Enter id))
    enter_says id = by (slice_get (scenario_of world).vrfs id.0) refl (datagram_at world (length world.datagrams))
      where
        within : (vrf : Vrf) → slice_get (scenario_of world).vrfs id.0 ≡ Some vrf → IsNode scenario vrf.edge
        within vrf at =
            let edge =
            (vrf_rules_at scenario sound.rules id.0 vrf (subst (λ (own : Scenario). slice_get own.vrfs id.0 ≡ Some vrf) linked.place at)).edge in
            slice_get_within scenario.nodes vrf.edge.0 edge.node edge.at

        enters : (vrf : Vrf) → IsNode scenario vrf.edge → (state : NodeState) → HasLinks scenario vrf.edge (part_of state) → (datagram : Datagram)
            → AreNamed scenario (enters_at world (record { id = id; vrf = vrf }) state datagram).lines
        enters vrf n (CoreNode part) h datagram = tt
        enters vrf n (Edge edge) h datagram =
            let own : OwnVrf = record { id = id; vrf = vrf } in
            let place : EdgePlace = place_of world.network.state vrf.edge in
            fated_named world vrf.edge n 255 (length world.datagrams) datagram.octets [] tt
            (entering_fate place (clock_of world) edge own datagram.site datagram.source datagram.group)
            (entering_within place linked.place (clock_of world) edge own h datagram.site datagram.source datagram.group)

        by : (v : Option Vrf) → slice_get (scenario_of world).vrfs id.0 ≡ v → (o : Option Datagram) → AreNamed scenario (entering world id v o).lines
        by None at o = tt
        by (Some vrf) at None = tt
        by (Some vrf) at (Some datagram) = enters vrf (within vrf at) (world.network.state.node vrf.edge) (linked.links vrf.edge) datagram

-- In each run a copy that lands and goes on does so for one tree, and leaves at interfaces that may be reached from it.
use Rattle.std.specs.Prelude.{⊤, Result, Ok, Err, nat_le}
use Rattle.std.proofs.Common.{◌≡◌, ◌≢◌, ◌⊎◌, inl, inr, ◌-◌, ◌&&◌, ℕ, Bool, true, false, cond, map, flat_map, slice_get, is_some, List, [], ◌∷◌, ◌++◌, Option, Some, None, refl, sym, ap, subst, ◌∙◌}
use Rattle.std.specs.FinMap as maps
use Rattle.std.specs.FinSet as sets
use Rattle.std.specs.List.{AllByRecursion, list_any}
use Rattle.std.proofs.lemmas.Bool.{and_parts}
use Rattle.std.proofs.lemmas.List.{append_assoc, append-nil}
use Rattle.std.proofs.lemmas.Option.{same_Some, none-some}
use Rattle.mv_base.proofs.CutLemmas.{if_some}
use Rattle.mv_base.specs.Address.{same_addr, same_addr_equal}
use Rattle.mv_base.specs.Number.{◌>>?◌, only_if}
use Rattle.mv_base.specs.declared.addr.Addr.{Addr}
use Rattle.mv_base.specs.declared.ids.IfaceId.{IfaceId}
use Rattle.mv_base.specs.declared.ids.NodeId.{NodeId}
use Rattle.mldp.specs.declared.mldp_fec.fec.Fec.{Fec}
use Rattle.bgp_values.specs.declared.mvpn_nlri.route.Afi.{Afi}
use Rattle.bgp_values.specs.declared.mvpn_nlri.route.Afi.TheVariants.{Ipv4, Ipv6}
use Rattle.bgp_values.specs.declared.mvpn_nlri.route.Route.TheVariants as routes
use Rattle.bgp_messages.specs.declared.bgp_attributes.key.Key.{Key}
use Rattle.bgp_messages.specs.declared.bgp_attributes.key.Key.TheVariants.{Mcast, Unicast}
use Rattle.mv_base.specs.declared.pattern.Pattern.{Pattern}
use Rattle.mv_base.specs.declared.route_targets.communities.ExtComm.{ExtComm}
use Rattle.scenario_defs.specs.declared.report.ReportLine.{ReportLine}
use Rattle.scenario_defs.specs.declared.report.ReportLine.TheVariants as lines
use Rattle.scenario_defs.specs.declared.scenario.Scenario.{Scenario}
use Rattle.scenario_defs.specs.declared.scenario.Vrf.{Vrf}
use Rattle.selective_defs.specs.Selective.{Among}
use Rattle.label_defs.specs.LabelData.{use_of, branches_of}
use Rattle.label_defs.specs.declared.branch.Branch.{Branch}
use Rattle.label_defs.proofs.KeyLemmas.{same_fec_equal}
use Rattle.label_defs.proofs.SettleLemmas.{bind_some}
use Rattle.edge_defs.specs.Datagrams.{Fate, discarded, is_tunnel, selective_fec, is_route_of, is_imported_from, is_from_edge, tree_of, outs_from, outs_at, outs_of}
use Rattle.edge_defs.specs.Edge.{TakenRoute, Taken, EdgeData}
use Rattle.edge_defs.specs.Flows.{asking_ifaces}
use Rattle.edge_defs.specs.Imported.{is_admitted, lsp_of, tunnel_by, selective_of, taken_from, imported_inclusive, ImportedSelective, imported_selective}
use Rattle.edge_defs.specs.Keys.{Value}
use Rattle.edge_defs.specs.Place.{EdgePlace, OwnVrf, addr_of, own_vrfs}
use Rattle.edge_defs.specs.Upstream.{upstream_for}
use Rattle.edge_defs.proofs.KeyLemmas.{key_total}
use Rattle.rule_laws.proofs.edge_words.calm_laws.Lists.{any_among}
use Rattle.rule_laws.proofs.edge_words.calm_laws.Maps.{entry_get}
use Rattle.rule_laws.proofs.edge_words.calm_laws.Tables.{peer_table}
use Rattle.rule_laws.proofs.edge_words.calm_laws.Vrfs.{own_at, own_edge}
use Rattle.network_defs.specs.Acts.{Act, Tick, Timers, Move, Lose, Notice, RaiseFirst, RaiseSecond, Restart, At, Enter, Land, Drop, Tell, SetCost, Reroute, Acted, hop_line, datagram_at, fate_at, with_ttl, landed, without_copy, landing, act}
use Rattle.network_defs.specs.LabelRule.{part_at}
use Rattle.network_defs.specs.Local.{goes_on, is_up_in, put_since, MayHop, HopsOf, MayDeliver, OutsOf, MayLand}
use Rattle.network_defs.specs.Nodes.{NodeState, Edge, CoreNode, place_of, part_of}
use Rattle.network_defs.specs.Refusals.{control_of}
use Rattle.network_defs.specs.Run.{Traced}
use Rattle.network_defs.specs.World.{World, Datagram, LinkCopy, scenario_of, clock_of}
use Rattle.network_laws.proofs.Lists.{each_append, each_flat, each_map, each_of, each_weaker}
use Rattle.rule_laws.proofs.Acts.{InStep}
use Rattle.rule_laws.proofs.Admits.{all_of_among, IsIfaceOf, asking_are}
use Rattle.mv_base.specs.framing.Units.{octets_of}
use Rattle.mldp.specs.mldp_msgs.Labels.{HasLabel}
use Rattle.scenario_defs.specs.declared.event.Kind.TheVariants as kinds
use Rattle.label_defs.specs.declared.end.End.{End}
use Rattle.label_defs.specs.declared.label_use.LabelUse.TheVariants as uses
use Rattle.label_laws.specs.Rule.{is_held, end_of}
use Rattle.rule_laws.proofs.Acts.{IsFit}
use Rattle.rule_laws.proofs.Outs.{mapped_towards, said_of}
use Rattle.license_laws.specs.Lands.{LandMay, LandsMay}
use Rattle.license_laws.proofs.Ending.{Ending, ends_as}
use Rattle.license_laws.proofs.Heard.{nothing_waits}
use Rattle.license_laws.proofs.Said.{Said}
use Rattle.license_laws.proofs.Also.{KeepsAlso, each_next, refused_step}
use Rattle.license_laws.proofs.Branched.{Branched, may_hop, has_label}
use Rattle.license_laws.proofs.Follows.{stepped}
use Rattle.license_laws.proofs.Hops.{Stays, none_goes, plain_stays, IsBranchOf, tree_branches}
use Rattle.rule_laws.proofs.Plain.{IsPlain}
use Rattle.license_laws.proofs.Tabled.{Tabling, taken_route}
use Rattle.license_laws.proofs.Taking.{Taking}

-- ---- routes of tunnels

-- the route is one of type 1 or 3, admitted, of the tunnel, whose root is the peer
record IsTunnelRoute (scenario : Scenario) (vrf : Vrf) (peer : NodeId) (fec : Fec) (key : Key) (value : Value) : Type 0 where
  afi : Afi
  of_tunnel : ((rd : _) × (originator : _) × (key ≡ Mcast afi (routes.Intra rd originator)))
      ⊎ ((rd : _) × (pattern : Pattern) × (originator : _) × (key ≡ Mcast afi (routes.Selective rd pattern.source pattern.group originator)))
  admitted : is_admitted vrf value.comms ≡ true
  tunnel : lsp_of value.pmsi ≡ Some fec
  at_root : fec.root ≡ addr_of scenario peer

record ByTunnel (vrf : Vrf) (peer : Addr) (value : Value) (fec : Fec) : Type 0 where
  admitted : is_admitted vrf value.comms ≡ true
  tunnel : lsp_of value.pmsi ≡ Some fec
  root : fec.root ≡ peer

by_tunnel : (vrf : Vrf) (peer originator : Addr) (own value : Value) (fec : Fec) → only_if (is_admitted vrf own.comms) own ≡ Some value
    → tunnel_by peer originator value ≡ Some fec → ByTunnel vrf peer own fec
by_tunnel vrf peer originator own value fec a e =
    let x = if_some (is_admitted vrf own.comms) own value a in
    let y = bind_some (lsp_of value.pmsi) (λ found. only_if (same_addr found.root peer && same_addr originator peer) found) fec e in
    let z = if_some (same_addr y.0.root peer && same_addr originator peer) y.0 fec y.2 in
    record {
      admitted = x.0;
      tunnel = ap (λ (v : Value). lsp_of v.pmsi) x.1 ∙ y.1 ∙ ap (λ (f : Fec). Some f) z.1;
      root =
          ap (λ (f : Fec). f.root) (sym z.1) ∙ same_addr_equal y.0.root peer (and_parts (same_addr y.0.root peer) (same_addr originator peer) z.0).0;
    }

inclusive_is : (scenario : Scenario) (vrf : Vrf) (peer : NodeId) (key : Key) (route : TakenRoute) (fec : Fec)
    → imported_inclusive vrf (addr_of scenario peer) (key, route) ≡ Some fec → IsTunnelRoute scenario vrf peer fec key route.value
inclusive_is scenario vrf peer (Mcast Ipv4 (routes.Intra rd originator)) route fec e =
    let y = bind_some (only_if (is_admitted vrf route.value.comms) route.value) (λ found. tunnel_by (addr_of scenario peer) originator found) fec e in
    let b = by_tunnel vrf (addr_of scenario peer) originator route.value y.0 fec y.1 y.2 in
    record { afi = Ipv4; of_tunnel = inl (rd, originator, refl); admitted = b.admitted; tunnel = b.tunnel; at_root = b.root }
inclusive_is scenario vrf peer (Mcast Ipv6 (routes.Intra rd originator)) route fec e = absurd (none-some fec e)
inclusive_is scenario vrf peer (Unicast rd prefix) route fec e = absurd (none-some fec e)
inclusive_is scenario vrf peer (Mcast Ipv4 (routes.Inter rd source_as)) route fec e = absurd (none-some fec e)
inclusive_is scenario vrf peer (Mcast Ipv6 (routes.Inter rd source_as)) route fec e = absurd (none-some fec e)
inclusive_is scenario vrf peer (Mcast Ipv4 (routes.Selective rd source group originator)) route fec e = absurd (none-some fec e)
inclusive_is scenario vrf peer (Mcast Ipv6 (routes.Selective rd source group originator)) route fec e = absurd (none-some fec e)
inclusive_is scenario vrf peer (Mcast Ipv4 (routes.Leaf key originator)) route fec e = absurd (none-some fec e)
inclusive_is scenario vrf peer (Mcast Ipv6 (routes.Leaf key originator)) route fec e = absurd (none-some fec e)
inclusive_is scenario vrf peer (Mcast Ipv4 (routes.Active rd source group)) route fec e = absurd (none-some fec e)
inclusive_is scenario vrf peer (Mcast Ipv6 (routes.Active rd source group)) route fec e = absurd (none-some fec e)
inclusive_is scenario vrf peer (Mcast Ipv4 (routes.SharedJoin rd source_as source group)) route fec e = absurd (none-some fec e)
inclusive_is scenario vrf peer (Mcast Ipv6 (routes.SharedJoin rd source_as source group)) route fec e = absurd (none-some fec e)
inclusive_is scenario vrf peer (Mcast Ipv4 (routes.SourceJoin rd source_as source group)) route fec e = absurd (none-some fec e)
inclusive_is scenario vrf peer (Mcast Ipv6 (routes.SourceJoin rd source_as source group)) route fec e = absurd (none-some fec e)
inclusive_is scenario vrf peer (Mcast Ipv4 (routes.Other kind octets)) route fec e = absurd (none-some fec e)
inclusive_is scenario vrf peer (Mcast Ipv6 (routes.Other kind octets)) route fec e = absurd (none-some fec e)

selective_is : (scenario : Scenario) (vrf : Vrf) (peer : NodeId) (key : Key) (route : TakenRoute) (imported : ImportedSelective)
    → imported_selective vrf (addr_of scenario peer) (key, route) ≡ Some imported → IsTunnelRoute scenario vrf peer imported.fec key route.value
selective_is scenario vrf peer (Mcast afi (routes.Selective rd source group originator)) route imported e =
    let value : Value = route.value in
    let addr : Addr = addr_of scenario peer in
    let key : Key = Mcast afi (routes.Selective rd source group originator) in
    let x = bind_some (selective_of key) (λ own. only_if (is_admitted vrf value.comms) value >>? λ found. tunnel_by addr own.originator found >>?
    λ fec. Some (record { route = own; fec = fec })) imported e in
    let y = bind_some (only_if (is_admitted vrf value.comms) value)
    (λ found. tunnel_by addr x.0.originator found >>? λ fec. Some (record { route = x.0; fec = fec })) imported x.2 in
    let z = bind_some (tunnel_by addr x.0.originator y.0) (λ fec. Some (record { route = x.0; fec = fec })) imported y.2 in
    let same : z.0 ≡ imported.fec = ap (λ (i : ImportedSelective). i.fec) (same_Some (record { route = x.0; fec = z.0 }) imported z.2) in
    let b = by_tunnel vrf addr x.0.originator value y.0 z.0 y.1 z.1 in
    subst (λ (f : Fec). IsTunnelRoute scenario vrf peer f key value) same
    (record {
      afi = afi;
      of_tunnel = inr (rd, record { source = source; group = group }, originator, refl);
      admitted = b.admitted;
      tunnel =
          b.tunnel;
      at_root = b.root;
    })
selective_is scenario vrf peer (Unicast rd prefix) route imported e = absurd (none-some imported e)
selective_is scenario vrf peer (Mcast afi (routes.Intra rd originator)) route imported e = absurd (none-some imported e)
selective_is scenario vrf peer (Mcast afi (routes.Inter rd source_as)) route imported e = absurd (none-some imported e)
selective_is scenario vrf peer (Mcast afi (routes.Leaf key originator)) route imported e = absurd (none-some imported e)
selective_is scenario vrf peer (Mcast afi (routes.Active rd source group)) route imported e = absurd (none-some imported e)
selective_is scenario vrf peer (Mcast afi (routes.SharedJoin rd source_as source group)) route imported e = absurd (none-some imported e)
selective_is scenario vrf peer (Mcast afi (routes.SourceJoin rd source_as source group)) route imported e = absurd (none-some imported e)
selective_is scenario vrf peer (Mcast afi (routes.Other kind octets)) route imported e = absurd (none-some imported e)

is_one : (scenario : Scenario) (vrf : Vrf) (peer : NodeId) (fec : Fec) (key : Key) (value : Value) (o : Option Fec)
    → ((own : Fec) → o ≡ Some own → IsTunnelRoute scenario vrf peer own key value) → is_tunnel fec o ≡ true
    → IsTunnelRoute scenario vrf peer fec key value
is_one scenario vrf peer fec key value None h e = absurd cc
is_one scenario vrf peer fec key value (Some own) h e =
    subst (λ (f : Fec). IsTunnelRoute scenario vrf peer f key value) (same_fec_equal own fec e) (h own refl)

route_is : (place : EdgePlace) (own : OwnVrf) (peer : NodeId) (fec : Fec) (entry : Key × TakenRoute) → is_route_of place own peer fec entry ≡ true
    → IsTunnelRoute place.scenario own.vrf peer fec entry.0 entry.1.value
route_is place own peer fec entry e = by (is_tunnel fec (imported_inclusive own.vrf (addr_of place.scenario peer) entry)) refl e
  where
    selected : (o : Option ImportedSelective) → imported_selective own.vrf (addr_of place.scenario peer) entry ≡ o → (f : Fec)
        → selective_fec o ≡ Some f → IsTunnelRoute place.scenario own.vrf peer f entry.0 entry.1.value
    selected None is f h = absurd (none-some f h)
    selected (Some imported) is f h =
        subst (λ (g : Fec). IsTunnelRoute place.scenario own.vrf peer g entry.0 entry.1.value) (same_Some imported.fec f h)
        (selective_is place.scenario own.vrf peer entry.0 entry.1 imported is)

    by : (b : Bool) → is_tunnel fec (imported_inclusive own.vrf (addr_of place.scenario peer) entry) ≡ b
        → cond b true (is_tunnel fec (selective_fec (imported_selective own.vrf (addr_of place.scenario peer) entry))) ≡ true
        → IsTunnelRoute place.scenario own.vrf peer fec entry.0 entry.1.value
    by true t h =
        is_one place.scenario own.vrf peer fec entry.0 entry.1.value (imported_inclusive own.vrf (addr_of place.scenario peer) entry)
        (λ f is. inclusive_is place.scenario own.vrf peer entry.0 entry.1 f is) t
    by false t h =
        is_one place.scenario own.vrf peer fec entry.0 entry.1.value (selective_fec (imported_selective own.vrf (addr_of place.scenario peer) entry))
        (λ f is. selected (imported_selective own.vrf (addr_of place.scenario peer) entry) refl f is) h

-- ---- interfaces

module _ (trace : List Traced) (world : World) (branched : Branched trace world) (tabling : Tabling trace world) where
  abbrev May : NodeId → Fec → IfaceId → Type 0
  May n fec iface = MayDeliver (scenario_of world) trace n fec iface

  outs_may : (n : NodeId) (now : ℕ) (edge : EdgeData) (fec : Fec) (source group : Addr) → world.network.state.node n ≡ Edge edge
      → AllByRecursion (λ iface. MayDeliver (scenario_of world) trace n fec iface)
      (outs_of (place_of world.network.state n) now edge fec source group)
  outs_may n now edge fec source group is = by (sets.contains edge.part.leaves fec)
    where
      place : EdgePlace
      place = place_of world.network.state n

      from_peer : (own : OwnVrf) → Among own (own_vrfs (place_of world.network.state n)) → (peer : NodeId × Taken)
          → Among peer (maps.entries edge.control.peers)
          → AllByRecursion (λ iface. MayDeliver (scenario_of world) trace n fec iface)
          (outs_from (place_of world.network.state n) now edge.control own fec source group peer)
      from_peer own a peer b =
          at (is_imported_from (place_of world.network.state n) own fec peer
          && is_from_edge peer.0 (upstream_for (place_of world.network.state n) edge.control own source group)) refl
        where
          at : (c : Bool) → (is_imported_from (place_of world.network.state n) own fec peer
              && is_from_edge peer.0 (upstream_for (place_of world.network.state n) edge.control own source group)) ≡ c
              → AllByRecursion (λ iface. MayDeliver (scenario_of world) trace n fec iface)
              (cond c (asking_ifaces (place_of world.network.state n) now edge.control own source group) [])
          at false e = tt
          at true e =
              let imported =
              (and_parts (is_imported_from place own fec peer) (is_from_edge peer.0 (upstream_for place edge.control own source group)) e).0 in
              let entry = any_among (is_route_of place own peer.0 fec) (maps.entries peer.1) imported in
              let table : taken_from edge.control peer.0 ≡ peer.1 = peer_table edge.control peer.0 peer.1 b in
              let held : maps.get (taken_from edge.control peer.0) entry.0.0 ≡ Some entry.0.1 =
              ap (λ (m : Taken). maps.get m entry.0.0) table ∙ entry_get key_total peer.1 entry.0.0 entry.0.1 entry.1 in
              let route =
              taken_route trace world tabling peer.0 n entry.0.0 entry.0.1
              (ap (λ (state : NodeState). maps.get (taken_from (control_of state) peer.0) entry.0.0) is ∙ held) in
              let t = route_is place own peer.0 fec entry.0 entry.2 in
              let n_is : own.vrf.edge ≡ n = (λ i. record { 0 = own_edge place own a i }) in
              each_weaker (IsIfaceOf (scenario_of world) own.id) (λ iface. MayDeliver (scenario_of world) trace n fec iface) (λ iface of. record {
                own = of.0;
                known = of.1;
                vrf = own.vrf;
                of_vrf = ap (slice_get (scenario_of world).vrfs) of.2 ∙ own_at place own a;
                at_edge = n_is;
                root = peer.0;
                at_root = t.at_root;
                afi = t.afi;
                key = entry.0.0;
                of_tunnel = t.of_tunnel;
                advert = route.advert;
                taken = route.taken;
                tunnel = ap lsp_of route.pmsi ∙ t.tunnel;
                admitted = ap (λ (comms : List ExtComm). is_admitted own.vrf comms) route.comms ∙ t.admitted;
              }) (asking_ifaces place now edge.control own source group) (asking_are place now edge.control own source group)

      by : (b : Bool) → AllByRecursion (λ iface. MayDeliver (scenario_of world) trace n fec iface)
          (cond b (flat_map (outs_at (place_of world.network.state n) now edge.control fec source group) (own_vrfs (place_of world.network.state n)))
          [])
      by false = tt
      by true =
          each_flat (λ iface. MayDeliver (scenario_of world) trace n fec iface) (outs_at place now edge.control fec source group) (own_vrfs place)
          (all_of_among (λ (own : OwnVrf). AllByRecursion (λ iface. MayDeliver (scenario_of world) trace n fec iface)
          (outs_at place now edge.control fec source group own)) (own_vrfs place) (λ own a.
          each_flat (λ iface. MayDeliver (scenario_of world) trace n fec iface) (outs_from place now edge.control own fec source group)
          (maps.entries edge.control.peers)
          (all_of_among (λ (peer : NodeId × Taken). AllByRecursion (λ iface. MayDeliver (scenario_of world) trace n fec iface)
          (outs_from place now edge.control own fec source group peer)) (maps.entries edge.control.peers) (λ peer b. from_peer own a peer b))))

  -- ---- a copy that lands

  -- where a copy of a tree goes: nowhere, or on the tree
  record Goes (n : NodeId) (fate : Fate) (fec : Fec) : Type 0 where
    outs : AllByRecursion (λ iface. MayDeliver (scenario_of world) trace n fec iface) fate.outs
    branches : AllByRecursion (IsBranchOf (part_at world n) fec) fate.branches

  fate_lines : (n : NodeId) (ttl number : ℕ) (bytes : List ℕ) (fate : Fate) (fec : Fec) → Goes n fate fec
      → AllByRecursion (HopsOf trace n fec) (map (λ iface. lines.Out number iface bytes) fate.outs ++ map (hop_line n ttl number) fate.branches)
      × AllByRecursion (OutsOf (scenario_of world) trace n fec)
      (map (λ iface. lines.Out number iface bytes) fate.outs ++ map (hop_line n ttl number) fate.branches)
  fate_lines n ttl number bytes fate fec g = (
    each_append (HopsOf trace n fec) (map (λ iface. lines.Out number iface bytes) fate.outs) (map (hop_line n ttl number) fate.branches)
        (each_map (HopsOf trace n fec) (λ iface. lines.Out number iface bytes) fate.outs
        (each_of (λ (iface : IfaceId). Unit {0}) (λ iface. tt) fate.outs))
        (each_map (HopsOf trace n fec) (hop_line n ttl number) fate.branches
        (each_weaker (IsBranchOf (part_at world n) fec) (λ branch. HopsOf trace n fec (hop_line n ttl number branch))
        (λ branch b. (
          refl,
          subst (λ (f : Fec). MayHop trace n branch.node branch.label f) (same_fec_equal branch.fec fec b.1)
              (may_hop trace world branched n branch b.0),
        )) fate.branches g.branches)),
    each_append (OutsOf (scenario_of world) trace n fec) (map (λ iface. lines.Out number iface bytes) fate.outs)
        (map (hop_line n ttl number) fate.branches)
        (each_map (OutsOf (scenario_of world) trace n fec) (λ iface. lines.Out number iface bytes) fate.outs g.outs)
        (each_map (OutsOf (scenario_of world) trace n fec) (hop_line n ttl number) fate.branches
        (each_of (λ (branch : Branch). Unit {0}) (λ branch. tt) fate.branches)),
  )

  -- the label of the copy is mapped to the tree, in what the node put to the neighbour
  pub record Known (a b : NodeId) (label : ℕ) (fec : Fec) : Type 0 where
    pub up : is_up_in kinds.Ldp b a trace ≡ true
    pub mapped : HasLabel (put_since kinds.Ldp b a trace) fec label

  abbrev pub LandLines : NodeId → NodeId → ℕ → List ReportLine → Type 0
  LandLines a b label all = list_any goes_on all ≡ true → MayLand (scenario_of world) trace a b label all

  land_may : (a b : NodeId) (place : ℕ) (acted : Acted)
      → ((label : ℕ) (fec : Fec) → use_of (part_at world b) label ≡ Some (uses.Mapped fec a) → Known a b label fec)
      → act world (Land a b place) ≡ Ok acted → LandMay (scenario_of world) trace (Some (Land a b place)) acted.lines
  land_may a b place acted known e =
      given (act world (Land a b place)) acted e (by (slice_get (world.copies a b) (place - 1)))
    where
      gone : World
      gone = without_copy world a b place

      Lines : List ReportLine → Type 0
      Lines all = LandMay (scenario_of world) trace (Some (Land a b place)) all

      given : (o : Result Acted NodeId) (acted : Acted) → o ≡ Ok acted
          → (elim o as (λ _. Type 0) [ Ok new ↦ LandMay (scenario_of world) trace (Some (Land a b place)) new.lines | Err node ↦ ⊤ ])
          → LandMay (scenario_of world) trace (Some (Land a b place)) acted.lines
      given (Err node) acted e h = absurd cc
      given (Ok new) acted e h = let same : new ≡ acted = cc in
          subst (λ (x : Acted). LandMay (scenario_of world) trace (Some (Land a b place)) x.lines) same h

      knows : (state : NodeState) → world.network.state.node b ≡ state → (copy : LinkCopy) (fec : Fec)
          → tree_of a (use_of (part_of state) copy.label) ≡ Some fec → Known a b copy.label fec
      knows state is copy fec of =
          known copy.label fec (ap (λ (s : NodeState). use_of (part_of s) copy.label) is
          ∙ mapped_towards a (use_of (part_of state) copy.label) fec of)

      -- the lines of a fate, by the tree
      tree : (state : NodeState) → world.network.state.node b ≡ state → (copy : LinkCopy) (bytes : List ℕ) (o : Option Fec)
          → tree_of a (use_of (part_of state) copy.label) ≡ o → (outs : Fec → List IfaceId)
          → ((fec : Fec) → AllByRecursion (λ iface. MayDeliver (scenario_of world) trace b fec iface) (outs fec)) → (late : Bool)
          → LandLines a b copy.label ((λ (fate : Fate). map (λ iface. lines.Out copy.number iface bytes) fate.outs
          ++ map (hop_line b (copy.ttl - 1) copy.number) fate.branches)
          (cond late (record (elim o as (λ _. Fate)
          [ None ↦ discarded | Some fec ↦ record { outs = outs fec; branches = branches_of (part_of state) fec } ]) { branches = [] })
          (elim o as (λ _. Fate) [ None ↦ discarded | Some fec ↦ record { outs = outs fec; branches = branches_of (part_of state) fec } ])))
      tree state is copy bytes None of outs may true = λ t. absurd cc
      tree state is copy bytes None of outs may false = λ t. absurd cc
      tree state is copy bytes (Some fec) of outs may true = λ t.
          let k = knows state is copy fec of in
          let g = fate_lines b (copy.ttl - 1) copy.number bytes (record { outs = outs fec; branches = [] }) fec
          (record { outs = may fec; branches = tt }) in
          record { fec = fec; up = k.up; mapped = k.mapped; hops = g.0; outs = g.1 }
      tree state is copy bytes (Some fec) of outs may false = λ t.
          let k = knows state is copy fec of in
          let g = fate_lines b (copy.ttl - 1) copy.number bytes (record { outs = outs fec; branches = branches_of (part_of state) fec }) fec
          (record {
            outs = may fec;
            branches =
                subst (λ (s : NodeState). AllByRecursion (IsBranchOf (part_of s) fec) (branches_of (part_of state) fec)) (sym is)
                (tree_branches (part_of state) fec);
          }) in
          record { fec = fec; up = k.up; mapped = k.mapped; hops = g.0; outs = g.1 }

      at : (state : NodeState) → world.network.state.node b ≡ state → (copy : LinkCopy) (datagram : Datagram)
          → LandLines a b copy.label ((λ (fate : Fate). map (λ iface. lines.Out copy.number iface datagram.octets) fate.outs
          ++ map (hop_line b (copy.ttl - 1) copy.number) fate.branches)
          (with_ttl copy.ttl (fate_at (without_copy world a b place) b state a copy.label datagram)))
      at (Edge edge) is copy datagram =
          tree (Edge edge) is copy datagram.octets (tree_of a (use_of edge.part copy.label)) refl
          (λ fec. outs_of (place_of world.network.state b) (clock_of world) edge fec datagram.source datagram.group)
          (λ fec. outs_may b (clock_of world) edge fec datagram.source datagram.group is) (nat_le copy.ttl 1)
      at (CoreNode part) is copy datagram =
          tree (CoreNode part) is copy datagram.octets (tree_of a (use_of part copy.label)) refl (λ fec. []) (λ fec. tt) (nat_le copy.ttl 1)

      found : (copy : LinkCopy) (d : Option Datagram)
          → LandMay (scenario_of world) trace (Some (Land a b place)) (landed (without_copy world a b place) a b copy d).lines
      found copy None = refl
      found copy (Some datagram) = (refl, refl, at (world.network.state.node b) refl copy datagram)

      by : (o : Option LinkCopy) → LandMay (scenario_of world) trace (Some (Land a b place)) (landing world a b place o).lines
      by None = refl
      by (Some copy) = found copy (datagram_at (without_copy world a b place) copy.number)

-- ---- runs

-- a copy lands at another node than it comes from
abbrev pub IsLandFit : Act → Type 0
IsLandFit (Land a b place) = a ≢ b
IsLandFit other = Unit {0}

land_fit : (world : World) (one : Act) → IsFit world one → IsLandFit one
land_fit world (Land a b place) fit = fit
land_fit world (Tick ticks) fit = tt
land_fit world (Timers n) fit = tt
land_fit world (Move own u n count) fit = tt
land_fit world (Lose own a b) fit = tt
land_fit world (Notice own a b) fit = tt
land_fit world (RaiseFirst own a b) fit = tt
land_fit world (RaiseSecond own a b) fit = tt
land_fit world (Restart n) fit = tt
land_fit world (At n call) fit = tt
land_fit world (Enter vrf) fit = tt
land_fit world (Drop a b place) fit = tt
land_fit world Tell fit = tt
land_fit world (SetCost a b cost) fit = tt
land_fit world (Reroute n) fit = tt

-- a label that is mapped was put, and the end is up
knows_label : (scenario : Scenario) (trace : List Traced) (world : World) → InStep scenario world → Branched trace world → Tabling trace world
    → Ending trace world → Said scenario trace world → (a b : NodeId) → a ≢ b → (label : ℕ) (fec : Fec)
    → use_of (part_at world b) label ≡ Some (uses.Mapped fec a)
    → (is_up_in kinds.Ldp b a trace ≡ true) × HasLabel (put_since kinds.Ldp b a trace) fec label
knows_label scenario trace world s branched tabling ending said a b ne label fec e =
    let held = ((s.2.kept []).rule.view a b label ne).owner fec (inl e) in
    let up : is_up_in kinds.Ldp b a trace ≡ true = ends_as trace world ending b a ∙ held_some (end_of (part_at world b) a) held in
    let x = said b a up in (
      up,
      has_label (put_since kinds.Ldp b a trace) x.units [] fec label x.each (x.parts ∙ sym (append-nil (octets_of x.units)))
          (nothing_waits kinds.Ldp) (x.says.mapped fec label e),
    )
  where
    held_some : (o : Option End) → is_held o ≡ true → is_some o ≡ true
    held_some None e = absurd cc
    held_some (Some end) e = refl

act_lands : (scenario : Scenario) (trace : List Traced) (world : World) → InStep scenario world → Branched trace world → Tabling trace world
    → Ending trace world → Said scenario trace world → (one : Act) (acted : Acted) → IsLandFit one → act world one ≡ Ok acted
    → LandMay scenario trace (Some one) acted.lines
act_lands scenario trace world s branched tabling ending said one acted fit e = by one fit e
  where
    plain : (one : Act) → IsPlain one → act world one ≡ Ok acted → list_any goes_on acted.lines ≡ false
    plain one is e = none_goes acted.lines (said_of Stays (act world one) acted (plain_stays one is world) e)

    by : (one : Act) → IsLandFit one → act world one ≡ Ok acted → LandMay scenario trace (Some one) acted.lines
    by (Land a b place) fit e =
        subst (λ (own : Scenario). LandMay own trace (Some (Land a b place)) acted.lines) s.2.base.sound.same
        (land_may trace world branched tabling a b place acted
        (λ label fec u. let k = knows_label scenario trace world s branched tabling ending said a b fit label fec u in
        record { up = k.0; mapped = k.1 }) e)
    by (Enter vrf) fit e = tt
    by (Tick ticks) fit e = plain (Tick ticks) tt e
    by (Timers n) fit e = plain (Timers n) tt e
    by (Move own u n count) fit e = plain (Move own u n count) tt e
    by (Lose own a b) fit e = plain (Lose own a b) tt e
    by (Notice own a b) fit e = plain (Notice own a b) tt e
    by (RaiseFirst own a b) fit e = plain (RaiseFirst own a b) tt e
    by (RaiseSecond own a b) fit e = plain (RaiseSecond own a b) tt e
    by (Restart n) fit e = plain (Restart n) tt e
    by (At n call) fit e = plain (At n call) tt e
    by (Drop a b place) fit e = plain (Drop a b place) tt e
    by Tell fit e = plain Tell tt e
    by (SetCost a b cost) fit e = plain (SetCost a b cost) tt e
    by (Reroute n) fit e = plain (Reroute n) tt e

abbrev pub LandStep : Scenario → List Traced → Traced → Type 0
LandStep scenario before step = LandMay scenario before step.happened.act step.happened.lines

abbrev pub Landing : Scenario → List Traced → World → Type 0
Landing scenario trace world = LandsMay scenario trace

pub landing_kept : (scenario : Scenario) → KeepsAlso scenario
    (λ trace world. ((Taking trace world × Branched trace world) × Tabling trace world) × (Ending trace world × Said scenario trace world))
    (Landing scenario)
landing_kept scenario = record {
  single = λ before number world one acted s sound fit e t k l. each_next (LandStep scenario) before (stepped number one acted) l
      (act_lands scenario before world s k.0.0.1 k.0.1 k.1.0 k.1.1 one acted (land_fit world one fit) e);
  pair = λ before number world session first second declared s off back e g t k l.
      let one : Traced = stepped number (RaiseFirst session.kind session.a session.b) first in
      let two : Traced = stepped number (RaiseSecond session.kind session.a session.b) second in
      subst (LandsMay scenario) (append_assoc before (one ∷ []) (two ∷ []))
      (each_next (LandStep scenario) (before ++ one ∷ []) two
      (each_next (LandStep scenario) before one l (none_goes first.lines
      (said_of Stays (act world (RaiseFirst session.kind session.a session.b)) first
      (plain_stays (RaiseFirst session.kind session.a session.b) tt world) e)))
      (none_goes second.lines (said_of Stays (act first.world (RaiseSecond session.kind session.a session.b)) second
      (plain_stays (RaiseSecond session.kind session.a session.b) tt first.world) g)));
  accepted = λ before world datagram s k l. l;
  refused = λ before number world line reason k l. each_next (LandStep scenario) before (refused_step number line reason) l refl;
}

-- Each tree of which an edge is to be a leaf is one that its label part may want.
use Rattle.std.proofs.Common.{◌≡◌, true, inl, inr, is_some, Option, Some, sym, ap, subst, ◌∙◌}
use Rattle.std.specs.FinMap as maps
use Rattle.std.specs.FinSet as sets
use Rattle.std.proofs.lemmas.Option.{same_Some}
use Rattle.mv_base.specs.Address.{IsAddr}
use Rattle.mv_base.specs.Number.{◌>>?◌, only_if}
use Rattle.mv_base.specs.declared.addr.Addr.{Addr}
use Rattle.mv_base.specs.declared.ids.NodeId.{NodeId}
use Rattle.mldp.specs.declared.mldp_fec.fec.Fec.{Fec}
use Rattle.mldp_node.specs.NodeData.{MayWant}
use Rattle.edge_defs.specs.bgp_messages.declared.bgp_attributes.key.Key.{Key}
use Rattle.scenario_defs.specs.Rules.{Rules}
use Rattle.scenario_defs.specs.declared.scenario.Vrf.{Vrf}
use Rattle.label_defs.specs.Node.{node_at}
use Rattle.label_defs.proofs.KeyLemmas.{node_cmp_total}
use Rattle.label_defs.proofs.SettleLemmas.{bind_some}
use Rattle.edge_defs.specs.Edge.{Taken, TakenRoute, Control}
use Rattle.edge_defs.specs.Imported.{ImportedSelective, SelectiveRoute, imported_inclusive, imported_selective, inclusive_of, is_admitted, selective_of, taken_from, tunnel_by}
use Rattle.edge_defs.specs.Keys.{Value}
use Rattle.edge_defs.specs.Place.{EdgePlace, addr_of}
use Rattle.edge_defs.specs.Tunnels.{leaves}
use Rattle.edge_words.proofs.calm_laws.Maps.{entry_get}
use Rattle.edge_words.specs.Leaf.{IsInclusive, IsSelective}
use Rattle.edge_words.proofs.Leaves.{leaf_is, learned_is}
use Rattle.edge_words.proofs.Members.{table_of}
use Rattle.node_laws.specs.Places.{node_place}
use Rattle.node_laws.specs.leaf_laws.Peers.{ArePeers}
use Rattle.node_laws.proofs.leaf_laws.Spelled.{IsUsed, used_by, spelled}
use Rattle.node_laws.proofs.leaf_laws.Rooted.{rooted, addressed}

-- ---- a route that a VRF imports

inclusive_used : (vrf : Vrf) (peer : Addr) (key : Key) (route : TakenRoute) (fec : Fec) → imported_inclusive vrf peer (key, route) ≡ Some fec
    → IsUsed peer fec
inclusive_used vrf peer key route fec e =
    let value : Value = route.value in
    let x = bind_some (inclusive_of key) (λ originator. only_if (is_admitted vrf value.comms) value >>? λ found. tunnel_by peer originator found) fec
    e in
    let y = bind_some (only_if (is_admitted vrf value.comms) value) (λ found. tunnel_by peer x.0 found) fec x.2 in
    used_by peer x.0 y.0 fec y.2

imported_used : (peer : Addr) (route : SelectiveRoute) (fec : Fec) (imported : ImportedSelective)
    → ◌≡◌ {A = Option ImportedSelective} (Some (record { route = route; fec = fec })) (Some imported) → IsUsed peer fec
    → IsUsed peer imported.fec
imported_used peer route fec imported e used =
    subst (λ (i : ImportedSelective). IsUsed peer i.fec) (same_Some (record { route = route; fec = fec }) imported e) used

selective_used : (vrf : Vrf) (peer : Addr) (key : Key) (route : TakenRoute) (imported : ImportedSelective)
    → imported_selective vrf peer (key, route) ≡ Some imported → IsUsed peer imported.fec
selective_used vrf peer key route imported e =
    let value : Value = route.value in
    let x = bind_some (selective_of key) (λ own. only_if (is_admitted vrf value.comms) value >>? λ found. tunnel_by peer own.originator found >>?
    λ fec. Some (record { route = own; fec = fec })) imported e in
    let y = bind_some (only_if (is_admitted vrf value.comms) value)
    (λ found. tunnel_by peer x.0.originator found >>? λ fec. Some (record { route = x.0; fec = fec })) imported x.2 in
    let z = bind_some (tunnel_by peer x.0.originator y.0) (λ fec. Some (record { route = x.0; fec = fec })) imported y.2 in
    imported_used peer x.0 z.0 imported z.2 (used_by peer x.0.originator y.0 z.0 z.1)

-- ---- trees

module _ (place : EdgePlace) (control : Control) (rules : Rules place.scenario) (peers : ArePeers place control) where
  peer_up : (peer : NodeId) (key : Key) (route : TakenRoute) → maps.get (taken_from control peer) key ≡ Some route
      → is_some (maps.get control.peers peer) ≡ true
  peer_up peer key route taken =
      let t = table_of control peer key route taken in
      ap (λ (o : Option Taken). is_some o) (entry_get node_cmp_total control.peers peer t.table t.of_peer)

  -- a tunnel of a peer that is up
  used_wanted : (peer : NodeId) (key : Key) (route : TakenRoute) (fec : Fec) → maps.get (taken_from control peer) key ≡ Some route
      → IsUsed (addr_of place.scenario peer) fec → MayWant (node_place place.scenario place.me) fec
  used_wanted peer key route fec taken used =
      let is = peers peer (peer_up peer key route taken) in
      record {
        kind = used.kind;
        spelled = spelled fec (subst IsAddr (sym used.root) (addressed place.scenario rules peer is.0)) used.lsp;
        root = peer;
        rooted = ap (node_at (node_place place.scenario place.me).addrs) used.root ∙ rooted place.scenario rules peer is.0;
        other = is.1;
      }

  inclusive_wanted : (fec : Fec) → IsInclusive place control fec → MayWant (node_place place.scenario place.me) fec
  inclusive_wanted fec is =
      used_wanted is.peer is.key is.route fec is.taken (inclusive_used is.own.vrf (addr_of place.scenario is.peer) is.key is.route fec is.imported)

  selective_wanted : (fec : Fec) → IsSelective place control fec → MayWant (node_place place.scenario place.me) fec
  selective_wanted fec is =
      let learned = (learned_is place control is.own is.edge is.route).0 is.wanted.among in
      let used = selective_used is.own.vrf (addr_of place.scenario is.edge) learned.key learned.route learned.imported learned.is in
      used_wanted is.edge learned.key learned.route fec learned.taken
      (subst (IsUsed (addr_of place.scenario is.edge)) (sym learned.of_tunnel ∙ is.of_tunnel) used)

  pub leaf_wanted : (fec : Fec) → sets.contains (leaves place control) fec ≡ true → MayWant (node_place place.scenario place.me) fec
  leaf_wanted fec h = elim ((leaf_is place control fec).0 h) [ inl is ↦ inclusive_wanted fec is | inr is ↦ selective_wanted fec is ]

-- Looking through the table of a peer says which routes are imported from it.
use Rattle.std.proofs.Common.{◌≡◌, ◌&&◌, cond, refl, Bool, true, false, List, length, Option, Some, None, option_map, sym, ap, ◌∙◌}
use Rattle.std.specs.List.{list_any}
use Rattle.std.specs.FinMap as maps
use Rattle.std.specs.FinMap.{FinMap}
use Rattle.std.proofs.lemmas.List.{length-map}
use Rattle.mv_base.specs.Address.{same_addr}
use Rattle.mv_base.specs.Number.{◌>>?◌, only_if}
use Rattle.mv_base.specs.declared.addr.Addr.{Addr}
use Rattle.mv_base.specs.declared.ids.NodeId.{NodeId}
use Rattle.mldp.specs.declared.mldp_fec.fec.Fec.{Fec}
use Rattle.bgp_messages.specs.declared.bgp_attributes.key.Key.{Key}
use Rattle.label_defs.specs.Keys.{node_cmp}
use Rattle.edge_defs.specs.Datagrams.{is_route_of, is_tunnel, selective_fec}
use Rattle.edge_defs.specs.Edge.{Taken, TakenRoute}
use Rattle.edge_defs.specs.Imported.{SelectiveRoute, inclusive_of, is_admitted, lsp_of, selective_of, taken_from, tunnel_by}
use Rattle.edge_defs.specs.Keys.{Value, key_cmp}
use Rattle.edge_defs.specs.Place.{EdgePlace, OwnVrf, addr_of}
use Rattle.edge_defs.proofs.KeyLemmas.{key_exact}
use Rattle.edge_routes.specs.edge_home.Home.{AreOwn, Home, as_own}
use Rattle.edge_routes.specs.declared.edge_home.own_vrf.OwnVrf as home_vrfs
use Rattle.edge_words.proofs.calm_laws.Lists.{any_from}
use Rattle.edge_words.proofs.calm_laws.Maps.{get_entry}
use Rattle.control_laws.specs.Control.{Kept, control_of}
use Rattle.control_laws.proofs.Parts.{no_core}
use Rattle.edge_control.specs.Places.{vrfs_of}
use Rattle.edge_control.specs.edge_tables.taken_tables.Tables.{Tables, route_at}
use Rattle.edge_control.proofs.PeerCalls.{no_table, some_table}

-- ---- one tunnel

other_if : (fec : Fec) (own : Option Fec) (may : Fec → Bool) → is_tunnel fec own ≡ false → is_tunnel fec (own >>? λ f. only_if (may f) f) ≡ false
other_if fec None may other = refl
other_if fec (Some f) may other = by (may f)
  where
    by : (b : Bool) → is_tunnel fec (only_if b f) ≡ false
    by true = other
    by false = refl

inclusive_other : (fec : Fec) (o : Option Addr) (b : Bool) (value : Value) (tunnel : Addr → Value → Option Fec)
    → ((originator : Addr) → is_tunnel fec (tunnel originator value) ≡ false)
    → is_tunnel fec (o >>? λ originator. only_if b value >>? λ v. tunnel originator v) ≡ false
inclusive_other fec None b value tunnel other = refl
inclusive_other fec (Some originator) true value tunnel other = other originator
inclusive_other fec (Some originator) false value tunnel other = refl

selective_other : (fec : Fec) (o : Option SelectiveRoute) (b : Bool) (value : Value) (tunnel : Addr → Value → Option Fec)
    → ((originator : Addr) → is_tunnel fec (tunnel originator value) ≡ false)
    → is_tunnel fec (selective_fec (o >>? λ route. only_if b value >>? λ v. tunnel route.originator v
    >>? λ f. Some (record { route = route; fec = f }))) ≡ false
selective_other fec None b value tunnel other = refl
selective_other fec (Some route) false value tunnel other = refl
selective_other fec (Some route) true value tunnel other = by (tunnel route.originator value) (other route.originator)
  where
    by : (o : Option Fec) → is_tunnel fec o ≡ false → is_tunnel fec (selective_fec (o >>? λ f. Some (record { route = route; fec = f }))) ≡ false
    by None h = refl
    by (Some f) h = h

-- A route of another tunnel is none of the tunnel, whichever VRF imports it.
pub other_tunnel : (place : EdgePlace) (own : OwnVrf) (peer : NodeId) (fec : Fec) (key : Key) (route : TakenRoute)
    → is_tunnel fec (lsp_of route.value.pmsi) ≡ false → false ≡ is_route_of place own peer fec (key, route)
other_tunnel place own peer fec key route other =
    let addr = addr_of place.scenario peer in
    let tunnel : (originator : Addr) → is_tunnel fec (tunnel_by (addr_of place.scenario peer) originator route.value) ≡ false =
    λ originator. other_if fec (lsp_of route.value.pmsi)
    (λ f. same_addr f.root (addr_of place.scenario peer) && same_addr originator (addr_of place.scenario peer)) other in
    sym (λ i. cond
    (inclusive_other fec (inclusive_of key) (is_admitted own.vrf route.value.comms) route.value (λ originator value. tunnel_by addr originator value)
    tunnel i) true
    (selective_other fec (selective_of key) (is_admitted own.vrf route.value.comms) route.value (λ originator value. tunnel_by addr originator value)
    tunnel i))

-- ---- the VRFs of an edge

-- as many as the edge has
pub own_count : (home : Home) (owns : List home_vrfs.OwnVrf) → AreOwn home owns → length owns ≡ length (vrfs_of home)
own_count home owns are = sym (length-map owns as_own) ∙ ap length (are.vrfs no_core)

pub same_count : (home other : Home) (owns : List home_vrfs.OwnVrf) → AreOwn other owns → other ≡ home → length owns ≡ length (vrfs_of home)
same_count home other owns are same = own_count other owns are ∙ ap (λ (h : Home). length (vrfs_of h)) same

-- ---- the table of a peer

module _ (kept : Kept) (tables : FinMap node_cmp Taken) (are : tables ≡ kept.peers) (edge : NodeId) where
  abbrev entries_at : FinMap node_cmp Taken → Option (List (Key × TakenRoute))
  entries_at peers = option_map (λ (taken : Taken). maps.entries taken) (maps.get peers edge)

  abbrev kept_table : Option Taken → Taken
  kept_table o = elim o [ None ↦ maps.empty | Some taken ↦ taken ]

  module _ (test : Key × TakenRoute → Bool) where
    pub none_passes : None ≡ entries_at tables → false ≡ list_any test (maps.entries (taken_from (control_of kept) edge))
    none_passes e = ap (list_any test) (sym (no_table kept.peers edge (e ∙ ap entries_at are)))

    pub any_passes : (all : List (Key × TakenRoute)) → Some all ≡ entries_at tables
        → list_any test all ≡ list_any test (maps.entries (taken_from (control_of kept) edge))
    any_passes all e = ap (list_any test) (sym (some_table kept.peers edge all (e ∙ ap entries_at are)))

    has_it : (key : Key) (route : TakenRoute) (o : Option Taken) → (o >>? λ (taken : Taken). maps.get taken key) ≡ Some route
        → maps.get {R = key_cmp} (kept_table o) key ≡ Some route
    has_it key route None h = absurd cc
    has_it key route (Some taken) h = h

    -- where a route at a key passes, one of all does
    pub one_passes : (key : Key) (route : TakenRoute) → Some route ≡ route_at tables edge key → test (key, route) ≡ true
        → list_any test (maps.entries (taken_from (control_of kept) edge)) ≡ true
    one_passes key route at passes =
        let there = has_it key route (maps.get kept.peers edge) (sym (at ∙ ap (λ (t : Tables). route_at t edge key) are)) in
        any_from test (key, route) (maps.entries (taken_from (control_of kept) edge))
        (get_entry key_exact (taken_from (control_of kept) edge) key route there) passes

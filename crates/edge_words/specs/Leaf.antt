-- Of which trees an edge is to be a leaf (RFC 6514 sections 9.1.2 and 12.3; RFC 6513 section 7).
use Rattle.std.specs.Prelude.{◌≡◌, ℕ, Some}
use Rattle.std.specs.FinMap as maps
use Rattle.mv_base.specs.declared.ids.NodeId.{NodeId}
use Rattle.mv_base.specs.declared.rd.Rd.{Rd}
use Rattle.label_defs.specs.mldp.declared.mldp_fec.fec.Fec.{Fec}
use Rattle.bgp_messages.specs.declared.bgp_attributes.key.Key.{Key}
use Rattle.selective_defs.specs.Selective.{Among, IsWanted}
use Rattle.selective_defs.specs.declared.learned_route.LearnedRoute.{LearnedRoute}
use Rattle.edge_defs.specs.Edge.{VrfFlow, Remote, Import, TakenRoute, Control}
use Rattle.edge_defs.specs.Imported.{ImportedSelective, taken_from, imported_inclusive, imported_selective}
use Rattle.edge_defs.specs.Place.{EdgePlace, OwnVrf, addr_of, own_vrfs}
use Rattle.edge_defs.specs.Tunnels.{learned_routes}

-- A VRF of the edge imports an inclusive route of the tunnel from a peer.
pub record IsInclusive (place : EdgePlace) (control : Control) (fec : Fec) : Type 0 where
  pub own : OwnVrf
  pub of_edge : Among own (own_vrfs place)
  pub peer : NodeId
  pub key : Key
  pub route : TakenRoute
  pub taken : maps.get (taken_from control peer) key ≡ Some route
  pub imported : imported_inclusive own.vrf (addr_of place.scenario peer) (key, route) ≡ Some fec

-- A flow of a VRF of the edge has its upstream at another edge, and of the selective routes that the VRF imports from that edge it wants
-- one of the tunnel.
pub record IsSelective (place : EdgePlace) (control : Control) (fec : Fec) : Type 0 where
  pub own : OwnVrf
  pub of_edge : Among own (own_vrfs place)
  pub flow : VrfFlow
  pub of_vrf : own.id ≡ flow.vrf
  pub edge : NodeId
  pub rd : Rd
  pub import : Import
  pub source_as : ℕ
  pub upstream : maps.get control.flows flow ≡ Some (Some (Remote edge rd import source_as))
  pub route : LearnedRoute
  pub wanted : IsWanted (learned_routes place control own edge) flow.source flow.group route
  pub of_tunnel : route.fec ≡ fec

-- The VRF has learned the route of the peer: it imports a selective route of that pattern and tunnel, learned at that moment, and with
-- its delay run or not.
pub record IsLearned (place : EdgePlace) (control : Control) (own : OwnVrf) (peer : NodeId) (learned : LearnedRoute) : Type 0 where
  pub key : Key
  pub route : TakenRoute
  pub imported : ImportedSelective
  pub taken : maps.get (taken_from control peer) key ≡ Some route
  pub is : imported_selective own.vrf (addr_of place.scenario peer) (key, route) ≡ Some imported
  pub source : learned.pattern.source ≡ imported.route.source
  pub group : learned.pattern.group ≡ imported.route.group
  pub of_tunnel : learned.fec ≡ imported.fec
  pub since : learned.since ≡ route.since
  pub run : learned.run ≡ route.run

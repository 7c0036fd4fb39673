-- The inclusive tunnels of an edge: those of one peer, and those that may come or go.
use Rattle.std.specs.Prelude.{◌≡◌, ◌↔◌, true, false, List, Some}
use Rattle.std.specs.List.{list_any}
use Rattle.std.specs.FinMap as maps
use Rattle.mv_base.specs.Lists.{Among}
use Rattle.mv_base.specs.declared.ids.NodeId.{NodeId}
use Rattle.mldp.specs.declared.mldp_fec.fec.Fec.{Fec}
use Rattle.bgp_messages.specs.declared.bgp_attributes.key.Key.{Key}
use Rattle.label_defs.specs.LabelData.{same_fec}
use Rattle.edge_defs.specs.Edge.{TakenRoute, Control}
use Rattle.edge_defs.specs.Imported.{taken_from, imported_inclusive}
use Rattle.edge_defs.specs.Place.{EdgePlace, OwnVrf, addr_of, own_vrfs}
use Rattle.edge_words.specs.Leaf.{IsInclusive}

-- A VRF of the edge imports an inclusive route of the tunnel from this peer.
pub record IsInclusiveFrom (place : EdgePlace) (control : Control) (from : NodeId) (fec : Fec) : Type 0 where
  pub own : OwnVrf
  pub of_edge : Among own (own_vrfs place)
  pub key : Key
  pub route : TakenRoute
  pub taken : maps.get (taken_from control from) key ≡ Some route
  pub imported : imported_inclusive own.vrf (addr_of place.scenario from) (key, route) ≡ Some fec

-- Each tunnel whose inclusive route some VRF of the edge imports from the peer is listed.
abbrev pub HasAllFrom : EdgePlace → Control → NodeId → List Fec → Type 0
HasAllFrom place control peer fecs = (fec : Fec) → IsInclusiveFrom place control peer fec → list_any (same_fec fec) fecs ≡ true

-- A tunnel is that of no inclusive route before and after, or of one before and after, but for those that are listed.
abbrev pub AreTunnels : EdgePlace → Control → Control → List Fec → Type 0
AreTunnels place old new fecs = (fec : Fec) → list_any (same_fec fec) fecs ≡ false → IsInclusive place old fec ↔ IsInclusive place new fec

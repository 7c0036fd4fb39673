-- What the peers of an edge are to have, by what the edge keeps (RFC 4271 section 3.1; RFC 6514 sections 9.1.1, 11.1.3, 12.1 and 14.1).
use Rattle.std.specs.Prelude.{◌≡◌, ◌⊎◌, Some}
use Rattle.std.specs.FinMap.{get}
use Rattle.mv_base.specs.Lists.{Among}
use Rattle.mv_base.specs.declared.ids.NodeId.{NodeId}
use Rattle.bgp_messages.specs.declared.bgp_attributes.key.Key.{Key}
use Rattle.scenario_defs.specs.Rules.{Rules}
use Rattle.edge_defs.specs.Edge.{Control}
use Rattle.edge_defs.specs.Held.{held_for}
use Rattle.edge_defs.specs.Keys.{Value}
use Rattle.edge_defs.specs.Place.{EdgePlace, own_vrfs}
use Rattle.edge_routes.specs.Local.{IsAt}
use Rattle.edge_routes.specs.declared.edge_home.own_vrf.OwnVrf.{OwnVrf}
use Rattle.edge_routes.specs.edge_home.Home.{as_own}
use Rattle.edge_tables.specs.Tables.{EachPeer, PeerTable, Tables, with_route, without_route}

-- The VRF is one of the edge, in a scenario that meets its rules, and says the edge's address and autonomous system.
pub record IsOwnAt (place : EdgePlace) (own : OwnVrf) : Type 0 where
  pub rules : Rules place.scenario
  pub among : Among (as_own own) (own_vrfs place)
  pub at : IsAt place own.local

-- each peer is to have what the edge holds for it
abbrev pub HoldAll : EdgePlace → Control → Tables → Type 0
HoldAll place control tables = (peer : NodeId) (table : PeerTable) → get tables peer ≡ Some table → table.set ≡ held_for place control peer

-- the state of the session, what the peer was sent and what waits for it are as before
pub record IsToldAlike (old new : PeerTable) : Type 0 where
  pub up : new.up ≡ old.up
  pub told : new.told ≡ old.told
  pub waiting : new.waiting ≡ old.waiting

-- the peers are the same, and nothing of them changes but what they are to have
abbrev pub AreToldAlike : Tables → Tables → Type 0
AreToldAlike old new = EachPeer IsToldAlike old new

-- some of the peers are to have the route besides, and the others are as before
abbrev pub HavePartly : Key → Value → Tables → Tables → Type 0
HavePartly key value old new = EachPeer (λ before thereafter. (thereafter ≡ before) ⊎ (thereafter ≡ with_route key value before)) old new

-- some of the peers are to have no route of the key, and the others are as before
abbrev pub LackPartly : Key → Tables → Tables → Type 0
LackPartly key old new = EachPeer (λ before thereafter. (thereafter ≡ before) ⊎ (thereafter ≡ without_route key before)) old new

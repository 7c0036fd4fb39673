-- The tunnels that VRFs of an edge import by routes of a peer.
use Rattle.std.specs.Prelude.{false, List, [], ◌∷◌, Option, None, Some}
use Rattle.std.specs.List.{flat_map}
use Rattle.mv_base.specs.declared.addr.Addr.{Addr}
use Rattle.mv_base.specs.declared.ids.NodeId.{NodeId}
use Rattle.mldp.specs.declared.mldp_fec.fec.Fec.{Fec}
use Rattle.bgp_messages.specs.declared.bgp_attributes.key.Key.{Key}
use Rattle.edge_defs.specs.Edge.{Taken, TakenRoute}
use Rattle.edge_defs.specs.Imported.{found_in, imported_inclusive}
use Rattle.edge_defs.specs.Keys.{Value}
use Rattle.edge_defs.specs.Place.{OwnVrf, addr_of}
use Rattle.edge_routes.specs.edge_home.Home.{Home}
use Rattle.edge_routes.specs.declared.edge_home.own_vrf.OwnVrf as homes
use Rattle.edge_control.specs.Places.{vrfs_of}

-- the list of it, where there is one
abbrev pub listed : Option Fec → List Fec
listed None = []
listed (Some fec) = fec ∷ []

-- a route of that value
abbrev pub route_of : Value → TakenRoute
route_of value = record { value = value; since = 0; run = false }

-- the tunnel of the route of that key and value, for each of the VRFs that import it from the peer of that address
abbrev pub tunnels_to : Addr → Key → Value → List homes.OwnVrf → List Fec
tunnels_to peer key value vrfs = found_in (λ (own : homes.OwnVrf). imported_inclusive own.local.vrf peer (key, route_of value)) vrfs

-- and for each VRF of the edge
abbrev pub tunnels_by : Home → NodeId → Key → Value → List Fec
tunnels_by home peer key value =
    found_in (λ (own : OwnVrf). imported_inclusive own.vrf (addr_of home.scenario peer) (key, route_of value)) (vrfs_of home)

-- where there is a route at the key
abbrev pub tunnels_at : Home → NodeId → Key → Option TakenRoute → List Fec
tunnels_at home peer key None = []
tunnels_at home peer key (Some taken) = tunnels_by home peer key taken.value

-- by all of these routes
abbrev pub tunnels_by_all : Home → NodeId → List (Key × TakenRoute) → List Fec
tunnels_by_all home peer entries = flat_map (λ (entry : Key × TakenRoute). tunnels_by home peer entry.0 entry.1.value) entries

-- and where routes are taken from the peer
abbrev pub tunnels_from : Home → Option Taken → NodeId → Key → Value → List Fec
tunnels_from home None peer key value = []
tunnels_from home (Some taken) peer key value = tunnels_by home peer key value

-- The VRFs of an edge, as the routes of the edge name them, and its place in the network.
use Rattle.std.specs.Prelude.{◌≡◌, ℕ, List}
use Rattle.mv_base.specs.declared.addr.Addr.TheVariants.{V4}
use Rattle.scenario_defs.specs.declared.scenario.Vrf.{Vrf}
use Rattle.edge_defs.specs.Edge as edges
use Rattle.edge_defs.specs.Place.{EdgePlace, own_addr}
use Rattle.edge_routes.specs.declared.originated.Import.{Import}

-- A VRF of an edge, with the edge's IPv4 address and its autonomous system.
pub record Local : Type 0 where
  pub vrf : Vrf
  pub addr : List ℕ
  pub system : ℕ

-- The edge of the place has that address, and is of that autonomous system.
pub record IsAt (place : EdgePlace) (own : Local) : Type 0 where
  pub addr : own_addr place ≡ V4 own.addr
  pub system : place.scenario.system ≡ own.system

-- the VRF at an edge that the import names
abbrev pub as_import : Import → edges.Import
as_import import = record { addr = V4 import.addr; number = import.number }

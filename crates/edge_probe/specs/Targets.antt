-- Why a VRF takes a route.
use Rattle.std.specs.Prelude.{◌≡◌, true, Some, slice_get}
use Rattle.std.specs.FinMap as maps
use Rattle.mv_base.specs.declared.ids.NodeId.{NodeId}
use Rattle.scenario_defs.specs.declared.scenario.Scenario.{Scenario}
use Rattle.scenario_defs.specs.declared.scenario.Vrf.{Vrf}
use Rattle.edge_defs.specs.Imported.{is_admitted}
use Rattle.edge_defs.specs.Keys.{Table, Value}
use Rattle.probe_defs.specs.Imports.{Import}

-- It is taken by a VRF of the edge; the table has a route of that key, and one of the route's communities is a Route Target of that VRF.
pub record HasTarget (scenario : Scenario) (edge : NodeId) (table : Table) (import : Import) : Type 0 where
  pub vrf : Vrf
  pub is_vrf : slice_get scenario.vrfs import.vrf.0 ≡ Some vrf
  pub of_edge : vrf.edge.0 ≡ edge.0
  pub value : Value
  pub has : maps.get table import.key ≡ Some value
  pub target : is_admitted vrf value.comms ≡ true

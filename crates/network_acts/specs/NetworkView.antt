-- A whole network as its callers see it.
use Rattle.std.specs.Prelude.{refl}
use Rattle.std.specs.Coded.{Coded, code_by, coded×}
use Rattle.scenario_defs.specs.declared.scenario.Scenario.{Scenario}
use Rattle.scenario_defs.specs.contracts.scenario.Scenario as scenarios
use Rattle.network_acts.specs.control_plane.PlaneView.{PlaneView, plane_code}
use Rattle.data_plane.specs.datagram_acts.DatagramsView.{DatagramsView, view_code}

-- The scenario, the control plane, and the datagrams on links.
pub record NetworkView : Type 0 where
  pub scenario : Scenario
  pub plane : PlaneView
  pub datagrams : DatagramsView

abbrev pub network_code : Coded NetworkView
network_code = code_by (Scenario × (PlaneView × DatagramsView)) (coded× scenarios.the_row.coded (coded× plane_code view_code))
    (λ n. (n.scenario, (n.plane, n.datagrams))) (λ p. record { scenario = p.0; plane = p.1.0; datagrams = p.1.1 }) (λ _. refl)

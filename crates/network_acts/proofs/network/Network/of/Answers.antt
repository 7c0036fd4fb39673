use Rattle.std.proofs.Common.{subst, sym}
use Rattle.scenario_defs.specs.declared.scenario.Scenario.{Scenario}
use Rattle.network_defs.specs.Costs.{AreCoresOf}
use Rattle.network_defs.specs.World.{start}
use Rattle.network_acts.specs.control_plane.Plane.{IsPlane, at_rest}
use Rattle.network_acts.proofs.network.Network.of.Goals as goal

pub returns-clause-beginning : goal.returns-clause-beginning
returns-clause-beginning c = λ cores of_it. record {
  scenario = c.in_ok-scenario.ensures;
  plane =
      subst (λ (scenario : Scenario). IsPlane scenario cores at_rest (start scenario cores).network c.in_ok-plane.plane) c.in_ok-scenario.ensures
      (c.in_ok-plane.ensures.begins cores (subst (λ (scenario : Scenario). AreCoresOf scenario cores) (sym c.in_ok-scenario.ensures) of_it));
  datagrams = c.of-3.ensures c.args.scenario cores;
}

pub invariant_of-result : goal.invariant_of-result
invariant_of-result c = c.in_ok-plane.ensures.placed

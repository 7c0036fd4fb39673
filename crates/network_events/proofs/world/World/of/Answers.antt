use Rattle.std.proofs.Common.{None}
use Rattle.network_events.specs.WorldView.{WorldView}
use Rattle.network_events.proofs.StepLemmas.{begun, begun_reached}
use Rattle.network_events.proofs.world.World.of.Goals as goal

pub invariant_of-result : goal.invariant_of-result
invariant_of-result c = λ going.
    let network = c.in_ok-network.network in
    let view : WorldView = record { network = network; halt = None } in
    begun_reached c.args.scenario view (begun c.args.scenario network c.requires c.in_ok-network.ensures.scenario c.in_ok-network.ensures.beginning)
    (c.each_scenario_has_cores.ensures c.args.scenario c.requires)

pub returns : goal.returns
returns c = begun c.args.scenario c.in_ok-network.network c.requires c.in_ok-network.ensures.scenario c.in_ok-network.ensures.beginning

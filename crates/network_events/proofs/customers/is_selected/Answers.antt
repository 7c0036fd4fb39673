use Rattle.std.proofs.Common.{None, Some}
use Rattle.network_events.proofs.CustomerLemmas.{found_vrf_edge, selected_there, some_vrf}
use Rattle.network_events.proofs.PlaceLemmas.{some_vrf_edge}
use Rattle.network_events.proofs.customers.is_selected.Goals as goal

pub is_selected-requires : goal.is_selected-requires
is_selected-requires c = record {
  network =
      some_vrf c.args.network.now c.args.vrf c.args.pattern c.in-Some.n
      (found_vrf_edge c.args.network.now c.args.vrf c.scenario.result.now c.scenario.ensures c.edge_of_vrf.result (Some c.in-Some.n)
      c.edge_of_vrf.ensures c.in-Some.is) c.requires.network;
}

pub unreachable-requires : goal.unreachable-requires
unreachable-requires c =
    some_vrf_edge c.args.network.now.scenario c.args.vrf c.requires.within
    (found_vrf_edge c.args.network.now c.args.vrf c.scenario.result.now c.scenario.ensures c.edge_of_vrf.result None c.edge_of_vrf.ensures
    c.in-None.is)

pub returns : goal.returns
returns c =
    selected_there c.args.network.now c.args.vrf c.args.pattern c.in-Some.n
    (found_vrf_edge c.args.network.now c.args.vrf c.scenario.result.now c.scenario.ensures c.edge_of_vrf.result (Some c.in-Some.n)
    c.edge_of_vrf.ensures c.in-Some.is) c.is_selected.result c.is_selected.ensures

use Rattle.std.proofs.Common.{subst}
use Rattle.edge_defs.specs.Place.{HasPrefixes}
use Rattle.edge_routes.specs.edge_home.Home.{Home}
use Rattle.edge_control.specs.edge_tables.taken_tables.Tables.{AreSpelled}
use Rattle.edge_routing.proofs.edge_datagrams.nodes.are_of_octets.Goals as goal

pub returns : goal.returns
returns c = record {
  sites = subst (λ (home : Home). HasPrefixes home.scenario) c.home-home.ensures.home c.scenario.ensures.octets;
  taken = subst AreSpelled c.taken.ensures c.entries.ensures.spelled;
}

use Rattle.edge_routing.proofs.edge_joins.RefreshedLemmas.{refreshed_ipv4}
use Rattle.edge_routing.proofs.edge_joins.laws.refreshed_imports_are_ipv4.Goals as goal

pub returns : goal.returns
returns c = refreshed_ipv4

use Rattle.edge_defs.proofs.KeyLemmas.{unicast_first, ipv4_first, ipv4_prefix_first, routes_by_octets, prefixes_by_octets}
use Rattle.edge_defs.proofs.laws.keys_are_in_order.Goals as goal

pub returns-clause-unicast : goal.returns-clause-unicast
returns-clause-unicast c = unicast_first

pub returns-clause-families : goal.returns-clause-families
returns-clause-families c = ipv4_first

pub returns-clause-prefix_families : goal.returns-clause-prefix_families
returns-clause-prefix_families c = ipv4_prefix_first

pub returns-clause-routes : goal.returns-clause-routes
returns-clause-routes c = routes_by_octets

pub returns-clause-prefixes : goal.returns-clause-prefixes
returns-clause-prefixes c = prefixes_by_octets

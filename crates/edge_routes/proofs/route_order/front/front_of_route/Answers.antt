use Rattle.std.proofs.Common.{ℕ, List, subst}
use Rattle.mv_base.specs.Octets.{IsOctets}
use Rattle.edge_routes.proofs.route_order.front.front_of_route.Goals as goal

pub returns-clause-octets : goal.returns-clause-octets
returns-clause-octets c = subst (λ (text : List ℕ). IsOctets text) c.spelled-len.ensures.octets c.are_octets.ensures

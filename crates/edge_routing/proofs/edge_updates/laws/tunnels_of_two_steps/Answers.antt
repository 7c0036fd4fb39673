use Rattle.edge_routing.proofs.edge_updates.TunnelLemmas.{two_tunnels}
use Rattle.edge_routing.proofs.edge_updates.laws.tunnels_of_two_steps.Goals as goal

pub returns : goal.returns
returns c = two_tunnels

use Rattle.edge_routing.proofs.edge_updates.TunnelLemmas.{lost_tunnels, raised_tunnels}
use Rattle.edge_routing.proofs.edge_updates.laws.tunnels_of_a_peer_go.Goals as goal

pub returns : goal.returns
returns c = record { lost = lost_tunnels; raised = raised_tunnels }

use Rattle.edge_routing.proofs.edge_updates.TunnelLemmas.{alike_tunnels, run_tunnels}
use Rattle.edge_routing.proofs.edge_updates.laws.tunnels_stay.Goals as goal

pub returns : goal.returns
returns c = record { alike = alike_tunnels; delays = run_tunnels }

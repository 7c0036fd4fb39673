use Rattle.std.proofs.Common.{◌≡◌, ◌++◌, drop}
use Rattle.edge_routes.specs.edge_home.Home.{peers_from}
use Rattle.edge_routes.proofs.edge_home.home.peers.Given as goal

abbrev pub invariant-loop-number : goal.invariant-loop-number
invariant-loop-number l = l.found.items ++ peers_from l.me l.number (drop l.number l.nodes) ≡ peers_from l.me 0 l.nodes

use Rattle.std.proofs.Common.{◌≡◌, map, take}
use Rattle.edge_core.proofs.edge.addrs_of.Given as goal

abbrev pub invariant-loop-node : goal.invariant-loop-node
invariant-loop-node l = l.addrs.items ≡ map (λ node. node.addr) (take l.node-index l.nodes)

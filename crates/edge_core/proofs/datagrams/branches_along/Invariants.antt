use Rattle.std.proofs.Common.{◌≡◌, map, take}
use Rattle.label_forwarding.specs.FibData.{branch_in}
use Rattle.edge_core.proofs.datagrams.branches_along.Given as goal

abbrev pub invariant-loop-hop : goal.invariant-loop-hop
invariant-loop-hop l = l.branches.items ≡ map (branch_in l.fec) (take l.hop-index l.hops)

use Rattle.std.proofs.Common.{All, take}
use Rattle.mv_base.specs.Address.{addr_octets}
use Rattle.mv_base.specs.Octets.{IsOctets}
use Rattle.run_laws.proofs.script_values.scenarios.nodes_have_octets.Given as goal

abbrev pub invariant-loop-node : goal.invariant-loop-node
invariant-loop-node l = All (λ node. IsOctets (addr_octets node.addr)) (take l.node-index l.nodes)

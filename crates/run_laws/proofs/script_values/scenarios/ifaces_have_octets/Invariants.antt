use Rattle.std.proofs.Common.{All, take}
use Rattle.mv_base.specs.Address.{addr_octets}
use Rattle.mv_base.specs.Octets.{IsOctets}
use Rattle.run_laws.proofs.script_values.scenarios.ifaces_have_octets.Given as goal

abbrev pub invariant-loop-iface : goal.invariant-loop-iface
invariant-loop-iface l = All (λ iface. IsOctets (addr_octets iface.addr)) (take l.iface-index l.ifaces)

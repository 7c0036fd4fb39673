use Rattle.std.proofs.Common.{All, take}
use Rattle.mv_base.specs.Address.{addr_octets}
use Rattle.mv_base.specs.Octets.{IsOctets}
use Rattle.edge_routes.proofs.edge_home.octets.prefixes_have_octets.Given as goal

abbrev pub invariant-loop-prefix : goal.invariant-loop-prefix
invariant-loop-prefix l = All (λ prefix. IsOctets (addr_octets prefix.addr)) (take l.prefix-index l.prefixes)

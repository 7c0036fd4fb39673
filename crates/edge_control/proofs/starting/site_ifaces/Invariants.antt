use Rattle.std.proofs.Common.{◌≡◌, ◌++◌, drop}
use Rattle.vrf_words.specs.tree_laws.TreeOf.{site_ifaces}
use Rattle.edge_control.proofs.starting.site_ifaces.Given as goal

abbrev pub invariant-loop-number : goal.invariant-loop-number
invariant-loop-number l = l.found.items ++ site_ifaces l.vrf l.number (drop l.number l.ifaces) ≡ site_ifaces l.vrf 0 l.ifaces

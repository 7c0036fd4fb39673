use Rattle.std.proofs.Common.{◌≡◌, ◌++◌, drop}
use Rattle.edge_routes.specs.edge_home.Home.{own_from}
use Rattle.edge_routes.proofs.edge_home.own_vrf.own_vrfs.Given as goal

abbrev pub invariant-loop-number : goal.invariant-loop-number
invariant-loop-number l =
    l.own.items ++ own_from l.addr l.system l.me l.number (drop l.number l.vrfs) ≡ own_from l.addr l.system l.me 0 l.vrfs

use Rattle.std.proofs.Common.{◌≡◌, ◌++◌, drop, filter}
use Rattle.scenario_defs.specs.Vpn.{is_of_vrf}
use Rattle.mvpn_model.proofs.routing.own_ifaces.Given as goal

abbrev pub invariant-loop-iface : goal.invariant-loop-iface
invariant-loop-iface l = l.own.items ++ filter (is_of_vrf l.vrf) (drop l.iface-index l.ifaces) ≡ filter (is_of_vrf l.vrf) l.ifaces

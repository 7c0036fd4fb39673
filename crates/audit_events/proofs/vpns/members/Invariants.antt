use Rattle.std.proofs.Common.{◌≡◌, ◌++◌, drop}
use Rattle.audit_defs.specs.scenario_defs.Vpn.{same_vpn, ifaces_where}
use Rattle.audit_events.proofs.vpns.members.Given as goal

abbrev pub invariant-loop-number : goal.invariant-loop-number
invariant-loop-number l =
    l.all ++ ifaces_where (λ number iface. same_vpn l.scenario l.vrf iface.vrf) l.number (drop l.number l.ifaces)
    ≡ ifaces_where (λ number iface. same_vpn l.scenario l.vrf iface.vrf) 0 l.ifaces

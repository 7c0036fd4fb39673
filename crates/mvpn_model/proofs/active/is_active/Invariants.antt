use Rattle.std.proofs.Common.{◌≡◌, ◌||◌, drop}
use Rattle.std.specs.List.{list_any}
use Rattle.scenario_defs.specs.Vpn.{same_vpn, ifaces_where}
use Rattle.mvpn_model.specs.Past.{past_of, is_noted}
use Rattle.mvpn_model.proofs.active.is_active.Given as goal

abbrev pub invariant-loop-number : goal.invariant-loop-number
invariant-loop-number l =
    (l.active || list_any (λ iface. is_noted (past_of l.history) iface l.source l.group)
    (ifaces_where (λ number iface. same_vpn l.history.script.now.scenario l.vrf iface.vrf) l.number (drop l.number l.ifaces)))
    ≡ list_any (λ iface. is_noted (past_of l.history) iface l.source l.group)
    (ifaces_where (λ number iface. same_vpn l.history.script.now.scenario l.vrf iface.vrf) 0 l.ifaces)

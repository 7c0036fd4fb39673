use Rattle.std.proofs.Common.{◌≡◌, ◌++◌, drop}
use Rattle.scenario_defs.specs.Vpn.{ifaces_where}
use Rattle.mvpn_model.specs.Past.{past_of, receives}
use Rattle.mvpn_model.proofs.history.receiving.Given as goal

abbrev pub invariant-loop-number : goal.invariant-loop-number
invariant-loop-number l =
    l.found ++ ifaces_where (receives (past_of l.history) l.vrf l.site l.source l.group) l.number (drop l.number l.ifaces)
    ≡ ifaces_where (receives (past_of l.history) l.vrf l.site l.source l.group) 0 l.ifaces

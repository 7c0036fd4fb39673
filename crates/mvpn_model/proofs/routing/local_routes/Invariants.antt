use Rattle.std.proofs.Common.{◌≡◌, ◌++◌, drop}
use Rattle.scenario_defs.specs.Vpn.{is_attached_at}
use Rattle.scenario_defs.specs.Home.{routes_from}
use Rattle.mvpn_model.proofs.routing.local_routes.Given as goal

abbrev pub invariant-loop-number : goal.invariant-loop-number
invariant-loop-number l =
    l.all ++ routes_from (is_attached_at l.scenario l.vrf) l.number (drop l.number l.sites) ≡ routes_from (is_attached_at l.scenario l.vrf) 0 l.sites

use Rattle.std.proofs.Common.{◌≡◌, drop, filter}
use Rattle.std.specs.Prelude.{None}
use Rattle.mv_base.specs.Prefix.{covers}
use Rattle.scenario_defs.specs.Vpn.{is_attached}
use Rattle.scenario_defs.specs.Home.{longest_after, routes_from}
use Rattle.mvpn_model.proofs.routing.longest_route.Given as goal

abbrev pub invariant-loop-number : goal.invariant-loop-number
invariant-loop-number l =
    longest_after l.longest (filter (λ route. covers route.prefix l.source)
    (routes_from (is_attached l.scenario l.vrf) l.number (drop l.number l.sites)))
    ≡ longest_after None (filter (λ route. covers route.prefix l.source) (routes_from (is_attached l.scenario l.vrf) 0 l.sites))

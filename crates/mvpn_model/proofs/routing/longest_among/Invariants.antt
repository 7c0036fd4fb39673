use Rattle.std.proofs.Common.{◌≡◌, drop, filter}
use Rattle.mv_base.specs.Prefix.{covers}
use Rattle.scenario_defs.specs.Home.{longest_after}
use Rattle.mvpn_model.proofs.routing.longest_among.Given as goal

abbrev pub invariant-loop-route : goal.invariant-loop-route
invariant-loop-route l =
    longest_after l.longest (filter (λ route. covers route.prefix l.source) (drop l.route-index l.routes))
    ≡ longest_after l.initial.longest (filter (λ route. covers route.prefix l.source) l.routes)

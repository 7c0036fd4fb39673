use Rattle.std.proofs.Common.{◌≡◌, drop, filter}
use Rattle.mv_base.specs.Prefix.{covers}
use Rattle.scenario_defs.specs.Home.{longest_after, routes_of_site}
use Rattle.mvpn_model.proofs.routing.longest_of_site.Given as goal

abbrev pub invariant-loop-prefix : goal.invariant-loop-prefix
invariant-loop-prefix l =
    longest_after l.longest (filter (λ route. covers route.prefix l.source) (routes_of_site l.site (drop l.prefix-index l.prefixes)))
    ≡ longest_after l.initial.longest (filter (λ route. covers route.prefix l.source) (routes_of_site l.site l.prefixes))

use Rattle.std.proofs.Common.{◌≡◌, ◌++◌, drop}
use Rattle.audit_defs.specs.scenario_defs.Home.{routes_of_site}
use Rattle.audit_events.proofs.vpns.add_routes.Given as goal

abbrev pub invariant-loop-prefix : goal.invariant-loop-prefix
invariant-loop-prefix l = l.routes ++ routes_of_site l.site (drop l.prefix-index l.prefixes) ≡ l.initial.routes ++ routes_of_site l.site l.prefixes

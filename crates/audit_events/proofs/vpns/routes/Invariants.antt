use Rattle.std.proofs.Common.{◌≡◌, ◌++◌, drop}
use Rattle.audit_defs.specs.scenario_defs.Vpn.{is_attached}
use Rattle.audit_defs.specs.scenario_defs.Home.{routes_from}
use Rattle.audit_events.proofs.vpns.routes.Given as goal

abbrev pub invariant-loop-number : goal.invariant-loop-number
invariant-loop-number l =
    l.all ++ routes_from (is_attached l.scenario l.vrf) l.number (drop l.number l.sites) ≡ routes_from (is_attached l.scenario l.vrf) 0 l.sites

use Rattle.std.proofs.Common.{◌≡◌, ◌++◌, drop}
use Rattle.audit_events.specs.Vpns.{vpns_from}
use Rattle.audit_events.proofs.vpns.vpns.Given as goal

abbrev pub invariant-loop-number : goal.invariant-loop-number
invariant-loop-number l = l.all ++ vpns_from l.scenario l.number (drop l.number l.vrfs) ≡ vpns_from l.scenario 0 l.vrfs

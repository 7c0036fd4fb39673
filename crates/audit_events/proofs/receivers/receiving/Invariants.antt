use Rattle.std.proofs.Common.{◌≡◌, ◌++◌, drop, filter}
use Rattle.audit_events.specs.Joined.{kept_of}
use Rattle.audit_events.specs.Receivers.{receives_now}
use Rattle.audit_events.proofs.receivers.receiving.Given as goal

abbrev pub invariant-loop-iface : goal.invariant-loop-iface
invariant-loop-iface l =
    l.found ++ filter (receives_now l.scenario (kept_of l.joined) l.flow l.active) (drop l.iface-index l.members)
    ≡ filter (receives_now l.scenario (kept_of l.joined) l.flow l.active) l.members

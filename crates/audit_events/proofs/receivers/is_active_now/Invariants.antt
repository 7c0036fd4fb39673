use Rattle.std.proofs.Common.{◌≡◌, ◌||◌, drop}
use Rattle.std.specs.List.{list_any}
use Rattle.audit_events.specs.Joined.{kept_of, note_now}
use Rattle.audit_events.proofs.receivers.is_active_now.Given as goal

abbrev pub invariant-loop-iface : goal.invariant-loop-iface
invariant-loop-iface l =
    (l.active || list_any (λ iface. note_now l.scenario (kept_of l.joined) iface l.flow.source l.flow.group) (drop l.iface-index l.members))
    ≡ list_any (λ iface. note_now l.scenario (kept_of l.joined) iface l.flow.source l.flow.group) l.members

use Rattle.std.proofs.Common.{◌≡◌, drop}
use Rattle.audit_events.specs.Placed.{found}
use Rattle.audit_events.proofs.markers.next_marked.Given as goal

abbrev pub invariant-loop-place : goal.invariant-loop-place
invariant-loop-place l = found l.line l.from (drop l.from l.events) ≡ found l.line l.place (drop l.place l.events)

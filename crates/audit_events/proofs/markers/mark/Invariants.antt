use Rattle.audit_events.specs.Marking.{IsOnWay}
use Rattle.audit_events.proofs.markers.mark.Given as goal

abbrev pub invariant-loop-numbered : goal.invariant-loop-numbered
invariant-loop-numbered l = IsOnWay l.script l.report l.numbered-index l.marked l.next

use Rattle.std.proofs.Common.{◌≡◌, ◌≤◌, drop, length}
use Rattle.std.specs.Prelude.{reverse}
use Rattle.audit_events.specs.Fates.{closes, closings}
use Rattle.audit_events.proofs.fates.closings.Given as goal

abbrev pub invariant-loop-left : goal.invariant-loop-left
invariant-loop-left l = record {
  within : l.left ≤ length l.events;
  so_far : l.after ≡ closes (drop l.left l.events) (drop l.left l.fates);
  each : l.all.items ≡ reverse (closings (drop l.left l.events) (drop l.left l.fates));
}

abbrev pub decreases-loop-left : goal.decreases-loop-left
decreases-loop-left l = l.left

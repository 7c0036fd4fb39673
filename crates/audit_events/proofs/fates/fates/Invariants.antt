use Rattle.std.proofs.Common.{◌≡◌, ◌++◌, drop}
use Rattle.audit_events.specs.Fates.{fates_from}
use Rattle.audit_events.proofs.fates.fates.Given as goal

abbrev pub invariant-loop-number : goal.invariant-loop-number
invariant-loop-number l = l.all ++ fates_from l.number (drop l.number l.events) l.left ≡ fates_from 0 l.events l.fn.marked

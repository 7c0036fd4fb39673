use Rattle.std.proofs.Common.{◌≡◌, ◌++◌, take}
use Rattle.audit_events.specs.Joined.{named_of_group}
use Rattle.audit_events.proofs.joined.add_named.Given as goal

abbrev pub invariant-loop-source : goal.invariant-loop-source
invariant-loop-source l = l.named ≡ l.initial.named ++ named_of_group l.iface l.group (take l.source-index l.sources)

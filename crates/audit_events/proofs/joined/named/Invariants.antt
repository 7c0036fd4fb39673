use Rattle.std.proofs.Common.{◌≡◌, ◌++◌, take}
use Rattle.std.specs.List.{flat_map}
use Rattle.audit_events.specs.Joined.{named_of_group}
use Rattle.audit_events.proofs.joined.named.Given as goal

abbrev pub invariant-loop-group : goal.invariant-loop-group
invariant-loop-group l = l.all ≡ flat_map (λ group. named_of_group l.iface group.group (group.joins ++ group.prunes)) (take l.group-index l.groups)

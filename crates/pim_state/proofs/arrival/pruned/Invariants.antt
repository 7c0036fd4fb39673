use Rattle.std.proofs.Common.{◌≡◌, take}
use Rattle.std.specs.List.{list_any}
use Rattle.scenario_defs.specs.declared.event.JoinEntry.{JoinEntry}
use Rattle.pim_defs.specs.Mention.{lists}
use Rattle.pim_state.specs.Plan.{is_among}
use Rattle.pim_state.proofs.arrival.pruned.Given as goal

abbrev pub invariant-loop-group : goal.invariant-loop-group
invariant-loop-group l =
    (entry : JoinEntry) → is_among l.entries.keys entry ≡ list_any (λ group. lists group.group group.prunes entry) (take l.group-index l.groups)

use Rattle.std.proofs.Common.{◌≡◌, ◌||◌, take}
use Rattle.scenario_defs.specs.declared.event.JoinEntry.{JoinEntry}
use Rattle.pim_defs.specs.Mention.{lists}
use Rattle.pim_state.specs.Plan.{is_among}
use Rattle.pim_state.proofs.arrival.add_named.Given as goal

abbrev pub invariant-loop-source : goal.invariant-loop-source
invariant-loop-source l =
    (entry : JoinEntry) → is_among l.entries.keys entry
    ≡ (is_among l.initial.entries.keys entry || lists l.group (take l.source-index l.sources) entry)

use Rattle.std.proofs.Common.{◌∙◌, ap}
use Rattle.std.specs.Prelude.{fold}
use Rattle.mvpn_tool.specs.Sweep.{with_line}
use Rattle.mvpn_tool.proofs.FirstEventLemmas.{reached_clock, reached_event}
use Rattle.mvpn_tool.proofs.SweepLemmas.{event_counted, event_lacks_label}
use Rattle.mvpn_tool.proofs.sweep.sweep_event.Goals as goal

pub step-requires-clause-event : goal.step-requires-clause-event
step-requires-clause-event c = λ going. reached_event c.args.timed.now c.args.world.now c.requires

pub step-requires-clause-clock : goal.step-requires-clause-clock
step-requires-clause-clock c = λ going. reached_clock c.args.timed.now c.args.world.now c.requires

pub returns-in-Ok-clause-ends : goal.returns-in-Ok-clause-ends
returns-in-Ok-clause-ends c =
    event_counted c.args.timed.now c.args.world.now c.step.new.self c.args.counts.now c.add_all.new.self _ _ c.new-lines.ensures c.in-Ok.ensures
    (c.in_ok-add_all-in-Ok.ensures ∙ ap (fold with_line c.args.counts.now) c.as_slice.ensures)

pub returns-clause-ends : goal.returns-clause-ends
returns-clause-ends c =
    event_lacks_label c.args.timed.now c.args.world.now c.step.new.self c.args.counts.now c.args.counts.now _ _ c.new-lines.ensures
    c.in-Err-NoLabel.field-0-0
    (rw c.in-Err-NoLabel.field-0-is at c.in-Err-NoLabel.ensures)

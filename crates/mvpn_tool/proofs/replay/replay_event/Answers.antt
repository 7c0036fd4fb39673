use Rattle.mvpn_tool.proofs.EventLemmas.{event_lacks, event_made, event_stops, lacking_are_known, made_are_known, made_may_be_written, reached}
use Rattle.mvpn_tool.proofs.FirstEventLemmas.{reached_clock, reached_event}
use Rattle.mvpn_tool.proofs.replay.replay_event.Goals as goal

pub step-requires-clause-event : goal.step-requires-clause-event
step-requires-clause-event g c =
    λ going. reached_event c.args.timed.now c.args.world.now
    (reached c.args.output c.args.scenario.now c.args.timed.now c.args.world.now c.args.so_far.now c.requires)

pub step-requires-clause-clock : goal.step-requires-clause-clock
step-requires-clause-clock g c =
    λ going. reached_clock c.args.timed.now c.args.world.now
    (reached c.args.output c.args.scenario.now c.args.timed.now c.args.world.now c.args.so_far.now c.requires)

pub write_event-requires-clause-names : goal.write_event-requires-clause-names
write_event-requires-clause-names g c =
    made_are_known c.args.output c.args.scenario.now c.args.timed.now c.args.world.now c.args.so_far.now c.step.new.self _ _ c.new-lines.ensures
    c.in-Ok.ensures c.requires
    (c.lines_are_known.ensures _ _ _ _ _ c.requires)

pub write_event-requires-clause-hops : goal.write_event-requires-clause-hops
write_event-requires-clause-hops g c =
    made_may_be_written c.args.output c.args.scenario.now c.args.timed.now c.args.world.now c.args.so_far.now c.step.new.self _ _ c.new-lines.ensures
    c.in-Ok.ensures c.requires
    (c.hops_are_known.ensures _ _ _ _ _ c.requires)

pub returns-in-Ok-clause-ends : goal.returns-in-Ok-clause-ends
returns-in-Ok-clause-ends g c =
    event_made c.args.output c.args.scenario.now c.args.timed.now c.args.world.now c.args.so_far.now c.step.new.self _ _ c.new-lines.ensures
    c.in-Ok.ensures
    (c.lines_are_known.ensures _ _ _ _ _) (rw c.as_slice.ensures at c.have_type_bounds.ensures) c.write_event.new.so_far _ _ c.write_event.result
    c.write_event.ensures.ok c.write_event.ensures.kept c.write_event.ensures.err c.write_event.ensures.others

pub returns-in-Err-NoMemory-clause-ends : goal.returns-in-Err-NoMemory-clause-ends
returns-in-Err-NoMemory-clause-ends g c =
    event_stops c.args.output c.args.scenario.now c.args.timed.now c.args.world.now c.args.so_far.now c.step.new.self c.args.so_far.now
    (g.K.Sink.written c.args.sink.now)

pub write_halt-requires : goal.write_halt-requires
write_halt-requires g c =
    lacking_are_known c.args.output c.args.scenario.now c.args.timed.now c.args.world.now c.args.so_far.now c.step.new.self _ _ c.new-lines.ensures
    c.in-Err-NoLabel.node
    (rw c.in-Err-NoLabel.field-0-is at c.in-Err-NoLabel.ensures) c.requires (c.lines_are_known.ensures _ _ _ _ _ c.requires)

pub returns-clause-ends : goal.returns-clause-ends
returns-clause-ends g c =
    event_lacks c.args.output c.args.scenario.now c.args.timed.now c.args.world.now c.args.so_far.now c.step.new.self _ _ c.new-lines.ensures
    c.in-Err-NoLabel.node
    (rw c.in-Err-NoLabel.field-0-is at c.in-Err-NoLabel.ensures) c.args.so_far.now _ _ c.write_halt.result c.write_halt.ensures.label
    c.write_halt.ensures.part

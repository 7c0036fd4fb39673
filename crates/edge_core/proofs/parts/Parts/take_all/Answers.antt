use Rattle.std.proofs.Common.{refl}
use Rattle.edge_routing.specs.edge_streams.Kept.{session}
use Rattle.edge_routing.specs.edge_streams.Streams.{drained}
use Rattle.edge_core.proofs.TakingLemmas.{all_waiting, none_waiting, one_fewer, one_stopped, one_taken, still_ready}
use Rattle.edge_core.proofs.parts.Parts.take_all.Goals as goal

pub loop-message-init : goal.loop-message-init
loop-message-init g c =
    all_waiting c.args.core.now c.args.now (session g.M.EdgeMessage.protocol c.args.peer) c.args.self.now c.requires.there c.requires.ready.live

pub take-requires-clause-ready : goal.take-requires-clause-ready
take-requires-clause-ready g c =
    let own = session g.M.EdgeMessage.protocol c.args.peer in (
      drained own c.args.self.now.streams,
      still_ready c.args.core.now c.args.now own c.args.self.now c.loop-message.self c.loop-message.invariant c.next.new.streams c.requires.ready,
    )

pub loop-message-preserved : goal.loop-message-preserved
loop-message-preserved g c =
    let own = session g.M.EdgeMessage.protocol c.args.peer in
    let first = c.args.self.now in
    let are = c.loop-message.invariant in
    one_taken c.args.core.now c.args.now own first c.loop-message.self are c.next.new.streams (g.M.EdgeMessage.of_session c.in-Some.message)
    c.in-Some.ensures.first c.take.new.edge c.take.ensures.same
    (c.in_default-take.ensures.settles (drained own first.streams)
    (still_ready c.args.core.now c.args.now own first c.loop-message.self are c.next.new.streams c.requires.ready))

pub loop-message-smaller : goal.loop-message-smaller
loop-message-smaller g c =
    one_fewer c.args.core.now c.args.now (session g.M.EdgeMessage.protocol c.args.peer) c.args.self.now c.loop-message.self c.loop-message.invariant
    c.next.new.streams (g.M.EdgeMessage.of_session c.in-Some.message) c.in-Some.ensures.first c.take.new.edge c.take.ensures.same

pub returns-in-Err-clause-settles : goal.returns-in-Err-clause-settles
returns-in-Err-clause-settles g c =
    let own = session g.M.EdgeMessage.protocol c.args.peer in
    let first = c.args.self.now in
    let are = c.loop-message.invariant in
    one_stopped c.args.core.now c.args.now own first c.loop-message.self are c.next.new.streams (g.M.EdgeMessage.of_session c.in-Some.message)
    c.in-Some.ensures.first c.take.new.edge c.in-Err.fault (c.in-Err.ensures.only c.in-Err.fault refl)
    (c.in-Err.ensures.settles (drained own first.streams)
    (still_ready c.args.core.now c.args.now own first c.loop-message.self are c.next.new.streams c.requires.ready))

pub returns-clause-settles : goal.returns-clause-settles
returns-clause-settles g c =
    none_waiting c.args.core.now c.args.now (session g.M.EdgeMessage.protocol c.args.peer) c.args.self.now c.loop-message.self
    c.loop-message.invariant c.next.new.streams c.in_default.ensures.first

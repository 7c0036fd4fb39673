use Rattle.std.proofs.Common.{◌≡◌, OnOk, None, Err, refl, subst}
use Rattle.scenario_defs.specs.declared.event.Kind.{Kind}
use Rattle.network_defs.specs.session_defs.PeerSession.{fault_at, stream_at}
use Rattle.edge_routing.specs.edge_streams.Kept.{session}
use Rattle.edge_routing.specs.edge_streams.Streams.{drained}
use Rattle.edge_routing.proofs.edge_streams.FedLemmas.{fed_there}
use Rattle.edge_core.specs.Called.{going}
use Rattle.edge_core.specs.Taking.{IsSessionFault}
use Rattle.edge_core.specs.declared.fault.EdgeFault.{EdgeFault}
use Rattle.edge_core.proofs.TakingLemmas.{mid_live, octets_stopped, octets_taken, up_there}
use Rattle.edge_core.proofs.parts.Parts.take_octets.Goals as goal

pub take_all-requires-clause-there : goal.take_all-requires-clause-there
take_all-requires-clause-there g c =
    let kind = g.M.EdgeMessage.protocol in
    let old = c.args.self.now in
    fed_there (session kind c.args.peer) c.args.bytes.now old.streams c.feed.new.streams
    (up_there kind c.args.peer old c.requires.ready.live c.requires.up) c.in_ok-feed.ensures

pub take_all-requires-clause-ready : goal.take_all-requires-clause-ready
take_all-requires-clause-ready g c =
    let kind = g.M.EdgeMessage.protocol in
    let old = c.args.self.now in
    record {
      live =
          mid_live c.args.core.now c.args.now kind c.args.peer c.args.bytes.now old old c.feed.new.streams
          (drained (session kind c.args.peer) c.feed.new.streams)
          c.requires.ready.live (up_there kind c.args.peer old c.requires.ready.live c.requires.up) c.in_ok-feed.ensures refl;
      nodes = c.requires.ready.nodes;
      clock = c.requires.ready.clock;
    }

pub returns-in-Ok-clause-answers : goal.returns-in-Ok-clause-answers
returns-in-Ok-clause-answers g c =
    let kind = g.M.EdgeMessage.protocol in
    let old = c.args.self.now in
    let own = session kind c.args.peer in
    let new = c.take_all.new.self in
    octets_taken c.args.core.now c.args.now kind c.args.peer c.args.bytes.now old new c.feed.new.streams (drained own c.feed.new.streams)
    c.requires.ready.live (up_there kind c.args.peer old c.requires.ready.live c.requires.up) c.in_ok-feed.ensures refl
    (stream_at c.feed.new.streams own).waiting refl c.sound.result
    (subst (λ (k : Kind). OnOk c.sound.result (fault_at new.streams (session k c.args.peer) ≡ None)) c.kind.ensures c.sound.ensures.sound)
    (subst (λ (k : Kind). (fault : EdgeFault) → c.sound.result ≡ Err fault → IsSessionFault (session k c.args.peer) (going new) fault)
    c.kind.ensures c.sound.ensures.fault) c.in-Ok.ensures.settles

pub returns-in-Err-clause-answers : goal.returns-in-Err-clause-answers
returns-in-Err-clause-answers g c =
    let kind = g.M.EdgeMessage.protocol in
    let old = c.args.self.now in
    let own = session kind c.args.peer in
    octets_stopped c.args.core.now c.args.now kind c.args.peer c.args.bytes.now old c.take_all.new.self c.feed.new.streams
    (drained own c.feed.new.streams)
    c.requires.ready.live (up_there kind c.args.peer old c.requires.ready.live c.requires.up) c.in_ok-feed.ensures refl
    (stream_at c.feed.new.streams own).waiting refl
    c.in-Err.fault (c.in-Err.ensures.only c.in-Err.fault refl) c.in-Err.ensures.settles

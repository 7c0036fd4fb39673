use Rattle.std.proofs.Common.{refl}
use Rattle.network_defs.specs.session_defs.PeerSession.{stream_at}
use Rattle.wire_laws.specs.CoreNodes.{ldp_with}
use Rattle.edge_streams.specs.Streams.{drained}
use Rattle.edge_streams.proofs.FedLemmas.{fed_there}
use Rattle.network_nodes.proofs.core_node.TakingLemmas.{mid_live, octets_stopped, octets_taken, up_there}
use Rattle.network_nodes.proofs.core_node.parts.Parts.take.Goals as goal

pub take_labels-requires-clause-there : goal.take_labels-requires-clause-there
take_labels-requires-clause-there c =
    let old = c.args.self.now in
    fed_there (ldp_with c.args.peer) c.args.bytes.now old.streams c.feed_ldp.new.self (up_there c.args.peer old c.requires.live c.requires.up)
    c.in_ok-feed_ldp.ensures.fed

pub take_labels-requires-clause-live : goal.take_labels-requires-clause-live
take_labels-requires-clause-live c =
    let old = c.args.self.now in
    mid_live c.args.core.now c.args.now c.args.peer c.args.bytes.now old old c.feed_ldp.new.self
    (drained (ldp_with c.args.peer) c.feed_ldp.new.self) c.requires.live
    (up_there c.args.peer old c.requires.live c.requires.up)
    c.in_ok-feed_ldp.ensures.fed refl

pub returns-in-Ok-clause-answers : goal.returns-in-Ok-clause-answers
returns-in-Ok-clause-answers c =
    let old = c.args.self.now in
    let own = ldp_with c.args.peer in
    octets_taken c.args.core.now c.args.now c.args.peer c.args.bytes.now old c.take_labels.new.self c.feed_ldp.new.self
    (drained own c.feed_ldp.new.self)
    c.requires.live (up_there c.args.peer old c.requires.live c.requires.up)
    c.in_ok-feed_ldp.ensures.fed refl (stream_at c.feed_ldp.new.self own).waiting refl
    c.sound.result c.sound.ensures.sound c.sound.ensures.fault c.in-Ok.ensures.settles

pub returns-in-Err-clause-answers : goal.returns-in-Err-clause-answers
returns-in-Err-clause-answers c =
    let old = c.args.self.now in
    let own = ldp_with c.args.peer in
    octets_stopped c.args.core.now c.args.now c.args.peer c.args.bytes.now old c.take_labels.new.self c.feed_ldp.new.self
    (drained own c.feed_ldp.new.self)
    c.requires.live (up_there c.args.peer old c.requires.live c.requires.up)
    c.in_ok-feed_ldp.ensures.fed refl (stream_at c.feed_ldp.new.self own).waiting refl
    c.in-Err.fault (c.in-Err.ensures.only c.in-Err.fault refl) c.in-Err.ensures.settles

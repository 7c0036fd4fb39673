use Rattle.std.proofs.Common.{refl}
use Rattle.edge_defs.specs.Steps.{Update}
use Rattle.edge_routing.specs.edge_labels.declared.own_call.OwnCall.TheVariants as owns
use Rattle.edge_core.specs.Called.{going, with_streams}
use Rattle.edge_core.proofs.SessionLemmas.{midway}
use Rattle.edge_core.proofs.octets.MessageEdgeMessage.take.Goals as goal

pub settle-requires-clause-called : goal.settle-requires-clause-called
settle-requires-clause-called c =
    let old = with_streams c.requires.ready.0 c.args.edge.now in
    let ready = c.requires.ready.1 in
    record {
      call = Update c.args.peer c.args.self;
      old = going old;
      is = midway c.args.core.now c.args.now owns.None (Update c.args.peer c.args.self) old c.take_update-told.new.self old.streams
          c.take_update-told.result refl
          ready.live ready.nodes refl tt refl c.take_update-told.ensures.home c.take_update-told.ensures.stepped;
    }

pub returns-clause-settles : goal.returns-clause-settles
returns-clause-settles c = λ streams ready.
    let old = with_streams streams c.args.edge.now in
    c.settle.ensures.beside streams (Update c.args.peer c.args.self) (going old)
    (midway c.args.core.now c.args.now owns.None (Update c.args.peer c.args.self) old c.take_update-told.new.self old.streams c.take_update-told.result refl
    ready.live ready.nodes refl tt refl c.take_update-told.ensures.home c.take_update-told.ensures.stepped)

use Rattle.std.proofs.Common.{refl}
use Rattle.edge_defs.specs.Steps.{Label}
use Rattle.edge_routing.specs.edge_labels.declared.own_call.OwnCall.TheVariants as owns
use Rattle.edge_core.specs.Called.{going, with_streams}
use Rattle.edge_core.proofs.SessionLemmas.{label_spelled, midway, step_as}
use Rattle.edge_core.proofs.octets.LabelMessageEdgeMessage.take.Goals as goal

pub settle-requires-clause-called : goal.settle-requires-clause-called
settle-requires-clause-called c =
    let old = with_streams c.requires.ready.0 c.args.edge.now in
    let ready = c.requires.ready.1 in
    record {
      call = Label c.args.peer c.args.self;
      old = going old;
      is = midway c.args.core.now c.args.now (owns.Take c.args.peer c.args.self) (Label c.args.peer c.args.self) old c.step-told.new.self old.streams
          c.step-told.result refl
          ready.live ready.nodes refl (label_spelled c.args.self c.requires.writable) refl c.step-told.ensures.home
          (step_as c.args.core.now c.args.now old.routing c.step-told.new.self (Label c.args.peer c.args.self) c.step-told.result (λ place control. refl)
          (λ peer octets. refl) c.step-told.ensures.stepped);
    }

pub returns-clause-settles : goal.returns-clause-settles
returns-clause-settles c = λ streams ready.
    let old = with_streams streams c.args.edge.now in
    c.settle.ensures.beside streams (Label c.args.peer c.args.self) (going old)
    (midway c.args.core.now c.args.now (owns.Take c.args.peer c.args.self) (Label c.args.peer c.args.self) old c.step-told.new.self old.streams
    c.step-told.result refl
    ready.live ready.nodes refl (label_spelled c.args.self c.requires.writable) refl c.step-told.ensures.home
    (step_as c.args.core.now c.args.now old.routing c.step-told.new.self (Label c.args.peer c.args.self) c.step-told.result (λ place control. refl)
    (λ peer octets. refl) c.step-told.ensures.stepped))

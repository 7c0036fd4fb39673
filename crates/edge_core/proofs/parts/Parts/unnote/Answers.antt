use Rattle.std.proofs.Common.{refl}
use Rattle.edge_defs.specs.Steps.{Customer, Idle}
use Rattle.edge_routing.specs.edge_labels.declared.own_call.OwnCall.TheVariants as owns
use Rattle.edge_core.specs.Called.{going}
use Rattle.edge_core.proofs.SessionLemmas.{midway}
use Rattle.edge_core.proofs.parts.Parts.unnote.Goals as goal

pub settle-requires-clause-called : goal.settle-requires-clause-called
settle-requires-clause-called c =
    let old = c.args.self.now in
    let call = Customer (Idle c.args.iface c.args.source c.args.group) in
    record {
      call = call;
      old = going old;
      is = midway c.args.core.now c.args.now owns.None call old c.unnote-told.new.self old.streams c.unnote-told.result refl c.requires.ready.live
          c.requires.ready.nodes refl tt refl c.unnote-told.ensures.home c.unnote-told.ensures.stepped;
    }

pub returns-clause-settles : goal.returns-clause-settles
returns-clause-settles c =
    let old = c.args.self.now in
    let call = Customer (Idle c.args.iface c.args.source c.args.group) in
    c.settle.ensures.answers call (going old)
    (midway c.args.core.now c.args.now owns.None call old c.unnote-told.new.self old.streams c.unnote-told.result refl c.requires.ready.live
    c.requires.ready.nodes refl tt refl c.unnote-told.ensures.home c.unnote-told.ensures.stepped)

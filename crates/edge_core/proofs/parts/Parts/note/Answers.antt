use Rattle.std.proofs.Common.{refl, Ok}
use Rattle.edge_defs.specs.Steps.{Customer, Active}
use Rattle.edge_routing.specs.edge_labels.declared.own_call.OwnCall.TheVariants as owns
use Rattle.edge_core.specs.Called.{going}
use Rattle.edge_core.proofs.SessionLemmas.{midway}
use Rattle.edge_core.proofs.parts.Parts.note.Goals as goal

pub settle-requires-clause-called : goal.settle-requires-clause-called
settle-requires-clause-called c =
    let old = c.args.self.now in
    let call = Customer (Active c.args.iface c.args.source c.args.group) in
    record {
      call = call;
      old = going old;
      is = midway c.args.core.now c.args.now owns.None call old c.note.new.self old.streams (Ok c.in-Ok.told) refl c.requires.ready.live c.requires.ready.nodes
          refl tt refl c.note.ensures.home c.in-Ok.ensures.stepped;
    }

pub returns-in-Ok-clause-settles : goal.returns-in-Ok-clause-settles
returns-in-Ok-clause-settles c =
    let old = c.args.self.now in
    let call = Customer (Active c.args.iface c.args.source c.args.group) in
    c.settle.ensures.answers call (going old)
    (midway c.args.core.now c.args.now owns.None call old c.note.new.self old.streams (Ok c.in-Ok.told) refl c.requires.ready.live c.requires.ready.nodes refl tt
    refl c.note.ensures.home c.in-Ok.ensures.stepped)

use Rattle.std.proofs.Common.{refl}
use Rattle.edge_defs.specs.Steps.{Rerouted}
use Rattle.edge_routing.specs.edge_labels.declared.own_call.OwnCall.TheVariants as owns
use Rattle.edge_core.specs.Called.{going}
use Rattle.edge_core.proofs.SessionLemmas.{midway}
use Rattle.edge_core.proofs.parts.Parts.reroute.Goals as goal

pub settle-requires-clause-called : goal.settle-requires-clause-called
settle-requires-clause-called c =
    let old = c.args.self.now in
    record {
      call = Rerouted;
      old = going old;
      is = midway c.args.core.now c.args.now owns.Reroute Rerouted old c.step-told.new.self old.streams c.step-told.result refl c.requires.ready.live
          c.requires.ready.nodes refl tt refl c.step-told.ensures.home
          c.step-told.ensures.stepped;
    }

pub returns-clause-settles : goal.returns-clause-settles
returns-clause-settles c =
    let old = c.args.self.now in
    c.settle.ensures.answers Rerouted (going old)
    (midway c.args.core.now c.args.now owns.Reroute Rerouted old c.step-told.new.self old.streams c.step-told.result refl c.requires.ready.live
    c.requires.ready.nodes refl tt refl c.step-told.ensures.home
    c.step-told.ensures.stepped)

pub returns-clause-toward : goal.returns-clause-toward
returns-clause-toward c = c.settle.ensures.toward refl

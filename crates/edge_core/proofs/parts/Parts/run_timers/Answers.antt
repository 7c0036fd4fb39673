use Rattle.std.proofs.Common.{refl}
use Rattle.edge_defs.specs.Steps.{Timers}
use Rattle.edge_routing.specs.edge_labels.declared.own_call.OwnCall.TheVariants as owns
use Rattle.edge_core.specs.Called.{going}
use Rattle.edge_core.proofs.SessionLemmas.{midway}
use Rattle.edge_core.proofs.parts.Parts.run_timers.Goals as goal

pub settle-requires-clause-called : goal.settle-requires-clause-called
settle-requires-clause-called c =
    let old = c.args.self.now in
    record {
      call = Timers;
      old = going old;
      is = midway c.args.core.now c.args.now owns.Timers Timers old c.run_timers-told.new.self old.streams c.run_timers-told.result refl
          c.requires.ready.live c.requires.ready.nodes refl tt refl c.run_timers-told.ensures.home
          c.run_timers-told.ensures.stepped;
    }

pub returns-clause-settles : goal.returns-clause-settles
returns-clause-settles c =
    let old = c.args.self.now in
    c.settle.ensures.answers Timers (going old)
    (midway c.args.core.now c.args.now owns.Timers Timers old c.run_timers-told.new.self old.streams c.run_timers-told.result refl c.requires.ready.live
    c.requires.ready.nodes refl tt refl c.run_timers-told.ensures.home
    c.run_timers-told.ensures.stepped)

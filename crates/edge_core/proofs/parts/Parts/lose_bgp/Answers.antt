use Rattle.std.proofs.Common.{refl}
use Rattle.scenario_defs.specs.declared.event.Kind.TheVariants as kinds
use Rattle.edge_defs.specs.Steps.{Noticed}
use Rattle.edge_routing.specs.edge_labels.declared.own_call.OwnCall.TheVariants as owns
use Rattle.edge_core.specs.Answers.{streams_after}
use Rattle.edge_core.specs.Called.{going}
use Rattle.edge_core.proofs.SessionLemmas.{midway_raised}
use Rattle.edge_core.proofs.parts.Parts.lose_bgp.Goals as goal

pub settle-requires-clause-called : goal.settle-requires-clause-called
settle-requires-clause-called c =
    let old = c.args.self.now in
    record {
      call = Noticed kinds.Bgp c.args.peer;
      old = going old;
      is = midway_raised c.args.core.now c.args.now owns.None (Noticed kinds.Bgp c.args.peer) old c.lose-told.new.self
          (streams_after (Noticed kinds.Bgp c.args.peer) old.streams)
          c.lose-2.new.self c.lose-told.result c.lose-2.ensures c.requires.ready.live c.requires.ready.nodes refl tt refl c.lose-told.ensures.home
          c.lose-told.ensures.stepped;
    }

pub returns-clause-settles : goal.returns-clause-settles
returns-clause-settles c =
    let old = c.args.self.now in
    c.settle.ensures.answers (Noticed kinds.Bgp c.args.peer) (going old)
    (midway_raised c.args.core.now c.args.now owns.None (Noticed kinds.Bgp c.args.peer) old c.lose-told.new.self c.lose.new.self c.lose-2.new.self
    c.lose-told.result c.lose-2.ensures c.requires.ready.live c.requires.ready.nodes refl tt c.lose.ensures c.lose-told.ensures.home
    c.lose-told.ensures.stepped)

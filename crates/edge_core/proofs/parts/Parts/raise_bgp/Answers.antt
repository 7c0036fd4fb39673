use Rattle.std.proofs.Common.{refl}
use Rattle.scenario_defs.specs.declared.event.Kind.TheVariants as kinds
use Rattle.edge_defs.specs.Steps.{Raised}
use Rattle.edge_routing.specs.edge_labels.declared.own_call.OwnCall.TheVariants as owns
use Rattle.edge_core.specs.Answers.{streams_after}
use Rattle.edge_core.specs.Called.{going}
use Rattle.edge_core.proofs.SessionLemmas.{midway_raised}
use Rattle.edge_core.proofs.parts.Parts.raise_bgp.Goals as goal

pub settle-requires-clause-called : goal.settle-requires-clause-called
settle-requires-clause-called c =
    let old = c.args.self.now in
    record {
      call = Raised kinds.Bgp c.args.peer;
      old = going old;
      is = midway_raised c.args.core.now c.args.now owns.None (Raised kinds.Bgp c.args.peer) old c.raise-told.new.self
          (streams_after (Raised kinds.Bgp c.args.peer) old.streams)
          c.raise-2.new.self c.raise-told.result c.in_ok-raise-2.ensures c.requires.ready.live c.requires.ready.nodes refl tt refl
          c.raise-told.ensures.home
          c.raise-told.ensures.stepped;
    }

pub returns-clause-settles : goal.returns-clause-settles
returns-clause-settles c =
    let old = c.args.self.now in
    c.settle.ensures.answers (Raised kinds.Bgp c.args.peer) (going old)
    (midway_raised c.args.core.now c.args.now owns.None (Raised kinds.Bgp c.args.peer) old c.raise-told.new.self c.raise.new.self c.raise-2.new.self
    c.raise-told.result c.in_ok-raise-2.ensures c.requires.ready.live c.requires.ready.nodes refl tt c.in_ok-raise.ensures.raised c.raise-told.ensures.home
    c.raise-told.ensures.stepped)

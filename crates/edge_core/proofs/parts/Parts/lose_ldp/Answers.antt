use Rattle.std.proofs.Common.{refl}
use Rattle.scenario_defs.specs.declared.event.Kind.TheVariants as kinds
use Rattle.edge_defs.specs.Steps.{Noticed}
use Rattle.edge_routing.specs.edge_labels.declared.own_call.OwnCall.TheVariants as owns
use Rattle.edge_core.specs.Answers.{streams_after}
use Rattle.edge_core.specs.Called.{going}
use Rattle.edge_core.proofs.SessionLemmas.{midway, step_as}
use Rattle.edge_core.proofs.parts.Parts.lose_ldp.Goals as goal

pub settle-requires-clause-called : goal.settle-requires-clause-called
settle-requires-clause-called c =
    let old = c.args.self.now in
    record {
      call = Noticed kinds.Ldp c.args.peer;
      old = going old;
      is = midway c.args.core.now c.args.now (owns.Notice c.args.peer) (Noticed kinds.Ldp c.args.peer) old c.step-told.new.self
          (streams_after (Noticed kinds.Ldp c.args.peer) old.streams)
          c.step-told.result refl c.requires.ready.live c.requires.ready.nodes refl tt refl c.step-told.ensures.home
          (step_as c.args.core.now c.args.now old.routing c.step-told.new.self (Noticed kinds.Ldp c.args.peer) c.step-told.result
          (λ place control. refl) (λ peer octets. refl) c.step-told.ensures.stepped);
    }

pub returns-clause-settles : goal.returns-clause-settles
returns-clause-settles c =
    let old = c.args.self.now in
    c.settle.ensures.answers (Noticed kinds.Ldp c.args.peer) (going old)
    (midway c.args.core.now c.args.now (owns.Notice c.args.peer) (Noticed kinds.Ldp c.args.peer) old c.step-told.new.self c.lose.new.self
    c.step-told.result refl c.requires.ready.live c.requires.ready.nodes refl tt c.lose.ensures c.step-told.ensures.home
    (step_as c.args.core.now c.args.now old.routing c.step-told.new.self (Noticed kinds.Ldp c.args.peer) c.step-told.result (λ place control. refl)
    (λ peer octets. refl) c.step-told.ensures.stepped))

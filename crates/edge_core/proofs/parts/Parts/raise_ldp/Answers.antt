use Rattle.std.specs.FinMap as maps
use Rattle.std.proofs.Common.{refl}
use Rattle.scenario_defs.specs.declared.event.Kind.TheVariants as kinds
use Rattle.edge_defs.specs.Steps.{Raised}
use Rattle.edge_routing.specs.edge_labels.declared.own_call.OwnCall.TheVariants as owns
use Rattle.edge_core.specs.Answers.{streams_after}
use Rattle.edge_core.specs.Called.{going}
use Rattle.edge_core.proofs.SessionLemmas.{is_down, midway, step_as}
use Rattle.edge_core.proofs.parts.Parts.raise_ldp.Goals as goal

pub settle-requires-clause-called : goal.settle-requires-clause-called
settle-requires-clause-called c =
    let old = c.args.self.now in
    record {
      call = Raised kinds.Ldp c.args.peer;
      old = going old;
      is = midway c.args.core.now c.args.now (owns.Raise c.args.peer) (Raised kinds.Ldp c.args.peer) old c.step-told.new.self
          (streams_after (Raised kinds.Ldp c.args.peer) old.streams)
          c.step-told.result refl c.requires.ready.live c.requires.ready.nodes refl
          (λ unspent. is_down (maps.get c.args.self.now.labels.node.part.ends c.args.peer) c.requires.down) refl
          c.step-told.ensures.home
          (step_as c.args.core.now c.args.now old.routing c.step-told.new.self (Raised kinds.Ldp c.args.peer) c.step-told.result
          (λ place control. refl) (λ peer octets. refl) c.step-told.ensures.stepped);
    }

pub returns-clause-settles : goal.returns-clause-settles
returns-clause-settles c =
    let old = c.args.self.now in
    c.settle.ensures.answers (Raised kinds.Ldp c.args.peer) (going old)
    (midway c.args.core.now c.args.now (owns.Raise c.args.peer) (Raised kinds.Ldp c.args.peer) old c.step-told.new.self c.raise.new.self
    c.step-told.result refl c.requires.ready.live c.requires.ready.nodes refl
    (λ unspent. is_down (maps.get c.args.self.now.labels.node.part.ends c.args.peer) c.requires.down) c.in_ok-raise.ensures.raised
    c.step-told.ensures.home
    (step_as c.args.core.now c.args.now old.routing c.step-told.new.self (Raised kinds.Ldp c.args.peer) c.step-told.result (λ place control. refl)
    (λ peer octets. refl) c.step-told.ensures.stepped))

use Rattle.std.proofs.Common.{refl}
use Rattle.edge_defs.specs.Steps.{Customer, Unselect}
use Rattle.edge_core.proofs.CallLemmas.{any_topology, call_seen, none_after, plain_call}
use Rattle.edge_core.proofs.edge.Edge.unselect.Goals as goal

pub invariant_of-self : goal.invariant_of-self
invariant_of-self c = λ e.
    let settled = c.unselect-answer.ensures.settles any_topology 0 in
    settled.live (none_after c.spent_by-self-inside.result c.unselect-answer.result c.spent_by-self-inside.ensures e)

pub returns : goal.returns
returns c = λ core now.
    call_seen core now (Customer (Unselect c.args.vrf c.args.pattern)) c.self.inside.parts c.unselect-answer.new.self c.self.inside.spent
    c.spent_by-self-inside.result c.args.self.now c.unselect-answer.result c.in_default.is c.self.view_is c.spent_by-self-inside.ensures
    (plain_call core now (Customer (Unselect c.args.vrf c.args.pattern)) c.self.inside.parts c.unselect-answer.new.self c.unselect-answer.result
    (λ control. refl) refl (c.unselect-answer.ensures.settles core now) c.unselect-answer.ensures.only tt)

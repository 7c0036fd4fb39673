use Rattle.edge_defs.specs.Steps.{Customer, Select}
use Rattle.edge_core.specs.Calls.{MakesCall}
use Rattle.edge_core.proofs.CallLemmas.{any_topology, call_seen, none_after}
use Rattle.edge_core.proofs.edge.Edge.select.Goals as goal

pub invariant_of-self : goal.invariant_of-self
invariant_of-self c = λ e.
    let settled = c.select-answer.ensures.settles any_topology in
    settled.live (none_after c.spent_by-self-inside.result c.select-answer.result c.spent_by-self-inside.ensures e)

pub returns : goal.returns
returns c = λ core.
    let made : MakesCall core c.args.now (Customer (Select c.args.vrf c.args.pattern)) c.self.inside.parts c.select-answer.new.self c.select-answer.result =
    record {
      settles = c.select-answer.ensures.settles core;
      only = c.select-answer.ensures.only;
      fits = c.select-answer.ensures.fits;
      full = c.select-answer.ensures.full;
      toward = tt;
    } in
    call_seen core c.args.now (Customer (Select c.args.vrf c.args.pattern)) c.self.inside.parts c.select-answer.new.self c.self.inside.spent
    c.spent_by-self-inside.result c.args.self.now c.select-answer.result c.in_default.is c.self.view_is c.spent_by-self-inside.ensures made

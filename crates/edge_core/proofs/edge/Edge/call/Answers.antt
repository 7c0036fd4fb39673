use Rattle.std.proofs.Common.{◌∙◌, sym, subst}
use Rattle.edge_core.specs.Called.{seen}
use Rattle.edge_core.specs.Calls.{Fits, call_of}
use Rattle.edge_core.specs.View.{EdgeView}
use Rattle.edge_core.proofs.CallLemmas.{call_seen, none_after}
use Rattle.edge_core.proofs.edge.Edge.call.Goals as goal

pub call-answer-requires-clause-fits : goal.call-answer-requires-clause-fits
call-answer-requires-clause-fits c =
    subst (λ (edge : EdgeView). Fits edge (call_of c.args.call))
    (sym ((λ i. seen c.self.inside.parts (sym c.in_default.is i)) ∙ c.self.view_is)) c.requires.fits

pub invariant_of-self : goal.invariant_of-self
invariant_of-self c = λ e.
    c.call-answer.ensures.settles.live (none_after c.spent_by-self-inside.result c.call-answer.result c.spent_by-self-inside.ensures e)

pub returns : goal.returns
returns c =
    call_seen c.args.core.now c.args.now (call_of c.args.call) c.self.inside.parts c.call-answer.new.self c.self.inside.spent
    c.spent_by-self-inside.result c.args.self.now c.call-answer.result
    c.in_default.is c.self.view_is c.spent_by-self-inside.ensures c.call-answer.ensures

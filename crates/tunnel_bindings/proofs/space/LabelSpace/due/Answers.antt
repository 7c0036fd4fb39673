use Rattle.std.proofs.Common.{ap, ◌∙◌, List, count_by}
use Rattle.tunnel_bindings.specs.declared.state.Rest.{Rest}
use Rattle.tunnel_bindings.specs.Labels.{due_in}
use Rattle.tunnel_bindings.specs.Resting.{is_past}
use Rattle.tunnel_bindings.proofs.RestingLemmas.{due-tally}
use Rattle.tunnel_bindings.proofs.space.LabelSpace.due.Goals as goal

pub returns : goal.returns
returns c =
    let now = c.args.now in
    c.count_rested.ensures ∙ (ap (λ (rests : List Rest). count_by (is_past now) rests) c.deref.ensures.value
    ∙ (c.self.invariant.listed (is_past now) ∙ (due-tally now 0 c.self.inside.numbers ∙ ap (due_in now) c.self.view_is)))

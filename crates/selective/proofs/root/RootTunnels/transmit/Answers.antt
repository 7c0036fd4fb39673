use Rattle.std.proofs.Common.{List, ap, ◌∙◌}
use Rattle.selective_defs.specs.declared.selection.Selection.{Selection}
use Rattle.selective_defs.specs.Selective.{transmitted}
use Rattle.selective.specs.Roots.{added}
use Rattle.selective.proofs.RootLemmas.{added_within}
use Rattle.selective.proofs.root.RootTunnels.transmit.Goals as goal

pub lsp_number-requires-clause-number : goal.lsp_number-requires-clause-number
lsp_number-requires-clause-number c =
    added_within c.self.inside.selections.items c.args.source c.args.group c.transmit_number.result
    (c.transmit_number.ensures ∙ ap (λ (xs : List Selection). added (transmitted xs c.args.source c.args.group)) c.deref.ensures.value)
    c.self.invariant.kept

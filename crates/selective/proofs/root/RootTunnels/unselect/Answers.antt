use Rattle.std.proofs.Common.{not, ap, ◌∙◌}
use Rattle.selective_defs.specs.declared.selection.Selection.{Selection}
use Rattle.selective.specs.Roots.{is_of, number_at}
use Rattle.selective.proofs.RootLemmas.{number_within, filter_root}
use Rattle.selective.proofs.root.RootTunnels.unselect.Goals as goal

pub lsp_number_of-requires-clause-number : goal.lsp_number_of-requires-clause-number
lsp_number_of-requires-clause-number c =
    number_within c.args.pattern c.self.inside.selections.items c.number_of-number.result
    (c.number_of-number.ensures ∙ ap (number_at c.args.pattern) c.deref.ensures.value) c.self.invariant.kept

pub invariant_of-self : goal.invariant_of-self
invariant_of-self c =
    filter_root c.self.inside.number c.self.inside.delay (λ (s : Selection). not (is_of c.args.pattern s)) c.self.inside.selections.items
    c.forget.new.selections.items c.forget.ensures c.self.invariant

use Rattle.std.proofs.Common.{◌≡◌, ◌<◌, List, length, sym, ap, subst, ◌∙◌}
use Rattle.selective_defs.specs.declared.selection.Selection.{Selection}
use Rattle.selective_defs.specs.Selective.{next_number}
use Rattle.selective.specs.Roots.{Root, IsSelected}
use Rattle.selective.proofs.RootLemmas.{next_within, push_root}
use Rattle.selective.proofs.root.RootTunnels.select.Goals as goal

pub lsp_number-requires-clause-number : goal.lsp_number-requires-clause-number
lsp_number-requires-clause-number c =
    let same : c.self.inside.selections.items ≡ c.args.self.now.selections = ap (λ (r : Root). r.selections) c.self.view_is in
    next_within c.self.inside.selections.items c.next_number-number.result (c.next_number-number.ensures ∙ ap next_number c.deref.ensures.value)
    (subst (λ (xs : List Selection). length xs < 256) (sym same) c.requires.few)

pub invariant_of-self-2 : goal.invariant_of-self-2
invariant_of-self-2 c =
    let same : c.self.inside.selections.items ≡ c.args.self.now.selections = ap (λ (r : Root). r.selections) c.self.view_is in
    push_root c.self.inside.number c.self.inside.delay c.self.inside.selections.items c.push.new.self.items _ c.in_ok-push.ensures.items
    c.self.invariant
    (subst (λ (xs : List Selection). length xs < 256) (sym same) c.requires.few)
    (λ s. c.requires.new (subst (IsSelected c.args.pattern) same s))
    (c.next_number-number.ensures ∙ ap next_number c.deref.ensures.value)

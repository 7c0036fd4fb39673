use Rattle.std.proofs.Common.{rules, not}
use Rattle.std.proofs.lemmas.Fn.{filter_same}
use Rattle.selective_defs.specs.declared.selection.Selection.{Selection}
use Rattle.selective.specs.Roots.{is_of}
use Rattle.selective.proofs.root.forget.Goals as goal

pub returns : goal.returns
returns c = filter_same _ (λ (s : Selection). not (is_of c.args.pattern s)) _ (λ x b f t. search rules) _ _ c.retain.ensures.filtered

use Rattle.std.proofs.Common.{sym, ◌∙◌}
use Rattle.line_words.specs.Lines.{is_outside}
use Rattle.line_words.proofs.ListFacts.{none_first}
use Rattle.line_words.proofs.lines.first_outside.Goals as goal

pub returns-then-not-has_outside : goal.returns-then-not-has_outside
returns-then-not-has_outside c = sym (none_first is_outside c.args.octets.now (sym c.has_outside.ensures ∙ c.if-not-has_outside.true))

use Rattle.std.proofs.Common.{◌+◌, ◌∙◌, sym}
use Rattle.std.proofs.lemmas.List.{take_rest}
use Rattle.line_words.proofs.WordsLemmas.{lines-first, lines-whole}
use Rattle.line_words.proofs.words.split_line.Goals as goal

pub returns-in-Some-clause-line : goal.returns-in-Some-clause-line
returns-in-Some-clause-line c =
    rw (take_rest c.args.text.now (c.in-Some.place + 1), c.without_return.ensures.line)
    (lines-first c.args.text.now c.in-Some.place (sym c.place_of.ensures ∙ c.in-Some.is))

pub returns-in-None-clause-line : goal.returns-in-None-clause-line
returns-in-None-clause-line c = lines-whole c.args.text.now c.requires (sym c.place_of.ensures ∙ c.in-None.is)

use Rattle.std.proofs.Common.{◌+◌, ◌∙◌, sym}
use Rattle.std.proofs.lemmas.List.{take_rest}
use Rattle.line_words.proofs.WordsLemmas.{words-first, words-whole}
use Rattle.line_words.proofs.words.split_space.Goals as goal

pub returns-in-Some-clause-words : goal.returns-in-Some-clause-words
returns-in-Some-clause-words c = λ column.
    rw (take_rest c.args.octets.now (c.in-Some.place + 1))
    (words-first c.args.octets.now c.in-Some.place column (sym c.place_of.ensures ∙ c.in-Some.is))

pub returns-in-None-clause-words : goal.returns-in-None-clause-words
returns-in-None-clause-words c = λ column. words-whole c.args.octets.now column (sym c.place_of.ensures ∙ c.in-None.is)

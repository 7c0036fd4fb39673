use Rattle.std.proofs.Common.{◌≡◌, ◌+◌, ◌*◌, ◌++◌, ◌≤◌, map, length}
use Rattle.line_words.specs.Words.{placed_word, words_from}
use Rattle.line_words.proofs.words.words_of.Given as goal

abbrev pub invariant-words : goal.invariant-words
invariant-words l = record {
  words : map placed_word l.words.items ++ words_from l.column l.rest ≡ words_from 1 l.line;
  column : l.column + 2 * length l.rest ≤ 1 + 2 * length l.line;
}

abbrev pub decreases-words : goal.decreases-words
decreases-words l = length l.rest

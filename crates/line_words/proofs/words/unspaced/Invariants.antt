use Rattle.std.proofs.Common.{◌≡◌, length}
use Rattle.line_words.specs.Words.{unspaced}
use Rattle.line_words.proofs.words.unspaced.Given as goal

abbrev pub invariant-spaces : goal.invariant-spaces
invariant-spaces l = unspaced l.rest ≡ unspaced l.line

abbrev pub decreases-spaces : goal.decreases-spaces
decreases-spaces l = length l.rest

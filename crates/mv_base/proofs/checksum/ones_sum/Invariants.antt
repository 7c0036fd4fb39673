use Rattle.std.proofs.Common.{◌≡◌, length, fold}
use Rattle.mv_base.specs.Checksum.{ones_add, words}
use Rattle.mv_base.proofs.checksum.ones_sum.Given as goal

abbrev pub invariant-words : goal.invariant-words
invariant-words l = fold ones_add l.sum (words l.rest) ≡ fold ones_add 0 (words l.octets)

abbrev pub decreases-words : goal.decreases-words
decreases-words l = length l.rest

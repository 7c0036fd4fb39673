use Rattle.std.proofs.Common.{◌≡◌, None}
use Rattle.std.specs.List.{fold}
use Rattle.selective.specs.Waiting.{earliest_with}
use Rattle.selective.proofs.leaf.earliest_of.Given as goal

abbrev pub invariant-loop-key : goal.invariant-loop-key
invariant-loop-key l = fold earliest_with l.earliest l._key-iterator ≡ fold earliest_with None l.initial._key-iterator

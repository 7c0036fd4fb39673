use Rattle.std.proofs.Common.{◌-◌, ◌≤◌, length}
use Rattle.decode_text.proofs.TellLemmas.{Passed}
use Rattle.decode_text.proofs.telling.tell_values.Given as goal

-- values stand before the place, and their lines were appended
abbrev pub invariant-loop-place : goal.invariant-loop-place
invariant-loop-place g l = record {
  passed : Passed g.V.Value.telling l.octets l.text l.place;
  within : l.place ≤ length l.octets;
}

abbrev pub decreases-loop-place : goal.decreases-loop-place
decreases-loop-place g l = length l.octets - l.place

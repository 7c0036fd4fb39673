use Rattle.std.proofs.Common.{◌≡◌, nat_eq, length}
use Rattle.std.specs.Cmp.Lexicographic.{pointwise}
use Rattle.mv_base.proofs.alike.same_octets.Given as goal

abbrev pub invariant-loop-own : goal.invariant-loop-own
invariant-loop-own l = pointwise nat_eq l.own l.other ≡ pointwise nat_eq l.initial.own l.initial.other

abbrev pub decreases-loop-own : goal.decreases-loop-own
decreases-loop-own l = length l.own

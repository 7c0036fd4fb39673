use Rattle.std.proofs.Common.{◌≤◌, ℕ}
use Rattle.umh_select.specs.Routes.{IsNoneAt}
use Rattle.umh_select.proofs.umh.Umh.choose.Given as goal

abbrev pub invariant-loop-length : goal.invariant-loop-length
invariant-loop-length l = record {
  bound : l.length ≤ 256;
  none : (bits : ℕ) → l.length ≤ bits → IsNoneAt l.self l.source bits;
}

abbrev pub decreases-loop-length : goal.decreases-loop-length
decreases-loop-length l = l.length

-- Octets of one length, and their order.
use Rattle.std.specs.Prelude.{◌≡◌, ℕ, List, length}
use Rattle.std.specs.declared.cmp.Ordering.{Ordering}
use Rattle.std.specs.Ordering.{nat_cmp}
use Rattle.std.specs.Cmp.Lexicographic.{slice_cmp}

-- Both are of one length, and this is their order.
pub record AreCompared (own other : List ℕ) (order : Ordering) : Type 0 where
  pub lengths : length own ≡ length other
  pub is : order ≡ slice_cmp nat_cmp own other

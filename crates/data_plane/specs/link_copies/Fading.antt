-- What giving back leaves of the buffers.
use Rattle.std.specs.Prelude.{◌≡◌, ℕ, List, Some}
pub use Rattle.buf_pool.specs.Held.{AreHeld}
use Rattle.buf_pool.specs.Held.{Buffers}
use Rattle.data_plane.specs.link_copies.CopiesData.{octets_in}

-- Buffers were given back: what lives after lived before, with the same octets.
pub record Fades (old new : Buffers) : Type 0 where
  pub octets : (name : ℕ) (thereafter : List ℕ) → octets_in new name ≡ Some thereafter → octets_in old name ≡ Some thereafter
  pub held : AreHeld old → AreHeld new

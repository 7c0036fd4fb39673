-- Each copy, and the datagram that is handled, holds its buffer for its datagram.
use Rattle.std.proofs.Common.{◌≡◌, ℕ, ◌<◌, ◌==◌, ◌↔◌, Bool, true, slice_get, Some, refl, ap, arith}
use Rattle.std.specs.List.{count_by}
use Rattle.std.proofs.lemmas.Bool.{eq-eqb}
use Rattle.buf_pool.specs.Held.{IsLive}
use Rattle.mv_base.specs.declared.ids.NodeId.{NodeId}
use Rattle.data_plane.specs.link_copies.CopiesData.{KeptCopy, Current, CopiesData, kept_at, holding, IsShared}
use Rattle.data_plane.proofs.link_copies.Basics.{one_if}
use Rattle.data_plane.proofs.link_copies.Sums.{total_least}
use Rattle.data_plane.proofs.link_copies.Lists.{count-remove}
use Rattle.data_plane.proofs.link_copies.Pools.{live_from}
use Rattle.data_plane.proofs.link_copies.Holdings.{passes, own, is_pair, own_pair, held_total}

-- whoever passes the test counts
kept_holds : (d : CopiesData) (u n : NodeId) (place : ℕ) (k : KeptCopy) → slice_get (kept_at d u n) place ≡ Some k → (test : ℕ → ℕ → Bool)
    → passes test k ≡ true → 0 < holding test d
kept_holds d u n place k is test pass =
    let rest = total_least (count_by (passes test)) refl d.ways (u, n) in
    omega (arith, held_total test d, rest.1, count-remove (passes test) (kept_at d u n) place k is, ap one_if pass)

current_holds : (d : CopiesData) (c : Current) → d.current ≡ Some c → (test : ℕ → ℕ → Bool) → test c.number c.buffer ≡ true → 0 < holding test d
current_holds d c is test pass = omega (arith, ap (own test) is, ap one_if pass)

module _ (d : CopiesData) where
  pub kept_lives : (u n : NodeId) (place : ℕ) (k : KeptCopy) → IsShared d → slice_get (kept_at d u n) place ≡ Some k → IsLive d.buffers k.buffer
  kept_lives u n place k account is =
      live_from d.buffers k.buffer (omega (
        arith,
        account.counted k.buffer,
        kept_holds d u n place k is (λ number buffer. buffer == k.buffer) (eq-eqb k.buffer k.buffer refl),
      ))

  pub current_lives : (c : Current) → IsShared d → d.current ≡ Some c → IsLive d.buffers c.buffer
  current_lives c account is =
      live_from d.buffers c.buffer (omega (
        arith,
        account.counted c.buffer,
        current_holds d c is (λ number buffer. buffer == c.buffer) (eq-eqb c.buffer c.buffer refl),
      ))

  pub two_copies : (u n v m : NodeId) (place other : ℕ) (k l : KeptCopy) → IsShared d → slice_get (kept_at d u n) place ≡ Some k
      → slice_get (kept_at d v m) other ≡ Some l
      → (k.copy.number ≡ l.copy.number) ↔ (k.buffer ≡ l.buffer)
  two_copies u n v m place other k l account is at = account.named k.copy.number k.buffer l.copy.number l.buffer
      (kept_holds d u n place k is (is_pair k.copy.number k.buffer) (own_pair k.copy.number k.buffer))
      (kept_holds d v m other l at (is_pair l.copy.number l.buffer) (own_pair l.copy.number l.buffer))

  pub copy_and_current : (u n : NodeId) (place : ℕ) (k : KeptCopy) (c : Current) → IsShared d → slice_get (kept_at d u n) place ≡ Some k
      → d.current ≡ Some c
      → (k.copy.number ≡ c.number) ↔ (k.buffer ≡ c.buffer)
  copy_and_current u n place k c account is at = account.named k.copy.number k.buffer c.number c.buffer
      (kept_holds d u n place k is (is_pair k.copy.number k.buffer) (own_pair k.copy.number k.buffer))
      (current_holds d c at (is_pair c.number c.buffer) (own_pair c.number c.buffer))

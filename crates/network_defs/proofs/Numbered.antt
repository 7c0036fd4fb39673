-- Datagrams by their numbers.
use Rattle.std.proofs.Common.{◌≡◌, ℕ, zero, suc, ◌-◌, ◌<◌, List, [], ◌∷◌, ◌++◌, slice_get, Some, ap, ◌∙◌, arith}
use Rattle.std.proofs.lemmas.Option.{none-some}
use Rattle.network_defs.specs.World.{Datagram, numbered}

-- a number above 0 is a place, counted from 1
pub numbered_at : (datagrams : List Datagram) (number : ℕ) → 0 < number → numbered datagrams number ≡ slice_get datagrams (number - 1)
numbered_at datagrams zero some = absurd (omega (arith, some))
numbered_at datagrams (suc place) some = ap (λ (k : ℕ). slice_get datagrams k) (omega arith)

pub numbered_some : (datagrams : List Datagram) (number : ℕ) (datagram : Datagram) → numbered datagrams number ≡ Some datagram
    → (0 < number) × (slice_get datagrams (number - 1) ≡ Some datagram)
numbered_some datagrams zero datagram e = absurd (none-some datagram e)
numbered_some datagrams (suc place) datagram e =
    (omega arith, (let same : suc place - 1 ≡ place = omega arith in ap (λ (k : ℕ). slice_get datagrams k) same ∙ e))

got_more : (old more : List Datagram) (k : ℕ) (datagram : Datagram) → slice_get old k ≡ Some datagram → slice_get (old ++ more) k ≡ Some datagram
got_more [] more k datagram e = absurd (none-some datagram e)
got_more (first ∷ old) more zero datagram e = e
got_more (first ∷ old) more (suc k) datagram e = got_more old more k datagram e

-- the number of a datagram stays its number when datagrams are added
pub numbered_more : (old more : List Datagram) (number : ℕ) (datagram : Datagram) → numbered old number ≡ Some datagram
    → numbered (old ++ more) number ≡ Some datagram
numbered_more old more zero datagram e = absurd (none-some datagram e)
numbered_more old more (suc place) datagram e = got_more old more place datagram e

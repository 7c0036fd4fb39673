-- The numbers of datagrams.
use Rattle.std.proofs.Common.{◌≡◌, ℕ, zero, suc, ◌+◌, ◌<◌, ◌≤◌, List, [], ◌∷◌, ◌++◌, length, slice_get, Some, refl, ap, ◌∙◌, arith}
use Rattle.std.proofs.lemmas.Option.{slice_get_within}
use Rattle.network_defs.specs.World.{Datagram, numbered}
use Rattle.data_plane.proofs.link_copies.Basics.{one_more, not_some}

module _ {X : Type 0} where
  in_front : (xs ys : List X) (i : ℕ) (x : X) → slice_get xs i ≡ Some x → slice_get (xs ++ ys) i ≡ Some x
  in_front [] ys i x is = absurd (not_some x is)
  in_front (y ∷ more) ys zero x is = is
  in_front (y ∷ more) ys (suc i) x is = in_front more ys i x is

  thereafter : (xs : List X) (x : X) → slice_get (xs ++ x ∷ []) (length xs) ≡ Some x
  thereafter [] x = refl
  thereafter (y ∷ ys) x = thereafter ys x

pub numbered_still : (datagrams more : List Datagram) (number : ℕ) (datagram : Datagram) → numbered datagrams number ≡ Some datagram
    → numbered (datagrams ++ more) number ≡ Some datagram
numbered_still datagrams more zero datagram is = absurd (not_some datagram is)
numbered_still datagrams more (suc place) datagram is = in_front datagrams more place datagram is

pub numbered_next : (datagrams : List Datagram) (datagram : Datagram) (count : ℕ) → count ≡ length datagrams
    → numbered (datagrams ++ datagram ∷ []) (count + 1) ≡ Some datagram
numbered_next datagrams datagram count is =
    ap (numbered (datagrams ++ datagram ∷ [])) (one_more count) ∙ ap (slice_get (datagrams ++ datagram ∷ [])) is ∙ thereafter datagrams datagram

pub numbered_within : (datagrams : List Datagram) (number : ℕ) (datagram : Datagram) → numbered datagrams number ≡ Some datagram
    → (0 < number) × (number ≤ length datagrams)
numbered_within datagrams zero datagram is = absurd (not_some datagram is)
numbered_within datagrams (suc place) datagram is = (omega arith, omega (arith, slice_get_within datagrams place datagram is))

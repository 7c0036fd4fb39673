-- Octets in an array that is longer than they are, with zeros after them.
use Rattle.std.specs.Prelude.{◌≡◌, ℕ, ◌-◌, ◌≤◌, List, [], ◌∷◌, ◌++◌, length, take, drop, replicate, true, nat_eq}
use Rattle.std.specs.Cmp.Lexicographic.{pointwise, same_text}
use Rattle.std.proofs.Common.{arith, ap, sym, take-append-drop, length-take-le}

-- The length of the front is the length that is kept.
pub len_back : (cap len : ℕ) (octets : List ℕ) → len ≤ cap → length octets ≡ cap → length (take len octets) ≡ len
len_back cap len octets le all = length-take-le len octets (omega arith)

-- The front and the zeros after it are the array.
pub octets_back : (cap len : ℕ) (octets : List ℕ) → len ≤ cap → length octets ≡ cap → drop len octets ≡ replicate (cap - len) 0
    → take len octets ++ replicate (cap - length (take len octets)) 0 ≡ octets
octets_back cap len octets le all spare = rw (len_back cap len octets le all, ← spare) (take-append-drop len octets)

-- Equal octets are hashed alike.
pub octets_alike : (x y : List ℕ) → pointwise nat_eq x y ≡ true → x ∷ [] ≡ y ∷ []
octets_alike x y h = ap (λ (octets : List ℕ). octets ∷ []) (same_text x y (sym h))

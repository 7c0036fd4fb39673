-- Addresses by the numbers that stand for them.
use Rattle.std.proofs.Common.{◌≡◌, ℕ, List, [], ◌∷◌, ◌++◌, length, refl, ap, arith}
use Rattle.mv_base.specs.declared.addr.Addr.{Addr}
use Rattle.mv_base.specs.declared.addr.Addr.TheVariants.{V4, V6}
use Rattle.mv_base.specs.Address.{addr_front}

-- Lists of one length in front of others.
fronts : (xs ys us vs : List ℕ) → length xs ≡ length ys → xs ++ us ≡ ys ++ vs → (xs ≡ ys) × (us ≡ vs)
fronts [] [] us vs h e = (refl, e)
fronts [] (y ∷ ys) us vs h e = absurd (omega (arith, h))
fronts (x ∷ xs) [] us vs h e = absurd (omega (arith, h))
fronts (x ∷ xs) (y ∷ ys) us vs h e =
    let head : x ≡ y = cc in
    let thereafter : xs ++ us ≡ ys ++ vs = cc in
    let rest = fronts xs ys us vs (omega (arith, h)) thereafter in
    ((λ i. head i ∷ rest.0 i), rest.1)

-- Addresses with equal numbers in front of others.
pub addr_fronts : (a b : Addr) (us vs : List ℕ) → addr_front a ++ us ≡ addr_front b ++ vs → (a ≡ b) × (us ≡ vs)
addr_fronts (V4 xs) (V4 ys) us vs e =
    let size : length xs ≡ length ys = cc in
    let thereafter : xs ++ us ≡ ys ++ vs = cc in
    let both = fronts xs ys us vs size thereafter in
    (ap (λ (octets : List ℕ). V4 octets) both.0, both.1)
addr_fronts (V6 xs) (V6 ys) us vs e =
    let size : length xs ≡ length ys = cc in
    let thereafter : xs ++ us ≡ ys ++ vs = cc in
    let both = fronts xs ys us vs size thereafter in
    (ap (λ (octets : List ℕ). V6 octets) both.0, both.1)
addr_fronts (V4 xs) (V6 ys) us vs e = absurd cc
addr_fronts (V6 xs) (V4 ys) us vs e = absurd cc

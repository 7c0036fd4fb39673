-- Addresses: when two are one, their octets, and how many they are.
use Rattle.std.specs.Prelude.{◌≡◌, ℕ, Bool, true, false, nat_eq, List, [], ◌∷◌, length, refl}
use Rattle.std.specs.Cmp.{IsEquivalence}
use Rattle.std.specs.Cmp.Lexicographic.{pointwise, same_text, nat_list_eq_equiv}
use Rattle.std.proofs.Common.{ap, sym}
use Rattle.mv_base.specs.declared.addr.Addr.{Addr}
use Rattle.mv_base.specs.declared.addr.Addr.TheVariants.{V4, V6}

-- whether both are one address
abbrev pub same_addr : Addr → Addr → Bool
same_addr (V4 a) (V4 b) = pointwise nat_eq a b
same_addr (V6 a) (V6 b) = pointwise nat_eq a b
same_addr (V4 a) (V6 b) = false
same_addr (V6 a) (V4 b) = false

-- the octets of an address, in the order of the wire
abbrev pub addr_octets : Addr → List ℕ
addr_octets (V4 octets) = octets
addr_octets (V6 octets) = octets

-- the numbers by which addresses are ordered: those of IPv4 are lower than those of IPv6, and within a family the octets tell
abbrev pub addr_key : Addr → List ℕ
addr_key (V4 octets) = 4 ∷ octets
addr_key (V6 octets) = 6 ∷ octets

-- the same with the number of octets, where other numbers stand after
abbrev pub addr_front : Addr → List ℕ
addr_front (V4 octets) = 4 ∷ length octets ∷ octets
addr_front (V6 octets) = 6 ∷ length octets ∷ octets

-- an address has the octets of its family
abbrev pub IsAddr : Addr → Type 0
IsAddr (V4 octets) = length octets ≡ 4
IsAddr (V6 octets) = length octets ≡ 16

-- Being one address is an equivalence.
pub same_addr_equiv : IsEquivalence same_addr
same_addr_equiv = record { refl = same; symm = back; congr = alike }
  where
    same : (a : Addr) → same_addr a a ≡ true
    same (V4 a) = nat_list_eq_equiv.refl a
    same (V6 a) = nat_list_eq_equiv.refl a

    back : (a b : Addr) → same_addr a b ≡ same_addr b a
    back (V4 a) (V4 b) = nat_list_eq_equiv.symm a b
    back (V6 a) (V6 b) = nat_list_eq_equiv.symm a b
    back (V4 a) (V6 b) = refl
    back (V6 a) (V4 b) = refl

    alike : (a b c : Addr) → same_addr a b ≡ true → same_addr a c ≡ same_addr b c
    alike (V4 a) (V4 b) (V4 c) h = nat_list_eq_equiv.congr a b c h
    alike (V4 a) (V4 b) (V6 c) h = refl
    alike (V6 a) (V6 b) (V6 c) h = nat_list_eq_equiv.congr a b c h
    alike (V6 a) (V6 b) (V4 c) h = refl
    alike (V4 a) (V6 b) c h = absurd cc
    alike (V6 a) (V4 b) c h = absurd cc

-- Addresses that are one are equal.
pub same_addr_equal : (a b : Addr) → same_addr a b ≡ true → a ≡ b
same_addr_equal (V4 a) (V4 b) h = ap (λ (octets : List ℕ). V4 octets) (same_text a b (sym h))
same_addr_equal (V6 a) (V6 b) h = ap (λ (octets : List ℕ). V6 octets) (same_text a b (sym h))
same_addr_equal (V4 a) (V6 b) h = absurd cc
same_addr_equal (V6 a) (V4 b) h = absurd cc

-- Addresses that are one are hashed alike.
pub addr_alike : (a b : Addr) → same_addr a b ≡ true → addr_octets a ∷ [] ≡ addr_octets b ∷ []
addr_alike a b h = ap (λ (c : Addr). addr_octets c ∷ []) (same_addr_equal a b h)

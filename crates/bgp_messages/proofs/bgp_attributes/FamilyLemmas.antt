-- AFI and SAFI: a family is read exactly where its own stand.
use Rattle.std.proofs.Common.{◌≡◌, ℕ, ◌^◌, ◌<◌, true, eqb, ◌⊎◌, inl, inr, List, [], ◌∷◌, ◌++◌, length, Option, Some, None, refl, sym, ap, ◌∙◌, arith}
use Rattle.std.specs.Prelude.{◌&&◌}
use Rattle.std.specs.Int.{w16, to_be_bytes, from_be_bytes}
use Rattle.std.proofs.lemmas.Bool.{eqb-true, and_parts}
use Rattle.mv_base.specs.Octets.{IsOctets}
use Rattle.mv_base.proofs.Fields.{octets_before, octets_after, wide16, chosen}
use Rattle.bgp_values.specs.declared.mvpn_nlri.route.Afi.TheVariants.{Ipv4, Ipv6}
use Rattle.bgp_messages.specs.declared.bgp_attributes.family.Family.{Family}
use Rattle.bgp_messages.specs.declared.bgp_attributes.family.Family.TheVariants.{Mcast, Vpn}
use Rattle.bgp_messages.specs.bgp_attributes.Spelling.{afi_of, safi_of, pair, IsUnread}
use Rattle.bgp_messages.specs.bgp_attributes.Reading.{family_of}

both_are : (a b m n : ℕ) → (eqb a m && eqb b n) ≡ true → (a ≡ m) × (b ≡ n)
both_are a b m n e = let (p, q) = and_parts (eqb a m) (eqb b n) e in (eqb-true a m p, eqb-true b n q)

some_is : (f g : Family) → Some f ≡ Some g → f ≡ g
some_is f g e = cc

-- A family that is read has that AFI and SAFI.
pub family_taken : (afi safi : ℕ) (f : Family) → family_of afi safi ≡ Some f → (afi_of f ≡ afi) × (safi_of f ≡ safi)
family_taken afi safi f e =
    elim (chosen (eqb afi 1 && eqb safi 5) _ _ _ e) [
      | inl a ↦ is (Mcast Ipv4) a.1 (both_are afi safi 1 5 a.0)
      | inr a ↦ elim (chosen (eqb afi 2 && eqb safi 5) _ _ _ a.1) [
        | inl b ↦ is (Mcast Ipv6) b.1 (both_are afi safi 2 5 b.0)
        | inr b ↦ elim (chosen (eqb afi 1 && eqb safi 128) _ _ _ b.1) [
          | inl d ↦ is (Vpn Ipv4) d.1 (both_are afi safi 1 128 d.0)
          | inr d ↦ elim (chosen (eqb afi 2 && eqb safi 128) _ _ _ d.1) [
            | inl k ↦ is (Vpn Ipv6) k.1 (both_are afi safi 2 128 k.0)
            | inr k ↦ absurd cc
          ]
        ]
      ]
    ]
  where
    is : (g : Family) → Some g ≡ Some f → (afi ≡ afi_of g) × (safi ≡ safi_of g) → (afi_of f ≡ afi) × (safi_of f ≡ safi)
    is g same (p, q) = (ap afi_of (sym (some_is g f same)) ∙ sym p, ap safi_of (sym (some_is g f same)) ∙ sym q)

-- The family that has them is read.
pub family_again : (f : Family) → family_of (afi_of f) (safi_of f) ≡ Some f
family_again (Mcast Ipv4) = refl
family_again (Mcast Ipv6) = refl
family_again (Vpn Ipv4) = refl
family_again (Vpn Ipv6) = refl

-- None is read exactly where none has them.
pub family_none : (afi safi : ℕ) → family_of afi safi ≡ None → IsUnread afi safi
family_none afi safi e f (p, q) =
    let clash : Some f ≡ None = sym (ap (λ (n : ℕ). family_of n safi) (sym p) ∙ ap (family_of (afi_of f)) (sym q) ∙ family_again f) ∙ e in
    absurd cc

none_by : (afi safi : ℕ) → IsUnread afi safi → (o : Option Family) → family_of afi safi ≡ o → family_of afi safi ≡ None
none_by afi safi unread None e = e
none_by afi safi unread (Some f) e = absurd (unread f (family_taken afi safi f e))

pub none_family : (afi safi : ℕ) → IsUnread afi safi → family_of afi safi ≡ None
none_family afi safi unread = none_by afi safi unread (family_of afi safi) refl

pub afi_fits : (f : Family) → afi_of f < 2 ^ 16
afi_fits (Mcast Ipv4) = omega arith
afi_fits (Mcast Ipv6) = omega arith
afi_fits (Vpn Ipv4) = omega arith
afi_fits (Vpn Ipv6) = omega arith

-- ---- the octets of AFI and SAFI

-- AFI and SAFI at the front, and what stands after them
pub record Led (value : List ℕ) : Type 0 where
  pub afi : ℕ
  pub safi : ℕ
  pub rest : List ℕ
  pub fits : afi < 2 ^ 16
  pub octets : IsOctets rest
  pub parts : value ≡ to_be_bytes w16 afi ++ (safi ∷ rest)

-- Octets are too few, or AFI and SAFI stand at their front.
pub led : (value : List ℕ) → IsOctets value → (length value < 3) ⊎ Led value
led [] fits = inl (omega arith)
led (high ∷ []) fits = inl (omega arith)
led (high ∷ low ∷ []) fits = inl (omega arith)
led (high ∷ low ∷ safi ∷ rest) fits =
    let two : IsOctets (high ∷ low ∷ []) = octets_before 2 (high ∷ low ∷ safi ∷ rest) fits in
    inr (record {
      afi = from_be_bytes w16 (high ∷ low ∷ []);
      safi = safi;
      rest = rest;
      fits = wide16.below (high ∷ low ∷ []) two;
      octets = octets_after 3 (high ∷ low ∷ safi ∷ rest) fits;
      parts = ap (λ (xs : List ℕ). xs ++ (safi ∷ rest)) (sym (wide16.back (high ∷ low ∷ []) refl two));
    })

-- A pair of a family, with what stands after it.
pub pair_led : (f : Family) (rest : List ℕ) → pair f ++ rest ≡ to_be_bytes w16 (afi_of f) ++ (safi_of f ∷ rest)
pair_led f rest = refl

pub pair_is : (f : Family) (afi safi : ℕ) (rest : List ℕ) → family_of afi safi ≡ Some f → to_be_bytes w16 afi ++ (safi ∷ rest) ≡ pair f ++ rest
pair_is f afi safi rest e =
    let (p, q) = family_taken afi safi f e in
    ap (λ (n : ℕ). to_be_bytes w16 n ++ (safi ∷ rest)) (sym p) ∙ ap (λ (n : ℕ). to_be_bytes w16 (afi_of f) ++ (n ∷ rest)) (sym q)

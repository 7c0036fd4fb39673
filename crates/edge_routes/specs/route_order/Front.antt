-- The numbers by which two keys are compared first.
use Rattle.std.specs.Prelude.{◌≡◌, ℕ, ◌+◌, ◌*◌, ◌≤◌, List, [], ◌∷◌, drop, length, suc, take, zero}
use Rattle.bgp_values.specs.mvpn_nlri.Spelling.{written}
use Rattle.edge_defs.specs.bgp_messages.declared.bgp_attributes.key.Key.{Key}
use Rattle.edge_defs.specs.bgp_messages.declared.bgp_attributes.key.Key.TheVariants.{Mcast, Unicast}
use Rattle.mv_base.specs.Address.{addr_octets}
use Rattle.mv_base.specs.Octets.{IsOctets}
use Rattle.mv_base.specs.declared.prefix.Prefix.{Prefix}
use Rattle.edge_defs.specs.bgp_messages.bgp_attributes.Spelling.{octets_for}
use Rattle.edge_defs.specs.bgp_messages.bgp_update.Written.{IsWritableKey, afi_of}
use Rattle.edge_defs.specs.Keys.{afi_number}

-- so many of the octets, and zeros where there are fewer
abbrev pub filled : ℕ → List ℕ → List ℕ
filled zero octets = []
filled (suc n) [] = 0 ∷ filled n []
filled (suc n) (octet ∷ octets) = octet ∷ filled n octets

-- the number that octets spell after another one, the first octet weighing most
abbrev pub spelled_after : ℕ → List ℕ → ℕ
spelled_after number [] = number
spelled_after number (octet ∷ octets) = spelled_after (number * 256 + octet) octets

-- the number of the first eight octets
abbrev pub number_of : List ℕ → ℕ
number_of octets = spelled_after 0 (filled 8 octets)

-- the numbers of the octets, eight by eight
abbrev pub numbers : ℕ → List ℕ → List ℕ
numbers zero octets = []
numbers (suc n) octets = number_of octets ∷ numbers n (drop 8 octets)

-- the octets of a prefix that are spelled
abbrev pub prefix_text : Prefix → List ℕ
prefix_text prefix = take (octets_for prefix.bits) (addr_octets prefix.addr)

-- What a key is compared by first, unicast keys before multicast keys and in each kind those of AFI 1 before those of AFI 2: of a
-- unicast key the length of its prefix, its Route Distinguisher, and the first eight octets of the prefix; of a multicast key the first 24
-- octets that spell its route.
abbrev pub front_of : Key → List ℕ
front_of (Unicast rd prefix) =
    afi_number (afi_of prefix.addr) ∷ prefix.bits ∷ spelled_after 0 rd.0 ∷ number_of (prefix_text prefix) ∷ []
front_of (Mcast afi route) = (2 + afi_number afi) ∷ numbers 3 (written route)

-- what is made numbers is octets
abbrev pub AreOctets : Key → Type 0
AreOctets (Unicast rd prefix) = IsOctets rd.0 × IsOctets (prefix_text prefix)
AreOctets (Mcast afi route) = IsOctets (written route)

-- The key has a spelling, of octets, and these are what it is compared by first.
pub record IsFronted (key : Key) (first : List ℕ) : Type 0 where
  pub writable : IsWritableKey key
  pub octets : AreOctets key
  pub front : first ≡ front_of key

-- The numbers spell all of the key: its route, of at most 24 octets. A unicast key has more than its numbers say.
abbrev pub IsWhole : Key → Type 0
IsWhole (Unicast rd prefix) = ⊥
IsWhole (Mcast afi route) = length (written route) ≤ 24

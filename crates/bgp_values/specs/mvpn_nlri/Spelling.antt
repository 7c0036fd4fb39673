-- MCAST-VPN routes (RFC 6514 section 4, with the wildcards of RFC 6625 section 2), and the one spelling of each.
use Rattle.std.specs.Prelude.{◌≡◌, ℕ, ◌<◌, ◌≤◌, ◌^◌, ◌⊎◌, List, [], ◌∷◌, ◌++◌, length, slice_index, Option, Some, None}
use Rattle.std.specs.Int.{w32, to_be_bytes}
use Rattle.mv_base.specs.Address.{addr_octets, IsAddr}
use Rattle.mv_base.specs.declared.addr.Addr.{Addr}
use Rattle.mv_base.specs.declared.addr.Addr.TheVariants.{V4, V6}
use Rattle.mv_base.specs.declared.rd.Rd.{Rd}
use Rattle.bgp_values.specs.declared.mvpn_nlri.route.Afi.{Afi}
use Rattle.bgp_values.specs.declared.mvpn_nlri.route.Afi.TheVariants.{Ipv4, Ipv6}
use Rattle.bgp_values.specs.declared.mvpn_nlri.route.LeafKey.{LeafKey}
use Rattle.bgp_values.specs.declared.mvpn_nlri.route.LeafKey.TheVariants as keys
use Rattle.bgp_values.specs.declared.mvpn_nlri.route.Route.{Route}
use Rattle.bgp_values.specs.declared.mvpn_nlri.route.Route.TheVariants.{Intra, Inter, Selective, Leaf, Active, SharedJoin, SourceJoin, Other}

-- ---- conditions

-- a Route Distinguisher has 8 octets (RFC 4364 section 4.2)
abbrev pub IsRd : Rd → Type 0
IsRd rd = length rd.0 ≡ 8

-- a Source AS has 4 octets
abbrev pub IsAs : ℕ → Type 0
IsAs source_as = source_as < 2 ^ 32

-- a source is of the family that the AFI tells
abbrev pub IsSource : Afi → Addr → Type 0
IsSource Ipv4 (V4 octets) = length octets ≡ 4
IsSource Ipv6 (V6 octets) = length octets ≡ 16
IsSource Ipv4 (V6 octets) = ⊥
IsSource Ipv6 (V4 octets) = ⊥

-- multicast addresses are 224.0.0.0/4 (RFC 5771) and ff00::/8 (RFC 4291 section 2.7)
abbrev pub IsMulticast : Addr → Type 0
IsMulticast (V4 octets) = (224 ≤ slice_index octets 0) × (slice_index octets 0 ≤ 239)
IsMulticast (V6 octets) = slice_index octets 0 ≡ 255

-- a group is a multicast address of that family
abbrev pub IsGroup : Afi → Addr → Type 0
IsGroup afi addr = IsSource afi addr × IsMulticast addr

-- the wildcard, or an address that meets the condition
abbrev pub IsAnyOr : (Addr → Type 0) → Option Addr → Type 0
IsAnyOr Is None = Unit {0}
IsAnyOr Is (Some addr) = Is addr

-- ---- fields

-- an address after its length in bits
abbrev pub sized : Addr → List ℕ
sized (V4 octets) = 32 ∷ octets
sized (V6 octets) = 128 ∷ octets

-- the wildcard is a length of 0 alone (RFC 6625 section 2)
abbrev pub any_or_sized : Option Addr → List ℕ
any_or_sized None = 0 ∷ []
any_or_sized (Some addr) = sized addr

-- ---- keys (RFC 6514 section 4.4)

abbrev pub key_kind : LeafKey → ℕ
key_kind (keys.Inter rd source_as) = 2
key_kind (keys.Selective rd source group originator) = 3

abbrev pub key_fields : LeafKey → List ℕ
key_fields (keys.Inter rd source_as) = rd.0 ++ to_be_bytes w32 source_as
key_fields (keys.Selective rd source group originator) = rd.0 ++ (any_or_sized source ++ (any_or_sized group ++ addr_octets originator))

-- type, length of the rest, fields
abbrev pub key : LeafKey → List ℕ
key k = key_kind k ∷ (length (key_fields k) ∷ key_fields k)

abbrev pub IsKey : Afi → LeafKey → Type 0
IsKey afi (keys.Inter rd source_as) = IsRd rd × IsAs source_as
IsKey afi (keys.Selective rd source group originator) =
    IsRd rd × (IsAnyOr (IsSource afi) source × (IsAnyOr (IsGroup afi) group × IsAddr originator))

-- ---- routes

-- a type that is none of the seven of RFC 6514
abbrev pub IsOther : ℕ → Type 0
IsOther kind = (kind ≡ 0) ⊎ (7 < kind)

abbrev pub kind : Route → ℕ
kind (Intra rd originator) = 1
kind (Inter rd source_as) = 2
kind (Selective rd source group originator) = 3
kind (Leaf k originator) = 4
kind (Active rd source group) = 5
kind (SharedJoin rd source_as source group) = 6
kind (SourceJoin rd source_as source group) = 7
kind (Other number octets) = number

-- the fields of a route end to end (RFC 6514 sections 4.1 to 4.6)
abbrev pub fields : Route → List ℕ
fields (Intra rd originator) = rd.0 ++ addr_octets originator
fields (Inter rd source_as) = rd.0 ++ to_be_bytes w32 source_as
fields (Selective rd source group originator) = rd.0 ++ (any_or_sized source ++ (any_or_sized group ++ addr_octets originator))
fields (Leaf k originator) = key k ++ addr_octets originator
fields (Active rd source group) = rd.0 ++ (sized source ++ sized group)
fields (SharedJoin rd source_as source group) = rd.0 ++ (to_be_bytes w32 source_as ++ (sized source ++ sized group))
fields (SourceJoin rd source_as source group) = rd.0 ++ (to_be_bytes w32 source_as ++ (sized source ++ sized group))
fields (Other number octets) = octets

-- each field meets its condition
abbrev pub IsRoute : Afi → Route → Type 0
IsRoute afi (Intra rd originator) = IsRd rd × IsAddr originator
IsRoute afi (Inter rd source_as) = IsRd rd × IsAs source_as
IsRoute afi (Selective rd source group originator) =
    IsRd rd × (IsAnyOr (IsSource afi) source × (IsAnyOr (IsGroup afi) group × IsAddr originator))
IsRoute afi (Leaf k originator) = IsKey afi k × IsAddr originator
IsRoute afi (Active rd source group) = IsRd rd × (IsSource afi source × IsGroup afi group)
IsRoute afi (SharedJoin rd source_as source group) = IsRd rd × (IsAs source_as × (IsSource afi source × IsGroup afi group))
IsRoute afi (SourceJoin rd source_as source group) = IsRd rd × (IsAs source_as × (IsSource afi source × IsGroup afi group))
IsRoute afi (Other number octets) = IsOther number × (length octets < 256)

-- type, length of the rest, fields
abbrev pub written : Route → List ℕ
written r = kind r ∷ (length (fields r) ∷ fields r)

-- the text spells the route
pub record Spells (afi : Afi) (r : Route) (text : List ℕ) : Type 0 where
  pub route : IsRoute afi r
  pub octets : text ≡ written r

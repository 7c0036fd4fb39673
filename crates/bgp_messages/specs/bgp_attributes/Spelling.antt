-- The path attributes of an UPDATE message (RFC 4271 section 4.3), and what spells each.
use Rattle.std.specs.Prelude.{◌≡◌, ◌≢◌, ℕ, ◌+◌, ◌-◌, ◌*◌, ◌/◌, ◌<◌, ◌≤◌, ◌^◌, ◌⊎◌, List, [], ◌∷◌, ◌++◌, length}
use Rattle.std.specs.Prelude.{take, replicate, map, Option, Some, None, ◌==◌, bit_and, Bool, if◌then◌else◌}
use Rattle.std.specs.List.{flat_map, AllByRecursion}
use Rattle.std.specs.Int.{w16, w32, w128, to_be_bytes, from_be_bytes}
use Rattle.mv_base.specs.Address.{addr_octets, IsAddr}
use Rattle.mv_base.specs.declared.addr.Addr.{Addr}
use Rattle.mv_base.specs.declared.addr.Addr.TheVariants.{V4, V6}
use Rattle.mv_base.specs.declared.rd.Rd.{Rd}
use Rattle.mv_base.specs.declared.prefix.Prefix.{Prefix}
use Rattle.mv_base.specs.framing.Units.{Begins}
use Rattle.mv_base.specs.framing.Parts.{AreParts}
use Rattle.mv_base.specs.declared.route_targets.communities.ExtComm.{ExtComm}
use Rattle.bgp_values.specs.declared.pmsi_attr.pmsi.Pmsi.{Pmsi}
use Rattle.bgp_values.specs.pmsi_attr.Spelling as tunnels
use Rattle.bgp_values.specs.declared.mvpn_nlri.route.Afi.{Afi}
use Rattle.bgp_values.specs.declared.mvpn_nlri.route.Afi.TheVariants.{Ipv4, Ipv6}
use Rattle.bgp_values.specs.mvpn_nlri.Spelling as routes
use Rattle.bgp_messages.specs.declared.bgp_attributes.key.Key.{Key}
use Rattle.bgp_messages.specs.declared.bgp_attributes.key.Key.TheVariants as keys
use Rattle.bgp_messages.specs.declared.bgp_attributes.update.Advert.{Advert}
use Rattle.bgp_messages.specs.declared.bgp_attributes.update.Update.{Update}
use Rattle.bgp_messages.specs.declared.bgp_attributes.family.Family.{Family}
use Rattle.bgp_messages.specs.declared.bgp_attributes.family.Family.TheVariants.{Mcast, Vpn}
use Rattle.bgp_messages.specs.declared.bgp_attributes.attribute.Reachable.{Reachable}
use Rattle.bgp_messages.specs.declared.bgp_attributes.attribute.Attribute.{Attribute}
use Rattle.bgp_messages.specs.declared.bgp_attributes.attribute.Attribute.TheVariants.{Reach, Unreach, Communities, Tunnel, Passed}

-- ---- families (RFC 4760 sections 3 and 4)

abbrev pub afi_of : Family → ℕ
afi_of (Mcast Ipv4) = 1
afi_of (Mcast Ipv6) = 2
afi_of (Vpn Ipv4) = 1
afi_of (Vpn Ipv6) = 2

-- MCAST-VPN (RFC 6514 section 4), and labeled VPN unicast (RFC 4364 section 4.3.4; RFC 4659 section 2)
abbrev pub safi_of : Family → ℕ
safi_of (Mcast afi) = 5
safi_of (Vpn afi) = 128

-- AFI and SAFI
abbrev pub pair : Family → List ℕ
pair f = to_be_bytes w16 (afi_of f) ++ (safi_of f ∷ [])

-- of no family that is read
abbrev pub IsUnread : ℕ → ℕ → Type 0
IsUnread afi safi = (f : Family) → ¬ ((afi_of f ≡ afi) × (safi_of f ≡ safi))

-- what stands in front of an IPv4 address in its IPv4-mapped IPv6 address (RFC 4291 section 2.5.5.2)
abbrev pub mapped_front : List ℕ
mapped_front = 0 ∷ 0 ∷ 0 ∷ 0 ∷ 0 ∷ 0 ∷ 0 ∷ 0 ∷ 0 ∷ 0 ∷ 0xFF ∷ 0xFF ∷ []

abbrev pub IsMapped : List ℕ → Type 0
IsMapped octets = take 12 octets ≡ mapped_front

-- The text spells the address in a next hop of VPN-IPv6: an IPv4 address stands there as it is or as its IPv4-mapped IPv6
-- address (RFC 4659 section 3.2.1.2).
abbrev pub SpellsMapped : Addr → List ℕ → Type 0
SpellsMapped (V4 octets) text = (length octets ≡ 4) × ((text ≡ octets) ⊎ (text ≡ mapped_front ++ octets))
SpellsMapped (V6 octets) text = (length octets ≡ 16) × (¬ (IsMapped octets)) × (text ≡ octets)

abbrev pub SpellsHopAddr : Afi → Addr → List ℕ → Type 0
SpellsHopAddr Ipv4 addr text = IsAddr addr × (text ≡ addr_octets addr)
SpellsHopAddr Ipv6 addr text = SpellsMapped addr text

-- The text spells the address as next hop. That of a VPN route has a Route Distinguisher in front, which may be anything (RFC
-- 4364 section 4.3.2; RFC 4659 section 3.2.1).
abbrev pub SpellsNextHop : Family → Addr → List ℕ → Type 0
SpellsNextHop (Mcast afi) addr text = IsAddr addr × (text ≡ addr_octets addr)
SpellsNextHop (Vpn afi) addr text = (front thereafter : List ℕ) × (length front ≡ 8) × SpellsHopAddr afi addr thereafter × (text ≡ front ++ thereafter)

-- ---- keys

-- so many octets have that many bits
abbrev pub octets_for : ℕ → ℕ
octets_for bits = (bits + 7) / 8

-- how many bits an address has
abbrev pub addr_bits : Afi → ℕ
addr_bits Ipv4 = 32
addr_bits Ipv6 = 128

-- the number of so many bits with zeros after the first ones
abbrev pub cleared : ℕ → ℕ → ℕ → ℕ
cleared all bits number = (number / 2 ^ (all - bits)) * 2 ^ (all - bits)

-- so many octets, of which the last are zeros
abbrev pub padded : ℕ → List ℕ → List ℕ
padded n octets = octets ++ replicate (n - length octets) 0

-- the address that begins with those bits of the octets, and zeros after them
unfoldable pub address : Afi → ℕ → List ℕ → Addr
address Ipv4 bits octets = V4 (to_be_bytes w32 (cleared 32 bits (from_be_bytes w32 (padded 4 octets))))
address Ipv6 bits octets = V6 (to_be_bytes w128 (cleared 128 bits (from_be_bytes w128 (padded 16 octets))))

-- A length in bits, a label field of 3 octets, a Route Distinguisher and the prefix, all of which the length counts (RFC
-- 8277 section 2; RFC 4364 section 4.3.4; RFC 4659 section 2). The label field may be anything, and so may the bits after the prefix.
pub record SpellsVpn (afi : Afi) (rd : Rd) (prefix : Prefix) (text : List ℕ) : Type 0 where
  pub label : List ℕ
  pub octets : List ℕ
  pub label_len : length label ≡ 3
  pub rd_len : length rd.0 ≡ 8
  pub bits : prefix.bits ≤ addr_bits afi
  pub octets_len : length octets ≡ octets_for prefix.bits
  pub parts : text ≡ (88 + prefix.bits) ∷ (label ++ (rd.0 ++ octets))
  pub addr : prefix.addr ≡ address afi prefix.bits octets

abbrev pub SpellsKey : Family → Key → List ℕ → Type 0
SpellsKey (Mcast afi) (keys.Mcast a route) text = (a ≡ afi) × routes.Spells afi route text
SpellsKey (Vpn afi) (keys.Unicast rd prefix) text = SpellsVpn afi rd prefix text
SpellsKey (Mcast afi) (keys.Unicast rd prefix) text = ⊥
SpellsKey (Vpn afi) (keys.Mcast a route) text = ⊥

-- a key as a unit of octets laid end to end
abbrev pub SpellsUnit : Family → List Key → List ℕ → Type 0
SpellsUnit f ks text = (key : Key) × (ks ≡ key ∷ []) × SpellsKey f key text

-- NLRI: keys end to end, and the rest after them (RFC 4760 section 5)
abbrev pub AreKeys : Family → List Key → List ℕ → List ℕ → Type 0
AreKeys f ks octets rest = Begins (SpellsUnit f) octets ks rest

-- ---- attributes

abbrev pub type_of : Attribute → ℕ
type_of (Reach r) = 14
type_of (Unreach ks) = 15
type_of (Communities comms) = 16
type_of (Tunnel pmsi) = 22
type_of (Passed kind) = kind

-- the types whose values are read
abbrev pub IsReadType : ℕ → Type 0
IsReadType kind = (kind ≡ 14) ⊎ (kind ≡ 15) ⊎ (kind ≡ 16) ⊎ (kind ≡ 22)

-- AFI and SAFI of a family that is not read, whatever stands after them
pub record SpellsUnread (value : List ℕ) : Type 0 where
  pub afi : ℕ
  pub safi : ℕ
  pub rest : List ℕ
  pub afi_fits : afi < 2 ^ 16
  pub unread : IsUnread afi safi
  pub parts : value ≡ to_be_bytes w16 afi ++ (safi ∷ rest)

-- AFI and SAFI, the next hop after its length, a reserved octet, and the NLRI (RFC 4760 section 3)
pub record SpellsReachable (r : Reachable) (value : List ℕ) : Type 0 where
  pub family : Family
  pub hop : List ℕ
  pub reserved : ℕ
  pub nlri : List ℕ
  pub next_hop : SpellsNextHop family r.next_hop hop
  pub routes : AreKeys family r.keys nlri []
  pub parts : value ≡ pair family ++ (length hop ∷ (hop ++ (reserved ∷ nlri)))

-- AFI and SAFI, and the NLRI (RFC 4760 section 4)
pub record SpellsUnreachable (ks : List Key) (value : List ℕ) : Type 0 where
  pub family : Family
  pub nlri : List ℕ
  pub routes : AreKeys family ks nlri []
  pub parts : value ≡ pair family ++ nlri

-- extended communities have 8 octets (RFC 4360 section 2)
abbrev pub AreComms : List ExtComm → Type 0
AreComms comms = AllByRecursion (λ comm. length comm.0 ≡ 8) comms

abbrev pub SpellsValue : Attribute → List ℕ → Type 0
SpellsValue (Reach (Some r)) value = SpellsReachable r value
SpellsValue (Reach None) value = SpellsUnread value
SpellsValue (Unreach (Some ks)) value = SpellsUnreachable ks value
SpellsValue (Unreach None) value = SpellsUnread value
SpellsValue (Communities comms) value = AreComms comms × (value ≡ flat_map (λ comm. comm.0) comms)
SpellsValue (Tunnel pmsi) value = tunnels.Spells pmsi value
SpellsValue (Passed kind) value = ¬ (IsReadType kind)

-- whether the flag Extended Length is set (RFC 4271 section 4.3)
abbrev pub is_extended : ℕ → Bool
is_extended flags = bit_and flags 16 == 16

-- a length of two octets where the flag is set, else of one
abbrev pub len_field : ℕ → ℕ → List ℕ
len_field flags n = if is_extended flags then to_be_bytes w16 n else n ∷ []

abbrev pub FitsLen : ℕ → ℕ → Type 0
FitsLen flags n = n < (if is_extended flags then 2 ^ 16 else 2 ^ 8)

-- flags, type, length and value (RFC 4271 section 4.3); but for Extended Length the flags may be anything
pub record SpellsAttribute (a : Attribute) (text : List ℕ) : Type 0 where
  pub flags : ℕ
  pub value : List ℕ
  pub fits : FitsLen flags (length value)
  pub parts : text ≡ flags ∷ (type_of a ∷ (len_field flags (length value) ++ value))
  pub means : SpellsValue a value

-- a type that is read stands once
abbrev pub IsNewType : List Attribute → ℕ → Type 0
IsNewType before kind = IsReadType kind → AllByRecursion (λ b. type_of b ≢ kind) before

abbrev pub IsNew : List Attribute → Attribute → Type 0
IsNew before a = IsNewType before (type_of a)

-- the octets are these attributes, end to end
abbrev pub AreAttributes : List ℕ → List Attribute → Type 0
AreAttributes octets attributes = AreParts SpellsAttribute IsNew octets attributes []

-- ---- updates

abbrev pub comms_in : Attribute → List ExtComm
comms_in (Communities comms) = comms
comms_in a = []

-- the communities, none where no attribute has them
abbrev pub comms_of : List Attribute → List ExtComm
comms_of attributes = flat_map comms_in attributes

-- the tunnel, where an attribute has it
abbrev pub pmsi_of : List Attribute → Option Pmsi
pmsi_of [] = None
pmsi_of (Tunnel pmsi ∷ attributes) = Some pmsi
pmsi_of (a ∷ attributes) = pmsi_of attributes

-- each key with the next hop, these communities and this tunnel
abbrev pub adverts_in : List ExtComm → Option Pmsi → Attribute → List Advert
adverts_in comms pmsi (Reach (Some r)) = map (λ key. record { key = key; next_hop = r.next_hop; comms = comms; pmsi = pmsi }) r.keys
adverts_in comms pmsi a = []

abbrev pub keys_in : Attribute → List Key
keys_in (Unreach (Some ks)) = ks
keys_in a = []

-- what the attributes say together
abbrev pub update_of : List Attribute → Update
update_of attributes = record {
  reach = flat_map (adverts_in (comms_of attributes) (pmsi_of attributes)) attributes;
  unreach = flat_map keys_in attributes;
}

-- the octets are attributes that say this
abbrev pub Spells : Update → List ℕ → Type 0
Spells update octets = (attributes : List Attribute) × AreAttributes octets attributes × (update ≡ update_of attributes)

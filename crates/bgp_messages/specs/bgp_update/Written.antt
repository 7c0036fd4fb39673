-- What is written: an UPDATE message for each change.
use Rattle.std.specs.Prelude.{◌≡◌, ◌+◌, ◌<◌, ◌≤◌, ℕ, Bool, false, nat_lt, bit_or, ⊤, List, [], ◌∷◌, ◌++◌}
use Rattle.std.specs.Prelude.{length, take, replicate, Option, Some, None, Result, Ok, Err, if◌then◌else◌}
use Rattle.std.specs.List.{flat_map}
use Rattle.std.specs.Int.{w16, w32, to_be_bytes}
use Rattle.mv_base.specs.Address.{addr_octets, IsAddr}
use Rattle.mv_base.specs.Octets.{IsOctets}
use Rattle.mv_base.specs.Prefix.{IsPrefixOf}
use Rattle.mv_base.specs.declared.addr.Addr.{Addr}
use Rattle.mv_base.specs.declared.addr.Addr.TheVariants.{V4, V6}
use Rattle.mv_base.specs.declared.rd.Rd.{Rd}
use Rattle.mv_base.specs.declared.prefix.Prefix.{Prefix}
use Rattle.mv_base.specs.declared.route_targets.communities.ExtComm.{ExtComm}
use Rattle.bgp_values.specs.declared.pmsi_attr.pmsi.Pmsi.{Pmsi}
use Rattle.bgp_values.specs.pmsi_attr.Spelling as tunnels
use Rattle.bgp_values.specs.declared.mvpn_nlri.route.Afi.{Afi}
use Rattle.bgp_values.specs.declared.mvpn_nlri.route.Afi.TheVariants.{Ipv4, Ipv6}
use Rattle.bgp_values.specs.mvpn_nlri.Spelling as routes
use Rattle.bgp_messages.specs.declared.bgp_attributes.family.Family.{Family}
use Rattle.bgp_messages.specs.declared.bgp_attributes.family.Family.TheVariants as families
use Rattle.bgp_messages.specs.declared.bgp_attributes.key.Key.{Key}
use Rattle.bgp_messages.specs.declared.bgp_attributes.key.Key.TheVariants.{Mcast, Unicast}
use Rattle.bgp_messages.specs.declared.bgp_attributes.update.Advert.{Advert}
use Rattle.bgp_messages.specs.declared.bgp_attributes.update.Update.{Update}
use Rattle.bgp_messages.specs.declared.bgp_attributes.update.Change.{Change}
use Rattle.bgp_messages.specs.declared.bgp_attributes.update.Change.TheVariants.{Reach, Unreach}
use Rattle.bgp_messages.specs.bgp_attributes.Spelling.{pair, mapped_front, IsMapped, octets_for, AreComms}
use Rattle.bgp_messages.specs.declared.bgp_update.writing.EncodeFault.{EncodeFault}
use Rattle.bgp_messages.specs.declared.bgp_update.writing.EncodeFault.TheVariants as faults
use Rattle.bgp_messages.specs.bgp_update.Spelling.{header}

-- ---- attributes (RFC 4271 section 4.3)

-- flags, type and length, which has two octets where it is above 255
abbrev pub attribute_head : ℕ → ℕ → ℕ → List ℕ
attribute_head flags kind len = if nat_lt 255 len then bit_or flags 16 ∷ kind ∷ to_be_bytes w16 len else flags ∷ kind ∷ len ∷ []

abbrev pub attribute : ℕ → ℕ → List ℕ → List ℕ
attribute flags kind value = attribute_head flags kind (length value) ++ value

-- ORIGIN IGP, an AS_PATH without segments, and LOCAL_PREF 100 (RFC 4271 section 5.1)
abbrev pub path_text : List ℕ
path_text = attribute 0x40 1 (0 ∷ []) ++ (attribute 0x40 2 [] ++ attribute 0x40 5 (to_be_bytes w32 100))

-- ---- keys

-- the AFI of a prefix with that address
abbrev pub afi_of : Addr → Afi
afi_of (V4 octets) = Ipv4
afi_of (V6 octets) = Ipv6

abbrev pub family_of : Key → Family
family_of (Mcast afi route) = families.Mcast afi
family_of (Unicast rd prefix) = families.Vpn (afi_of prefix.addr)

-- the octets of an IPv6 address, and of an IPv4 address those of its IPv4-mapped one (RFC 4291 section 2.5.5.2)
abbrev pub mapped : Addr → List ℕ
mapped (V4 octets) = mapped_front ++ octets
mapped (V6 octets) = octets

-- The length of the next hop and the next hop, with a Route Distinguisher of zeros in front for VPN routes; for those of IPv6 it is
-- an IPv6 address (RFC 4364 section 4.3.2; RFC 4659 section 3.2.1).
abbrev pub hop_of : Family → Addr → List ℕ
hop_of (families.Mcast afi) addr = length (addr_octets addr) ∷ addr_octets addr
hop_of (families.Vpn Ipv4) addr = (8 + length (addr_octets addr)) ∷ (replicate 8 0 ++ addr_octets addr)
hop_of (families.Vpn Ipv6) addr = 24 ∷ (replicate 8 0 ++ mapped addr)

-- the label field of a route that is announced: label 3 at the bottom of the stack (RFC 8277 section 2)
abbrev pub advertised : List ℕ
advertised = 0x00 ∷ 0x00 ∷ 0x31 ∷ []

-- and of one that is withdrawn (RFC 8277 section 2.4)
abbrev pub withdrawn : List ℕ
withdrawn = 0x80 ∷ 0x00 ∷ 0x00 ∷ []

abbrev pub vpn_text : List ℕ → Rd → Prefix → List ℕ
vpn_text label rd prefix = (88 + prefix.bits) ∷ (label ++ (rd.0 ++ take (octets_for prefix.bits) (addr_octets prefix.addr)))

abbrev pub key_text : List ℕ → Key → List ℕ
key_text label (Mcast afi route) = routes.written route
key_text label (Unicast rd prefix) = vpn_text label rd prefix

-- ---- messages

abbrev pub comms_octets : List ExtComm → List ℕ
comms_octets comms = flat_map (λ comm. comm.0) comms

-- the values of MP_REACH_NLRI and MP_UNREACH_NLRI (RFC 4760 sections 3 and 4)
abbrev pub reach_value : Advert → List ℕ
reach_value advert = pair (family_of advert.key) ++ (hop_of (family_of advert.key) advert.next_hop ++ (0 ∷ key_text advertised advert.key))

abbrev pub unreach_value : Key → List ℕ
unreach_value key = pair (family_of key) ++ key_text withdrawn key

abbrev pub tunnel_text : Option Pmsi → List ℕ
tunnel_text None = []
tunnel_text (Some pmsi) = attribute 0xC0 22 (tunnels.written pmsi)

abbrev pub advert_text : Advert → List ℕ
advert_text advert =
    path_text
    ++ (attribute 0x80 14 (reach_value advert)
    ++ (attribute 0xC0 16 (comms_octets advert.comms) ++ tunnel_text advert.pmsi))

abbrev pub attributes_of : Change → List ℕ
attributes_of (Reach advert) = advert_text advert
attributes_of (Unreach key) = attribute 0x80 15 (unreach_value key)

-- no withdrawn routes of the message's own, and nothing after the attributes
abbrev pub message_text : List ℕ → List ℕ
message_text attributes = header (23 + length attributes) 2 ++ ((0 ∷ 0 ∷ []) ++ (to_be_bytes w16 (length attributes) ++ attributes))

abbrev pub written : Change → List ℕ
written change = message_text (attributes_of change)

-- the update that makes the change alone
abbrev pub update_of : Change → Update
update_of (Reach advert) = record { reach = advert ∷ []; unreach = [] }
update_of (Unreach key) = record { reach = []; unreach = key ∷ [] }

-- whether the communities alone have more octets than a message
abbrev pub has_many : Change → Bool
has_many (Reach advert) = nat_lt 512 (length advert.comms)
has_many (Unreach key) = false

-- ---- what can be written

-- a prefix with no bit set after it
abbrev pub IsVpnPrefix : Addr → ℕ → Type 0
IsVpnPrefix addr bits = IsAddr addr × IsPrefixOf addr bits

-- an IPv4-mapped address is spelled as its IPv4 address is, which is read
abbrev pub IsUnmapped : Addr → Family → Type 0
IsUnmapped (V4 octets) f = ⊤
IsUnmapped (V6 octets) (families.Mcast afi) = ⊤
IsUnmapped (V6 octets) (families.Vpn Ipv4) = ⊤
IsUnmapped (V6 octets) (families.Vpn Ipv6) = ¬ (IsMapped octets)

-- the address has a spelling as next hop
abbrev pub IsNextHop : Family → Addr → Type 0
IsNextHop f addr = IsAddr addr × IsUnmapped addr f

pub record IsVpn (rd : Rd) (prefix : Prefix) : Type 0 where
  pub rd_len : length rd.0 ≡ 8
  pub is_prefix : IsVpnPrefix prefix.addr prefix.bits

-- the key has a spelling
abbrev pub IsWritableKey : Key → Type 0
IsWritableKey (Mcast afi route) = routes.Spells afi route (routes.written route)
IsWritableKey (Unicast rd prefix) = IsVpn rd prefix

-- an address of a prefix is octets, as it is in any program
abbrev pub HasOctets : Key → Type 0
HasOctets (Mcast afi route) = ⊤
HasOctets (Unicast rd prefix) = IsOctets (addr_octets prefix.addr)

abbrev pub IsTunnel : Option Pmsi → Type 0
IsTunnel None = ⊤
IsTunnel (Some pmsi) = tunnels.Spells pmsi (tunnels.written pmsi)

pub record IsWritableAdvert (advert : Advert) : Type 0 where
  pub key : IsWritableKey advert.key
  pub next_hop : IsNextHop (family_of advert.key) advert.next_hop
  pub comms : AreComms advert.comms
  pub tunnel : IsTunnel advert.pmsi

abbrev pub IsWritable : Change → Type 0
IsWritable (Reach advert) = IsWritableAdvert advert
IsWritable (Unreach key) = IsWritableKey key

-- what is written was answered, within the octets of a message, or it has more
abbrev pub Encodes : Result (List ℕ) EncodeFault → Change → Type 0
Encodes (Ok octets) change = (octets ≡ written change) × (length octets ≤ 4096)
Encodes (Err faults.TooLong) change = 4096 < length (written change)
Encodes (Err faults.NoMemory) change = ⊤

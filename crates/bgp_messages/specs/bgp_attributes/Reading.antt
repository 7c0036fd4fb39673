-- Reading the path attributes of an UPDATE message from left to right, with the first fault that is met.
use Rattle.std.specs.Prelude.{ℕ, ◌+◌, ◌-◌, ◌/◌, ◌%◌, List, [], ◌∷◌, length, take, drop, map, fold, nat_eq, unwrap_or, Option}
use Rattle.std.specs.Prelude.{Some, None, Result, Ok, Err, nat_lt, ◌==◌, ◌&&◌, ◌||◌, not, Bool, false, is_some, if◌then◌else◌}
use Rattle.std.specs.Int.{w16, from_be_bytes}
use Rattle.std.specs.List.{list_any}
use Rattle.std.specs.Cmp.Lexicographic.{pointwise}
use Rattle.std.specs.Simd.{first_chunks}
use Rattle.mv_base.specs.Cursor.{◌>>=◌, checked}
use Rattle.mv_base.specs.declared.addr.Addr.{Addr}
use Rattle.mv_base.specs.declared.addr.Addr.TheVariants.{V4, V6}
use Rattle.mv_base.specs.framing.Cut.{Front, Cut, cut}
use Rattle.mv_base.specs.framing.Cut.Front.{more, whole, bad}
use Rattle.mv_base.specs.framing.Parts.{parts_of}
use Rattle.mv_base.specs.declared.route_targets.communities.ExtComm.{ExtComm}
use Rattle.bgp_values.specs.declared.pmsi_attr.pmsi.Pmsi.{Pmsi}
use Rattle.bgp_values.specs.declared.pmsi_attr.fault.PmsiFault.{PmsiFault}
use Rattle.bgp_values.specs.pmsi_attr.Reading.{pmsi_of}
use Rattle.bgp_values.specs.declared.mvpn_nlri.fault.RouteFault.{RouteFault}
use Rattle.bgp_values.specs.declared.mvpn_nlri.route.Afi.{Afi}
use Rattle.bgp_values.specs.declared.mvpn_nlri.route.Afi.TheVariants.{Ipv4, Ipv6}
use Rattle.bgp_values.specs.declared.mvpn_nlri.route.Route.{Route}
use Rattle.bgp_values.specs.mvpn_nlri.Reading.{route_at}
use Rattle.bgp_messages.specs.declared.bgp_attributes.fault.StreamFault.{StreamFault}
use Rattle.bgp_messages.specs.declared.bgp_attributes.fault.StreamFault.TheVariants as faults
use Rattle.bgp_messages.specs.declared.bgp_attributes.nlri.BadKey.{BadKey}
use Rattle.bgp_messages.specs.declared.bgp_attributes.key.Key.{Key}
use Rattle.bgp_messages.specs.declared.bgp_attributes.key.Key.TheVariants as keys
use Rattle.bgp_messages.specs.declared.bgp_attributes.update.Advert.{Advert}
use Rattle.bgp_messages.specs.declared.bgp_attributes.update.Update.{Update}
use Rattle.bgp_messages.specs.declared.bgp_attributes.family.Family.{Family}
use Rattle.bgp_messages.specs.declared.bgp_attributes.family.Family.TheVariants.{Mcast, Vpn}
use Rattle.bgp_messages.specs.declared.bgp_attributes.attribute.Reachable.{Reachable}
use Rattle.bgp_messages.specs.declared.bgp_attributes.attribute.Attribute.{Attribute}
use Rattle.bgp_messages.specs.declared.bgp_attributes.attribute.Attribute.TheVariants.{Reach, Unreach, Communities, Tunnel, Passed}
use Rattle.bgp_messages.specs.declared.bgp_attributes.found.Found.{Found}
use Rattle.bgp_messages.specs.bgp_attributes.Spelling.{mapped_front, addr_bits, octets_for, address, is_extended, type_of}

-- a value, or a fault and its place
abbrev pub Read : Type 0 → Type 0
Read A = Result A (ℕ × StreamFault)

-- the attribute's length is none that its value may have
abbrev pub misfit : ℕ × StreamFault
misfit = (0, faults.AttributeLength)

-- ---- families

-- the family of that AFI and SAFI, where it is read
abbrev pub family_of : ℕ → ℕ → Option Family
family_of afi safi =
    if (afi == 1) && (safi == 5) then Some (Mcast Ipv4) else
    if (afi == 2) && (safi == 5) then Some (Mcast Ipv6) else
    if (afi == 1) && (safi == 128) then Some (Vpn Ipv4) else
    if (afi == 2) && (safi == 128) then Some (Vpn Ipv6) else None

-- how many octets stand before the address in a next hop
abbrev pub before_addr : Family → ℕ
before_addr (Mcast afi) = 0
before_addr (Vpn afi) = 8

abbrev pub is_hop_len : Family → ℕ → Bool
is_hop_len f len = (len == before_addr f + 4) || (len == before_addr f + 16)

-- ---- keys

abbrev pub mcast_key : Afi → Result (Route × ℕ) RouteFault → Result (Key × ℕ) BadKey
mcast_key afi (Ok x) = Ok (keys.Mcast afi x.0, x.1)
mcast_key afi (Err fault) = Err (record { offset = fault.place; fault = faults.Route fault.reason })

-- the MCAST-VPN route at the front
abbrev pub mcast_at : Afi → List ℕ → Result (Key × ℕ) BadKey
mcast_at afi octets = mcast_key afi (route_at afi octets)

-- the route of a length, a label, a Route Distinguisher and a prefix
abbrev pub vpn_of : Afi → ℕ → List ℕ → Key
vpn_of afi len rest = keys.Unicast
    (record { 0 = take 8 (drop 3 rest) })
    (record { addr = address afi (len - 88) (take (octets_for len - 11) (drop 11 rest)); bits = len - 88 })

-- the VPN route at the front
unfoldable pub vpn_at : Afi → List ℕ → Option (Key × ℕ)
vpn_at afi [] = None
vpn_at afi (len ∷ rest) =
    if nat_lt len 88 || nat_lt (88 + addr_bits afi) len || nat_lt (length rest) (octets_for len) then None else
    Some (vpn_of afi len rest, 1 + octets_for len)

abbrev pub or_bad : Option (Key × ℕ) → Result (Key × ℕ) BadKey
or_bad (Some x) = Ok x
or_bad None = Err (record { offset = 0; fault = faults.Prefix })

-- the key at the front, and how many octets it has
abbrev pub key_at : Family → List ℕ → Result (Key × ℕ) BadKey
key_at (Mcast afi) octets = mcast_at afi octets
key_at (Vpn afi) octets = or_bad (vpn_at afi octets)

abbrev pub seen : Result (Key × ℕ) BadKey → Front Key StreamFault
seen (Ok x) = whole x.1 (x.0 ∷ [])
seen (Err b) = bad [] b.offset b.fault

-- what stands at the front of NLRI
abbrev pub key_front : Family → List ℕ → Front Key StreamFault
key_front f [] = more
key_front f (b ∷ bs) = seen (key_at f (b ∷ bs))

abbrev pub all_keys : ℕ → List Key → Option (ℕ × StreamFault) → Read (List Key)
all_keys place found None = Ok found
all_keys place found (Some x) = Err (place + x.0, x.1)

-- the keys that octets are, of which the first stands at the place
unfoldable pub keys_at : Family → ℕ → List ℕ → Read (List Key)
keys_at f place octets = let c : Cut Key StreamFault = cut (key_front f) octets in all_keys place c.messages c.fault

-- ---- values

-- the address of 4 or 16 octets
abbrev pub addr_of : List ℕ → Addr
addr_of octets = if length octets == 4 then V4 octets else V6 octets

-- whether the address is IPv4-mapped
abbrev pub is_mapped : List ℕ → Bool
is_mapped octets = pointwise nat_eq (take 12 octets) mapped_front

-- the address, and of an IPv4-mapped one its IPv4 address
abbrev pub unmapped : Addr → Addr
unmapped (V4 octets) = V4 octets
unmapped (V6 octets) = if is_mapped octets then V4 (drop 12 octets) else V6 octets

-- the address of a next hop, which has 4 or 16 octets
abbrev pub hop_addr : Family → List ℕ → Addr
hop_addr (Mcast afi) octets = addr_of octets
hop_addr (Vpn Ipv4) octets = addr_of octets
hop_addr (Vpn Ipv6) octets = unmapped (addr_of octets)

-- next hop, reserved octet and NLRI, after the length of the next hop
unfoldable pub hop_at : Family → ℕ → ℕ → List ℕ → Read Reachable
hop_at f place len rest =
    if not (is_hop_len f len) then Err (place, faults.NextHop) else
    if nat_lt (length rest) (len + 1) then Err misfit else
    (keys_at f (place + len + 2) (drop (len + 1) rest) >>= λ ks.
    Ok (record { next_hop = hop_addr f (take (len - before_addr f) (drop (before_addr f) rest)); keys = ks }))

-- what stands after AFI and SAFI in MP_REACH_NLRI
unfoldable pub reachable_at : Family → ℕ → List ℕ → Read Reachable
reachable_at f place [] = Err misfit
reachable_at f place (len ∷ rest) = hop_at f place len rest

abbrev pub reach_of : Option Family → ℕ → List ℕ → Read Attribute
reach_of None place rest = Ok (Reach None)
reach_of (Some f) place rest = reachable_at f place rest >>= λ r. Ok (Reach (Some r))

unfoldable pub reach_at : ℕ → List ℕ → Read Attribute
reach_at place [] = Err misfit
reach_at place (high ∷ []) = Err misfit
reach_at place (high ∷ low ∷ []) = Err misfit
reach_at place (high ∷ low ∷ safi ∷ rest) = reach_of (family_of (from_be_bytes w16 (high ∷ low ∷ [])) safi) (place + 3) rest

abbrev pub unreach_of : Option Family → ℕ → List ℕ → Read Attribute
unreach_of None place rest = Ok (Unreach None)
unreach_of (Some f) place rest = keys_at f place rest >>= λ ks. Ok (Unreach (Some ks))

unfoldable pub unreach_at : ℕ → List ℕ → Read Attribute
unreach_at place [] = Err misfit
unreach_at place (high ∷ []) = Err misfit
unreach_at place (high ∷ low ∷ []) = Err misfit
unreach_at place (high ∷ low ∷ safi ∷ rest) = unreach_of (family_of (from_be_bytes w16 (high ∷ low ∷ [])) safi) (place + 3) rest

abbrev pub comm : List ℕ → ExtComm
comm octets = record { 0 = octets }

-- the communities that octets are
abbrev pub comms_in : List ℕ → List ExtComm
comms_in value = map comm (first_chunks 8 (length value / 8) value)

unfoldable pub comms_at : List ℕ → Read Attribute
comms_at value = checked (length value % 8 == 0) misfit (Communities (comms_in value))

abbrev pub tunnel_of : ℕ → Result Pmsi PmsiFault → Read Attribute
tunnel_of place (Ok pmsi) = Ok (Tunnel pmsi)
tunnel_of place (Err fault) = Err (place + fault.place, faults.Pmsi fault.reason)

unfoldable pub tunnel_at : ℕ → List ℕ → Read Attribute
tunnel_at place value = tunnel_of place (pmsi_of value)

-- the attribute of that type that has this value
unfoldable pub value_at : ℕ → ℕ → List ℕ → Read Attribute
value_at kind place value =
    if kind == 14 then reach_at place value else
    if kind == 15 then unreach_at place value else
    if kind == 16 then comms_at value else
    if kind == 22 then tunnel_at place value else Ok (Passed kind)

-- ---- what was found

abbrev pub nothing : Found
nothing = record { reach = None; unreach = None; communities = None; tunnel = None }

-- whether an attribute of that type was found
abbrev pub has : Found → ℕ → Bool
has found kind =
    if kind == 14 then is_some found.reach else
    if kind == 15 then is_some found.unreach else
    if kind == 16 then is_some found.communities else
    if kind == 22 then is_some found.tunnel else false

abbrev pub with_attribute : Found → Attribute → Found
with_attribute found (Reach reachable) = record found { reach = Some reachable }
with_attribute found (Unreach ks) = record found { unreach = Some ks }
with_attribute found (Communities comms) = record found { communities = Some comms }
with_attribute found (Tunnel pmsi) = record found { tunnel = Some pmsi }
with_attribute found (Passed kind) = found

-- all of these attributes
abbrev pub found_of : List Attribute → Found
found_of attributes = fold with_attribute nothing attributes

abbrev pub advert_of : List ExtComm → Option Pmsi → Addr → Key → Advert
advert_of comms pmsi next_hop key = record { key = key; next_hop = next_hop; comms = comms; pmsi = pmsi }

abbrev pub adverts_of : List ExtComm → Option Pmsi → Option (Option Reachable) → List Advert
adverts_of comms pmsi (Some (Some r)) = map (advert_of comms pmsi r.next_hop) r.keys
adverts_of comms pmsi (Some None) = []
adverts_of comms pmsi None = []

abbrev pub unreached : Option (Option (List Key)) → List Key
unreached (Some (Some ks)) = ks
unreached (Some None) = []
unreached None = []

abbrev pub update_in : Found → Update
update_in found = record { reach = adverts_of (unwrap_or found.communities []) found.tunnel found.reach; unreach = unreached found.unreach }

-- ---- attributes

-- the first octets, of which there are so many
abbrev pub front_of : ℕ → List ℕ → Option (List ℕ)
front_of len octets = if nat_lt (length octets) len then None else Some (take len octets)

-- the value after a length of two octets
unfoldable pub wide_value : List ℕ → Option (List ℕ)
wide_value [] = None
wide_value (high ∷ []) = None
wide_value (high ∷ low ∷ rest) = front_of (from_be_bytes w16 (high ∷ low ∷ [])) rest

-- the value after a length of one octet
unfoldable pub narrow_value : List ℕ → Option (List ℕ)
narrow_value [] = None
narrow_value (len ∷ rest) = front_of len rest

-- the value after its length
unfoldable pub value_of : ℕ → List ℕ → Option (List ℕ)
value_of flags rest = if is_extended flags then wide_value rest else narrow_value rest

-- where the value stands, after flags, type and length
abbrev pub value_place : ℕ → ℕ
value_place flags = if is_extended flags then 4 else 3

-- an attribute of that type with that value, and how many octets it has
abbrev pub valued : ℕ → ℕ → Option (List ℕ) → Read (Attribute × ℕ)
valued kind place None = Err misfit
valued kind place (Some value) = value_at kind place value >>= λ a. Ok (a, place + length value)

unfoldable pub new_at : ℕ → ℕ → List ℕ → Read (Attribute × ℕ)
new_at flags kind rest = valued kind (value_place flags) (value_of flags rest)

-- the attribute at the front, where a test tells the types that may not stand a second time
unfoldable pub attribute_unless : (ℕ → Bool) → List ℕ → Read (Attribute × ℕ)
attribute_unless again [] = Err misfit
attribute_unless again (flags ∷ []) = Err misfit
attribute_unless again (flags ∷ kind ∷ rest) = if again kind then Err (0, faults.AttributeList) else new_at flags kind rest

-- whether values of that type are read
abbrev pub is_read_type : ℕ → Bool
is_read_type kind = (kind == 14) || (kind == 15) || (kind == 16) || (kind == 22)

-- whether an attribute of that type stands among these, and its value is read
abbrev pub has_type : List Attribute → ℕ → Bool
has_type before kind = is_read_type kind && list_any (λ b. type_of b == kind) before

-- the attribute at the front, after these
abbrev pub attribute_at : List Attribute → List ℕ → Read (Attribute × ℕ)
attribute_at before octets = attribute_unless (has_type before) octets

-- the attributes that octets are
abbrev pub found_at : List ℕ → Read Found
found_at octets = parts_of attribute_at octets >>= λ attributes. Ok (found_of attributes)

-- what they say
abbrev pub update_at : List ℕ → Read Update
update_at octets = found_at octets >>= λ found. Ok (update_in found)

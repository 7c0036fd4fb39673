-- Changes of keys and values that have spellings have messages within bounds.
use Rattle.std.proofs.Common.{◌≡◌, ℕ, zero, suc, ◌+◌, ◌≤◌, Bool, true, false, List, [], ◌∷◌, ◌++◌, length, take, Option, Some, None, nat_lt, bit_or, if◌then◌else◌, refl, arith, length-append}
use Rattle.std.specs.Int.{w16, to_be_bytes}
use Rattle.mv_base.specs.Address.{addr_octets, IsAddr}
use Rattle.mv_base.specs.declared.addr.Addr.{Addr}
use Rattle.mv_base.specs.declared.addr.Addr.TheVariants.{V4, V6}
use Rattle.mv_base.specs.declared.prefix.Prefix.{Prefix}
use Rattle.mv_base.specs.declared.rd.Rd.{Rd}
use Rattle.bgp_values.specs.mldp.mldp_fec.Spelling as fec
use Rattle.bgp_values.specs.pmsi_attr.Spelling as tunnels
use Rattle.bgp_values.specs.declared.pmsi_attr.pmsi.Pmsi.{Pmsi}
use Rattle.bgp_values.specs.declared.pmsi_attr.pmsi.Tunnel.{Tunnel}
use Rattle.bgp_values.specs.declared.pmsi_attr.pmsi.Tunnel.TheVariants as tunnel_kinds
use Rattle.bgp_values.specs.declared.mvpn_nlri.route.Afi.TheVariants.{Ipv4, Ipv6}
use Rattle.bgp_values.proofs.mvpn_nlri.WritingLemmas.{fields_room}
use Rattle.bgp_messages.specs.bgp_attributes.Spelling.{octets_for}
use Rattle.bgp_messages.specs.declared.bgp_attributes.family.Family.{Family}
use Rattle.bgp_messages.specs.declared.bgp_attributes.family.Family.TheVariants.{Mcast, Vpn}
use Rattle.bgp_messages.specs.declared.bgp_attributes.key.Key.{Key}
use Rattle.bgp_messages.specs.declared.bgp_attributes.key.Key.TheVariants as keys
use Rattle.bgp_messages.specs.declared.bgp_attributes.update.Advert.{Advert}
use Rattle.bgp_messages.specs.declared.bgp_attributes.update.Change.TheVariants.{Reach, Unreach}
use Rattle.bgp_messages.specs.bgp_update.Written.{advert_text, advertised, attribute, attribute_head, comms_octets, family_of, hop_of, key_text, message_text, reach_value, tunnel_text, unreach_value, vpn_text, withdrawn, written, IsNextHop, IsTunnel, IsVpn, IsWritableAdvert, IsWritableKey}
use Rattle.bgp_messages.proofs.bgp_update.Appending.{comms_len}
use Rattle.edge_defs.specs.Keys.{Value}
use Rattle.edge_routes.specs.route_order.Values.{IsWritableValue}
use Rattle.edge_tables.specs.Tables.{advert_of}

-- ---- what is announced has a spelling

hop_of_any : (f : Family) (addr : Addr) → IsNextHop (Vpn Ipv6) addr → IsNextHop f addr
hop_of_any (Mcast afi) (V4 octets) h = (h.0, tt)
hop_of_any (Vpn Ipv4) (V4 octets) h = (h.0, tt)
hop_of_any (Vpn Ipv6) (V4 octets) h = (h.0, tt)
hop_of_any (Mcast afi) (V6 octets) h = (h.0, tt)
hop_of_any (Vpn Ipv4) (V6 octets) h = (h.0, tt)
hop_of_any (Vpn Ipv6) (V6 octets) h = h

pub advert_writable : (key : Key) (value : Value) → IsWritableKey key → IsWritableValue value → IsWritableAdvert (advert_of key value)
advert_writable key value k v =
    record { key = k; next_hop = hop_of_any (family_of key) value.next_hop v.next_hop; comms = v.comms; tunnel = v.tunnel }

-- ---- how many octets there are

addr_few : (addr : Addr) → IsAddr addr → length (addr_octets addr) ≤ 16
addr_few (V4 octets) h = omega (arith, h)
addr_few (V6 octets) h = omega (arith, h)

front_few : (n : ℕ) (xs : List ℕ) → length (take n xs) ≤ length xs
front_few zero xs = omega arith
front_few (suc n) [] = omega arith
front_few (suc n) (x ∷ xs) = let rest = front_few n xs in omega (arith, rest)

head_few : (b : Bool) (flags kind len : ℕ) → length (if b then bit_or flags 16 ∷ kind ∷ to_be_bytes w16 len else flags ∷ kind ∷ len ∷ []) ≤ 4
head_few true flags kind len = omega arith
head_few false flags kind len = omega arith

attribute_few : (flags kind : ℕ) (value : List ℕ) → length (attribute flags kind value) ≤ 4 + length value
attribute_few flags kind value =
    let head = head_few (nat_lt 255 (length value)) flags kind (length value) in
    omega (arith, head, length-append (attribute_head flags kind (length value)) value)

hop_few : (f : Family) (addr : Addr) → IsAddr addr → length (hop_of f addr) ≤ 25
hop_few (Mcast afi) addr h = let few = addr_few addr h in omega (arith, few)
hop_few (Vpn Ipv4) addr h = let few = addr_few addr h in omega (arith, few)
hop_few (Vpn Ipv6) (V4 octets) h = omega (arith, h)
hop_few (Vpn Ipv6) (V6 octets) h = omega (arith, h)

vpn_few : (label : List ℕ) (rd : Rd) (prefix : Prefix) → length label ≡ 3 → IsVpn rd prefix → length (vpn_text label rd prefix) ≤ 257
vpn_few label rd prefix three h =
    let octets : List ℕ = addr_octets prefix.addr in
    let front : List ℕ = take (octets_for prefix.bits) octets in
    omega (
      arith,
      three,
      h.rd_len,
      addr_few prefix.addr h.is_prefix.0,
      front_few (octets_for prefix.bits) octets,
      length-append label (rd.0 ++ front),
      length-append rd.0 front,
    )

key_few : (label : List ℕ) (key : Key) → length label ≡ 3 → IsWritableKey key → length (key_text label key) ≤ 257
key_few label (keys.Mcast afi route) three h = let few = fields_room afi route h.route in omega (arith, few)
key_few label (keys.Unicast rd prefix) three h = vpn_few label rd prefix three h

root_few : (root : Addr) → IsAddr root → length (fec.root root) ≤ 19
root_few (V4 octets) h = omega (arith, h)
root_few (V6 octets) h = omega (arith, h)

identifier_few : (tunnel : Tunnel) → tunnels.IsTunnel tunnel → length (tunnels.identifier tunnel) ≤ 96
identifier_few tunnel_kinds.None h = omega arith
identifier_few (tunnel_kinds.Mldp element) h =
    omega (
      arith,
      root_few element.root h.1.root,
      h.1.fits,
      length-append (fec.root element.root) (fec.opaque element.opaque),
      length-append (to_be_bytes w16 (length element.opaque)) element.opaque,
    )
identifier_few (tunnel_kinds.Ingress addr) h = let few = addr_few addr h in omega (arith, few)
identifier_few (tunnel_kinds.Other kind octets) h = omega (arith, h.1)

tunnel_few : (pmsi : Option Pmsi) → IsTunnel pmsi → length (tunnel_text pmsi) ≤ 105
tunnel_few None h = omega arith
tunnel_few (Some pmsi) h =
    omega (
      arith,
      attribute_few 0xC0 22 (tunnels.written pmsi),
      identifier_few pmsi.tunnel h.tunnel,
      length-append (tunnels.written_header pmsi) (tunnels.identifier pmsi.tunnel),
    )

message_few : (list : List ℕ) → length list ≤ 1000 → length (message_text list) ≤ 4096
message_few list few = omega (arith, few)

pub advert_short : (advert : Advert) → IsWritableAdvert advert → length advert.comms ≤ 10 → length (written (Reach advert)) ≤ 4096
advert_short advert h few =
    let f : Family = family_of advert.key in
    let key : List ℕ = key_text advertised advert.key in
    let hop : List ℕ = hop_of f advert.next_hop in
    let value : List ℕ = reach_value advert in
    let comms : List ℕ = comms_octets advert.comms in
    let value_few : length value ≤ 300 =
    omega (arith, key_few advertised advert.key refl h.key, hop_few f advert.next_hop h.next_hop.0, length-append hop (0 ∷ key)) in
    let comms_few : length comms ≤ 80 = omega (arith, few, comms_len advert.comms h.comms) in
    let reached : List ℕ = attribute 0x80 14 value in
    let told : List ℕ = attribute 0xC0 16 comms in
    message_few (advert_text advert)
    (omega (
      arith,
      value_few,
      comms_few,
      attribute_few 0x80 14 value,
      attribute_few 0xC0 16 comms,
      tunnel_few advert.pmsi h.tunnel,
      length-append reached (told ++ tunnel_text advert.pmsi),
      length-append told (tunnel_text advert.pmsi),
    ))

pub unreach_short : (key : Key) → IsWritableKey key → length (written (Unreach key)) ≤ 4096
unreach_short key h =
    let value : List ℕ = unreach_value key in
    let value_few : length value ≤ 300 = omega (arith, key_few withdrawn key refl h) in
    message_few (attribute 0x80 15 value) (omega (arith, value_few, attribute_few 0x80 15 value))

-- A key and a value whose parts are octets within bounds: the UPDATE messages that announce and withdraw them are put.
use Rattle.std.proofs.Common.{◌≡◌, ℕ, ◌+◌, ◌≤◌, List, [], ◌∷◌, ◌++◌, length, replicate, Option, refl, arith}
use Rattle.std.specs.List.{AllByRecursion}
use Rattle.std.specs.Int.{w16, w32, to_be_bytes}
use Rattle.std.proofs.lemmas.List.{length-append}
use Rattle.mv_base.specs.Address.{addr_octets, IsAddr}
use Rattle.mv_base.specs.Octets.{IsOctets}
use Rattle.mv_base.specs.declared.addr.Addr.{Addr}
use Rattle.mv_base.specs.declared.addr.Addr.TheVariants.{V4, V6}
use Rattle.bgp_values.specs.declared.mvpn_nlri.route.Afi.TheVariants.{Ipv4, Ipv6}
use Rattle.mv_base.specs.declared.route_targets.communities.ExtComm.{ExtComm}
use Rattle.bgp_values.specs.declared.pmsi_attr.pmsi.Pmsi.{Pmsi}
use Rattle.bgp_messages.specs.bgp_attributes.Spelling.{pair, mapped_front, AreComms}
use Rattle.bgp_messages.specs.declared.bgp_attributes.family.Family.{Family}
use Rattle.bgp_messages.specs.declared.bgp_attributes.family.Family.TheVariants as families
use Rattle.bgp_messages.specs.declared.bgp_attributes.key.Key.{Key}
use Rattle.bgp_messages.specs.declared.bgp_attributes.update.Advert.{Advert}
use Rattle.bgp_messages.specs.declared.bgp_attributes.update.Change as updates
use Rattle.bgp_messages.specs.declared.bgp_attributes.update.Message.TheVariants as messages
use Rattle.bgp_messages.specs.bgp_update.Written.{attribute, path_text, family_of, hop_of, key_text, advertised, withdrawn, comms_octets, reach_value, tunnel_text, advert_text, message_text, written, update_of, IsNextHop, IsWritableKey, IsWritable, HasOctets, IsTunnel}
use Rattle.bgp_messages.proofs.bgp_update.Appending.{message_octets}
use Rattle.bgp_messages.proofs.bgp_update.ReadsBack.{written_spells}
use Rattle.mv_base.specs.declared.table_defs.change.Change.{Change}
use Rattle.mv_base.specs.declared.table_defs.change.Change.TheVariants.{Reach, Unreach}
use Rattle.scenario_defs.specs.declared.event.Kind.TheVariants as kinds
use Rattle.network_defs.specs.session_defs.Message.{IsPut}
use Rattle.network_defs.specs.edge_defs.Keys.{Value}
use Rattle.network_defs.specs.edge_defs.Messages.{as_update}
use Rattle.network_defs.specs.node_defs.Puts.{update_unit}
use Rattle.network_laws.specs.Sound.{IsHost, AreEight}
use Rattle.network_laws.proofs.BgpOctets.{no_octets, octets_cons, octets_append, one_octet, repeated_octets, octets_of_16, octets_of_32, host_octets, host_length, comms_fit, comms_length, attribute_fits, attribute_length}

-- ---- what is asked of keys and values

pub record FitsKey (key : Key) : Type 0 where
  pub writable : IsWritableKey key
  pub prefix : HasOctets key
  pub reach : IsOctets (key_text advertised key)
  pub reach_few : length (key_text advertised key) ≤ 48
  pub unreach : IsOctets (key_text withdrawn key)
  pub unreach_few : length (key_text withdrawn key) ≤ 48

pub record FitsTunnel (pmsi : Option Pmsi) : Type 0 where
  pub spelled : IsTunnel pmsi
  pub octets : IsOctets (tunnel_text pmsi)
  pub few : length (tunnel_text pmsi) ≤ 40

pub record FitsValue (value : Value) : Type 0 where
  pub next_hop : IsHost value.next_hop
  pub comms : AllByRecursion (λ (comm : ExtComm). AreEight comm.0) value.comms
  pub few : length value.comms ≤ 10
  pub tunnel : FitsTunnel value.pmsi

-- the UPDATE of a change is put
abbrev pub IsBgpPut : Change Key Value → Type 0
IsBgpPut change = IsPut kinds.Bgp (update_unit change).messages (update_unit change).octets

-- ---- parts of attributes

pair_fits : (f : Family) → IsOctets (pair f)
pair_fits (families.Mcast Ipv4) = octets_append (to_be_bytes w16 1) (5 ∷ []) (octets_of_16 1) (one_octet 5 (omega arith))
pair_fits (families.Mcast Ipv6) = octets_append (to_be_bytes w16 2) (5 ∷ []) (octets_of_16 2) (one_octet 5 (omega arith))
pair_fits (families.Vpn Ipv4) = octets_append (to_be_bytes w16 1) (128 ∷ []) (octets_of_16 1) (one_octet 128 (omega arith))
pair_fits (families.Vpn Ipv6) = octets_append (to_be_bytes w16 2) (128 ∷ []) (octets_of_16 2) (one_octet 128 (omega arith))

pair_length : (f : Family) → length (pair f) ≡ 3
pair_length f = refl

mapped_fits : IsOctets mapped_front
mapped_fits =
    octets_append (replicate 10 0) (0xFF ∷ 0xFF ∷ []) (repeated_octets 10 0 (omega arith))
    (octets_cons 0xFF (0xFF ∷ []) (omega arith) (one_octet 0xFF (omega arith)))

hop_fits : (f : Family) (addr : Addr) → IsHost addr → IsOctets (hop_of f addr)
hop_fits (families.Mcast afi) addr h =
    octets_cons (length (addr_octets addr)) (addr_octets addr) (omega (arith, host_length addr h)) (host_octets addr h)
hop_fits (families.Vpn Ipv4) addr h =
    octets_cons (8 + length (addr_octets addr)) (replicate 8 0 ++ addr_octets addr) (omega (arith, host_length addr h))
    (octets_append (replicate 8 0) (addr_octets addr) (repeated_octets 8 0 (omega arith)) (host_octets addr h))
hop_fits (families.Vpn Ipv6) (V4 octets) h =
    octets_cons 24 (replicate 8 0 ++ (mapped_front ++ octets)) (omega arith)
    (octets_append (replicate 8 0) (mapped_front ++ octets) (repeated_octets 8 0 (omega arith)) (octets_append mapped_front octets mapped_fits h.1))
hop_fits (families.Vpn Ipv6) (V6 octets) h = absurd h

hop_length : (f : Family) (addr : Addr) → IsHost addr → length (hop_of f addr) ≤ 25
hop_length (families.Mcast afi) addr h = omega (arith, host_length addr h)
hop_length (families.Vpn Ipv4) addr h = omega (arith, host_length addr h, length-append (replicate 8 0) (addr_octets addr))
hop_length (families.Vpn Ipv6) (V4 octets) h =
    omega (arith, h.0, length-append (replicate 8 0) (mapped_front ++ octets), length-append mapped_front octets)
hop_length (families.Vpn Ipv6) (V6 octets) h = absurd h

pub host_addr : (addr : Addr) → IsHost addr → IsAddr addr
host_addr (V4 octets) h = h.0
host_addr (V6 octets) h = absurd h

host_hop : (f : Family) (addr : Addr) → IsHost addr → IsNextHop f addr
host_hop f (V4 octets) h = (h.0, tt)
host_hop f (V6 octets) h = absurd h

are_comms : (comms : List ExtComm) → AllByRecursion (λ (comm : ExtComm). AreEight comm.0) comms → AreComms comms
are_comms [] h = tt
are_comms (comm ∷ comms) h = (h.0.0, are_comms comms h.1)

path_fits : IsOctets path_text
path_fits =
    octets_append (attribute 0x40 1 (0 ∷ [])) (attribute 0x40 2 [] ++ attribute 0x40 5 (to_be_bytes w32 100))
    (attribute_fits 0x40 1 (0 ∷ []) (omega arith) (omega arith) (omega arith) (one_octet 0 (omega arith)))
    (octets_append (attribute 0x40 2 []) (attribute 0x40 5 (to_be_bytes w32 100))
    (attribute_fits 0x40 2 [] (omega arith) (omega arith) (omega arith) no_octets)
    (attribute_fits 0x40 5 (to_be_bytes w32 100) (omega arith) (omega arith) (omega arith) (octets_of_32 100)))

-- ---- attributes

message_few : (list : List ℕ) → length list ≤ 1000 → length (message_text list) ≤ 4096
message_few list le = omega (arith, le)

module _ (key : Key) (value : Value) (k : FitsKey key) (v : FitsValue value) where
  abbrev advert : Advert
  advert = record { key = key; next_hop = value.next_hop; comms = value.comms; pmsi = value.pmsi }

  abbrev f : Family
  f = family_of key

  value_fits : IsOctets (reach_value advert)
  value_fits =
      octets_append (pair f) (hop_of f value.next_hop ++ (0 ∷ key_text advertised key)) (pair_fits f)
      (octets_append (hop_of f value.next_hop) (0 ∷ key_text advertised key) (hop_fits f value.next_hop v.next_hop)
      (octets_cons 0 (key_text advertised key) (omega arith) k.reach))

  value_length : length (reach_value advert) ≤ 77
  value_length =
      omega (arith, length-append (hop_of f value.next_hop) (0 ∷ key_text advertised key), hop_length f value.next_hop v.next_hop, k.reach_few)

  advert_fits : IsOctets (advert_text advert)
  advert_fits =
      let reach : List ℕ = attribute 0x80 14 (reach_value advert) in
      let comms : List ℕ = attribute 0xC0 16 (comms_octets value.comms) in
      octets_append path_text (reach ++ (comms ++ tunnel_text value.pmsi)) path_fits
      (octets_append reach (comms ++ tunnel_text value.pmsi)
      (attribute_fits 0x80 14 (reach_value advert) (omega arith) (omega arith) (omega arith) value_fits)
      (octets_append comms (tunnel_text value.pmsi)
      (attribute_fits 0xC0 16 (comms_octets value.comms) (omega arith) (omega arith) (omega arith) (comms_fit value.comms v.comms))
      v.tunnel.octets))

  advert_length : length (advert_text advert) ≤ 1000
  advert_length =
      let reach : List ℕ = attribute 0x80 14 (reach_value advert) in
      let comms : List ℕ = attribute 0xC0 16 (comms_octets value.comms) in
      omega (
        arith,
        length-append reach (comms ++ tunnel_text value.pmsi),
        length-append comms (tunnel_text value.pmsi),
        attribute_length 0x80 14 (reach_value advert),
        value_length,
        attribute_length 0xC0 16 (comms_octets value.comms),
        comms_length value.comms v.comms,
        v.few,
        v.tunnel.few,
      )

  -- what announces it
  pub reach_put : IsBgpPut (Reach key value)
  reach_put =
      let change : updates.Change = as_update (Reach key value) in
      let few : length (written change) ≤ 4096 = message_few (advert_text advert) advert_length in
      let writable : IsWritable change =
      record {
        key = k.writable;
        next_hop = host_hop f value.next_hop v.next_hop;
        comms = are_comms value.comms v.comms;
        tunnel =
            v.tunnel.spelled;
      } in
      ((messages.Update (update_of change) ∷ [], refl, written_spells change writable k.prefix few), message_octets (advert_text advert) advert_fits)

-- what withdraws it
pub unreach_put : (key : Key) → FitsKey key → IsBgpPut (Unreach key)
unreach_put key k =
    let change : updates.Change = as_update (Unreach key) in
    let text : List ℕ = key_text withdrawn key in
    let value : List ℕ = pair (family_of key) ++ text in
    let fits : IsOctets value = octets_append (pair (family_of key)) text (pair_fits (family_of key)) k.unreach in
    let size : length (attribute 0x80 15 value) ≤ 1000 = omega (arith, attribute_length 0x80 15 value, k.unreach_few) in
    let few : length (written change) ≤ 4096 = message_few (attribute 0x80 15 value) size in (
      (messages.Update (update_of change) ∷ [], refl, written_spells change k.writable k.prefix few),
      message_octets (attribute 0x80 15 value) (attribute_fits 0x80 15 value (omega arith) (omega arith) (omega arith) fits),
    )

-- The first fault of the attributes of an UPDATE message: whole attributes stand before it, and in the next one whole
-- fields. An offset counts from the first of the octets that a relation speaks of, but where it is said otherwise.
use Rattle.std.specs.Prelude.{◌≡◌, ◌≢◌, ℕ, ◌+◌, ◌%◌, ◌<◌, ◌⊎◌, List, [], ◌∷◌, ◌++◌, length}
use Rattle.mv_base.specs.declared.addr.Addr.{Addr}
use Rattle.mv_base.specs.framing.Parts.{PartFails}
use Rattle.bgp_values.specs.declared.pmsi_attr.fault.PmsiFault.{PmsiFault}
use Rattle.bgp_values.specs.pmsi_attr.FirstFault as tunnel_faults
use Rattle.bgp_values.specs.declared.mvpn_nlri.fault.RouteFault.{RouteFault}
use Rattle.bgp_values.specs.declared.mvpn_nlri.route.Afi.{Afi}
use Rattle.bgp_values.specs.mvpn_nlri.FirstFault as route_faults
use Rattle.bgp_messages.specs.declared.bgp_attributes.fault.StreamFault.{StreamFault}
use Rattle.bgp_messages.specs.declared.bgp_attributes.fault.StreamFault.TheVariants.{AttributeList, AttributeLength, NextHop, Route, Pmsi, Prefix}
use Rattle.bgp_messages.specs.declared.bgp_attributes.key.Key.{Key}
use Rattle.bgp_messages.specs.declared.bgp_attributes.family.Family.{Family}
use Rattle.bgp_messages.specs.declared.bgp_attributes.family.Family.TheVariants.{Mcast, Vpn}
use Rattle.bgp_messages.specs.declared.bgp_attributes.attribute.Attribute.{Attribute}
use Rattle.bgp_messages.specs.bgp_attributes.Spelling.{pair, SpellsNextHop, addr_bits, octets_for, AreKeys}
use Rattle.bgp_messages.specs.bgp_attributes.Spelling.{FitsLen, len_field, SpellsAttribute, IsNewType, IsNew}

-- the first octets, of which there are some, are no key
pub data KeyFault (f : Family) (octets : List ℕ) (offset : ℕ) (e : StreamFault) : Type 0 where
  in_route : (afi : Afi) (g : RouteFault) → f ≡ Mcast afi → route_faults.FirstFault afi octets g → offset ≡ g.place →
      e ≡ Route g.reason → KeyFault f octets offset e
  bits_few : (afi : Afi) (bits : ℕ) (rest : List ℕ) → f ≡ Vpn afi → octets ≡ bits ∷ rest → bits < 88 → offset ≡ 0 → e ≡ Prefix →
      KeyFault f octets offset e
  bits_many : (afi : Afi) (bits : ℕ) (rest : List ℕ) → f ≡ Vpn afi → octets ≡ bits ∷ rest → 88 + addr_bits afi < bits →
      offset ≡ 0 → e ≡ Prefix → KeyFault f octets offset e
  octets_few : (afi : Afi) (bits : ℕ) (rest : List ℕ) → f ≡ Vpn afi → octets ≡ bits ∷ rest → length rest < octets_for bits →
      offset ≡ 0 → e ≡ Prefix → KeyFault f octets offset e

-- whole keys stand first, and the next one has a fault
pub record KeysFault (f : Family) (nlri : List ℕ) (offset : ℕ) (e : StreamFault) : Type 0 where
  pub routes : List Key
  pub rest : List ℕ
  pub inner : ℕ
  pub stand : AreKeys f routes nlri rest
  pub follow : 0 < length rest
  pub at : offset + length rest ≡ length nlri + inner
  pub faulty : KeyFault f rest inner e

-- the lengths of next hops: an address of either family, with a Route Distinguisher in front for VPN routes
abbrev pub IsHopLen : Family → ℕ → Type 0
IsHopLen (Mcast afi) len = (len ≡ 4) ⊎ (len ≡ 16)
IsHopLen (Vpn afi) len = (len ≡ 12) ⊎ (len ≡ 24)

-- The value of an attribute of that type fails. The value stands at a place, and the fault at an offset, that count
-- from the attribute's first octet.
pub data ValueFault (kind : ℕ) (value : List ℕ) (place : ℕ) (offset : ℕ) (e : StreamFault) : Type 0 where
  no_family : (kind ≡ 14) ⊎ (kind ≡ 15) → length value < 3 → offset ≡ 0 → e ≡ AttributeLength → ValueFault kind value place offset e
  no_hop_len : (f : Family) → kind ≡ 14 → value ≡ pair f → offset ≡ 0 → e ≡ AttributeLength → ValueFault kind value place offset e
  hop_len : (f : Family) (len : ℕ) (rest : List ℕ) → kind ≡ 14 → value ≡ pair f ++ (len ∷ rest) → ¬ (IsHopLen f len) →
      offset ≡ place + 3 → e ≡ NextHop → ValueFault kind value place offset e
  -- next hop and reserved octet
  hop_cut : (f : Family) (len : ℕ) (rest : List ℕ) → kind ≡ 14 → value ≡ pair f ++ (len ∷ rest) → IsHopLen f len →
      length rest < len + 1 → offset ≡ 0 → e ≡ AttributeLength → ValueFault kind value place offset e
  in_reach : (f : Family) (addr : Addr) (hop : List ℕ) (reserved : ℕ) (nlri : List ℕ) (inner : ℕ) → kind ≡ 14 →
      SpellsNextHop f addr hop → value ≡ pair f ++ (length hop ∷ (hop ++ (reserved ∷ nlri))) → KeysFault f nlri inner e
      → offset ≡ place + 5 + length hop + inner → ValueFault kind value place offset e
  in_unreach : (f : Family) (nlri : List ℕ) (inner : ℕ) → kind ≡ 15 → value ≡ pair f ++ nlri → KeysFault f nlri inner e →
      offset ≡ place + 3 + inner → ValueFault kind value place offset e
  communities : kind ≡ 16 → length value % 8 ≢ 0 → offset ≡ 0 → e ≡ AttributeLength → ValueFault kind value place offset e
  in_tunnel : (g : PmsiFault) → kind ≡ 22 → tunnel_faults.FirstFault value g → offset ≡ place + g.place → e ≡ Pmsi g.reason →
      ValueFault kind value place offset e

-- the octets after the type are no length with a value of that length after it
abbrev pub IsCut : ℕ → List ℕ → Type 0
IsCut flags rest = (value after : List ℕ) → FitsLen flags (length value) → rest ≢ len_field flags (length value) ++ (value ++ after)

-- After those attributes the next one fails.
pub data AttributeFault (before : List Attribute) (octets : List ℕ) (offset : ℕ) (e : StreamFault) : Type 0 where
  type_cut : (flags : ℕ) → octets ≡ flags ∷ [] → offset ≡ 0 → e ≡ AttributeLength → AttributeFault before octets offset e
  -- a type that is read stands a second time
  again : (flags kind : ℕ) (rest : List ℕ) → octets ≡ flags ∷ (kind ∷ rest) → ¬ (IsNewType before kind) → offset ≡ 0 →
      e ≡ AttributeList → AttributeFault before octets offset e
  cut : (flags kind : ℕ) (rest : List ℕ) → octets ≡ flags ∷ (kind ∷ rest) → IsNewType before kind → IsCut flags rest →
      offset ≡ 0 → e ≡ AttributeLength → AttributeFault before octets offset e
  in_value : (flags kind : ℕ) (value after : List ℕ) →
      octets ≡ flags ∷ (kind ∷ (len_field flags (length value) ++ (value ++ after))) → IsNewType before kind → FitsLen flags (length value)
      → ValueFault kind value (2 + length (len_field flags (length value))) offset e → AttributeFault before octets offset e

-- whole attributes stand before the place, and the next one has the fault
abbrev pub AttributesFault : List ℕ → ℕ → StreamFault → Type 0
AttributesFault octets place e = PartFails SpellsAttribute IsNew AttributeFault octets place e

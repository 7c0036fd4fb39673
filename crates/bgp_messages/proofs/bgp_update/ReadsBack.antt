-- What is written spells the change.
use Rattle.std.proofs.Common.{◌≡◌, ◌≢◌, ℕ, ◌+◌, ◌^◌, ◌<◌, ◌≤◌, Bool, true, false, cond, ltb, inl, inr, List, [], ◌∷◌, ◌++◌, length, replicate, Option, Some, None, refl, sym, ap, subst, ◌∙◌, arith}
use Rattle.std.specs.List.{AllByRecursion}
use Rattle.std.specs.Int.{w16, w32, to_be_bytes}
use Rattle.std.specs.Int.Bits.{bit_or}
use Rattle.std.proofs.lemmas.Bool.{ltb-false}
use Rattle.std.proofs.lemmas.List.{append-nil, length-append}
use Rattle.mv_base.specs.Octets.{IsOctets}
use Rattle.mv_base.specs.Address.{addr_octets, IsAddr}
use Rattle.mv_base.specs.declared.addr.Addr.{Addr}
use Rattle.mv_base.specs.declared.addr.Addr.TheVariants.{V4, V6}
use Rattle.mv_base.specs.declared.rd.Rd.{Rd}
use Rattle.mv_base.specs.framing.Parts.{ArePartsAfter}
use Rattle.mv_base.specs.framing.Feed.{fed, unfed, further}
use Rattle.mv_base.proofs.framing.Feedings.{fed_one}
use Rattle.bgp_values.specs.declared.pmsi_attr.pmsi.Pmsi.{Pmsi}
use Rattle.bgp_values.specs.pmsi_attr.Spelling as tunnels
use Rattle.mv_base.specs.declared.route_targets.communities.ExtComm.{ExtComm}
use Rattle.bgp_values.specs.declared.mvpn_nlri.route.Afi.TheVariants.{Ipv4, Ipv6}
use Rattle.bgp_messages.specs.declared.bgp_attributes.family.Family.{Family}
use Rattle.bgp_messages.specs.declared.bgp_attributes.family.Family.TheVariants as families
use Rattle.bgp_messages.specs.declared.bgp_attributes.attribute.Attribute.{Attribute}
use Rattle.bgp_messages.specs.declared.bgp_attributes.attribute.Attribute.TheVariants as parts
use Rattle.bgp_messages.specs.declared.bgp_attributes.key.Key.{Key}
use Rattle.bgp_messages.specs.declared.bgp_attributes.key.Key.TheVariants.{Mcast, Unicast}
use Rattle.bgp_messages.specs.declared.bgp_attributes.update.Advert.{Advert}
use Rattle.bgp_messages.specs.declared.bgp_attributes.update.Update.{Update}
use Rattle.bgp_messages.specs.declared.bgp_attributes.update.Change.{Change}
use Rattle.bgp_messages.specs.declared.bgp_attributes.update.Change.TheVariants.{Reach, Unreach}
use Rattle.bgp_messages.specs.declared.bgp_attributes.update.Message.TheVariants as messages
use Rattle.bgp_messages.specs.bgp_attributes.Spelling as attributes
use Rattle.bgp_messages.specs.bgp_attributes.Spelling.{pair, SpellsMapped, SpellsNextHop, octets_for, SpellsVpn, SpellsKey, SpellsUnit, AreKeys, type_of, IsReadType, SpellsReachable, SpellsUnreachable, SpellsValue, is_extended, len_field, FitsLen, SpellsAttribute, IsNew, AreAttributes}
use Rattle.bgp_messages.specs.bgp_update.Spelling.{header, SpellsMessage}
use Rattle.bgp_messages.specs.bgp_update.Reading.{message_front}
use Rattle.bgp_messages.specs.bgp_update.Table.{key_of}
use Rattle.bgp_messages.specs.bgp_update.Written.{attribute_head, attribute, afi_of, family_of, mapped, hop_of, IsNextHop, vpn_text, key_text, advertised, withdrawn, comms_octets, reach_value, unreach_value, tunnel_text, advert_text, attributes_of, message_text, written, update_of, IsVpnPrefix, IsWritableKey, HasOctets, IsTunnel, IsWritableAdvert, IsWritable}
use Rattle.bgp_messages.proofs.bgp_update.Messages.{messages_framed}
use Rattle.bgp_messages.proofs.bgp_attributes.PrefixLemmas.{prefix_spelled}

-- ---- keys

spells_vpn : (label : List ℕ) (rd : Rd) (addr : Addr) (bits : ℕ) → length label ≡ 3 → length rd.0 ≡ 8 → IsVpnPrefix addr bits
    → IsOctets (addr_octets addr) → SpellsVpn (afi_of addr) rd (record { addr = addr; bits = bits })
    (vpn_text label rd (record { addr = addr; bits = bits }))
spells_vpn label rd (V4 octets) bits three eight (len, is) fits = prefix_spelled rd (V4 octets) bits label eight three len fits is
spells_vpn label rd (V6 octets) bits three eight (len, is) fits = prefix_spelled rd (V6 octets) bits label eight three len fits is

key_spelled : (label : List ℕ) (key : Key) → length label ≡ 3 → IsWritableKey key → HasOctets key → SpellsKey (family_of key) key (key_text label key)
key_spelled label (Mcast afi route) three w fits = (refl, w)
key_spelled label (Unicast rd prefix) three w fits = spells_vpn label rd prefix.addr prefix.bits three w.rd_len w.is_prefix fits

keys_spelled : (f : Family) (key : Key) (text : List ℕ) → SpellsKey f key text → AreKeys f (key ∷ []) text []
keys_spelled f key text s = record {
  units = record { messages = key ∷ []; octets = text } ∷ [];
  each = ((key, refl, s), tt);
  parts = sym (append-nil text) ∙ sym (append-nil (text ++ []));
  carried = refl;
}

-- ---- values

mapped_spelled : (addr : Addr) → IsNextHop (families.Vpn Ipv6) addr → SpellsMapped addr (mapped addr) × (length (mapped addr) ≡ 16)
mapped_spelled (V4 octets) (len, is) = ((len, inr refl), omega (arith, len))
mapped_spelled (V6 octets) (len, is) = ((len, is, refl), len)

next_hop_spelled : (f : Family) (addr : Addr) → IsNextHop f addr → (hop : List ℕ) × SpellsNextHop f addr hop × (hop_of f addr ≡ length hop ∷ hop)
next_hop_spelled (families.Mcast afi) addr is = (addr_octets addr, (is.0, refl), refl)
next_hop_spelled (families.Vpn Ipv4) addr is =
    let hop : List ℕ = replicate 8 0 ++ addr_octets addr in
    let len : 8 + length (addr_octets addr) ≡ length hop = omega arith in
    (hop, (replicate 8 0, addr_octets addr, refl, (is.0, refl), refl), ap (λ (n : ℕ). n ∷ hop) len)
next_hop_spelled (families.Vpn Ipv6) addr is =
    let s = mapped_spelled addr is in
    let hop : List ℕ = replicate 8 0 ++ mapped addr in
    let len : 24 ≡ length hop = omega (arith, s.1) in
    (hop, (replicate 8 0, mapped addr, refl, s.0, refl), ap (λ (n : ℕ). n ∷ hop) len)

reach_spelled : (advert : Advert) → IsWritableAdvert advert → HasOctets advert.key
    → SpellsReachable (record { next_hop = advert.next_hop; keys = advert.key ∷ [] }) (reach_value advert)
reach_spelled advert w fits =
    let f : Family = family_of advert.key in
    let hop = next_hop_spelled f advert.next_hop w.next_hop in
    let nlri : List ℕ = key_text advertised advert.key in
    record {
      family = f;
      hop = hop.0;
      reserved = 0;
      nlri = nlri;
      next_hop = hop.1;
      routes = keys_spelled f advert.key nlri (key_spelled advertised advert.key refl w.key fits);
      parts = ap (λ (xs : List ℕ). pair f ++ (xs ++ (0 ∷ nlri))) hop.2;
    }

unreach_spelled : (key : Key) → IsWritableKey key → HasOctets key → SpellsUnreachable (key ∷ []) (unreach_value key)
unreach_spelled key w fits = record {
  family = family_of key;
  nlri = key_text withdrawn key;
  routes = keys_spelled (family_of key) key (key_text withdrawn key) (key_spelled withdrawn key refl w fits);
  parts = refl;
}

-- ---- attributes

-- flags without Extended Length
record IsShort (flags : ℕ) : Type 0 where
  unset : is_extended flags ≡ false
  set : is_extended (bit_or flags 16) ≡ true

attribute_by : (a : Attribute) (flags : ℕ) (value : List ℕ) (wide : Bool) → ltb 255 (length value) ≡ wide → IsShort flags → length value < 2 ^ 16
    → SpellsValue a value
    → SpellsAttribute a (cond wide (bit_or flags 16 ∷ type_of a ∷ to_be_bytes w16 (length value)) (flags ∷ type_of a ∷ length value ∷ []) ++ value)
attribute_by a flags value true e short few means = record {
  flags = bit_or flags 16;
  value = value;
  fits = subst (λ (b : Bool). length value < cond b (2 ^ 16) (2 ^ 8)) (sym short.set) few;
  parts = ap (λ (b : Bool). bit_or flags 16 ∷ (type_of a ∷ (cond b (to_be_bytes w16 (length value)) (length value ∷ []) ++ value))) (sym short.set);
  means = means;
}
attribute_by a flags value false e short few means = record {
  flags = flags;
  value = value;
  fits = subst (λ (b : Bool). length value < cond b (2 ^ 16) (2 ^ 8)) (sym short.unset)
      (let le : length value ≤ 255 = ltb-false _ _ e in omega (arith, le));
  parts = ap (λ (b : Bool). flags ∷ (type_of a ∷ (cond b (to_be_bytes w16 (length value)) (length value ∷ []) ++ value))) (sym short.unset);
  means = means;
}

attribute_spelled : (a : Attribute) (flags : ℕ) (value : List ℕ) → IsShort flags → length value < 2 ^ 16 → SpellsValue a value
    → SpellsAttribute a (attribute flags (type_of a) value)
attribute_spelled a flags value short few means = attribute_by a flags value (ltb 255 (length value)) refl short few means

well_known : IsShort 0x40
well_known = record { unset = refl; set = refl }

optional : IsShort 0x80
optional = record { unset = refl; set = refl }

transitive : IsShort 0xC0
transitive = record { unset = refl; set = refl }

-- a type that is not read
passed_over : (kind : ℕ) → kind < 14 → ¬ (IsReadType kind)
passed_over kind lt h =
    elim h [
      | inl a ↦ omega (arith, a, lt)
      | inr b ↦
          elim b [ inl a ↦ omega (arith, a, lt) | inr d ↦ elim d [ inl a ↦ omega (arith, a, lt) | inr a ↦ omega (arith, a, lt) ] ]
    ]

passed_spelled : (kind : ℕ) (value : List ℕ) → kind < 14 → length value < 2 ^ 16 → SpellsAttribute (parts.Passed kind) (attribute 0x40 kind value)
passed_spelled kind value lt few = attribute_spelled (parts.Passed kind) 0x40 value well_known few (passed_over kind lt)

-- ---- the attributes of an announcement

abbrev path : List Attribute
path = parts.Passed 1 ∷ parts.Passed 2 ∷ parts.Passed 5 ∷ []

abbrev reached : Advert → Attribute
reached advert = parts.Reach (Some (record { next_hop = advert.next_hop; keys = advert.key ∷ [] }))

abbrev tunnel_in : Option Pmsi → List Attribute
tunnel_in None = []
tunnel_in (Some pmsi) = parts.Tunnel pmsi ∷ []

-- the tunnel stands last
tunnel_stands : (before : List Attribute) (pmsi : Option Pmsi) → IsTunnel pmsi → length (tunnel_text pmsi) ≤ 4096
    → AllByRecursion (λ b. type_of b ≢ 22) before → ArePartsAfter SpellsAttribute IsNew before (tunnel_text pmsi) (tunnel_in pmsi) []
tunnel_stands before None is few new = refl
tunnel_stands before (Some pmsi) is few new =
    let text : List ℕ = tunnel_text (Some pmsi) in
    let value : List ℕ = tunnels.written pmsi in
    let small : length value < 2 ^ 16 = omega (arith, few, length-append (attribute_head 192 22 (length value)) value) in
    (text, [], attribute_spelled (parts.Tunnel pmsi) 0xC0 value transitive small is, (λ _. new), sym (append-nil text), refl)

advert_stands : (advert : Advert) → IsWritableAdvert advert → HasOctets advert.key → length (advert_text advert) ≤ 4096
    → AreAttributes (advert_text advert) (parts.Passed 1 ∷ parts.Passed 2 ∷ parts.Passed 5 ∷ reached advert ∷ parts.Communities advert.comms
    ∷ tunnel_in advert.pmsi)
advert_stands advert w fits few =
    let a : List ℕ = reach_value advert in
    let b : List ℕ = comms_octets advert.comms in
    let reach : List ℕ = attribute 0x80 14 a in
    let comms : List ℕ = attribute 0xC0 16 b in
    let tunnel : List ℕ = tunnel_text advert.pmsi in
    let sizes : length (advert_text advert) ≡ 14 + (length reach + (length comms + length tunnel)) =
    omega (arith, length-append reach (comms ++ tunnel), length-append comms tunnel) in
    let small_a : length a < 2 ^ 16 = omega (arith, few, sizes, length-append (attribute_head 128 14 (length a)) a) in
    let small_b : length b < 2 ^ 16 = omega (arith, few, sizes, length-append (attribute_head 192 16 (length b)) b) in (
      attribute 0x40 1 (0 ∷ []),
      attribute 0x40 2 [] ++ (attribute 0x40 5 (to_be_bytes w32 100) ++ (reach ++ (comms ++ tunnel))),
      passed_spelled 1 (0 ∷ []) (omega arith) (omega arith),
      (λ _. tt),
      refl,
      (
        attribute 0x40 2 [],
        attribute 0x40 5 (to_be_bytes w32 100) ++ (reach ++ (comms ++ tunnel)),
        passed_spelled 2 [] (omega arith) (omega arith),
        (λ _. (unlike 1 2 (omega arith), tt)),
        refl,
        (
          attribute 0x40 5 (to_be_bytes w32 100),
          reach ++ (comms ++ tunnel),
          passed_spelled 5 (to_be_bytes w32 100) (omega arith) (omega arith),
          (λ _. (unlike 1 5 (omega arith), (unlike 2 5 (omega arith), tt))),
          refl,
          (
            reach,
            comms ++ tunnel,
            attribute_spelled (reached advert) 0x80 a optional small_a (reach_spelled advert w fits),
            (λ _. (unlike 1 14 (omega arith), (unlike 2 14 (omega arith), (unlike 5 14 (omega arith), tt)))),
            refl,
            (
              comms,
              tunnel,
              attribute_spelled (parts.Communities advert.comms) 0xC0 b transitive small_b (w.comms, refl),
              (λ _. (unlike 1 16 (omega arith), (unlike 2 16 (omega arith), (unlike 5 16 (omega arith), (unlike 14 16 (omega arith), tt))))),
              refl,
              tunnel_stands (parts.Passed 1 ∷ parts.Passed 2 ∷ parts.Passed 5 ∷ reached advert ∷ parts.Communities advert.comms ∷ []) advert.pmsi
                  w.tunnel (omega (arith, few, sizes)) (
                    unlike 1 22 (omega arith),
                    (
                      unlike 2 22 (omega arith),
                      (unlike 5 22 (omega arith), (unlike 14 22 (omega arith), (unlike 16 22 (omega arith), tt))),
                    ),
                  ),
            ),
          ),
        ),
      ),
    )
  where
    unlike : (m n : ℕ) → m < n → m ≢ n
    unlike m n lt same = omega (arith, lt, same)

advert_says : (key : Key) (next_hop : Addr) (comms : List ExtComm) (pmsi : Option Pmsi) → let advert : Advert =
    record { key = key; next_hop = next_hop; comms = comms; pmsi = pmsi } in
    let update : Update = record { reach = advert ∷ []; unreach = [] } in
    update ≡ attributes.update_of (parts.Passed 1 ∷ parts.Passed 2 ∷ parts.Passed 5 ∷ reached advert ∷ parts.Communities comms ∷ tunnel_in pmsi)
advert_says key next_hop comms None =
    ap (λ (cs : List ExtComm). record { reach = record { key = key; next_hop = next_hop; comms = cs; pmsi = None } ∷ []; unreach = [] })
    (sym (append-nil comms))
advert_says key next_hop comms (Some pmsi) =
    ap (λ (cs : List ExtComm). record { reach = record { key = key; next_hop = next_hop; comms = cs; pmsi = Some pmsi } ∷ []; unreach = [] })
    (sym (append-nil comms))

attributes_spelled : (change : Change) → IsWritable change → HasOctets (key_of change) → length (attributes_of change) ≤ 4096
    → attributes.Spells (update_of change) (attributes_of change)
attributes_spelled (Reach advert) w fits few = (
  parts.Passed 1 ∷ parts.Passed 2 ∷ parts.Passed 5 ∷ reached advert ∷ parts.Communities advert.comms ∷ tunnel_in advert.pmsi,
  advert_stands advert w fits few,
  advert_says advert.key advert.next_hop advert.comms advert.pmsi,
)
attributes_spelled (Unreach key) w fits few =
    let a : List ℕ = unreach_value key in
    let text : List ℕ = attribute 0x80 15 a in
    let small : length a < 2 ^ 16 = omega (arith, few, length-append (attribute_head 128 15 (length a)) a) in (
      parts.Unreach (Some (key ∷ [])) ∷ [],
      (
        text,
        [],
        attribute_spelled (parts.Unreach (Some (key ∷ []))) 0x80 a optional small (unreach_spelled key w fits),
        (λ _. tt),
        sym (append-nil text),
        refl,
      ),
      refl,
    )

-- ---- messages

message_spelled : (update : Update) (list : List ℕ) → 23 + length list ≤ 4096 → attributes.Spells update list
    → SpellsMessage (messages.Update update ∷ []) (message_text list)
message_spelled update list few s =
    let body : List ℕ = (0 ∷ 0 ∷ []) ++ (to_be_bytes w16 (length list) ++ list) in
    let len : 23 + length list ≡ 19 + length body = omega arith in
    record {
      message = messages.Update update;
      kind = 2;
      body = body;
      one = refl;
      parts = ap (λ (n : ℕ). header n 2 ++ body) len;
      within = omega (arith, few);
      means = (
        refl,
        record {
          withdrawn = [];
          list = list;
          rest = [];
          parts =
              ap (λ (xs : List ℕ). (0 ∷ 0 ∷ []) ++ (to_be_bytes w16 (length list) ++ xs)) (sym (append-nil list));
          spelled = s;
        },
      );
    }

message_len : (list : List ℕ) → length (message_text list) ≡ 23 + length list
message_len list = omega arith

-- What is written spells the UPDATE that makes the change.
pub written_spells : (change : Change) → IsWritable change → HasOctets (key_of change) → length (written change) ≤ 4096
    → SpellsMessage (messages.Update (update_of change) ∷ []) (written change)
written_spells change w fits few =
    let le : 23 + length (attributes_of change) ≤ 4096 = omega (arith, few, message_len (attributes_of change)) in
    message_spelled (update_of change) (attributes_of change) le (attributes_spelled change w fits (omega (arith, le)))

-- A fresh stream that is fed it has just that message.
pub written_fed : (change : Change) → IsWritable change → HasOctets (key_of change) → length (written change) ≤ 4096
    → fed message_front unfed (written change) ≡
    record { waiting = messages.Update (update_of change) ∷ []; held = []; before = length (written change); fault = None }
written_fed change w fits few =
    let n : ℕ = length (written change) in
    let place : further 0 n ≡ n = omega (arith, few) in
    fed_one message_front SpellsMessage messages_framed (messages.Update (update_of change) ∷ []) (written change) (written_spells change w fits few)
    ∙ ap (λ (k : ℕ). record { waiting = messages.Update (update_of change) ∷ []; held = []; before = k; fault = None }) place

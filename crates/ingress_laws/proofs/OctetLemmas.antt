-- The routes of a message that is octets are octets, and so are the answers to them.
use Rattle.std.proofs.Common.{◌≡◌, ◌∙◌, ap, sym, subst, refl, arith, length-append, append_assoc, ℕ, suc, ◌+◌, ◌*◌, ◌/◌, ◌%◌, ◌<◌, ◌≤◌, List, [], ◌∷◌, ◌++◌, length, map, Option, Some, None}
use Rattle.std.specs.Int.{w16, w32, to_be_bytes}
use Rattle.std.specs.Prelude.{⊤}
use Rattle.std.specs.List.{flat_map, AllByRecursion}
use Rattle.mv_base.specs.Address.{addr_octets}
use Rattle.mv_base.specs.Octets.{IsOctets}
use Rattle.mv_base.specs.declared.addr.Addr.{Addr}
use Rattle.mv_base.specs.declared.addr.Addr.TheVariants.{V4}
use Rattle.mv_base.specs.declared.route_targets.communities.ExtComm.{ExtComm}
use Rattle.mv_base.specs.framing.Parts.{ArePartsAfter}
use Rattle.mv_base.specs.framing.Units.{octets_of, messages_of, AreUnits, Begins, Spelled}
use Rattle.mv_base.proofs.framing.Cuts.{IsOctets-before, IsOctets-after}
use Rattle.bgp_values.specs.declared.mvpn_nlri.route.Afi.{Afi}
use Rattle.bgp_values.specs.declared.mvpn_nlri.route.Afi.TheVariants.{Ipv4, Ipv6}
use Rattle.bgp_values.specs.declared.mvpn_nlri.route.LeafKey.{LeafKey}
use Rattle.bgp_values.specs.declared.mvpn_nlri.route.Route.TheVariants.{Leaf}
use Rattle.bgp_values.specs.declared.pmsi_attr.pmsi.Pmsi.{Pmsi}
use Rattle.bgp_values.specs.mvpn_nlri.Spelling as routes
use Rattle.bgp_values.specs.pmsi_attr.Spelling as tunnels
use Rattle.bgp_values.proofs.mvpn_nlri.WritingLemmas.{fields_room}
use Rattle.bgp_messages.specs.declared.bgp_attributes.attribute.Attribute.{Attribute}
use Rattle.bgp_messages.specs.declared.bgp_attributes.attribute.Attribute.TheVariants.{Reach, Unreach, Communities, Tunnel, Passed}
use Rattle.bgp_messages.specs.declared.bgp_attributes.family.Family.{Family}
use Rattle.bgp_messages.specs.declared.bgp_attributes.family.Family.TheVariants as families
use Rattle.bgp_messages.specs.declared.bgp_attributes.key.Key.{Key}
use Rattle.bgp_messages.specs.declared.bgp_attributes.key.Key.TheVariants.{Mcast, Unicast}
use Rattle.bgp_messages.specs.declared.bgp_attributes.update.Advert.{Advert}
use Rattle.bgp_messages.specs.declared.bgp_attributes.update.Change.TheVariants as changes
use Rattle.bgp_messages.specs.declared.bgp_attributes.update.Message.{Message}
use Rattle.bgp_messages.specs.declared.bgp_attributes.update.Message.TheVariants as messages
use Rattle.bgp_messages.specs.declared.bgp_attributes.update.Update.{Update}
use Rattle.bgp_messages.specs.bgp_attributes.Spelling.{adverts_in, comms_of, len_field, pair, pmsi_of, IsNew, SpellsAttribute, SpellsKey, SpellsUnit}
use Rattle.bgp_messages.specs.bgp_attributes.Spelling as attributes
use Rattle.bgp_messages.specs.bgp_update.Spelling.{header, Means, SpellsMessage}
use Rattle.bgp_messages.specs.bgp_update.Written.{advert_text, attribute, comms_octets, hop_of, key_text, advertised, path_text, reach_value, tunnel_text}
use Rattle.bgp_messages.proofs.bgp_update.Appending.{message_octets}
use Rattle.edge_streams.specs.Spelled.{IsSpelled}
use Rattle.edge_streams.proofs.SpelledLemmas.{flat_holds}
use Rattle.network_laws.proofs.BgpOctets.{attribute_fits, comms_fit, no_octets, octets_append, octets_cons, octets_of_16, octets_of_32, one_octet}
use Rattle.ingress_rep.specs.declared.request.Request.{Request}
use Rattle.ingress_rep.specs.Ingress.{answer_of, leaf_tunnel, root_target}
use Rattle.ingress_laws.specs.Answered.{IsAddress}

-- ---- what is spelled end to end

both_hold : {M : Type 0} (P : M → Type 0) (ms ns : List M) → AllByRecursion P ms → AllByRecursion P ns → AllByRecursion P (ms ++ ns)
both_hold P [] ns all more = more
both_hold P (m ∷ ms) ns all more = (all.0, both_hold P ms ns all.1 more)

-- octets after the first one
thereafter_one : (x : ℕ) (xs : List ℕ) → IsOctets (x ∷ xs) → IsOctets xs
thereafter_one x xs fits i = fits (suc i)

module _ {M : Type 0} (Spells : List M → List ℕ → Type 0) (P : M → Type 0)
    (each : (ms : List M) (text : List ℕ) → Spells ms text → IsOctets text → AllByRecursion P ms) where
  units_hold : (units : List (Spelled M)) (rest : List ℕ) → AreUnits Spells units → IsOctets (octets_of units ++ rest)
      → AllByRecursion P (messages_of units)
  units_hold [] rest are fits = tt
  units_hold (u ∷ units) rest are fits =
      let whole : IsOctets (u.octets ++ (octets_of units ++ rest)) = subst IsOctets (append_assoc u.octets (octets_of units) rest) fits in
      both_hold P u.messages (messages_of units) (each u.messages u.octets are.0 (IsOctets-before u.octets (octets_of units ++ rest) whole))
      (units_hold units rest are.1 (IsOctets-after u.octets (octets_of units ++ rest) whole))

  pub begun_hold : (stream : List ℕ) (ms : List M) (rest : List ℕ) → Begins Spells stream ms rest → IsOctets stream → AllByRecursion P ms
  begun_hold stream ms rest b fits = subst (AllByRecursion P) (sym b.carried) (units_hold b.units rest b.each (subst IsOctets b.parts fits))

module _ {M : Type 0} (Spells : M → List ℕ → Type 0) (Fits : List M → M → Type 0) (P : M → Type 0)
    (each : (m : M) (text : List ℕ) → Spells m text → IsOctets text → P m) where
  parts_hold : (before : List M) (octets : List ℕ) (ms : List M) (rest : List ℕ) → ArePartsAfter Spells Fits before octets ms rest → IsOctets octets
      → AllByRecursion P ms
  parts_hold before octets [] rest are fits = tt
  parts_hold before octets (m ∷ ms) rest are fits =
      let whole : IsOctets (are.0 ++ are.1) = subst IsOctets are.4 fits in
      (each m are.0 are.2 (IsOctets-before are.0 are.1 whole), parts_hold (before ++ m ∷ []) are.1 ms rest are.5 (IsOctets-after are.0 are.1 whole))

-- ---- routes

-- a multicast route is octets
abbrev pub HasRoute : Key → Type 0
HasRoute (Mcast afi route) = IsOctets (routes.written route)
HasRoute (Unicast rd prefix) = ⊤

key_has : (f : Family) (key : Key) (text : List ℕ) → SpellsKey f key text → IsOctets text → HasRoute key
key_has (families.Mcast afi) (Mcast a route) text s fits = subst IsOctets s.1.octets fits
key_has (families.Vpn afi) (Unicast rd prefix) text s fits = tt
key_has (families.Mcast afi) (Unicast rd prefix) text s fits = tt
key_has (families.Vpn afi) (Mcast a route) text s fits = absurd s

unit_has : (f : Family) (ks : List Key) (text : List ℕ) → SpellsUnit f ks text → IsOctets text → AllByRecursion HasRoute ks
unit_has f ks text s fits = subst (AllByRecursion HasRoute) (sym s.1) (key_has f s.0 text s.2 fits, tt)

abbrev HasRoutes : Attribute → Type 0
HasRoutes (Reach (Some r)) = AllByRecursion HasRoute r.keys
HasRoutes (Reach None) = ⊤
HasRoutes (Unreach ks) = ⊤
HasRoutes (Communities comms) = ⊤
HasRoutes (Tunnel pmsi) = ⊤
HasRoutes (Passed kind) = ⊤

attribute_has : (a : Attribute) (text : List ℕ) → SpellsAttribute a text → IsOctets text → HasRoutes a
attribute_has (Reach (Some r)) text s fits =
    let m = s.means in
    let field : List ℕ = len_field s.flags (length s.value) in
    let value : IsOctets s.value =
    IsOctets-after field s.value (thereafter_one 14 (field ++ s.value) (thereafter_one s.flags (14 ∷ (field ++ s.value)) (subst IsOctets s.parts fits)))
    in
    let hop : IsOctets (m.hop ++ (m.reserved ∷ m.nlri)) =
    thereafter_one (length m.hop) (m.hop ++ (m.reserved ∷ m.nlri))
    (IsOctets-after (pair m.family) (length m.hop ∷ (m.hop ++ (m.reserved ∷ m.nlri))) (subst IsOctets m.parts value)) in
    let nlri : IsOctets m.nlri = thereafter_one m.reserved m.nlri (IsOctets-after m.hop (m.reserved ∷ m.nlri) hop) in
    begun_hold (SpellsUnit m.family) HasRoute (unit_has m.family) m.nlri r.keys [] m.routes nlri
attribute_has (Reach None) text s fits = tt
attribute_has (Unreach ks) text s fits = tt
attribute_has (Communities comms) text s fits = tt
attribute_has (Tunnel pmsi) text s fits = tt
attribute_has (Passed kind) text s fits = tt

abbrev AdvertHas : Advert → Type 0
AdvertHas advert = HasRoute advert.key

each_has : (hop : Addr) (comms : List ExtComm) (pmsi : Option Pmsi) (ks : List Key) → AllByRecursion HasRoute ks
    → AllByRecursion AdvertHas (map (λ key. record { key = key; next_hop = hop; comms = comms; pmsi = pmsi }) ks)
each_has hop comms pmsi [] all = tt
each_has hop comms pmsi (k ∷ ks) all = (all.0, each_has hop comms pmsi ks all.1)

adverts_have : (comms : List ExtComm) (pmsi : Option Pmsi) (a : Attribute) → HasRoutes a → AllByRecursion AdvertHas (adverts_in comms pmsi a)
adverts_have comms pmsi (Reach (Some r)) all = each_has r.next_hop comms pmsi r.keys all
adverts_have comms pmsi (Reach None) all = tt
adverts_have comms pmsi (Unreach ks) all = tt
adverts_have comms pmsi (Communities cs) all = tt
adverts_have comms pmsi (Tunnel own) all = tt
adverts_have comms pmsi (Passed kind) all = tt

update_has : (u : Update) (list : List ℕ) → attributes.Spells u list → IsOctets list → AllByRecursion AdvertHas u.reach
update_has u list s fits =
    subst (λ (v : Update). AllByRecursion AdvertHas v.reach) (sym s.2)
    (flat_holds HasRoutes AdvertHas (adverts_in (comms_of s.0) (pmsi_of s.0)) (adverts_have (comms_of s.0) (pmsi_of s.0)) s.0
    (parts_hold SpellsAttribute IsNew HasRoutes attribute_has [] list s.0 [] s.1 fits))

-- ---- messages

abbrev pub MessageHas : Message → Type 0
MessageHas (messages.Update u) = AllByRecursion AdvertHas u.reach
MessageHas (messages.Other kind) = ⊤

means_has : (m : Message) (kind : ℕ) (body : List ℕ) → Means m kind body → IsOctets body → MessageHas m
means_has (messages.Update u) kind body means fits =
    let b = means.1 in
    let last : List ℕ = b.list ++ b.rest in
    let list_len : List ℕ = to_be_bytes w16 (length b.list) in
    let len : List ℕ = to_be_bytes w16 (length b.withdrawn) in
    let whole : IsOctets (len ++ (b.withdrawn ++ (list_len ++ last))) = subst IsOctets b.parts fits in
    let list : IsOctets b.list =
    IsOctets-before b.list b.rest (IsOctets-after list_len last
    (IsOctets-after b.withdrawn (list_len ++ last) (IsOctets-after len (b.withdrawn ++ (list_len ++ last)) whole))) in
    update_has u b.list b.spelled list
means_has (messages.Other k) kind body means fits = tt

-- Octets spell the message, and its routes are octets.
pub record IsRead (m : Message) : Type 0 where
  pub spelled : IsSpelled m
  pub has : MessageHas m

pub message_read : (ms : List Message) (text : List ℕ) → SpellsMessage ms text → IsOctets text → AllByRecursion IsRead ms
message_read ms text s fits =
    let body : IsOctets s.body = IsOctets-after (header (19 + length s.body) s.kind) s.body (subst IsOctets s.parts fits) in
    subst (AllByRecursion IsRead) (sym s.one) (
      record { spelled = (text, subst (λ (xs : List Message). SpellsMessage xs text) s.one s); has = means_has s.message s.kind s.body s.means body },
      tt,
    )

-- ---- answers

pair_octets : (afi : Afi) → IsOctets (pair (families.Mcast afi))
pair_octets Ipv4 = octets_append (to_be_bytes w16 1) (5 ∷ []) (octets_of_16 1) (one_octet 5 (omega arith))
pair_octets Ipv6 = octets_append (to_be_bytes w16 2) (5 ∷ []) (octets_of_16 2) (one_octet 5 (omega arith))

path_octets : IsOctets path_text
path_octets =
    octets_append (attribute 0x40 1 (0 ∷ [])) (attribute 0x40 2 [] ++ attribute 0x40 5 (to_be_bytes w32 100))
    (attribute_fits 0x40 1 (0 ∷ []) (omega arith) (omega arith) (omega arith) (one_octet 0 (omega arith)))
    (octets_append (attribute 0x40 2 []) (attribute 0x40 5 (to_be_bytes w32 100))
    (attribute_fits 0x40 2 [] (omega arith) (omega arith) (omega arith) no_octets)
    (attribute_fits 0x40 5 (to_be_bytes w32 100) (omega arith) (omega arith) (omega arith) (octets_of_32 100)))

module _ (request : Request) (leaf : List ℕ) (label : ℕ) (root : IsAddress request.root) (own : IsAddress leaf)
    (key : routes.IsKey request.afi request.key) (has : IsOctets (routes.key request.key)) where
  abbrev advert : Advert
  advert = answer_of request (V4 leaf) label

  route_octets : IsOctets (routes.written (Leaf request.key (V4 leaf)))
  route_octets =
      let fields : List ℕ = routes.key request.key ++ leaf in
      let few : length fields < 256 = fields_room request.afi (Leaf request.key (V4 leaf)) (key, own.0) in
      octets_cons 4 (length fields ∷ fields) (omega arith)
      (octets_cons (length fields) fields few (octets_append (routes.key request.key) leaf has own.1))

  reach_octets : IsOctets (reach_value advert)
  reach_octets =
      let route : List ℕ = routes.written (Leaf request.key (V4 leaf)) in
      octets_append (pair (families.Mcast request.afi)) ((length leaf ∷ leaf) ++ (0 ∷ route)) (pair_octets request.afi)
      (octets_append (length leaf ∷ leaf) (0 ∷ route) (octets_cons (length leaf) leaf (omega (arith, own.0)) own.1)
      (octets_cons 0 route (omega arith) route_octets))

  target_octets : IsOctets (root_target request).0
  target_octets =
      octets_cons 1 (2 ∷ (request.root ++ (0 ∷ 0 ∷ []))) (omega arith) (octets_cons 2 (request.root ++ (0 ∷ 0 ∷ [])) (omega arith)
      (octets_append request.root (0 ∷ 0 ∷ []) root.1 (octets_cons 0 (0 ∷ []) (omega arith) (one_octet 0 (omega arith)))))

  tunnel_octets : IsOctets (tunnels.written (leaf_tunnel (V4 leaf) label))
  tunnel_octets =
      let n : ℕ = 16 * label + 0 in
      let three : List ℕ = n / 65536 % 256 ∷ n / 256 % 256 ∷ n % 256 ∷ [] in
      octets_append (0 ∷ 6 ∷ three) leaf
      (octets_cons 0 (6 ∷ three) (omega arith) (octets_cons 6 three (omega arith)
      (octets_cons (n / 65536 % 256) (n / 256 % 256 ∷ n % 256 ∷ []) (omega arith)
      (octets_cons (n / 256 % 256) (n % 256 ∷ []) (omega arith) (one_octet (n % 256) (omega arith)))))) own.1

  -- An answer is octets.
  pub answer_fits : IsOctets (advert_text advert)
  answer_fits =
      let reach : List ℕ = attribute 0x80 14 (reach_value advert) in
      let comms : List ℕ = attribute 0xC0 16 (comms_octets advert.comms) in
      let eight : length (root_target request).0 ≡ 8 = omega (arith, root.0, length-append request.root (0 ∷ 0 ∷ [])) in
      octets_append path_text (reach ++ (comms ++ tunnel_text advert.pmsi)) path_octets
      (octets_append reach (comms ++ tunnel_text advert.pmsi)
      (attribute_fits 0x80 14 (reach_value advert) (omega arith) (omega arith) (omega arith) reach_octets)
      (octets_append comms (tunnel_text advert.pmsi)
      (attribute_fits 0xC0 16 (comms_octets advert.comms) (omega arith) (omega arith) (omega arith)
      (comms_fit advert.comms ((eight, target_octets), tt)))
      (attribute_fits 0xC0 22 (tunnels.written (leaf_tunnel (V4 leaf) label)) (omega arith) (omega arith) (omega arith) tunnel_octets)))

-- What a message says that octets spell has a spelling of its own.
use Rattle.std.proofs.Common.{◌≡◌, ℕ, List, [], ◌∷◌, ◌++◌, map, Option, Some, None, refl, sym, ap, subst, ◌∙◌}
use Rattle.std.specs.List.{Contains, AllByRecursion}
use Rattle.std.proofs.lemmas.List.Elements.{All-from_recursion}
use Rattle.mv_base.specs.declared.addr.Addr.{Addr}
use Rattle.mv_base.specs.declared.addr.Addr.TheVariants.{V4, V6}
use Rattle.mv_base.specs.framing.Parts.{ArePartsAfter}
use Rattle.mv_base.specs.declared.route_targets.communities.ExtComm.{ExtComm}
use Rattle.mldp.specs.declared.mldp_fec.fec.Fec.{Fec}
use Rattle.bgp_values.specs.declared.pmsi_attr.pmsi.Pmsi.{Pmsi}
use Rattle.bgp_values.proofs.pmsi_attr.PmsiLemmas.{written_spells}
use Rattle.bgp_values.specs.declared.mvpn_nlri.route.Afi.{Afi}
use Rattle.bgp_values.specs.declared.mvpn_nlri.route.Afi.TheVariants.{Ipv4, Ipv6}
use Rattle.bgp_values.specs.mvpn_nlri.Spelling as routes
use Rattle.bgp_messages.specs.declared.bgp_attributes.key.Key.{Key}
use Rattle.bgp_messages.specs.declared.bgp_attributes.key.Key.TheVariants as keys
use Rattle.bgp_messages.specs.declared.bgp_attributes.family.Family.{Family}
use Rattle.bgp_messages.specs.declared.bgp_attributes.family.Family.TheVariants.{Mcast, Vpn}
use Rattle.bgp_messages.specs.declared.bgp_attributes.attribute.Attribute.{Attribute}
use Rattle.bgp_messages.specs.declared.bgp_attributes.attribute.Attribute.TheVariants.{Reach, Unreach, Communities, Tunnel, Passed}
use Rattle.bgp_messages.specs.declared.bgp_attributes.update.Update.{Update}
use Rattle.bgp_messages.specs.declared.bgp_attributes.update.Message.{Message}
use Rattle.bgp_messages.specs.declared.bgp_attributes.update.Message.TheVariants as messages
use Rattle.bgp_messages.specs.bgp_attributes.Spelling.{SpellsNextHop, SpellsKey, SpellsUnit, AreComms, SpellsAttribute, IsNew, AreKeys, comms_in, comms_of, pmsi_of, adverts_in, keys_in}
use Rattle.bgp_messages.specs.bgp_attributes.Spelling as attributes
use Rattle.bgp_messages.specs.bgp_update.Spelling as bgp
use Rattle.bgp_messages.specs.bgp_update.Written.{afi_of, family_of, IsVpnPrefix, IsNextHop, IsWritableKey, IsTunnel, IsWritableAdvert}
use Rattle.mldp.specs.declared.mldp_msgs.message.LabelMessage.{LabelMessage}
use Rattle.mldp.specs.declared.mldp_msgs.message.LabelMessage.TheVariants as labels
use Rattle.mldp.specs.mldp_msgs.Spelling.{SpellsTlv, IsLabel, IsElement, IsWritable, Carries}
use Rattle.mldp.specs.mldp_msgs.Spelling as ldp
use Rattle.edge_streams.specs.Spelled.{IsSpelled, IsSpelledLabel, SaysWritable, SaysWritableLabel}
use Rattle.edge_streams.proofs.Prefixes.{is_prefix, own_afi}
use Rattle.edge_streams.proofs.SpelledLemmas.{flat_holds, begins_hold}

-- ---- parts

abbrev HasText : {M : Type 0} → (M → List ℕ → Type 0) → M → Type 0
HasText Spells m = (text : List ℕ) × Spells m text

-- each part has its text
parts_spelled : {M : Type 0} (Spells : M → List ℕ → Type 0) (Fits : List M → M → Type 0) (before : List M) (octets : List ℕ) (ms : List M)
    (rest : List ℕ) → ArePartsAfter Spells Fits before octets ms rest → AllByRecursion (HasText Spells) ms
parts_spelled Spells Fits before octets [] rest h = tt
parts_spelled Spells Fits before octets (m ∷ ms) rest h = ((h.0, h.2), parts_spelled Spells Fits (before ++ m ∷ []) h.1 ms rest h.5)

-- ---- keys

-- the key has a spelling, and it is of that family
abbrev IsKeyOf : Family → Key → Type 0
IsKeyOf f key = IsWritableKey key × (family_of key ≡ f)

key_writable : (f : Family) (key : Key) (text : List ℕ) → SpellsKey f key text → IsKeyOf f key
key_writable (Mcast afi) (keys.Mcast a route) text s =
    (record { route = subst (λ (x : Afi). routes.IsRoute x route) (sym s.0) s.1.route; octets = refl }, ap (λ (x : Afi). Mcast x) s.0)
key_writable (Vpn afi) (keys.Unicast rd prefix) text s = (
  record { rd_len = s.rd_len; is_prefix = subst (λ (a : Addr). IsVpnPrefix a prefix.bits) (sym s.addr) (is_prefix afi prefix.bits s.octets s.bits) },
  ap (λ (a : Addr). Vpn (afi_of a)) s.addr ∙ ap (λ (x : Afi). Vpn x) (own_afi afi prefix.bits s.octets),
)
key_writable (Mcast afi) (keys.Unicast rd prefix) text s = absurd s
key_writable (Vpn afi) (keys.Mcast a route) text s = absurd s

keys_writable : (f : Family) (ks : List Key) (octets rest : List ℕ) → AreKeys f ks octets rest → AllByRecursion (IsKeyOf f) ks
keys_writable f ks octets rest b =
    begins_hold (SpellsUnit f) (IsKeyOf f) (λ ms text s. subst (AllByRecursion (IsKeyOf f)) (sym s.1) (key_writable f s.0 text s.2, tt)) octets ks
    rest b

writable_keys : (f : Family) (ks : List Key) → AllByRecursion (IsKeyOf f) ks → AllByRecursion IsWritableKey ks
writable_keys f [] are = tt
writable_keys f (k ∷ ks) are = (are.0.0, writable_keys f ks are.1)

-- ---- routes

hop_writable : (f : Family) (addr : Addr) (text : List ℕ) → SpellsNextHop f addr text → IsNextHop f addr
hop_writable (Mcast afi) (V4 octets) text s = (s.0, tt)
hop_writable (Mcast afi) (V6 octets) text s = (s.0, tt)
hop_writable (Vpn Ipv4) (V4 octets) text s = (s.3.0, tt)
hop_writable (Vpn Ipv4) (V6 octets) text s = (s.3.0, tt)
hop_writable (Vpn Ipv6) (V4 octets) text s = (s.3.0, tt)
hop_writable (Vpn Ipv6) (V6 octets) text s = (s.3.0, s.3.1)

adverts_writable : (f : Family) (hop : Addr) (comms : List ExtComm) (pmsi : Option Pmsi) → IsNextHop f hop → AreComms comms → IsTunnel pmsi
    → (ks : List Key) → AllByRecursion (IsKeyOf f) ks
    → AllByRecursion IsWritableAdvert (map (λ key. record { key = key; next_hop = hop; comms = comms; pmsi = pmsi }) ks)
adverts_writable f hop comms pmsi is_hop are_comms is_tunnel [] are = tt
adverts_writable f hop comms pmsi is_hop are_comms is_tunnel (k ∷ ks) are = (
  record { key = are.0.0; next_hop = subst (λ (x : Family). IsNextHop x hop) (sym are.0.1) is_hop; comms = are_comms; tunnel = is_tunnel },
  adverts_writable f hop comms pmsi is_hop are_comms is_tunnel ks are.1,
)

-- ---- attributes

abbrev IsAttribute : Attribute → Type 0
IsAttribute a = HasText SpellsAttribute a

comms_writable : (a : Attribute) → IsAttribute a → AreComms (comms_in a)
comms_writable (Communities comms) h = h.1.means.0
comms_writable (Reach r) h = tt
comms_writable (Unreach ks) h = tt
comms_writable (Tunnel pmsi) h = tt
comms_writable (Passed kind) h = tt

tunnel_writable : (list : List Attribute) → AllByRecursion IsAttribute list → IsTunnel (pmsi_of list)
tunnel_writable [] h = tt
tunnel_writable (Tunnel pmsi ∷ list) h = written_spells pmsi h.0.1.value h.0.1.means
tunnel_writable (Reach r ∷ list) h = tunnel_writable list h.1
tunnel_writable (Unreach ks ∷ list) h = tunnel_writable list h.1
tunnel_writable (Communities comms ∷ list) h = tunnel_writable list h.1
tunnel_writable (Passed kind ∷ list) h = tunnel_writable list h.1

reach_writable : (comms : List ExtComm) (pmsi : Option Pmsi) → AreComms comms → IsTunnel pmsi → (a : Attribute) → IsAttribute a
    → AllByRecursion IsWritableAdvert (adverts_in comms pmsi a)
reach_writable comms pmsi are_comms is_tunnel (Reach (Some r)) h =
    let s = h.1.means in
    adverts_writable s.family r.next_hop comms pmsi (hop_writable s.family r.next_hop s.hop s.next_hop) are_comms is_tunnel r.keys
    (keys_writable s.family r.keys s.nlri [] s.routes)
reach_writable comms pmsi are_comms is_tunnel (Reach None) h = tt
reach_writable comms pmsi are_comms is_tunnel (Unreach ks) h = tt
reach_writable comms pmsi are_comms is_tunnel (Communities cs) h = tt
reach_writable comms pmsi are_comms is_tunnel (Tunnel own) h = tt
reach_writable comms pmsi are_comms is_tunnel (Passed kind) h = tt

unreach_writable : (a : Attribute) → IsAttribute a → AllByRecursion IsWritableKey (keys_in a)
unreach_writable (Unreach (Some ks)) h = let s = h.1.means in writable_keys s.family ks (keys_writable s.family ks s.nlri [] s.routes)
unreach_writable (Unreach None) h = tt
unreach_writable (Reach r) h = tt
unreach_writable (Communities cs) h = tt
unreach_writable (Tunnel own) h = tt
unreach_writable (Passed kind) h = tt

-- ---- BGP messages

update_writable : (u : Update) (octets : List ℕ) → attributes.Spells u octets → SaysWritable (messages.Update u)
update_writable u octets s =
    let list : List Attribute = s.0 in
    let texts = parts_spelled SpellsAttribute IsNew [] octets list [] s.1 in
    let comms : AreComms (comms_of list) = flat_holds IsAttribute _ comms_in comms_writable list texts in
    let reach =
    flat_holds IsAttribute IsWritableAdvert (adverts_in (comms_of list) (pmsi_of list))
    (reach_writable (comms_of list) (pmsi_of list) comms (tunnel_writable list texts)) list texts in
    let unreach = flat_holds IsAttribute IsWritableKey keys_in unreach_writable list texts in
    subst (λ (v : Update). SaysWritable (messages.Update v)) (sym s.2) (reach, unreach)

means_own : (m n : Message) (kind : ℕ) (body : List ℕ) → m ∷ [] ≡ n ∷ [] → bgp.Means n kind body → bgp.Means m kind body
means_own m n kind body e is = (let same : m ≡ n = cc in subst (λ (x : Message). bgp.Means x kind body) (sym same) is)

pub message_writable : (m : Message) → IsSpelled m → SaysWritable m
message_writable (messages.Other kind) s = tt
message_writable (messages.Update u) s =
    let means = means_own (messages.Update u) s.1.message s.1.kind s.1.body s.1.one s.1.means in
    update_writable u means.1.list means.1.spelled

-- ---- label messages

-- what holds of each element holds of one that the list contains
contained : {T : Type 0} (P : T → Type 0) (xs : List T) (x : T) → AllByRecursion P xs → Contains xs x → P x
contained P xs x each has = subst P has.2 (All-from_recursion P xs each has.0 x has.1)

carried_writable : (f : Fec) (l : ℕ) (body : List ℕ) → Carries f l body → IsElement f × IsLabel l
carried_writable f l body c =
    let texts = parts_spelled SpellsTlv ldp.IsNew [] body c.said [] c.are in
    let s = (contained (HasText SpellsTlv) c.said _ texts c.has_fec).1.says.1 in
    (record { root = s.root; fits = s.fits; shape = s.shape; octets = refl }, (contained (HasText SpellsTlv) c.said _ texts c.has_label).1.says.1)

label_means_own : (m n : LabelMessage) (kind : ℕ) (body : List ℕ) → m ∷ [] ≡ n ∷ [] → ldp.Means n kind body → ldp.Means m kind body
label_means_own m n kind body e is = (let same : m ≡ n = cc in subst (λ (x : LabelMessage). ldp.Means x kind body) (sym same) is)

pub label_message_writable : (m : LabelMessage) → IsSpelledLabel m → SaysWritableLabel m
label_message_writable (labels.Ignored kind) s = tt
label_message_writable (labels.Mapping f l) s =
    carried_writable f l s.1.body (label_means_own (labels.Mapping f l) s.1.message s.1.kind s.1.body s.1.one s.1.means).1
label_message_writable (labels.Withdraw f l) s =
    carried_writable f l s.1.body (label_means_own (labels.Withdraw f l) s.1.message s.1.kind s.1.body s.1.one s.1.means).1
label_message_writable (labels.Release f l) s =
    carried_writable f l s.1.body (label_means_own (labels.Release f l) s.1.message s.1.kind s.1.body s.1.one s.1.means).1

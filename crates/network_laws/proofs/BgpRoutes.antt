-- The keys and values of each kind of route that an edge originates fit.
use Rattle.std.proofs.Common.{◌≡◌, ℕ, ◌+◌, ◌<◌, ◌≤◌, ◌^◌, List, [], ◌∷◌, ◌++◌, length, take, Option, Some, None, refl, sym, subst, arith}
use Rattle.std.specs.Int.{w32, to_be_bytes}
use Rattle.std.proofs.lemmas.List.{length-append, length-take}
use Rattle.mv_base.proofs.Fields.{octets_before}
use Rattle.mv_base.specs.Address.{addr_octets, IsAddr}
use Rattle.mv_base.specs.Octets.{IsOctets}
use Rattle.mv_base.specs.Prefix.{IsPrefixOf}
use Rattle.mv_base.specs.declared.addr.Addr.{Addr}
use Rattle.mv_base.specs.declared.addr.Addr.TheVariants.{V4, V6}
use Rattle.mv_base.specs.declared.prefix.Prefix.{Prefix}
use Rattle.mv_base.specs.declared.rd.Rd.{Rd}
use Rattle.bgp_values.specs.mvpn_nlri.Spelling as spelling
use Rattle.bgp_values.specs.mvpn_nlri.Spelling.{IsSource, IsGroup, IsAnyOr, IsRoute, sized, any_or_sized, fields}
use Rattle.bgp_values.specs.declared.mvpn_nlri.route.Afi.{Afi}
use Rattle.bgp_values.specs.declared.mvpn_nlri.route.Afi.TheVariants.{Ipv4}
use Rattle.bgp_values.specs.declared.mvpn_nlri.route.Route.{Route}
use Rattle.bgp_values.specs.declared.mvpn_nlri.route.Route.TheVariants as routes
use Rattle.bgp_messages.specs.bgp_attributes.Spelling.{octets_for}
use Rattle.bgp_messages.specs.declared.bgp_attributes.key.Key.TheVariants.{Mcast, Unicast}
use Rattle.bgp_messages.specs.bgp_update.Written.{advertised, withdrawn, vpn_text}
use Rattle.scenario_defs.specs.Rules.{IsSitePrefix}
use Rattle.bgp_messages.specs.bgp_update.Written.{afi_of}
use Rattle.network_defs.specs.edge_defs.Originated.{afi_by}
use Rattle.network_laws.specs.Sound.{IsHost, IsCustomer, IsGroupAddr, IsFlow, AreAlike, AreEight, SoundPattern}
use Rattle.network_laws.proofs.BgpOctets.{octets_cons, octets_append, one_octet, octets_of_32, host_octets, host_length}
use Rattle.network_laws.proofs.BgpTexts.{FitsKey, host_addr}

-- ---- fields

own_source : (addr : Addr) → IsCustomer addr → IsSource (afi_of addr) addr
own_source (V4 octets) h = h.0
own_source (V6 octets) h = h.0

own_group : (addr : Addr) → IsGroupAddr addr → IsGroup (afi_of addr) addr
own_group addr h = (own_source addr h.0, h.1)

flow_group : (source group : Addr) → IsFlow source group → IsGroup (afi_of source) group
flow_group source group h = subst (λ (afi : Afi). IsGroup afi group) (sym h.2) (own_group group h.1)

sized_fits : (addr : Addr) → IsCustomer addr → IsOctets (sized addr)
sized_fits (V4 octets) h = octets_cons 32 octets (omega arith) h.1
sized_fits (V6 octets) h = octets_cons 128 octets (omega arith) h.1

sized_length : (addr : Addr) → IsCustomer addr → length (sized addr) ≤ 17
sized_length (V4 octets) h = omega (arith, h.0)
sized_length (V6 octets) h = omega (arith, h.0)

word_fits : (word : Option Addr) → IsAnyOr IsCustomer word → IsOctets (any_or_sized word)
word_fits None h = one_octet 0 (omega arith)
word_fits (Some addr) h = sized_fits addr h

word_length : (word : Option Addr) → IsAnyOr IsCustomer word → length (any_or_sized word) ≤ 17
word_length None h = omega arith
word_length (Some addr) h = omega (arith, sized_length addr h)

group_word : (word : Option Addr) → IsAnyOr IsGroupAddr word → IsAnyOr IsCustomer word
group_word None h = tt
group_word (Some addr) h = h.0

source_by : (source group : Option Addr) → IsAnyOr IsCustomer source → IsAnyOr (IsSource (afi_by source group)) source
source_by None group h = tt
source_by (Some source) group h = own_source source h

group_by : (source group : Option Addr) → IsAnyOr IsGroupAddr group → AreAlike source group → IsAnyOr (IsGroup (afi_by source group)) group
group_by source None h alike = tt
group_by None (Some group) h alike = own_group group h
group_by (Some source) (Some group) h alike = subst (λ (afi : Afi). IsGroup afi group) (sym alike) (own_group group h)

-- ---- keys

route_fits : (afi : Afi) (route : Route) → IsRoute afi route → spelling.kind route < 256 → IsOctets (fields route) → length (fields route) ≤ 46
    → FitsKey (Mcast afi route)
route_fits afi route is kind fits few =
    let text : IsOctets (spelling.written route) =
    octets_cons (spelling.kind route) (length (fields route) ∷ fields route) kind
    (octets_cons (length (fields route)) (fields route) (omega (arith, few)) fits) in
    let size : length (spelling.written route) ≤ 48 = omega (arith, few) in
    record {
      writable = record { route = is; octets = refl };
      prefix = tt;
      reach = text;
      reach_few = size;
      unreach = text;
      unreach_few = size;
    }

pub intra_fits : (rd : Rd) (originator : Addr) → AreEight rd.0 → IsHost originator → FitsKey (Mcast Ipv4 (routes.Intra rd originator))
intra_fits rd originator r o =
    route_fits Ipv4 (routes.Intra rd originator) (r.0, host_addr originator o) (omega arith)
    (octets_append rd.0 (addr_octets originator) r.1 (host_octets originator o))
    (omega (arith, length-append rd.0 (addr_octets originator), r.0, host_length originator o))

pub selective_fits : (rd : Rd) (source group : Option Addr) (originator : Addr) → AreEight rd.0
    → SoundPattern (record { source = source; group = group }) → IsHost originator
    → FitsKey (Mcast (afi_by source group) (routes.Selective rd source group originator))
selective_fits rd source group originator r (s, g, alike) o =
    let s_text : List ℕ = any_or_sized source in
    let g_text : List ℕ = any_or_sized group in
    let o_text : List ℕ = addr_octets originator in
    route_fits (afi_by source group) (routes.Selective rd source group originator)
    (r.0, (source_by source group s, (group_by source group g alike, host_addr originator o))) (omega arith)
    (octets_append rd.0 (s_text ++ (g_text ++ o_text)) r.1
    (octets_append s_text (g_text ++ o_text) (word_fits source s)
    (octets_append g_text o_text (word_fits group (group_word group g)) (host_octets originator o))))
    (omega (
      arith,
      length-append rd.0 (s_text ++ (g_text ++ o_text)),
      length-append s_text (g_text ++ o_text),
      length-append g_text o_text,
      r.0,
      word_length source s,
      word_length group (group_word group g),
      host_length originator o,
    ))

pub active_fits : (rd : Rd) (source group : Addr) → AreEight rd.0 → IsFlow source group
    → FitsKey (Mcast (afi_of source) (routes.Active rd source group))
active_fits rd source group r flow =
    route_fits (afi_of source) (routes.Active rd source group) (r.0, (own_source source flow.0, flow_group source group flow)) (omega arith)
    (octets_append rd.0 (sized source ++ sized group) r.1
    (octets_append (sized source) (sized group) (sized_fits source flow.0) (sized_fits group flow.1.0)))
    (omega (
      arith,
      length-append rd.0 (sized source ++ sized group),
      length-append (sized source) (sized group),
      r.0,
      sized_length source flow.0,
      sized_length group flow.1.0,
    ))

pub join_fits : (rd : Rd) (source_as : ℕ) (source group : Addr) → AreEight rd.0 → source_as < 65536 → IsFlow source group
    → FitsKey (Mcast (afi_of source) (routes.SourceJoin rd source_as source group))
join_fits rd source_as source group r a flow =
    let number : List ℕ = to_be_bytes w32 source_as in
    let below : source_as < 2 ^ 32 = omega (arith, a) in
    let size : length number ≡ 4 = refl in
    route_fits (afi_of source) (routes.SourceJoin rd source_as source group) (r.0, (below, (own_source source flow.0, flow_group source group flow)))
    (omega arith)
    (octets_append rd.0 (number ++ (sized source ++ sized group)) r.1
    (octets_append number (sized source ++ sized group) (octets_of_32 source_as)
    (octets_append (sized source) (sized group) (sized_fits source flow.0) (sized_fits group flow.1.0))))
    (omega (
      arith,
      length-append rd.0 (number ++ (sized source ++ sized group)),
      length-append number (sized source ++ sized group),
      length-append (sized source) (sized group),
      size,
      r.0,
      sized_length source flow.0,
      sized_length group flow.1.0,
    ))

-- ---- keys of unicast routes

vpn_bits : (addr : Addr) (bits : ℕ) → IsPrefixOf addr bits → bits ≤ 128
vpn_bits (V4 octets) bits is = omega (arith, is.0)
vpn_bits (V6 octets) bits is = is.0

vpn_length : (addr : Addr) → IsAddr addr → length (addr_octets addr) ≤ 16
vpn_length (V4 octets) len = omega (arith, len)
vpn_length (V6 octets) len = omega (arith, len)

vpn_fits : (label : List ℕ) (rd : Rd) (addr : Addr) (bits : ℕ) → IsOctets label → AreEight rd.0 → bits ≤ 128 → IsOctets (addr_octets addr)
    → IsOctets (vpn_text label rd (record { addr = addr; bits = bits }))
vpn_fits label rd addr bits l r le fits =
    let front : List ℕ = take (octets_for bits) (addr_octets addr) in
    octets_cons (88 + bits) (label ++ (rd.0 ++ front)) (omega (arith, le))
    (octets_append label (rd.0 ++ front) l (octets_append rd.0 front r.1 (octets_before (octets_for bits) (addr_octets addr) fits)))

vpn_few : (label : List ℕ) (rd : Rd) (addr : Addr) (bits : ℕ) → length label ≡ 3 → AreEight rd.0 → length (addr_octets addr) ≤ 16
    → length (vpn_text label rd (record { addr = addr; bits = bits })) ≤ 48
vpn_few label rd addr bits l r few =
    let front : List ℕ = take (octets_for bits) (addr_octets addr) in
    omega (arith, length-append label (rd.0 ++ front), length-append rd.0 front, length-take (octets_for bits) (addr_octets addr), l, r.0, few)

pub unicast_fits : (rd : Rd) (prefix : Prefix) → AreEight rd.0 → IsSitePrefix prefix → IsOctets (addr_octets prefix.addr)
    → FitsKey (Unicast rd prefix)
unicast_fits rd prefix r is fits =
    let le : prefix.bits ≤ 128 = vpn_bits prefix.addr prefix.bits is.bits in
    let few = vpn_length prefix.addr is.addr in
    record {
      writable = record { rd_len = r.0; is_prefix = (is.addr, is.bits) };
      prefix = fits;
      reach = vpn_fits advertised rd prefix.addr prefix.bits
          (octets_cons 0 (0 ∷ 0x31 ∷ []) (omega arith) (octets_cons 0 (0x31 ∷ []) (omega arith) (one_octet 0x31 (omega arith)))) r le fits;
      reach_few = vpn_few advertised rd prefix.addr prefix.bits refl r few;
      unreach =
          vpn_fits withdrawn rd prefix.addr prefix.bits
          (octets_cons 0x80 (0 ∷ 0 ∷ []) (omega arith) (octets_cons 0 (0 ∷ []) (omega arith) (one_octet 0 (omega arith)))) r le fits;
      unreach_few = vpn_few withdrawn rd prefix.addr prefix.bits refl r few;
    }

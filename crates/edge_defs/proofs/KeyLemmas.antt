-- The orders of keys, notes, patterns and flows are total, and what ties in them is equal; values that compare as equal are equal.
use Rattle.std.proofs.Common.{◌≡◌, ◌≢◌, ℕ, true, List, [], ◌∷◌, refl, ap, subst, ◌∙◌}
use Rattle.std.specs.declared.cmp.Ordering.{Ordering}
use Rattle.std.specs.declared.cmp.Ordering.TheVariants.{Less, Equal, Greater}
use Rattle.std.specs.Ordering.{nat_cmp, is_eq, ordering_then}
use Rattle.std.specs.Cmp.{IsTotalOrder, tied_itself, Equal-is, nat_cmp_total}
use Rattle.std.specs.Cmp.Lexicographic.{slice_cmp}
use Rattle.std.specs.FinMap.{IsAntisymmetric, nat_cmp-IsAntisymmetric, slice_cmp-IsAntisymmetric}
use Rattle.std.proofs.lemmas.Cmp.{on_total, lists_total}
use Rattle.mv_base.specs.declared.addr.Addr.{Addr}
use Rattle.mv_base.specs.declared.addr.Addr.TheVariants.{V4, V6}
use Rattle.mv_base.specs.declared.prefix.Prefix.{Prefix}
use Rattle.mv_base.specs.declared.rd.Rd.{Rd}
use Rattle.bgp_messages.specs.bgp_values.declared.mvpn_nlri.route.Afi.{Afi}
use Rattle.bgp_messages.specs.bgp_values.declared.mvpn_nlri.route.Afi.TheVariants.{Ipv4, Ipv6}
use Rattle.bgp_messages.specs.bgp_values.declared.mvpn_nlri.route.Route.{Route}
use Rattle.bgp_messages.specs.bgp_values.mvpn_nlri.Spelling.{written}
use Rattle.bgp_messages.specs.declared.bgp_attributes.key.Key.TheVariants.{Mcast, Unicast}
use Rattle.bgp_messages.specs.bgp_update.Written.{vpn_text, afi_of}
use Rattle.table_laws.specs.Words.{IsExact}
use Rattle.selective_defs.proofs.PartLemmas.{one_addr, one_word}
use Rattle.edge_defs.specs.Edge.{Note, VrfPattern, VrfFlow, note_cmp, pattern_cmp, flow_cmp}
use Rattle.edge_defs.specs.Keys.{Value, addr_key, word_part, afi_number, key_parts, parts_cmp, key_cmp, value_parts, same_value}
use Rattle.edge_defs.proofs.PartLemmas.{one_key, one_value}

parts_total : IsTotalOrder parts_cmp
parts_total = lists_total (lists_total nat_cmp_total)

parts_exact : IsAntisymmetric parts_cmp
parts_exact = slice_cmp-IsAntisymmetric (slice_cmp-IsAntisymmetric nat_cmp-IsAntisymmetric)

-- ---- keys and values

pub key_total : IsTotalOrder key_cmp
key_total = on_total key_parts parts_total

pub key_exact : IsAntisymmetric key_cmp
key_exact a b e = one_key a b (parts_exact (key_parts a) (key_parts b) e)

pub value_exact : IsExact same_value
value_exact own other = (
  λ e. one_value own other (parts_exact (value_parts own) (value_parts other) ((Equal-is (parts_cmp (value_parts own) (value_parts other))).0 e)),
  λ e. subst (λ (value : Value). same_value own value ≡ true) e (ap is_eq (tied_itself parts_total (value_parts own))),
)

-- ---- notes, patterns and flows

-- a number, a source and a group
abbrev flow_key : ℕ → Addr → Addr → List (List ℕ)
flow_key number source group = (number ∷ []) ∷ addr_key source ∷ addr_key group ∷ []

one_flow_key : (n m : ℕ) (source from group to : Addr) → flow_key n source group ≡ flow_key m from to → (n ≡ m) × (source ≡ from) × (group ≡ to)
one_flow_key n m source from group to e =
    let numbers : n ≡ m = cc in
    let sources : addr_key source ≡ addr_key from = cc in
    let groups : addr_key group ≡ addr_key to = cc in
    (numbers, one_addr source from sources, one_addr group to groups)

abbrev note_parts : Note → List (List ℕ)
note_parts note = flow_key note.iface.0 note.source note.group

pub note_total : IsTotalOrder note_cmp
note_total = on_total note_parts parts_total

pub note_exact : IsAntisymmetric note_cmp
note_exact a b e =
    let (iface, source, group) = one_flow_key a.iface.0 b.iface.0 a.source b.source a.group b.group (parts_exact (note_parts a) (note_parts b) e) in
    λ i. record { iface = record { 0 = iface i }; source = source i; group = group i }

abbrev pattern_parts : VrfPattern → List (List ℕ)
pattern_parts own = (own.vrf.0 ∷ []) ∷ word_part own.pattern.source ∷ word_part own.pattern.group ∷ []

pub pattern_total : IsTotalOrder pattern_cmp
pattern_total = on_total pattern_parts parts_total

one_pattern : (a b : VrfPattern) → pattern_parts a ≡ pattern_parts b → a ≡ b
one_pattern a b e =
    let vrf : a.vrf.0 ≡ b.vrf.0 = cc in
    let from : word_part a.pattern.source ≡ word_part b.pattern.source = cc in
    let to : word_part a.pattern.group ≡ word_part b.pattern.group = cc in
    let source = one_word a.pattern.source b.pattern.source from in
    let group = one_word a.pattern.group b.pattern.group to in
    λ i. record { vrf = record { 0 = vrf i }; pattern = record { source = source i; group = group i } }

pub pattern_exact : IsAntisymmetric pattern_cmp
pattern_exact a b e = one_pattern a b (parts_exact (pattern_parts a) (pattern_parts b) e)

abbrev flow_parts : VrfFlow → List (List ℕ)
flow_parts flow = flow_key flow.vrf.0 flow.source flow.group

pub flow_total : IsTotalOrder flow_cmp
flow_total = on_total flow_parts parts_total

pub flow_exact : IsAntisymmetric flow_cmp
flow_exact a b e =
    let (vrf, source, group) = one_flow_key a.vrf.0 b.vrf.0 a.source b.source a.group b.group (parts_exact (flow_parts a) (flow_parts b) e) in
    λ i. record { vrf = record { 0 = vrf i }; source = source i; group = group i }

-- ---- which key stands before which

pub unicast_first : (rd : Rd) (prefix : Prefix) (afi : Afi) (route : Route) → key_cmp (Unicast rd prefix) (Mcast afi route) ≡ Less
unicast_first rd prefix Ipv4 route = refl
unicast_first rd prefix Ipv6 route = refl

pub ipv4_first : (own other : Route) → key_cmp (Mcast Ipv4 own) (Mcast Ipv6 other) ≡ Less
ipv4_first own other = refl

-- the parts of keys by the AFI of their prefixes
abbrev parts_by : Afi → Rd → Prefix → List (List ℕ)
parts_by afi rd prefix = (0 ∷ afi_number afi ∷ []) ∷ vpn_text [] rd prefix ∷ rd.0 ∷ addr_key prefix.addr ∷ (prefix.bits ∷ []) ∷ []

first_by : (a b : Afi) (rd other_rd : Rd) (prefix other : Prefix) → a ≡ Ipv4 → b ≡ Ipv6
    → parts_cmp (parts_by a rd prefix) (parts_by b other_rd other) ≡ Less
first_by a b rd other_rd prefix other h k =
    ap (λ (x : Afi). parts_cmp (parts_by x rd prefix) (parts_by b other_rd other)) h
    ∙ ap (λ (y : Afi). parts_cmp (parts_by Ipv4 rd prefix) (parts_by y other_rd other)) k

pub ipv4_prefix_first : (rd other_rd : Rd) (prefix other : Prefix) (octets other_octets : List ℕ) → prefix.addr ≡ V4 octets
    → other.addr ≡ V6 other_octets
    → key_cmp (Unicast rd prefix) (Unicast other_rd other) ≡ Less
ipv4_prefix_first rd other_rd prefix other octets other_octets h k =
    first_by (afi_of prefix.addr) (afi_of other.addr) rd other_rd prefix other (ap afi_of h) (ap afi_of k)

-- what tells is told at once
told : (order rest : Ordering) → order ≢ Equal → ordering_then order rest ≡ order
told Less rest differs = refl
told Equal rest differs = absurd (differs refl)
told Greater rest differs = refl

pub routes_by_octets : (afi : Afi) (own other : Route) → slice_cmp nat_cmp (written own) (written other) ≢ Equal
    → key_cmp (Mcast afi own) (Mcast afi other) ≡ slice_cmp nat_cmp (written own) (written other)
routes_by_octets Ipv4 own other differs = told (slice_cmp nat_cmp (written own) (written other)) _ differs
routes_by_octets Ipv6 own other differs = told (slice_cmp nat_cmp (written own) (written other)) _ differs

by_octets : (a b : Afi) (rd other_rd : Rd) (prefix other : Prefix) → a ≡ b
    → slice_cmp nat_cmp (vpn_text [] rd prefix) (vpn_text [] other_rd other) ≢ Equal
    → parts_cmp (parts_by a rd prefix) (parts_by b other_rd other) ≡ slice_cmp nat_cmp (vpn_text [] rd prefix) (vpn_text [] other_rd other)
by_octets Ipv4 Ipv4 rd other_rd prefix other same differs = told (slice_cmp nat_cmp (vpn_text [] rd prefix) (vpn_text [] other_rd other)) _ differs
by_octets Ipv6 Ipv6 rd other_rd prefix other same differs = told (slice_cmp nat_cmp (vpn_text [] rd prefix) (vpn_text [] other_rd other)) _ differs
by_octets Ipv4 Ipv6 rd other_rd prefix other same differs = absurd cc
by_octets Ipv6 Ipv4 rd other_rd prefix other same differs = absurd cc

pub prefixes_by_octets : (rd other_rd : Rd) (prefix other : Prefix) → afi_of prefix.addr ≡ afi_of other.addr
    → slice_cmp nat_cmp (vpn_text [] rd prefix) (vpn_text [] other_rd other) ≢ Equal
    → key_cmp (Unicast rd prefix) (Unicast other_rd other) ≡ slice_cmp nat_cmp (vpn_text [] rd prefix) (vpn_text [] other_rd other)
prefixes_by_octets rd other_rd prefix other same differs = by_octets (afi_of prefix.addr) (afi_of other.addr) rd other_rd prefix other same differs

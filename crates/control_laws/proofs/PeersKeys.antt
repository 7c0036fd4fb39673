-- The keys of the routes that a VRF imports and uses, and that keys which have spellings and are used alike are one key.
use Rattle.std.proofs.Common.{◌≡◌, ◌&&◌, ◌==◌, Bool, true, false, not, nat_eq, Option, None, Some, refl, sym, ap, subst, ◌∙◌}
use Rattle.std.specs.Cmp.Lexicographic.{pointwise, bytes_decides}
use Rattle.std.proofs.lemmas.Bool.{and_parts, eqb-true}
use Rattle.mv_base.specs.Address.{same_addr, same_addr_equal}
use Rattle.mv_base.specs.Number.{◌>>?◌, only_if}
use Rattle.mv_base.proofs.CutLemmas.{next_some, if_some}
use Rattle.mv_base.specs.declared.addr.Addr.{Addr}
use Rattle.mv_base.specs.declared.addr.Addr.TheVariants.{V4, V6}
use Rattle.mv_base.specs.declared.rd.Rd.{Rd}
use Rattle.mldp.specs.declared.mldp_fec.fec.Fec.{Fec}
use Rattle.bgp_values.specs.declared.mvpn_nlri.route.Afi.{Afi}
use Rattle.bgp_values.specs.declared.mvpn_nlri.route.Afi.TheVariants.{Ipv4, Ipv6}
use Rattle.bgp_values.specs.declared.mvpn_nlri.route.Route.TheVariants as routes
use Rattle.bgp_values.specs.mvpn_nlri.Spelling.{IsSource, IsGroup, IsAnyOr}
use Rattle.bgp_messages.specs.declared.bgp_attributes.key.Key.{Key}
use Rattle.bgp_messages.specs.declared.bgp_attributes.key.Key.TheVariants.{Mcast, Unicast}
use Rattle.bgp_messages.specs.bgp_update.Written.{IsWritableKey}
use Rattle.scenario_defs.specs.declared.scenario.Vrf.{Vrf}
use Rattle.edge_defs.specs.Edge.{TakenRoute}
use Rattle.edge_defs.specs.Keys.{Value}
use Rattle.edge_defs.specs.Imported.{FlowRoute, ImportedSelective, SelectiveRoute, has_comm, imported_active, imported_join, imported_selective, is_admitted, is_passed_over, lsp_of, selective_of, tunnel_by}
use Rattle.edge_defs.specs.Originated.{import_target, own_import}
use Rattle.edge_defs.specs.Place.{EdgePlace}

-- ---- the family of an address gives the AFI

by_source : (own other : Afi) (addr : Addr) → IsSource own addr → IsSource other addr → own ≡ other
by_source Ipv4 Ipv4 addr h k = refl
by_source Ipv6 Ipv6 addr h k = refl
by_source Ipv4 Ipv6 (V4 octets) h k = absurd k
by_source Ipv4 Ipv6 (V6 octets) h k = absurd h
by_source Ipv6 Ipv4 (V4 octets) h k = absurd h
by_source Ipv6 Ipv4 (V6 octets) h k = absurd k

-- with both wildcards the AFI is 1
wildcards : (own other : Afi) → is_passed_over own None None ≡ false → is_passed_over other None None ≡ false → own ≡ other
wildcards Ipv4 Ipv4 h k = refl
wildcards Ipv4 Ipv6 h k = absurd cc
wildcards Ipv6 other h k = absurd cc

by_pattern : (own other : Afi) (source group : Option Addr) → is_passed_over own source group ≡ false → is_passed_over other source group ≡ false
    → IsAnyOr (IsSource own) source → IsAnyOr (IsSource other) source → IsAnyOr (IsGroup own) group → IsAnyOr (IsGroup other) group → own ≡ other
by_pattern own other (Some source) group h k s t g u = by_source own other source s t
by_pattern own other None (Some group) h k s t g u = by_source own other group g.0 u.0
by_pattern own other None None h k s t g u = wildcards own other h k

-- ---- selective routes

abbrev selective_key : Afi → SelectiveRoute → Key
selective_key afi route = Mcast afi (routes.Selective route.rd route.source route.group route.originator)

-- the key of a selective route that is used
pub record IsSelective (key : Key) (route : SelectiveRoute) : Type 0 where
  pub afi : Afi
  pub is : key ≡ Mcast afi (routes.Selective route.rd route.source route.group route.originator)
  pub used : is_passed_over afi route.source route.group ≡ false

is_false : (b : Bool) → not b ≡ true → b ≡ false
is_false true h = absurd cc
is_false false h = refl

is_selective : (key : Key) (route : SelectiveRoute) → selective_of key ≡ Some route → IsSelective key route
is_selective (Unicast rd prefix) route h = absurd cc
is_selective (Mcast afi (routes.Intra rd originator)) route h = absurd cc
is_selective (Mcast afi (routes.Inter rd source_as)) route h = absurd cc
is_selective (Mcast afi (routes.Selective rd source group originator)) route h =
    let own : SelectiveRoute = record { rd = rd; source = source; group = group; originator = originator } in
    let both = if_some (not (is_passed_over afi source group)) own route h in
    record {
      afi = afi;
      is = ap (selective_key afi) both.1;
      used = subst (λ (r : SelectiveRoute). is_passed_over afi r.source r.group ≡ false) both.1 (is_false (is_passed_over afi source group) both.0);
    }
is_selective (Mcast afi (routes.Leaf key originator)) route h = absurd cc
is_selective (Mcast afi (routes.Active rd source group)) route h = absurd cc
is_selective (Mcast afi (routes.SharedJoin rd source_as source group)) route h = absurd cc
is_selective (Mcast afi (routes.SourceJoin rd source_as source group)) route h = absurd cc
is_selective (Mcast afi (routes.Other kind octets)) route h = absurd cc

from_peer : (peer originator : Addr) (value : Value) (fec : Fec) → tunnel_by peer originator value ≡ Some fec → originator ≡ peer
from_peer peer originator value fec h =
    next_some (λ (fec : Fec). only_if (same_addr fec.root peer && same_addr originator peer) fec) (lsp_of value.pmsi) fec h
    (λ found is k. same_addr_equal originator peer
    (and_parts (same_addr found.root peer) (same_addr originator peer)
    (if_some (same_addr found.root peer && same_addr originator peer) found fec k).0).1)

-- the key of one that is imported, and its originator
pub record IsImported (peer : Addr) (key : Key) (route : SelectiveRoute) : Type 0 where
  pub of_key : IsSelective key route
  pub originator : route.originator ≡ peer

pub is_imported : (vrf : Vrf) (peer : Addr) (key : Key) (taken : TakenRoute) (found : ImportedSelective)
    → imported_selective vrf peer (key, taken) ≡ Some found → IsImported peer key found.route
is_imported vrf peer key taken found h =
    next_some
    (λ (route : SelectiveRoute). only_if (is_admitted vrf taken.value.comms) taken.value >>? λ value. tunnel_by peer route.originator value >>? λ fec.
    Some (record { route = route; fec = fec }))
    (selective_of key) found h
    (λ route is k.
    next_some (λ (value : Value). tunnel_by peer route.originator value >>? λ fec. Some (record { route = route; fec = fec }))
    (only_if (is_admitted vrf taken.value.comms) taken.value) found k
    (λ value is_value l.
    next_some (λ (fec : Fec). Some (record { route = route; fec = fec })) (tunnel_by peer route.originator value) found l
    (λ fec is_fec m.
    let same : route ≡ found.route = cc in
    subst (λ (r : SelectiveRoute). IsImported peer key r) same
    (record { of_key = is_selective key route is; originator = from_peer peer route.originator value fec is_fec }))))

one_selective : (peer : Addr) (own next : Key) (found also : SelectiveRoute) → IsWritableKey own → IsWritableKey next → IsImported peer own found
    → IsImported peer next also
    → found.rd ≡ also.rd → found.source ≡ also.source → found.group ≡ also.group → own ≡ next
one_selective peer own next found also h k a b rd source group =
    let originator : found.originator ≡ also.originator = a.originator ∙ sym b.originator in
    let same : found ≡ also = λ i. record { rd = rd i; source = source i; group = group i; originator = originator i } in
    let mine = (subst IsWritableKey a.of_key.is h).route in
    let theirs =
    (subst (λ (r : SelectiveRoute). IsWritableKey (selective_key b.of_key.afi r)) (sym same) (subst IsWritableKey b.of_key.is k)).route in
    let used = subst (λ (r : SelectiveRoute). is_passed_over b.of_key.afi r.source r.group ≡ false) (sym same) b.of_key.used in
    let afi = by_pattern a.of_key.afi b.of_key.afi found.source found.group a.of_key.used used mine.1.0 theirs.1.0 mine.1.1.0 theirs.1.1.0 in
    a.of_key.is ∙ (λ i. selective_key (afi i) (same i)) ∙ sym b.of_key.is

-- Two that are imported from one peer, of one route distinguisher and pattern, have one key.
pub selective_one : (vrf other : Vrf) (peer : Addr) (own next : Key × TakenRoute) (found also : ImportedSelective) → IsWritableKey own.0
    → IsWritableKey next.0
    → imported_selective vrf peer own ≡ Some found → imported_selective other peer next ≡ Some also
    → found.route.rd ≡ also.route.rd → found.route.source ≡ also.route.source → found.route.group ≡ also.route.group → own.0 ≡ next.0
selective_one vrf other peer own next found also h k a b =
    one_selective peer own.0 next.0 found.route also.route h k (is_imported vrf peer own.0 own.1 found a)
    (is_imported other peer next.0 next.1 also b)

-- ---- Source Active routes

pub record IsActive (key : Key) (flow : FlowRoute) : Type 0 where
  pub afi : Afi
  pub rd : Rd
  pub is : key ≡ Mcast afi (routes.Active rd flow.source flow.group)

pub is_active : (vrf : Vrf) (key : Key) (taken : TakenRoute) (flow : FlowRoute) → imported_active vrf (key, taken) ≡ Some flow → IsActive key flow
is_active vrf (Unicast rd prefix) taken flow h = absurd cc
is_active vrf (Mcast afi (routes.Intra rd originator)) taken flow h = absurd cc
is_active vrf (Mcast afi (routes.Inter rd source_as)) taken flow h = absurd cc
is_active vrf (Mcast afi (routes.Selective rd source group originator)) taken flow h = absurd cc
is_active vrf (Mcast afi (routes.Leaf key originator)) taken flow h = absurd cc
is_active vrf (Mcast afi (routes.Active rd source group)) taken flow h =
    let both = if_some (is_admitted vrf taken.value.comms) (record { source = source; group = group }) flow h in
    record { afi = afi; rd = rd; is = ap (λ (f : FlowRoute). Mcast afi (routes.Active rd f.source f.group)) both.1 }
is_active vrf (Mcast afi (routes.SharedJoin rd source_as source group)) taken flow h = absurd cc
is_active vrf (Mcast afi (routes.SourceJoin rd source_as source group)) taken flow h = absurd cc
is_active vrf (Mcast afi (routes.Other kind octets)) taken flow h = absurd cc

-- Two of one route distinguisher, source and group have one key.
pub active_one : (own other : Afi) (rd : Rd) (source group : Addr) → IsWritableKey (Mcast own (routes.Active rd source group))
    → IsWritableKey (Mcast other (routes.Active rd source group)) → own ≡ other
active_one own other rd source group h k = by_source own other source h.route.1.0 k.route.1.0

-- ---- Source Tree Joins

abbrev join_key : Afi → EdgePlace → Vrf → FlowRoute → Key
join_key afi place vrf flow = Mcast afi (routes.SourceJoin vrf.rd place.scenario.system flow.source flow.group)

pub record IsJoin (place : EdgePlace) (vrf : Vrf) (key : Key) (flow : FlowRoute) : Type 0 where
  pub afi : Afi
  pub is : key ≡ Mcast afi (routes.SourceJoin vrf.rd place.scenario.system flow.source flow.group)

pub is_join : (place : EdgePlace) (vrf : Vrf) (key : Key) (taken : TakenRoute) (flow : FlowRoute) → imported_join place vrf (key, taken) ≡ Some flow
    → IsJoin place vrf key flow
is_join place vrf (Unicast rd prefix) taken flow h = absurd cc
is_join place vrf (Mcast afi (routes.Intra rd originator)) taken flow h = absurd cc
is_join place vrf (Mcast afi (routes.Inter rd source_as)) taken flow h = absurd cc
is_join place vrf (Mcast afi (routes.Selective rd source group originator)) taken flow h = absurd cc
is_join place vrf (Mcast afi (routes.Leaf key originator)) taken flow h = absurd cc
is_join place vrf (Mcast afi (routes.Active rd source group)) taken flow h = absurd cc
is_join place vrf (Mcast afi (routes.SharedJoin rd source_as source group)) taken flow h = absurd cc
is_join place vrf (Mcast afi (routes.SourceJoin rd source_as source group)) taken flow h =
    let own : FlowRoute = record { source = source; group = group } in
    let target : Bool = has_comm (import_target (own_import place vrf)) taken.value.comms in
    let same_rd : Bool = pointwise nat_eq rd.0 vrf.rd.0 in
    let same_as : Bool = source_as == place.scenario.system in
    let both = if_some (same_rd && same_as && target) own flow h in
    let parts = and_parts same_rd same_as (and_parts (same_rd && same_as) target both.0).0 in
    let rds : rd.0 ≡ vrf.rd.0 = (bytes_decides rd.0 vrf.rd.0).0 parts.0 in
    let systems : source_as ≡ place.scenario.system = eqb-true source_as place.scenario.system parts.1 in
    record { afi = afi; is = λ i. Mcast afi (routes.SourceJoin (record { 0 = rds i }) (systems i) (both.1 i).source (both.1 i).group) }
is_join place vrf (Mcast afi (routes.Other kind octets)) taken flow h = absurd cc

-- Two that a VRF uses for one source and group have one key.
pub join_one : (place : EdgePlace) (vrf : Vrf) (own next : Key × TakenRoute) (flow : FlowRoute) → IsWritableKey own.0 → IsWritableKey next.0
    → imported_join place vrf own ≡ Some flow → imported_join place vrf next ≡ Some flow → own.0 ≡ next.0
join_one place vrf own next flow h k a b =
    let mine = is_join place vrf own.0 own.1 flow a in
    let theirs = is_join place vrf next.0 next.1 flow b in
    let afi = by_source mine.afi theirs.afi flow.source (subst IsWritableKey mine.is h).route.1.1.0 (subst IsWritableKey theirs.is k).route.1.1.0 in
    mine.is ∙ (λ i. join_key (afi i) place vrf flow) ∙ sym theirs.is

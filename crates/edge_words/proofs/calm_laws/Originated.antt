-- What an edge holds for a peer under a key, by the type of the route.
use Rattle.std.proofs.Common.{◌≡◌, ℕ, ◌==◌, inl, inr, ◌++◌, Option, Some, refl, sym, ap, subst, ◌∙◌, arith}
use Rattle.std.specs.List.{filter}
use Rattle.std.specs.FinMap as maps
use Rattle.std.proofs.lemmas.Bool.{eq-eqb}
use Rattle.mv_base.specs.declared.addr.Addr.{Addr}
use Rattle.mv_base.specs.declared.ids.NodeId.{NodeId}
use Rattle.mv_base.specs.declared.pattern.Pattern.{Pattern}
use Rattle.mv_base.specs.declared.prefix.Prefix.{Prefix}
use Rattle.mv_base.specs.declared.rd.Rd.{Rd}
use Rattle.bgp_messages.specs.bgp_values.declared.mvpn_nlri.route.Afi.{Afi}
use Rattle.bgp_messages.specs.bgp_values.declared.mvpn_nlri.route.Afi.TheVariants.{Ipv4}
use Rattle.bgp_messages.specs.bgp_values.declared.mvpn_nlri.route.Route.TheVariants as routes
use Rattle.bgp_messages.specs.declared.bgp_attributes.key.Key.{Key}
use Rattle.bgp_messages.specs.declared.bgp_attributes.key.Key.TheVariants.{Mcast, Unicast}
use Rattle.scenario_defs.specs.Rules.{Rules}
use Rattle.selective_defs.specs.Selective.{Among}
use Rattle.edge_defs.specs.Edge.{VrfPattern, Selected, VrfFlow, Upstream, Control}
use Rattle.edge_defs.specs.Held.{join_route, join_routes, held_for}
use Rattle.edge_defs.specs.Keys.{Value}
use Rattle.edge_defs.specs.Originated.{afi_by, inclusive_key, selective_key, unicast_value, tunnel_value, unicast_routes, active_routes, selective_routes, originated}
use Rattle.edge_defs.specs.Place.{EdgePlace, OwnVrf, own_addr, own_vrfs, tunnel_number}
use Rattle.edge_defs.proofs.KeyLemmas.{pattern_exact}
use Rattle.edge_words.proofs.calm_laws.Lists.{among_front, among_after, among_map, among_filter, found_among}
use Rattle.edge_words.proofs.calm_laws.Maps.{get_entry}
use Rattle.edge_words.proofs.calm_laws.Vrfs.{one_rd}
use Rattle.edge_words.proofs.calm_laws.Entries.{Entry, kind_of, IsHeld, OfInclusive, OfUnicast, OfSelective, OfActive, OfJoin, is_held, some_held, own_held, is_unicast, IsSelectiveRoute, is_selective, active_kind, IsJoin, is_join, join_kind, unicast_kind, selective_kind}

-- ---- what is held under a key, by its type

pub record UnicastHeld (place : EdgePlace) (rd : Rd) (value : Value) : Type 0 where
  pub own : OwnVrf
  pub among : Among own (own_vrfs place)
  pub distinguisher : rd ≡ own.vrf.rd
  pub is : value ≡ unicast_value place own.vrf

unicast_by : (place : EdgePlace) (control : Control) (peer : NodeId) (rd : Rd) (prefix : Prefix) (value : Value)
    → IsHeld place control peer (Unicast rd prefix, value) → UnicastHeld place rd value
unicast_by place control peer rd prefix value (OfInclusive own a e) =
    absurd (let bad : 0 ≡ 1 = ap (λ (x : Entry). kind_of x.0) e in omega (arith, bad))
unicast_by place control peer rd prefix value (OfUnicast own a b) =
    let is = is_unicast place own (Unicast rd prefix, value) b in
    let key = is.key in
    record { own = own; among = a; distinguisher = cc; is = is.value }
unicast_by place control peer rd prefix value (OfSelective own a b) =
    absurd (let bad : 0 ≡ 3 = selective_kind place control own (Unicast rd prefix, value) b in omega (arith, bad))
unicast_by place control peer rd prefix value (OfActive own a b) =
    absurd (let bad : 0 ≡ 5 = active_kind place control own (Unicast rd prefix, value) b in omega (arith, bad))
unicast_by place control peer rd prefix value (OfJoin b) =
    absurd (let bad : 0 ≡ 7 = join_kind place control peer (Unicast rd prefix, value) b in omega (arith, bad))

pub unicast_held : (place : EdgePlace) (control : Control) (peer : NodeId) (rd : Rd) (prefix : Prefix) (value : Value)
    → maps.get (held_for place control peer) (Unicast rd prefix) ≡ Some value → UnicastHeld place rd value
unicast_held place control peer rd prefix value h =
    unicast_by place control peer rd prefix value (is_held place control peer (Unicast rd prefix) value h)

pub record SelectiveHeld (place : EdgePlace) (control : Control) (afi : Afi) (rd : Rd) (source group : Option Addr) (originator : Addr)
    (value : Value) : Type 0 where
  pub own : OwnVrf
  pub among : Among own (own_vrfs place)
  pub selected : Selected
  pub at : maps.get control.selections (record { vrf = own.id; pattern = record { source = source; group = group } }) ≡ Some selected
  pub family : afi ≡ afi_by source group
  pub distinguisher : rd ≡ own.vrf.rd
  pub from : originator ≡ own_addr place
  pub is : value ≡ tunnel_value place own.vrf (tunnel_number own.vrf selected.number)

selective_as : (place : EdgePlace) (control : Control) (own : OwnVrf) (afi : Afi) (rd : Rd) (source group : Option Addr) (originator : Addr)
    (value : Value) → Among own (own_vrfs place)
    → IsSelectiveRoute place control own (Mcast afi (routes.Selective rd source group originator), value)
    → SelectiveHeld place control afi rd source group originator value
selective_as place control own afi rd source group originator value a is =
    let key : Mcast afi (routes.Selective rd source group originator)
    ≡ Mcast (afi_by is.pattern.source is.pattern.group) (routes.Selective own.vrf.rd is.pattern.source is.pattern.group (own_addr place)) =
    is.key in
    let sources : is.pattern.source ≡ source = cc in
    let groups : is.pattern.group ≡ group = cc in
    let family : afi ≡ afi_by is.pattern.source is.pattern.group = cc in
    record {
      own = own;
      among = a;
      selected = is.selected;
      at = subst (λ (p : Pattern). maps.get control.selections (record { vrf = own.id; pattern = p }) ≡ Some is.selected)
          (λ i. record { source = sources i; group = groups i }) is.at;
      family = family ∙ (λ i. afi_by (sources i) (groups i));
      distinguisher = cc;
      from = cc;
      is = is.value;
    }

selective_by : (place : EdgePlace) (control : Control) (peer : NodeId) (afi : Afi) (rd : Rd) (source group : Option Addr) (originator : Addr)
    (value : Value) → IsHeld place control peer (Mcast afi (routes.Selective rd source group originator), value)
    → SelectiveHeld place control afi rd source group originator value
selective_by place control peer afi rd source group originator value (OfInclusive own a e) =
    absurd (let bad : 3 ≡ 1 = ap (λ (x : Entry). kind_of x.0) e in omega (arith, bad))
selective_by place control peer afi rd source group originator value (OfUnicast own a b) =
    absurd (let bad : 3 ≡ 0 = unicast_kind place own _ b in omega (arith, bad))
selective_by place control peer afi rd source group originator value (OfSelective own a b) =
    selective_as place control own afi rd source group originator value a
    (is_selective place control own (Mcast afi (routes.Selective rd source group originator), value) b)
selective_by place control peer afi rd source group originator value (OfActive own a b) =
    absurd (let bad : 3 ≡ 5 = active_kind place control own _ b in omega (arith, bad))
selective_by place control peer afi rd source group originator value (OfJoin b) =
    absurd (let bad : 3 ≡ 7 = join_kind place control peer _ b in omega (arith, bad))

pub selective_held : (place : EdgePlace) (control : Control) (peer : NodeId) (afi : Afi) (rd : Rd) (source group : Option Addr) (originator : Addr)
    (value : Value) → maps.get (held_for place control peer) (Mcast afi (routes.Selective rd source group originator)) ≡ Some value
    → SelectiveHeld place control afi rd source group originator value
selective_held place control peer afi rd source group originator value h =
    selective_by place control peer afi rd source group originator value
    (is_held place control peer (Mcast afi (routes.Selective rd source group originator)) value h)

pub record InclusiveHeld (place : EdgePlace) (rd : Rd) (value : Value) : Type 0 where
  pub own : OwnVrf
  pub among : Among own (own_vrfs place)
  pub distinguisher : rd ≡ own.vrf.rd
  pub is : value ≡ tunnel_value place own.vrf (tunnel_number own.vrf 0)

inclusive_by : (place : EdgePlace) (control : Control) (peer : NodeId) (afi : Afi) (rd : Rd) (originator : Addr) (value : Value)
    → IsHeld place control peer (Mcast afi (routes.Intra rd originator), value) → InclusiveHeld place rd value
inclusive_by place control peer afi rd originator value (OfInclusive own a e) =
    let key : Mcast afi (routes.Intra rd originator) ≡ inclusive_key place own.vrf = ap (λ (x : Entry). x.0) e in
    record { own = own; among = a; distinguisher = cc; is = ap (λ (x : Entry). x.1) e }
inclusive_by place control peer afi rd originator value (OfUnicast own a b) =
    absurd (let bad : 1 ≡ 0 = unicast_kind place own _ b in omega (arith, bad))
inclusive_by place control peer afi rd originator value (OfSelective own a b) =
    absurd (let bad : 1 ≡ 3 = selective_kind place control own _ b in omega (arith, bad))
inclusive_by place control peer afi rd originator value (OfActive own a b) =
    absurd (let bad : 1 ≡ 5 = active_kind place control own _ b in omega (arith, bad))
inclusive_by place control peer afi rd originator value (OfJoin b) = absurd (let bad : 1 ≡ 7 = join_kind place control peer _ b in omega (arith, bad))

pub record JoinHeld (place : EdgePlace) (control : Control) (peer : NodeId) (entry : Entry) : Type 0 where
  pub flow : VrfFlow
  pub up : Option Upstream
  pub among : Among (flow, up) (maps.entries control.flows)
  pub is : IsJoin place peer flow up entry

join_by_kind : (place : EdgePlace) (control : Control) (peer : NodeId) (entry : Entry) → kind_of entry.0 ≡ 7 → IsHeld place control peer entry
    → JoinHeld place control peer entry
join_by_kind place control peer entry k (OfInclusive own a e) = absurd (let own = ap (λ (x : Entry). kind_of x.0) e in omega (arith, k, own))
join_by_kind place control peer entry k (OfUnicast own a b) = absurd (let own = unicast_kind place own entry b in omega (arith, k, own))
join_by_kind place control peer entry k (OfSelective own a b) = absurd (let own = selective_kind place control own entry b in omega (arith, k, own))
join_by_kind place control peer entry k (OfActive own a b) = absurd (let own = active_kind place control own entry b in omega (arith, k, own))
join_by_kind place control peer entry k (OfJoin b) =
    let by = found_among (join_route place peer) entry (maps.entries control.flows) b in
    record { flow = by.0.0; up = by.0.1; among = by.1; is = is_join place peer by.0.0 by.0.1 entry by.2 }

pub join_held : (place : EdgePlace) (control : Control) (peer : NodeId) (afi : Afi) (rd : Rd) (source_as : ℕ) (source group : Addr) (value : Value)
    → maps.get (held_for place control peer) (Mcast afi (routes.SourceJoin rd source_as source group)) ≡ Some value
    → JoinHeld place control peer (Mcast afi (routes.SourceJoin rd source_as source group), value)
join_held place control peer afi rd source_as source group value h =
    join_by_kind place control peer (Mcast afi (routes.SourceJoin rd source_as source group), value) refl
    (is_held place control peer (Mcast afi (routes.SourceJoin rd source_as source group)) value h)

-- a join that is put
pub some_join : (place : EdgePlace) (control : Control) (peer : NodeId) (key : Key) (value : Value)
    → Among (key, value) (join_routes place control peer) → (held : Value) × (maps.get (held_for place control peer) key ≡ Some held)
some_join place control peer key value a =
    some_held place control peer key value (among_after (key, value) (originated place control) (join_routes place control peer) a)

-- ---- what a VRF originates is held

as_own : (place : EdgePlace) (own other : OwnVrf) (number other_number : ℕ) (held : Option Value) (value : Value) → held ≡ Some value
    → value ≡ tunnel_value place other.vrf (tunnel_number other.vrf other_number)
    → own ≡ other → number ≡ other_number → held ≡ Some (tunnel_value place own.vrf (tunnel_number own.vrf number))
as_own place own other number other_number held value h is one same =
    h ∙ ap (λ (v : Value). Some v) (is ∙ (λ i. tunnel_value place (sym one i).vrf (tunnel_number (sym one i).vrf (sym same i))))

-- its inclusive route
pub inclusive_value : (place : EdgePlace) (control : Control) (peer : NodeId) (own : OwnVrf) → Rules place.scenario → Among own (own_vrfs place)
    → maps.get (held_for place control peer) (inclusive_key place own.vrf) ≡ Some (tunnel_value place own.vrf (tunnel_number own.vrf 0))
inclusive_value place control peer own rules a =
    let by = own_held place control peer own (inclusive_key place own.vrf) (tunnel_value place own.vrf (tunnel_number own.vrf 0)) a (inl refl) in
    let held =
    inclusive_by place control peer Ipv4 own.vrf.rd (own_addr place) by.0 (is_held place control peer (inclusive_key place own.vrf) by.0 by.1) in
    let one : own ≡ held.own = one_rd place own held.own rules a held.among held.distinguisher in
    as_own place own held.own 0 0 (maps.get (held_for place control peer) (inclusive_key place own.vrf)) by.0 by.1 held.is one refl

-- the route of each of its selections
pub selective_value : (place : EdgePlace) (control : Control) (peer : NodeId) (own : OwnVrf) (pattern : Pattern) (selected : Selected)
    → Rules place.scenario → Among own (own_vrfs place)
    → maps.get control.selections (record { vrf = own.id; pattern = pattern }) ≡ Some selected
    → maps.get (held_for place control peer) (selective_key place own.vrf pattern)
    ≡ Some (tunnel_value place own.vrf (tunnel_number own.vrf selected.number))
selective_value place control peer own pattern selected rules a h =
    let key = selective_key place own.vrf pattern in
    let value = tunnel_value place own.vrf (tunnel_number own.vrf selected.number) in
    let passing =
    among_filter (λ (e : VrfPattern × Selected). e.0.vrf.0 == own.id.0) (record { vrf = own.id; pattern = pattern }, selected)
    (maps.entries control.selections) (eq-eqb own.id.0 own.id.0 refl)
    (get_entry pattern_exact control.selections (record { vrf = own.id; pattern = pattern }) selected h) in
    let b : Among (key, value) (selective_routes place control own) =
    among_map (λ (e : VrfPattern × Selected). (
      selective_key place own.vrf e.0.pattern,
      tunnel_value place own.vrf (tunnel_number own.vrf e.1.number),
    )) (record { vrf = own.id; pattern = pattern }, selected)
    (filter (λ (e : VrfPattern × Selected). e.0.vrf.0 == own.id.0) (maps.entries control.selections)) passing in
    let c = among_after (key, value) (unicast_routes place own) (selective_routes place control own ++ active_routes place control own)
    (among_front (key, value) (selective_routes place control own) (active_routes place control own) b) in
    let by = own_held place control peer own key value a (inr c) in
    let held =
    selective_held place control peer (afi_by pattern.source pattern.group) own.vrf.rd pattern.source pattern.group (own_addr place) by.0 by.1 in
    let one : own ≡ held.own = one_rd place own held.own rules a held.among held.distinguisher in
    let there : Some held.selected ≡ Some selected =
    sym held.at ∙ ap (λ (o : OwnVrf). maps.get control.selections (record { vrf = o.id; pattern = pattern })) (sym one) ∙ h in
    let picked : held.selected ≡ selected = cc in
    as_own place own held.own selected.number held.selected.number (maps.get (held_for place control peer) key) by.0 by.1 held.is one
    (ap (λ (s : Selected). s.number) (sym picked))

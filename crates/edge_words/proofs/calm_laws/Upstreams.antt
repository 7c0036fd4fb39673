-- The upstream of a flow of an egress, and the VRF of the root that it is.
use Rattle.std.proofs.Common.{◌≡◌, ℕ, true, inl, inr, List, map, Option, Some, None, refl, sym, ap, subst, ◌∙◌}
use Rattle.std.specs.List.{filter, flat_map}
use Rattle.std.specs.FinMap as maps
use Rattle.std.specs.FinMap.{FinMap}
use Rattle.std.proofs.lemmas.Option.{cond_some, same_Some}
use Rattle.mv_base.specs.Number.{◌>>?◌, only_if}
use Rattle.mv_base.specs.declared.addr.Addr.{Addr}
use Rattle.mv_base.specs.declared.ids.NodeId.{NodeId}
use Rattle.mv_base.specs.declared.prefix.Prefix.{Prefix}
use Rattle.mv_base.specs.declared.rd.Rd.{Rd}
use Rattle.bgp_messages.specs.declared.bgp_attributes.key.Key.{Key}
use Rattle.bgp_messages.specs.declared.bgp_attributes.key.Key.TheVariants.{Mcast, Unicast}
use Rattle.scenario_defs.specs.Home.{local_routes}
use Rattle.scenario_defs.specs.Rules.{Rules, IsTarget}
use Rattle.scenario_defs.specs.declared.scenario.Vrf.{Vrf}
use Rattle.edge_defs.specs.choice_defs.Choice.{best_route, of_site}
use Rattle.edge_defs.specs.choice_defs.declared.known_route.KnownRoute.{KnownRoute}
use Rattle.edge_defs.specs.choice_defs.declared.origin.Origin.{Origin}
use Rattle.edge_defs.specs.choice_defs.declared.origin.Origin.TheVariants as origins
use Rattle.edge_defs.proofs.choice_defs.BestLemmas.{Best, BestIs, best}
use Rattle.selective_defs.specs.Selective.{Among}
use Rattle.edge_defs.specs.Edge.{VrfFlow, flow_cmp, Import, Upstream, Remote, TakenRoute, Taken, Control}
use Rattle.edge_defs.specs.Flows.{is_flow, possible_flows, with_upstream, vrf_flows, flows_at}
use Rattle.edge_defs.specs.Imported.{is_admitted, JoinBy, join_by, taken_from, FlowRoute}
use Rattle.edge_defs.specs.Keys.{Value}
use Rattle.edge_defs.specs.Originated.{own_import, unicast_value}
use Rattle.edge_defs.specs.Place.{EdgePlace, OwnVrf, addr_of, own_addr, own_vrfs}
use Rattle.edge_defs.specs.Upstream.{costs_of, known_route, known_from, known_routes, upstream_by, upstream_for}
use Rattle.edge_defs.proofs.KeyLemmas.{key_total, flow_total, flow_exact}
use Rattle.edge_words.specs.edge_laws.Network.{EdgeNetwork, place_of}
use Rattle.edge_words.specs.edge_laws.Rule.{Rule}
use Rattle.edge_words.specs.calm_laws.Calm.{CalmSession, FlowsStand, AreOfOneVpn}
use Rattle.edge_words.proofs.calm_laws.Lists.{among_choice, among_either, map_among, flat_map_among, found_among}
use Rattle.edge_words.proofs.calm_laws.Maps.{found_stands, entry_get}
use Rattle.edge_words.proofs.calm_laws.Tables.{peer_table, taken_held}
use Rattle.edge_words.proofs.calm_laws.Targets.{admitted_target, shares_by}
use Rattle.edge_words.proofs.calm_laws.Vrfs.{own_rules, shared_vpn}
use Rattle.edge_words.proofs.calm_laws.Originated.{unicast_held}
use Rattle.edge_words.proofs.calm_laws.Comms.{all_of, joins_by, unicast_target}

-- ---- chains

pub chained : {A B : Type 0} (o : Option A) (f : A → Option B) (y : B) → (o >>? f) ≡ Some y → (x : A) × (o ≡ Some x) × (f x ≡ Some y)
chained None f y h = absurd cc
chained (Some x) f y h = (x, refl, h)

-- ---- the flows of an edge

pub record IsFlow (network : EdgeNetwork) (n : NodeId) (flow : VrfFlow) (up : Option Upstream) : Type 0 where
  pub own : OwnVrf
  pub among : Among own (own_vrfs (place_of network n))
  pub id : own.id ≡ flow.vrf
  pub is : up ≡ upstream_for (place_of network n) (network.node n) own flow.source flow.group

flow_as : (network : EdgeNetwork) (n : NodeId) (flow : VrfFlow) (up : Option Upstream) (own : OwnVrf) (route : FlowRoute)
    → Among own (own_vrfs (place_of network n)) → (flow, up) ≡ with_upstream (place_of network n) (network.node n) own route
    → IsFlow network n flow up
flow_as network n flow up own route a e =
    let flows : flow ≡ record { vrf = own.id; source = route.source; group = route.group } = ap (λ (x : VrfFlow × Option Upstream). x.0) e in
    record {
      own = own;
      among = a;
      id = ap (λ (f : VrfFlow). f.vrf) (sym flows);
      is = ap (λ (x : VrfFlow × Option Upstream). x.1) e
          ∙ ap (λ (f : VrfFlow). upstream_for (place_of network n) (network.node n) own f.source f.group) (sym flows);
    }

flow_of : (network : EdgeNetwork) (n : NodeId) (flow : VrfFlow) (up : Option Upstream) (moment : ℕ)
    → maps.get (flows_at (place_of network n) moment (network.node n)) flow ≡ Some up → IsFlow network n flow up
flow_of network n flow up moment h =
    let place : EdgePlace = place_of network n in
    let control : Control = network.node n in
    let list : List (VrfFlow × Option Upstream) = flat_map (vrf_flows place moment control) (own_vrfs place) in
    let a : Among (flow, up) list = found_stands flow_exact flow up list (sym (maps.get-from_entries flow_total list flow) ∙ h) in
    let by = flat_map_among (vrf_flows place moment control) (flow, up) (own_vrfs place) a in
    let made =
    map_among (with_upstream place control by.0) (flow, up) (filter (is_flow place moment control by.0) (possible_flows place control by.0)) by.2
    in
    flow_as network n flow up by.0 made.0 by.1 made.2

pub is_flow_of : (network : EdgeNetwork) (n : NodeId) (flow : VrfFlow) (up : Option Upstream) → FlowsStand network
    → maps.get (network.node n).flows flow ≡ Some up → IsFlow network n flow up
is_flow_of network n flow up stand h =
    let s = stand n in
    flow_of network n flow up s.0 (ap (λ (flows : FinMap flow_cmp (Option Upstream)). maps.get flows flow) (sym s.2) ∙ h)

-- ---- the route that is chosen

-- a unicast route that the VRF imports
record IsKnown (place : EdgePlace) (vrf : Vrf) (peer : NodeId) (entry : Key × TakenRoute) (route : KnownRoute) : Type 0 where
  rd : Rd
  key : entry.0 ≡ Unicast rd route.prefix
  origin : route.origin ≡ origins.Remote peer (addr_of place.scenario peer) rd
  admitted : is_admitted vrf entry.1.value.comms ≡ true

is_known : (place : EdgePlace) (vrf : Vrf) (peer : NodeId) (key : Key) (taken : TakenRoute) (route : KnownRoute)
    → known_route place vrf peer (key, taken) ≡ Some route → IsKnown place vrf peer (key, taken) route
is_known place vrf peer (Mcast afi own) taken route h = absurd cc
is_known place vrf peer (Unicast rd prefix) taken route h =
    let made : KnownRoute = record { prefix = prefix; origin = origins.Remote peer (addr_of place.scenario peer) rd } in
    let first =
    chained (only_if (is_admitted vrf taken.value.comms) taken.value) (λ value. join_by (addr_of place.scenario peer) value >>? λ by. Some made)
    route h in
    let second = chained (join_by (addr_of place.scenario peer) first.0) (λ by. Some made) route first.2 in
    let one : made ≡ route = cc in
    record {
      rd = rd;
      key = ap (λ (r : KnownRoute). Unicast rd r.prefix) one;
      origin = ap (λ (r : KnownRoute). r.origin) (sym one);
      admitted = (cond_some (is_admitted vrf taken.value.comms) taken.value first.0 first.1).0;
    }

-- where the chosen route is of another edge, it was taken from that edge and is admitted
record IsTaken (place : EdgePlace) (control : Control) (own : OwnVrf) (root : NodeId) (rd : Rd) (import : Import) (source_as : ℕ) : Type 0 where
  prefix : Prefix
  taken : TakenRoute
  at : maps.get (taken_from control root) (Unicast rd prefix) ≡ Some taken
  by : join_by (addr_of place.scenario root) taken.value ≡ Some (record { import = import; source_as = source_as })
  admitted : is_admitted own.vrf taken.value.comms ≡ true

taken_known : (place : EdgePlace) (control : Control) (own : OwnVrf) (root : NodeId) (rd : Rd) (address : Addr) (prefix : Prefix) (taken : TakenRoute)
    (peer : NodeId) (table : Taken) (key : Key) (entry : TakenRoute) (route : KnownRoute)
    → route ≡ record { prefix = prefix; origin = origins.Remote root address rd } → Among (peer, table) (maps.entries control.peers)
    → Among (key, entry) (maps.entries table) → IsKnown place own.vrf peer (key, entry) route
    → maps.get (taken_from control root) (Unicast rd prefix) ≡ Some taken
    → (address ≡ addr_of place.scenario root) × (is_admitted own.vrf taken.value.comms ≡ true)
taken_known place control own root rd address prefix taken peer table key entry route e a b is at =
    let origin : origins.Remote peer (addr_of place.scenario peer) is.rd ≡ origins.Remote root address rd =
    sym is.origin ∙ ap (λ (r : KnownRoute). r.origin) e in
    let peers : peer ≡ root = cc in
    let addresses : addr_of place.scenario peer ≡ address = cc in
    let rds : is.rd ≡ rd = cc in
    let keys : key ≡ Unicast rd prefix = is.key ∙ (λ i. Unicast (rds i) (e i).prefix) in
    let tables : taken_from control root ≡ table = ap (taken_from control) (sym peers) ∙ peer_table control peer table a in
    let got : maps.get table key ≡ Some entry = entry_get key_total table key entry b in
    let both : Some entry ≡ Some taken = sym got ∙ (λ i. maps.get (sym tables i) (keys i)) ∙ at in
    let one : entry ≡ taken = cc in
    (sym addresses ∙ ap (addr_of place.scenario) peers, ap (λ (t : TakenRoute). is_admitted own.vrf t.value.comms) (sym one) ∙ is.admitted)

known_is : (place : EdgePlace) (control : Control) (own : OwnVrf) (root : NodeId) (rd : Rd) (address : Addr) (prefix : Prefix) (taken : TakenRoute)
    → Among (record { prefix = prefix; origin = origins.Remote root address rd }) (known_routes place control own)
    → maps.get (taken_from control root) (Unicast rd prefix) ≡ Some taken
    → (address ≡ addr_of place.scenario root) × (is_admitted own.vrf taken.value.comms ≡ true)
known_is place control own root rd address prefix taken a at =
    let route : KnownRoute = record { prefix = prefix; origin = origins.Remote root address rd } in
    elim (among_either route (map of_site (local_routes place.scenario own.id)) (flat_map (known_from place own.vrf) (maps.entries control.peers)) a) [
      | inl b ↦
          let by = map_among of_site route (local_routes place.scenario own.id) b in
          let bad : origins.Remote root address rd ≡ origins.Local by.0.site = ap (λ (r : KnownRoute). r.origin) by.2 in
          absurd cc
      | inr b ↦
          let peer = flat_map_among (known_from place own.vrf) route (maps.entries control.peers) b in
          let by = found_among (known_route place own.vrf peer.0.0) route (maps.entries peer.0.1) peer.2 in
          taken_known place control own root rd address prefix taken peer.0.0 peer.0.1 by.0.0 by.0.1 route refl peer.1 by.1
          (is_known place own.vrf peer.0.0 by.0.0 by.0.1 route by.2) at
    ]

by_origin : (place : EdgePlace) (control : Control) (own : OwnVrf) (root : NodeId) (rd : Rd) (import : Import) (source_as : ℕ) (prefix : Prefix)
    (origin : Origin)
    → Among (record { prefix = prefix; origin = origin }) (known_routes place control own)
    → upstream_by place control (record { prefix = prefix; origin = origin }) ≡ Some (Remote root rd import source_as)
    → IsTaken place control own root rd import source_as
by_origin place control own root rd import source_as prefix (origins.Local site) a h = absurd cc
by_origin place control own root rd import source_as prefix (origins.Remote edge address own_rd) a h =
    let first =
    chained (maps.get (taken_from control edge) (Unicast own_rd prefix))
    (λ taken. join_by address taken.value >>? λ by. Some (Remote edge own_rd by.import by.source_as)) (Remote root rd import source_as) h in
    let second =
    chained (join_by address first.0.value) (λ by. Some (Remote edge own_rd by.import by.source_as)) (Remote root rd import source_as) first.2 in
    let said : Some (Remote edge own_rd second.0.import second.0.source_as) ≡ Some (Remote root rd import source_as) = second.2 in
    let edges : edge ≡ root = cc in
    let rds : own_rd ≡ rd = cc in
    let imports : second.0.import ≡ import = cc in
    let numbers : second.0.source_as ≡ source_as = cc in
    let known = known_is place control own edge own_rd address prefix first.0 a first.1 in
    record {
      prefix = prefix;
      taken = first.0;
      at = (λ i. maps.get (taken_from control (sym edges i)) (Unicast (sym rds i) prefix)) ∙ first.1;
      by = ap (λ (x : Addr). join_by x first.0.value) (ap (addr_of place.scenario) (sym edges) ∙ sym known.0) ∙ second.1
          ∙ (λ i. Some (record { import = imports i; source_as = numbers i }));
      admitted = known.1;
    }

is_taken : (place : EdgePlace) (control : Control) (own : OwnVrf) (source group : Addr) (root : NodeId) (rd : Rd) (import : Import) (source_as : ℕ)
    → upstream_for place control own source group ≡ Some (Remote root rd import source_as) → IsTaken place control own root rd import source_as
is_taken place control own source group root rd import source_as h =
    let known = known_routes place control own in
    let cost = costs_of place own known source group in
    let by = chained (best_route cost known source) (upstream_by place control) (Remote root rd import source_as) h in
    let b : Best cost known source by.0 = subst (BestIs cost known source) by.1 (best cost known source) in
    by_origin place control own root rd import source_as by.0.prefix by.0.origin (among_choice by.0 known b.among) by.2

-- ---- the VRF of the root

-- the VRF of the root that a flow of the egress goes up to
pub record RootVrf (network : EdgeNetwork) (root : NodeId) (own : OwnVrf) (rd : Rd) (import : Import) (source_as : ℕ) : Type 0 where
  pub root_vrf : OwnVrf
  pub of_root : Among root_vrf (own_vrfs (place_of network root))
  pub vpn : AreOfOneVpn root_vrf own
  pub distinguisher : rd ≡ root_vrf.vrf.rd
  pub named : import ≡ own_import (place_of network root) root_vrf.vrf
  pub system : source_as ≡ network.scenario.system

pub admitted_unicast : (network : EdgeNetwork) (root egress : NodeId) (root_vrf own : OwnVrf) (value : Value) → Rules network.scenario
    → Among root_vrf (own_vrfs (place_of network root)) → Among own (own_vrfs (place_of network egress))
    → value ≡ unicast_value (place_of network root) root_vrf.vrf → is_admitted own.vrf value.comms ≡ true → AreOfOneVpn root_vrf own
admitted_unicast network root egress root_vrf own value rules a b e h =
    let t = admitted_target own.vrf value.comms h in
    let is = all_of IsTarget t.0 own.vrf.targets (own_rules (place_of network egress) own rules b).each t.2 in
    let shared = unicast_target (place_of network root) root_vrf t.0 is (subst (λ (v : Value). Among t.0.0 v.comms) e t.1) in
    shared_vpn (place_of network root) (place_of network egress) root_vrf own rules refl a b
    (shares_by root_vrf.vrf.targets own.vrf.targets t.0 shared t.2)

root_of_taken : (network : EdgeNetwork) (root egress : NodeId) (own : OwnVrf) (rd : Rd) (import : Import) (source_as : ℕ) → Rule network
    → CalmSession network root egress → Among own (own_vrfs (place_of network egress))
    → IsTaken (place_of network egress) (network.node egress) own root rd import source_as → RootVrf network root own rd import source_as
root_of_taken network root egress own rd import source_as rule calm a is =
    let place : EdgePlace = place_of network root in
    let held =
    unicast_held place (network.node root) egress rd is.prefix is.taken.value
    (taken_held network root egress (Unicast rd is.prefix) is.taken rule calm is.at) in
    let by : JoinBy = record { import = import; source_as = source_as } in
    let own_by : JoinBy = record { import = own_import place held.own.vrf; source_as = network.scenario.system } in
    let one : by ≡ own_by =
    same_Some by own_by (sym is.by ∙ ap (join_by (own_addr place)) held.is ∙ joins_by place held.own rule.scenario held.among) in
    record {
      root_vrf = held.own;
      of_root = held.among;
      vpn = admitted_unicast network root egress held.own own is.taken.value rule.scenario held.among a held.is is.admitted;
      distinguisher = held.distinguisher;
      named = ap (λ (b : JoinBy). b.import) one;
      system = ap (λ (b : JoinBy). b.source_as) one;
    }

pub root_of : (network : EdgeNetwork) (root egress : NodeId) (own : OwnVrf) (source group : Addr) (rd : Rd) (import : Import) (source_as : ℕ)
    → Rule network → CalmSession network root egress → Among own (own_vrfs (place_of network egress))
    → upstream_for (place_of network egress) (network.node egress) own source group ≡ Some (Remote root rd import source_as)
    → RootVrf network root own rd import source_as
root_of network root egress own source group rd import source_as rule calm a h =
    root_of_taken network root egress own rd import source_as rule calm a
    (is_taken (place_of network egress) (network.node egress) own source group root rd import source_as h)

-- A flow of an egress whose upstream is the root is joined there.
use Rattle.std.proofs.Common.{◌≡◌, ℕ, ◌==◌, ◌&&◌, Bool, true, false, cond, List, [], ◌∷◌, nat_eq, Option, Some, None, refl, sym, ap, ◌∙◌}
use Rattle.std.specs.Cmp.Lexicographic.{pointwise, bytes_decides}
use Rattle.std.specs.FinMap as maps
use Rattle.std.proofs.lemmas.Bool.{and_from, eq-eqb, or_left}
use Rattle.mv_base.specs.Address.{same_addr, same_addr_equiv}
use Rattle.mv_base.specs.declared.addr.Addr.{Addr}
use Rattle.mv_base.specs.declared.ids.NodeId.{NodeId}
use Rattle.mv_base.specs.declared.rd.Rd.{Rd}
use Rattle.bgp_messages.specs.bgp_values.declared.mvpn_nlri.route.Route.TheVariants as routes
use Rattle.bgp_messages.specs.declared.bgp_attributes.key.Key.{Key}
use Rattle.bgp_messages.specs.declared.bgp_attributes.key.Key.TheVariants.{Mcast}
use Rattle.mv_base.specs.declared.route_targets.communities.ExtComm.{ExtComm}
use Rattle.scenario_defs.specs.declared.scenario.Vrf.{Vrf}
use Rattle.selective_defs.specs.Selective.{Among}
use Rattle.edge_defs.specs.Edge.{VrfFlow, Import, Upstream, Remote, TakenRoute}
use Rattle.edge_defs.specs.Flows.{same_flow}
use Rattle.edge_defs.specs.Held.{join_route, held_for}
use Rattle.edge_defs.specs.Imported.{has_comm, imported_join, taken_from}
use Rattle.edge_defs.specs.Keys.{Value}
use Rattle.bgp_messages.specs.bgp_update.Written.{afi_of}
use Rattle.edge_defs.specs.Originated.{import_target, own_import}
use Rattle.edge_defs.specs.Place.{EdgePlace, OwnVrf, own_addr, own_vrfs}
use Rattle.edge_defs.specs.Tunnels.{is_joined_by, is_joined_in}
use Rattle.edge_defs.proofs.KeyLemmas.{key_exact, flow_total, flow_exact}
use Rattle.edge_words.specs.edge_laws.Network.{EdgeNetwork, place_of}
use Rattle.edge_words.specs.edge_laws.Rule.{Rule}
use Rattle.edge_words.specs.calm_laws.Calm.{CalmSession, FlowsStand}
use Rattle.edge_words.proofs.calm_laws.Lists.{passes, any_from, among_found}
use Rattle.edge_words.proofs.calm_laws.Maps.{entry_get, get_entry}
use Rattle.edge_words.proofs.calm_laws.Tables.{turned, near_up, held_taken, among_peers}
use Rattle.edge_words.proofs.calm_laws.Vrfs.{one_rd}
use Rattle.edge_words.proofs.calm_laws.Originated.{JoinHeld, join_held, some_join}
use Rattle.edge_words.proofs.calm_laws.Upstreams.{is_flow_of, root_of}

-- ---- at the egress

abbrev join_key : VrfFlow → Rd → ℕ → Key
join_key flow rd source_as = Mcast (afi_of flow.source) (routes.SourceJoin rd source_as flow.source flow.group)

-- the join of a flow is held towards the root
join_stands : (network : EdgeNetwork) (root egress : NodeId) (flow : VrfFlow) (rd : Rd) (import : Import) (source_as : ℕ)
    → maps.get (network.node egress).flows flow ≡ Some (Some (Remote root rd import source_as))
    → (value : Value) × (maps.get (held_for (place_of network egress) (network.node egress) root) (join_key flow rd source_as) ≡ Some value)
join_stands network root egress flow rd import source_as h =
    let place : EdgePlace = place_of network egress in
    let value : Value = record { next_hop = own_addr place; comms = import_target import ∷ []; pmsi = None } in
    let entry : Key × Value = (join_key flow rd source_as, value) in
    let up : Option Upstream = Some (Remote root rd import source_as) in
    some_join place (network.node egress) root (join_key flow rd source_as) value
    (among_found (join_route place root) (flow, up) entry (maps.entries (network.node egress).flows)
    (get_entry flow_exact (network.node egress).flows flow up h)
    (ap (λ (b : Bool). cond b (Some entry) None) (eq-eqb root.0 root.0 refl)))

-- whichever flow has put the join, it names one VRF of the root
one_target : (network : EdgeNetwork) (root egress : NodeId) (flow : VrfFlow) (rd : Rd) (source_as : ℕ) (root_vrf : OwnVrf) (value : Value)
    → Rule network → FlowsStand network → CalmSession network root egress
    → Among root_vrf (own_vrfs (place_of network root)) → rd ≡ root_vrf.vrf.rd
    → JoinHeld (place_of network egress) (network.node egress) root (join_key flow rd source_as, value)
    → value.comms ≡ import_target (own_import (place_of network root) root_vrf.vrf) ∷ []
one_target network root egress flow rd source_as root_vrf value rule stand calm a e held =
    let got = entry_get flow_total (network.node egress).flows held.flow held.up held.among in
    let is = is_flow_of network egress held.flow held.up stand got in
    let join = held.is in
    let by = root_of network root egress is.own held.flow.source held.flow.group join.rd join.import join.source_as rule calm is.among
    (sym is.is ∙ join.remote) in
    let keys : join_key flow rd source_as ≡ join_key held.flow join.rd join.source_as = join.key in
    let rds : rd ≡ join.rd = cc in
    let one : root_vrf ≡ by.root_vrf =
    one_rd (place_of network root) root_vrf by.root_vrf rule.scenario a by.of_root (sym e ∙ rds ∙ by.distinguisher) in
    join.comms ∙ ap (λ (i : Import). import_target i ∷ []) (by.named ∙ ap (λ (o : OwnVrf). own_import (place_of network root) o.vrf) (sym one))

-- ---- at the root

same_octets : (xs ys : List ℕ) → xs ≡ ys → pointwise nat_eq xs ys ≡ true
same_octets xs ys e = (bytes_decides xs ys).1 e

has_it : (wanted : ExtComm) (comms : List ExtComm) → comms ≡ wanted ∷ [] → has_comm wanted comms ≡ true
has_it wanted comms e = ap (has_comm wanted) e ∙ or_left (pointwise nat_eq wanted.0 wanted.0) false (same_octets wanted.0 wanted.0 refl)

join_imported : (place : EdgePlace) (vrf : Vrf) (flow : VrfFlow) (rd : Rd) (source_as : ℕ) (taken : TakenRoute) → rd ≡ vrf.rd
    → source_as ≡ place.scenario.system → taken.value.comms ≡ import_target (own_import place vrf) ∷ []
    → imported_join place vrf (join_key flow rd source_as, taken) ≡ Some (record { source = flow.source; group = flow.group })
join_imported place vrf flow rd source_as taken e n c =
    passes (pointwise nat_eq rd.0 vrf.rd.0 && (source_as == place.scenario.system)
    && has_comm (import_target (own_import place vrf)) taken.value.comms) (record { source = flow.source; group = flow.group })
    (and_from (pointwise nat_eq rd.0 vrf.rd.0 && (source_as == place.scenario.system))
    (has_comm (import_target (own_import place vrf)) taken.value.comms)
    (and_from (pointwise nat_eq rd.0 vrf.rd.0) (source_as == place.scenario.system) (same_octets rd.0 vrf.rd.0 (ap (λ (r : Rd). r.0) e))
    (eq-eqb source_as place.scenario.system n))
    (has_it (import_target (own_import place vrf)) taken.value.comms c))

own_flow : (source group : Addr) → same_flow source group (record { source = source; group = group }) ≡ true
own_flow source group = and_from (same_addr source source) (same_addr group group) (same_addr_equiv.refl source) (same_addr_equiv.refl group)

pub joined : (network : EdgeNetwork) (root egress : NodeId) (flow : VrfFlow) (rd : Rd) (import : Import) (source_as : ℕ) (root_vrf : OwnVrf)
    → Rule network → FlowsStand network → CalmSession network root egress
    → maps.get (network.node egress).flows flow ≡ Some (Some (Remote root rd import source_as)) → Among root_vrf (own_vrfs (place_of network root))
    → rd ≡ root_vrf.vrf.rd → source_as ≡ network.scenario.system
    → is_joined_in (place_of network root) (network.node root) root_vrf flow.source flow.group ≡ true
joined network root egress flow rd import source_as root_vrf rule stand calm h a e n =
    let place : EdgePlace = place_of network root in
    let key : Key = join_key flow rd source_as in
    let stands = join_stands network root egress flow rd import source_as h in
    let comms =
    one_target network root egress flow rd source_as root_vrf stands.0 rule stand calm a e
    (join_held (place_of network egress) (network.node egress) root (afi_of flow.source) rd source_as flow.source flow.group stands.0 stands.1) in
    let taken = held_taken network egress root key stands.0 rule (turned network root egress calm) stands.1 in
    let table = taken_from (network.node root) egress in
    let read = join_imported place root_vrf.vrf flow rd source_as taken.0 e n (ap (λ (v : Value). v.comms) taken.2 ∙ comms) in
    let found =
    among_found (imported_join place root_vrf.vrf) (key, taken.0) (record { source = flow.source; group = flow.group }) (maps.entries table)
    (get_entry key_exact table key taken.0 taken.1) read in
    any_from (is_joined_by place root_vrf flow.source flow.group) (egress, table) (maps.entries (network.node root).peers)
    (among_peers (network.node root) egress (near_up network root egress rule calm))
    (any_from (same_flow flow.source flow.group) (record { source = flow.source; group = flow.group }) _ found (own_flow flow.source flow.group))

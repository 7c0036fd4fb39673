-- An egress is a leaf of the tunnel on which the root transmits a flow of its VPN.
use Rattle.std.proofs.Common.{◌≡◌, ℕ, ◌==◌, true, List, Option, Some, None, refl, sym, ap, subst, ◌∙◌}
use Rattle.std.specs.List.{flat_map}
use Rattle.std.specs.Ordering.{eq_by_cmp}
use Rattle.std.specs.FinMap as maps
use Rattle.std.specs.FinSet as sets
use Rattle.std.proofs.lemmas.Bool.{eq-eqb}
use Rattle.mv_base.specs.declared.ids.NodeId.{NodeId}
use Rattle.mv_base.specs.declared.ids.VrfId.{VrfId}
use Rattle.mv_base.specs.declared.pattern.Pattern.{Pattern}
use Rattle.mv_base.specs.declared.rd.Rd.{Rd}
use Rattle.label_defs.specs.mldp.declared.mldp_fec.fec.Fec.{Fec}
use Rattle.label_defs.specs.Keys.{fec_cmp}
use Rattle.label_defs.proofs.KeyLemmas.{ties, fec_cmp_total}
use Rattle.selective_defs.specs.Selective.{Among, transmitted, is_wanted, wanted}
use Rattle.selective_defs.specs.declared.learned_route.LearnedRoute.{LearnedRoute}
use Rattle.selective_defs.specs.declared.selection.Selection.{Selection}
use Rattle.selective_defs.proofs.TransmittedLemmas.{best_of}
use Rattle.selective_defs.proofs.WantedLemmas.{some_wanted}
use Rattle.edge_defs.specs.Edge.{VrfFlow, Import, Upstream, Remote, Selected, Control}
use Rattle.edge_defs.specs.Imported.{imported_inclusive, taken_from}
use Rattle.edge_defs.specs.Originated.{inclusive_key, tunnel_value}
use Rattle.edge_defs.specs.Place.{EdgePlace, OwnVrf, own_addr, own_vrfs, lsp, tunnel_number}
use Rattle.edge_defs.specs.Tunnels.{selections_of, number_by, learned_routes, inclusive_tunnels, flow_tunnels, flows_of, tunnels_of, leaves}
use Rattle.edge_defs.proofs.KeyLemmas.{key_exact, flow_exact}
use Rattle.edge_words.specs.edge_laws.Network.{EdgeNetwork, place_of}
use Rattle.edge_words.specs.edge_laws.Rule.{Rule}
use Rattle.edge_words.specs.calm_laws.Calm.{CalmSession, NoneDue, FlowsStand, AreOfOneVpn, CalmFlow}
use Rattle.edge_words.proofs.calm_laws.Lists.{any_from, among_front, among_after, among_map, among_flat_map, among_filter, filter_among, among_found}
use Rattle.edge_words.proofs.calm_laws.Maps.{get_entry}
use Rattle.edge_words.proofs.calm_laws.Tables.{far_up, held_taken, among_peers}
use Rattle.edge_words.proofs.calm_laws.Originated.{inclusive_value}
use Rattle.edge_words.proofs.calm_laws.Imports.{imports_inclusive}
use Rattle.edge_words.proofs.calm_laws.InStep.{key_at, is_selection, vpn_tunnel, one_selected, is_learned, in_step}
use Rattle.edge_words.proofs.calm_laws.Upstreams.{is_flow_of, root_of}
use Rattle.edge_words.proofs.calm_laws.Joins.{joined}
use Rattle.edge_words.proofs.calm_laws.Vrfs.{one_number}

-- a tunnel that a VRF of the edge wants
leaf_of : (place : EdgePlace) (control : Control) (own : OwnVrf) (fec : Fec) → Among own (own_vrfs place) → Among fec (tunnels_of place control own)
    → sets.contains (leaves place control) fec ≡ true
leaf_of place control own fec a b =
    let list : List Fec = flat_map (tunnels_of place control) (own_vrfs place) in
    sets.contains-from_list fec_cmp_total list fec
    ∙ any_from (eq_by_cmp fec_cmp fec) fec list (among_flat_map (tunnels_of place control) own fec (own_vrfs place) a b)
    (ties fec_cmp fec_cmp_total fec fec refl)

-- ---- the inclusive tunnel

pub wants_inclusive : (network : EdgeNetwork) (root egress : NodeId) (root_vrf own : OwnVrf) → Rule network → CalmSession network root egress
    → Among root_vrf (own_vrfs (place_of network root)) → AreOfOneVpn root_vrf own
    → Among (lsp (own_addr (place_of network root)) (tunnel_number root_vrf.vrf 0)) (tunnels_of (place_of network egress) (network.node egress) own)
wants_inclusive network root egress root_vrf own rule calm a vpn =
    let place : EdgePlace = place_of network root in
    let control : Control = network.node egress in
    let number : ℕ = tunnel_number root_vrf.vrf 0 in
    let fec : Fec = lsp (own_addr place) number in
    let key = inclusive_key place root_vrf.vrf in
    let table = taken_from control root in
    let taken =
    held_taken network root egress key (tunnel_value place root_vrf.vrf number) rule calm
    (inclusive_value place (network.node root) egress root_vrf rule.scenario a) in
    let read =
    imports_inclusive place own.vrf root_vrf.vrf number taken.0 taken.2 (vpn_tunnel network root root_vrf own number rule.scenario a vpn) in
    among_front fec (flat_map (inclusive_tunnels (place_of network egress) own) (maps.entries control.peers))
    (flat_map (flow_tunnels (place_of network egress) control own) (flows_of control own.id))
    (among_flat_map (inclusive_tunnels (place_of network egress) own) (root, table) fec (maps.entries control.peers)
    (among_peers control root (far_up network root egress rule calm))
    (among_found (imported_inclusive own.vrf (own_addr place)) (key, taken.0) fec (maps.entries table) (get_entry key_exact table key taken.0 taken.1)
    read))

-- ---- a selective tunnel

pub wants_selective : (network : EdgeNetwork) (root egress : NodeId) (root_vrf own : OwnVrf) (flow : VrfFlow) (rd : Rd) (import : Import)
    (source_as : ℕ) (selection : Selection) → Rule network → CalmSession network root egress → NoneDue network root
    → Among root_vrf (own_vrfs (place_of network root)) → Among own (own_vrfs (place_of network egress)) → AreOfOneVpn root_vrf own
    → own.id ≡ flow.vrf → maps.get (network.node egress).flows flow ≡ Some (Some (Remote root rd import source_as))
    → transmitted (selections_of (network.node root) root_vrf.id) flow.source flow.group ≡ Some selection
    → Among (lsp (own_addr (place_of network root)) (tunnel_number root_vrf.vrf selection.number))
    (tunnels_of (place_of network egress) (network.node egress) own)
wants_selective network root egress root_vrf own flow rd import source_as selection rule calm none a b vpn id h e =
    let place : EdgePlace = place_of network root in
    let here : EdgePlace = place_of network egress in
    let control : Control = network.node egress in
    let selections = selections_of (network.node root) root_vrf.id in
    let learned = learned_routes here control own root in
    let want =
    some_wanted network.scenario.delay network.clock selections learned flow.source flow.group selection
    (in_step network root egress root_vrf own rule calm none a b vpn) e in
    let route : LearnedRoute = want.0 in
    let l = is_learned network root egress root_vrf own route rule calm vpn a b
    (filter_among (is_wanted learned flow.source flow.group) route learned want.2).0 in
    let is = is_selection (network.node root) root_vrf selection (best_of selections flow.source flow.group selection e).among in
    let one =
    one_selected (network.node root) (key_at root_vrf selection.pattern) is.selected l.selected is.at
    (subst (λ (p : Pattern). maps.get (network.node root).selections (key_at root_vrf p) ≡ Some l.selected) want.1 l.at) in
    let fec : route.fec ≡ lsp (own_addr place) (tunnel_number root_vrf.vrf selection.number) =
    l.fec ∙ ap (λ (n : ℕ). lsp (own_addr place) (tunnel_number root_vrf.vrf n)) (sym (is.number ∙ ap (λ (s : Selected). s.number) one)) in
    let up : Option Upstream = Some (Remote root rd import source_as) in
    let of_vrf : Among (flow, up) (flows_of control own.id) =
    among_filter (λ (entry : VrfFlow × Option Upstream). entry.0.vrf.0 == own.id.0) (flow, up) (maps.entries control.flows)
    (eq-eqb flow.vrf.0 own.id.0 (ap (λ (v : VrfId). v.0) (sym id))) (get_entry flow_exact control.flows flow up h) in
    subst (λ (f : Fec). Among f (tunnels_of here control own)) fec
    (among_after route.fec (flat_map (inclusive_tunnels here own) (maps.entries control.peers))
    (flat_map (flow_tunnels here control own) (flows_of control own.id))
    (among_flat_map (flow_tunnels here control own) (flow, up) route.fec (flows_of control own.id) of_vrf
    (among_map (λ (r : LearnedRoute). r.fec) route (wanted learned flow.source flow.group) want.2)))

-- ---- the tunnel on which the root transmits

is_leaf : (network : EdgeNetwork) (root egress : NodeId) (root_vrf own : OwnVrf) (flow : VrfFlow) (rd : Rd) (import : Import) (source_as : ℕ)
    → Rule network → CalmSession network root egress → NoneDue network root
    → Among root_vrf (own_vrfs (place_of network root)) → Among own (own_vrfs (place_of network egress)) → AreOfOneVpn root_vrf own
    → own.id ≡ flow.vrf → maps.get (network.node egress).flows flow ≡ Some (Some (Remote root rd import source_as))
    → (chosen : Option Selection) → transmitted (selections_of (network.node root) root_vrf.id) flow.source flow.group ≡ chosen
    → sets.contains (leaves (place_of network egress) (network.node egress))
    (lsp (own_addr (place_of network root)) (tunnel_number root_vrf.vrf (number_by chosen))) ≡ true
is_leaf network root egress root_vrf own flow rd import source_as rule calm none a b vpn id h None e =
    leaf_of (place_of network egress) (network.node egress) own (lsp (own_addr (place_of network root)) (tunnel_number root_vrf.vrf 0)) b
    (wants_inclusive network root egress root_vrf own rule calm a vpn)
is_leaf network root egress root_vrf own flow rd import source_as rule calm none a b vpn id h (Some selection) e =
    leaf_of (place_of network egress) (network.node egress) own (lsp (own_addr (place_of network root)) (tunnel_number root_vrf.vrf selection.number))
    b
    (wants_selective network root egress root_vrf own flow rd import source_as selection rule calm none a b vpn id h e)

pub calm_flow : (network : EdgeNetwork) (root egress : NodeId) (own : OwnVrf) (flow : VrfFlow) (rd : Rd) (import : Import) (source_as : ℕ)
    → Rule network → FlowsStand network → CalmSession network root egress → NoneDue network root
    → Among own (own_vrfs (place_of network egress)) → own.id ≡ flow.vrf
    → maps.get (network.node egress).flows flow ≡ Some (Some (Remote root rd import source_as))
    → CalmFlow network root egress own flow rd import source_as
calm_flow network root egress own flow rd import source_as rule stand calm none b id h =
    let is = is_flow_of network egress flow (Some (Remote root rd import source_as)) stand h in
    let one : is.own ≡ own = one_number (place_of network egress) is.own own is.among b (ap (λ (v : VrfId). v.0) (is.id ∙ sym id)) in
    let by = root_of network root egress is.own flow.source flow.group rd import source_as rule calm is.among (sym is.is) in
    let vpn : AreOfOneVpn by.root_vrf own = subst (λ (o : OwnVrf). AreOfOneVpn by.root_vrf o) one by.vpn in
    record {
      root_vrf = by.root_vrf;
      of_root = by.of_root;
      vpn = vpn;
      distinguisher = by.distinguisher;
      named = by.named;
      system = by.system;
      is_joined = joined network root egress flow rd import source_as by.root_vrf rule stand calm h by.of_root by.distinguisher by.system;
      leaf = is_leaf network root egress by.root_vrf own flow rd import source_as rule calm none by.of_root b vpn id h
          (transmitted (selections_of (network.node root) by.root_vrf.id) flow.source flow.group) refl;
    }

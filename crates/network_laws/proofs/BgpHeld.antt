-- Each entry of the table that an edge holds for a peer fits.
use Rattle.std.proofs.Common.{◌≡◌, ℕ, ◌==◌, ◌≤◌, Bool, true, false, cond, List, [], ◌∷◌, ◌++◌, length, Option, Some, None, sym, ◌∙◌, arith, subst}
use Rattle.std.specs.List.{AllByRecursion, filter}
use Rattle.std.specs.FinMap as maps
use Rattle.std.proofs.lemmas.List.{length-append, length-map}
use Rattle.mv_base.specs.declared.ids.NodeId.{NodeId}
use Rattle.mv_base.specs.declared.route_targets.communities.ExtComm.{ExtComm}
use Rattle.mv_base.specs.declared.route_targets.communities.Target.{Target}
use Rattle.bgp_messages.specs.declared.bgp_attributes.key.Key.{Key}
use Rattle.bgp_messages.specs.declared.bgp_attributes.key.Key.TheVariants.{Unicast}
use Rattle.bgp_values.specs.declared.mvpn_nlri.route.Route.TheVariants as routes
use Rattle.bgp_messages.specs.declared.bgp_attributes.key.Key.TheVariants as keys
use Rattle.scenario_defs.specs.Home.{local_routes}
use Rattle.scenario_defs.specs.declared.scenario.Route.{Route}
use Rattle.scenario_defs.specs.declared.scenario.Vrf.{Vrf}
use Rattle.network_defs.specs.edge_defs.Edge.{Note, VrfPattern, Selected, VrfFlow, Import, Upstream, Site, Remote, Control}
use Rattle.network_defs.specs.edge_defs.Held.{join_route, join_routes, held_for}
use Rattle.network_defs.specs.edge_defs.Keys.{Value}
use Rattle.bgp_messages.specs.bgp_update.Written.{afi_of}
use Rattle.network_defs.specs.edge_defs.Originated.{target_comms, import_comm, source_as_comm, import_target, own_import, selective_key, active_key, plain_value, unicast_value, tunnel_value, unicast_routes, is_iface_of, notes_of, active_routes, selective_routes, routes_of, originated}
use Rattle.network_defs.specs.edge_defs.Place.{EdgePlace, OwnVrf, own_addr, own_vrfs, tunnel_number}
use Rattle.network_laws.specs.Sound.{IsHost, IsFlow, AreEight, SoundScenario, SoundPattern, SoundUpstream, SoundControl}
use Rattle.network_defs.proofs.edge_defs.KeyLemmas.{key_total, key_exact, note_total, pattern_total, flow_total}
use Rattle.network_laws.proofs.Lists.{each_append, each_map, each_flat, each_filter, each_weaker, each_found, IfFound}
use Rattle.network_laws.proofs.Maps.{found_is, all_entries}
use Rattle.network_laws.proofs.BgpPlaces.{FitsVrf, FitsPrefix, own_fit, local_fit}
use Rattle.network_laws.proofs.BgpRoutes.{intra_fits, selective_fits, active_fits, join_fits, unicast_fits}
use Rattle.network_laws.proofs.BgpTexts.{FitsKey, FitsValue}
use Rattle.network_laws.proofs.BgpValues.{import_eight, target_eight, source_as_eight, no_tunnel, lsp_tunnel}
use Rattle.label_defs.specs.Members.{in_order}
use Rattle.label_defs.proofs.MemberLemmas.{each_in_order}

abbrev pub Fits : Key → Value → Type 0
Fits key value = FitsKey key × FitsValue value

abbrev FitsEntry : Key × Value → Type 0
FitsEntry entry = Fits entry.0 entry.1

-- ---- values

abbrev IsComm : ExtComm → Type 0
IsComm comm = AreEight comm.0

targets_eight : (vrf : Vrf) → FitsVrf vrf → AllByRecursion IsComm (target_comms vrf)
targets_eight vrf fits = each_map IsComm (λ (target : Target). target.0) vrf.targets fits.targets

targets_few : (vrf : Vrf) → FitsVrf vrf → length (target_comms vrf) ≤ 8
targets_few vrf fits = omega (arith, length-map vrf.targets (λ (target : Target). target.0), fits.few)

plain_fits : (place : EdgePlace) (vrf : Vrf) → IsHost (own_addr place) → FitsVrf vrf → FitsValue (plain_value place vrf)
plain_fits place vrf host fits =
    record { next_hop = host; comms = targets_eight vrf fits; few = omega (arith, targets_few vrf fits); tunnel = no_tunnel }

tunnel_fits : (place : EdgePlace) (vrf : Vrf) (number : ℕ) → IsHost (own_addr place) → FitsVrf vrf → FitsValue (tunnel_value place vrf number)
tunnel_fits place vrf number host fits =
    record {
      next_hop = host;
      comms = targets_eight vrf fits;
      few = omega (arith, targets_few vrf fits);
      tunnel =
          lsp_tunnel (own_addr place) number host;
    }

unicast_value_fits : (place : EdgePlace) (vrf : Vrf) → IsHost (own_addr place) → FitsVrf vrf → FitsValue (unicast_value place vrf)
unicast_value_fits place vrf host fits =
    let more : List ExtComm = import_comm (own_import place vrf) ∷ source_as_comm place.scenario.system ∷ [] in
    record {
      next_hop = host;
      comms = each_append IsComm (target_comms vrf) more (targets_eight vrf fits)
          (import_eight (own_import place vrf) host, (source_as_eight place.scenario.system, tt));
      few = omega (arith, length-append (target_comms vrf) more, targets_few vrf fits);
      tunnel = no_tunnel;
    }

-- ---- joins

join_value_fits : (place : EdgePlace) (import : Import) → IsHost (own_addr place) → IsHost import.addr
    → FitsValue (record { next_hop = own_addr place; comms = import_target import ∷ []; pmsi = None })
join_value_fits place import host from = record { next_hop = host; comms = (target_eight import from, tt); few = omega arith; tunnel = no_tunnel }

if_found : (b : Bool) (entry : Key × Value) → FitsEntry entry → IfFound FitsEntry (cond b (Some entry) None)
if_found true entry h = h
if_found false entry h = tt

join_one : (place : EdgePlace) (peer : NodeId) → IsHost (own_addr place) → (flow : VrfFlow) (found : Option Upstream) → IsFlow flow.source flow.group
    → SoundUpstream found → IfFound FitsEntry (join_route place peer (flow, found))
join_one place peer host flow None is up = tt
join_one place peer host flow (Some (Site site)) is up = tt
join_one place peer host flow (Some (Remote edge rd import source_as)) is up =
    if_found (edge.0 == peer.0) (
      keys.Mcast (afi_of flow.source) (routes.SourceJoin rd source_as flow.source flow.group),
      record { next_hop = own_addr place; comms = import_target import ∷ []; pmsi = None },
    )
    (join_fits rd source_as flow.source flow.group up.0 up.3 is, join_value_fits place import host up.1)

-- ---- the routes of a VRF

module _ (place : EdgePlace) (control : Control) (scenario_is : SoundScenario place.scenario) (control_is : SoundControl control)
    (host : IsHost (own_addr place)) where
  unicast_fit : (own : OwnVrf) → FitsVrf own.vrf → AllByRecursion FitsEntry (unicast_routes place own)
  unicast_fit own fits =
      let local : List Route = local_routes place.scenario own.id in
      let each =
      each_weaker (λ (route : Route). FitsPrefix route.prefix)
      (λ (route : Route). Fits (Unicast own.vrf.rd route.prefix) (unicast_value place own.vrf))
      (λ route p. (unicast_fits own.vrf.rd route.prefix fits.rd p.is p.octets, unicast_value_fits place own.vrf host fits)) local
      (local_fit place.scenario scenario_is own.id) in
      each_map FitsEntry (λ (route : Route). (Unicast own.vrf.rd route.prefix, unicast_value place own.vrf)) local each

  abbrev selective_entry : OwnVrf → VrfPattern × Selected → Key × Value
  selective_entry own entry = (selective_key place own.vrf entry.0.pattern, tunnel_value place own.vrf (tunnel_number own.vrf entry.1.number))

  selective_fit : (own : OwnVrf) → FitsVrf own.vrf → AllByRecursion FitsEntry (selective_routes place control own)
  selective_fit own fits =
      let all : List (VrfPattern × Selected) = maps.entries control.selections in
      let of_vrf : VrfPattern × Selected → Bool = λ (entry : VrfPattern × Selected). entry.0.vrf.0 == own.id.0 in
      let each : AllByRecursion (λ (entry : VrfPattern × Selected). FitsEntry (selective_entry own entry)) all =
      all_entries pattern_total (λ (key : VrfPattern) (selected : Selected). FitsEntry (selective_entry own (key, selected))) control.selections
      (λ key selected h. (let is : SoundPattern key.pattern = control_is.selections key selected h in (
        selective_fits own.vrf.rd key.pattern.source key.pattern.group (own_addr place) fits.rd is host,
        tunnel_fits place own.vrf (tunnel_number own.vrf selected.number) host fits,
      ))) in
      each_map FitsEntry (selective_entry own) (filter of_vrf all)
      (each_filter (λ (entry : VrfPattern × Selected). FitsEntry (selective_entry own entry)) of_vrf all each)

  abbrev active_entry : OwnVrf → Note → Key × Value
  active_entry own note = (active_key own.vrf note.source note.group, plain_value place own.vrf)

  active_fit : (own : OwnVrf) → FitsVrf own.vrf → AllByRecursion FitsEntry (active_routes place control own)
  active_fit own fits =
      let of_vrf : Note → Bool = λ (note : Note). is_iface_of place.scenario own.id note.iface in
      let each : AllByRecursion (λ (note : Note). FitsEntry (active_entry own note)) (in_order control.notes) =
      each_in_order note_total (λ (note : Note). FitsEntry (active_entry own note)) control.notes
      (λ note h. (let is : IsFlow note.source note.group = control_is.notes note h in
      (active_fits own.vrf.rd note.source note.group fits.rd is, plain_fits place own.vrf host fits))) in
      each_map FitsEntry (active_entry own) (notes_of place control own.id)
      (each_filter (λ (note : Note). FitsEntry (active_entry own note)) of_vrf (in_order control.notes) each)

  own_routes_fit : (own : OwnVrf) → FitsVrf own.vrf → AllByRecursion FitsEntry (routes_of place control own)
  own_routes_fit own fits = (
    (intra_fits own.vrf.rd (own_addr place) fits.rd host, tunnel_fits place own.vrf (tunnel_number own.vrf 0) host fits),
    each_append FitsEntry (unicast_routes place own) (selective_routes place control own ++ active_routes place control own) (unicast_fit own fits)
        (each_append FitsEntry (selective_routes place control own) (active_routes place control own) (selective_fit own fits) (active_fit own fits)),
  )

  originated_fit : AllByRecursion FitsEntry (originated place control)
  originated_fit = each_flat FitsEntry (routes_of place control) (own_vrfs place)
      (each_weaker (λ (own : OwnVrf). FitsVrf own.vrf) (λ (own : OwnVrf). AllByRecursion FitsEntry (routes_of place control own)) own_routes_fit
      (own_vrfs place) (own_fit place scenario_is))

  joins_fit : (peer : NodeId) → AllByRecursion FitsEntry (join_routes place control peer)
  joins_fit peer =
      each_found (λ entry. IfFound FitsEntry (join_route place peer entry)) FitsEntry (join_route place peer)
      (λ entry y own e. subst (IfFound FitsEntry) e own) (maps.entries control.flows)
      (all_entries flow_total (λ (flow : VrfFlow) (found : Option Upstream). IfFound FitsEntry (join_route place peer (flow, found))) control.flows
      (λ flow found h. (let is = control_is.flows flow found h in join_one place peer host flow found is.0 is.1)))

  -- what is held at a key
  pub held_fits : (peer : NodeId) (key : Key) (value : Value) → maps.get (held_for place control peer) key ≡ Some value → Fits key value
  held_fits peer key value h =
      let list : List (Key × Value) = originated place control ++ join_routes place control peer in
      found_is key_exact Fits key value list (each_append FitsEntry (originated place control) (join_routes place control peer) originated_fit
      (joins_fit peer)) (sym (maps.get-from_entries key_total list key) ∙ h)

-- What the tree of a VRF keeps of what the edge keeps (RFC 7761 section 4.1; RFC 6513 sections 5.1 and 7; RFC 6514 sections 11 to 14).
use Rattle.std.specs.Prelude.{◌≡◌, ◌↔◌, ℕ, ◌+◌, ◌&&◌, true, List, [], ◌∷◌, option_map, Option, None, Some, if◌then◌else◌}
use Rattle.std.specs.FinMap as maps
use Rattle.std.specs.FinMap.{FinMap}
use Rattle.std.specs.FinSet as sets
use Rattle.mv_base.specs.Lists.{Among}
use Rattle.mv_base.specs.Number.{◌>>?◌, only_if}
use Rattle.mv_base.specs.declared.ids.IfaceId.{IfaceId}
use Rattle.mv_base.specs.declared.ids.NodeId.{NodeId}
use Rattle.mv_base.specs.declared.ids.SiteId.{SiteId}
use Rattle.mv_base.specs.declared.ids.VrfId.{VrfId}
use Rattle.mv_base.specs.declared.pattern.Pattern.{Pattern}
use Rattle.mv_base.specs.declared.prefix.Prefix.{Prefix}
use Rattle.mv_base.specs.declared.rd.Rd.{Rd}
use Rattle.edge_words.specs.bgp_messages.bgp_values.declared.mvpn_nlri.route.Afi.{Afi}
use Rattle.edge_words.specs.bgp_messages.bgp_values.declared.mvpn_nlri.route.Route.TheVariants as routes
use Rattle.edge_words.specs.bgp_messages.declared.bgp_attributes.key.Key.{Key}
use Rattle.edge_words.specs.bgp_messages.declared.bgp_attributes.key.Key.TheVariants.{Mcast, Unicast}
use Rattle.scenario_defs.specs.Home.{local_routes}
use Rattle.scenario_defs.specs.Vpn.{is_of_vrf}
use Rattle.scenario_defs.specs.declared.event.IfaceEntry.{IfaceEntry}
use Rattle.scenario_defs.specs.declared.scenario.Iface.{Iface}
use Rattle.scenario_defs.specs.declared.scenario.Scenario.{Scenario}
use Rattle.scenario_defs.specs.declared.scenario.Vrf.{Vrf}
use Rattle.selective_defs.specs.declared.selection.Selection.{Selection}
use Rattle.selective.specs.declared.route_key.Learned.{Learned}
use Rattle.selective.specs.declared.route_key.Place as selective_places
use Rattle.selective.specs.declared.route_key.Place.TheVariants as selective_kinds
use Rattle.selective.specs.declared.route_key.RouteKey as selective_keys
use Rattle.umh_select.specs.Order.{key_cmp}
use Rattle.umh_select.specs.declared.key.Place.{Place}
use Rattle.umh_select.specs.declared.key.Place.TheVariants.{Here, From}
use Rattle.umh_select.specs.declared.key.RouteKey.{RouteKey}
use Rattle.umh_select.specs.declared.route.Choice.{Choice}
use Rattle.umh_select.specs.declared.route.Choice.TheVariants as choices
use Rattle.umh_select.specs.declared.route.Held.{Held}
use Rattle.vrf_words.specs.declared.tree_defs.flow.ActiveRoute.{ActiveRoute}
use Rattle.vrf_words.specs.declared.tree_defs.flow.Flow.{Flow}
use Rattle.vrf_words.specs.declared.tree_defs.flow.Note.{Note}
use Rattle.vrf_words.specs.declared.tree_defs.flow.SiteIface.{SiteIface}
use Rattle.vrf_words.specs.declared.tree_defs.flow.TakenJoin.{TakenJoin}
use Rattle.vrf_words.specs.tree_defs.Trees.{TreeData, wanted_by}
use Rattle.edge_words.specs.edge_defs.Edge as edges
use Rattle.edge_words.specs.edge_defs.Edge.{VrfFlow, Upstream, Site, Remote, TakenRoute, Control}
use Rattle.edge_words.specs.edge_defs.Imported.{FlowRoute, ImportedSelective, JoinBy, imported_active, imported_join, imported_selective}
use Rattle.edge_words.specs.edge_defs.Imported.{is_admitted, join_by, taken_from}
use Rattle.edge_words.specs.edge_defs.Keys.{Value}
use Rattle.edge_words.specs.edge_defs.Originated.{is_iface_of}
use Rattle.edge_words.specs.edge_defs.Place.{EdgePlace, OwnVrf, addr_of}
use Rattle.edge_words.specs.edge_defs.Tunnels.{learned_route, selections_of}

-- ---- interfaces and flows

-- of the interfaces, numbered from that one on, those of the VRF, with their sites
abbrev pub site_ifaces : VrfId → ℕ → List Iface → List SiteIface
site_ifaces vrf number [] = []
site_ifaces vrf number (iface ∷ more) =
    if is_of_vrf vrf iface
    then record { iface = record { 0 = number }; site = iface.site } ∷ site_ifaces vrf (number + 1) more
    else site_ifaces vrf (number + 1) more

abbrev pub iface_id : SiteIface → IfaceId
iface_id own = own.iface

-- a note, a flow and the route of a flow, as an edge has them
abbrev pub edge_note : Note → edges.Note
edge_note note = record { iface = note.iface; source = note.flow.source; group = note.flow.group }

abbrev pub flow_in : VrfId → Flow → VrfFlow
flow_in vrf flow = record { vrf = vrf; source = flow.source; group = flow.group }

abbrev pub flow_route : Flow → FlowRoute
flow_route flow = record { source = flow.source; group = flow.group }

-- the upstream of an edge's flow, as the choice of a tree
abbrev pub choice_of : Option Upstream → Choice
choice_of None = choices.None
choice_of (Some (Site site)) = choices.Local site
choice_of (Some (Remote edge rd import source_as)) = choices.Remote edge rd (import.addr, import.number) source_as

-- ---- routes that were taken

-- The route was taken from its peer, and the VRF imports it.
pub record IsActiveTaken (control : Control) (own : OwnVrf) (route : ActiveRoute) : Type 0 where
  pub afi : Afi
  pub taken : TakenRoute
  pub at : maps.get (taken_from control route.peer) (Mcast afi (routes.Active (record { 0 = route.rd }) route.flow.source route.flow.group))
      ≡ Some taken
  pub imported :
      imported_active own.vrf (Mcast afi (routes.Active (record { 0 = route.rd }) route.flow.source route.flow.group), taken)
      ≡ Some (flow_route route.flow)

-- A Source Tree Join for the flow was taken from the peer, and the VRF uses it.
pub record IsJoinTaken (place : EdgePlace) (control : Control) (own : OwnVrf) (join : TakenJoin) : Type 0 where
  pub key : Key
  pub taken : TakenRoute
  pub at : maps.get (taken_from control join.peer) key ≡ Some taken
  pub used : imported_join place own.vrf (key, taken) ≡ Some (flow_route join.flow)

-- what is kept of a unicast route of the peer that the VRF imports and uses
abbrev pub held_by : JoinBy → Held
held_by by = record { import = (by.import.addr, by.import.number); source_as = by.source_as }

abbrev pub held_from : EdgePlace → Vrf → NodeId → Value → Option Held
held_from place vrf peer value =
    only_if (is_admitted vrf value.comms) value >>? λ own. join_by (addr_of place.scenario peer) own >>? λ by. Some (held_by by)

-- and of the one at that place; at a place that is none of a peer nothing is
abbrev pub held_at : EdgePlace → Control → OwnVrf → Prefix → Place → Option Held
held_at place control own prefix (From peer rd) =
    maps.get (taken_from control peer) (Unicast rd prefix) >>? λ taken. held_from place own.vrf peer taken.value
held_at place control own prefix other = None

-- A site with that prefix is attached at the VRF; at any other place there is none.
abbrev pub IsAttachedAt : Scenario → OwnVrf → Prefix → Place → SiteId → Type 0
IsAttachedAt scenario own prefix Here site = Among (record { prefix = prefix; site = site }) (local_routes scenario own.id)
IsAttachedAt scenario own prefix other site = ⊥

-- The VRF imports a selective route of the peer, route distinguisher and pattern, with that tunnel, learned at that moment, and with its
-- delay run or not.
pub record IsSelectiveTaken (place : EdgePlace) (control : Control) (own : OwnVrf) (peer : NodeId) (rd : Rd) (pattern : Pattern)
    (learned : Learned) : Type 0 where
  pub key : Key
  pub taken : TakenRoute
  pub imported : ImportedSelective
  pub at : maps.get (taken_from control peer) key ≡ Some taken
  pub is : imported_selective own.vrf (addr_of place.scenario peer) (key, taken) ≡ Some imported
  pub of_rd : imported.route.rd ≡ rd
  pub learned_as : learned_route place own peer (key, taken)
      ≡ Some (record { pattern = pattern; fec = learned.fec; since = learned.since; run = learned.run })

abbrev pub IsSelectiveAt : EdgePlace → Control → OwnVrf → selective_keys.RouteKey → Learned → Type 0
IsSelectiveAt place control own key learned = by key.place
  where
    by : selective_places.Place → Type 0
    by (selective_kinds.Of rd) = IsSelectiveTaken place control own key.peer rd key.pattern learned
    by other = ⊥

-- ---- the tree

-- The tree keeps of the VRF what the edge keeps of it.
pub record IsTreeOf (place : EdgePlace) (control : Control) (own : OwnVrf) (tree : TreeData) : Type 0 where
  -- its interfaces are those of the VRF, in their order, with their sites
  pub ifaces : tree.vrf.ifaces ≡ site_ifaces own.id 0 place.scenario.ifaces
  -- at these it has the entries and the notes of the edge, and at others none
  pub entries : (at : IfaceEntry) → maps.get tree.vrf.entries at
      ≡ (if is_iface_of place.scenario own.id at.iface then maps.get control.entries at else None)
  pub notes : (note : Note) → sets.contains tree.vrf.notes note
      ≡ (is_iface_of place.scenario own.id note.iface && sets.contains control.notes (edge_note note))
  -- it has the Source Active routes that the VRF imports, and the joins that it uses
  pub actives : (route : ActiveRoute) → (sets.contains tree.vrf.actives route ≡ true) ↔ IsActiveTaken control own route
  pub joined : (join : TakenJoin) → (sets.contains tree.joined join ≡ true) ↔ IsJoinTaken place control own join
  -- it knows, by the VRF's rule, the unicast routes that the VRF imports and uses, and the prefixes of the sites that are attached at it
  pub rule : tree.vrf.routes.rule ≡ own.vrf.rule
  pub learned : (key : RouteKey) → maps.get tree.vrf.routes.learned key ≡ held_at place control own key.prefix key.place
  pub attached : (key : RouteKey) (site : SiteId) → (maps.get tree.vrf.routes.attached key ≡ Some site)
      ↔ IsAttachedAt place.scenario own key.prefix key.place site
  -- its flows and their choices are those of the edge in the VRF
  pub flows : (flow : Flow) → maps.get tree.vrf.flows flow ≡ option_map choice_of (maps.get control.flows (flow_in own.id flow))
  -- as a root it has the VRF's number, the scenario's delay, and the VRF's selections
  pub number : tree.root.number ≡ own.vrf.number
  pub delay : tree.root.delay ≡ place.scenario.delay
  pub selections : (selection : Selection) → Among selection tree.root.selections ↔ Among selection (selections_of control own.id)
  -- as an egress it has the delay too, and the selective routes that the VRF imports
  pub leaf_delay : tree.leaf.delay ≡ place.scenario.delay
  pub selective : (key : selective_keys.RouteKey) (learned : Learned) → (maps.get tree.leaf.routes key ≡ Some learned)
      ↔ IsSelectiveAt place control own key learned
  -- it wants what its flows want by these
  pub wants : tree.wants ≡ sets.from_list (wanted_by tree.leaf tree.vrf.flows)

-- The tree of a VRF before anything has happened: it has its interfaces and the prefixes that are attached.
abbrev pub start_tree : EdgePlace → OwnVrf → FinMap key_cmp SiteId → TreeData
start_tree place own attached = record {
  vrf = record {
    ifaces = site_ifaces own.id 0 place.scenario.ifaces;
    entries = maps.empty;
    notes = sets.empty;
    actives = sets.empty;
    routes = record { rule = own.vrf.rule; learned = maps.empty; attached = attached };
    flows = maps.empty;
  };
  root = record { number = own.vrf.number; delay = place.scenario.delay; selections = [] };
  leaf = record { delay = place.scenario.delay; routes = maps.empty };
  joined = sets.empty;
  wants = sets.empty;
}

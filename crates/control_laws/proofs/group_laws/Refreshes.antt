-- Flows have groups of the family of their source, and so they have after a step.
use Rattle.std.proofs.Common.{◌≡◌, ℕ, Bool, true, false, inl, inr, Option, None, Some, refl, subst, ap}
use Rattle.std.specs.Prelude.{is_some}
use Rattle.std.specs.FinMap as maps
use Rattle.mv_base.specs.declared.addr.Addr.{Addr}
use Rattle.mv_base.specs.declared.addr.Addr.TheVariants.{V4, V6}
use Rattle.bgp_values.specs.mvpn_nlri.Spelling.{IsSource, IsGroup}
use Rattle.bgp_values.specs.declared.mvpn_nlri.route.Afi.{Afi}
use Rattle.bgp_values.specs.declared.mvpn_nlri.route.Afi.TheVariants.{Ipv4, Ipv6}
use Rattle.bgp_values.specs.declared.mvpn_nlri.route.Route.TheVariants as routes
use Rattle.bgp_messages.specs.declared.bgp_attributes.key.Key.{Key}
use Rattle.bgp_messages.specs.declared.bgp_attributes.key.Key.TheVariants.{Mcast, Unicast}
use Rattle.bgp_messages.specs.bgp_update.Written.{IsWritableKey}
use Rattle.pim_defs.specs.Entries.{expiry_at}
use Rattle.pim_defs.specs.Expiry.{counts}
use Rattle.pim_defs.specs.declared.expiry.Expiry.{Expiry}
use Rattle.scenario_defs.specs.declared.event.JoinEntry.TheVariants.{Source}
use Rattle.edge_defs.specs.Edge.{VrfFlow, Upstream, Control}
use Rattle.edge_defs.specs.Flows.{flows_at}
use Rattle.edge_defs.specs.Imported.{FlowRoute, active_of}
use Rattle.edge_defs.specs.Place.{EdgePlace, OwnVrf}
use Rattle.edge_defs.specs.Steps.{Call, effect, is_vrf_step, refreshed, refreshed_if, control_step}
use Rattle.vrf_words.specs.edge_words.Asked.{IsKnown, Asks, IsAsked}
use Rattle.vrf_words.proofs.edge_words.Flows.{flows_are}
use Rattle.control_laws.specs.Peers.{AreWritable}
use Rattle.control_laws.specs.group_laws.Groups.{IsFlow, HaveGroups, IsAllowed}
use Rattle.control_laws.proofs.group_laws.Effects.{effect_groups}

-- ---- routes

afi_flow : (afi : Afi) (source group : Addr) → IsSource afi source → IsGroup afi group → IsFlow source group
afi_flow Ipv4 (V4 octets) group s g = g
afi_flow Ipv6 (V6 octets) group s g = g
afi_flow Ipv4 (V6 octets) group s g = absurd s
afi_flow Ipv6 (V4 octets) group s g = absurd s

abbrev flow_route : Addr → Addr → FlowRoute
flow_route source group = record { source = source; group = group }

one_route : (source group from to : Addr) → Some (flow_route source group) ≡ Some (flow_route from to) → (source ≡ from) × (group ≡ to)
one_route source group from to e =
    let same : flow_route source group ≡ flow_route from to = cc in
    (ap (λ (f : FlowRoute). f.source) same, ap (λ (f : FlowRoute). f.group) same)

route_flow : (key : Key) (source group : Addr) → active_of key ≡ Some (flow_route source group) → IsWritableKey key → IsFlow source group
route_flow (Mcast afi (routes.Active rd from to)) source group e w =
    let same = one_route from to source group e in
    let fields = w.route in
    subst (λ (x : Addr). IsFlow x group) same.0 (subst (λ (x : Addr). IsFlow from x) same.1 (afi_flow afi from to fields.1.0 fields.1.1))
route_flow (Mcast afi other) source group e w = absurd cc
route_flow (Unicast rd prefix) source group e w = absurd cc

-- ---- flows

there : (now : ℕ) (expiry : Option Expiry) → counts now expiry ≡ true → is_some expiry ≡ true
there now None h = h
there now (Some expiry) h = refl

module _ (place : EdgePlace) (now : ℕ) (control : Control) (have : HaveGroups control) (writable : AreWritable control) where
  known_flow : (own : OwnVrf) (source group : Addr) → IsKnown place control own source group → IsFlow source group
  known_flow own source group (inl noted) = have.notes (record { iface = noted.iface; source = source; group = group }) noted.noted
  known_flow own source group (inr told) = route_flow told.key source group told.active (writable told.peer told.key (ap is_some told.taken))

  asked_flow : (flow : VrfFlow) (upstream : Option Upstream) → IsAsked place now control flow upstream → IsFlow flow.source flow.group
  asked_flow flow upstream is = by is.asks
    where
      by : Asks place now control is.own flow.source flow.group is.iface → IsFlow flow.source flow.group
      by (inl stands) =
          have.entries (record { iface = is.iface; entry = Source flow.source flow.group }) flow.source flow.group
          (there now (expiry_at control.entries is.iface (Source flow.source flow.group)) stands) refl
      by (inr shared) = known_flow is.own flow.source flow.group shared.2

  flow_groups : (flow : VrfFlow) → is_some (maps.get (flows_at place now control) flow) ≡ true → IsFlow flow.source flow.group
  flow_groups flow h = by (maps.get (flows_at place now control) flow) refl h
    where
      by : (found : Option (Option Upstream)) → maps.get (flows_at place now control) flow ≡ found → is_some found ≡ true
          → IsFlow flow.source flow.group
      by None e some = absurd cc
      by (Some upstream) e some = asked_flow flow upstream ((flows_are place now control flow upstream).0 e)

  pub refreshed_groups : HaveGroups (refreshed place now control)
  refreshed_groups = record { entries = have.entries; notes = have.notes; flows = flow_groups }

pub step_groups : (place : EdgePlace) (now : ℕ) (control : Control) (call : Call) → HaveGroups control → AreWritable (effect place now control call)
    → IsAllowed call → HaveGroups (control_step place now control call)
step_groups place now control call have writable allowed = by (is_vrf_step call)
  where
    thereafter : HaveGroups (effect place now control call)
    thereafter = effect_groups place now control call have allowed

    by : (b : Bool) → HaveGroups (refreshed_if b place now (effect place now control call))
    by true = refreshed_groups place now (effect place now control call) thereafter writable
    by false = thereafter

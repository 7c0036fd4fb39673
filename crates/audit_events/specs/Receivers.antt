-- Who receives a flow, by what is kept.
use Rattle.std.specs.Prelude.{◌==◌, ◌&&◌, Bool, false, not, List, [], filter, slice_get, None, Some, if◌then◌else◌}
use Rattle.std.specs.List.{list_any}
use Rattle.audit_defs.specs.mv_base.declared.ids.IfaceId.{IfaceId}
use Rattle.audit_defs.specs.scenario_defs.declared.scenario.Scenario.{Scenario}
use Rattle.audit_defs.specs.scenario_defs.declared.event.JoinEntry.TheVariants as entries
use Rattle.audit_defs.specs.scenario_defs.Home.{home_by}
use Rattle.audit_defs.specs.scenario_defs.Vpn.{is_of_site, vrf_of_site}
use Rattle.pim_defs.specs.Asking.{asks_by}
use Rattle.audit_events.specs.declared.receivers.Flow.{Flow}
use Rattle.audit_events.specs.declared.vpns.Vpn.{Vpn}
use Rattle.audit_events.specs.Joined.{Kept, entry_now, note_now}

-- whether the flow's site is the home of its source, by the routes of the VPN
abbrev pub is_home_in : Vpn → Flow → Bool
is_home_in vpn flow = elim (home_by vpn.routes flow.source) [ None ↦ false | Some found ↦ found.0 == flow.site.0 ]

-- whether the flow's source is noted at one of the interfaces as a sender to its group
abbrev pub is_active_now : Scenario → Kept → List IfaceId → Flow → Bool
is_active_now scenario kept members flow = list_any (λ iface. note_now scenario kept iface flow.source flow.group) members

-- whether the interface asks for the flow, where its source is known to send or not
abbrev pub asks_now : Scenario → Kept → Flow → Bool → IfaceId → Bool
asks_now scenario kept flow active iface =
    asks_by kept.clock active (entry_now scenario kept iface (entries.Source flow.source flow.group))
    (entry_now scenario kept iface (entries.Star flow.group)) (entry_now scenario kept iface (entries.Rpt flow.source flow.group))

-- whether the interface is of another site, and asks for the flow
abbrev pub receives_now : Scenario → Kept → Flow → Bool → IfaceId → Bool
receives_now scenario kept flow active iface = elim (slice_get scenario.ifaces iface.0) [
  | None ↦ false
  | Some own ↦ not (is_of_site flow.site own) && asks_now scenario kept flow active iface
]

-- the receivers of the flow in the VPN
abbrev pub receivers_in : Scenario → Kept → Vpn → Flow → List IfaceId
receivers_in scenario kept vpn flow =
    if is_home_in vpn flow
    then filter (receives_now scenario kept flow (is_active_now scenario kept vpn.members flow)) vpn.members
    else []

-- the receivers of the flow, by the VPNs of the VRFs
abbrev pub receivers_now : Scenario → Kept → List Vpn → Flow → List IfaceId
receivers_now scenario kept vpns flow = elim (vrf_of_site scenario flow.site) [
  | None ↦ []
  | Some vrf ↦ elim (slice_get vpns vrf.0) [ None ↦ [] | Some vpn ↦ receivers_in scenario kept vpn flow ]
]

-- VPNs: which VRFs and sites belong together (RFC 4364 sections 1.2 and 4.3).
use Rattle.std.specs.Prelude.{ℕ, ◌+◌, ◌==◌, ◌&&◌, Bool, List, [], ◌∷◌, Option, None, Some, slice_get, option_map, find, if◌then◌else◌}
use Rattle.std.specs.List.{list_any}
use Rattle.mv_base.specs.declared.ids.NodeId.{NodeId}
use Rattle.mv_base.specs.declared.ids.VrfId.{VrfId}
use Rattle.mv_base.specs.declared.ids.SiteId.{SiteId}
use Rattle.mv_base.specs.declared.ids.IfaceId.{IfaceId}
use Rattle.mv_base.specs.route_targets.Targets.{shares, same}
use Rattle.mv_base.specs.declared.route_targets.communities.Target.{Target}
use Rattle.scenario_defs.specs.declared.scenario.Vrf.{Vrf}
use Rattle.scenario_defs.specs.declared.scenario.Iface.{Iface}
use Rattle.scenario_defs.specs.declared.scenario.Scenario.{Scenario}

-- the Route Targets of a VRF, none where there is no such VRF
abbrev pub targets_of : Scenario → VrfId → List Target
targets_of scenario vrf = elim (slice_get scenario.vrfs vrf.0) [ None ↦ [] | Some found ↦ found.targets ]

-- whether the VRFs admit each other's routes: their target sets share a member
abbrev pub admits : Scenario → VrfId → VrfId → Bool
admits scenario a b = shares (targets_of scenario a) (targets_of scenario b)

-- whether the VRFs are of one VPN: their target sets are equal
abbrev pub same_vpn : Scenario → VrfId → VrfId → Bool
same_vpn scenario a b = same (targets_of scenario a) (targets_of scenario b)

-- whether an interface belongs to the site
abbrev pub is_of_site : SiteId → Iface → Bool
is_of_site site iface = iface.site.0 == site.0

-- whether an interface belongs to the VRF
abbrev pub is_of_vrf : VrfId → Iface → Bool
is_of_vrf vrf iface = iface.vrf.0 == vrf.0

-- whether the site is attached to the VRF's VPN: it has an interface in some VRF of that VPN
abbrev pub is_attached : Scenario → VrfId → SiteId → Bool
is_attached scenario vrf site = list_any (λ iface. is_of_site site iface && same_vpn scenario vrf iface.vrf) scenario.ifaces

-- whether the site is attached at the VRF itself: it has an interface there
abbrev pub is_attached_at : Scenario → VrfId → SiteId → Bool
is_attached_at scenario vrf site = list_any (λ iface. is_of_site site iface && is_of_vrf vrf iface) scenario.ifaces

-- the VRF of the site's first interface, where it has one; all its interfaces are in VRFs of one VPN
abbrev pub vrf_of_site : Scenario → SiteId → Option VrfId
vrf_of_site scenario site = option_map (λ iface. iface.vrf) (find (is_of_site site) scenario.ifaces)

-- the edge of an interface's VRF
abbrev pub edge_of : Scenario → IfaceId → Option NodeId
edge_of scenario iface = elim (slice_get scenario.ifaces iface.0) [
  | None ↦ None
  | Some found ↦ option_map (λ vrf. vrf.edge) (slice_get scenario.vrfs found.vrf.0)
]

-- the numbers of those of the interfaces, numbered from that one on, that pass a test
abbrev pub ifaces_where : (IfaceId → Iface → Bool) → ℕ → List Iface → List IfaceId
ifaces_where test number [] = []
ifaces_where test number (iface ∷ more) =
    if test (record { 0 = number }) iface then record { 0 = number } ∷ ifaces_where test (number + 1) more else
    ifaces_where test (number + 1) more

-- the numbers of those of the VRFs, numbered from that one on, at which the site is attached
abbrev pub entered_from : Scenario → SiteId → ℕ → List Vrf → List VrfId
entered_from scenario site number [] = []
entered_from scenario site number (vrf ∷ more) =
    if is_attached_at scenario (record { 0 = number }) site then
    record { 0 = number } ∷ entered_from scenario site (number + 1) more
    else
    entered_from scenario site (number + 1) more

-- the VRFs at which a datagram of the site enters, in order of VRFs
abbrev pub entered : Scenario → SiteId → List VrfId
entered scenario site = entered_from scenario site 0 scenario.vrfs

-- The VRFs of a site.
use Rattle.std.specs.Prelude.{ℕ, ◌+◌, ◌==◌, Bool, List, [], ◌∷◌, map, filter, if◌then◌else◌}
use Rattle.std.specs.List.{list_any}
use Rattle.mv_base.specs.declared.ids.SiteId.{SiteId}
use Rattle.mv_base.specs.declared.ids.VrfId.{VrfId}
use Rattle.scenario_defs.specs.Vpn.{is_of_site}
use Rattle.scenario_defs.specs.declared.scenario.Iface.{Iface}
use Rattle.scenario_defs.specs.declared.scenario.Vrf.{Vrf}

-- the VRFs of those of the interfaces that belong to the site
abbrev pub vrfs_of : SiteId → List Iface → List VrfId
vrfs_of site ifaces = map (λ iface. iface.vrf) (filter (is_of_site site) ifaces)

-- whether the VRF is among these
abbrev pub has_vrf : List VrfId → VrfId → Bool
has_vrf vrfs vrf = list_any (λ other. other.0 == vrf.0) vrfs

-- the numbers of those of the VRFs, numbered from that one on, that are among these
abbrev pub among_from : List VrfId → ℕ → List Vrf → List VrfId
among_from own number [] = []
among_from own number (vrf ∷ more) =
    if has_vrf own (record { 0 = number }) then record { 0 = number } ∷ among_from own (number + 1) more else
    among_from own (number + 1) more

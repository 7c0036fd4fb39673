-- What is looked up of each VRF's VPN once.
use Rattle.std.specs.Prelude.{ℕ, ◌+◌, List, [], ◌∷◌}
use Rattle.audit_defs.specs.mv_base.declared.ids.VrfId.{VrfId}
use Rattle.audit_defs.specs.mv_base.declared.ids.IfaceId.{IfaceId}
use Rattle.audit_defs.specs.scenario_defs.declared.scenario.Vrf.{Vrf}
use Rattle.audit_defs.specs.scenario_defs.declared.scenario.Scenario.{Scenario}
use Rattle.audit_defs.specs.scenario_defs.Vpn.{same_vpn, ifaces_where}
use Rattle.audit_defs.specs.scenario_defs.Home.{routes}
use Rattle.audit_events.specs.declared.vpns.Vpn.{Vpn}

-- the interfaces of the VRF's VPN
abbrev pub members : Scenario → VrfId → List IfaceId
members scenario vrf = ifaces_where (λ number iface. same_vpn scenario vrf iface.vrf) 0 scenario.ifaces

abbrev pub vpn_of : Scenario → VrfId → Vpn
vpn_of scenario vrf = record { members = members scenario vrf; routes = routes scenario vrf }

-- the VPNs of the VRFs, which are numbered from that number on
abbrev pub vpns_from : Scenario → ℕ → List Vrf → List Vpn
vpns_from scenario number [] = []
vpns_from scenario number (vrf ∷ more) = vpn_of scenario (record { 0 = number }) ∷ vpns_from scenario (number + 1) more

abbrev pub vpns_of : Scenario → List Vpn
vpns_of scenario = vpns_from scenario 0 scenario.vrfs

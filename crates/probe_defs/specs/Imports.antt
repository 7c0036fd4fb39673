-- The routes that VRFs take, one after another.
use Rattle.std.specs.Prelude.{List, map}
use Rattle.mv_base.specs.declared.ids.VrfId.{VrfId}
use Rattle.bgp_messages.specs.declared.bgp_attributes.key.Key.{Key}
use Rattle.probe_defs.specs.declared.probe.VrfImports.{VrfImports}

-- a route that a VRF takes, by its key
pub record Import : Type 0 where
  pub vrf : VrfId
  pub key : Key

-- the VRF takes the routes of these keys
abbrev pub by_keys : VrfId → List Key → List Import
by_keys vrf keys = map (λ key. record { vrf = vrf; key = key }) keys

abbrev pub imports_by : VrfImports → List Import
imports_by own = by_keys own.vrf own.keys

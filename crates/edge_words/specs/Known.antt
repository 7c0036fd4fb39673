-- What an upstream says of the origin that a VRF chooses, and numbers of selections.
use Rattle.std.specs.Prelude.{◌≡◌, ◌<◌, ◌≤◌, ◌+◌, ℕ, true, false, Some, is_some, length}
use Rattle.std.specs.FinMap as maps
use Rattle.std.specs.FinMap.{FinMap}
use Rattle.mv_base.specs.declared.ids.NodeId.{NodeId}
use Rattle.mv_base.specs.declared.ids.VrfId.{VrfId}
use Rattle.mv_base.specs.declared.pattern.Pattern.{Pattern}
use Rattle.edge_defs.specs.choice_defs.declared.origin.Origin.{Origin}
use Rattle.edge_defs.specs.choice_defs.declared.origin.Origin.TheVariants as origins
use Rattle.edge_defs.specs.Edge.{VrfPattern, pattern_cmp, Selected, Import, Upstream, Site, Remote, Control}
use Rattle.edge_defs.specs.Place.{EdgePlace}
use Rattle.edge_defs.specs.Steps.{with_selection}
use Rattle.edge_defs.specs.Tunnels.{selections_of}

-- The peers whose session is up here are nodes of the scenario.
abbrev pub AreNodes : EdgePlace → Control → Type 0
AreNodes place control = (peer : NodeId) → is_some (maps.get control.peers peer) ≡ true → peer.0 < length place.scenario.nodes

-- The upstream is the site of a local origin; and of a remote one the edge, with the route distinguisher of its route.
abbrev pub Says : Origin → Upstream → Type 0
Says (origins.Local site) upstream = upstream ≡ Site site
Says (origins.Remote edge address rd) upstream = (import : Import) × (source_as : ℕ) × (upstream ≡ Remote edge rd import source_as)

-- The number is the least from 1 on that no selection of the VRF has.
pub record IsLeastFree (vrf : VrfId) (selections : FinMap pattern_cmp Selected) (number : ℕ) : Type 0 where
  pub counted : 1 ≤ number
  pub free : (key : VrfPattern) (selected : Selected) → maps.get selections key ≡ Some selected → key.vrf.0 ≡ vrf.0
      → selected.number ≡ number → ⊥
  pub least : (lower : ℕ) → 1 ≤ lower → lower < number
      → (key : VrfPattern) × (selected : Selected) × (maps.get selections key ≡ Some selected) × (key.vrf.0 ≡ vrf.0)
      × (selected.number ≡ lower)

-- A pattern that is selected in a VRF gets the least number from 1 on that no selection of the VRF has, which is at most one more than
-- these are; it was made now, and its delay was not run.
pub record IsNumbered (now : ℕ) (control : Control) (vrf : VrfId) (pattern : Pattern) : Type 0 where
  pub number : ℕ
  pub kept :
      maps.get (with_selection now vrf pattern control.selections) (record { vrf = vrf; pattern = pattern })
      ≡ Some (record { number = number; since = now; run = false })
  pub least : IsLeastFree vrf control.selections number
  pub few : number ≤ length (selections_of control vrf) + 1

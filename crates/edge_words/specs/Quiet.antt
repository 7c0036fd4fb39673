-- An edge of which no timer is due, entry by entry.
use Rattle.std.specs.Prelude.{◌≡◌, ◌<◌, ◌⊎◌, ℕ, ◌+◌, true, slice_get, Some}
use Rattle.std.specs.FinMap as maps
use Rattle.mv_base.specs.declared.ids.NodeId.{NodeId}
use Rattle.bgp_messages.specs.declared.bgp_attributes.key.Key.{Key}
use Rattle.scenario_defs.specs.declared.event.IfaceEntry.{IfaceEntry}
use Rattle.edge_defs.specs.pim_defs.declared.expiry.Expiry.{Expiry}
use Rattle.edge_defs.specs.pim_defs.Expiry.{is_after}
use Rattle.label_defs.specs.declared.end.End.{End}
use Rattle.label_defs.specs.declared.label_use.LabelUse.TheVariants as uses
use Rattle.selective_defs.specs.Selective.{Among}
use Rattle.edge_defs.specs.Edge.{VrfPattern, Selected, TakenRoute, EdgeData}
use Rattle.edge_defs.specs.Imported.{ImportedSelective, taken_from, imported_selective}
use Rattle.edge_defs.specs.Place.{EdgePlace, OwnVrf, addr_of, own_vrfs}

-- No label has rested to its moment; each end has its hold run, or its moment is to come; each entry ends after the clock; each
-- selection, and each selective route that a VRF of the edge imports, has its delay run, or its end is to come.
pub record NoneDue (place : EdgePlace) (now : ℕ) (edge : EdgeData) : Type 0 where
  pub labels : (number until : ℕ) → slice_get edge.part.labels number ≡ Some (uses.Resting until) → now < until
  pub holds : (node : NodeId) (end : End) → maps.get edge.part.ends node ≡ Some end
      → (end.held ≡ true) ⊎ (now < end.raised + place.scenario.life + 1)
  pub entries : (at : IfaceEntry) (expiry : Expiry) → maps.get edge.control.entries at ≡ Some expiry → is_after expiry now ≡ true
  pub selections : (key : VrfPattern) (selected : Selected) → maps.get edge.control.selections key ≡ Some selected
      → (selected.run ≡ true) ⊎ (now < selected.since + place.scenario.delay)
  pub routes : (peer : NodeId) (key : Key) (route : TakenRoute) (own : OwnVrf) (imported : ImportedSelective)
      → maps.get (taken_from edge.control peer) key ≡ Some route → Among own (own_vrfs place)
      → imported_selective own.vrf (addr_of place.scenario peer) (key, route) ≡ Some imported
      → (route.run ≡ true) ⊎ (now < route.since + place.scenario.delay)

-- How many timers of an edge are due.
use Rattle.std.specs.Prelude.{ℕ, ◌+◌, ◌&&◌, Bool, not, nat_le, sum_by, count_by, is_some, if◌then◌else◌}
use Rattle.std.specs.FinMap as maps
use Rattle.mv_base.specs.declared.ids.NodeId.{NodeId}
use Rattle.pim_defs.specs.Entries as entries
use Rattle.bgp_messages.specs.declared.bgp_attributes.key.Key.{Key}
use Rattle.label_defs.specs.LabelData as labels
use Rattle.edge_defs.specs.Edge.{Selected, TakenRoute, Taken, EdgeData}
use Rattle.edge_defs.specs.Imported.{imported_selective}
use Rattle.edge_defs.specs.Place.{EdgePlace, addr_of, own_vrfs, label_place}

-- whether the delay of a selection is due
abbrev pub is_selection_due : ℕ → ℕ → Selected → Bool
is_selection_due delay now selected = not selected.run && nat_le (selected.since + delay) now

-- the delays of a selective route that are due: one for each VRF that imports it
abbrev pub due_delays : EdgePlace → ℕ → NodeId → Key × TakenRoute → ℕ
due_delays place now peer entry =
    if not entry.1.run && nat_le (entry.1.since + place.scenario.delay) now
    then count_by (λ own. is_some (imported_selective own.vrf (addr_of place.scenario peer) entry)) (own_vrfs place)
    else 0

abbrev pub due_from : EdgePlace → ℕ → NodeId × Taken → ℕ
due_from place now peer = sum_by (due_delays place now peer.0) (maps.entries peer.1)

-- the timers of the edge that are due: of resting labels and holds, of entries, of selections, and of selective routes
abbrev pub due : EdgePlace → ℕ → EdgeData → ℕ
due place now edge =
    labels.due (label_place place.scenario place.core place.me) now edge.part
    + (entries.due edge.control.entries now
    + (count_by (is_selection_due place.scenario.delay now) (maps.values edge.control.selections)
    + sum_by (due_from place now) (maps.entries edge.control.peers)))

-- Which event each marker of a report belongs to, found by going forward through the events.
use Rattle.std.specs.Prelude.{ℕ, ◌+◌, ◌==◌, ◌&&◌, Bool, List, [], ◌∷◌, map, Option, None, Some, option_map, if◌then◌else◌}
use Rattle.std.specs.List.{list_any}
use Rattle.audit_defs.specs.scenario_defs.declared.event.Timed.{Timed}
use Rattle.audit_defs.specs.scenario_defs.declared.report.ReportLine.{ReportLine}
use Rattle.audit_defs.specs.scenario_defs.declared.report.ReportLine.TheVariants as lines
use Rattle.audit_events.specs.declared.fate.Fate.{Fate}
use Rattle.audit_events.specs.declared.fate.Fate.TheVariants as fates
use Rattle.audit_events.specs.declared.fate.Marked.{Marked}
use Rattle.audit_defs.specs.Markers.{is_state, marks}

-- an event that a marker belongs to: its place, and the events after it
pub record Found : Type 0 where
  pub place : ℕ
  pub rest : List Timed

-- The next of the events, which are numbered from that number on, that the line marks. No `state` event is passed over, since each has
-- a marker of its own.
abbrev pub found : ReportLine → ℕ → List Timed → Option Found
found line number [] = None
found line number (timed ∷ more) =
    if marks timed line then Some (record { place = number; rest = more }) else
    if is_state timed.event then None else found line (number + 1) more

-- what a marker says of its event: that it was refused, or whether the network was calm, or at least no copy was on a link
abbrev pub fate_of : ReportLine → Fate
fate_of (lines.State bytes copies buffers due unready) =
    if copies == 0 then (if (bytes == 0) && (buffers == 0) && (due == 0) && (unready == 0) then fates.Calm else fates.Clear) else fates.Busy
fate_of other = fates.Refused

-- the events that markers belong to, the number of the next event, and the events from that one on
pub record Placed : Type 0 where
  pub marked : List Marked
  pub next : ℕ
  pub rest : List Timed

abbrev pub with_mark : Marked → Placed → Placed
with_mark mark placed = record placed { marked = mark ∷ placed.marked }

abbrev pub mark_at : ReportLine → ℕ → Marked
mark_at line place = record { place = place; fate = fate_of line }

-- the events that the markers belong to, in order, where each belongs to one
abbrev pub placed : ℕ → List Timed → List ReportLine → Option Placed
placed number events [] = Some (record { marked = []; next = number; rest = events })
placed number events (line ∷ more) = elim (found line number events) [
  | None ↦ None
  | Some here ↦ option_map (with_mark (mark_at line here.place)) (placed (here.place + 1) here.rest more)
]

abbrev pub places_of : List Marked → List ℕ
places_of marked = map (λ mark. mark.place) marked

-- whether a `state` event is among them
abbrev pub has_state : List Timed → Bool
has_state events = list_any (λ timed. is_state timed.event) events

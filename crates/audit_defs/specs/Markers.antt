-- Markers: the `state` and `refused` lines of a report, which say where in it the events of the script lie.
use Rattle.std.specs.Prelude.{ℕ, ◌+◌, ◌==◌, ◌&&◌, ◌||◌, Bool, true, false, List, [], ◌∷◌, map, filter, if◌then◌else◌}
use Rattle.std.specs.List.{list_any, flat_map}
use Rattle.scenario_defs.specs.declared.event.Event.{Event}
use Rattle.scenario_defs.specs.declared.event.Event.TheVariants as events
use Rattle.scenario_defs.specs.declared.event.Timed.{Timed}
use Rattle.scenario_defs.specs.declared.report.ReportLine.{ReportLine}
use Rattle.scenario_defs.specs.declared.report.ReportLine.TheVariants as lines
use Rattle.mvpn_model.specs.Report.{refused_line}
use Rattle.audit_defs.specs.declared.verdict.Numbered.{Numbered}

-- the lines without their numbers
abbrev pub values : List Numbered → List ReportLine
values numbered = map (λ line. line.value) numbered

abbrev pub is_marker : ReportLine → Bool
is_marker (lines.State bytes copies buffers due unready) = true
is_marker (lines.Refused line reason) = true
is_marker other = false

abbrev pub markers : List Numbered → List ReportLine
markers numbered = filter is_marker (values numbered)

-- the event lines that the lines of a report name as refused
abbrev pub named : List ReportLine → List ℕ
named all = flat_map refused_line all

-- ---- events

abbrev pub is_state : Event → Bool
is_state events.State = true
is_state other = false

-- whether there is a reason for which such an event can be refused
abbrev pub is_refusable : Event → Bool
is_refusable (events.Tick count) = false
is_refusable (events.Timers node) = false
is_refusable (events.Restart node) = false
is_refusable (events.Cost a b cost) = false
is_refusable events.Heal = false
is_refusable events.Settle = false
is_refusable events.Drain = false
is_refusable events.State = false
is_refusable other = true

-- whether the event's line is one of those
abbrev pub is_named : List ℕ → Timed → Bool
is_named refused timed = list_any (λ line. line == timed.line) refused

-- whether the event has a marker: it is `state`, or one of those that are named
abbrev pub is_marked : List ℕ → Timed → Bool
is_marked refused timed = is_state timed.event || is_named refused timed

-- ---- which markers fit

-- whether the line is a marker of the event: it gives its numbers, or says that it was refused
abbrev pub marks : Timed → ReportLine → Bool
marks timed (lines.State bytes copies buffers due unready) = is_state timed.event
marks timed (lines.Refused line reason) = (line == timed.line) && is_refusable timed.event
marks timed other = false

-- whether the lines are markers of the events, in order, one for each
abbrev pub mark_each : List Timed → List ReportLine → Bool
mark_each [] [] = true
mark_each [] (line ∷ more) = false
mark_each (timed ∷ events) [] = false
mark_each (timed ∷ events) (line ∷ more) = marks timed line && mark_each events more

-- Markers fit events: in order, they are one line for each `state` event and for each event that they name.
abbrev pub fit : List Timed → List ReportLine → Bool
fit events all = mark_each (filter (is_marked (named all)) events) all

-- whether some first ones of the events pass a test
abbrev pub some_front : (List Timed → Bool) → List Timed → Bool
some_front test [] = test []
some_front test (timed ∷ more) = test [] || some_front (λ first. test (timed ∷ first)) more

-- Markers begin to fit: they fit some first ones of the events.
abbrev pub begin : List Timed → List ReportLine → Bool
begin events all = some_front (λ first. fit first all) events

-- ---- where the marked events lie

-- The places of the events that have a marker; the events are numbered from that number on.
abbrev pub marked_places : List ℕ → ℕ → List Timed → List ℕ
marked_places refused number [] = []
marked_places refused number (timed ∷ more) =
    if is_marked refused timed then number ∷ marked_places refused (number + 1) more else marked_places refused (number + 1) more

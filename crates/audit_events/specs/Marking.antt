-- The conditions of the audit of a report, and what the pass over its markers answers.
use Rattle.std.specs.Prelude.{◌≡◌, ℕ, ◌<◌, ◌≤◌, false, List, [], ◌∷◌, take, drop, map, length, Some}
use Rattle.std.specs.List.{list_any}
use Rattle.audit_defs.specs.scenario_defs.declared.event.Script.{Script}
use Rattle.audit_defs.specs.scenario_defs.declared.event.Timed.{Timed}
use Rattle.audit_defs.specs.declared.verdict.Numbered.{Numbered}
use Rattle.audit_defs.specs.declared.verdict.ReportLines.{ReportLines}
use Rattle.audit_defs.specs.Markers.{values, markers, named, marked_places}
use Rattle.audit_defs.specs.Verdicts.{is_halt, AreJudged, IsLeast}
use Rattle.audit_events.specs.declared.markers.Marking.{Marking}
use Rattle.audit_events.specs.declared.markers.Marking.TheVariants as markings
use Rattle.audit_events.specs.declared.fate.Marked.{Marked}
use Rattle.audit_events.specs.Placed.{placed, places_of, fate_of}

-- the line of the last event, 0 where there is none
abbrev pub last_line : List Timed → ℕ
last_line events = last_from 0 events
  where
    last_from : ℕ → List Timed → ℕ
    last_from line [] = line
    last_from line (timed ∷ more) = last_from timed.line more

-- The numbers of the lines rise, from above that number on, and the number after the last line is above them.
abbrev pub LinesRise : ℕ → List Numbered → ℕ → Type 0
LinesRise bound [] end = bound < end
LinesRise bound (numbered ∷ more) end = (bound < numbered.line) × LinesRise numbered.line more end

-- The lines of the report rise, and come after those of the script.
abbrev pub ComesAfter : Script → ReportLines → Type 0
ComesAfter script report = LinesRise (last_line script.events) report.lines report.end

-- The markers of the first lines belong to these events, the next event is of that number, and none of the lines is a
-- `halt` line.
pub record IsOnWay (script : Script) (report : ReportLines) (count : ℕ) (marked : List Marked) (next : ℕ) : Type 0 where
  pub unhalted : list_any is_halt (values (take count report.lines)) ≡ false
  pub placed_so :
      placed 0 script.events (markers (take count report.lines)) ≡
      Some (record { marked = marked; next = next; rest = drop next script.events })
  pub within : next ≤ length script.events

-- The markers fit, the report has no `halt` line, and these are the events that have a marker.
pub record AreMarked (script : Script) (report : ReportLines) (marked : List Marked) : Type 0 where
  pub judged : AreJudged script report
  pub places : marked_places (named (values report.lines)) 0 script.events ≡ places_of marked
  pub fates : map fate_of (markers report.lines) ≡ map (λ mark. mark.fate) marked

-- The markers fit at these events, and the report has no `halt` line; or the least offence is one of a marker or of a `halt` line.
abbrev pub IsMarking : Script → ReportLines → Marking → Type 0
IsMarking script report (markings.Fit marked) = AreMarked script report marked
IsMarking script report (markings.Offends line reason) = IsLeast script report line reason

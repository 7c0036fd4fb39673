-- A report that is cut by its markers: which events count as refused, and which event each line is given to.
use Rattle.std.specs.Prelude.{ℕ, ◌&&◌, Bool, true, false, List, [], ◌∷◌, ◌++◌, map, length, is_some, if◌then◌else◌}
use Rattle.std.specs.List.{flat_map}
use Rattle.scenario_defs.specs.declared.event.Event.{Event}
use Rattle.scenario_defs.specs.declared.event.CustomerEvent.TheVariants as customers
use Rattle.scenario_defs.specs.declared.event.Event.TheVariants as events
use Rattle.scenario_defs.specs.declared.event.Script.{Script}
use Rattle.scenario_defs.specs.declared.event.Timed.{Timed}
use Rattle.scenario_defs.specs.declared.report.ReportLine.{ReportLine}
use Rattle.scenario_defs.specs.declared.scenario.Scenario.{Scenario}
use Rattle.mvpn_model.specs.Packets.{packet_fault}
use Rattle.mvpn_model.specs.Past.{is_accepted}
use Rattle.mvpn_model.specs.Refused.{octets_refusal}
use Rattle.mvpn_model.specs.Report.{Entry}
use Rattle.audit_defs.specs.declared.verdict.Numbered.{Numbered}
use Rattle.audit_defs.specs.Markers.{values, is_marker, named, marked_places}

-- ---- which events count as refused

-- whether the event gives octets that are not in their grammar
abbrev pub is_malformed : Event → Bool
is_malformed (events.Customer (customers.Pim iface octets)) = is_some (octets_refusal octets)
is_malformed (events.Packet site octets) = is_some (packet_fault octets)
is_malformed other = false

-- the lines of the malformed events that are not named
abbrev pub unnamed : List ℕ → List Timed → List ℕ
unnamed refused events =
    flat_map (λ timed. if is_malformed timed.event && is_accepted refused timed then timed.line ∷ [] else []) events

-- The event lines that count as refused: those that the report names, and besides them those of malformed events.
abbrev pub refused_by : List Timed → List ReportLine → List ℕ
refused_by events all = named all ++ unnamed (named all) events

-- ---- which event a line is given to

-- a line of a report: its number in the text, the place of the event that it is given to, and what it says
pub record Given : Type 0 where
  pub line : ℕ
  pub event : ℕ
  pub value : ReportLine

-- the first of the places that are left, or the end where none is
abbrev pub next_of : ℕ → List ℕ → ℕ
next_of end [] = end
next_of end (place ∷ more) = place

-- the places that are left after a line: a marker uses up one
abbrev pub places_after : Bool → List ℕ → List ℕ
places_after false places = places
places_after true [] = []
places_after true (place ∷ more) = more

-- Each line is given to the event of the next marker, a marker to its own event; after the last marker a line is given to the end,
-- which is the place after all events.
abbrev pub give : ℕ → List ℕ → List Numbered → List Given
give end places [] = []
give end places (line ∷ more) =
    record { line = line.line; event = next_of end places; value = line.value } ∷ give end (places_after (is_marker line.value) places) more

-- ---- what is judged

-- A report with its script: the events, the lines of those that count as refused, and the lines of the report.
pub record Audited : Type 0 where
  pub scenario : Scenario
  pub events : List Timed
  pub refused : List ℕ
  pub lines : List Given

abbrev pub audited : Script → List Numbered → Audited
audited script numbered = record {
  scenario = script.scenario;
  events = script.events;
  refused = refused_by script.events (values numbered);
  lines = give (length script.events) (marked_places (named (values numbered)) 0 script.events) numbered;
}

abbrev pub entry_of : Given → Entry
entry_of given = record { event = given.event; lines = given.value ∷ [] }

-- the report as it is cut, each line an entry of its own
abbrev pub cut : Audited → List Entry
cut audited = map entry_of audited.lines

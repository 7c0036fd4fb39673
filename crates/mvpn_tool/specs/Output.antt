-- What a replay writes of a report: its lines, or the file of its hops.
use Rattle.std.specs.Prelude.{◌≡◌, ℕ, ◌+◌, ◌<◌, ◌≤◌, ◌^◌, List, [], ◌++◌, map, length, take, All, if◌then◌else◌}
use Rattle.std.specs.List.{flat_map, list_any}
use Rattle.core_pcap.specs.declared.hop.CoreHop.{CoreHop}
use Rattle.core_pcap.specs.declared.order.ByteOrder.TheVariants.{BigEndian}
use Rattle.core_pcap.specs.Spelling.{IsHop, hop_text, written_header}
use Rattle.scenario_defs.specs.Rules.{payload_limit}
use Rattle.scenario_defs.specs.declared.event.Event.{Event}
use Rattle.scenario_defs.specs.declared.event.Event.TheVariants as events
use Rattle.scenario_defs.specs.declared.event.Script.{Script}
use Rattle.scenario_defs.specs.declared.event.Timed.{Timed}
use Rattle.scenario_defs.specs.declared.report.ReportLine.{ReportLine}
use Rattle.scenario_defs.specs.declared.scenario.Scenario.{Scenario}
use Rattle.mvpn_model.specs.Past.{ticks_in, ticks_of}
use Rattle.mvpn_model.specs.Report.{Datagram, Entry, refused_line, refused_lines, sent_by}
use Rattle.hop_laws.specs.Hops.{hop_by, hops_in, hops_of, refuses, sent_in}
use Rattle.mvpn_tool.specs.Report.{lines_text, text_of}
use Rattle.mvpn_tool.specs.declared.command.Output.{Output}
use Rattle.mvpn_tool.specs.declared.command.Output.TheVariants as outputs
use Rattle.mvpn_tool.specs.declared.sent_hops.SoFar.{SoFar}

-- ---- a report

-- what comes first, whatever the report is
abbrev pub front_of : Output → List ℕ
front_of (outputs.Report detail) = []
front_of outputs.Hops = written_header

-- what is written of the entries of a report
abbrev pub body_of : Output → Script → List Entry → List ℕ
body_of (outputs.Report detail) script report = text_of detail script.scenario report
body_of outputs.Hops script report = flat_map (hop_text BigEndian) (hops_of script.events report)

-- The output of a report: the text of its lines, all or without those of the wire, or the file of its hops.
abbrev pub output_of : Output → Script → List Entry → List ℕ
output_of output script report = front_of output ++ body_of output script report

-- ---- an event

-- the hops of the event of that number, which has these lines, after the report of those before it
abbrev pub event_hops : List Timed → List Entry → ℕ → List ReportLine → List CoreHop
event_hops events before number own = hops_in events (refused_lines before ++ flat_map refused_line own) (record { event = number; lines = own })

-- what is written of it
abbrev pub event_output : Output → Scenario → List Timed → List Entry → ℕ → List ReportLine → List ℕ
event_output (outputs.Report detail) scenario events before number own = lines_text detail scenario own
event_output outputs.Hops scenario events before number own = flat_map (hop_text BigEndian) (event_hops events before number own)

-- what is written of an event that runs out of labels: its lines, with that of the halt; it has no hops
abbrev pub halt_output : Output → Scenario → List ReportLine → List ℕ
halt_output (outputs.Report detail) scenario own = lines_text detail scenario own
halt_output outputs.Hops scenario own = []

-- ---- what is kept of the events so far

-- The clock after the first so many events, and the octets of the datagrams that they sent; for a report nothing is kept.
abbrev pub IsKept : Output → List Timed → List Entry → ℕ → SoFar → Type 0
IsKept (outputs.Report detail) events report count so_far = Unit {0}
IsKept outputs.Hops events report count so_far =
    (so_far.clock ≡ ticks_in (take count events)) × (so_far.sent ≡ sent_in events (refused_lines report) count)

-- the octets that were sent once an event with these lines is over
abbrev pub sent_after : List (List ℕ) → Timed → List ReportLine → List (List ℕ)
sent_after sent timed own =
    sent ++ (if list_any (refuses timed.line) own then [] else map (λ (datagram : Datagram). datagram.octets) (sent_by 0 timed.event))

-- the hops that its lines report
abbrev pub hops_after : SoFar → Timed → List ReportLine → List CoreHop
hops_after so_far timed own = flat_map (hop_by so_far.clock (sent_after so_far.sent timed own)) own

-- what the event sends is no longer than a line can give
abbrev pub HasShortPayload : Event → Type 0
HasShortPayload (events.Send site source group payload) = length payload ≤ payload_limit
HasShortPayload other = Unit {0}

-- Its hops have spellings, and what is kept can be kept on.
pub record MayGoOn (timed : Timed) (so_far : SoFar) (own : List ReportLine) : Type 0 where
  pub payload : HasShortPayload timed.event
  pub clock : so_far.clock + ticks_of timed.event < 2 ^ 63
  pub hops : All IsHop (hops_after so_far timed own)

-- what is asked for to write of it
abbrev pub MayWrite : Output → Timed → SoFar → List ReportLine → Type 0
MayWrite (outputs.Report detail) timed so_far own = Unit {0}
MayWrite outputs.Hops timed so_far own = MayGoOn timed so_far own

-- what is written of it by what is kept, and what is kept then
abbrev pub output_after : Output → Scenario → Timed → SoFar → List ReportLine → List ℕ
output_after (outputs.Report detail) scenario timed so_far own = lines_text detail scenario own
output_after outputs.Hops scenario timed so_far own = flat_map (hop_text BigEndian) (hops_after so_far timed own)

abbrev pub kept_after : Output → Timed → SoFar → List ReportLine → SoFar
kept_after (outputs.Report detail) timed so_far own = so_far
kept_after outputs.Hops timed so_far own =
    record { clock = so_far.clock + ticks_of timed.event; sent = sent_after so_far.sent timed own }

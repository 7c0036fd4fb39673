-- Reports: the lines of each act of a run, and what they say of the script.
use Rattle.std.specs.Prelude.{ℕ, ◌+◌, ◌==◌, ◌&&◌, Bool, false, List, [], ◌∷◌, ◌++◌, count_by, if◌then◌else◌}
use Rattle.std.specs.List.{flat_map}
use Rattle.mv_base.specs.declared.ids.IfaceId.{IfaceId}
use Rattle.mv_base.specs.declared.ids.SiteId.{SiteId}
use Rattle.mv_base.specs.declared.addr.Addr.{Addr}
use Rattle.scenario_defs.specs.declared.scenario.Scenario.{Scenario}
use Rattle.scenario_defs.specs.declared.event.Timed.{Timed}
use Rattle.scenario_defs.specs.declared.event.Event.{Event}
use Rattle.scenario_defs.specs.declared.event.Event.TheVariants as events
use Rattle.scenario_defs.specs.declared.report.ReportLine.{ReportLine}
use Rattle.scenario_defs.specs.declared.report.ReportLine.TheVariants as lines
use Rattle.scenario_defs.specs.Text.{line_text}
use Rattle.mvpn_model.specs.Past.{is_accepted}
use Rattle.mvpn_model.specs.Packet.{packet}
use Rattle.mvpn_model.specs.Packets.{source_in, group_in}

-- one act: the number of its event in the script, counted from 0, and its lines, which may be none
pub record Entry : Type 0 where
  pub event : ℕ
  pub lines : List ReportLine

-- the lines of a report
abbrev pub lines_of : List Entry → List ReportLine
lines_of report = flat_map (λ entry. entry.lines) report

-- the text of a report
abbrev pub report_text : Scenario → List Entry → List ℕ
report_text scenario report = flat_map (line_text scenario) (lines_of report)

-- the event line that a report line refuses
abbrev pub refused_line : ReportLine → List ℕ
refused_line (lines.Refused line reason) = line ∷ []
refused_line other = []

-- the event lines that a report refuses
abbrev pub refused_lines : List Entry → List ℕ
refused_lines report = flat_map refused_line (lines_of report)

-- a datagram that was accepted: the number of its event, where it was sent from, its flow and its octets
pub record Datagram : Type 0 where
  pub event : ℕ
  pub site : SiteId
  pub source : Addr
  pub group : Addr
  pub octets : List ℕ

-- The datagram that an event sends: the packet of a `send`, or the octets of a `packet`, which tell their own flow.
abbrev pub sent_by : ℕ → Event → List Datagram
sent_by number (events.Send site source group payload) =
    record { event = number; site = site; source = source; group = group; octets = packet source group payload } ∷ []
sent_by number (events.Packet site octets) =
    record { event = number; site = site; source = source_in octets; group = group_in octets; octets = octets } ∷ []
sent_by number other = []

-- The datagrams of the accepted ones of the events, which are numbered from that number on. A datagram's number in a
-- report is its place in the list, counted from 1.
abbrev pub datagrams : List ℕ → ℕ → List Timed → List Datagram
datagrams refused number [] = []
datagrams refused number (timed ∷ more) =
    (if is_accepted refused timed then sent_by number timed.event else []) ++ datagrams refused (number + 1) more

-- whether the line says that the datagram of that number left at the interface
abbrev pub is_out_at : ℕ → IfaceId → ReportLine → Bool
is_out_at number iface (lines.Out out_number out_iface bytes) = (out_number == number) && (out_iface.0 == iface.0)
is_out_at number iface other = false

-- how often the report says so
abbrev pub outs_at : List Entry → ℕ → IfaceId → ℕ
outs_at report number iface = count_by (is_out_at number iface) (lines_of report)

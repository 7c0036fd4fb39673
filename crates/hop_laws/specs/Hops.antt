-- The hops of a report: what a file of hops has of it.
use Rattle.std.specs.Prelude.{ℕ, zero, suc, ◌+◌, ◌<◌, ◌≤◌, ◌==◌, Bool, false, List, [], ◌∷◌, map, length, take, slice_get, None, Some}
use Rattle.std.specs.List.{flat_map, AllByRecursion}
use Rattle.core_pcap.specs.declared.hop.CoreHop.{CoreHop}
use Rattle.scenario_defs.specs.declared.event.Timed.{Timed}
use Rattle.scenario_defs.specs.declared.report.ReportLine.{ReportLine}
use Rattle.scenario_defs.specs.declared.report.ReportLine.TheVariants as lines
use Rattle.mvpn_model.specs.Past.{ticks_in}
use Rattle.mvpn_model.specs.Report.{Datagram, Entry, datagrams, refused_lines}

-- the octets of the datagrams that the first so many events sent, where those of the refused lines sent none
abbrev pub sent_in : List Timed → List ℕ → ℕ → List (List ℕ)
sent_in events refused count = map (λ (datagram : Datagram). datagram.octets) (datagrams refused 0 (take count events))

-- the octets of the datagram of that number among these, counted from 1
abbrev pub datagram_octets : List (List ℕ) → ℕ → List ℕ
datagram_octets sent zero = []
datagram_octets sent (suc place) = elim (slice_get sent place) [ None ↦ [] | Some octets ↦ octets ]

-- the hop that a line reports, at that clock and by those datagrams; other lines report none
abbrev pub hop_by : ℕ → List (List ℕ) → ReportLine → List CoreHop
hop_by clock sent (lines.Hop from to label ttl number) =
    record { tick = clock; from = from; to = to; label = label; ttl = ttl; bytes = datagram_octets sent number } ∷ []
hop_by clock sent other = []

-- The hops of an entry: the clock is that at its event, and each datagram is one of those that were sent up to it.
abbrev pub hops_in : List Timed → List ℕ → Entry → List CoreHop
hops_in events refused entry =
    flat_map (hop_by (ticks_in (take entry.event events)) (sent_in events refused (entry.event + 1))) entry.lines

-- the hops of a report, in the order of its `hop` lines
abbrev pub hops_of : List Timed → List Entry → List CoreHop
hops_of events report = flat_map (hops_in events (refused_lines report)) report

-- whether a line refuses the event at that line of the script
abbrev pub refuses : ℕ → ReportLine → Bool
refuses number (lines.Refused line reason) = line == number
refuses number other = false

-- ---- every `hop` line names a datagram

abbrev pub NamesDatagram : List (List ℕ) → ReportLine → Type 0
NamesDatagram sent (lines.Hop from to label ttl number) = (0 < number) × (number ≤ length sent)
NamesDatagram sent other = Unit {0}

-- Each `hop` line names a datagram that was sent up to its own event: no hop lacks its octets.
abbrev pub NameDatagrams : List Timed → List Entry → Type 0
NameDatagrams events report =
    AllByRecursion (λ (entry : Entry). AllByRecursion (NamesDatagram (sent_in events (refused_lines report) (entry.event + 1))) entry.lines) report

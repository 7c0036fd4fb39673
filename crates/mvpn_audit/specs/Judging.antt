-- The offences of `out` lines, by the datagrams that were accepted.
use Rattle.std.specs.Prelude.{◌≡◌, ◌≢◌, ℕ, zero, suc, ◌+◌, ◌<◌, ◌≤◌, ◌||◌, nat_lt, nat_eq, Bool, true, false, not, List, [], take, drop, length}
use Rattle.std.specs.Prelude.{slice_get, Option, None, Some, if◌then◌else◌}
use Rattle.std.specs.List.{list_any}
use Rattle.std.specs.Cmp.Lexicographic.{pointwise}
use Rattle.indexmap.specs.IndexMap.{get}
use Rattle.audit_events.specs.mv_base.declared.ids.IfaceId.{IfaceId}
use Rattle.audit_events.specs.mv_base.declared.ids.SiteId.{SiteId}
use Rattle.audit_events.specs.scenario_defs.declared.event.Event.{Event}
use Rattle.audit_events.specs.scenario_defs.declared.event.Event.TheVariants as events
use Rattle.audit_events.specs.scenario_defs.declared.event.Timed.{Timed}
use Rattle.audit_events.specs.scenario_defs.declared.report.ReportLine.{ReportLine}
use Rattle.audit_events.specs.scenario_defs.declared.report.ReportLine.TheVariants as lines
use Rattle.audit_events.specs.scenario_defs.declared.scenario.Iface.{Iface}
use Rattle.audit_events.specs.scenario_defs.declared.scenario.Scenario.{Scenario}
use Rattle.audit_events.specs.scenario_defs.Rules.{payload_limit}
use Rattle.audit_events.specs.scenario_defs.Vpn.{is_of_site}
use Rattle.audit_events.specs.mvpn_model.Packet.{packet}
use Rattle.audit_events.specs.mvpn_model.Report.{Datagram, is_out_at}
use Rattle.audit_events.specs.audit_defs.declared.verdict.Offence.{Offence}
use Rattle.audit_events.specs.audit_defs.declared.verdict.Offence.TheVariants as offences
use Rattle.audit_events.specs.audit_defs.Cut.{Given, Audited, give}
use Rattle.audit_events.specs.audit_defs.Offences.{iface_admits, site_admitted, named_before, InWindow, is_receiver}
use Rattle.audit_events.specs.audit_defs.Markers.{is_marker}
use Rattle.audit_events.specs.audit_defs.Verdicts.{rank}
use Rattle.audit_events.specs.declared.case.Case.{Case}
use Rattle.mvpn_audit.specs.declared.findings.Noted.{Noted}
use Rattle.mvpn_audit.specs.declared.judging.Found.{Found}
use Rattle.mvpn_audit.specs.declared.judging.Out.{Out}
use Rattle.mvpn_audit.specs.declared.judging.Reading.{Reading}
use Rattle.audit_events.specs.declared.sents.Sent.{Sent}
use Rattle.mvpn_audit.specs.declared.exits.Exit.{Exit}
use Rattle.mvpn_audit.specs.Exits.{ExitMap, is_exit}
use Rattle.mvpn_audit.specs.Findings.{noted_of, is_asked_by}
use Rattle.audit_events.specs.Case.{scenario_of, events_of, audited_of}
use Rattle.audit_events.specs.Placed.{places_of}
use Rattle.audit_events.specs.Sents.{sents_of}

-- whether the other interface is of another site, or its VRF is admitted by that of the interface
abbrev pub is_let_out : Scenario → IfaceId → SiteId → Iface → Bool
is_let_out scenario iface site other = not (is_of_site site other) || iface_admits scenario iface other.vrf

-- ---- octets

-- The event sends no payload that is longer than a line gives.
abbrev pub IsShort : Event → Type 0
IsShort (events.Send site source group payload) = length payload ≤ payload_limit
IsShort other = Unit {0}

-- the octets of the datagram that an event sends
abbrev pub octets_sent : Event → List ℕ
octets_sent (events.Send site source group payload) = packet source group payload
octets_sent (events.Packet site octets) = octets
octets_sent other = []

-- the same, of the event of that number
abbrev pub octets_at : List Timed → ℕ → List ℕ
octets_at all number = elim (slice_get all number) [ None ↦ [] | Some timed ↦ octets_sent timed.event ]

-- ---- what an `out` line offends against

-- the datagram of that number, counted from 1, if its event comes before that one
abbrev pub sent_named : List Sent → ℕ → ℕ → Option Sent
sent_named sents event zero = None
sent_named sents event (suc place) = elim (slice_get sents place) [
  | None ↦ None
  | Some sent ↦ if nat_lt sent.event event then Some sent else None
]

-- the same, of what is noted of datagrams
abbrev pub noted_named : List Noted → ℕ → ℕ → Option Noted
noted_named all event zero = None
noted_named all event (suc place) = elim (slice_get all place) [
  | None ↦ None
  | Some noted ↦ if nat_lt noted.event event then Some noted else None
]

-- The offence of a datagram that leaves at an interface: whether it is of a window, whether the interface is one of its
-- receivers, and whether it left there before.
abbrev pub fault_in : Bool → Bool → Bool → Option Offence
fault_in false asked earlier = None
fault_in true asked earlier = if earlier then Some offences.Again else if asked then None else Some offences.Asked

-- the same of an `out` line that names the datagram
abbrev pub fault_by : Case → Noted → Out → Bool → Bool → Option Offence
fault_by case noted out asked earlier =
    if not (pointwise nat_eq out.bytes.now (octets_at (events_of case) noted.event)) then Some offences.Bytes else
    if not (site_admitted (scenario_of case) out.iface noted.site) then Some offences.Admit else
    fault_in noted.windowed asked earlier

-- the offence of an `out` line, by whether an earlier one has its number and interface
abbrev pub fault_of : Case → Out → Bool → Option Offence
fault_of case out earlier = elim (sent_named (sents_of case) out.event out.number) [
  | None ↦ Some offences.Number
  | Some sent ↦ fault_by case (noted_of sent) out (is_asked_by sent out.iface) earlier
]

-- ---- what the lines so far offend against

-- whether the line of that place repeats an earlier one
abbrev pub repeat_in : List Bool → ℕ → Bool
repeat_in repeats place = elim (slice_get repeats place) [ None ↦ false | Some repeat ↦ repeat ]

-- whether the datagram is noted as asked for there
abbrev pub is_asked_in : ExitMap → Exit → Bool
is_asked_in exits own = elim (get is_exit exits own) [ None ↦ false | Some asked ↦ asked ]

-- whether one of the lines says that the datagram of that number left at the interface
abbrev pub has_left : List Given → ℕ → IfaceId → Bool
has_left all number iface = list_any (λ given. is_out_at number iface given.value) all

-- The offence at an `out` line, which is the line of that place, given to the event: it is by what the line says and names.
abbrev pub IsFaultOf : Audited → ℕ → ℕ → ℕ → IfaceId → List ℕ → Offence → Type 0
IsFaultOf audited place event number iface octets offences.Number = named_before audited event number ≡ None
IsFaultOf audited place event number iface octets offences.Bytes =
    (datagram : Datagram) × (named_before audited event number ≡ Some datagram) × (octets ≢ datagram.octets)
IsFaultOf audited place event number iface octets offences.Admit =
    (datagram : Datagram) × (named_before audited event number ≡ Some datagram)
    × (site_admitted audited.scenario iface datagram.site ≡ false)
IsFaultOf audited place event number iface octets offences.Again =
    (datagram : Datagram) × (named_before audited event number ≡ Some datagram) × InWindow audited datagram
    × (has_left (take place audited.lines) number iface ≡ true)
IsFaultOf audited place event number iface octets offences.Asked =
    (datagram : Datagram) × (named_before audited event number ≡ Some datagram) × InWindow audited datagram
    × (is_receiver audited datagram iface ≡ false)
IsFaultOf audited place event number iface octets other = ⊥

-- the offence of a line of that place
abbrev pub IsFaultAt : Audited → ℕ → ℕ → ReportLine → Offence → Type 0
IsFaultAt audited place event (lines.Out number iface octets) reason = IsFaultOf audited place event number iface octets reason
IsFaultAt audited place event other reason = ⊥

abbrev pub IsFault : Audited → ℕ → Given → Offence → Type 0
IsFault audited place given reason = IsFaultAt audited place given.event given.value reason

-- None of the first lines has an offence.
abbrev pub AreFaultless : Audited → ℕ → Type 0
AreFaultless audited count =
    (place : ℕ) (given : Given) (reason : Offence) → place < count → slice_get audited.lines place ≡ Some given →
    IsFault audited place given reason → ⊥

-- It is an offence of that line, and none of its offences is earlier in the order.
pub record IsLeastFault (audited : Audited) (place : ℕ) (given : Given) (reason : Offence) : Type 0 where
  pub fault : IsFault audited place given reason
  pub least : (other : Offence) → IsFault audited place given other → rank reason ≤ rank other

-- It is the first of the offences of the first lines.
pub record IsFirstFault (audited : Audited) (count : ℕ) (found : Found) : Type 0 where
  pub place : ℕ
  pub given : Given
  pub within : place < count
  pub at : slice_get audited.lines place ≡ Some given
  pub of_line : given.line ≡ found.line
  pub is : IsLeastFault audited place given found.reason
  pub before : AreFaultless audited place

abbrev pub IsFirst : Audited → ℕ → Option Found → Type 0
IsFirst audited count None = AreFaultless audited count
IsFirst audited count (Some found) = IsFirstFault audited count found

-- the first offence after an `out` line, by the one before it, and by whether an earlier line has the number and interface
abbrev pub first_after : Case → ℕ → Out → Bool → Option Found → Option Found
first_after case line out earlier (Some found) = Some found
first_after case line out earlier None = elim (fault_of case out earlier) [
  | None ↦ None
  | Some reason ↦ Some (record { line = line; reason = reason })
]

-- the event of the next marker after that many
abbrev pub next_event : Case → ℕ → ℕ
next_event case passed = elim (slice_get case.marked passed) [ None ↦ length (events_of case) | Some mark ↦ mark.place ]

-- An `out` line is taken.
pub record Leaves (case : Case) (line : ℕ) (out : Out) (earlier : Bool) (old new : Reading) : Type 0 where
  pub passed : new.passed ≡ old.passed
  pub first : new.first ≡ first_after case line out earlier old.first

-- Another line is taken.
pub record Passes (value : ReportLine) (old new : Reading) : Type 0 where
  pub passed : new.passed ≡ (if is_marker value then old.passed + 1 else old.passed)
  pub first : new.first ≡ old.first

-- What is known after that many lines of the report is what they say.
pub record IsRead (case : Case) (count : ℕ) (reading : Reading) : Type 0 where
  pub rest :
      drop count (audited_of case).lines ≡
      give (length (events_of case)) (drop reading.passed (places_of case.marked)) (drop count case.report.now.lines)
  pub first : IsFirst (audited_of case) count reading.first
  pub few : reading.passed ≤ count

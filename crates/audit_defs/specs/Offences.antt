-- The offences of a report whose markers fit, each at a line of the text.
use Rattle.std.specs.Prelude.{◌≡◌, ◌≢◌, ℕ, zero, suc, ◌+◌, ◌<◌, ◌≤◌, ◌==◌, ◌&&◌, ◌||◌, Bool, true, false, not, List, take, slice_get}
use Rattle.std.specs.Prelude.{Option, None, Some}
use Rattle.std.specs.List.{list_any, list_all}
use Rattle.mv_base.specs.declared.ids.IfaceId.{IfaceId}
use Rattle.mv_base.specs.declared.ids.SiteId.{SiteId}
use Rattle.mv_base.specs.declared.ids.VrfId.{VrfId}
use Rattle.scenario_defs.specs.declared.event.Timed.{Timed}
use Rattle.scenario_defs.specs.declared.report.ReportLine.TheVariants as lines
use Rattle.scenario_defs.specs.declared.scenario.Scenario.{Scenario}
use Rattle.scenario_defs.specs.Vpn.{admits, is_of_site}
use Rattle.mvpn_model.specs.Once.{IsWindow, past_at}
use Rattle.mvpn_model.specs.Past.{receivers}
use Rattle.mvpn_model.specs.Report.{Datagram, datagrams, is_out_at, outs_at}
use Rattle.audit_defs.specs.Cut.{Given, Audited, cut}

-- ---- what an `out` line names

-- The datagram of that number that was accepted before the event of that place, if there is one. Numbers count from 1.
abbrev pub named_before : Audited → ℕ → ℕ → Option Datagram
named_before audited event zero = None
named_before audited event (suc place) = slice_get (datagrams audited.refused 0 (take event audited.events)) place

-- whether the VRF of the interface admits a VRF
abbrev pub iface_admits : Scenario → IfaceId → VrfId → Bool
iface_admits scenario iface vrf = elim (slice_get scenario.ifaces iface.0) [ None ↦ false | Some own ↦ admits scenario own.vrf vrf ]

-- whether the site has an interface, and the interface's VRF admits the VRF of each of them
abbrev pub site_admitted : Scenario → IfaceId → SiteId → Bool
site_admitted scenario iface site =
    list_any (is_of_site site) scenario.ifaces
    && list_all (λ other. not (is_of_site site other) || iface_admits scenario iface other.vrf) scenario.ifaces

-- The datagram is of a window.
abbrev pub InWindow : Audited → Datagram → Type 0
InWindow audited datagram =
    (first : ℕ) × (last : ℕ) × IsWindow audited.events audited.refused (cut audited) first last × (first ≤ datagram.event)
    × (datagram.event ≤ last)

-- whether the interface is one of the datagram's receivers
abbrev pub is_receiver : Audited → Datagram → IfaceId → Bool
is_receiver audited datagram iface =
    let past = past_at audited.scenario audited.events audited.refused datagram.event in
    list_any (λ receiver. receiver.0 == iface.0) (receivers past datagram.site datagram.source datagram.group)

-- ---- offences of `out` lines

-- an `out` line of that number in the text
pub record OutLine (audited : Audited) (line : ℕ) : Type 0 where
  pub place : ℕ
  pub event : ℕ
  pub number : ℕ
  pub iface : IfaceId
  pub octets : List ℕ
  pub at : slice_get audited.lines place ≡ Some (record { line = line; event = event; value = lines.Out number iface octets })

-- an `out` line, and the datagram that it names
pub record OutOf (audited : Audited) (line : ℕ) : Type 0 where
  pub out : OutLine audited line
  pub datagram : Datagram
  pub names : named_before audited out.event out.number ≡ Some datagram

-- `number`: it names no accepted datagram whose event comes before that of the next marker.
abbrev pub HasNoDatagram : Audited → ℕ → Type 0
HasNoDatagram audited line = (out : OutLine audited line) × (named_before audited out.event out.number ≡ None)

-- `bytes`: its octets are not the datagram's.
abbrev pub HasOtherOctets : Audited → ℕ → Type 0
HasOtherOctets audited line = (of : OutOf audited line) × (of.out.octets ≢ of.datagram.octets)

-- `admit`: the datagram's site has no interface, or the interface's VRF does not admit the VRF of one of them.
abbrev pub IsNotAdmitted : Audited → ℕ → Type 0
IsNotAdmitted audited line = (of : OutOf audited line) × (site_admitted audited.scenario of.out.iface of.datagram.site ≡ false)

-- an earlier line which says that the datagram of that number left at the interface
pub record EarlierOut (audited : Audited) (place number : ℕ) (iface : IfaceId) : Type 0 where
  pub earlier : ℕ
  pub before : earlier < place
  pub given : Given
  pub at : slice_get audited.lines earlier ≡ Some given
  pub says : is_out_at number iface given.value ≡ true

-- `again`: the datagram is of a window, and an earlier line has its number and interface.
abbrev pub IsAgain : Audited → ℕ → Type 0
IsAgain audited line =
    (of : OutOf audited line) × InWindow audited of.datagram × EarlierOut audited of.out.place of.out.number of.out.iface

-- `asked`: the datagram is of a window, and the interface is none of its receivers.
abbrev pub IsNotAsked : Audited → ℕ → Type 0
IsNotAsked audited line =
    (of : OutOf audited line) × InWindow audited of.datagram × (is_receiver audited of.datagram of.out.iface ≡ false)

-- ---- offences of datagrams

-- `missing`, at the line of a datagram's event: the datagram is of a window, and one of its receivers has no `out` line.
pub record IsMissing (audited : Audited) (line : ℕ) : Type 0 where
  pub place : ℕ
  pub datagram : Datagram
  pub accepted : slice_get (datagrams audited.refused 0 audited.events) place ≡ Some datagram
  pub timed : Timed
  pub sent : slice_get audited.events datagram.event ≡ Some timed
  pub of_line : timed.line ≡ line
  pub in_window : InWindow audited datagram
  pub iface : IfaceId
  pub asked : is_receiver audited datagram iface ≡ true
  pub none : outs_at (cut audited) (place + 1) iface ≡ 0

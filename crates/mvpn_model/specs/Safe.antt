-- No customer sees another's datagram.
use Rattle.std.specs.Prelude.{◌≡◌, ℕ, ◌+◌, ◌-◌, ◌<◌, true, List, take, slice_get, Some}
use Rattle.std.specs.List.{AllByRecursion, list_any}
use Rattle.mv_base.specs.declared.ids.IfaceId.{IfaceId}
use Rattle.mv_base.specs.declared.ids.SiteId.{SiteId}
use Rattle.scenario_defs.specs.declared.scenario.Iface.{Iface}
use Rattle.scenario_defs.specs.declared.scenario.Scenario.{Scenario}
use Rattle.scenario_defs.specs.declared.event.Timed.{Timed}
use Rattle.scenario_defs.specs.declared.report.ReportLine.{ReportLine}
use Rattle.scenario_defs.specs.declared.report.ReportLine.TheVariants as lines
use Rattle.scenario_defs.specs.Vpn.{admits, is_of_site}
use Rattle.mvpn_model.specs.Report.{Entry, Datagram, datagrams}

-- The interface is one of the scenario, the site has an interface, and the interface's VRF admits the VRF of each
-- interface of the site.
pub record IsAdmitted (scenario : Scenario) (iface : IfaceId) (site : SiteId) : Type 0 where
  pub own : Iface
  pub known : slice_get scenario.ifaces iface.0 ≡ Some own
  pub attached : list_any (is_of_site site) scenario.ifaces ≡ true
  pub admitted : (i : ℕ) (other : Iface) → slice_get scenario.ifaces i ≡ Some other → is_of_site site other ≡ true →
      admits scenario own.vrf other.vrf ≡ true

-- The datagram of that number was accepted among the events, has these octets, and may leave at the interface.
pub record IsSafeOut
    (scenario : Scenario) (events : List Timed) (refused : List ℕ) (number : ℕ) (iface : IfaceId) (octets : List ℕ) : Type 0 where
  pub datagram : Datagram
  pub counted : 0 < number
  pub accepted : slice_get (datagrams refused 0 events) (number - 1) ≡ Some datagram
  pub carried : octets ≡ datagram.octets
  pub admitted : IsAdmitted scenario iface datagram.site

-- An `out` line is safe by the events up to its own.
abbrev pub IsSafeLine : Scenario → List Timed → List ℕ → ReportLine → Type 0
IsSafeLine scenario events refused (lines.Out number iface bytes) = IsSafeOut scenario events refused number iface bytes
IsSafeLine scenario events refused other = Unit {0}

abbrev pub IsSafeEntry : Scenario → List Timed → List ℕ → Entry → Type 0
IsSafeEntry scenario events refused entry = AllByRecursion (IsSafeLine scenario (take (entry.event + 1) events) refused) entry.lines

-- Each `out` line names a datagram that an earlier event sent, carries its octets, and names an interface whose VRF
-- admits the sender's. The events of the refused lines sent none.
abbrev pub Safe : Scenario → List Timed → List ℕ → List Entry → Type 0
Safe scenario events refused report = AllByRecursion (IsSafeEntry scenario events refused) report

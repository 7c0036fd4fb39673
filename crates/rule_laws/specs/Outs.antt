-- `out` lines: each names a datagram of the network, with its octets, and an interface whose VRF admits the sender's.
use Rattle.std.specs.Prelude.{◌≡◌, ℕ, List, Some}
use Rattle.mv_base.specs.declared.ids.IfaceId.{IfaceId}
use Rattle.mvpn_model.specs.Safe.{IsAdmitted}
use Rattle.scenario_defs.specs.declared.report.ReportLine.{ReportLine}
use Rattle.scenario_defs.specs.declared.report.ReportLine.TheVariants as lines
use Rattle.scenario_defs.specs.declared.scenario.Scenario.{Scenario}
use Rattle.network_defs.specs.World.{Datagram, numbered}

pub record IsAdmittedOut (scenario : Scenario) (datagrams : List Datagram) (number : ℕ) (iface : IfaceId) (octets : List ℕ) : Type 0 where
  pub datagram : Datagram
  pub sent : numbered datagrams number ≡ Some datagram
  pub carried : octets ≡ datagram.octets
  pub admitted : IsAdmitted scenario iface datagram.site

abbrev pub IsAdmittedLine : Scenario → List Datagram → ReportLine → Type 0
IsAdmittedLine scenario datagrams (lines.Out number iface octets) = IsAdmittedOut scenario datagrams number iface octets
IsAdmittedLine scenario datagrams other = Unit {0}

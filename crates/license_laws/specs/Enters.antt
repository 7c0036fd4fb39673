-- Datagrams that enter go on branches of tunnels of the VRF, for flows that another edge has joined there.
use Rattle.std.specs.Prelude.{◌≡◌, List, ◌∷◌, ◌++◌, Option, Some}
use Rattle.std.specs.List.{AllByRecursion}
use Rattle.scenario_defs.specs.declared.report.ReportLine.{ReportLine}
use Rattle.scenario_defs.specs.declared.scenario.Scenario.{Scenario}
use Rattle.network_defs.specs.Acts.{Act, Enter}
use Rattle.network_defs.specs.Local.{EntersBy}
use Rattle.network_defs.specs.Run.{Traced}
use Rattle.network_defs.specs.World.{Datagram}

-- each hop of a datagram that enters is licensed
abbrev pub EnterMay : Scenario → List Datagram → List Traced → Option Act → List ReportLine → Type 0
EnterMay scenario datagrams before (Some (Enter id)) all = AllByRecursion (EntersBy scenario before datagrams id) all
EnterMay scenario datagrams before other all = Unit {0}

abbrev pub EntersMay : Scenario → List Datagram → List Traced → Type 0
EntersMay scenario datagrams trace =
    (before after : List Traced) (step : Traced) → trace ≡ before ++ step ∷ after
    → EnterMay scenario datagrams before step.happened.act step.happened.lines

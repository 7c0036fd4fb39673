-- Copies that land and go on do so for one tree.
use Rattle.std.specs.Prelude.{◌≡◌, false, true, List, ◌∷◌, ◌++◌, Option, Some}
use Rattle.std.specs.List.{list_any}
use Rattle.scenario_defs.specs.declared.report.ReportLine.{ReportLine}
use Rattle.scenario_defs.specs.declared.report.ReportLine.TheVariants as lines
use Rattle.scenario_defs.specs.declared.scenario.Scenario.{Scenario}
use Rattle.network_defs.specs.Acts.{Act, Enter, Land}
use Rattle.network_defs.specs.Local.{goes_on, MayLand}
use Rattle.network_defs.specs.Run.{Traced}

-- What a copy that lands needs for its lines, by what happened before it. No other act lets a copy or a datagram go on, except that a
-- datagram enters.
abbrev pub LandMay : Scenario → List Traced → Option Act → List ReportLine → Type 0
LandMay scenario before (Some (Land from n place)) (lines.Land own_from own_n label number ∷ all) =
    (own_from ≡ from) × (own_n ≡ n) × (list_any goes_on all ≡ true → MayLand scenario before from n label all)
LandMay scenario before (Some (Enter id)) all = Unit {0}
LandMay scenario before other all = list_any goes_on all ≡ false

abbrev pub LandsMay : Scenario → List Traced → Type 0
LandsMay scenario trace =
    (before after : List Traced) (step : Traced) → trace ≡ before ++ step ∷ after
    → LandMay scenario before step.happened.act step.happened.lines

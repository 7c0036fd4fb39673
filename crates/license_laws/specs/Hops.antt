-- Copies go on branches alone that the neighbour has mapped.
use Rattle.std.specs.Prelude.{◌≡◌, List, ◌∷◌, ◌++◌}
use Rattle.std.specs.List.{AllByRecursion}
use Rattle.mldp.specs.declared.mldp_fec.fec.Fec.{Fec}
use Rattle.scenario_defs.specs.declared.report.ReportLine.{ReportLine}
use Rattle.scenario_defs.specs.declared.report.ReportLine.TheVariants as lines
use Rattle.network_defs.specs.Local.{MayHop}
use Rattle.network_defs.specs.Run.{Traced}

-- A `hop` line puts its copy on a branch of some tree: its node's end towards the neighbour is up, and the neighbour has mapped the label
-- to the tree, and not withdrawn it, in what the node took from there since the last raise.
abbrev pub HopMay : List Traced → ReportLine → Type 0
HopMay before (lines.Hop u n label ttl number) = (fec : Fec) × MayHop before u n label fec
HopMay before other = Unit {0}

abbrev pub HopsMay : List Traced → Type 0
HopsMay trace =
    (before after : List Traced) (step : Traced) → trace ≡ before ++ step ∷ after
    → AllByRecursion (HopMay before) step.happened.lines

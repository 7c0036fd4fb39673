-- Sound runs after which `state` tells of zeros alone.
use Rattle.std.specs.Prelude.{◌≡◌, List}
use Rattle.scenario_defs.specs.Rules.{Rises}
use Rattle.scenario_defs.specs.declared.event.Script.{Script}
use Rattle.scenario_defs.specs.declared.event.Timed.{Timed}
use Rattle.scenario_defs.specs.declared.report.ReportLine.TheVariants as lines
use Rattle.network_defs.specs.Costs.{Cores}
use Rattle.network_defs.specs.Counts.{state_line}
use Rattle.network_defs.specs.Run.{Traced}
use Rattle.network_defs.specs.World.{World}
use Rattle.network_laws.specs.SoundRun.{SoundRun}

-- A sound run, the lines of whose events rise, and after which `state` tells of zeros alone.
pub record CalmRun (cores : Cores) (script : Script) (events : List Timed) (trace : List Traced) (world : World) : Type 0 where
  pub sound : SoundRun cores script events trace world
  pub rises : Rises 0 events
  pub zeros : state_line world ≡ lines.State 0 0 0 0 0

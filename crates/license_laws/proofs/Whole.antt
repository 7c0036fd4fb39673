-- In each run each hop is licensed by what its node and the neighbour have put and taken.
use Rattle.std.proofs.Common.{◌≡◌, List, [], ◌∷◌, Option, Some, None, sym, subst}
use Rattle.std.specs.List.{AllByRecursion}
use Rattle.scenario_defs.specs.declared.event.Timed.{Timed}
use Rattle.scenario_defs.specs.declared.report.ReportLine.{ReportLine}
use Rattle.scenario_defs.specs.declared.report.ReportLine.TheVariants as lines
use Rattle.scenario_defs.specs.declared.scenario.Scenario.{Scenario}
use Rattle.network_defs.specs.Costs.{Cores}
use Rattle.network_defs.specs.Acts.{Act, Tick, Timers, Move, Lose, Notice, RaiseFirst, RaiseSecond, Restart, At, Enter, Land, Drop, Tell, SetCost, Reroute}
use Rattle.network_defs.specs.Local.{IsLicensed, Local}
use Rattle.network_defs.specs.Run.{Traced, Runs}
use Rattle.network_defs.specs.World.{World, Datagram, start, scenario_of}
use Rattle.network_laws.specs.Honest.{IsSoundEvent}
use Rattle.network_laws.specs.Sound.{SoundScenario}
use Rattle.rule_laws.proofs.Start.{run_in_step}
use Rattle.license_laws.specs.Enters.{EnterMay}
use Rattle.license_laws.specs.Lands.{LandMay}
use Rattle.license_laws.proofs.Licensed.{run_kept}

licensed : (scenario : Scenario) (datagrams : List Datagram) (before : List Traced) (one : Option Act) (all : List ReportLine)
    → LandMay scenario before one all → EnterMay scenario datagrams before one all → IsLicensed scenario datagrams before one all
licensed scenario datagrams before None all l e = l
licensed scenario datagrams before (Some (Enter id)) all l e = e
licensed scenario datagrams before (Some (Land a b place)) ((lines.Land own_from own_n label number) ∷ all) l e = l
licensed scenario datagrams before (Some (Land a b place)) ((lines.Hop u n label ttl number) ∷ all) l e = l
licensed scenario datagrams before (Some (Land a b place)) ((lines.Out number iface bytes) ∷ all) l e = l
licensed scenario datagrams before (Some (Land a b place)) ((lines.Put own u n bytes) ∷ all) l e = l
licensed scenario datagrams before (Some (Land a b place)) ((lines.Take own u n bytes) ∷ all) l e = l
licensed scenario datagrams before (Some (Land a b place)) ((lines.Refused line reason) ∷ all) l e = l
licensed scenario datagrams before (Some (Land a b place)) ((lines.Halt line node) ∷ all) l e = l
licensed scenario datagrams before (Some (Land a b place)) ((lines.State p q r s t) ∷ all) l e = l
licensed scenario datagrams before (Some (Land a b place)) [] l e = l
licensed scenario datagrams before (Some (Tick ticks)) all l e = l
licensed scenario datagrams before (Some (Timers n)) all l e = l
licensed scenario datagrams before (Some (Move own u n count)) all l e = l
licensed scenario datagrams before (Some (Lose own a b)) all l e = l
licensed scenario datagrams before (Some (Notice own a b)) all l e = l
licensed scenario datagrams before (Some (RaiseFirst own a b)) all l e = l
licensed scenario datagrams before (Some (RaiseSecond own a b)) all l e = l
licensed scenario datagrams before (Some (Restart n)) all l e = l
licensed scenario datagrams before (Some (At n call)) all l e = l
licensed scenario datagrams before (Some (Drop a b place)) all l e = l
licensed scenario datagrams before (Some Tell) all l e = l
licensed scenario datagrams before (Some (SetCost a b cost)) all l e = l
licensed scenario datagrams before (Some (Reroute n)) all l e = l

pub run_is_local : (scenario : Scenario) (cores : Cores) (all : List Timed) (trace : List Traced) (new : World) → SoundScenario scenario
    → AllByRecursion (λ timed. IsSoundEvent scenario timed.event) all → Runs (start scenario cores) 0 all trace new → Local new trace
run_is_local scenario cores all trace new lines sound run =
    let k = run_kept scenario cores all trace new lines sound run in
    let same : scenario_of new ≡ scenario = (run_in_step scenario cores all trace new lines sound run).2.base.sound.same in
    record {
      takes = k.0.0.0.0.0.0.takes;
      licensed =
          λ before after step e. subst (λ (own : Scenario). IsLicensed own new.datagrams before step.happened.act step.happened.lines) (sym same)
          (licensed scenario new.datagrams before step.happened.act step.happened.lines (k.1 before after step e) (k.0.1 before after step e));
    }

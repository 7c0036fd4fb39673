-- Each hop of a run that halts is licensed by what its node and the neighbour have put and taken, up to the act that lacks a label.
use Rattle.std.proofs.Common.{◌≡◌, ◌⊎◌, inl, inr, ℕ, false, length, List, [], ◌∷◌, ◌++◌, Option, Some, None, subst}
use Rattle.std.specs.List.{AllByRecursion, list_any}
use Rattle.mv_base.specs.declared.ids.NodeId.{NodeId}
use Rattle.scenario_defs.specs.declared.event.Script.{Script}
use Rattle.scenario_defs.specs.declared.report.ReportLine.{ReportLine}
use Rattle.scenario_defs.specs.declared.scenario.Scenario.{Scenario}
use Rattle.mvpn_model.specs.Report.{Entry}
use Rattle.network_defs.specs.Costs.{Cores}
use Rattle.network_defs.specs.Acts.{Act, Tick, Timers, Move, Lose, Notice, RaiseFirst, RaiseSecond, Restart, At, Enter, Land, Drop, Tell, SetCost, Reroute}
use Rattle.network_defs.specs.Local.{goes_on, IsLicensed, TakesWhatWasPut, Local}
use Rattle.network_defs.specs.Run.{Traced, traced}
use Rattle.network_defs.specs.World.{Datagram, scenario_of}
use Rattle.network_laws.specs.SoundRun.{SoundRun}
use Rattle.network_laws.proofs.Lists.{each_map}
use Rattle.rule_laws.specs.SoundHalt.{SoundHalt}
use Rattle.rule_laws.proofs.Halting.{each_after, run_before, event_sound, acts_quiet}
use Rattle.rule_laws.proofs.Plain.{IsOfPlain, IsQuiet}
use Rattle.rule_laws.proofs.Start.{start_in_step, run_in_step}
use Rattle.license_laws.proofs.Follows.{Leaves, halt_leaves}
use Rattle.license_laws.proofs.Hops.{none_goes, plain_lines}
use Rattle.license_laws.proofs.Taking.{Taking, taking_kept, first_taking, run_takes}
use Rattle.license_laws.proofs.Whole.{run_is_local}

-- ---- what is taken

-- where an act lacks a label, what was taken so far is still a first part of what was put
takes_left : (scenario : Scenario) → Leaves scenario Taking TakesWhatWasPut
takes_left scenario = record {
  whole = λ trace world k. k.takes;
  half = λ before number world session first declared s e k.
      (first_taking scenario before number world session first declared s.2.base.sound.same e k).takes;
}

-- ---- acts that let nothing go on

quiet_licensed : (scenario : Scenario) (datagrams : List Datagram) (before : List Traced) (one : Option Act) (all : List ReportLine) → IsOfPlain one
    → list_any goes_on all ≡ false → IsLicensed scenario datagrams before one all
quiet_licensed scenario datagrams before None all p s = absurd p
quiet_licensed scenario datagrams before (Some (Enter id)) all p s = absurd p
quiet_licensed scenario datagrams before (Some (Land a b place)) all p s = absurd p
quiet_licensed scenario datagrams before (Some (Tick ticks)) all p s = s
quiet_licensed scenario datagrams before (Some (Timers n)) all p s = s
quiet_licensed scenario datagrams before (Some (Move own u n count)) all p s = s
quiet_licensed scenario datagrams before (Some (Lose own a b)) all p s = s
quiet_licensed scenario datagrams before (Some (Notice own a b)) all p s = s
quiet_licensed scenario datagrams before (Some (RaiseFirst own a b)) all p s = s
quiet_licensed scenario datagrams before (Some (RaiseSecond own a b)) all p s = s
quiet_licensed scenario datagrams before (Some (Restart n)) all p s = s
quiet_licensed scenario datagrams before (Some (At n call)) all p s = s
quiet_licensed scenario datagrams before (Some (Drop a b place)) all p s = s
quiet_licensed scenario datagrams before (Some Tell) all p s = s
quiet_licensed scenario datagrams before (Some (SetCost a b cost)) all p s = s
quiet_licensed scenario datagrams before (Some (Reroute n)) all p s = s

-- a step of two traces is one of the first, or is as each of the second
of_either : (Q : Traced → Type 0) (first more front after : List Traced) (step : Traced) → first ++ more ≡ front ++ step ∷ after
    → AllByRecursion Q more → ((rest : List Traced) × (first ≡ front ++ step ∷ rest)) ⊎ Q step
of_either Q [] more front after step e all = inr (each_after Q front (step ∷ after) (subst (AllByRecursion Q) e all)).0
of_either Q (own ∷ first) more [] after step e all = (let same : own ≡ step = cc in inl (first, λ i. same i ∷ first))
of_either Q (own ∷ first) more (other ∷ front) after step e all =
    let head : own ≡ other = cc in
    let tail : first ++ more ≡ front ++ step ∷ after = cc in
    elim (of_either Q first more front after step tail all) [
      | inl (rest, same) ↦ inl (rest, λ i. head i ∷ same i)
      | inr quiet ↦ inr quiet
    ]

-- ---- runs that halt

pub halt_is_local : (cores : Cores) (script : Script) (report : List Entry) (node : NodeId) (s : SoundHalt cores script report node)
    → Local s.halt.world (s.halt.trace ++ traced (length s.halt.before) s.halt.acts)
halt_is_local cores script report node s = record {
  takes =
      halt_leaves script.scenario Taking TakesWhatWasPut (taking_kept script.scenario) (takes_left script.scenario) (length s.halt.before)
      s.halt.trace s.halt.world
      (run_in_step script.scenario cores s.halt.before s.halt.trace s.halt.world s.scenario run.sound_events s.halt.run) s.halt.timed
      (event_sound cores script report node s)
      (run_takes script.scenario cores s.halt.before s.halt.trace s.halt.world s.scenario run.sound_events s.halt.run
      (start_in_step script.scenario cores s.scenario)) s.halt.acts node s.halt.lacks;
  licensed = λ front after step e. elim (of_either IsStill s.halt.trace (traced number s.halt.acts) front after step e still) [
    | inl (rest, same) ↦ before.licensed front rest step same
    | inr quiet ↦ quiet_licensed (scenario_of s.halt.world) s.halt.world.datagrams front step.happened.act step.happened.lines quiet.plain
        (none_goes step.happened.lines (plain_lines step.happened.lines quiet.lines))
  ];
}
  where
    run : SoundRun cores script s.halt.before s.halt.trace s.halt.world
    run = run_before cores script report node s

    number : ℕ
    number = length s.halt.before

    IsStill : Traced → Type 0
    IsStill step = IsQuiet step.happened

    still : AllByRecursion IsStill (traced number s.halt.acts)
    still = each_map IsStill (λ happened. record { event = number; happened = happened }) s.halt.acts (acts_quiet cores script report node s)

    before : Local s.halt.world s.halt.trace
    before = run_is_local script.scenario cores s.halt.before s.halt.trace s.halt.world s.scenario run.sound_events s.halt.run

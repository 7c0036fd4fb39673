-- Of a run that halts: what is before the event that lacks a label is a run, that event is sound, and no copy lands and no datagram enters
-- by its acts.
use Rattle.std.proofs.Common.{List, [], ◌∷◌, ◌++◌, subst}
use Rattle.std.specs.List.{AllByRecursion}
use Rattle.mv_base.specs.declared.ids.NodeId.{NodeId}
use Rattle.scenario_defs.specs.declared.event.Script.{Script}
use Rattle.scenario_defs.specs.declared.event.Timed.{Timed}
use Rattle.mvpn_model.specs.Report.{Entry}
use Rattle.network_defs.specs.Costs.{Cores}
use Rattle.network_laws.specs.Honest.{IsSoundEvent}
use Rattle.network_laws.specs.SoundRun.{SoundRun}
use Rattle.network_laws.proofs.Lists.{each_front}
use Rattle.rule_laws.specs.SoundHalt.{SoundHalt}
use Rattle.rule_laws.proofs.Plain.{IsQuiet, halts_quiet}

pub each_after : {X : Type 0} (P : X → Type 0) (xs ys : List X) → AllByRecursion P (xs ++ ys) → AllByRecursion P ys
each_after P [] ys h = h
each_after P (x ∷ xs) ys h = each_after P xs ys h.1

module _ (cores : Cores) (script : Script) (report : List Entry) (node : NodeId) (s : SoundHalt cores script report node) where
  abbrev IsSound : Timed → Type 0
  IsSound timed = IsSoundEvent script.scenario timed.event

  all_sound : AllByRecursion IsSound (s.halt.before ++ s.halt.timed ∷ s.halt.after)
  all_sound = subst (AllByRecursion IsSound) s.halt.events s.sound_events

  pub run_before : SoundRun cores script s.halt.before s.halt.trace s.halt.world
  run_before = record {
    scenario = s.scenario;
    of_scenario = s.halt.of_scenario;
    sound_events = each_front IsSound s.halt.before (s.halt.timed ∷ s.halt.after) all_sound;
    run = s.halt.run;
  }

  pub event_sound : IsSoundEvent script.scenario s.halt.timed.event
  event_sound = (each_after IsSound s.halt.before (s.halt.timed ∷ s.halt.after) all_sound).0

  pub acts_quiet : AllByRecursion IsQuiet s.halt.acts
  acts_quiet = halts_quiet s.halt.world s.halt.timed s.halt.acts node s.halt.lacks

-- All that is kept of traces holds of each run.
use Rattle.std.proofs.Common.{List, []}
use Rattle.std.specs.List.{AllByRecursion}
use Rattle.scenario_defs.specs.declared.event.Timed.{Timed}
use Rattle.scenario_defs.specs.declared.scenario.Scenario.{Scenario}
use Rattle.network_defs.specs.Costs.{Cores}
use Rattle.network_defs.specs.Run.{Traced, Runs}
use Rattle.network_defs.specs.World.{World, start}
use Rattle.network_laws.specs.Honest.{IsSoundEvent}
use Rattle.network_laws.specs.Sound.{SoundScenario}
use Rattle.rule_laws.proofs.Start.{start_in_step}
use Rattle.license_laws.proofs.Also.{keeps_also, also_under, each_none}
use Rattle.license_laws.proofs.Branched.{Branched, branched_kept, all_heard_start}
use Rattle.license_laws.proofs.Branches.{Mapped, mapped_follower}
use Rattle.license_laws.proofs.Entered.{Entering, EnterStep, entering_kept}
use Rattle.license_laws.proofs.Ending.{Ending, ending_kept, ending_start}
use Rattle.license_laws.proofs.Said.{Said, said_kept}
use Rattle.license_laws.proofs.Landed.{Landing, LandStep, landing_kept}
use Rattle.license_laws.proofs.Tabled.{Tabling, tabling_kept}
use Rattle.license_laws.proofs.Tables.{Tabled, tabled_follower}
use Rattle.license_laws.proofs.Follows.{Keeps, runs_follow}
use Rattle.license_laws.proofs.Hops.{Hopping, hopping_kept, HopStep}
use Rattle.license_laws.proofs.Taking.{Taking, taking_kept, taking_start}
use Rattle.scenario_defs.specs.declared.event.Kind.TheVariants as kinds

-- what the acts are licensed by
abbrev pub Heeds : List Traced → World → Type 0
Heeds trace world = (Taking trace world × Branched trace world) × Tabling trace world

heeds_kept : (scenario : Scenario) → Keeps scenario Heeds
heeds_kept scenario =
    keeps_also scenario (λ trace world. Taking trace world × Branched trace world) Tabling
    (keeps_also scenario Taking Branched (taking_kept scenario) (branched_kept scenario))
    (also_under scenario (λ trace world. Taking trace world × Branched trace world) Taking Tabling (λ trace world k. k.0) (tabling_kept scenario))

abbrev pub Ends : Scenario → List Traced → World → Type 0
Ends scenario trace world = Heeds trace world × (Ending trace world × Said scenario trace world)

both_kept : (scenario : Scenario) (K L : List Traced → World → Type 0) → Keeps scenario K → Keeps scenario L
    → Keeps scenario (λ trace world. K trace world × L trace world)
both_kept scenario K L k l = record {
  single = λ before number world one acted s sound fit e t h.
      (k.single before number world one acted s sound fit e t h.0, l.single before number world one acted s sound fit e t h.1);
  pair = λ before number world session first second declared s off back e g t h. (
    k.pair before number world session first second declared s off back e g t h.0,
    l.pair before number world session first second declared s off back e g t h.1,
  );
  accepted = λ before world datagram s h. (k.accepted before world datagram s h.0, l.accepted before world datagram s h.1);
  refused = λ before number world line reason h. (k.refused before number world line reason h.0, l.refused before number world line reason h.1);
}

ends_kept : (scenario : Scenario) → Keeps scenario (Ends scenario)
ends_kept scenario =
    both_kept scenario Heeds (λ trace world. Ending trace world × Said scenario trace world) (heeds_kept scenario)
    (both_kept scenario Ending (Said scenario) (ending_kept scenario) (said_kept scenario))

abbrev pub Entered : Scenario → List Traced → World → Type 0
Entered scenario trace world = (Ends scenario trace world × Hopping trace world) × Entering scenario trace world

abbrev pub Kept : Scenario → List Traced → World → Type 0
Kept scenario trace world = Entered scenario trace world × Landing scenario trace world

entered_kept : (scenario : Scenario) → Keeps scenario (Entered scenario)
entered_kept scenario =
    keeps_also scenario (λ trace world. Ends scenario trace world × Hopping trace world) (Entering scenario)
    (keeps_also scenario (Ends scenario) Hopping (ends_kept scenario)
    (also_under scenario (Ends scenario) (λ trace world. Taking trace world × Branched trace world) Hopping (λ trace world k. k.0.0)
    (hopping_kept scenario)))
    (also_under scenario (λ trace world. Ends scenario trace world × Hopping trace world) Heeds (Entering scenario) (λ trace world k. k.0.0)
    (entering_kept scenario))

all_kept : (scenario : Scenario) → Keeps scenario (Kept scenario)
all_kept scenario =
    keeps_also scenario (Entered scenario) (Landing scenario) (entered_kept scenario)
    (also_under scenario (Entered scenario) (λ trace world. Heeds trace world × (Ending trace world × Said scenario trace world)) (Landing scenario)
    (λ trace world k. (k.0.0.0, k.0.0.1)) (landing_kept scenario))

pub run_kept : (scenario : Scenario) (cores : Cores) (all : List Timed) (trace : List Traced) (new : World) → SoundScenario scenario
    → AllByRecursion (λ timed. IsSoundEvent scenario timed.event) all → Runs (start scenario cores) 0 all trace new → Kept scenario trace new
run_kept scenario cores all trace new lines sound run =
    runs_follow scenario (Kept scenario) (all_kept scenario) all sound [] (start scenario cores) 0 trace new (start_in_step scenario cores lines) (
      (
        (
          (
            (
              (taking_start scenario cores, all_heard_start kinds.Ldp Mapped mapped_follower scenario cores),
              all_heard_start kinds.Bgp Tabled tabled_follower scenario cores,
            ),
            (ending_start scenario cores, λ from to up. absurd cc),
          ),
          each_none HopStep,
        ),
        each_none (EnterStep scenario []),
      ),
      each_none (LandStep scenario),
    ) run

use Rattle.std.proofs.Common.{◌∙◌, ap}
use Rattle.scenario_defs.specs.declared.scenario.Scenario.{Scenario}
use Rattle.edge_routes.specs.edge_home.Home.{place_of}
use Rattle.edge_control.proofs.TimerLemmas.{is_of}
use Rattle.edge_control.proofs.clock.run_taken.Goals as goal

pub returns-clause-run : goal.returns-clause-run
returns-clause-run c = λ core.
    c.run_delays.ensures (place_of c.args.home.now core)
    (is_of c.args.home.now c.vrfs.result.now c.deref.result.now c.as_slice.result.now c.scenario-scenario.result.now.delay c.args.taken.now
    c.vrfs.ensures.vrfs
    (c.deref.ensures.value ∙ c.in_ok-locals.ensures) (c.as_slice.ensures ∙ ap (λ (s : Scenario). s.nodes) c.scenario-scenario.ensures.scenario)
    (ap (λ (s : Scenario). s.delay) c.scenario-scenario.ensures.scenario) c.requires.peers core)

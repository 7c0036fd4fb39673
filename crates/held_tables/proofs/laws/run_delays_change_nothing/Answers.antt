use Rattle.std.proofs.Common.{◌∙◌, sym}
use Rattle.held_tables.proofs.RunLemmas.{held_run}
use Rattle.held_tables.proofs.laws.run_delays_change_nothing.Goals as goal

pub returns-clause-selections : goal.returns-clause-selections
returns-clause-selections c = λ place control delay now tables hold peer table at. hold peer table at ∙ sym (held_run place control delay now peer)

pub returns-clause-timers : goal.returns-clause-timers
returns-clause-timers c =
    λ place control now tables hold peer table at. hold peer table at ∙ sym (held_run place control place.scenario.delay now peer)

use Rattle.run_laws.proofs.Halting.{in_two, halt_begins}
use Rattle.run_laws.proofs.laws.first_events_of_a_run_run.Goals as goal

pub returns-clause-run : goal.returns-clause-run
returns-clause-run c = in_two

pub returns-clause-halt : goal.returns-clause-halt
returns-clause-halt c = halt_begins

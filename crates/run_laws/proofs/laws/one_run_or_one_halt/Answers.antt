use Rattle.run_laws.proofs.Halting.{either, never_both, one_of_all, one_halt}
use Rattle.run_laws.proofs.laws.one_run_or_one_halt.Goals as goal

pub returns-clause-either : goal.returns-clause-either
returns-clause-either c = either

pub returns-clause-never_both : goal.returns-clause-never_both
returns-clause-never_both c = never_both

pub returns-clause-one_run : goal.returns-clause-one_run
returns-clause-one_run c = one_of_all

pub returns-clause-one_halt : goal.returns-clause-one_halt
returns-clause-one_halt c = one_halt

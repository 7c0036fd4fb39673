use Rattle.std.specs.Prelude.{not}
use Rattle.selective.specs.Roots.{is_of}
use Rattle.control_laws.proofs.CustomersCounts.{single_less, single_run, single_selected}
use Rattle.control_laws.proofs.customers.selections_stay_single.Goals as goal

pub returns-clause-selected : goal.returns-clause-selected
returns-clause-selected c = single_selected

pub returns-clause-unselected : goal.returns-clause-unselected
returns-clause-unselected c = λ pattern selections single. single_less (λ selection. not (is_of pattern selection)) selections single

pub returns-clause-run : goal.returns-clause-run
returns-clause-run c = single_run

use Rattle.control_laws.proofs.CustomersTimers.{timers_make}
use Rattle.control_laws.proofs.customers.timers_are_run.Goals as goal

pub returns : goal.returns
returns c = λ kept now core trees. timers_make kept now trees

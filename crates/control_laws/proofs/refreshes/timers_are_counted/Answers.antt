use Rattle.control_laws.proofs.Delays.{due_counted}
use Rattle.control_laws.proofs.refreshes.timers_are_counted.Goals as goal

pub returns : goal.returns
returns c = λ kept core now part trees writable single raised. due_counted kept trees writable single now core part raised

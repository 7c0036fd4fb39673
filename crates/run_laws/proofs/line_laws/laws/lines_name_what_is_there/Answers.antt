use Rattle.run_laws.proofs.line_laws.Events.{done_names, halted_names}
use Rattle.run_laws.proofs.line_laws.laws.lines_name_what_is_there.Goals as goal

pub returns-clause-done : goal.returns-clause-done
returns-clause-done c = done_names

pub returns-clause-halted : goal.returns-clause-halted
returns-clause-halted c = halted_names

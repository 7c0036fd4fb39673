use Rattle.audit_defs.proofs.Begins.{begin_a_list}
use Rattle.audit_defs.proofs.Fitting.{first_begin}
use Rattle.audit_laws.proofs.laws.markers_begin_a_list_that_fits.Goals as goal

pub returns-clause-there : goal.returns-clause-there
returns-clause-there c = begin_a_list

pub returns-clause-back : goal.returns-clause-back
returns-clause-back c = first_begin

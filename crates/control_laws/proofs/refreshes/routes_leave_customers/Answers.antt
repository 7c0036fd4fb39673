use Rattle.control_laws.proofs.Between.{are_between, routes_make}
use Rattle.control_laws.proofs.refreshes.routes_leave_customers.Goals as goal

pub returns-clause-between : goal.returns-clause-between
returns-clause-between c = are_between

pub returns-clause-routes : goal.returns-clause-routes
returns-clause-routes c = routes_make

use Rattle.edge_routing.proofs.control_laws.group_laws.Messages.{spelled_has_groups}
use Rattle.edge_core.proofs.customers.read.Goals as goal

pub returns-in-Ok-clause-groups : goal.returns-in-Ok-clause-groups
returns-in-Ok-clause-groups c = spelled_has_groups c.args.bytes.now c.in-Ok.message c.in-Ok.ensures.spelled

use Rattle.control_laws.proofs.group_laws.Messages.{named_flow}
use Rattle.control_laws.proofs.group_laws.laws.named_flows_are_flows.Goals as goal

pub returns : goal.returns
returns c = named_flow

use Rattle.customer_laws.proofs.Receivers.{same_interfaces}
use Rattle.customer_laws.proofs.laws.same_interfaces.Goals as goal

pub returns : goal.returns
returns c = same_interfaces

use Rattle.customer_laws.proofs.Receivers.{same_receivers}
use Rattle.customer_laws.proofs.laws.same_receivers.Goals as goal

pub returns : goal.returns
returns c = same_receivers

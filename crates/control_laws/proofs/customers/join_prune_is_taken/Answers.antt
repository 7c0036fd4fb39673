use Rattle.control_laws.proofs.CustomersStep.{pim_makes}
use Rattle.control_laws.proofs.customers.join_prune_is_taken.Goals as goal

pub returns : goal.returns
returns c = λ kept number it iface message now core trees at own. pim_makes kept trees number it at iface own message now core

use Rattle.control_laws.proofs.CustomersStep.{unnoted_makes}
use Rattle.control_laws.proofs.customers.note_is_ended.Goals as goal

pub returns : goal.returns
returns c = λ kept number it iface source group now core trees at own. unnoted_makes kept trees number it at iface own source group core now

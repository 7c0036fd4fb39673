use Rattle.control_laws.proofs.CustomersSelect.{unselected_makes}
use Rattle.control_laws.proofs.customers.pattern_is_unselected.Goals as goal

pub returns : goal.returns
returns c = λ kept number it pattern now core trees at. unselected_makes kept trees number it at pattern core now

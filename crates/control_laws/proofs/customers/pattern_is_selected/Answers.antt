use Rattle.control_laws.proofs.CustomersSelect.{selected_makes}
use Rattle.control_laws.proofs.customers.pattern_is_selected.Goals as goal

pub returns : goal.returns
returns c = λ kept number it pattern now core trees at new. selected_makes kept trees number it at pattern now new core

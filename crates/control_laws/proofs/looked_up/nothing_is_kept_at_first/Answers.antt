use Rattle.control_laws.proofs.Starting.{first_makes}
use Rattle.control_laws.proofs.looked_up.nothing_is_kept_at_first.Goals as goal

pub returns : goal.returns
returns c = λ kept first full all. first_makes kept first (record { full = full; all = all })

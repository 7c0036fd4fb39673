use Rattle.once_laws.proofs.Families.{one_family_kept}
use Rattle.once_laws.proofs.laws.entries_are_of_one_family.Goals as goal

pub returns : goal.returns
returns c = one_family_kept

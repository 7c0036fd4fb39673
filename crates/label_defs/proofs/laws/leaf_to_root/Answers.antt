use Rattle.label_defs.proofs.Row.{row_of_three}
use Rattle.label_defs.proofs.laws.leaf_to_root.Goals as goal

pub returns : goal.returns
returns c = row_of_three

use Rattle.label_defs.proofs.NoLabelLemmas.{no_step_where}
use Rattle.label_defs.proofs.laws.no_label.Goals as goal

pub returns : goal.returns
returns c = no_step_where

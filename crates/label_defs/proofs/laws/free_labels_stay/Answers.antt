use Rattle.label_defs.proofs.TakenLemmas.{free_label_then}
use Rattle.label_defs.proofs.laws.free_labels_stay.Goals as goal

pub returns : goal.returns
returns c = free_label_then

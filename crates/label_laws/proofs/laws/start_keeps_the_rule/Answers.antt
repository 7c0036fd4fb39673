use Rattle.label_laws.proofs.Full.{start_kept}
use Rattle.label_laws.proofs.laws.start_keeps_the_rule.Goals as goal

pub returns : goal.returns
returns c = start_kept

use Rattle.label_laws.proofs.Full.{label_rule}
use Rattle.label_laws.proofs.laws.the_rule_in_full.Goals as goal

pub returns : goal.returns
returns c = label_rule

use Rattle.tunnel_bindings.proofs.LabelLemmas.{set-label, set-others, woken-label}
use Rattle.tunnel_bindings.proofs.laws.each_label.Goals as goal

pub returns-clause-set : goal.returns-clause-set
returns-clause-set c = set-label

pub returns-clause-others : goal.returns-clause-others
returns-clause-others c = set-others

pub returns-clause-woken : goal.returns-clause-woken
returns-clause-woken c = woken-label

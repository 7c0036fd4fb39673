use Rattle.edge_probe.proofs.LawLemmas.{has_target}
use Rattle.edge_probe.proofs.laws.imports_have_targets.Goals as goal

pub returns : goal.returns
returns c = has_target

use Rattle.label_defs.proofs.NoLabelLemmas.{mapping_passed, release_passed}
use Rattle.label_defs.proofs.laws.messages_are_passed_over.Goals as goal

pub returns-clause-mapping : goal.returns-clause-mapping
returns-clause-mapping c = mapping_passed

pub returns-clause-release : goal.returns-clause-release
returns-clause-release c = release_passed

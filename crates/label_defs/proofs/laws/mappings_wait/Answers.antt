use Rattle.label_defs.proofs.MappingLemmas.{mapping_is}
use Rattle.label_defs.proofs.laws.mappings_wait.Goals as goal

pub returns : goal.returns
returns c = mapping_is

use Rattle.label_defs.proofs.RerouteLemmas.{moved_leaves, moved_maps}
use Rattle.label_defs.proofs.laws.reroutes_move.Goals as goal

pub returns-clause-leaves : goal.returns-clause-leaves
returns-clause-leaves c = moved_leaves

pub returns-clause-maps : goal.returns-clause-maps
returns-clause-maps c = moved_maps

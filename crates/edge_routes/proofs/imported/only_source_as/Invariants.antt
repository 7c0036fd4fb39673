use Rattle.std.proofs.Common.{◌≡◌, take}
use Rattle.edge_defs.specs.Imported.{found_in, source_as_in}
use Rattle.edge_routes.proofs.FoundLemmas.{listed}
use Rattle.edge_routes.proofs.imported.only_source_as.Given as goal

abbrev pub invariant-loop-comm : goal.invariant-loop-comm
invariant-loop-comm l = found_in source_as_in (take l.comm-index l.comms) ≡ listed l.only

use Rattle.std.proofs.Common.{◌≡◌, take}
use Rattle.std.specs.Prelude.{option_map}
use Rattle.edge_defs.specs.Imported.{found_in, import_in}
use Rattle.edge_routes.specs.Local.{as_import}
use Rattle.edge_routes.proofs.FoundLemmas.{listed}
use Rattle.edge_routes.proofs.imported.only_import.Given as goal

abbrev pub invariant-loop-comm : goal.invariant-loop-comm
invariant-loop-comm l = found_in import_in (take l.comm-index l.comms) ≡ listed (option_map as_import l.only)

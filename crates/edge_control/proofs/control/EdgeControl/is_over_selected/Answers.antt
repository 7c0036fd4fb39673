use Rattle.std.proofs.Common.{◌∙◌, arith}
use Rattle.std.specs.FinMap as maps
use Rattle.control_laws.specs.Control.{control_of}
use Rattle.edge_control.proofs.CountLemmas.{at_least}
use Rattle.edge_control.proofs.control.EdgeControl.is_over_selected.Goals as goal

pub returns : goal.returns
returns c = c.is_full.ensures ∙ at_least 256 c.selections.result (maps.len (control_of c.args.self.now).selections) c.selections.ensures (omega arith)

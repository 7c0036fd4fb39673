use Rattle.std.proofs.Common.{length}
use Rattle.selective.proofs.root.+transmitted.Given as goal

abbrev pub decreases-transmitted : goal.decreases-transmitted
decreases-transmitted l = length l.selections.now

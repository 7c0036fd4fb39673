use Rattle.selective_defs.proofs.Example.{overlap}
use Rattle.selective_defs.proofs.laws.tunnels_overlap.Goals as goal

pub returns : goal.returns
returns c = overlap

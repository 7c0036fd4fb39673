use Rattle.std.proofs.Common.{◌∙◌, ap}
use Rattle.label_forwarding.proofs.HopLemmas.{set_of, set-none}
use Rattle.label_forwarding.proofs.branches.Branches.new.Goals as goal

pub returns : goal.returns
returns c = ap set_of c.new.ensures.items ∙ set-none

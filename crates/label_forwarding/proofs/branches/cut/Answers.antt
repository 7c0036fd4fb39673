use Rattle.std.proofs.Common.{not, rules}
use Rattle.std.proofs.lemmas.Fn.{filter_same}
use Rattle.label_forwarding.specs.declared.branch.Branch.{Branch}
use Rattle.label_forwarding.specs.Hops.{is_hop}
use Rattle.label_forwarding.proofs.branches.cut.Goals as goal

pub returns : goal.returns
returns c = filter_same _ (λ (item : Branch). not (is_hop item c.args.branch)) _ (λ x b f h. search rules) _ _ c.retain.ensures.filtered

use Rattle.std.proofs.Common.{rules}
use Rattle.std.specs.FinSet as sets
use Rattle.std.proofs.lemmas.Fn.{filter_same}
use Rattle.edge_core.proofs.lists.keep_leaves.Goals as goal

pub returns : goal.returns
returns c = filter_same _ (sets.contains c.args.fib.now.leaves) _ (λ x b f t. search rules) _ _ c.retain.ensures.filtered

use Rattle.std.proofs.Common.{rules}
use Rattle.pim_state.proofs.EndLemmas.{empty_bound}
use Rattle.pim_state.proofs.downstream.Downstream.of.Goals as goal

pub invariant_of-result : goal.invariant_of-result
invariant_of-result c = (search rules, search rules, search rules, empty_bound c.new.result.entries c.new.ensures.empty)

use Rattle.std.proofs.Common.{sym, subst, ◌∙◌}
use Rattle.pim_state.specs.Ends.{IsBound}
use Rattle.pim_state.proofs.EndLemmas.{none_ended}
use Rattle.pim_state.proofs.downstream.Downstream.none_ends.Goals as goal

pub returns : goal.returns
returns c = λ before.
    none_ended c.self.inside.next c.args.self.now c.args.now (subst (IsBound c.self.inside.next) c.self.view_is c.self.invariant.3)
    (sym c.is_after.ensures ∙ before)

use Rattle.std.proofs.Common.{ap, sym, ◌∙◌}
use Rattle.std.specs.FinSet.{FinSet}
use Rattle.vrf_words.specs.tree_defs.Trees.{join_cmp}
use Rattle.vrf_words.proofs.tree_defs.KeyLemmas.{join_exact, join_ties, join_total, same_join}
use Rattle.vrf_flows.proofs.SetLemmas.{any-items}
use Rattle.vrf_trees.specs.Joined.{is_for, is_joined}
use Rattle.vrf_trees.proofs.joins.TakenJoins.is_joined.Goals as goal

pub returns : goal.returns
returns c =
    c.contains.ensures
    ∙ (c.self.invariant c.args.flow.now
    ∙ (sym (any-items join_total join_exact same_join join_ties (is_for c.args.flow.now) c.self.inside.joins.keys)
    ∙ ap (λ (joined : FinSet join_cmp). is_joined joined c.args.flow.now) c.self.view_is))

use Rattle.std.proofs.Common.{ap, sym, ◌∙◌}
use Rattle.std.specs.List.{list_any}
use Rattle.std.specs.FinSet as sets
use Rattle.std.specs.FinSet.{FinSet}
use Rattle.vrf_words.specs.declared.tree_defs.flow.Flow.{Flow}
use Rattle.vrf_words.specs.tree_defs.Keys.{same_flow}
use Rattle.vrf_words.specs.tree_defs.Trees.{join_cmp}
use Rattle.vrf_words.proofs.tree_defs.KeyLemmas.{join_exact, join_ties, join_total, same_join}
use Rattle.vrf_flows.proofs.SetLemmas.{any-fewer, any-removed, less, removed}
use Rattle.vrf_trees.specs.Joined.{is_for}
use Rattle.vrf_trees.proofs.joins.TakenJoins.leave.Goals as goal

pub invariant_of-self : goal.invariant_of-self
invariant_of-self c = λ q.
    let old = c.self.inside.joins.keys in
    let left = c.swap_remove.new.self.keys in
    less c.args.join.flow q (λ (p : Flow). list_any (is_for p) c.swap_remove.new.self.keys) (list_any (same_flow q) c.self.inside.flows.keys) _
    c.is_joined-joined.result
    (c.is_joined-joined.ensures ∙ ap (list_any (is_for c.args.join.flow)) c.as_slice.ensures.keys) (c.drop_flow.ensures q)
    (λ f. any-removed join_total join_exact same_join join_ties (is_for q) old left c.args.join (λ p. c.swap_remove.ensures.updates.0 p) f
    ∙ sym (c.self.invariant q))
    (λ h. c.self.invariant q ∙ any-fewer join_total join_exact same_join join_ties (is_for q) old left c.args.join
    (λ p. c.swap_remove.ensures.updates.0 p) h)

pub returns : goal.returns
returns c =
    removed join_total join_exact same_join join_ties c.self.inside.joins.keys c.swap_remove.new.self.keys c.args.join
    (λ p. c.swap_remove.ensures.updates.0 p)
    ∙ ap (λ (joined : FinSet join_cmp). sets.remove joined c.args.join) c.self.view_is

use Rattle.std.proofs.Common.{◌≡◌, ◌||◌, Bool, true, false, cond, List, refl, ap, sym, ◌∙◌}
use Rattle.std.specs.List.{list_any}
use Rattle.std.specs.FinSet as sets
use Rattle.std.specs.FinSet.{FinSet}
use Rattle.vrf_words.specs.declared.tree_defs.flow.Flow.{Flow}
use Rattle.vrf_words.specs.tree_defs.Keys.{same_flow}
use Rattle.vrf_words.specs.tree_defs.Trees.{join_cmp}
use Rattle.vrf_words.proofs.tree_defs.KeyLemmas.{join_exact, join_ties, join_total, same_join}
use Rattle.vrf_flows.proofs.SetLemmas.{any-inserted, inserted}
use Rattle.vrf_trees.specs.Joined.{is_for}
use Rattle.vrf_trees.proofs.joins.TakenJoins.take.Goals as goal

either : (b c : Bool) → cond b true c ≡ (b || c)
either true c = refl
either false c = refl

pub invariant_of-self-2 : goal.invariant_of-self-2
invariant_of-self-2 c = λ q.
    c.add_flow.ensures q
    ∙ (ap (λ (list : List Flow). cond (same_flow c.args.join.flow q) true (list_any (same_flow q) list)) c.reserve.ensures.keys
    ∙ (ap (λ (b : Bool). cond (same_flow c.args.join.flow q) true b) (c.self.invariant q)
    ∙ (either (same_flow c.args.join.flow q) (list_any (is_for q) c.self.inside.joins.keys)
    ∙ sym (any-inserted join_total join_exact same_join join_ties (is_for q) c.self.inside.joins.keys c.insert.new.self.keys c.args.join
    (λ p. c.in_ok-insert.ensures.updates.0 p)))))

pub returns-clause-taken : goal.returns-clause-taken
returns-clause-taken c =
    inserted join_total join_exact same_join join_ties c.self.inside.joins.keys c.insert.new.self.keys c.args.join
    (λ p. c.in_ok-insert.ensures.updates.0 p)
    ∙ ap (λ (joined : FinSet join_cmp). sets.insert joined c.args.join) c.self.view_is

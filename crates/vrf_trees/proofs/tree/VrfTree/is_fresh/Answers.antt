use Rattle.std.proofs.Common.{subst}
use Rattle.vrf_words.specs.tree_defs.Trees.{TreeData}
use Rattle.vrf_trees.specs.Trees.{IsFresh}
use Rattle.vrf_trees.proofs.RefreshLemmas.{wants-are}
use Rattle.vrf_trees.proofs.tree.VrfTree.is_fresh.Goals as goal

pub returns-then-is_fresh : goal.returns-then-is_fresh
returns-then-is_fresh c = λ known.
    subst (λ (t : TreeData). IsFresh c.args.now t) c.self.view_is (record {
      flows = λ cost flow. c.is_fresh.ensures c.if-is_fresh.true cost flow;
      wants = wants-are c.self.inside.leaf c.self.inside.flows.flows c.self.inside.wants.entries c.self.invariant.unique
          (λ q. c.self.invariant.holds.fresh q (c.all_fresh.ensures known q));
    })

use Rattle.std.proofs.Common.{sym, subst}
use Rattle.std.specs.FinMap as maps
use Rattle.indexmap.specs.IndexMap.{get}
use Rattle.selective.specs.Leaves.{Leaf, key_of, learned_now}
use Rattle.vrf_words.specs.tree_defs.Keys.{same_flow}
use Rattle.vrf_trees.specs.declared.wants.Cause.TheVariants as causes
use Rattle.vrf_trees.specs.Wants.{Holds, touches, ups_in}
use Rattle.vrf_trees.proofs.MarkLemmas.{marked-holds}
use Rattle.vrf_trees.proofs.RouteLemmas.{tunnels-learned}
use Rattle.vrf_trees.proofs.routes.learn.Goals as goal

pub returns-clause-sound : goal.returns-clause-sound
returns-clause-sound c = λ flows sound. record {
  unique = c.mark.ensures.unique;
  holds = subst (λ (leaf : Leaf). Holds leaf (ups_in flows) (get same_flow c.mark.new.self)) (sym c.in_ok-learn.ensures.learned)
      (marked-holds c.args.leaf.now (record c.args.leaf.now
      { routes = maps.insert c.args.leaf.now.routes (key_of c.args.peer c.args.rd c.args.pattern) (learned_now c.args.fec c.args.now) })
      (ups_in flows) (get same_flow c.args.wants.now) (get same_flow c.mark.new.self) (touches (causes.Routes c.args.peer c.args.pattern)) sound.holds
      c.mark.ensures.each
      (tunnels-learned c.args.leaf.now c.args.peer c.args.rd c.args.pattern (learned_now c.args.fec c.args.now)));
}

use Rattle.std.proofs.Common.{sym, subst, ap}
use Rattle.std.specs.FinMap as maps
use Rattle.std.specs.List.{list_any}
use Rattle.indexmap.specs.IndexMap.{get}
use Rattle.selective.specs.Leaves.{Leaf, Routes, routes_run}
use Rattle.vrf_words.specs.tree_defs.Keys.{same_flow}
use Rattle.vrf_trees.specs.Wants.{Holds, ups_in, waits_for}
use Rattle.vrf_trees.proofs.MarkLemmas.{marked-holds}
use Rattle.vrf_trees.proofs.RouteLemmas.{none-run, tunnels-run}
use Rattle.vrf_trees.proofs.routes.run_routes.Goals as goal

pub returns-clause-sound : goal.returns-clause-sound
returns-clause-sound c = λ flows sound. record {
  unique = c.mark_waiting.ensures.unique;
  holds = subst (λ (leaf : Leaf). Holds leaf (ups_in flows) (get same_flow c.mark_waiting.new.wants)) (sym c.timers.ensures)
      (marked-holds c.args.leaf.now (record c.args.leaf.now { routes = routes_run c.args.leaf.now.delay c.args.now c.args.leaf.now.routes })
      (ups_in flows) (get same_flow c.args.wants.now) (get same_flow c.mark_waiting.new.wants)
      (λ flow edge. list_any (waits_for c.args.leaf.now.delay c.args.now flow edge) (maps.entries c.args.leaf.now.routes)) sound.holds
      c.mark_waiting.ensures.each
      (tunnels-run c.args.leaf.now c.args.now));
}

pub returns-then-not-is_any_due-clause-run : goal.returns-then-not-is_any_due-clause-run
returns-then-not-is_any_due-clause-run c =
    ap (λ (r : Routes). record c.args.leaf.now { routes = r })
    (none-run c.args.leaf.now.delay c.args.now c.args.leaf.now.routes (c.is_any_due.ensures c.if-not-is_any_due.true))

use Rattle.std.proofs.Common.{ap, ◌∙◌}
use Rattle.scenario_defs.specs.Home.{local_routes}
use Rattle.scenario_defs.specs.declared.scenario.Vrf.{Vrf}
use Rattle.vrf_words.specs.tree_defs.Trees.{TreeData}
use Rattle.vrf_words.specs.tree_laws.TreeOf.{site_ifaces}
use Rattle.vrf_trees.specs.Trees.{no_tree}
use Rattle.edge_control.specs.Start.{with_ifaces, with_routes}
use Rattle.edge_control.proofs.starting.first_tree.Goals as goal

pub returns : goal.returns
returns c =
    c.in_ok-attach_own.ensures
    ∙ ap (λ (tree : TreeData). with_routes (local_routes c.args.scenario.now c.args.own.now.id) tree)
    (c.in_ok-add_own_ifaces.ensures
    ∙ ap (λ (tree : TreeData). with_ifaces (site_ifaces c.args.own.now.id 0 c.args.scenario.now.ifaces) tree)
    (c.bare_tree-tree.ensures ∙ ap (λ (vrf : Vrf). no_tree vrf.number vrf.rule c.args.scenario.now.delay) c.vrf.ensures.vrf))

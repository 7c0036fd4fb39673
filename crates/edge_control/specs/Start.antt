-- The tree of a VRF before anything has happened, made step by step.
use Rattle.std.specs.Prelude.{List, [], ◌∷◌, ◌++◌, fold}
use Rattle.std.specs.FinMap as maps
use Rattle.scenario_defs.specs.Home.{local_routes}
use Rattle.scenario_defs.specs.declared.scenario.Route.{Route}
use Rattle.scenario_defs.specs.declared.scenario.Scenario.{Scenario}
use Rattle.umh_select.specs.Routes.{key_here}
use Rattle.vrf_words.specs.declared.tree_defs.flow.SiteIface.{SiteIface}
use Rattle.vrf_words.specs.tree_defs.Trees.{TreeData}
use Rattle.edge_defs.specs.Place.{OwnVrf}
use Rattle.vrf_words.specs.tree_laws.TreeOf.{site_ifaces}
use Rattle.vrf_trees.specs.Trees.{no_tree}

-- the tree with one more interface, and with a prefix that is attached with its site
abbrev pub with_iface : TreeData → SiteIface → TreeData
with_iface tree own =
    record tree { vrf = record tree.vrf { ifaces = tree.vrf.ifaces ++ record { iface = own.iface; site = own.site } ∷ [] } }

abbrev pub with_route : TreeData → Route → TreeData
with_route tree route =
    let attached = maps.insert tree.vrf.routes.attached (key_here route.prefix) route.site in
    record tree { vrf = record tree.vrf { routes = record tree.vrf.routes { attached = attached } } }

-- with all of them, in order
abbrev pub with_ifaces : List SiteIface → TreeData → TreeData
with_ifaces ifaces tree = fold with_iface tree ifaces

abbrev pub with_routes : List Route → TreeData → TreeData
with_routes routes tree = fold with_route tree routes

abbrev pub first_tree : Scenario → OwnVrf → TreeData
first_tree scenario own =
    with_routes (local_routes scenario own.id)
    (with_ifaces (site_ifaces own.id 0 scenario.ifaces) (no_tree own.vrf.number own.vrf.rule scenario.delay))

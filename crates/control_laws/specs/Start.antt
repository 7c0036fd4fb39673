-- What an edge keeps before anything has happened.
use Rattle.std.specs.Prelude.{◌≡◌, ◌↔◌, Some}
use Rattle.std.specs.List.{AllByRecursion}
use Rattle.std.specs.FinMap as maps
use Rattle.std.specs.FinMap.{FinMap}
use Rattle.mv_base.specs.declared.ids.SiteId.{SiteId}
use Rattle.mv_base.specs.core_walks.Core.{Core}
use Rattle.umh_select.specs.Order.{key_cmp}
use Rattle.umh_select.specs.declared.key.RouteKey.{RouteKey}
use Rattle.edge_routes.specs.edge_home.Home.{Home, place_of}
use Rattle.vrf_words.specs.tree_laws.TreeOf.{IsAttachedAt, start_tree}
use Rattle.control_laws.specs.Control.{Kept, OwnTree, trees_of}

-- The tree of a VRF has its interfaces and the prefixes of the sites that are attached at it, and nothing else.
pub record IsFirst (home : Home) (it : OwnTree) : Type 0 where
  pub attached : FinMap key_cmp SiteId
  pub sites : (key : RouteKey) (site : SiteId) → (maps.get attached key ≡ Some site)
      ↔ IsAttachedAt home.scenario it.own key.prefix key.place site
  pub is : (core : Core) → it.tree ≡ start_tree (place_of home core) it.own attached

-- no session is up, and each tree is such
pub record AreFirst (kept : Kept) : Type 0 where
  pub trees : AllByRecursion (IsFirst kept.home) (trees_of kept)
  pub peers : kept.peers ≡ maps.empty

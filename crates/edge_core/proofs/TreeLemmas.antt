-- The tree of a VRF keeps what the edge's data have of the VRF.
use Rattle.std.proofs.Common.{ap, subst, List, [], ◌∷◌, map, inl, inr}
use Rattle.mv_base.specs.Lists.{Among}
use Rattle.mv_base.specs.declared.ids.VrfId.{VrfId}
use Rattle.edge_defs.specs.Place.{OwnVrf}
use Rattle.edge_routes.specs.edge_home.Home.{place_of}
use Rattle.edge_routing.specs.control_laws.Control.{AreTrees, OwnTree, control_of, trees_of}
use Rattle.edge_routing.proofs.control_laws.Owned.{of_each}
use Rattle.edge_routing.specs.edge_control.Places.{IsTreeAt}
use Rattle.edge_routing.specs.vrf_words.tree_defs.Trees.{TreeData}
use Rattle.edge_routing.specs.vrf_words.tree_laws.TreeOf.{IsTreeOf}
use Rattle.edge_core.specs.State.{IsTreeIn, home_of}
use Rattle.edge_core.specs.View.{EdgeView}

abbrev own_of : OwnTree → OwnVrf
own_of it = it.own

among_own : (it : OwnTree) (its : List OwnTree) → Among it its → Among it.own (map own_of its)
among_own it [] among = absurd among
among_own it (x ∷ its) (inl same) = inl (ap own_of same)
among_own it (x ∷ its) (inr among) = inr (among_own it its among)

pub tree_in : (edge : EdgeView) (vrf : VrfId) (tree : TreeData) → AreTrees edge.routing.control → IsTreeAt edge.routing.control vrf tree
    → IsTreeIn edge vrf tree
tree_in edge vrf tree trees at = record {
  own = at.it.own;
  of_edge = subst (λ (vrfs : List OwnVrf). Among at.it.own vrfs) trees.all (among_own at.it (trees_of edge.routing.control) at.among);
  id = at.id;
  is = λ core. subst (λ (t : TreeData). IsTreeOf (place_of (home_of edge) core) (control_of edge.routing.control) at.it.own t) at.is
      (of_each (λ (it : OwnTree). IsTreeOf (place_of (home_of edge) core) (control_of edge.routing.control) it.own it.tree)
      (trees_of edge.routing.control) (trees.each core) at.it at.among);
}

-- What an edge learned is of nodes of its core, and the costs that it knows are least.
use Rattle.std.proofs.Common.{◌≡◌, ◌<◌, ℕ, length, slice_get, is_some, Option, Some, ap, subst, sym}
use Rattle.std.specs.FinMap as maps
use Rattle.std.proofs.lemmas.Option.{slice_get_within}
use Rattle.mv_base.specs.Lists.{Among}
use Rattle.mv_base.specs.declared.ids.NodeId.{NodeId}
use Rattle.mv_base.specs.declared.ids.VrfId.{VrfId}
use Rattle.mv_base.specs.core_walks.Core.{Core, IsCoreOf}
use Rattle.mv_base.specs.core_walks.Topology.{Topology}
use Rattle.bgp_messages.specs.declared.bgp_attributes.key.Key.{Key}
use Rattle.label_defs.proofs.KeyLemmas.{node_cmp_total}
use Rattle.vrf_words.specs.umh_select.Routes.{AreCosts, AreOfCore}
use Rattle.vrf_words.specs.tree_defs.Trees.{TreeData}
use Rattle.edge_defs.specs.Edge.{Taken, TakenRoute}
use Rattle.edge_defs.specs.Imported.{taken_from}
use Rattle.edge_defs.specs.Place.{OwnVrf}
use Rattle.edge_routes.specs.edge_home.Home.{Home, IsHome}
use Rattle.edge_words.proofs.calm_laws.Lists.{among_map}
use Rattle.edge_words.proofs.calm_laws.Maps.{entry_get}
use Rattle.edge_words.proofs.Members.{table_of}
use Rattle.control_laws.specs.Control.{Kept, OwnTree, control_of, trees_of}
use Rattle.control_laws.proofs.Owned.{of_each, there}
use Rattle.control_laws.proofs.Replaced.{it_among}
use Rattle.edge_control.specs.Places.{IsTreeAt, vrfs_of}
use Rattle.edge_control.specs.Sound.{IsSound}
use Rattle.edge_control.proofs.PlaceLemmas.{all_at}
use Rattle.edge_control.proofs.RefreshMade.{are_of_core, least_costs}
use Rattle.edge_control.proofs.SoundLemmas.{sound_full}

module _ (kept : Kept) (sound : IsSound kept) where
  -- a peer from which a route was taken is a node
  pub taken_node : (peer : NodeId) (key : Key) (route : TakenRoute) → maps.get (taken_from (control_of kept) peer) key ≡ Some route
      → peer.0 < length kept.home.scenario.nodes
  taken_node peer key route h =
      let table = table_of (control_of kept) peer key route h in
      sound.peers peer (ap (λ (o : Option Taken). is_some o) (entry_get node_cmp_total kept.peers peer table.table table.of_peer))

  -- the VRF and the tree at a place are together
  pub it_there : (number : ℕ) (own : OwnVrf) (tree : TreeData) → slice_get (vrfs_of kept.home) number ≡ Some own
      → slice_get kept.trees number ≡ Some tree
      → Among (record { own = own; tree = tree }) (trees_of kept)
  it_there number own tree h k = it_among kept number (record { own = own; tree = tree }) (there (vrfs_of kept.home) kept.trees number own tree h k)

  module _ (nodes : ℕ) (count : nodes ≡ length kept.home.scenario.nodes) where
    -- the tree of a VRF, and the one at a place
    pub tree_core : (vrf : VrfId) (tree : TreeData) → IsTreeAt kept vrf tree → AreOfCore nodes tree.vrf.routes.learned
    tree_core vrf tree at =
        let among = subst (Among at.it.tree) (sound_full kept sound).full (among_map (λ (it : OwnTree). it.tree) at.it (trees_of kept) at.among) in
        subst (λ (t : TreeData). AreOfCore nodes t.vrf.routes.learned) at.is
        (of_each (λ (t : TreeData). AreOfCore nodes t.vrf.routes.learned) kept.trees (are_of_core kept sound nodes count) at.it.tree among)

    pub place_core : (number : ℕ) (tree : TreeData) → slice_get kept.trees number ≡ Some tree → AreOfCore nodes tree.vrf.routes.learned
    place_core number tree at =
        all_at (λ (t : TreeData). AreOfCore nodes t.vrf.routes.learned) kept.trees number tree (are_of_core kept sound nodes count) at

-- the costs by which the edge knows its core are least
pub home_costs : (home : Home) (core : Topology) (walks : Core) (me : NodeId) → IsHome home.scenario home.me → core.nodes ≡ length home.scenario.nodes
    → IsCoreOf core.nodes core.links walks
    → me ≡ home.me → AreCosts core me (walks.cost me)
home_costs home core walks me is count of_core same =
    let within = slice_get_within home.scenario.nodes home.me.0 is.edge.node is.edge.at in
    least_costs core walks of_core me (subst (λ (n : NodeId). n.0 < core.nodes) (sym same) (subst (λ (n : ℕ). home.me.0 < n) (sym count) within))

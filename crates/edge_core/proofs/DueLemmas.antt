-- How many timers of an edge are due: those of its label part, and those of the trees of its VRFs.
use Rattle.std.specs.Prelude.{sum_by}
use Rattle.std.proofs.Common.{◌≡◌, ◌∙◌, ℕ, ◌+◌, min, sym, ap, arith}
use Rattle.std.specs.FinMap.{FinMap}
use Rattle.network_defs.specs.session_defs.Octets.{Stream}
use Rattle.network_defs.specs.session_defs.PeerSession.{peer_cmp}
use Rattle.mv_base.specs.core_walks.Core.{Core}
use Rattle.label_defs.specs.Keys.{node_cmp}
use Rattle.label_defs.specs.LabelData as labels
use Rattle.label_defs.specs.LabelData.{LabelData, Place}
use Rattle.label_defs.specs.Node.{NodePlace, place_in}
use Rattle.edge_defs.specs.Due.{due}
use Rattle.edge_routes.specs.edge_home.Home.{place_of}
use Rattle.edge_routing.specs.control_laws.Between.{tree_due}
use Rattle.edge_routing.specs.control_laws.Control.{control_of}
use Rattle.edge_routing.proofs.control_laws.Delays.{due_counted}
use Rattle.mldp_node.specs.NodeData.{NodeData}
use Rattle.node_laws.proofs.PlaceLemmas.{one_place}
use Rattle.edge_routing.specs.edge_control.Sound.{IsSound}
use Rattle.edge_routing.specs.declared.routing.EdgeRouting.{EdgeRouting}
use Rattle.edge_core.specs.State.{IsLive}

-- the greatest number of 64 bits
abbrev pub most : ℕ
most = 18446744073709551615

min_once : (a b : ℕ) → min (a + min b most) most ≡ min (a + b) most
min_once a b = omega arith

module _ (routing : EdgeRouting) (own : NodeData) (streams : FinMap peer_cmp Stream) (live : IsLive routing own streams)
    (sound : IsSound routing.control) (walks : Core) (now : ℕ) (raised : FinMap node_cmp ℕ) where
  abbrev part : LabelData
  part = own.node.part

  -- the label part stands where the edge does
  due_are : due (place_of routing.control.home walks) now (record { control = control_of routing.control; part = part; raised = raised })
      ≡ labels.due (place_in own.place walks) now part + sum_by (tree_due now) routing.control.trees
  due_are =
      due_counted routing.control live.step.trees sound.spelled sound.single now walks part raised
      ∙ ap (λ (place : Place). labels.due place now part + sum_by (tree_due now) routing.control.trees)
      (one_place routing.control.home.scenario walks routing.control.home.me ∙ ap (λ (place : NodePlace). place_in place walks) (sym live.place))

  pub all_due : (of_labels of_trees count : ℕ) → of_labels ≡ labels.due (place_in own.place walks) now part
      → of_trees ≡ min (sum_by (tree_due now) routing.control.trees) most
      → count ≡ min (of_labels + of_trees) most → count
      ≡ min (due (place_of routing.control.home walks) now (record { control = control_of routing.control; part = part; raised = raised })) most
  all_due of_labels of_trees count a b is =
      is ∙ (λ i. min (a i + b i) most)
      ∙ min_once (labels.due (place_in own.place walks) now part) (sum_by (tree_due now) routing.control.trees)
      ∙ ap (λ (n : ℕ). min n most) (sym due_are)

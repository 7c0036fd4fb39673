-- Costs that change, and nodes that take them over, keep the label rule of the network at the level of messages.
use Rattle.std.proofs.Common.{◌≡◌, ◌==◌, Bool, true, false, cond, ◌++◌, List, option_map, Option, Some, refl, sym, ap, subst}
use Rattle.mv_base.specs.declared.core_link.Link.{Link}
use Rattle.mv_base.specs.declared.ids.NodeId.{NodeId}
use Rattle.mldp.specs.declared.mldp_fec.fec.Fec.{Fec}
use Rattle.scenario_defs.specs.declared.scenario.Scenario.{Scenario}
use Rattle.label_defs.specs.Settling as settling
use Rattle.label_defs.specs.Steps as labels
use Rattle.label_defs.specs.Steps.{label_step}
use Rattle.label_defs.proofs.KeyLemmas.{node_equal, node_itself}
use Rattle.label_laws.specs.Network.{LabelNetwork, thereafter}
use Rattle.label_laws.specs.Network as label_nodes
use Rattle.label_laws.specs.Acts.{Reroute, with_upstream}
use Rattle.label_laws.specs.Rule.{Kept}
use Rattle.network_defs.specs.session_defs.System.{Stepped, MessageNetwork, with_messages}
use Rattle.edge_defs.specs.Place.{upstream}
use Rattle.mv_base.specs.core_walks.Core.{Core}
use Rattle.edge_defs.specs.Steps as steps
use Rattle.edge_words.specs.edge_laws.Acts as edge_acts
use Rattle.edge_words.specs.edge_laws.Network.{EdgeNetwork}
use Rattle.network_defs.specs.Nodes.{Nodes, following, core_at, part_of}
use Rattle.network_defs.specs.System.{node_called, unchanged}
use Rattle.network_defs.specs.World.{Datagram}
use Rattle.network_laws.specs.Sound.{Sound}
use Rattle.network_laws.proofs.NodeCalls.{rerouted_is_good}
use Rattle.network_laws.proofs.Nodes.{followed}
use Rattle.rule_laws.specs.Edges.{edge_network}
use Rattle.rule_laws.specs.Labels.{Copies, label_network}
use Rattle.rule_laws.proofs.Calls.{Base, Good, call_good, joined_up}
use Rattle.rule_laws.proofs.EdgeCalls.{EdgesNext, rule_after}
use Rattle.rule_laws.proofs.Honest.{EdgeRule, act_both, cored_both}
use Rattle.rule_laws.proofs.Rows.{act_gives, FirstKept, UpWhereJoined}
use Rattle.rule_laws.proofs.Sessions.{silent_step}

-- ---- a link gets another cost

pub price_good : (scenario : Scenario) (network : MessageNetwork Nodes) (copies : Copies) (datagrams : List Datagram) (links : List Link)
    → Good scenario network copies datagrams → Sound scenario (record network.state { links = links })
    → Good scenario (with_messages network (unchanged (record network.state { links = links }))) copies datagrams
price_good scenario network copies datagrams links good sound =
    subst (λ (v : MessageNetwork Nodes). Good scenario v copies datagrams) (silent_step network (record network.state { links = links })) (record {
      base = record { sound = sound; apart = good.base.apart; numbers = good.base.numbers; peers = good.base.peers; kinds = good.base.kinds };
      kept = good.kept;
      edges = good.edges;
    })

-- ---- a node takes over the present costs

module _ (scenario : Scenario) (network : MessageNetwork Nodes) (copies : Copies) (datagrams : List Datagram) (n : NodeId)
    (good : Good scenario network copies datagrams) where
  abbrev turned : MessageNetwork Nodes
  turned = record network { state = following network.state n }

  abbrev new_core : Core
  new_core = network.state.cores network.state.links

  itself : (n.0 == n.0) ≡ true
  itself = node_itself n n refl

  base_turned : Base scenario turned
  base_turned = record {
    sound = followed scenario network.state n good.base.sound;
    apart = good.base.apart;
    numbers = good.base.numbers;
    peers = good.base.peers;
    kinds = good.base.kinds;
  }

  -- the next hops of the node are by the present costs
  abbrev next : Fec → Option NodeId
  next = upstream network.state.scenario new_core n

  aim : (m : NodeId) (b : Bool) → (m.0 == n.0) ≡ b
      → cond b next (upstream network.state.scenario (core_at network.state m) m)
      ≡ upstream network.state.scenario (network.state.cores (cond b network.state.links (network.state.known m))) m
  aim m true t = ap (upstream network.state.scenario new_core) (sym (node_equal m n t))
  aim m false t = refl

  aimed : (all : List Datagram) → with_upstream (label_network network copies all) n next ≡ label_network turned copies all
  aimed all = λ i. record (label_network network copies all) { upstream = λ m. aim m (m.0 == n.0) refl i }

  first_kept : (later : List Datagram) → FirstKept turned copies (datagrams ++ later) n (Some labels.Rerouted)
  first_kept later =
      let w : LabelNetwork = label_network network copies (datagrams ++ later) in
      let v : LabelNetwork = with_upstream w n next in
      let P : LabelNetwork → Type 0 =
      λ x. (first : settling.Stepped) → label_step (label_nodes.place_of x n) x.clock (x.node n) labels.Rerouted ≡ Some first
      → Kept (thereafter x n first) in
      subst P (aimed (datagrams ++ later)) (λ first e. act_gives w (Reroute n next) (thereafter v n first) (ap (option_map (thereafter v n)) e)
      (good.kept later))

  -- the edge knows the core by the present costs
  cored : (b : Bool) (links others : List Link)
      → cond b (network.state.cores links) (network.state.cores others) ≡ network.state.cores (cond b links others)
  cored true links others = refl
  cored false links others = refl

  same_edges : edge_acts.with_core n new_core (edge_network network good.edges.0) ≡ edge_network turned good.edges.0
  same_edges = λ i. record (edge_network network good.edges.0) { core = λ m. cored (m.0 == n.0) network.state.links (network.state.known m) i }

  edges_next : EdgesNext turned n steps.Rerouted
  edges_next =
      let w : EdgeNetwork = edge_network network good.edges.0 in
      let rule : EdgeRule (edge_network turned good.edges.0) = subst EdgeRule same_edges (cored_both w n new_core good.edges.2) in
      let step : EdgeRule (edge_acts.stepped (edge_network turned good.edges.0) n steps.Rerouted) =
      subst (λ (x : EdgeNetwork). EdgeRule (edge_acts.stepped x n steps.Rerouted)) same_edges
      (act_both w (edge_acts.Reroute n new_core) tt good.edges.2) in
      (good.edges.0, good.edges.1, rule_after turned good.edges.0 n steps.Rerouted rule step)

  up_there : UpWhereJoined turned n (part_of (turned.state.node n)) steps.Rerouted
  up_there to joined = joined_up scenario network copies datagrams good n to joined

  pub follow_good : (new : Stepped Nodes) → node_called turned.state n (turned.state.node n) steps.Rerouted ≡ Some new → Sound scenario new.state
      → Good scenario (with_messages network new) copies datagrams
  follow_good new e sound =
      call_good scenario turned copies datagrams base_turned n steps.Rerouted new e rerouted_is_good tt sound up_there first_kept edges_next

-- The control plane in the midst of an act of a node.
use Rattle.std.proofs.Common.{◌≡◌, ◌∙◌, refl, sym, ap, subst, ℕ, ◌<◌, Bool, false, cond, List, [], ◌++◌, length, slice_set, Option, Some, None}
use Rattle.std.proofs.lemmas.Option.{none-some}
use Rattle.mv_base.specs.declared.ids.NodeId.{NodeId}
use Rattle.mv_base.specs.core_walks.Core.{Core, IsCoreOf}
use Rattle.mv_base.specs.core_walks.Topology.{Topology}
use Rattle.label_defs.specs.Node.{LacksLabel}
use Rattle.scenario_defs.specs.declared.event.Kind.{Kind}
use Rattle.scenario_defs.specs.declared.event.Kind.TheVariants as kinds
use Rattle.scenario_defs.specs.declared.scenario.Scenario.{Scenario}
use Rattle.network_defs.specs.session_defs.Octets.{OctetNetwork}
use Rattle.network_defs.specs.session_defs.System.{Behind, Put, octets_over}
use Rattle.network_defs.specs.declared.session_defs.direction.Direction.{Direction}
use Rattle.net_sessions.specs.session_transit.TransitData.{TransitData, is_joined_at, octets_at}
use Rattle.edge_defs.specs.Steps.{Call}
use Rattle.control_laws.proofs.Parts.{no_core}
use Rattle.network_defs.specs.Costs.{AreRepriced, Cores}
use Rattle.network_defs.specs.Counts.{direction}
use Rattle.network_defs.specs.Nodes.{Nodes, core_at}
use Rattle.network_nodes.specs.wire_laws.AnyNodes as any
use Rattle.network_nodes.specs.wire_laws.AnyNodes.{AnyNode, IsElsewhere, IsNodeAt, IsNodeBefore, spent_of}
use Rattle.network_nodes.specs.wire_laws.Edges.{IsWay, begins}
use Rattle.network_nodes.specs.Answers.{Stands}
use Rattle.mldp_node.specs.NodeData.{IsWaitingTowardRoots}
use Rattle.network_nodes.specs.NodeView.{IsNode, IsPlacedAt, labels_in, spent_in}
use Rattle.network_nodes.specs.declared.node.NetworkNode.{NetworkNode}
use Rattle.network_nodes.specs.declared.node.NetworkNode.TheVariants as nodes
use Rattle.network_acts.specs.control_plane.Plane.{HasNode, IsAround, IsMidway, IsPlane, IsSteady, Moment}
use Rattle.network_acts.specs.control_plane.PlaneView.{PlaneView}
use Rattle.network_acts.proofs.control_plane.ListLemmas.{get_set, get_set_other, set_length}

-- ---- a spent node

-- a node of the definitions that lacks a label is none that goes on
pub lacks_spent : (n : NodeId) (network : OctetNetwork Nodes) (puts : List Put) (state : AnyNode) → IsNodeAt n network puts state
    → spent_of state ≡ Some LacksLabel → ⊥
lacks_spent n network puts (any.Edge state) at e = none-some LacksLabel (sym at.unspent ∙ e)
lacks_spent n network puts (any.CoreNode state) at e = none-some LacksLabel (sym at.unspent ∙ e)

unspent_edge : (state : AnyNode) (node : NetworkNode) → IsNode state node → spent_in node ≡ None → spent_of state ≡ None
unspent_edge (any.Edge state) (nodes.Edge edge) is none = (is.parts no_core).unspent
unspent_edge (any.CoreNode state) (nodes.CoreNode core) is none = ap (λ s. s.node.spent) (sym is) ∙ none
unspent_edge (any.Edge state) (nodes.CoreNode core) is none = absurd is
unspent_edge (any.CoreNode state) (nodes.Edge edge) is none = absurd is

pub goes_spent : (state : AnyNode) (node : NetworkNode) → IsNode state node → spent_in node ≡ None → spent_of state ≡ Some LacksLabel → ⊥
goes_spent state node is none e = none-some LacksLabel (sym (unspent_edge state node is none) ∙ e)

-- ---- another node

at_elsewhere : (n m : NodeId) (base : OctetNetwork Nodes) (moving : Direction → List ℕ) (new : Behind (OctetNetwork Nodes)) (state : AnyNode)
    → IsElsewhere n base moving new → (m ≡ n → ⊥)
    → IsNodeAt m base [] state → IsNodeAt m new.network [] state
at_elsewhere n m base moving new (any.Edge state) elsewhere apart at = record {
  node = elsewhere.nodes m apart ∙ at.node;
  unspent = at.unspent;
  waiting = λ kind peer way. at.waiting kind peer (subst (λ (s : Scenario). IsWay s (direction kind m peer)) elsewhere.scenario way);
  streams = λ kind peer. at.streams kind peer ∙ sym (elsewhere.streams (direction kind peer m) apart);
}
at_elsewhere n m base moving new (any.CoreNode state) elsewhere apart at = record {
  node = elsewhere.nodes m apart ∙ at.node;
  unspent = at.unspent;
  waiting = λ peer way. at.waiting peer (subst (λ (s : Scenario). IsWay s (direction kinds.Ldp m peer)) elsewhere.scenario way);
  silent = at.silent;
  streams = λ peer. at.streams peer ∙ sym (elsewhere.streams (direction kinds.Ldp peer m) apart);
}

-- and it knows the same core
core_elsewhere : (n m : NodeId) (base : OctetNetwork Nodes) (moving : Direction → List ℕ) (new : Behind (OctetNetwork Nodes))
    → IsElsewhere n base moving new → core_at base.state m ≡ core_at new.network.state m
core_elsewhere n m base moving new elsewhere = λ i. sym elsewhere.cores i (sym (elsewhere.known m) i)

-- a node besides the one at work is the same after the act
pub has_elsewhere : (n m : NodeId) (base : OctetNetwork Nodes) (moving : Direction → List ℕ) (new : Behind (OctetNetwork Nodes))
    (nodes : List NetworkNode) (node : NetworkNode)
    → IsElsewhere n base moving new → (m ≡ n → ⊥) → HasNode base nodes m [] → HasNode new.network (slice_set nodes n.0 node) m []
has_elsewhere n m base moving new nodes node elsewhere apart own = record {
  node = own.node;
  at = get_set_other nodes n.0 m.0 node (λ e. apart (λ i. record { 0 = e i })) ∙ own.at;
  placed = subst (λ (s : Scenario). IsPlacedAt s m own.node) (sym elsewhere.scenario) own.placed;
  unspent = own.unspent;
  is = record {
    state = own.is.state;
    is = own.is.is;
    at = at_elsewhere n m base moving new own.is.state elsewhere apart own.is.at;
    toward = subst (λ (c : Core). IsWaitingTowardRoots c (labels_in own.node)) (core_elsewhere n m base moving new elsewhere) own.is.toward;
  };
}

-- ---- the node at work

-- a node before a call that begins no stream
pub before_calm : (n : NodeId) (network : OctetNetwork Nodes) (call : Call) (state : AnyNode)
    → ((kind : Kind) (peer : NodeId) → begins call kind peer ≡ false)
    → IsNodeAt n network [] state → IsNodeBefore n network call state
before_calm n network call (any.Edge state) calm at = record {
  node = at.node;
  unspent = at.unspent;
  waiting = at.waiting;
  streams = λ kind peer none. at.streams kind peer;
  begun = λ kind peer e. absurd (let f = calm kind peer in cc);
}
before_calm n network call (any.CoreNode state) calm at = record {
  node = at.node;
  unspent = at.unspent;
  waiting = at.waiting;
  streams = λ peer none. at.streams peer;
  begun = λ peer e. absurd (let f = calm kinds.Ldp peer in cc);
}

-- the network in which a node stands whose costs are those of the plane
pub stands_in : (scenario : Scenario) (cores : Cores) (moment : Moment) (n : NodeId) (network : OctetNetwork Nodes) (plane : PlaneView)
    (node : NetworkNode)
    → IsAround scenario cores moment network plane → network.state.known n ≡ network.state.links → IsPlacedAt network.state.scenario n node
    → Stands network.state n plane.core plane.clock node
stands_in scenario cores moment n network plane node around current placed = record {
  placed = placed;
  known = subst (λ (t : Topology). IsCoreOf t.nodes t.links (core_at network.state n)) (sym around.core)
      (subst (λ (c : Core). IsCoreOf (length scenario.nodes) network.state.links c) same (around.of_scenario.core network.state.links repriced));
  clock = around.clock;
}
  where
    repriced : AreRepriced scenario.links network.state.links
    repriced = subst (λ (s : Scenario). AreRepriced s.links network.state.links) around.scenario_is around.steady.sound.links

    same : cores network.state.links ≡ core_at network.state n
    same = λ i. sym around.cores_are i (sym current i)

-- ---- the plane

-- What an act of node n begins with: the network once what stands before the node's step is done, and the octets that are then in transit.
pub record IsBase (scenario : Scenario) (cores : Cores) (moment : Moment) (n : NodeId) (base : OctetNetwork Nodes) (moving : Direction → List ℕ)
    (plane : PlaneView) (transit : TransitData)
    : Type 0 where
  pub scenario_is : base.state.scenario ≡ scenario
  pub cores_are : base.state.cores ≡ cores
  pub core : plane.core ≡ record { nodes = length scenario.nodes; links = base.state.links }
  pub known : (m : NodeId) → m.0 < length scenario.nodes → moment.late m ≡ false → base.state.known m ≡ base.state.links
  pub clock : base.state.clock ≡ plane.clock
  pub joined : (over : Direction) → base.joined over ≡ is_joined_at transit over
  pub octets : (over : Direction) → moving over ≡ octets_at transit over
  pub others : (m : NodeId) → (m ≡ n → ⊥) → m.0 < length scenario.nodes → HasNode base plane.nodes m []

-- a node's own step begins with the network as it is
pub same_base : (scenario : Scenario) (cores : Cores) (moment : Moment) (n : NodeId) (network : OctetNetwork Nodes) (plane : PlaneView)
    → IsPlane scenario cores moment network plane
    → IsBase scenario cores moment n network network.transit plane plane.transit
same_base scenario cores moment n network plane is = record {
  scenario_is = is.around.scenario_is;
  cores_are = is.around.cores_are;
  core = is.around.core;
  known = is.around.known;
  clock = is.around.clock;
  joined = is.around.joined;
  octets = is.transit;
  others = λ m apart below. is.nodes m below;
}

-- a plane whose node n has become another, with these octets in transit
abbrev pub worked : NodeId → PlaneView → NetworkNode → TransitData → PlaneView
worked n plane node transit = record plane { nodes = slice_set plane.nodes n.0 node; transit = transit }

pub midway : (scenario : Scenario) (cores : Cores) (old moment : Moment) (n : NodeId) (network base : OctetNetwork Nodes)
    (moving : Direction → List ℕ) (new : Behind (OctetNetwork Nodes)) (plane : PlaneView)
    (transit : TransitData) (state : AnyNode) (node : NetworkNode) → IsAround scenario cores old network plane → n.0 < length scenario.nodes
    → IsBase scenario cores moment n base moving plane transit → IsElsewhere n base moving new → IsNodeAt n new.network new.puts state
    → IsNode state node → IsPlacedAt scenario n node → spent_in node ≡ None
    → IsWaitingTowardRoots (core_at base.state n) (labels_in node) → IsSteady moment new.network
    → IsMidway scenario cores moment n new.puts new.network (worked n plane node transit)
midway scenario cores old moment n network base moving new plane transit state node around within is elsewhere at own placed unspent waits steady =
    record {
      around = record {
        scenario_is = elsewhere.scenario ∙ is.scenario_is;
        cores_are = elsewhere.cores ∙ is.cores_are;
        of_scenario = around.of_scenario;
        core = is.core ∙ ap (λ links. record { nodes = length scenario.nodes; links = links }) (sym elsewhere.links);
        known = λ m below early. elsewhere.known m ∙ (is.known m below early ∙ sym elsewhere.links);
        clock = elsewhere.clock ∙ is.clock;
        small = around.small;
        count = set_length plane.nodes n.0 node ∙ around.count;
        ways = around.ways;
        joined = λ over. elsewhere.joined over ∙ is.joined over;
        steady = steady;
      };
      within = within;
      own = record {
        node = node;
        at = get_set plane.nodes n.0 node (subst (λ (count : ℕ). n.0 < count) (sym around.count) within);
        placed = subst (λ (s : Scenario). IsPlacedAt s n node) (sym (elsewhere.scenario ∙ is.scenario_is)) placed;
        unspent = unspent;
        is = record {
          state = state;
          is = own;
          at = at;
          toward = subst (λ (c : Core). IsWaitingTowardRoots c (labels_in node)) (core_elsewhere n n base moving new elsewhere) waits;
        };
      };
      nodes = λ m apart below. has_elsewhere n m base moving new plane.nodes node elsewhere apart (is.others m apart below);
      transit = λ over.
          elsewhere.transit over
          ∙ ((λ i. cond (base.joined over) (is.octets over i ++ octets_over over new.puts) (is.octets over i))
          ∙ ap (λ (b : Bool). cond b (octets_at transit over ++ octets_over over new.puts) (octets_at transit over)) (sym (elsewhere.joined over)));
      away = elsewhere.puts;
    }

-- ---- what comes of a node's step

module _ (scenario : Scenario) (cores : Cores) (old moment : Moment) (n : NodeId) (network base : OctetNetwork Nodes) (moving : Direction → List ℕ)
    (plane : PlaneView) (transit : TransitData)
    (found : Option (Behind (OctetNetwork Nodes))) (state : AnyNode)
    (some : (new : Behind (OctetNetwork Nodes)) → found ≡ Some new → IsNodeAt n new.network new.puts state × IsElsewhere n base moving new) where
  -- where the node goes on, there is a network after the step, and the plane is midway there
  pub turn_made : (node : NetworkNode) → IsAround scenario cores old network plane → n.0 < length scenario.nodes
      → IsBase scenario cores moment n base moving plane transit
      → (found ≡ None → spent_of state ≡ Some LacksLabel)
      → ((new : Behind (OctetNetwork Nodes)) → found ≡ Some new → IsElsewhere n base moving new → IsSteady moment new.network)
      → IsNode state node → spent_in node ≡ None → IsPlacedAt scenario n node → IsWaitingTowardRoots (core_at base.state n) (labels_in node)
      → (new : Behind (OctetNetwork Nodes)) × (found ≡ Some new) × IsMidway scenario cores moment n new.puts new.network (worked n plane node transit)
  turn_made node around within is lacks steady own unspent placed waits = by found refl
    where
      by : (o : Option (Behind (OctetNetwork Nodes))) → found ≡ o
          → (new : Behind (OctetNetwork Nodes)) × (found ≡ Some new)
          × IsMidway scenario cores moment n new.puts new.network (worked n plane node transit)
      by None e = absurd (goes_spent state node own unspent (lacks e))
      by (Some new) e =
          let step = some new e in (
            new,
            e,
            midway scenario cores old moment n network base moving new plane transit state node around within is step.1 step.0 own placed
                unspent waits (steady new e step.1),
          )

  -- where the node lacks a label, there is none
  pub turn_lacks : spent_of state ≡ Some LacksLabel → found ≡ None
  turn_lacks lacks = by found refl
    where
      by : (o : Option (Behind (OctetNetwork Nodes))) → found ≡ o → found ≡ None
      by None e = e
      by (Some new) e = absurd (lacks_spent n new.network new.puts state (some new e).0 lacks)

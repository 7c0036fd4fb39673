-- The control plane after acts by which nothing is put.
use Rattle.std.proofs.Common.{◌≡◌, ◌∙◌, refl, sym, ap, subst, append-nil, if◌then◌else◌, ℕ, ◌+◌, ◌<◌, ◌==◌, ◌&&◌, ◌||◌, not, inl, inr, Bool, true, false, cond, List, [], ◌∷◌, ◌++◌, length, slice_get, slice_set, Option, Some, None, Result, Ok, Err, OnOk, IfOk}
use Rattle.std.specs.FinMap as maps
use Rattle.mv_base.specs.declared.ids.NodeId.{NodeId}
use Rattle.mv_base.specs.declared.memory.NoMemory.{NoMemory}
use Rattle.mv_base.specs.core_walks.Core.{Core}
use Rattle.mv_base.specs.core_walks.Costs.{with_cost}
use Rattle.mv_base.specs.core_walks.Topology.{Topology}
use Rattle.mv_base.specs.framing.Feed.{unfed}
use Rattle.label_defs.proofs.KeyLemmas.{node_apart, node_cases, node_itself}
use Rattle.label_defs.specs.Keys.{node_cmp}
use Rattle.label_defs.specs.LabelData as labels
use Rattle.scenario_defs.specs.declared.event.Kind.{Kind}
use Rattle.scenario_defs.specs.declared.event.Kind.TheVariants as kinds
use Rattle.scenario_defs.specs.declared.scenario.Scenario.{Scenario}
use Rattle.network_defs.specs.session_defs.Octets as octets
use Rattle.network_defs.specs.session_defs.Octets.{OctetNetwork, Stream, with_octets}
use Rattle.network_defs.specs.session_defs.PeerSession.{peer_cmp}
use Rattle.network_defs.specs.declared.session_defs.direction.Direction.{Direction}
use Rattle.net_sessions.specs.session_transit.TransitData.{Loses, TransitData, is_joined_at, octets_at}
use Rattle.edge_defs.specs.Edge as edges
use Rattle.network_defs.specs.node_defs.EdgeState.{fresh_state}
use Rattle.network_defs.specs.Acts as acts
use Rattle.network_defs.specs.Acts.{is_at, is_of_session, leads_to}
use Rattle.network_defs.specs.Counts.{direction, is_end_up}
use Rattle.network_defs.specs.Nodes as world
use Rattle.network_defs.specs.Nodes.{NodeState, Nodes, core_at, fresh_node, is_edge, with_node}
use Rattle.network_defs.specs.System.{Elapse, Price, Reset, unchanged}
use Rattle.network_laws.specs.Honest.{IsCost}
use Rattle.network_laws.proofs.RunActs.{act_stays}
use Rattle.network_nodes.specs.wire_laws.AnyNodes as any
use Rattle.network_nodes.specs.wire_laws.AnyNodes.{AnyNode, IsNodeAt}
use Rattle.network_nodes.specs.wire_laws.CoreNodes.{fresh_core}
use Rattle.network_nodes.specs.wire_laws.Edges.{IsWay}
use Rattle.mldp_node.specs.NodeData.{IsWaitingTowardRoots}
use Rattle.mldp_node.proofs.NodeLemmas.{none_astray}
use Rattle.network_nodes.specs.NodeView.{IsNode, IsPlacedAt, first_node, labels_in}
use Rattle.network_nodes.specs.declared.node.NetworkNode.{NetworkNode}
use Rattle.network_acts.specs.control_plane.Acted.{IsIn, Standing}
use Rattle.network_acts.specs.control_plane.Passing.{Passes, all_late}
use Rattle.network_acts.specs.control_plane.Plane.{HasNode, IsAround, IsSteady}
use Rattle.network_acts.specs.control_plane.PlaneView.{PlaneView}
use Rattle.network_acts.specs.control_plane.Starting.{IsFirst}
use Rattle.network_acts.proofs.control_plane.ListLemmas.{get_set, get_set_other, set_length}
use Rattle.network_acts.proofs.control_plane.SteadyLemmas.{alone, steady_next, steady_stays}

-- ---- nodes

-- a node of which the network keeps what is told is the same there
at_kept : (m : NodeId) (old new : OctetNetwork Nodes) (state : AnyNode) → new.state.scenario ≡ old.state.scenario
    → new.state.node m ≡ old.state.node m
    → ((over : Direction) → over.to ≡ m → new.stream over ≡ old.stream over) → IsNodeAt m old [] state → IsNodeAt m new [] state
at_kept m old new (any.Edge state) scenario node streams at = record {
  node = node ∙ at.node;
  unspent = at.unspent;
  waiting = λ kind peer way. at.waiting kind peer (subst (λ (s : Scenario). IsWay s (direction kind m peer)) scenario way);
  streams = λ kind peer. at.streams kind peer ∙ sym (streams (direction kind peer m) refl);
}
at_kept m old new (any.CoreNode state) scenario node streams at = record {
  node = node ∙ at.node;
  unspent = at.unspent;
  waiting = λ peer way. at.waiting peer (subst (λ (s : Scenario). IsWay s (direction kinds.Ldp m peer)) scenario way);
  silent = at.silent;
  streams = λ peer. at.streams peer ∙ sym (streams (direction kinds.Ldp peer m) refl);
}

pub has_kept : (m : NodeId) (old new : OctetNetwork Nodes) (nodes new_nodes : List NetworkNode) → new.state.scenario ≡ old.state.scenario
    → new.state.node m ≡ old.state.node m
    → core_at new.state m ≡ core_at old.state m → ((over : Direction) → over.to ≡ m → new.stream over ≡ old.stream over)
    → slice_get new_nodes m.0 ≡ slice_get nodes m.0 → HasNode old nodes m [] → HasNode new new_nodes m []
has_kept m old new nodes new_nodes scenario node known streams same own = record {
  node = own.node;
  at = same ∙ own.at;
  placed = subst (λ (s : Scenario). IsPlacedAt s m own.node) (sym scenario) own.placed;
  unspent = own.unspent;
  is = record {
    state = own.is.state;
    is = own.is.is;
    at = at_kept m old new own.is.state scenario node streams own.is.at;
    toward = subst (λ (c : Core). IsWaitingTowardRoots c (labels_in own.node)) (sym known) own.is.toward;
  };
}

-- a node of which the network has its scenario lines alone, and fresh streams, is one to begin with
pub first_at : (n : NodeId) (network : OctetNetwork Nodes) → network.state.node n ≡ fresh_node network.state.scenario n
    → ((over : Direction) → over.to ≡ n → network.stream over ≡ unfed) → IsNodeAt n network [] (first_node network.state.scenario n)
first_at n network node streams = by (is_edge network.state.scenario n) node
  where
    by : (b : Bool) → network.state.node n ≡ cond b (world.Edge (edges.fresh network.state.scenario.labels))
        (world.CoreNode (labels.fresh network.state.scenario.labels))
        → IsNodeAt n network [] (cond b (any.Edge (fresh_state network.state.scenario.labels))
        (any.CoreNode (fresh_core network.state.scenario.labels)))
    by true e = record {
      node = e;
      unspent = refl;
      waiting =
          λ kind peer way. ap (λ (o : Option (List ℕ)). elim o [ None ↦ [] | Some octets ↦ octets ])
          (maps.get-empty peer_cmp (record { kind = kind; peer = peer }));
      streams = λ kind peer.
          ap (λ (o : Option Stream). elim o [ None ↦ unfed | Some stream ↦ stream ]) (maps.get-empty peer_cmp (record { kind = kind; peer = peer }))
          ∙ sym (streams (direction kind peer n) refl);
    }
    by false e = record {
      node = e;
      unspent = refl;
      waiting = λ peer way. ap (λ (o : Option (List ℕ)). elim o [ None ↦ [] | Some octets ↦ octets ]) (maps.get-empty node_cmp peer);
      silent = λ peer. refl;
      streams = λ peer.
          ap (λ (o : Option Stream). elim o [ None ↦ unfed | Some stream ↦ stream ])
          (maps.get-empty peer_cmp (record { kind = kinds.Ldp; peer = peer }))
          ∙ sym (streams (direction kinds.Ldp peer n) refl);
    }

pub has_first : (scenario : Scenario) (n : NodeId) (network : OctetNetwork Nodes) (nodes : List NetworkNode) (node : NetworkNode)
    → network.state.scenario ≡ scenario
    → network.state.node n ≡ fresh_node network.state.scenario n → ((over : Direction) → over.to ≡ n → network.stream over ≡ unfed)
    → slice_get nodes n.0 ≡ Some node → IsFirst scenario n node → HasNode network nodes n []
has_first scenario n network nodes node same fresh streams at is = record {
  node = node;
  at = at;
  placed = subst (λ (s : Scenario). IsPlacedAt s n node) (sym same) is.placed;
  unspent = is.unspent;
  is = record {
    state = first_node network.state.scenario n;
    is = subst (λ (s : Scenario). IsNode (first_node s n) node) (sym same) is.is;
    at = first_at n network fresh streams;
    toward = none_astray (labels_in node) is.waits (core_at network.state n);
  };
}

-- ---- what is in transit

-- nothing goes after it
nothing_more : (joined : Bool) (octets : List ℕ) → cond joined (octets ++ []) octets ≡ octets
nothing_more true octets = append-nil octets
nothing_more false octets = refl

first_true : (a b : Bool) → (a && b) ≡ true → a ≡ true
first_true true b e = refl
first_true false b e = e

-- ---- a node that begins anew: `leads` says whether a direction leads to it, `leaves` whether it leads away from it

-- the streams to it are fresh, and all others are as before
stream_anew : (leads leaves joined : Bool) (stream : Stream) → leads ≡ true
    → cond (leads && not (joined && not (leaves || leads))) unfed stream ≡ unfed
stream_anew true true true stream e = refl
stream_anew true true false stream e = refl
stream_anew true false true stream e = refl
stream_anew true false false stream e = refl
stream_anew false leaves joined stream e = absurd (let f : true ≡ false = sym e in cc)

stream_kept : (leads leaves joined : Bool) (stream : Stream) → leads ≡ false
    → cond (leads && not (joined && not (leaves || leads))) unfed stream ≡ stream
stream_kept true leaves joined stream e = absurd (let f : true ≡ false = e in cc)
stream_kept false leaves joined stream e = refl

-- an end that is down holds back nothing
fresh_anew : (kind : Kind) (peer : NodeId) (new old : NodeState) (leads leaves joined : Bool) (stream : Stream)
    → (is_end_up kind old peer ≡ false → stream ≡ unfed)
    → is_end_up kind (cond leads new old) peer ≡ false → cond (leads && not (joined && not (leaves || leads))) unfed stream ≡ unfed
fresh_anew kind peer new old true leaves joined stream was down = stream_anew true leaves joined stream refl
fresh_anew kind peer new old false leaves joined stream was down = was down

-- a direction that is joined still leads to an end that is up
up_anew : (kind : Kind) (peer : NodeId) (new old : NodeState) (leads leaves joined : Bool) → (joined && not (leaves || leads)) ≡ true
    → (joined ≡ true → is_end_up kind old peer ≡ true)
    → is_end_up kind (cond leads new old) peer ≡ true
up_anew kind peer new old leads leaves false e was = absurd (let f : false ≡ true = e in cc)
up_anew kind peer new old leads true true e was = absurd (let f : false ≡ true = e in cc)
up_anew kind peer new old true false true e was = absurd (let f : false ≡ true = e in cc)
up_anew kind peer new old false false true e was = was refl

module _ (at : Standing) (plane : PlaneView) (is : IsIn at plane) where
  abbrev network : OctetNetwork Nodes
  network = at.network

  abbrev around : IsAround at.scenario at.cores at.moment network plane
  around = is.around

  abbrev steady : IsSteady at.moment network
  steady = around.steady

  -- ---- time

  abbrev later : ℕ → OctetNetwork Nodes
  later ticks = with_octets network (unchanged (record network.state { clock = network.state.clock + ticks }))

  pub elapsed : (ticks : ℕ) → plane.clock + ticks < 9223372036854775808
      → Passes at (octets.Call (Elapse ticks) ∷ []) at.moment (record plane { clock = plane.clock + ticks })
  elapsed ticks small = record {
    network = later ticks;
    run = refl;
    is = record {
      around = record {
        scenario_is = around.scenario_is;
        cores_are = around.cores_are;
        of_scenario = around.of_scenario;
        core = around.core;
        known = around.known;
        clock = ap (λ (c : ℕ). c + ticks) around.clock;
        small = small;
        count = around.count;
        ways = around.ways;
        joined = around.joined;
        steady = steady_next at.moment network (later ticks)
            (act_stays network.state.scenario (acts.Tick ticks) tt (alone network) (steady_stays at.moment network steady)) refl steady.whose
            steady.up steady.fresh;
      };
      nodes = λ n within. has_kept n network (later ticks) plane.nodes plane.nodes refl refl refl (λ over e. refl) refl (is.nodes n within);
      transit = λ over. nothing_more (network.joined over) (network.transit over) ∙ is.transit over;
    };
  }

  -- ---- costs

  abbrev dearer : NodeId → NodeId → ℕ → OctetNetwork Nodes
  dearer a b cost = with_octets network (unchanged (record network.state { links = with_cost a b cost network.state.links }))

  pub priced : (a b : NodeId) (cost : ℕ) (core : Topology) → IsCost cost
      → core ≡ record { nodes = plane.core.nodes; links = with_cost a b cost plane.core.links }
      → Passes at (octets.Call (Price a b cost) ∷ []) (all_late at.moment) (record plane { core = core })
  priced a b cost core is_cost priced_is = record {
    network = dearer a b cost;
    run = refl;
    is = record {
      around = record {
        scenario_is = around.scenario_is;
        cores_are = around.cores_are;
        of_scenario = around.of_scenario;
        core = priced_is ∙ ap (λ (t : Topology). record { nodes = t.nodes; links = with_cost a b cost t.links }) around.core;
        known = λ n within late. absurd (let e : true ≡ false = late in cc);
        clock = around.clock;
        small = around.small;
        count = around.count;
        ways = around.ways;
        joined = around.joined;
        steady = steady_next (all_late at.moment) network (dearer a b cost)
            (act_stays network.state.scenario (acts.SetCost a b cost) is_cost (alone network) (steady_stays at.moment network steady)) refl
            steady.whose steady.up steady.fresh;
      };
      nodes = λ n within. has_kept n network (dearer a b cost) plane.nodes plane.nodes refl refl refl (λ over e. refl) refl (is.nodes n within);
      transit = λ over. nothing_more (network.joined over) (network.transit over) ∙ is.transit over;
    };
  }

  -- ---- sessions

  abbrev without : (Direction → Bool) → OctetNetwork Nodes
  without hit =
      record network { joined = λ over. network.joined over && not (hit over); transit = λ over. if hit over then [] else network.transit over }

  joined_without : (hit : Direction → Bool) (transit : TransitData) → Loses hit plane.transit transit → (over : Direction)
      → (network.joined over && not (hit over)) ≡ is_joined_at transit over
  joined_without hit transit loses over = ap (λ (b : Bool). b && not (hit over)) (around.joined over) ∙ sym (loses.joined over)

  transit_without : (hit : Direction → Bool) (transit : TransitData) → Loses hit plane.transit transit → (over : Direction)
      → cond (hit over) [] (network.transit over) ≡ octets_at transit over
  transit_without hit transit loses over = ap (λ (l : List ℕ). cond (hit over) [] l) (is.transit over) ∙ sym (loses.octets over)

  pub lost : (kind : Kind) (a b : NodeId) (transit : TransitData) → Loses (is_of_session kind a b) plane.transit transit
      → Passes at (octets.Lose (is_of_session kind a b) ∷ []) at.moment (record plane { transit = transit })
  lost kind a b transit loses = record {
    network = without (is_of_session kind a b);
    run = refl;
    is = record {
      around = record {
        scenario_is = around.scenario_is;
        cores_are = around.cores_are;
        of_scenario = around.of_scenario;
        core = around.core;
        known = around.known;
        clock = around.clock;
        small = around.small;
        count = around.count;
        ways = around.ways;
        joined = joined_without (is_of_session kind a b) transit loses;
        steady = steady_next at.moment network (without (is_of_session kind a b))
            (act_stays network.state.scenario (acts.Lose kind a b) tt (alone network) (steady_stays at.moment network steady)) refl
            (λ over joined. steady.whose over (first_true (network.joined over) (not (is_of_session kind a b over)) joined))
            (λ over joined quiet. steady.up over (first_true (network.joined over) (not (is_of_session kind a b over)) joined) quiet)
            steady.fresh;
      };
      nodes = λ n within. has_kept n network (without (is_of_session kind a b)) plane.nodes plane.nodes refl refl refl (λ over e. refl) refl
          (is.nodes n within);
      transit = transit_without (is_of_session kind a b) transit loses;
    };
  }

  -- ---- a node that begins anew

  module _ (n : NodeId) where
    abbrev fresh : NodeState
    fresh = fresh_node network.state.scenario n

    abbrev anew : OctetNetwork Nodes
    anew = with_octets
        (record (without (is_at n)) {
          stream = λ over. if leads_to n over
              && not (network.joined over && not (is_at n over)) then unfed else network.stream over;
        })
        (unchanged (with_node network.state n fresh))

    steady_anew : IsSteady at.moment anew
    steady_anew = steady_next at.moment network anew
        (act_stays network.state.scenario (acts.Restart n) tt (alone network) (steady_stays at.moment network steady)) refl
        (λ over joined. steady.whose over (first_true (network.joined over) (not (is_at n over)) joined))
        (λ over joined quiet.
        up_anew over.kind over.from fresh (network.state.node over.to) (leads_to n over) (over.from.0 == n.0) (network.joined over) joined
        (λ was. steady.up over was quiet))
        (λ over down.
        fresh_anew over.kind over.from fresh (network.state.node over.to) (leads_to n over) (over.from.0 == n.0) (network.joined over)
        (network.stream over) (steady.fresh over) down)

    module _ (node : NetworkNode) (first : IsFirst at.scenario n node) (within : n.0 < length at.scenario.nodes) where
      abbrev nodes_anew : List NetworkNode
      nodes_anew = slice_set plane.nodes n.0 node

      has_anew : (m : NodeId) → m.0 < length at.scenario.nodes → HasNode anew nodes_anew m []
      has_anew m below = elim (node_cases m n) [
        | inl same ↦ subst (λ (k : NodeId). HasNode anew nodes_anew k []) (sym same)
            (has_first at.scenario n anew nodes_anew node around.scenario_is
            (ap (λ (b : Bool). cond b fresh (network.state.node n)) (node_itself n n refl))
            (λ over e. stream_anew (leads_to n over) (over.from.0 == n.0) (network.joined over) (network.stream over) (node_itself over.to n e))
            (get_set plane.nodes n.0 node (subst (λ (count : ℕ). n.0 < count) (sym around.count) within)) first)
        | inr apart ↦
            has_kept m network anew plane.nodes nodes_anew refl
            (ap (λ (b : Bool). cond b fresh (network.state.node m)) (node_apart m n apart)) refl
            (λ over e. stream_kept (leads_to n over) (over.from.0 == n.0) (network.joined over) (network.stream over)
            (node_apart over.to n (λ same. apart (sym e ∙ same))))
            (get_set_other plane.nodes n.0 m.0 node (λ e. apart (λ i. record { 0 = e i }))) (is.nodes m below)
      ]

      pub restarted : (transit : TransitData) → Loses (is_at n) plane.transit transit
          → Passes at (octets.Lose (is_at n) ∷ octets.Forget (leads_to n) ∷ octets.Call (Reset n) ∷ []) at.moment
          (record plane { nodes = nodes_anew; transit = transit })
      restarted transit loses = record {
        network = anew;
        run = refl;
        is = record {
          around = record {
            scenario_is = around.scenario_is;
            cores_are = around.cores_are;
            of_scenario = around.of_scenario;
            core = around.core;
            known = around.known;
            clock = around.clock;
            small = around.small;
            count = set_length plane.nodes n.0 node ∙ around.count;
            ways = around.ways;
            joined = joined_without (is_at n) transit loses;
            steady = steady_anew;
          };
          nodes = has_anew;
          transit = λ over.
              nothing_more (network.joined over && not (is_at n over)) (cond (is_at n over) [] (network.transit over))
              ∙ transit_without (is_at n) transit loses over;
        };
      }

-- ---- calls

pub sets_cost : (plane old : PlaneView) → plane ≡ old → (a b : NodeId) (cost : ℕ) (core : Topology) (result : Result (Unit {0}) NoMemory)
    → IsCost cost
    → IfOk result (λ done. core ≡ record { nodes = plane.core.nodes; links = with_cost a b cost plane.core.links })
    → OnOk result ((at : Standing) → IsIn at old → Passes at (octets.Call (Price a b cost) ∷ []) (all_late at.moment) (record plane { core = core }))
sets_cost plane old seen a b cost core (Ok done) is_cost set = λ at is. priced at plane (subst (IsIn at) (sym seen) is) a b cost core is_cost set
sets_cost plane old seen a b cost core (Err fault) is_cost set = tt

pub restarts : (plane old : PlaneView) → plane ≡ old
    → (scenario : Scenario) (n : NodeId) (place : ℕ) (first node : NetworkNode) (transit : TransitData) → place ≡ n.0 → node ≡ first
    → IsFirst scenario n first → n.0 < length scenario.nodes → Loses (is_at n) plane.transit transit → (at : Standing) → at.scenario ≡ scenario
    → IsIn at old
    → Passes at (octets.Lose (is_at n) ∷ octets.Forget (leads_to n) ∷ octets.Call (Reset n) ∷ []) at.moment
    (record plane { nodes = slice_set plane.nodes place node; transit = transit })
restarts plane old seen scenario n place first node transit place_is node_is is_first within loses at of is =
    subst (λ (nodes : List NetworkNode). Passes at (octets.Lose (is_at n) ∷ octets.Forget (leads_to n) ∷ octets.Call (Reset n) ∷ []) at.moment
    (record plane { nodes = nodes; transit = transit }))
    (λ i. slice_set plane.nodes (sym place_is i) (sym node_is i))
    (restarted at plane (subst (IsIn at) (sym seen) is) n first (subst (λ (s : Scenario). IsFirst s n first) (sym of) is_first)
    (subst (λ (s : Scenario). n.0 < length s.nodes) (sym of) within)
    transit loses)

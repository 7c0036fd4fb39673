-- A node before anything has happened, and what a node hands out and counts, by what its edge or its core node does.
use Rattle.std.proofs.Common.{◌≡◌, ◌∙◌, refl, sym, ap, subst, arith, ℕ, ◌<◌, ◌≤◌, min, inl, inr, List, [], ◌∷◌, suc, map, length, Option, None, Some}
use Rattle.std.proofs.lemmas.Option.{slice_get_cases}
use Rattle.std.proofs.lemmas.List.Elements.{All-get_or}
use Rattle.mv_base.specs.declared.addr.Addr.{Addr}
use Rattle.mv_base.specs.declared.addr.Addr.TheVariants.{V4, V6}
use Rattle.mv_base.specs.declared.ids.NodeId.{NodeId}
use Rattle.mv_base.specs.core_walks.Core.{Core}
use Rattle.scenario_defs.specs.Rules.{IsIpv4, Rules}
use Rattle.scenario_defs.specs.declared.event.Kind.{Kind}
use Rattle.scenario_defs.specs.declared.scenario.Node.{Node}
use Rattle.scenario_defs.specs.declared.scenario.Scenario.{Scenario}
use Rattle.mldp.specs.mldp_msgs.Spelling.{IsRouter}
use Rattle.mldp_node.specs.Standing.{IsPlace}
use Rattle.label_defs.specs.LabelData as labels
use Rattle.label_defs.specs.LabelData.{LabelData, Place, branches_of, use_of}
use Rattle.label_defs.specs.Node.{Spent, place_in}
use Rattle.mldp.specs.declared.mldp_fec.fec.Fec.{Fec}
use Rattle.edge_defs.specs.Datagrams as datagrams
use Rattle.edge_defs.specs.Datagrams.{discarded, tree_of}
use Rattle.edge_defs.specs.Due as edges
use Rattle.edge_defs.specs.Place.{addr_of}
use Rattle.edge_core.specs.edge_routes.edge_home.Home as homes
use Rattle.edge_core.specs.edge_routes.edge_home.Home.{Home, home_of}
use Rattle.edge_core.proofs.control_laws.Parts.{no_core}
use Rattle.edge_streams.specs.Kept.{session}
use Rattle.network_defs.specs.node_defs.EdgeState.{EdgeState, handed, handed_out, handed_unless}
use Rattle.edge_core.proofs.node_laws.PlaceLemmas.{one_addr, one_place}
use Rattle.network_defs.specs.Counts.{node_due}
use Rattle.network_defs.specs.Nodes as world
use Rattle.network_defs.specs.Nodes.{NodeState, Nodes, core_at, label_place_of, place_of}
use Rattle.wire_laws.specs.AnyNodes as any
use Rattle.wire_laws.specs.AnyNodes.{AnyNode}
use Rattle.edge_core.specs.State as states
use Rattle.edge_core.specs.declared.fate.Fate.{Fate}
use Rattle.edge_core.specs.State.{IsFate, IsIn, data_of}
use Rattle.edge_core.specs.View.{EdgeView}
use Rattle.network_nodes.specs.core_node.View.{CoreView}
use Rattle.network_nodes.specs.Network.{core_fate}
use Rattle.network_nodes.specs.NodeView.{IsNode, IsPlacedAt, data_in, handed_by, waiting_in}
use Rattle.network_nodes.specs.declared.node.NetworkNode.TheVariants as nodes

-- ---- where a node stands

abbrev addr_or : Option Node → Addr
addr_or None = V4 []
addr_or (Some node) = node.addr

four : (addr : Addr) → IsIpv4 addr → IsRouter addr
four (V4 octets) h = h
four (V6 octets) h = absurd h

pub as_many : (nodes : List Node) → length (map (λ node. node.addr) nodes) ≡ length nodes
as_many [] = refl
as_many (node ∷ more) = ap suc (as_many more)

router_at : (scenario : Scenario) (n : NodeId) → Rules scenario → n.0 < length scenario.nodes → IsRouter (addr_of scenario n)
router_at scenario n rules within = elim (slice_get_cases scenario.nodes n.0).1 [
  | inl there ↦
      (let node = there.0 in
      let is = subst (λ (x : Node). IsIpv4 x.addr) there.3 (All-get_or (λ (x : Node). IsIpv4 x.addr) scenario.nodes n.0 node within rules.core.ipv4)
      in
      subst (λ (o : Option Node). IsRouter (addr_or o)) (sym there.2) (four node.addr is))
  | inr past ↦ absurd (omega (arith, past.0, within))
]

-- a node of a scenario that meets its rules stands as a label node does
pub stands : (scenario : Scenario) (n : NodeId) (addrs : List Addr) → Rules scenario → n.0 < length scenario.nodes
    → addrs ≡ map (λ node. node.addr) scenario.nodes
    → IsPlace (record { me = n; addrs = addrs; life = scenario.life })
stands scenario n addrs rules within are =
    subst (λ (own : List Addr). IsPlace (record { me = n; addrs = own; life = scenario.life })) (sym are) (record {
      within = subst (λ (count : ℕ). n.0 < count) (sym (as_many scenario.nodes)) within;
      router = subst IsRouter (one_addr scenario n) (router_at scenario n rules within);
      short = rules.settings.life.1;
    })

-- ---- what is handed out

unspent_in : (state : EdgeState) (edge : EdgeView) → IsIn state edge → state.spent ≡ None
unspent_in state edge is = (is.parts no_core).unspent

pub edge_octets_out : (edge : EdgeView) (kind : Kind) (peer : NodeId) (result : List ℕ)
    → ((state : EdgeState) → IsIn state edge → result ≡ handed (session kind peer) state)
    → (state : AnyNode) → IsNode state (nodes.Edge edge) → result ≡ waiting_in state kind peer
edge_octets_out edge kind peer result octets (any.Edge state) is =
    octets state is ∙ ap (λ (spent : Option Spent). handed_unless spent (session kind peer) state) (unspent_in state edge is)
edge_octets_out edge kind peer result octets (any.CoreNode state) is = absurd is

pub edge_rest : (edge new : EdgeView) (kind : Kind) (peer : NodeId)
    → ((state : EdgeState) → IsIn state edge → IsIn (handed_out (session kind peer) state) new)
    → (state : AnyNode) → IsNode state (nodes.Edge edge) → IsNode (handed_by state kind peer) (nodes.Edge new)
edge_rest edge new kind peer rest (any.Edge state) is = rest state is
edge_rest edge new kind peer rest (any.CoreNode state) is = absurd is

-- ---- timers

abbrev pub most : ℕ
most = 18446744073709551615

pub few : (count : ℕ) → count < 18446744073709551616 → count ≤ most
few count h = omega (arith, h)

abbrev due_of : Nodes → NodeId → NodeState → ℕ
due_of network n (world.Edge edge) = edges.due (place_of network n) network.clock edge
due_of network n (world.CoreNode part) = labels.due (label_place_of network n) network.clock part

pub edge_due : (edge : EdgeView) (now count : ℕ) (network : Nodes) (n : NodeId)
    → ((walks : Core) → count ≡ min (edges.due (homes.place_of (states.home_of edge) walks) now (data_of edge)) most)
    → IsPlacedAt network.scenario n (nodes.Edge edge) → network.node n ≡ data_in (nodes.Edge edge) → network.clock ≡ now
    → count ≡ min (node_due network n) most
edge_due edge now count network n counted placed is clock =
    counted (core_at network n)
    ∙ ((λ i. min (edges.due (homes.place_of (placed.0 i) (core_at network n)) (sym clock i) (data_of edge)) most)
    ∙ sym (ap (λ (s : NodeState). min (due_of network n s) most) is))

pub core_due : (core : CoreView) (now count : ℕ) (network : Nodes) (n : NodeId)
    → ((walks : Core) → count ≡ labels.due (place_in core.labels.place walks) now core.labels.node.part) → count ≤ most
    → IsPlacedAt network.scenario n (nodes.CoreNode core) → network.node n ≡ data_in (nodes.CoreNode core) → network.clock ≡ now
    → count ≡ min (node_due network n) most
core_due core now count network n counted few placed is clock =
    few_stay count few ∙ ap (λ (c : ℕ). min c most) there
  where
    few_stay : (c : ℕ) → c ≤ most → c ≡ min c most
    few_stay c h = omega (arith, h)

    there : count ≡ due_of network n (network.node n)
    there =
        counted (core_at network n)
        ∙ ((λ i. labels.due (place_in (placed.0 i) (core_at network n)) (sym clock i) core.labels.node.part)
        ∙ (ap (λ (place : Place). labels.due place network.clock core.labels.node.part) (sym (one_place network.scenario (core_at network n) n))
        ∙ sym (ap (λ (s : NodeState). due_of network n s) is)))

-- ---- copies

abbrev fate_by : LabelData → Option Fec → datagrams.Fate
fate_by part None = discarded
fate_by part (Some fec) = record { outs = []; branches = branches_of part fec }

-- what becomes at a core node of a copy whose label is one of the tree
pub core_arrives : (part : LabelData) (from : NodeId) (label : ℕ) (fec : Fec) (fate : Fate) → tree_of from (use_of part label) ≡ Some fec
    → fate.outs ≡ []
    → fate.branches ≡ branches_of part fec → IsFate (core_fate part from label) fate
core_arrives part from label fec fate tree outs branches =
    subst (λ (o : Option Fec). IsFate (fate_by part o) fate) (sym tree) (record { outs = outs; branches = branches })

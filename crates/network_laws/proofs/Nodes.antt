-- Edges and core nodes are honest, as long as they are sound.
use Rattle.std.proofs.Common.{◌≡◌, ◌<◌, ◌≤◌, ◌==◌, ◌⊎◌, true, false, cond, inl, inr, arith, List, ◌++◌, length, flat_map, Option, Some, None, refl, sym, subst}
use Rattle.std.specs.List.{AllByRecursion}
use Rattle.std.specs.FinMap as maps
use Rattle.std.proofs.lemmas.Bool.{cases_lt}
use Rattle.mv_base.specs.Number.{◌>>?◌}
use Rattle.mv_base.specs.declared.ids.NodeId.{NodeId}
use Rattle.scenario_defs.specs.declared.scenario.Scenario.{Scenario}
use Rattle.label_defs.specs.LabelData.{Place, LabelData}
use Rattle.label_defs.specs.Settling as settling
use Rattle.label_defs.specs.Steps as labels
use Rattle.label_defs.specs.Steps.{label_step}
use Rattle.network_defs.specs.session_defs.System.{Stepped}
use Rattle.network_defs.specs.session_defs.Refined.{Keeps, IsHonestWhile}
use Rattle.network_defs.specs.edge_defs.Edge.{Control, EdgeData}
use Rattle.network_defs.specs.edge_defs.Place.{EdgePlace, addr_of}
use Rattle.network_defs.specs.edge_defs.Steps as steps
use Rattle.network_defs.specs.edge_defs.Steps.{LabelStep, EdgeStepped, control_step, own_label_call, changed_leaves, one_call, label_row, part_after, raised_after}
use Rattle.network_defs.specs.edge_defs.Tunnels.{leaves}
use Rattle.network_defs.specs.Costs.{AreRepriced}
use Rattle.network_defs.proofs.CostLemmas.{repriced_more}
use Rattle.network_defs.specs.Nodes.{NodeState, Edge, CoreNode, Nodes, fresh_node, with_node, following, place_of, label_place_of}
use Rattle.network_defs.specs.node_defs.Puts.{bgp_puts, label_puts}
use Rattle.network_defs.specs.System.{Own, Elapse, Reset, Price, Follow, NodeCall, nodes_called, node_called, core_called, core_stepped, edge_stepped, call_of}
use Rattle.network_laws.specs.Sound.{SoundScenario, SoundControl, SoundPart, SoundNode, IsBare, Sound}
use Rattle.network_laws.specs.Honest.{IsSoundNodeCall, sound_system}
use Rattle.network_laws.proofs.BgpPuts.{bgp_puts_are_put}
use Rattle.network_laws.proofs.LabelCalls.{RaisesNone, edge_calls_are_sound, own_call_is_sound, own_call_raises_none}
use Rattle.network_laws.proofs.LabelEnds.{IsNoRaise, no_ends_no_puts, ends_stay_empty, own_ends_stay_empty}
use Rattle.network_laws.proofs.Lists.{each_append}
use Rattle.network_laws.proofs.LabelPuts.{IsSpelledPut, IsRouterAddr, node_addr_is_router, part_stays_sound, puts_are_sound, label_puts_are_put, row_stays_sound, row_puts_are_put}
use Rattle.network_laws.proofs.LabelSound.{IsSoundLabelCall}
use Rattle.network_laws.proofs.LabelTaken.{carried_is_sound}
use Rattle.network_laws.proofs.NodeCalls.{rerouted_is_good, IsGoodCall, own_is_good, taking_is_good, taking_raises_none, fresh_is_sound, fresh_is_bare, changed_node}

module _ (scenario : Scenario) (nodes : Nodes) (s : Sound scenario nodes) where
  its_lines : SoundScenario nodes.scenario
  its_lines = subst SoundScenario (sym s.same) s.lines

  is_within : (n : NodeId) → n.0 < length scenario.nodes → n.0 < length nodes.scenario.nodes
  is_within n lt = subst (λ (own : Scenario). n.0 < length own.nodes) (sym s.same) lt

  router : (n : NodeId) → n.0 < length scenario.nodes → IsRouterAddr (addr_of nodes.scenario n)
  router n lt = node_addr_is_router nodes.scenario n its_lines (is_within n lt)

  abbrev own_place : NodeId → Place
  own_place n = label_place_of nodes n

  -- ---- an edge

  abbrev edge_calls : NodeId → EdgeData → steps.Call → List labels.Call
  edge_calls n edge call =
      one_call (own_label_call call) ++ changed_leaves (leaves (place_of nodes n) edge.control)
      (leaves (place_of nodes n) (control_step (place_of nodes n) nodes.clock edge.control call))

  edge_keeps : (n : NodeId) (edge : EdgeData) (call : steps.Call) → n.0 < length scenario.nodes → SoundNode (Edge edge) → IsGoodCall call
      → Keeps (Sound scenario) (edge_stepped nodes n edge call)
  edge_keeps n edge call lt sound good = by (label_row place nodes.clock edge.part calls) refl
    where
      place : EdgePlace
      place = place_of nodes n

      calls : List labels.Call
      calls = edge_calls n edge call

      control : Control
      control = control_step place nodes.clock edge.control call

      control_is : SoundControl control
      control_is = good.control place nodes.clock edge.control its_lines sound.0

      stepped : EdgeStepped → Stepped Nodes
      stepped new = record {
        state = with_node nodes n (Edge new.edge);
        puts = bgp_puts place edge.control new.edge.control ++ flat_map (label_puts n (addr_of nodes.scenario n) (own_place n) nodes.clock) new.row;
      }

      after_row : List LabelStep → EdgeStepped
      after_row row =
          record {
            edge = record { control = control; part = part_after edge.part row; raised = raised_after nodes.clock edge.raised call };
            row =
                row;
          }

      by : (o : Option (List LabelStep)) → label_row place nodes.clock edge.part calls ≡ o
          → Keeps (Sound scenario) ((o >>? λ row. Some (after_row row)) >>? λ new. Some (stepped new))
      by None e = tt
      by (Some row) e =
          let thereafter =
          row_stays_sound place nodes.clock edge.part calls row sound.1
          (edge_calls_are_sound place edge.control control call sound.0 control_is good.takes) e in (
            each_append IsSpelledPut (bgp_puts place edge.control control)
                (flat_map (label_puts n (addr_of nodes.scenario n) (own_place n) nodes.clock) row)
                (bgp_puts_are_put place edge.control control its_lines sound.0 control_is (is_within n lt))
                (row_puts_are_put n (addr_of nodes.scenario n) (own_place n) nodes.clock row (router n lt) thereafter.1),
            changed_node scenario nodes n (Edge (record {
              control = control;
              part = part_after edge.part row;
              raised =
                  raised_after nodes.clock edge.raised call;
            })) s (control_is, thereafter.0) (λ past. absurd (omega (arith, lt, past))),
          )

  -- ---- a core node

  -- it is one of the scenario, or none of its ends is up and none comes up by the call
  abbrev IsPlaced : NodeId → LabelData → labels.Call → Type 0
  IsPlaced n part call = (n.0 < length scenario.nodes) ⊎ ((part.ends ≡ maps.empty) × IsNoRaise call)

  core_puts : (n : NodeId) (part : LabelData) (call : labels.Call) (new : settling.Stepped) → SoundPart part → IsSoundLabelCall call
      → IsPlaced n part call → label_step (own_place n) nodes.clock part call ≡ Some new
      → AllByRecursion IsSpelledPut (label_puts n (addr_of nodes.scenario n) (own_place n) nodes.clock
      (record { old = part; call = call; new = new }))
  core_puts n part call new sound heard (inl lt) e =
      label_puts_are_put n (addr_of nodes.scenario n) (own_place n) nodes.clock (record { old = part; call = call; new = new }) (router n lt)
      (puts_are_sound (own_place n) nodes.clock part call new sound heard e)
  core_puts n part call new sound heard (inr bare) e =
      subst (AllByRecursion IsSpelledPut) (sym (no_ends_no_puts n (addr_of nodes.scenario n) (own_place n) nodes.clock
      (record { old = part; call = call; new = new }) (own_ends_stay_empty (own_place n) nodes.clock part call bare.1 bare.0))) tt

  core_bare : (n : NodeId) (part : LabelData) (call : labels.Call) (new : settling.Stepped) → IsPlaced n part call
      → label_step (own_place n) nodes.clock part call ≡ Some new → length scenario.nodes ≤ n.0 → new.part.ends ≡ maps.empty
  core_bare n part call new (inl lt) e past = absurd (omega (arith, lt, past))
  core_bare n part call new (inr bare) e past = ends_stay_empty (own_place n) nodes.clock part call new bare.1 bare.0 e

  core_keeps : (n : NodeId) (part : LabelData) (call : labels.Call) → SoundPart part → IsSoundLabelCall call → IsPlaced n part call
      → Keeps (Sound scenario) (core_stepped nodes n part call)
  core_keeps n part call sound heard placed = by (label_step (own_place n) nodes.clock part call) refl
    where
      stepped : settling.Stepped → Stepped Nodes
      stepped new = record {
        state = with_node nodes n (CoreNode new.part);
        puts = label_puts n (addr_of nodes.scenario n) (own_place n) nodes.clock (record { old = part; call = call; new = new });
      }

      by : (o : Option settling.Stepped) → label_step (own_place n) nodes.clock part call ≡ o
          → Keeps (Sound scenario) (o >>? λ new. Some (stepped new))
      by None e = tt
      by (Some new) e = (
        core_puts n part call new sound heard placed e,
        changed_node scenario nodes n (CoreNode new.part) s (part_stays_sound (own_place n) nodes.clock part call new sound heard e)
            (core_bare n part call new placed e),
      )

  core_call_keeps : (n : NodeId) (part : LabelData) (call : steps.Call) → SoundPart part → IsGoodCall call
      → (n.0 < length scenario.nodes) ⊎ ((part.ends ≡ maps.empty) × RaisesNone call)
      → Keeps (Sound scenario) (core_called nodes n part (own_label_call call))
  core_call_keeps n part call sound good placed = by (own_label_call call) refl
    where
      place_by : (own : labels.Call) → own_label_call call ≡ Some own → (n.0 < length scenario.nodes) ⊎ ((part.ends ≡ maps.empty) × RaisesNone call)
          → IsPlaced n part own
      place_by own e (inl lt) = inl lt
      place_by own e (inr bare) = inr (bare.0, own_call_raises_none call own bare.1 e)

      by : (o : Option labels.Call) → own_label_call call ≡ o → Keeps (Sound scenario) (core_called nodes n part o)
      by None e = (tt, s)
      by (Some own) e = core_keeps n part own sound (own_call_is_sound call own good.takes e) (place_by own e placed)

  -- ---- nodes

  node_keeps : (n : NodeId) (state : NodeState) (call : steps.Call) → n.0 < length scenario.nodes → SoundNode state → IsGoodCall call
      → Keeps (Sound scenario) (node_called nodes n state call)
  node_keeps n (Edge edge) call lt sound good = edge_keeps n edge call lt sound good
  node_keeps n (CoreNode part) call lt sound good = core_call_keeps n part call sound good (inl lt)

  bare_keeps : (n : NodeId) (state : NodeState) (call : steps.Call) → IsBare state → RaisesNone call → SoundNode state → IsGoodCall call
      → Keeps (Sound scenario) (node_called nodes n state call)
  bare_keeps n (Edge edge) call bare none sound good = absurd bare
  bare_keeps n (CoreNode part) call bare none sound good = core_call_keeps n part call sound good (inr (bare, none))

  -- any node, at a call that raises no end
  any_keeps : (n : NodeId) (call : steps.Call) → RaisesNone call → IsGoodCall call → Keeps (Sound scenario) (node_called nodes n (nodes.node n) call)
  any_keeps n call none good = elim (cases_lt n.0 (length scenario.nodes)) [
    | inl lt ↦ node_keeps n (nodes.node n) call lt (s.node n) good
    | inr past ↦ bare_keeps n (nodes.node n) call (s.outside n past) none (s.node n) good
  ]

-- the node takes over the present costs
pub followed : (scenario : Scenario) (nodes : Nodes) (n : NodeId) → Sound scenario nodes → Sound scenario (following nodes n)
followed scenario nodes n s = record {
  same = s.same;
  lines = s.lines;
  links = s.links;
  known = λ m. elim (m.0 == n.0) as (λ t. AreRepriced scenario.links (cond t nodes.links (nodes.known m))) [ true ↦ s.links | false ↦ s.known m ];
  node = s.node;
  outside = s.outside;
}

pub call_keeps : (scenario : Scenario) (nodes : Nodes) → Sound scenario nodes → (call : NodeCall) → IsSoundNodeCall scenario call
    → Keeps (Sound scenario) (nodes_called call nodes)
call_keeps scenario nodes s (Own n call) sound = node_keeps scenario nodes s n (nodes.node n) call sound.0 (s.node n) (own_is_good call sound.1)
call_keeps scenario nodes s (Elapse ticks) sound =
    (tt, record { same = s.same; lines = s.lines; links = s.links; known = s.known; node = s.node; outside = s.outside })
call_keeps scenario nodes s (Reset n) sound = (
  tt,
  changed_node scenario nodes n (fresh_node nodes.scenario n) s (fresh_is_sound nodes.scenario n (its_lines scenario nodes s))
      (λ past. subst (λ (own : Scenario). IsBare (fresh_node own n)) (sym s.same) (fresh_is_bare scenario n past)),
)
call_keeps scenario nodes s (Price a b cost) sound = (
  tt,
  record {
    same = s.same;
    lines = s.lines;
    links = repriced_more scenario.links nodes.links a b cost s.links sound;
    known = s.known;
    node = s.node;
    outside = s.outside;
  },
)
call_keeps scenario nodes s (Follow n) sound =
    node_keeps scenario (following nodes n) (followed scenario nodes n s) n (nodes.node n) steps.Rerouted sound (s.node n) rerouted_is_good

pub honest_nodes : (scenario : Scenario) → IsHonestWhile (sound_system scenario) (Sound scenario)
honest_nodes scenario = record {
  taken = λ direction message nodes s carried. any_keeps scenario nodes s direction.to (call_of direction.from message)
      (taking_raises_none direction.from message) (taking_is_good direction.from message (carried_is_sound direction.kind message carried));
  called = λ call nodes s. call_keeps scenario nodes s call.call call.sound;
}

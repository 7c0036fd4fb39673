-- No act but those of the event `cost` changes the costs of links, or those that a node has acted on.
use Rattle.std.specs.Prelude.{⊤, Result, Ok, Err, if◌then◌else◌}
use Rattle.std.proofs.Common.{◌≡◌, ℕ, true, false, cond, List, [], ◌∷◌, take, drop, Option, Some, None}
use Rattle.std.specs.List.{AllByRecursion}
use Rattle.mv_base.specs.Number.{◌>>?◌}
use Rattle.mv_base.specs.declared.core_link.Link.{Link}
use Rattle.mv_base.specs.declared.ids.NodeId.{NodeId}
use Rattle.mv_base.specs.framing.Feed.{fed}
use Rattle.label_defs.specs.LabelData.{LabelData}
use Rattle.label_defs.specs.Steps as labels
use Rattle.label_defs.specs.Steps.{label_step}
use Rattle.scenario_defs.specs.declared.report.ReportLine.{ReportLine}
use Rattle.scenario_defs.specs.declared.report.ReportLine.TheVariants as lines
use Rattle.network_defs.specs.session_defs.Message.{SessionMessage, same_direction, front_of}
use Rattle.network_defs.specs.session_defs.Octets as octets
use Rattle.network_defs.specs.session_defs.Octets.{OctetNetwork, OctetAct, with_step, all_taken, moved, octet_act, octet_run}
use Rattle.network_defs.specs.session_defs.System.{Put, Stepped, Behind, with_earlier}
use Rattle.network_defs.specs.declared.session_defs.direction.Direction.{Direction}
use Rattle.network_defs.specs.edge_defs.Edge.{EdgeData}
use Rattle.network_defs.specs.edge_defs.Steps as steps
use Rattle.network_defs.specs.edge_defs.Steps.{edge_step}
use Rattle.network_defs.specs.Acts.{Act, Tick, Timers, Move, Lose, Notice, RaiseFirst, RaiseSecond, Restart, At, Enter, Land, Drop, Tell, SetCost, Reroute, Acted, with_network, at_node, is_of_session, is_at, leads_to, is_from_peer, with_aged, act}
use Rattle.network_defs.specs.Costs.{Cores}
use Rattle.network_defs.specs.Counts.{direction}
use Rattle.network_defs.specs.Nodes.{NodeState, Edge, CoreNode, Nodes, place_of, label_place_of}
use Rattle.network_defs.specs.System.{NodeCall, Own, Elapse, Reset, Price, Follow, edge_stepped, core_called, node_called, nodes_called, call_of, system}
use Rattle.network_defs.specs.World.{World}
use Rattle.network_defs.proofs.Kept.{Gives, enter_keeps, land_keeps}

-- what is said of costs in a network
pub record Costs : Type 0 where
  pub cores : Cores
  pub links : List Link
  pub known : NodeId → List Link

abbrev pub costs_of : Nodes → Costs
costs_of nodes = record { cores = nodes.cores; links = nodes.links; known = nodes.known }

-- a call that changes no costs, and an act
abbrev pub IsSteadyCall : NodeCall → Type 0
IsSteadyCall (Price a b cost) = ⊥
IsSteadyCall (Follow n) = ⊥
IsSteadyCall other = ⊤

abbrev pub IsSteadyOctetAct : OctetAct NodeCall → Type 0
IsSteadyOctetAct (octets.Call call) = IsSteadyCall call
IsSteadyOctetAct other = ⊤

abbrev pub IsSteady : Act → Type 0
IsSteady (SetCost a b cost) = ⊥
IsSteady (Reroute n) = ⊥
IsSteady other = ⊤

module _ (costs : Costs) where
  -- the nodes have these costs
  abbrev pub HasCosts : Nodes → Type 0
  HasCosts nodes = costs_of nodes ≡ costs

  abbrev pub StepHas : Option (Stepped Nodes) → Type 0
  StepHas None = ⊤
  StepHas (Some new) = HasCosts new.state

  abbrev pub NetHas : Option (Behind (OctetNetwork Nodes)) → Type 0
  NetHas None = ⊤
  NetHas (Some new) = HasCosts new.network.state

  -- ---- nodes

  then_has : {A : Type 0} (o : Option A) (next : A → Option (Stepped Nodes)) → ((x : A) → StepHas (next x)) → StepHas (o >>? next)
  then_has None next h = tt
  then_has (Some x) next h = h x

  edge_has : (nodes : Nodes) (n : NodeId) (edge : EdgeData) (call : steps.Call) → HasCosts nodes → StepHas (edge_stepped nodes n edge call)
  edge_has nodes n edge call h = then_has (edge_step (place_of nodes n) nodes.clock edge call) _ (λ new. h)

  core_has : (nodes : Nodes) (n : NodeId) (part : LabelData) (o : Option labels.Call) → HasCosts nodes → StepHas (core_called nodes n part o)
  core_has nodes n part None h = h
  core_has nodes n part (Some call) h = then_has (label_step (label_place_of nodes n) nodes.clock part call) _ (λ new. h)

  pub called_has : (nodes : Nodes) (n : NodeId) (node : NodeState) (call : steps.Call) → HasCosts nodes → StepHas (node_called nodes n node call)
  called_has nodes n (Edge edge) call h = edge_has nodes n edge call h
  called_has nodes n (CoreNode part) call h = core_has nodes n part (steps.own_label_call call) h

  system_has : (call : NodeCall) → IsSteadyCall call → (nodes : Nodes) → HasCosts nodes → StepHas (nodes_called call nodes)
  system_has (Own n call) is nodes h = called_has nodes n (nodes.node n) call h
  system_has (Elapse ticks) is nodes h = h
  system_has (Reset n) is nodes h = h
  system_has (Price a b cost) is nodes h = absurd is
  system_has (Follow n) is nodes h = absurd is

  -- ---- octets

  step_net : (old : OctetNetwork Nodes) (o : Option (Stepped Nodes)) → StepHas o → NetHas (with_step old o)
  step_net old None h = tt
  step_net old (Some new) h = h

  earlier_net : (puts : List Put) (o : Option (Behind (OctetNetwork Nodes))) → NetHas o → NetHas (with_earlier puts o)
  earlier_net puts None h = tt
  earlier_net puts (Some new) h = h

  then_net : (o : Option (Behind (OctetNetwork Nodes))) (next : OctetNetwork Nodes → Option (Behind (OctetNetwork Nodes))) → NetHas o
      → ((network : OctetNetwork Nodes) → HasCosts network.state → NetHas (next network))
      → NetHas (o >>? λ new. with_earlier new.puts (next new.network))
  then_net None next h k = tt
  then_net (Some new) next h k = earlier_net new.puts (next new.network) (k new.network h)

  taken_net : (over : Direction) (messages : List SessionMessage) (old : OctetNetwork Nodes) → HasCosts old.state
      → NetHas (all_taken system old over messages)
  taken_net over [] old h = h
  taken_net over (message ∷ more) old h =
      then_net (with_step old (system.taken over message old.state)) (λ network. all_taken system network over more)
      (step_net old (system.taken over message old.state) (called_has old.state over.to (old.state.node over.to) (call_of over.from message) h))
      (λ network k. taken_net over more network k)

  moved_net : (over : Direction) (count : ℕ) (old : OctetNetwork Nodes) → HasCosts old.state → NetHas (moved system old over count)
  moved_net over count old h =
      let new = fed (front_of over.kind) (old.stream over) (take count (old.transit over)) in
      let left : OctetNetwork Nodes = record old {
        transit = λ other. if same_direction other over then drop count (old.transit over) else old.transit other;
        stream = λ other. if same_direction other over then record new { waiting = [] } else old.stream other;
      } in
      taken_net over new.waiting left h

  act_net : (one : OctetAct NodeCall) → IsSteadyOctetAct one → (old : OctetNetwork Nodes) → HasCosts old.state → NetHas (octet_act system old one)
  act_net (octets.Move over count) is old h =
      elim (old.joined over) as (λ b. NetHas (cond b (moved system old over count) (Some (record { network = old; puts = [] }))))
      [ true ↦ moved_net over count old h | false ↦ h ]
  act_net (octets.Call call) is old h = step_net old (nodes_called call old.state) (system_has call is old.state h)
  act_net (octets.Lose hit) is old h = h
  act_net (octets.Forget hit) is old h = h
  act_net (octets.Join hit) is old h = h

  pub run_net : (acts : List (OctetAct NodeCall)) → AllByRecursion IsSteadyOctetAct acts → (old : OctetNetwork Nodes) → HasCosts old.state
      → NetHas (octet_run system old acts)
  run_net [] is old h = h
  run_net (one ∷ more) is old h =
      then_net (octet_act system old one) (λ network. octet_run system network more) (act_net one is.0 old h)
      (λ network k. run_net more is.1 network k)

  -- ---- acts

  abbrev pub WorldCosts : World → Type 0
  WorldCosts world = HasCosts world.network.state

  with_net : (world : World) (before : List ReportLine) (found : Option (Behind (OctetNetwork Nodes))) (node : NodeId) → NetHas found
      → Gives WorldCosts (with_network world before found node)
  with_net world before None node h = tt
  with_net world before (Some new) node h = h

  at_net : (world : World) (node : NodeId) (before : List ReportLine) (acts : List (OctetAct NodeCall)) → AllByRecursion IsSteadyOctetAct acts
      → WorldCosts world → Gives WorldCosts (at_node world node before acts)
  at_net world node before acts is h = with_net world before (octet_run system world.network acts) node (run_net acts is world.network h)

  aged_net : (found : Result Acted NodeId) → Gives WorldCosts found → Gives WorldCosts (with_aged found)
  aged_net (Err node) h = tt
  aged_net (Ok new) h = h

  pub act_costs : (one : Act) → IsSteady one → (world : World) → WorldCosts world → Gives WorldCosts (act world one)
  act_costs (Tick ticks) is world h =
      aged_net (at_node world (record { 0 = 0 }) [] (octets.Call (Elapse ticks) ∷ []))
      (at_net world (record { 0 = 0 }) [] (octets.Call (Elapse ticks) ∷ []) (tt, tt) h)
  act_costs (Timers n) is world h = at_net world n [] (octets.Call (Own n steps.Timers) ∷ []) (tt, tt) h
  act_costs (Move kind from to count) is world h =
      at_net world to (lines.Take kind from to (take count (world.network.transit (direction kind from to))) ∷ [])
      (octets.Move (direction kind from to) count ∷ []) (tt, tt) h
  act_costs (Lose kind a b) is world h = at_net world a [] (octets.Lose (is_of_session kind a b) ∷ []) (tt, tt) h
  act_costs (Notice kind a b) is world h =
      at_net world a [] (octets.Forget (is_from_peer kind a b) ∷ octets.Call (Own a (steps.Noticed kind b)) ∷ []) (tt, (tt, tt)) h
  act_costs (RaiseFirst kind a b) is world h =
      at_net world a [] (octets.Join (is_of_session kind a b) ∷ octets.Call (Own a (steps.Raised kind b)) ∷ []) (tt, (tt, tt)) h
  act_costs (RaiseSecond kind a b) is world h = at_net world b [] (octets.Call (Own b (steps.Raised kind a)) ∷ []) (tt, tt) h
  act_costs (Restart n) is world h =
      at_net world n [] (octets.Lose (is_at n) ∷ octets.Forget (leads_to n) ∷ octets.Call (Reset n) ∷ []) (tt, (tt, (tt, tt))) h
  act_costs (At n call) is world h = at_net world n [] (octets.Call (Own n call) ∷ []) (tt, tt) h
  act_costs (Enter vrf) is world h = enter_keeps (λ network. HasCosts network.state) world vrf h
  act_costs (Land from to place) is world h = land_keeps (λ network. HasCosts network.state) world from to place h
  act_costs (Drop from to place) is world h = h
  act_costs Tell is world h = h
  act_costs (SetCost a b cost) is world h = absurd is
  act_costs (Reroute n) is world h = absurd is

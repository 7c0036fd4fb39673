-- The whole network where nothing has happened but at LDP sessions: what acts make of it.
use Rattle.std.proofs.Common.{◌≡◌, ℕ, ◌+◌, ◌==◌, ◌&&◌, ◌||◌, Bool, true, false, cond, not, if◌then◌else◌, List, [], ◌∷◌, map, Option, Some, Ok, refl, sym, ap, ◌∙◌}
use Rattle.std.specs.FinMap as maps
use Rattle.std.specs.FinMap.{FinMap}
use Rattle.mv_base.specs.Number.{◌>>?◌}
use Rattle.mv_base.specs.declared.ids.NodeId.{NodeId}
use Rattle.mv_base.specs.framing.Feed.{unfed}
use Rattle.scenario_defs.specs.declared.event.Kind.TheVariants as kinds
use Rattle.scenario_defs.specs.declared.scenario.Scenario.{Scenario}
use Rattle.label_defs.specs.declared.end.End.{End}
use Rattle.label_defs.specs.Keys.{node_cmp}
use Rattle.label_defs.specs.Steps.{hold_run, raised_end}
use Rattle.label_defs.proofs.KeyLemmas.{node_cmp_total, node_cmp_exact}
use Rattle.network_defs.specs.session_defs.Octets as octets
use Rattle.network_defs.specs.session_defs.Octets.{OctetNetwork, OctetAct, octet_run, with_step}
use Rattle.network_defs.specs.session_defs.System.{Stepped, with_earlier}
use Rattle.network_defs.specs.declared.session_defs.direction.Direction.{Direction}
use Rattle.edge_defs.specs.Steps as steps
use Rattle.network_defs.specs.Acts.{Act, Tick, Timers, Lose, Notice, RaiseFirst, RaiseSecond, act, at_node, with_network, with_aged, put_lines, put_line, is_of_session, is_from_peer}
use Rattle.network_defs.specs.Costs.{Cores}
use Rattle.network_defs.specs.Counts.{directions}
use Rattle.network_defs.specs.Nodes.{NodeState, Nodes, with_node, is_edge}
use Rattle.network_defs.specs.System.{NodeCall, Own, Elapse, nodes_called, system}
use Rattle.network_defs.specs.World.{World, start}
use Rattle.network_defs.proofs.Nothing.{flat_none, ordered, without, entries_made, removed}
use Rattle.network_defs.proofs.Idle.{as_node, idle, raised_node, timed_node, noticed_node}

-- ---- such a network

-- a node: whether it is an edge, and the ends of its LDP sessions
pub record Plain : Type 0 where
  pub edge : Bool
  pub ends : List (NodeId × End)

pub record Small : Type 0 where
  pub clock : ℕ
  pub joined : Direction → Bool
  pub node : NodeId → Plain

abbrev pub node_of : ℕ → Plain → NodeState
node_of count plain = as_node plain.edge (idle count (maps.from_entries plain.ends))

abbrev pub nodes_of : Scenario → Cores → Small → Nodes
nodes_of scenario cores small = record {
  scenario = scenario;
  cores = cores;
  links = scenario.links;
  known = λ n. scenario.links;
  clock = small.clock;
  node = λ n. node_of scenario.labels (small.node n);
}

abbrev pub network_of : Scenario → Cores → Small → OctetNetwork Nodes
network_of scenario cores small =
    record { state = nodes_of scenario cores small; joined = small.joined; transit = λ over. []; stream = λ over. unfed }

abbrev pub world_of : Scenario → Cores → Small → World
world_of scenario cores small = record { network = network_of scenario cores small; copies = λ u n. []; datagrams = [] }

abbrev pub at_start : Scenario → Small
at_start scenario = record { clock = 0; joined = λ over. false; node = λ n. record { edge = is_edge scenario n; ends = [] } }

pub started : (scenario : Scenario) (cores : Cores) → start scenario cores ≡ world_of scenario cores (at_start scenario)
started scenario cores = refl

-- ---- what becomes of it

-- one node gets these ends
abbrev changed : Small → NodeId → List (NodeId × End) → Small
changed small n ends = record small { node = λ m. if m.0 == n.0 then record { edge = (small.node n).edge; ends = ends } else small.node m }

abbrev pub end_up : NodeId → NodeId → Small → Small
end_up n peer small = changed small n ((peer, raised_end small.clock) ∷ (small.node n).ends)

abbrev pub holds_up : ℕ → NodeId → Small → Small
holds_up life n small =
    changed small n (map (λ (entry : NodeId × End). (entry.0, hold_run life small.clock entry.1)) (ordered node_cmp (small.node n).ends))

abbrev pub end_down : NodeId → NodeId → Small → Small
end_down n peer small = changed small n (without node_cmp peer (small.node n).ends)

abbrev pub later : ℕ → Small → Small
later ticks small = record small { clock = small.clock + ticks }

abbrev pub joined_also : (Direction → Bool) → Small → Small
joined_also hit small = record small { joined = λ over. small.joined over || hit over }

abbrev pub joined_but : (Direction → Bool) → Small → Small
joined_but hit small = record small { joined = λ over. small.joined over && not (hit over) }

-- ---- calls

through : {A B : Type 0} (f : A → B) (b : Bool) (x y : A) → cond b (f x) (f y) ≡ f (cond b x y)
through f true x y = refl
through f false x y = refl

either : {A : Type 0} (b : Bool) (x : A) → cond b x x ≡ x
either true x = refl
either false x = refl

-- a call after which the network is one of these again, and nothing is put
abbrev Makes : Scenario → Cores → NodeCall → Small → Small → Type 0
Makes scenario cores call old new = nodes_called call (nodes_of scenario cores old) ≡ Some (record { state = nodes_of scenario cores new; puts = [] })

with_changed : (scenario : Scenario) (cores : Cores) (small : Small) (n : NodeId) (ends : List (NodeId × End))
    → with_node (nodes_of scenario cores small) n (node_of scenario.labels (record { edge = (small.node n).edge; ends = ends }))
    ≡ nodes_of scenario cores (changed small n ends)
with_changed scenario cores small n ends = λ i. record {
  scenario = scenario;
  cores = cores;
  links = scenario.links;
  known = λ n. scenario.links;
  clock = small.clock;
  node = λ m. through (node_of scenario.labels) (m.0 == n.0) (record { edge = (small.node n).edge; ends = ends }) (small.node m) i;
}

as_changed : (scenario : Scenario) (cores : Cores) (small : Small) (n : NodeId) (maps_ends : FinMap node_cmp End) (ends : List (NodeId × End))
    → maps_ends ≡ maps.from_entries ends
    → ◌≡◌ {A = Option (Stepped Nodes)} (Some (record {
      state =
          with_node (nodes_of scenario cores small) n (as_node (small.node n).edge (idle scenario.labels maps_ends));
      puts = [];
    }))
    (Some (record { state = nodes_of scenario cores (changed small n ends); puts = [] }))
as_changed scenario cores small n maps_ends ends e =
    (λ i. Some (record { state = with_node (nodes_of scenario cores small) n (as_node (small.node n).edge (idle scenario.labels (e i))); puts = [] }))
    ∙ (λ i. Some (record { state = with_changed scenario cores small n ends i; puts = [] }))

makes_end_up : (scenario : Scenario) (cores : Cores) (n peer : NodeId) (small : Small)
    → Makes scenario cores (Own n (steps.Raised kinds.Ldp peer)) small (end_up n peer small)
makes_end_up scenario cores n peer small =
    raised_node (nodes_of scenario cores small) n peer (small.node n).edge scenario.labels (maps.from_entries (small.node n).ends)
    ∙ as_changed scenario cores small n _ ((peer, raised_end small.clock) ∷ (small.node n).ends) refl

makes_holds_up : (scenario : Scenario) (cores : Cores) (n : NodeId) (small : Small)
    → Makes scenario cores (Own n steps.Timers) small (holds_up scenario.life n small)
makes_holds_up scenario cores n small =
    let run : List (NodeId × End) → List (NodeId × End) = map (λ (entry : NodeId × End). (entry.0, hold_run scenario.life small.clock entry.1)) in
    timed_node (nodes_of scenario cores small) n (small.node n).edge scenario.labels (maps.from_entries (small.node n).ends)
    ∙ as_changed scenario cores small n _ (run (ordered node_cmp (small.node n).ends))
    (ap (λ (all : List (NodeId × End)). maps.from_entries {R = node_cmp} (run all)) (entries_made node_cmp_total (small.node n).ends))

makes_end_down : (scenario : Scenario) (cores : Cores) (n peer : NodeId) (small : Small)
    → Makes scenario cores (Own n (steps.Noticed kinds.Ldp peer)) small (end_down n peer small)
makes_end_down scenario cores n peer small =
    noticed_node (nodes_of scenario cores small) n peer (small.node n).edge scenario.labels (maps.from_entries (small.node n).ends)
    ∙ as_changed scenario cores small n _ (without node_cmp peer (small.node n).ends) (removed node_cmp_total node_cmp_exact peer (small.node n).ends)

-- ---- acts

no_lines : (scenario : Scenario) → put_lines scenario [] ≡ []
no_lines scenario = flat_none (put_line []) (λ over. refl) (directions scenario)

-- the network that is run is one of these again
abbrev Turns : Scenario → Cores → List (OctetAct NodeCall) → Small → Small → Type 0
Turns scenario cores acts old new =
    octet_run system (network_of scenario cores old) acts ≡ Some (record { network = network_of scenario cores new; puts = [] })

turns_call : (scenario : Scenario) (cores : Cores) (call : NodeCall) (old new : Small) → new.joined ≡ old.joined → Makes scenario cores call old new
    → Turns scenario cores (octets.Call call ∷ []) old new
turns_call scenario cores call old new joined makes =
    (λ i. with_step (network_of scenario cores old) (makes i) >>? λ next. with_earlier next.puts
    (Some (record { network = next.network; puts = [] })))
    ∙ (λ i. Some (record {
      network = record {
        state = nodes_of scenario cores new;
        joined = sym joined i;
        transit =
            λ over. either (old.joined over) [] i;
        stream = λ over. unfed;
      };
      puts = [];
    }))

turns_join : (scenario : Scenario) (cores : Cores) (hit : Direction → Bool) (acts : List (OctetAct NodeCall)) (old new : Small)
    → Turns scenario cores acts (joined_also hit old) new → Turns scenario cores (octets.Join hit ∷ acts) old new
turns_join scenario cores hit acts old new turns =
    (λ i. with_earlier [] (octet_run system (record {
      state = nodes_of scenario cores old;
      joined = λ over. old.joined over || hit over;
      transit =
          λ over. either (hit over) [] i;
      stream = λ over. either (hit over) unfed i;
    }) acts))
    ∙ ap (with_earlier []) turns

turns_lose : (scenario : Scenario) (cores : Cores) (hit : Direction → Bool) (old : Small)
    → Turns scenario cores (octets.Lose hit ∷ []) old (joined_but hit old)
turns_lose scenario cores hit old =
    λ i. Some (record {
      network = record {
        state = nodes_of scenario cores old;
        joined = λ over. old.joined over && not (hit over);
        transit =
            λ over. either (hit over) [] i;
        stream = λ over. unfed;
      };
      puts = [];
    })

turns_forget : (scenario : Scenario) (cores : Cores) (hit : Direction → Bool) (acts : List (OctetAct NodeCall)) (old new : Small)
    → Turns scenario cores acts old new → Turns scenario cores (octets.Forget hit ∷ acts) old new
turns_forget scenario cores hit acts old new turns =
    (λ i. with_earlier [] (octet_run system (record {
      state = nodes_of scenario cores old;
      joined = old.joined;
      transit = λ over. [];
      stream =
          λ over. either (hit over && not (old.joined over)) unfed i;
    }) acts))
    ∙ ap (with_earlier []) turns

at_one : (scenario : Scenario) (cores : Cores) (n : NodeId) (acts : List (OctetAct NodeCall)) (old new : Small) → Turns scenario cores acts old new
    → at_node (world_of scenario cores old) n [] acts ≡ Ok (record { world = world_of scenario cores new; lines = [] })
at_one scenario cores n acts old new turns =
    (λ i. with_network (world_of scenario cores old) [] (turns i) n)
    ∙ (λ i. Ok (record { world = world_of scenario cores new; lines = no_lines scenario i }))

-- an act without lines, after which the network is one of these again
abbrev pub Does : Scenario → Cores → Act → Small → Small → Type 0
Does scenario cores what old new = act (world_of scenario cores old) what ≡ Ok (record { world = world_of scenario cores new; lines = [] })

pub ticks : (scenario : Scenario) (cores : Cores) (count : ℕ) (old : Small) → Does scenario cores (Tick count) old (later count old)
ticks scenario cores count old =
    ap with_aged (at_one scenario cores (record { 0 = 0 }) (octets.Call (Elapse count) ∷ []) old (later count old)
    (turns_call scenario cores (Elapse count) old (later count old) refl refl))

pub runs_timers : (scenario : Scenario) (cores : Cores) (n : NodeId) (old : Small) → Does scenario cores (Timers n) old (holds_up scenario.life n old)
runs_timers scenario cores n old =
    at_one scenario cores n (octets.Call (Own n steps.Timers) ∷ []) old (holds_up scenario.life n old)
    (turns_call scenario cores (Own n steps.Timers) old (holds_up scenario.life n old) refl (makes_holds_up scenario cores n old))

pub loses : (scenario : Scenario) (cores : Cores) (a b : NodeId) (old : Small)
    → Does scenario cores (Lose kinds.Ldp a b) old (joined_but (is_of_session kinds.Ldp a b) old)
loses scenario cores a b old =
    at_one scenario cores a (octets.Lose (is_of_session kinds.Ldp a b) ∷ []) old (joined_but (is_of_session kinds.Ldp a b) old)
    (turns_lose scenario cores (is_of_session kinds.Ldp a b) old)

pub takes_notice : (scenario : Scenario) (cores : Cores) (a b : NodeId) (old : Small)
    → Does scenario cores (Notice kinds.Ldp a b) old (end_down a b old)
takes_notice scenario cores a b old =
    at_one scenario cores a (octets.Forget (is_from_peer kinds.Ldp a b) ∷ octets.Call (Own a (steps.Noticed kinds.Ldp b)) ∷ []) old (end_down a b old)
    (turns_forget scenario cores (is_from_peer kinds.Ldp a b) (octets.Call (Own a (steps.Noticed kinds.Ldp b)) ∷ []) old (end_down a b old)
    (turns_call scenario cores (Own a (steps.Noticed kinds.Ldp b)) old (end_down a b old) refl (makes_end_down scenario cores a b old)))

-- a session whose first end is up, and then its second
abbrev pub first_up : NodeId → NodeId → Small → Small
first_up a b small = end_up a b (joined_also (is_of_session kinds.Ldp a b) small)

pub raises_first : (scenario : Scenario) (cores : Cores) (a b : NodeId) (old : Small)
    → Does scenario cores (RaiseFirst kinds.Ldp a b) old (first_up a b old)
raises_first scenario cores a b old =
    let joined = joined_also (is_of_session kinds.Ldp a b) old in
    at_one scenario cores a (octets.Join (is_of_session kinds.Ldp a b) ∷ octets.Call (Own a (steps.Raised kinds.Ldp b)) ∷ []) old (first_up a b old)
    (turns_join scenario cores (is_of_session kinds.Ldp a b) (octets.Call (Own a (steps.Raised kinds.Ldp b)) ∷ []) old (first_up a b old)
    (turns_call scenario cores (Own a (steps.Raised kinds.Ldp b)) joined (first_up a b old) refl (makes_end_up scenario cores a b joined)))

pub raises_second : (scenario : Scenario) (cores : Cores) (a b : NodeId) (old : Small)
    → Does scenario cores (RaiseSecond kinds.Ldp a b) old (end_up b a old)
raises_second scenario cores a b old =
    at_one scenario cores b (octets.Call (Own b (steps.Raised kinds.Ldp a)) ∷ []) old (end_up b a old)
    (turns_call scenario cores (Own b (steps.Raised kinds.Ldp a)) old (end_up b a old) refl (makes_end_up scenario cores b a old))

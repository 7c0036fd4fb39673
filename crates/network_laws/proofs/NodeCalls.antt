-- What the calls of nodes have in common: the control of an edge stays sound, and a label message that is taken is sound.
use Rattle.std.proofs.Common.{◌≡◌, ◌≤◌, ◌==◌, Bool, true, false, cond, inl, inr, Option, Some, None, arith, length, sym, subst}
use Rattle.std.specs.FinMap as maps
use Rattle.std.specs.FinSet as sets
use Rattle.std.proofs.lemmas.Bool.{eqb-true}
use Rattle.std.proofs.lemmas.Option.{slice_get_cases}
use Rattle.std.proofs.lemmas.List.Elements.{recursion_from_All}
use Rattle.mv_base.specs.declared.ids.NodeId.{NodeId}
use Rattle.scenario_defs.specs.declared.scenario.Node.{Node}
use Rattle.scenario_defs.specs.declared.scenario.Scenario.{Scenario}
use Rattle.label_defs.specs.Keys.{node_cmp}
use Rattle.label_defs.specs.LabelData as labels
use Rattle.network_defs.specs.edge_defs.pim_defs.Entries.{entry_cmp}
use Rattle.network_defs.specs.edge_defs.pim_defs.declared.expiry.Expiry.{Expiry}
use Rattle.network_defs.specs.session_defs.Message.{SessionMessage, Bgp, Label}
use Rattle.network_defs.specs.edge_defs.Edge.{Control, note_cmp, pattern_cmp, flow_cmp, no_control}
use Rattle.network_defs.specs.edge_defs.Edge as edges
use Rattle.network_defs.specs.edge_defs.Place.{EdgePlace}
use Rattle.mv_base.specs.core_walks.Topology.{HasCost}
use Rattle.network_defs.specs.Costs.{AreRepriced, Cores}
use Rattle.network_defs.proofs.CostLemmas.{repriced_itself}
use Rattle.network_defs.specs.edge_defs.Steps as steps
use Rattle.network_defs.specs.edge_defs.Steps.{control_step}
use Rattle.network_defs.specs.Nodes.{NodeState, Edge, CoreNode, Nodes, is_edge, fresh_node, start_nodes, with_node}
use Rattle.network_defs.specs.System.{call_of}
use Rattle.network_laws.specs.Sound.{SoundScenario, SoundControl, SoundNode, IsBare, Sound}
use Rattle.network_laws.specs.Honest.{IsSoundCall}
use Rattle.network_laws.proofs.ControlSound.{refreshed_sound, control_stays_sound, update_stays_sound, label_stays_sound}
use Rattle.network_laws.proofs.LabelCalls.{TakesSound, RaisesNone}
use Rattle.network_laws.proofs.LabelPuts.{fresh_part_is_sound}
use Rattle.network_laws.proofs.LabelTaken.{IsSoundMessage}

-- ---- calls

-- It keeps the control of an edge sound, and takes no label message but a sound one.
pub record IsGoodCall (call : steps.Call) : Type 0 where
  pub control : (place : EdgePlace) (now : _) (old : Control) → SoundScenario place.scenario → SoundControl old
      → SoundControl (control_step place now old call)
  pub takes : TakesSound call

own_takes : (call : steps.Call) → IsSoundCall call → TakesSound call
own_takes (steps.Update peer message) s = absurd s
own_takes (steps.Label neighbour message) s = absurd s
own_takes (steps.Customer call) s = tt
own_takes (steps.Raised kind peer) s = tt
own_takes (steps.Noticed kind peer) s = tt
own_takes steps.Timers s = tt
own_takes steps.Rerouted s = absurd s

pub own_is_good : (call : steps.Call) → IsSoundCall call → IsGoodCall call
own_is_good call s = record { control = λ place now old scenario h. control_stays_sound place now old call scenario h s; takes = own_takes call s }

-- a step by other costs
pub rerouted_is_good : IsGoodCall steps.Rerouted
rerouted_is_good = record { control = λ place now old scenario h. refreshed_sound place now old h; takes = tt }

pub taking_is_good : (from : NodeId) (message : SessionMessage) → IsSoundMessage message → IsGoodCall (call_of from message)
taking_is_good from (Bgp message) s =
    record { control = λ place now old scenario h. update_stays_sound place now old from message s.0 scenario h s.1 s.2; takes = tt }
taking_is_good from (Label message) s =
    record { control = λ place now old scenario h. label_stays_sound place now old from message scenario h; takes = s }

pub taking_raises_none : (from : NodeId) (message : SessionMessage) → RaisesNone (call_of from message)
taking_raises_none from (Bgp message) = tt
taking_raises_none from (Label message) = tt

-- ---- nodes in which nothing has happened

no_control_is_sound : SoundControl no_control
no_control_is_sound = record {
  entries = λ at expiry e. (let none = maps.get-empty {X = Expiry} entry_cmp at in absurd cc);
  notes = λ note e. (let none = sets.contains-empty note_cmp note in absurd cc);
  selections = λ key selected e. (let none = maps.get-empty {X = edges.Selected} pattern_cmp key in absurd cc);
  flows = λ flow found e. (let none = maps.get-empty {X = Option edges.Upstream} flow_cmp flow in absurd cc);
  peers = λ peer taken e. (let none = maps.get-empty {X = edges.Taken} node_cmp peer in absurd cc);
}

pub fresh_is_sound : (scenario : Scenario) (n : NodeId) → SoundScenario scenario → SoundNode (fresh_node scenario n)
fresh_is_sound scenario n s =
    let part = fresh_part_is_sound scenario.labels s.rules.settings.labels.1 in
    elim (is_edge scenario n) as (λ b. SoundNode (cond b (Edge (edges.fresh scenario.labels)) (CoreNode (labels.fresh scenario.labels))))
    [ true ↦ (no_control_is_sound, part) | false ↦ part ]

pub fresh_is_bare : (scenario : Scenario) (n : NodeId) → length scenario.nodes ≤ n.0 → IsBare (fresh_node scenario n)
fresh_is_bare scenario n past = elim (slice_get_cases scenario.nodes n.0).1 [
  | inl there ↦ absurd (omega (arith, past, there.1))
  | inr none ↦
      subst (λ (o : Option Node). IsBare (cond (elim o [ None ↦ false | Some node ↦ node.edge ]) (Edge (edges.fresh scenario.labels))
      (CoreNode (labels.fresh scenario.labels)))) (sym none.1) (λ i. maps.empty)
]

pub start_sound : (scenario : Scenario) (cores : Cores) → SoundScenario scenario → Sound scenario (start_nodes scenario cores)
start_sound scenario cores s =
    let itself : AreRepriced scenario.links scenario.links =
    repriced_itself scenario.links (recursion_from_All HasCost scenario.links s.rules.core.topology.costs) in
    record {
      same = λ i. scenario;
      lines = s;
      links = itself;
      known = λ n. itself;
      node = λ n. fresh_is_sound scenario n s;
      outside =
          λ n past. fresh_is_bare scenario n past;
    }

-- ---- one node becomes another

changed_at : (P : NodeState → Type 0) (b : Bool) (new old : NodeState) → (b ≡ true → P new) → P old → P (cond b new old)
changed_at P true new old p q = p (λ i. true)
changed_at P false new old p q = q

pub changed_node : (scenario : Scenario) (nodes : Nodes) (n : NodeId) (new : NodeState) → Sound scenario nodes → SoundNode new
    → (length scenario.nodes ≤ n.0 → IsBare new) → Sound scenario (with_node nodes n new)
changed_node scenario nodes n new s sound bare = record {
  same = s.same;
  lines = s.lines;
  links = s.links;
  known = s.known;
  node = λ m. changed_at SoundNode (m.0 == n.0) new (nodes.node m) (λ e. sound) (s.node m);
  outside =
      λ m past. changed_at IsBare (m.0 == n.0) new (nodes.node m)
      (λ e. bare (let same = eqb-true m.0 n.0 e in subst (λ k. length scenario.nodes ≤ k) same past)) (s.outside m past);
}

-- What an act of a node leaves elsewhere.
use Rattle.std.proofs.Common.{◌≡◌, ◌∙◌, refl, sym, ap, subst, ℕ, ◌==◌, ◌&&◌, Bool, true, false, cond, List, [], ◌∷◌, ◌++◌, if◌then◌else◌, Option, None, Some}
use Rattle.std.proofs.lemmas.List.{append-nil}
use Rattle.std.proofs.lemmas.Option.{same_Some}
use Rattle.mv_base.specs.declared.ids.NodeId.{NodeId}
use Rattle.scenario_defs.specs.Kinds.{same_kind}
use Rattle.label_defs.specs.LabelData.{LabelData}
use Rattle.label_defs.specs.Steps as labels
use Rattle.label_defs.specs.Steps.{label_step, step_puts}
use Rattle.label_defs.proofs.KeyLemmas.{node_apart}
use Rattle.label_defs.proofs.SettleLemmas.{bind_some}
use Rattle.network_defs.specs.session_defs.Message.{SessionMessage, same_direction}
use Rattle.network_defs.specs.session_defs.Octets as octets
use Rattle.network_defs.specs.session_defs.Octets.{OctetNetwork}
use Rattle.network_defs.specs.session_defs.System.{Behind, Put, Stepped, octets_over, with_earlier}
use Rattle.network_defs.specs.declared.session_defs.direction.Direction.{Direction}
use Rattle.edge_defs.specs.Place.{addr_of}
use Rattle.edge_defs.specs.Steps.{Call, edge_step, own_label_call}
use Rattle.network_defs.specs.node_defs.EdgeState.{call_of, edge_puts}
use Rattle.network_defs.specs.node_defs.Puts.{label_puts}
use Rattle.network_defs.specs.Nodes.{Nodes, NodeState, Edge, CoreNode, label_place_of, place_of, with_node}
use Rattle.network_defs.specs.System.{core_called, node_called, system, unchanged}
use Rattle.wire_laws.specs.AnyNodes.{IsElsewhere}
use Rattle.wire_laws.proofs.Calls.{earlier_some, over_both, with_some}
use Rattle.wire_laws.proofs.Puts.{AreFrom, append_assoc, edge_from, messages_from}

-- ---- a step of a node

-- what a step of a node leaves of all nodes
pub record StepsAt (n : NodeId) (nodes : Nodes) (new : Stepped Nodes) : Type 0 where
  pub scenario : new.state.scenario ≡ nodes.scenario
  pub cores : new.state.cores ≡ nodes.cores
  pub links : new.state.links ≡ nodes.links
  pub known : (m : NodeId) → new.state.known m ≡ nodes.known m
  pub clock : new.state.clock ≡ nodes.clock
  pub node : (m : NodeId) → ¬ (m ≡ n) → new.state.node m ≡ nodes.node m
  pub from : AreFrom n new.puts

at_node : (n : NodeId) (nodes : Nodes) (state : NodeState) (puts : List Put) → AreFrom n puts
    → StepsAt n nodes (record { state = with_node nodes n state; puts = puts })
at_node n nodes state puts from = record {
  scenario = refl;
  cores = refl;
  links = refl;
  known = λ m. refl;
  clock = refl;
  node = λ m apart i. cond (node_apart m n apart i) state (nodes.node m);
  from = from;
}

core_steps : (n : NodeId) (nodes : Nodes) (part : LabelData) (own : Option labels.Call) (new : Stepped Nodes)
    → core_called nodes n part own ≡ Some new → StepsAt n nodes new
core_steps n nodes part None new e = subst (StepsAt n nodes) (same_Some (unchanged nodes) new e) (record {
  scenario = refl;
  cores = refl;
  links = refl;
  known = λ m. refl;
  clock = refl;
  node = λ m apart. refl;
  from = tt;
})
core_steps n nodes part (Some own) new e =
    let x = bind_some (label_step (label_place_of nodes n) nodes.clock part own)
    (λ made. Some (record {
      state = with_node nodes n (CoreNode made.part);
      puts =
          label_puts n (addr_of nodes.scenario n) (label_place_of nodes n) nodes.clock (record { old = part; call = own; new = made });
    })) new e in
    subst (StepsAt n nodes) (same_Some _ new x.2)
    (at_node n nodes (CoreNode x.0.part) _ (messages_from n (addr_of nodes.scenario n)
    (step_puts (label_place_of nodes n) nodes.clock part own x.0.puts)))

pub steps_at : (n : NodeId) (nodes : Nodes) (state : NodeState) (call : Call) (new : Stepped Nodes) → node_called nodes n state call ≡ Some new
    → StepsAt n nodes new
steps_at n nodes (Edge edge) call new e =
    let x = bind_some (edge_step (place_of nodes n) nodes.clock edge call)
    (λ made. Some (record { state = with_node nodes n (Edge made.edge); puts = edge_puts (place_of nodes n) nodes.clock edge made })) new e in
    subst (StepsAt n nodes) (same_Some _ new x.2) (at_node n nodes (Edge x.0.edge) _ (edge_from (place_of nodes n) nodes.clock edge x.0))
steps_at n nodes (CoreNode part) call new e = core_steps n nodes part (own_label_call call) new e

-- ---- what is put goes over the node's own directions

apart_and : (a b : Bool) → (a && false && b) ≡ false
apart_and true b = refl
apart_and false b = refl

pub none_over : (n : NodeId) (puts : List Put) → AreFrom n puts → (over : Direction) → ¬ (over.from ≡ n) → octets_over over puts ≡ []
none_over n [] from over apart = refl
none_over n (put ∷ more) from over apart = λ i. cond (no_way i) put.unit.octets [] ++ none_over n more from.1 over apart i
  where
    no_way : same_direction put.over over ≡ false
    no_way = (λ i. same_kind put.over.kind over.kind && (node_apart put.over.from over.from (λ e. apart (sym e ∙ from.0)) i)
        && (put.over.to.0 == over.to.0))
        ∙ apart_and (same_kind put.over.kind over.kind) (put.over.to.0 == over.to.0)

-- ---- an act

pub stepped_elsewhere : (n : NodeId) (old : OctetNetwork Nodes) (st : Stepped Nodes) → StepsAt n old.state st
    → IsElsewhere n old old.transit (record { network = octets.with_octets old st; puts = st.puts })
stepped_elsewhere n old st steps = record {
  scenario = steps.scenario;
  cores = steps.cores;
  links = steps.links;
  known = steps.known;
  clock = steps.clock;
  nodes = steps.node;
  streams = λ over apart. refl;
  joined = λ over. refl;
  transit = λ over. refl;
  puts = none_over n st.puts steps.from;
}

-- nothing happens
nothing_elsewhere : (n : NodeId) (old : OctetNetwork Nodes) → IsElsewhere n old old.transit (record { network = old; puts = [] })
nothing_elsewhere n old = record {
  scenario = refl;
  cores = refl;
  links = refl;
  known = λ m. refl;
  clock = refl;
  nodes = λ m apart. refl;
  streams = λ over apart. refl;
  joined = λ over. refl;
  transit = λ over. by (old.joined over) (old.transit over);
  puts = λ over apart. refl;
}
  where
    by : (b : Bool) (l : List ℕ) → l ≡ (if b then l ++ [] else l)
    by true l = sym (append-nil l)
    by false l = refl

-- one act after another
both_elsewhere : (n : NodeId) (old : OctetNetwork Nodes) (first next : Behind (OctetNetwork Nodes)) → IsElsewhere n old old.transit first
    → IsElsewhere n first.network first.network.transit next
    → IsElsewhere n old old.transit (record { network = next.network; puts = first.puts ++ next.puts })
both_elsewhere n old first next a b = record {
  scenario = b.scenario ∙ a.scenario;
  cores = b.cores ∙ a.cores;
  links = b.links ∙ a.links;
  known = λ m. b.known m ∙ a.known m;
  clock = b.clock ∙ a.clock;
  nodes = λ m apart. b.nodes m apart ∙ a.nodes m apart;
  streams = λ over apart. b.streams over apart ∙ a.streams over apart;
  joined = λ over. b.joined over ∙ a.joined over;
  transit = λ over.
      b.transit over
      ∙ ((λ i. if a.joined over i then a.transit over i ++ octets_over over next.puts else a.transit over i)
      ∙ (by (old.joined over) (old.transit over) (octets_over over first.puts) (octets_over over next.puts)
      ∙ ap (λ (l : List ℕ). if old.joined over then old.transit over ++ l else old.transit over) (sym (over_both over first.puts next.puts))));
  puts = λ over apart. over_both over first.puts next.puts ∙ (λ i. a.puts over apart i ++ b.puts over apart i);
}
  where
    by : (j : Bool) (l p q : List ℕ) → (if j then (if j then l ++ p else l) ++ q else (if j then l ++ p else l)) ≡ (if j then l ++ (p ++ q) else l)
    by true l p q = append_assoc l p q
    by false l p q = refl

pub messages_elsewhere : (n : NodeId) (over : Direction) → over.to ≡ n
    → (messages : List SessionMessage) (old : OctetNetwork Nodes) (new : Behind (OctetNetwork Nodes))
    → octets.all_taken system old over messages ≡ Some new → IsElsewhere n old old.transit new
messages_elsewhere n over to [] old new e =
    subst (IsElsewhere n old old.transit) (same_Some (record { network = old; puts = [] }) new e) (nothing_elsewhere n old)
messages_elsewhere n over to (message ∷ more) old new e =
    let next =
    bind_some (octets.with_step old (system.taken over message old.state))
    (λ x. with_earlier x.puts (octets.all_taken system x.network over more)) new e in
    let first = with_some old (system.taken over message old.state) next.0 next.1 in
    let rest = earlier_some next.0.puts (octets.all_taken system next.0.network over more) new next.2 in
    let here : StepsAt n old.state first.0 =
    subst (λ (m : NodeId). StepsAt m old.state first.0) to
    (steps_at over.to old.state (old.state.node over.to) (call_of over.from message) first.0 first.1) in
    let begins : IsElsewhere n old old.transit next.0 = subst (IsElsewhere n old old.transit) first.2 (stepped_elsewhere n old first.0 here) in
    subst (IsElsewhere n old old.transit) rest.2
    (both_elsewhere n old next.0 rest.0 begins (messages_elsewhere n over to more next.0.network rest.0 rest.1))

-- The network at the level of messages: each call and each message that is taken has a step, and nothing is taken back.
use Rattle.std.proofs.Common.{◌≡◌, ℕ, ◌<◌, Bool, true, false, cond, List, [], ◌∷◌, ◌++◌, length, is_some, Option, Some, None, inl, inr, refl, sym, ap, subst, ◌∙◌, arith}
use Rattle.std.specs.List.{AllByRecursion, list_any}
use Rattle.std.specs.FinMap as maps
use Rattle.std.specs.FinMap.{FinMap}
use Rattle.mv_base.specs.Lists.{Among}
use Rattle.mv_base.specs.Number.{◌>>?◌}
use Rattle.mv_base.specs.Pattern.{rank}
use Rattle.mv_base.specs.declared.addr.Addr.{Addr}
use Rattle.mv_base.specs.declared.ids.IfaceId.{IfaceId}
use Rattle.mv_base.specs.declared.ids.NodeId.{NodeId}
use Rattle.mv_base.specs.declared.ids.VrfId.{VrfId}
use Rattle.mv_base.specs.declared.pattern.Pattern.{Pattern}
use Rattle.mldp.specs.declared.mldp_fec.fec.Fec.{Fec}
use Rattle.mldp.specs.declared.mldp_msgs.message.LabelMessage.{LabelMessage}
use Rattle.mldp.specs.declared.mldp_msgs.message.LabelMessage.TheVariants as messages
use Rattle.bgp_messages.specs.declared.bgp_attributes.update.Message.{Message}
use Rattle.scenario_defs.specs.declared.event.JoinEntry.TheVariants as entries
use Rattle.scenario_defs.specs.declared.event.Kind.{Kind}
use Rattle.scenario_defs.specs.declared.event.Kind.TheVariants as kinds
use Rattle.scenario_defs.specs.declared.scenario.Scenario.{Scenario}
use Rattle.label_defs.specs.LabelData.{Place}
use Rattle.label_defs.specs.Steps as labels
use Rattle.network_defs.specs.session_defs.Message.{SessionMessage, Bgp, Label, same_direction}
use Rattle.network_defs.specs.session_defs.Refined.{deliveries}
use Rattle.network_defs.specs.session_defs.System.{Put, Stepped, System, MessageNetwork, Behind, messages_over, with_messages, with_step, with_rest, with_earlier, delivered, message_run}
use Rattle.network_defs.specs.declared.session_defs.direction.Direction.{Direction}
use Rattle.network_defs.proofs.session_defs.Lines.{direction_is, own_direction}
use Rattle.pim_defs.specs.Single.{join_of}
use Rattle.selective_defs.specs.Selective.{free_number}
use Rattle.edge_defs.specs.Edge.{Control, pattern_cmp, Selected, EdgeData}
use Rattle.edge_defs.specs.Place.{EdgePlace, OwnVrf, own_addr, own_vrfs, lsp, tunnel_number}
use Rattle.edge_defs.specs.Steps as steps
use Rattle.edge_defs.specs.Steps.{is_used}
use Rattle.edge_words.specs.edge_laws.Acts.{message_of}
use Rattle.network_defs.specs.Counts.{direction, is_bgp_up, is_end_up}
use Rattle.network_defs.specs.Nodes.{NodeState, Edge, Nodes, place_of, label_place_of, part_of}
use Rattle.network_defs.specs.Refusals.{control_of}
use Rattle.network_defs.specs.System.{call_of, node_called}
use Rattle.network_laws.specs.Honest.{SoundCall, sound_system}
use Rattle.network_laws.proofs.Lists.{each_append, each_flat, each_weaker}
use Rattle.run_laws.proofs.rule_laws.Deliveries.{waits}
use Rattle.growth_laws.specs.Labels.{AreAmong, IsMappingOf, TakesNothingBack}
use Rattle.growth_laws.proofs.Calls.{grows_with}
use Rattle.growth_laws.proofs.Effects.{Grown, GrowsTo, itself_grows, update_grows, raise_grows, join_grows, timers_grow, select_grows}
use Rattle.growth_laws.proofs.NodeSteps.{kept, NodesGrown, IsGrownMessage, IsGrownPut, EffectIs, NodeGrows, node_grows}
use Rattle.growth_laws.proofs.Told.{SaysOn, IsPicked, true_on}

-- ---- what is kept

-- The nodes are growing at that moment, what is in transit takes nothing back, both directions of a session are joined or neither is, and
-- an end is up only where its session is joined.
pub record NetworkGrown (horizon now : ℕ) (trees : List Fec) (network : MessageNetwork Nodes) : Type 0 where
  pub nodes : NodesGrown horizon trees network.state
  pub clock : network.state.clock ≡ now
  pub transit : (over : Direction) → AllByRecursion (IsGrownMessage trees (place_of network.state over.from) (kept network.state over.from))
      (network.transit over)
  pub alike : (kind : Kind) (a b : NodeId) → network.joined (direction kind a b) ≡ network.joined (direction kind b a)
  pub ends : (kind : Kind) (u peer : NodeId) → is_end_up kind (network.state.node u) peer ≡ true → network.joined (direction kind u peer) ≡ true

-- ---- more trees

among_more : (trees more : List Fec) (message : LabelMessage) → AreAmong trees more → IsMappingOf trees message → IsMappingOf more message
among_more trees more (messages.Mapping fec label) all is = all fec is
among_more trees more (messages.Withdraw fec label) all is = is
among_more trees more (messages.Release fec label) all is = is
among_more trees more (messages.Ignored kind) all is = is

message_more : (trees more : List Fec) (place : EdgePlace) (control : Control) (message : SessionMessage) → AreAmong trees more
    → IsGrownMessage trees place control message → IsGrownMessage more place control message
message_more trees more place control (Label message) all is = among_more trees more message all is
message_more trees more place control (Bgp message) all is = is

picked_more : (trees more : List Fec) (place : EdgePlace) (control : Control) → AreAmong trees more → IsPicked trees place control
    → IsPicked more place control
picked_more trees more place control all picked own pattern selected a h =
    (let is = picked own pattern selected a h in (is.0, all (lsp (own_addr place) (tunnel_number own.vrf selected.number)) is.1))

pub network_more : (horizon clock : ℕ) (trees more : List Fec) (network : MessageNetwork Nodes) → AreAmong trees more
    → length more < network.state.scenario.labels → NetworkGrown horizon clock trees network → NetworkGrown horizon clock more network
network_more horizon clock trees more network all room g = record {
  nodes = record {
    rules = g.nodes.rules;
    home = g.nodes.home;
    early = g.nodes.early;
    inclusive = λ u own a. all (lsp (own_addr (place_of network.state u)) (tunnel_number own.vrf 0)) (g.nodes.inclusive u own a);
    labels = λ u. grows_with (label_place_of network.state u) trees more (part_of (network.state.node u)) (g.nodes.labels u) all
        (subst (λ n. length more < n) (sym (g.nodes.many u)) room);
    many = g.nodes.many;
    edges = λ u. (let e = g.nodes.edges u in record {
      lasting = e.lasting;
      picked =
          picked_more trees more (place_of network.state u) (kept network.state u) all e.picked;
      told = e.told;
      alone = e.alone;
    });
    stands = g.nodes.stands;
  };
  clock = g.clock;
  transit =
      λ over. each_weaker (IsGrownMessage trees (place_of network.state over.from) (kept network.state over.from))
      (IsGrownMessage more (place_of network.state over.from) (kept network.state over.from))
      (λ message is. message_more trees more (place_of network.state over.from) (kept network.state over.from) message all is) (network.transit over)
      (g.transit over);
  alike = g.alike;
  ends = g.ends;
}

-- ---- a step

message_on : (trees : List Fec) (place : EdgePlace) (old new : Control) (message : SessionMessage) → SaysOn old new
    → IsGrownMessage trees place old message → IsGrownMessage trees place new message
message_on trees place old new (Label message) on is = is
message_on trees place old new (Bgp message) on is = (is.0, is.1, true_on place old new is.0 on is.2)

-- what a put carries over a direction
over_grown : (trees : List Fec) (state : Nodes) (n : NodeId) (over : Direction) (put : Put) → IsGrownPut trees (place_of state n) (kept state n) n put
    → AllByRecursion (IsGrownMessage trees (place_of state over.from) (kept state over.from))
    (cond (same_direction put.over over) put.unit.messages [])
over_grown trees state n over put is = by (same_direction put.over over) refl
  where
    by : (b : Bool) → same_direction put.over over ≡ b
        → AllByRecursion (IsGrownMessage trees (place_of state over.from) (kept state over.from)) (cond b put.unit.messages [])
    by false e = tt
    by true e =
        let from : n ≡ over.from = sym is.0 ∙ ap (λ (d : Direction). d.from) (direction_is put.over over e) in
        subst (λ (u : NodeId). AllByRecursion (IsGrownMessage trees (place_of state u) (kept state u)) put.unit.messages) from is.1

-- an end comes up only on a session that is joined
abbrev pub RaisesJoined : MessageNetwork Nodes → NodeId → steps.Call → Type 0
RaisesJoined network n call = (kind : Kind) (peer : NodeId) → call ≡ steps.Raised kind peer → network.joined (direction kind n peer) ≡ true

pub stepped_grows : (horizon clock : ℕ) (trees : List Fec) (network : MessageNetwork Nodes) (n : NodeId) (call : steps.Call)
    (found : Option (Stepped Nodes)) → NetworkGrown horizon clock trees network → RaisesJoined network n call
    → (x : NodeGrows horizon trees network.state n call found) → NetworkGrown horizon clock trees (with_messages network x.new)
stepped_grows horizon clock trees network n call found g joined x = record {
  nodes = x.grown;
  clock = x.clock ∙ g.clock;
  transit = λ over.
      let now : SessionMessage → Type 0 = IsGrownMessage trees (place_of x.new.state over.from) (kept x.new.state over.from) in
      let before : AllByRecursion now (network.transit over) =
      each_weaker (IsGrownMessage trees (place_of network.state over.from) (kept network.state over.from)) now
      (λ message is. message_on trees (place_of x.new.state over.from) (kept network.state over.from) (kept x.new.state over.from) message
      (x.says over.from)
      (subst (λ (place : EdgePlace). IsGrownMessage trees place (kept network.state over.from) message) (sym (x.places over.from)) is))
      (network.transit over) (g.transit over) in
      let more : AllByRecursion now (messages_over over x.new.puts) =
      each_flat now (λ (put : Put). cond (same_direction put.over over) put.unit.messages []) x.new.puts
      (each_weaker (IsGrownPut trees (place_of x.new.state n) (kept x.new.state n) n)
      (λ (put : Put). AllByRecursion now (cond (same_direction put.over over) put.unit.messages []))
      (λ put is. over_grown trees x.new.state n over put is) x.new.puts x.puts) in
      elim (network.joined over) as (λ b. AllByRecursion now (cond b (network.transit over ++ messages_over over x.new.puts) (network.transit over))) [
        | true ↦ each_append now (network.transit over) (messages_over over x.new.puts) before more
        | false ↦ before
      ];
  alike = g.alike;
  ends = λ kind u peer h. elim (x.ups kind u peer h) [
    | inl was ↦ g.ends kind u peer was
    | inr is ↦ ap (λ (w : NodeId). network.joined (direction kind w peer)) is.0 ∙ joined kind peer is.1
  ];
}

-- ---- calls

-- the number of a new selection
abbrev pub new_number : VrfId → FinMap pattern_cmp Selected → ℕ
new_number vrf old = free_number (λ number. list_any (is_used vrf number) (maps.entries old)) (maps.len old) 1

module _ (horizon clock : ℕ) (trees : List Fec) (network : MessageNetwork Nodes) (g : NetworkGrown horizon clock trees network) (n : NodeId) where
  abbrev nodes : Nodes
  nodes = network.state

  abbrev own_place : Place
  own_place = label_place_of nodes n

  -- what the edge keeps
  edge_grown : (edge : EdgeData) → nodes.node n ≡ Edge edge → Grown horizon trees (place_of nodes) (kept nodes) n edge.control
  edge_grown edge at = subst (λ (s : NodeState). Grown horizon trees (place_of nodes) (kept nodes) n (control_of s)) at (g.nodes.edges n)

  was_up : (b : Bool) → (b ≡ false → ⊥) → b ≡ true
  was_up true h = refl
  was_up false h = absurd (h refl)

  effect_by : (call : steps.Call) (old new : Control) → GrowsTo horizon trees (place_of nodes) (kept nodes) n old new
      → EffectIs horizon trees nodes n call old new
  effect_by call old new e = record {
    grown = e.grown;
    taken = e.taken;
    entries = e.entries;
    says = e.says;
    flows = e.flows;
    ups = λ peer h. inl (was_up (is_some (maps.get old.peers peer)) (λ down. e.ups peer h down));
  }

  pub timers_called : NodeGrows horizon trees nodes n steps.Timers (node_called nodes n (nodes.node n) steps.Timers)
  timers_called = node_grows horizon trees nodes n steps.Timers g.nodes (tt, tt)
      (λ edge at. effect_by steps.Timers edge.control _
      (timers_grow horizon trees (place_of nodes) (kept nodes) n edge.control (edge_grown edge at) nodes.clock g.nodes.early))

  pub join_called : (iface : IfaceId) (neighbour source group : Addr) → horizon < 210 →
      let call : steps.Call = steps.Customer (steps.Pim iface (join_of neighbour (entries.Source source group))) in
      NodeGrows horizon trees nodes n call (node_called nodes n (nodes.node n) call)
  join_called iface neighbour source group short =
      let call : steps.Call = steps.Customer (steps.Pim iface (join_of neighbour (entries.Source source group))) in
      node_grows horizon trees nodes n call g.nodes tt
      (λ edge at. effect_by call edge.control _ (join_grows horizon trees (place_of nodes) (kept nodes) n edge.control (edge_grown edge at)
      nodes.clock iface neighbour source group (omega (arith, short))))

  -- the new selection's tunnel is among the trees
  pub select_called : (vrf : VrfId) (pattern : Pattern) → rank pattern ≡ 4
      → maps.get (kept nodes n).selections (record { vrf = vrf; pattern = pattern }) ≡ None
      → ((own : OwnVrf) → Among own (own_vrfs (place_of nodes n)) → own.id ≡ vrf
      → Among (lsp (own_addr (place_of nodes n)) (tunnel_number own.vrf (new_number vrf (kept nodes n).selections))) trees)
      → NodeGrows horizon trees nodes n (steps.Customer (steps.Select vrf pattern))
      (node_called nodes n (nodes.node n) (steps.Customer (steps.Select vrf pattern)))
  select_called vrf pattern narrow free there =
      node_grows horizon trees nodes n (steps.Customer (steps.Select vrf pattern)) g.nodes tt
      (λ edge at. (let control : kept nodes n ≡ edge.control = ap control_of at in
      effect_by (steps.Customer (steps.Select vrf pattern)) edge.control _
      (select_grows horizon trees (place_of nodes) (kept nodes) n edge.control (edge_grown edge at) vrf pattern
      (record { number = new_number vrf edge.control.selections; since = nodes.clock; run = false }) narrow
      (ap (λ (c : Control). maps.get c.selections (record { vrf = vrf; pattern = pattern })) (sym control) ∙ free)
      (λ own a is. subst (λ (c : Control). Among (lsp (own_addr (place_of nodes n)) (tunnel_number own.vrf (new_number vrf c.selections))) trees)
      control (there own a is)))))

  pub raise_called : (kind : Kind) (peer : NodeId) → (peer ≡ n → ⊥) → is_end_up kind (nodes.node n) peer ≡ false
      → NodeGrows horizon trees nodes n (steps.Raised kind peer) (node_called nodes n (nodes.node n) (steps.Raised kind peer))
  raise_called kinds.Ldp peer other down = node_grows horizon trees nodes n (steps.Raised kinds.Ldp peer) g.nodes (tt, tt)
      (λ edge at. effect_by (steps.Raised kinds.Ldp peer) edge.control _
      (itself_grows horizon trees (place_of nodes) (kept nodes) n edge.control (edge_grown edge at)))
  raise_called kinds.Bgp peer other down = node_grows horizon trees nodes n (steps.Raised kinds.Bgp peer) g.nodes tt
      (λ edge at. (let r = raise_grows horizon trees (place_of nodes) (kept nodes) n edge.control (edge_grown edge at) peer other
      (sym (ap (λ (s : NodeState). is_bgp_up s peer) at) ∙ down) in
      record {
        grown = r.grown;
        taken = r.taken;
        entries = r.entries;
        says = r.says;
        flows = r.flows;
        ups = λ u h. elim (r.ups u h) [ inl was ↦ inl was | inr is ↦ inr (ap (λ (w : NodeId). steps.Raised kinds.Bgp w) (sym is)) ];
      }))

  -- ---- a message that is taken

  mapping_may : (from : NodeId) (message : LabelMessage) → IsMappingOf trees message → TakesNothingBack own_place trees (labels.Taken from message)
  mapping_may from (messages.Mapping fec label) is = λ tree. is
  mapping_may from (messages.Withdraw fec label) is = absurd is
  mapping_may from (messages.Release fec label) is = absurd is
  mapping_may from (messages.Ignored kind) is = absurd is

  pub message_called : (from : NodeId) (message : SessionMessage) → IsGrownMessage trees (place_of nodes from) (kept nodes from) message
      → NodeGrows horizon trees nodes n (call_of from message) (node_called nodes n (nodes.node n) (call_of from message))
  message_called from (Label message) is = node_grows horizon trees nodes n (steps.Label from message) g.nodes (mapping_may from message is, tt)
      (λ edge at. effect_by (steps.Label from message) edge.control _
      (itself_grows horizon trees (place_of nodes) (kept nodes) n edge.control (edge_grown edge at)))
  message_called from (Bgp message) is =
      subst (λ (m : Message). NodeGrows horizon trees nodes n (steps.Update from m) (node_called nodes n (nodes.node n) (steps.Update from m)))
      (sym is.1)
      (node_grows horizon trees nodes n (steps.Update from (message_of is.0)) g.nodes tt
      (λ edge at. effect_by (steps.Update from (message_of is.0)) edge.control _
      (update_grows horizon trees (place_of nodes) (kept nodes) n edge.control (edge_grown edge at) (λ u. g.nodes.rules) nodes.clock from is.0 is.2)))

-- ---- deliveries

no_raise : (from : NodeId) (message : SessionMessage) (kind : Kind) (peer : NodeId) → call_of from message ≡ steps.Raised kind peer → ⊥
no_raise from (Bgp message) kind peer e = absurd cc
no_raise from (Label message) kind peer e = absurd cc

-- the network without the first message over a direction
left_grown : (horizon clock : ℕ) (trees : List Fec) (network : MessageNetwork Nodes) (over : Direction) (rest : List SessionMessage)
    → NetworkGrown horizon clock trees network
    → AllByRecursion (IsGrownMessage trees (place_of network.state over.from) (kept network.state over.from)) rest
    → NetworkGrown horizon clock trees (with_rest network over rest)
left_grown horizon clock trees network over rest g all = record {
  nodes = g.nodes;
  clock = g.clock;
  transit = λ other. by other (same_direction other over) refl;
  alike = g.alike;
  ends = g.ends;
}
  where
    by : (other : Direction) (b : Bool) → same_direction other over ≡ b
        → AllByRecursion (IsGrownMessage trees (place_of network.state other.from) (kept network.state other.from))
        (cond b rest (network.transit other))
    by other false e = g.transit other
    by other true e =
        subst (λ (d : Direction). AllByRecursion (IsGrownMessage trees (place_of network.state d.from) (kept network.state d.from)) rest)
        (sym (direction_is other over e)) all

pub record DeliversOn (scenario : Scenario) (horizon clock : ℕ) (trees : List Fec) (network : MessageNetwork Nodes) (over : Direction)
    (first : List SessionMessage) : Type 0 where
  pub thereafter : Behind (MessageNetwork Nodes)
  pub is : message_run (sound_system scenario) network (deliveries over first) ≡ Some thereafter
  pub grown : NetworkGrown horizon clock trees thereafter.network

pub delivers_on : (scenario : Scenario) (horizon clock : ℕ) (trees : List Fec) (over : Direction) (first : List SessionMessage)
    (network : MessageNetwork Nodes) (rest : List SessionMessage) → NetworkGrown horizon clock trees network → network.joined over ≡ true
    → network.transit over ≡ first ++ rest → DeliversOn scenario horizon clock trees network over first
delivers_on scenario horizon clock trees over [] network rest g joined waiting =
    record { thereafter = record { network = network; puts = [] }; is = refl; grown = g }
delivers_on scenario horizon clock trees over (message ∷ more) network rest g joined waiting =
    let own : System Nodes (SoundCall scenario) = sound_system scenario in
    let all : AllByRecursion (IsGrownMessage trees (place_of network.state over.from) (kept network.state over.from)) (message ∷ (more ++ rest)) =
    subst (AllByRecursion (IsGrownMessage trees (place_of network.state over.from) (kept network.state over.from))) waiting (g.transit over) in
    let gone : MessageNetwork Nodes = with_rest network over (more ++ rest) in
    let left : NetworkGrown horizon clock trees gone = left_grown horizon clock trees network over (more ++ rest) g all.1 in
    let x = message_called horizon clock trees gone left over.to over.from message all.0 in
    let after : NetworkGrown horizon clock trees (with_messages gone x.new) =
    stepped_grows horizon clock trees gone over.to (call_of over.from message)
    (node_called gone.state over.to (gone.state.node over.to) (call_of over.from message)) left
    (λ kind peer e. absurd (no_raise over.from message kind peer e)) x in
    let still : (with_messages gone x.new).transit over ≡ more ++ (rest ++ messages_over over x.new.puts) =
    waits (network.joined over) (same_direction over over) more rest (network.transit over) (messages_over over x.new.puts) joined
    (own_direction over) in
    let further =
    delivers_on scenario horizon clock trees over more (with_messages gone x.new) (rest ++ messages_over over x.new.puts) after joined still in
    record {
      thereafter = record { network = further.thereafter.network; puts = x.new.puts ++ further.thereafter.puts };
      is =
          ap (λ (ms : List SessionMessage). delivered own network over ms >>? λ next. with_earlier next.puts
          (message_run own next.network (deliveries over more))) waiting
          ∙ ap (λ (o : Option (Stepped Nodes)). with_step gone o >>? λ next. with_earlier next.puts
          (message_run own next.network (deliveries over more))) x.is
          ∙ ap (with_earlier x.new.puts) further.is;
      grown = further.grown;
    }

-- A call of a node that takes nothing back has a step, after which all nodes are growing again.
use Rattle.std.proofs.Common.{◌≡◌, ℕ, ◌≤◌, ◌==◌, Bool, true, false, cond, List, [], ◌∷◌, ◌++◌, map, flat_map, length, is_some, Option, Some, None, ◌⊎◌, inl, inr, refl, sym, ap, subst, ◌∙◌}
use Rattle.std.specs.List.{AllByRecursion}
use Rattle.std.specs.FinMap as maps
use Rattle.std.specs.FinMap.{FinMap}
use Rattle.std.specs.FinSet as sets
use Rattle.std.proofs.lemmas.Bool.{cases_Bool}
use Rattle.std.proofs.lemmas.Option.{none-some}
use Rattle.mv_base.specs.Lists.{Among}
use Rattle.mv_base.specs.Number.{◌>>?◌}
use Rattle.mv_base.specs.declared.addr.Addr.{Addr}
use Rattle.mv_base.specs.declared.ids.NodeId.{NodeId}
use Rattle.mldp.specs.declared.mldp_fec.fec.Fec.{Fec}
use Rattle.bgp_messages.specs.declared.bgp_attributes.key.Key.{Key}
use Rattle.scenario_defs.specs.Rules.{Rules}
use Rattle.scenario_defs.specs.declared.event.Kind.{Kind}
use Rattle.scenario_defs.specs.declared.event.Kind.TheVariants as kinds
use Rattle.mv_base.specs.declared.table_defs.change.Change.{Change}
use Rattle.label_defs.specs.Keys.{node_cmp}
use Rattle.label_defs.specs.LabelData as label_data
use Rattle.label_defs.specs.LabelData.{Place, LabelData}
use Rattle.label_defs.specs.Settling as settling
use Rattle.label_defs.specs.Steps as labels
use Rattle.label_defs.specs.Steps.{Numbered, numbered, told, effect, step_puts}
use Rattle.label_defs.specs.declared.end.End.{End}
use Rattle.label_defs.specs.declared.put.Put as label_put_of
use Rattle.label_defs.proofs.KeyLemmas.{node_equal, node_itself}
use Rattle.network_defs.specs.session_defs.Message.{SessionMessage, Bgp, Label}
use Rattle.network_defs.specs.session_defs.System.{Put, Stepped}
use Rattle.edge_defs.specs.Edge.{TakenRoute, Taken, Control, EdgeData, no_control}
use Rattle.edge_defs.specs.Held.{put_to}
use Rattle.edge_defs.specs.Imported.{taken_from}
use Rattle.edge_defs.specs.Keys.{Value, key_cmp}
use Rattle.edge_defs.specs.Place.{EdgePlace, addr_of}
use Rattle.edge_defs.specs.Steps as steps
use Rattle.edge_defs.specs.Steps.{LabelStep, EdgeStepped, is_vrf_step, refreshed_if, control_step, own_label_call, changed_leaves, one_call, part_after, raised_after}
use Rattle.edge_defs.specs.Tunnels.{leaves}
use Rattle.edge_words.specs.edge_laws.Acts.{message_of}
use Rattle.edge_words.proofs.edge_laws.Taken.{table_in}
use Rattle.edge_words.proofs.calm_laws.Flows.{Stands, step_stands}
use Rattle.edge_words.proofs.calm_laws.Lists.{among_either, map_among}
use Rattle.network_defs.specs.node_defs.Puts.{bgp_put, bgp_puts, label_put, label_puts}
use Rattle.mvpn_model.specs.Sessions.{edges}
use Rattle.network_defs.specs.Counts.{is_bgp_up, is_end_up}
use Rattle.network_defs.specs.Nodes.{NodeState, Edge, CoreNode, Nodes, with_node, place_of, label_place_of, core_at, part_of}
use Rattle.network_defs.specs.Refusals.{control_of}
use Rattle.network_defs.specs.System.{core_called, node_called, unchanged}
use Rattle.network_laws.proofs.Lists.{each_append, each_map, each_flat, each_of, each_weaker}
use Rattle.growth_laws.specs.Edges.{TakenStays, FlowsStay, EntriesStay, AreNarrow, KeepsAll, LeavesStay}
use Rattle.growth_laws.specs.Labels.{Growing, IsMappingOf, TakesNothingBack, GrowsOn}
use Rattle.growth_laws.specs.Scripts.{HasOneHome}
use Rattle.growth_laws.proofs.Calls.{grows_on}
use Rattle.growth_laws.proofs.Effects.{Grown}
use Rattle.growth_laws.proofs.Entries.{sooner}
use Rattle.growth_laws.proofs.Flows.{flows_stay}
use Rattle.growth_laws.proofs.Homes.{one_origin}
use Rattle.growth_laws.proofs.Leaves.{leaves_stay}
use Rattle.growth_laws.proofs.Rows.{step_up, RowGrows, row_grows}
use Rattle.growth_laws.proofs.Told.{SaysOn, says_itself, says_on, HasInclusive, told_narrow, any_narrow, IsTrue, puts_are_true}
use Rattle.growth_laws.proofs.Turns.{AreMappings}
use Rattle.growth_laws.proofs.Within.{leaves_within, changes_want}

abbrev pub kept : Nodes → NodeId → Control
kept nodes u = control_of (nodes.node u)

-- All nodes of a network from which nothing was taken back, up to a moment, with so many trees.
pub record NodesGrown (horizon : ℕ) (trees : List Fec) (nodes : Nodes) : Type 0 where
  pub rules : Rules nodes.scenario
  pub home : HasOneHome nodes.scenario
  pub early : nodes.clock ≤ horizon
  pub inclusive : (u : NodeId) → HasInclusive trees (place_of nodes u)
  pub labels : (u : NodeId) → Growing (label_place_of nodes u) trees (part_of (nodes.node u))
  pub many : (u : NodeId) → length (part_of (nodes.node u)).labels ≡ nodes.scenario.labels
  pub edges : (u : NodeId) → Grown horizon trees (place_of nodes) (kept nodes) u (kept nodes u)
  pub stands : (u : NodeId) → Stands (place_of nodes u) nodes.clock (kept nodes u)

-- ---- messages

-- a message of a node that is put, where nothing is taken back
abbrev pub IsGrownMessage : List Fec → EdgePlace → Control → SessionMessage → Type 0
IsGrownMessage trees place control (Label message) = IsMappingOf trees message
IsGrownMessage trees place control (Bgp message) = (change : Change Key Value) × (message ≡ message_of change) × IsTrue place control change

abbrev pub IsGrownPut : List Fec → EdgePlace → Control → NodeId → Put → Type 0
IsGrownPut trees place control n put = (put.over.from ≡ n) × AllByRecursion (IsGrownMessage trees place control) put.unit.messages

numbered_grown : (trees : List Fec) (ends : FinMap node_cmp End) (puts : List label_put_of.Put) → AreMappings trees puts
    → AllByRecursion (λ (one : Numbered). IsMappingOf trees one.put.message) (numbered ends puts)
numbered_grown trees ends [] h = tt
numbered_grown trees ends (put ∷ more) h =
    by (maps.get ends put.to) (numbered_grown trees ends more h.1) (λ end. numbered_grown trees (maps.insert ends put.to (told end)) more h.1)
  where
    by : (o : Option End) → AllByRecursion (λ (one : Numbered). IsMappingOf trees one.put.message) (numbered ends more)
        → ((end : End) → AllByRecursion (λ (one : Numbered). IsMappingOf trees one.put.message) (numbered (maps.insert ends put.to (told end)) more))
        → AllByRecursion (λ (one : Numbered). IsMappingOf trees one.put.message)
        (elim o as (λ (o : Option End). List Numbered)
        [ None ↦ numbered ends more | Some end ↦ record { id = end.next; put = put } ∷ numbered (maps.insert ends put.to (told end)) more ])
    by None none some = none
    by (Some end) none some = (h.0, some end)

label_puts_grown : (trees : List Fec) (place : EdgePlace) (control : Control) (n : NodeId) (addr : Addr) (own : Place) (now : ℕ) (step : LabelStep)
    → AreMappings trees step.new.puts → AllByRecursion (IsGrownPut trees place control n) (label_puts n addr own now step)
label_puts_grown trees place control n addr own now step h =
    each_map (IsGrownPut trees place control n) (label_put n addr) (step_puts own now step.old step.call step.new.puts)
    (each_weaker (λ (one : Numbered). IsMappingOf trees one.put.message) (λ (one : Numbered). IsGrownPut trees place control n (label_put n addr one))
    (λ one is. (refl, (is, tt))) (step_puts own now step.old step.call step.new.puts)
    (numbered_grown trees (effect own now step.old step.call).0.part.ends step.new.puts h))

bgp_puts_grown : (trees : List Fec) (place : EdgePlace) (old new : Control)
    → ((peer : NodeId) → AllByRecursion (IsTrue place new) (put_to place old new peer))
    → AllByRecursion (IsGrownPut trees place new place.me) (bgp_puts place old new)
bgp_puts_grown trees place old new all =
    each_flat (IsGrownPut trees place new place.me) (λ peer. map (bgp_put place.me peer) (put_to place old new peer)) (edges place.scenario)
    (each_of (λ peer. AllByRecursion (IsGrownPut trees place new place.me) (map (bgp_put place.me peer) (put_to place old new peer)))
    (λ peer. each_map (IsGrownPut trees place new place.me) (bgp_put place.me peer) (put_to place old new peer)
    (each_weaker (IsTrue place new) (λ (change : Change Key Value). IsGrownPut trees place new place.me (bgp_put place.me peer change))
    (λ change is. (refl, ((change, refl, is), tt))) (put_to place old new peer) (all peer)))
    (edges place.scenario))

-- ---- nodes that change

nothing_taken : (control : Control) (n : NodeId) (key : Key) (route : TakenRoute) → maps.get control.peers n ≡ None
    → maps.get (taken_from control n) key ≡ Some route → ⊥
nothing_taken control n key route e h =
    none-some route (sym (ap (λ (o : Option Taken). maps.get (table_in o) key) e ∙ maps.get-empty key_cmp key) ∙ h)

-- calls of label nodes that are others
raised_taken : (to from : NodeId) (message : _) → labels.Raised to ≡ labels.Taken from message → ⊥
raised_taken to from message e = absurd cc

raised_noticed : (to peer : NodeId) → labels.Raised to ≡ labels.Noticed peer → ⊥
raised_noticed to peer e = absurd cc

raised_timers : (to : NodeId) → labels.Raised to ≡ labels.Timers → ⊥
raised_timers to e = absurd cc

raised_rerouted : (to : NodeId) → labels.Raised to ≡ labels.Rerouted → ⊥
raised_rerouted to e = absurd cc

raised_want : (to : NodeId) (fec : Fec) → labels.Raised to ≡ labels.Want fec → ⊥
raised_want to fec e = absurd cc

raised_unwant : (to : NodeId) (fec : Fec) → labels.Raised to ≡ labels.Unwant fec → ⊥
raised_unwant to fec e = absurd cc

no_raise : (to : NodeId) (fec : Fec) (b : Bool) → labels.Raised to ≡ cond b (labels.Want fec) (labels.Unwant fec) → ⊥
no_raise to fec true e = raised_want to fec e
no_raise to fec false e = raised_unwant to fec e

-- what others say goes on
pub grown_on : (horizon : ℕ) (trees : List Fec) (at : NodeId → EdgePlace) (old new : NodeId → Control) → ((u : NodeId) → SaysOn (old u) (new u))
    → (n : NodeId) (control : Control) → Grown horizon trees at old n control → Grown horizon trees at new n control
grown_on horizon trees at old new on n control g =
    record {
      lasting = g.lasting;
      picked = g.picked;
      told =
          λ u key route not h. says_on (at u) (old u) (new u) key route.value (on u) (g.told u key route not h);
      alone = g.alone;
    }

pub node_is : (P : NodeId → NodeState → Type 0) (n : NodeId) (new : NodeState) (u : NodeId) (old : NodeState) → P n new → P u old
    → P u (cond (u.0 == n.0) new old)
node_is P n new u old p q = elim (cases_Bool (u.0 == n.0)) [
  | inl t ↦ subst (λ (b : Bool). P u (cond b new old)) (sym t) (subst (λ (w : NodeId). P w new) (sym (node_equal u n t)) p)
  | inr f ↦ subst (λ (b : Bool). P u (cond b new old)) (sym f) q
]

-- A call's own effect on what an edge keeps, as far as a step needs it.
pub record EffectIs (horizon : ℕ) (trees : List Fec) (nodes : Nodes) (n : NodeId) (call : steps.Call) (old new : Control) : Type 0 where
  pub grown : Grown horizon trees (place_of nodes) (kept nodes) n new
  pub taken : TakenStays old new
  pub entries : EntriesStay old new
  pub says : SaysOn old new
  pub flows : new.flows ≡ old.flows
  pub ups : (peer : NodeId) → is_some (maps.get new.peers peer) ≡ true
      → (is_some (maps.get old.peers peer) ≡ true) ⊎ (call ≡ steps.Raised kinds.Bgp peer)

-- What a call of a node does where nothing is taken back.
pub record NodeGrows (horizon : ℕ) (trees : List Fec) (nodes : Nodes) (n : NodeId) (call : steps.Call) (found : Option (Stepped Nodes)) : Type 0 where
  pub new : Stepped Nodes
  pub is : found ≡ Some new
  pub grown : NodesGrown horizon trees new.state
  pub says : (u : NodeId) → SaysOn (kept nodes u) (kept new.state u)
  pub places : (u : NodeId) → place_of new.state u ≡ place_of nodes u
  pub clock : new.state.clock ≡ nodes.clock
  pub puts : AllByRecursion (IsGrownPut trees (place_of new.state n) (kept new.state n) n) new.puts
  pub ups : (kind : Kind) (u peer : NodeId) → is_end_up kind (new.state.node u) peer ≡ true
      → (is_end_up kind (nodes.node u) peer ≡ true) ⊎ ((u ≡ n) × (call ≡ steps.Raised kind peer))

module _ (horizon : ℕ) (trees : List Fec) (nodes : Nodes) (g : NodesGrown horizon trees nodes) (n : NodeId) (call : steps.Call)
    (own_may : AllByRecursion (TakesNothingBack (label_place_of nodes n) trees) (one_call (own_label_call call))) where
  abbrev place : EdgePlace
  place = place_of nodes n

  -- an end of the label part comes up by the call's own label step
  raised_ldp : (to : NodeId) → Among (labels.Raised to) (one_call (own_label_call call)) → call ≡ steps.Raised kinds.Ldp to
  raised_ldp to a = by call a
    where
      by : (own : steps.Call) → Among (labels.Raised to) (one_call (own_label_call own)) → own ≡ steps.Raised kinds.Ldp to
      by (steps.Raised kinds.Ldp peer) (inl e) = (let same : peer ≡ to = cc in ap (λ (u : NodeId). steps.Raised kinds.Ldp u) same)
      by (steps.Raised kinds.Ldp peer) (inr b) = absurd b
      by (steps.Label neighbour message) (inl e) =
          absurd (let bad : labels.Raised to ≡ labels.Taken neighbour message = e in raised_taken to neighbour message bad)
      by (steps.Label neighbour message) (inr b) = absurd b
      by (steps.Noticed kinds.Ldp peer) (inl e) = absurd (raised_noticed to peer e)
      by (steps.Noticed kinds.Ldp peer) (inr b) = absurd b
      by steps.Timers (inl e) = absurd (raised_timers to e)
      by steps.Timers (inr b) = absurd b
      by steps.Rerouted (inl e) = absurd (raised_rerouted to e)
      by steps.Rerouted (inr b) = absurd b
      by (steps.Update peer message) b = absurd b
      by (steps.Customer call) b = absurd b
      by (steps.Raised kinds.Bgp peer) b = absurd b
      by (steps.Noticed kinds.Bgp peer) b = absurd b

  -- ---- an edge

  module _ (edge : EdgeData) (at : nodes.node n ≡ Edge edge)
      (e : EffectIs horizon trees nodes n call edge.control (steps.effect place nodes.clock edge.control call)) where
    abbrev old : Control
    old = edge.control

    abbrev own : Control
    own = steps.effect place nodes.clock edge.control call

    abbrev control : Control
    control = control_step place nodes.clock edge.control call

    stand : Stands place nodes.clock old
    stand = subst (λ (s : NodeState). Stands place nodes.clock (control_of s)) at (g.stands n)

    narrow : AreNarrow own
    narrow peer key route h =
        any_narrow key (λ not. told_narrow trees (place_of nodes peer) (kept nodes peer) key route.value (g.edges peer).picked
        (e.grown.told peer key route not h))

    none : KeepsAll place nodes.clock old own
    none = record {
      taken = e.taken;
      entries = e.entries;
      lasting = λ entry expiry h. (let x = e.grown.lasting entry expiry h in (x.0, sooner expiry nodes.clock horizon g.early x.1));
      narrow = narrow;
      one = one_origin nodes.scenario (core_at nodes) (kept nodes) g.rules g.home n own e.grown.told
          (λ key route h. nothing_taken own n key route e.grown.alone h);
    }

    abbrev StepIs : Control → Type 0
    StepIs new = Grown horizon trees (place_of nodes) (kept nodes) n new × TakenStays old new × FlowsStay old new × SaysOn old new × AreNarrow new
        × ((peer : NodeId) → is_some (maps.get new.peers peer) ≡ true
        → (is_some (maps.get old.peers peer) ≡ true) ⊎ (call ≡ steps.Raised kinds.Bgp peer))

    step_is : (b : Bool) → StepIs (refreshed_if b place nodes.clock own)
    step_is true = (
      record { lasting = e.grown.lasting; picked = e.grown.picked; told = e.grown.told; alone = e.grown.alone },
      e.taken,
      flows_stay place stand.0 nodes.clock old own stand.2 none,
      record { selections = e.says.selections; notes = e.says.notes },
      narrow,
      e.ups,
    )
    step_is false = (e.grown, e.taken, (λ flow up h. ap (λ flows. maps.get flows flow) e.flows ∙ h), e.says, narrow, e.ups)

    step : StepIs control
    step = step_is (is_vrf_step call)

    stays : LeavesStay place old control
    stays = leaves_stay place old control step.1 step.2 step.4

    within : (fec : Fec) → sets.contains (leaves place control) fec ≡ true → Among fec trees
    within fec h = leaves_within trees (place_of nodes) (kept nodes) g.inclusive (λ u. (g.edges u).picked) place control step.0.told fec h

    abbrev calls : List labels.Call
    calls = one_call (own_label_call call) ++ changed_leaves (leaves place old) (leaves place control)

    may : AllByRecursion (TakesNothingBack (label_place_of nodes n) trees) calls
    may = each_append (TakesNothingBack (label_place_of nodes n) trees) (one_call (own_label_call call))
        (changed_leaves (leaves place old) (leaves place control)) own_may
        (changes_want (label_place_of nodes n) trees (leaves place old) (leaves place control) stays within)

    r : RowGrows place nodes.clock trees edge.part calls
    r = row_grows place nodes.clock trees calls edge.part may
        (subst (λ (s : NodeState). Growing (label_place_of nodes n) trees (part_of s)) at (g.labels n))

    abbrev made : List LabelStep → EdgeStepped
    made row =
        record { edge = record { control = control; part = part_after edge.part row; raised = raised_after nodes.clock edge.raised call }; row = row }

    abbrev stepped : EdgeStepped → Stepped Nodes
    stepped new = record {
      state = with_node nodes n (Edge new.edge);
      puts = bgp_puts place old new.edge.control ++ flat_map (label_puts n (addr_of nodes.scenario n) (label_place_of nodes n) nodes.clock) new.row;
    }

    abbrev next : NodeState
    next = Edge (record { control = control; part = part_after edge.part r.row; raised = raised_after nodes.clock edge.raised call })

    abbrev after : Nodes
    after = with_node nodes n next

    says_next : (u : NodeId) → SaysOn (kept nodes u) (kept after u)
    says_next u =
        node_is (λ w s. SaysOn (kept nodes w) (control_of s)) n next u (nodes.node u)
        (subst (λ (s : NodeState). SaysOn (control_of s) control) (sym at) step.3) (says_itself (kept nodes u))

    kept_next : kept after n ≡ control
    kept_next = ap (λ (b : Bool). control_of (cond b next (nodes.node n))) (node_itself n n refl)

    row_puts_grown : (row : List LabelStep) → AllByRecursion (λ (one : LabelStep). AreMappings trees one.new.puts) row
        → AllByRecursion (IsGrownPut trees place control n)
        (flat_map (label_puts n (addr_of nodes.scenario n) (label_place_of nodes n) nodes.clock) row)
    row_puts_grown row h =
        each_flat (IsGrownPut trees place control n) (label_puts n (addr_of nodes.scenario n) (label_place_of nodes n) nodes.clock) row
        (each_weaker (λ (one : LabelStep). AreMappings trees one.new.puts)
        (λ (one : LabelStep). AllByRecursion (IsGrownPut trees place control n)
        (label_puts n (addr_of nodes.scenario n) (label_place_of nodes n) nodes.clock one))
        (λ one is. label_puts_grown trees place control n (addr_of nodes.scenario n) (label_place_of nodes n) nodes.clock one is) row h)

    all_puts : AllByRecursion (IsGrownPut trees place control n) (stepped (made r.row)).puts
    all_puts =
        each_append (IsGrownPut trees place control n) (bgp_puts place old control)
        (flat_map (label_puts n (addr_of nodes.scenario n) (label_place_of nodes n) nodes.clock) r.row)
        (bgp_puts_grown trees place old control (λ peer. puts_are_true place old control g.rules step.3 peer)) (row_puts_grown r.row r.puts)

    was_bgp : (peer : NodeId) → is_some (maps.get old.peers peer) ≡ true → is_bgp_up (nodes.node n) peer ≡ true
    was_bgp peer h = subst (λ (s : NodeState). is_bgp_up s peer ≡ true) (sym at) h

    was_ldp : (peer : NodeId) → label_data.is_up edge.part peer ≡ true → label_data.is_up (part_of (nodes.node n)) peer ≡ true
    was_ldp peer h = subst (λ (s : NodeState). label_data.is_up (part_of s) peer ≡ true) (sym at) h

    up_now : (kind : Kind) (peer : NodeId) → is_end_up kind next peer ≡ true
        → (is_end_up kind (nodes.node n) peer ≡ true) ⊎ ((n ≡ n) × (call ≡ steps.Raised kind peer))
    up_now kinds.Bgp peer h = elim (step.5 peer h) [ inl was ↦ inl (was_bgp peer was) | inr is ↦ inr (refl, is) ]
    up_now kinds.Ldp peer h = elim (r.ups peer h) [
      | inl was ↦ inl (was_ldp peer was)
      | inr among ↦ elim (among_either (labels.Raised peer) (one_call (own_label_call call))
          (changed_leaves (leaves place old) (leaves place control)) among) [
            | inl a ↦ inr (refl, raised_ldp peer a)
            | inr a ↦
                let x = map_among (λ (fec : Fec). cond (sets.contains (leaves place control) fec) (labels.Want fec) (labels.Unwant fec))
                (labels.Raised peer) _ a in
                absurd (no_raise peer x.0 (sets.contains (leaves place control) x.0) x.2)
          ]
    ]

    pub edge_grows : NodeGrows horizon trees nodes n call (node_called nodes n (nodes.node n) call)
    edge_grows = record {
      new = stepped (made r.row);
      is =
          ap (λ (s : NodeState). node_called nodes n s call) at
          ∙ ap (λ (o : Option (List LabelStep)). (o >>? λ row. Some (made row)) >>? λ new. Some (stepped new)) r.made;
      grown = record {
        rules = g.rules;
        home = g.home;
        early = g.early;
        inclusive = g.inclusive;
        labels = λ u. node_is (λ w s. Growing (label_place_of nodes w) trees (part_of s)) n next u (nodes.node u) r.growing (g.labels u);
        many = λ u. node_is (λ w s. length (part_of s).labels ≡ nodes.scenario.labels) n next u (nodes.node u)
            (r.many ∙ subst (λ (s : NodeState). length (part_of s).labels ≡ nodes.scenario.labels) at (g.many n)) (g.many u);
        edges = λ u. grown_on horizon trees (place_of nodes) (kept nodes) (kept after) says_next u (kept after u)
            (node_is (λ w s. Grown horizon trees (place_of nodes) (kept nodes) w (control_of s)) n next u (nodes.node u) step.0 (g.edges u));
        stands = λ u. node_is (λ w s. Stands (place_of nodes w) nodes.clock (control_of s)) n next u (nodes.node u)
            (step_stands place nodes.clock old call stand) (g.stands u);
      };
      says = says_next;
      places = λ u. refl;
      clock = refl;
      puts = subst (λ (c : Control). AllByRecursion (IsGrownPut trees place c n) (stepped (made r.row)).puts) (sym kept_next) all_puts;
      ups = λ kind u peer. node_is (λ w s. is_end_up kind s peer ≡ true
          → (is_end_up kind (nodes.node w) peer ≡ true) ⊎ ((w ≡ n) × (call ≡ steps.Raised kind peer))) n next u (nodes.node u) (up_now kind peer)
          (λ h. inl h);
    }

  -- ---- a core node

  module _ (part : LabelData) (at : nodes.node n ≡ CoreNode part) where
    idle_grows : own_label_call call ≡ None → NodeGrows horizon trees nodes n call (node_called nodes n (nodes.node n) call)
    idle_grows e = record {
      new = unchanged nodes;
      is = ap (λ (s : NodeState). node_called nodes n s call) at ∙ ap (core_called nodes n part) e;
      grown = g;
      says = λ u. says_itself (kept nodes u);
      places = λ u. refl;
      clock = refl;
      puts = tt;
      ups = λ kind u peer h. inl h;
    }

    module _ (own : labels.Call) (is_own : own_label_call call ≡ Some own) where
      may_own : TakesNothingBack (label_place_of nodes n) trees own
      may_own = (subst (λ (o : Option labels.Call). AllByRecursion (TakesNothingBack (label_place_of nodes n) trees) (one_call o)) is_own own_may).0

      s : GrowsOn (label_place_of nodes n) nodes.clock trees part own
      s = grows_on (label_place_of nodes n) nodes.clock trees part own
          (subst (λ (x : NodeState). Growing (label_place_of nodes n) trees (part_of x)) at (g.labels n)) may_own

      abbrev core_made : settling.Stepped → LabelStep
      core_made new = record { old = part; call = own; new = new }

      abbrev core_new : settling.Stepped → Stepped Nodes
      core_new new =
          record {
            state = with_node nodes n (CoreNode new.part);
            puts =
                label_puts n (addr_of nodes.scenario n) (label_place_of nodes n) nodes.clock (core_made new);
          }

      abbrev core_next : NodeState
      core_next = CoreNode s.new.part

      abbrev core_after : Nodes
      core_after = with_node nodes n core_next

      core_says : (u : NodeId) → SaysOn (kept nodes u) (kept core_after u)
      core_says u =
          node_is (λ w x. SaysOn (kept nodes w) (control_of x)) n core_next u (nodes.node u)
          (subst (λ (x : NodeState). SaysOn (control_of x) no_control) (sym at) (says_itself no_control)) (says_itself (kept nodes u))

      core_kept : kept core_after n ≡ no_control
      core_kept = ap (λ (b : Bool). control_of (cond b core_next (nodes.node n))) (node_itself n n refl)

      core_up : (kind : Kind) (peer : NodeId) → is_end_up kind core_next peer ≡ true
          → (is_end_up kind (nodes.node n) peer ≡ true) ⊎ ((n ≡ n) × (call ≡ steps.Raised kind peer))
      core_up kinds.Bgp peer h = absurd (let bad : false ≡ true = h in cc)
      core_up kinds.Ldp peer h = elim (step_up (label_place_of nodes n) nodes.clock trees part own s.new peer may_own s.stepped h) [
        | inl was ↦ inl (subst (λ (x : NodeState). label_data.is_up (part_of x) peer ≡ true) (sym at) was)
        | inr is ↦ inr (
          refl,
          raised_ldp peer (subst (λ (o : Option labels.Call). Among (labels.Raised peer) (one_call o)) (sym is_own)
              (inl (sym is))),
        )
      ]

      step_grows : NodeGrows horizon trees nodes n call (node_called nodes n (nodes.node n) call)
      step_grows = record {
        new = core_new s.new;
        is = ap (λ (x : NodeState). node_called nodes n x call) at ∙ ap (core_called nodes n part) is_own
            ∙ ap (λ (o : Option settling.Stepped). o >>? λ new. Some (core_new new)) s.stepped;
        grown = record {
          rules = g.rules;
          home = g.home;
          early = g.early;
          inclusive = g.inclusive;
          labels = λ u. node_is (λ w x. Growing (label_place_of nodes w) trees (part_of x)) n core_next u (nodes.node u) s.growing (g.labels u);
          many = λ u. node_is (λ w x. length (part_of x).labels ≡ nodes.scenario.labels) n core_next u (nodes.node u)
              (s.many ∙ subst (λ (x : NodeState). length (part_of x).labels ≡ nodes.scenario.labels) at (g.many n)) (g.many u);
          edges = λ u. grown_on horizon trees (place_of nodes) (kept nodes) (kept core_after) core_says u (kept core_after u)
              (node_is (λ w x. Grown horizon trees (place_of nodes) (kept nodes) w (control_of x)) n core_next u (nodes.node u)
              (subst (λ (x : NodeState). Grown horizon trees (place_of nodes) (kept nodes) n (control_of x)) at (g.edges n)) (g.edges u));
          stands = λ u. node_is (λ w x. Stands (place_of nodes w) nodes.clock (control_of x)) n core_next u (nodes.node u)
              (subst (λ (x : NodeState). Stands place nodes.clock (control_of x)) at (g.stands n)) (g.stands u);
        };
        says = core_says;
        places = λ u. refl;
        clock = refl;
        puts = subst (λ (c : Control). AllByRecursion (IsGrownPut trees place c n) (core_new s.new).puts) (sym core_kept)
            (label_puts_grown trees place no_control n (addr_of nodes.scenario n) (label_place_of nodes n) nodes.clock (core_made s.new) s.puts);
        ups = λ kind u peer. node_is (λ w x. is_end_up kind x peer ≡ true
            → (is_end_up kind (nodes.node w) peer ≡ true) ⊎ ((w ≡ n) × (call ≡ steps.Raised kind peer))) n core_next u (nodes.node u)
            (core_up kind peer) (λ h. inl h);
      }

    pub core_grows : NodeGrows horizon trees nodes n call (node_called nodes n (nodes.node n) call)
    core_grows = by (own_label_call call) refl
      where
        by : (o : Option labels.Call) → own_label_call call ≡ o → NodeGrows horizon trees nodes n call (node_called nodes n (nodes.node n) call)
        by None e = idle_grows e
        by (Some own) e = step_grows own e

-- A call of a node, which may be an edge or not.
pub node_grows : (horizon : ℕ) (trees : List Fec) (nodes : Nodes) (n : NodeId) (call : steps.Call) → NodesGrown horizon trees nodes
    → AllByRecursion (TakesNothingBack (label_place_of nodes n) trees) (one_call (own_label_call call))
    → ((edge : EdgeData) → nodes.node n ≡ Edge edge
    → EffectIs horizon trees nodes n call edge.control (steps.effect (place_of nodes n) nodes.clock edge.control call))
    → NodeGrows horizon trees nodes n call (node_called nodes n (nodes.node n) call)
node_grows horizon trees nodes n call g own_may effect_is = by (nodes.node n) refl
  where
    by : (state : NodeState) → nodes.node n ≡ state → NodeGrows horizon trees nodes n call (node_called nodes n (nodes.node n) call)
    by (Edge edge) at = edge_grows horizon trees nodes g n call own_may edge at (effect_is edge at)
    by (CoreNode part) at = core_grows horizon trees nodes g n call own_may part at

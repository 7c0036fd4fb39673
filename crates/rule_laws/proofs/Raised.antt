-- Sessions that are raised, and losses that are noticed before, in the whole network.
use Rattle.std.specs.Prelude.{Result, Ok, Err}
use Rattle.std.proofs.Common.{◌≡◌, ◌≢◌, ◌==◌, ◌&&◌, ◌||◌, not, Bool, true, false, cond, List, [], ◌∷◌, ◌++◌, is_some, Option, Some, None, refl, sym, ap, subst, ◌∙◌, option_map}
use Rattle.std.specs.FinMap as maps
use Rattle.std.proofs.lemmas.Bool.{cond-false}
use Rattle.mv_base.specs.Number.{◌>>?◌}
use Rattle.mv_base.specs.declared.ids.NodeId.{NodeId}
use Rattle.mv_base.specs.framing.Feed.{unfed}
use Rattle.scenario_defs.specs.declared.event.Kind.{Kind}
use Rattle.scenario_defs.specs.declared.event.Kind.TheVariants as kinds
use Rattle.scenario_defs.specs.declared.scenario.Scenario.{Scenario}
use Rattle.label_defs.specs.Steps as labels
use Rattle.label_defs.specs.declared.end.End.{End}
use Rattle.label_defs.proofs.KeyLemmas.{node_itself, node_apart}
use Rattle.mvpn_model.specs.declared.session.Session.{Session}
use Rattle.network_defs.specs.session_defs.Message.{SessionMessage}
use Rattle.network_defs.specs.session_defs.Octets as octets
use Rattle.network_defs.specs.session_defs.Octets.{OctetNetwork, with_octets, with_step, octet_run}
use Rattle.network_defs.specs.session_defs.Refined.{AreLines, seen, Keeps}
use Rattle.network_defs.specs.session_defs.System.{Stepped, with_earlier}
use Rattle.network_defs.specs.declared.session_defs.direction.Direction.{Direction}
use Rattle.network_defs.proofs.session_defs.Deliveries.{with_news, news_are}
use Rattle.network_defs.proofs.session_defs.Lines.{line_joined}
use Rattle.edge_defs.specs.Steps as steps
use Rattle.mvpn_model.specs.Unready.{SessionsStand}
use Rattle.network_laws.proofs.ready_laws.ActsStand as stand
use Rattle.network_laws.proofs.ready_laws.ActsStand.{WorldStands, act_stand}
use Rattle.network_laws.proofs.ready_laws.Ends.{end_with, up_end}
use Rattle.network_laws.proofs.ready_laws.Nodes.{end_of}
use Rattle.mvpn_model.specs.declared.readiness.UpEnd.{UpEnd}
use Rattle.network_defs.specs.Acts.{Act, Notice, RaiseFirst, RaiseSecond, Acted, with_network, is_of_session, act}
use Rattle.network_defs.specs.Counts.{direction, is_joined, is_bgp_up, is_up as is_end}
use Rattle.network_defs.specs.Events.{Done, row, raise_acts, notices, healed}
use Rattle.network_defs.specs.Nodes.{Nodes, part_of}
use Rattle.network_defs.specs.System.{Own, system}
use Rattle.network_defs.specs.World.{World, clock_of}
use Rattle.network_defs.proofs.Kept.{Gives, Comes}
use Rattle.network_laws.specs.Sound.{Sound}
use Rattle.network_laws.proofs.NodeCalls.{own_is_good}
use Rattle.network_laws.proofs.Nodes.{honest_nodes}
use Rattle.network_laws.proofs.RunNodes.{IsNode}
use Rattle.rule_laws.proofs.Acts.{InStep, network_in_step, act_in_step}
use Rattle.rule_laws.proofs.Octets.{called_good}
use Rattle.label_defs.specs.Keys.{node_cmp}
use Rattle.label_defs.proofs.KeyLemmas.{node_cmp_total, node_cmp_exact}
use Rattle.label_defs.proofs.SetLemmas.{cut_here}
use Rattle.edge_defs.specs.Edge.{Taken, Control}
use Rattle.edge_words.specs.edge_laws.Acts as edge_acts
use Rattle.network_defs.specs.session_defs.System.{MessageNetwork, with_messages}
use Rattle.network_defs.specs.Nodes.{NodeState, Edge, CoreNode, is_edge}
use Rattle.network_defs.specs.Refusals.{control_of}
use Rattle.network_defs.specs.System.{node_called}
use Rattle.network_defs.specs.Acts.{is_from_peer}
use Rattle.rule_laws.proofs.Calls.{Good, trees_after}
use Rattle.rule_laws.proofs.Rows.{control_after, called_row}
use Rattle.rule_laws.proofs.BgpRaises.{bgp_middle_rule, bgp_middle_alike, bgp_raised_good}
use Rattle.rule_laws.proofs.Raises.{joined_now, middle_rule, middle_alike, raised_good}
use Rattle.rule_laws.proofs.Full.{rule_of, world_rule}
use Rattle.rule_laws.proofs.Throughout.{Goes, goes_comes, nothing_goes, goes_then}
use Rattle.rule_laws.specs.Labels.{label_network}
use Rattle.label_laws.specs.Rule as rules
use Rattle.network_defs.specs.LabelRule.{LabelRule}

-- ---- rows

both_give : (P Q : World → Type 0) (o : Result Acted NodeId) → Gives P o → stand.Gives Q o → Gives (λ world. P world × Q world) o
both_give P Q (Err node) p q = tt
both_give P Q (Ok new) p q = (p, q.1)

-- ---- ends

pub bgp_up_is : (state : NodeState) (peer : NodeId) → edge_acts.is_up (control_of state) peer ≡ is_bgp_up state peer
bgp_up_is (Edge edge) peer = refl
bgp_up_is (CoreNode part) peer = ap is_some (maps.get-empty {X = Taken} node_cmp peer)

-- Two nodes with a session, which are edges if it is over BGP.
abbrev pub AreEnds : Scenario → Kind → NodeId → NodeId → Type 0
AreEnds scenario kinds.Ldp a b = Unit {0}
AreEnds scenario kinds.Bgp a b = (is_edge scenario a ≡ true) × (is_edge scenario b ≡ true)

pub record IsPair (scenario : Scenario) (kind : Kind) (a b : NodeId) : Type 0 where
  pub first : IsNode scenario a
  pub second : IsNode scenario b
  pub apart : a ≢ b
  pub ends : AreEnds scenario kind a b

-- ---- both ends of a session come up

-- the label rule holds, and the second end may come up
abbrev IsHalf : Scenario → Kind → NodeId → NodeId → World → Type 0
IsHalf scenario kind a b world = LabelRule world × Gives (InStep scenario) (act world (RaiseSecond kind a b))

half_raised : (scenario : Scenario) (world : World) (kind : Kind) (a b : NodeId) → IsPair scenario kind a b → is_end world kind a b ≡ false
    → is_end world kind b a ≡ false → InStep scenario world → Gives (IsHalf scenario kind a b) (act world (RaiseFirst kind a b))
half_raised scenario world kind a b pair off_a off_b (pending, are, good) =
    by (system.called (Own a (steps.Raised kind b)) old.state) refl
    ((honest_nodes scenario).called (record { call = Own a (steps.Raised kind b); sound = (pair.first, tt) }) old.state good.base.sound)
  where
    old : OctetNetwork Nodes
    old = world.network

    hit : Direction → Bool
    hit = is_of_session kind a b

    next : OctetNetwork Nodes
    next = record world.network {
      joined = λ over. world.network.joined over || is_of_session kind a b over;
      transit = λ over. cond (is_of_session kind a b over) [] (world.network.transit over);
      stream = λ over. cond (is_of_session kind a b over) unfed (world.network.stream over);
    }

    waiting : Direction → List SessionMessage
    waiting = λ over. cond (hit over) [] (pending over)

    next_lines : AreLines next waiting
    next_lines = λ over. line_joined over.kind (hit over) (old.joined over) (old.stream over) (old.transit over) (pending over) (are over)

    -- what the second end's call gives
    last_good : (own : Kind) → IsPair scenario own a b → is_end world own a b ≡ false → is_end world own b a ≡ false → (new : Stepped Nodes)
        → system.called (Own a (steps.Raised own b)) world.network.state ≡ Some new → Sound scenario new.state
        → (last : Stepped Nodes) → system.called (Own b (steps.Raised own a)) new.state ≡ Some last → Sound scenario last.state
        → Good scenario (with_messages (with_messages (joined_now (seen world.network pending) (is_of_session own a b)) new) last) world.copies
        world.datagrams
    last_good kinds.Ldp p off back new e sound last is after =
        raised_good scenario (seen world.network pending) world.copies world.datagrams a b good p.apart off back new e
        (own_is_good (steps.Raised kinds.Ldp b) tt) sound last is (own_is_good (steps.Raised kinds.Ldp a) tt) after
    last_good kinds.Bgp p off back new e sound last is after =
        let edge : (n : NodeId) → is_edge scenario n ≡ true → is_edge world.network.state.scenario n ≡ true =
        λ n t. subst (λ (own : Scenario). is_edge own n ≡ true) (sym good.base.sound.same) t in
        bgp_raised_good scenario (seen world.network pending) world.copies world.datagrams a b good p.apart (edge a p.ends.0) (edge b p.ends.1)
        (bgp_up_is (world.network.state.node a) b ∙ off) (bgp_up_is (world.network.state.node b) a ∙ back) new e
        (own_is_good (steps.Raised kinds.Bgp b) tt) sound last is (own_is_good (steps.Raised kinds.Bgp a) tt) after

    -- the network in messages after the first end's call, in which the label rule holds
    between_both : Kind → Stepped Nodes → MessageNetwork Nodes
    between_both own new = with_messages (joined_now (seen world.network pending) (is_of_session own a b)) new

    first_rule : (own : Kind) → IsPair scenario own a b → is_end world own a b ≡ false → is_end world own b a ≡ false → (new : Stepped Nodes)
        → system.called (Own a (steps.Raised own b)) world.network.state ≡ Some new → Sound scenario new.state
        → rules.LabelRule (label_network (between_both own new) world.copies (world.datagrams ++ []))
        × ((u n : NodeId) → u ≢ n → (between_both own new).joined (direction kinds.Ldp u n)
        ≡ (between_both own new).joined (direction kinds.Ldp n u))
    first_rule kinds.Ldp p off back new e sound =
        let is = own_is_good (steps.Raised kinds.Ldp b) tt in (
          middle_rule scenario (seen world.network pending) world.copies world.datagrams a b good p.apart off back new e is sound,
          middle_alike scenario (seen world.network pending) world.copies world.datagrams a b good p.apart off back new e is sound,
        )
    first_rule kinds.Bgp p off back new e sound =
        let edge : (n : NodeId) → is_edge scenario n ≡ true → is_edge world.network.state.scenario n ≡ true =
        λ n t. subst (λ (own : Scenario). is_edge own n ≡ true) (sym good.base.sound.same) t in
        let is = own_is_good (steps.Raised kinds.Bgp b) tt in
        let near = bgp_up_is (world.network.state.node a) b ∙ off in
        let far = bgp_up_is (world.network.state.node b) a ∙ back in (
          bgp_middle_rule scenario (seen world.network pending) world.copies world.datagrams a b good p.apart (edge a p.ends.0) (edge b p.ends.1) near
              far new e is sound,
          bgp_middle_alike scenario (seen world.network pending) world.copies world.datagrams a b good p.apart (edge a p.ends.0) (edge b p.ends.1)
              near far new e is sound,
        )

    by : (o : Option (Stepped Nodes)) → system.called (Own a (steps.Raised kind b)) old.state ≡ o → Keeps (Sound scenario) o
        → Gives (IsHalf scenario kind a b) (with_network world []
        (with_earlier [] (with_step next o >>? λ new. with_earlier new.puts (Some (record { network = new.network; puts = [] })))) a)
    by None e keeps = tt
    by (Some new) e keeps =
        let middle : World = record world { network = with_octets next new } in
        let middle_lines = news_are next waiting new next_lines keeps.0 in
        let first = first_rule kind pair off_a off_b new e keeps.1 in (
          rule_of middle (with_news next waiting new.puts) middle_lines first.0 first.1,
          network_in_step scenario middle [] (octet_run system (with_octets next new) (octets.Call (Own b (steps.Raised kind a)) ∷ [])) b
              (called_good scenario world.copies world.datagrams (with_octets next new) (with_news next waiting new.puts) middle_lines keeps.1
              (Own b (steps.Raised kind a)) (pair.second, tt) (λ last is after.
              last_good kind pair off_a off_b new e keeps.1 last is after)),
        )

-- the label rule holds throughout
pub pair_goes : (scenario : Scenario) (kind : Kind) (a b : NodeId) → IsPair scenario kind a b → (world : World) → is_end world kind a b ≡ false
    → is_end world kind b a ≡ false → InStep scenario world
    → Goes LabelRule (InStep scenario) world (row (RaiseFirst kind a b ∷ RaiseSecond kind a b ∷ []) world)
pair_goes scenario kind a b pair world off_a off_b s =
    goes_then LabelRule (IsHalf scenario kind a b) (InStep scenario) (λ next half. half.0) (RaiseFirst kind a b) (RaiseSecond kind a b ∷ []) world
    (world_rule scenario world s) (half_raised scenario world kind a b pair off_a off_b s) (λ next half.
    goes_then LabelRule (InStep scenario) (InStep scenario) (world_rule scenario) (RaiseSecond kind a b) [] next half.0 half.1
    (λ last p. nothing_goes LabelRule (InStep scenario) last (world_rule scenario last p) p))

pub pair_raised : (scenario : Scenario) (kind : Kind) (a b : NodeId) → IsPair scenario kind a b → (world : World) → is_end world kind a b ≡ false
    → is_end world kind b a ≡ false → InStep scenario world → Comes (InStep scenario) (row (RaiseFirst kind a b ∷ RaiseSecond kind a b ∷ []) world)
pair_raised scenario kind a b pair world off_a off_b s =
    goes_comes LabelRule (InStep scenario) world (row (RaiseFirst kind a b ∷ RaiseSecond kind a b ∷ []) world)
    (pair_goes scenario kind a b pair world off_a off_b s)

-- ---- losses that are noticed

-- All is kept, the session is not joined, the near end is down, and the far end is as it was.
pub record Noticed (scenario : Scenario) (kind : Kind) (a b : NodeId) (far : Bool) (world : World) : Type 0 where
  pub step : InStep scenario world
  pub near_joined : world.network.joined (direction kind a b) ≡ false
  pub far_joined : world.network.joined (direction kind b a) ≡ false
  pub near : is_end world kind a b ≡ false
  pub there : is_end world kind b a ≡ far

-- where the sessions of a world stand
abbrev read_off : World → SessionsStand
read_off world =
    record {
      clock = clock_of world;
      joined = λ kind a b. world.network.joined (direction kind a b);
      end =
          λ kind n peer. end_of world.network.state n peer;
    }

stands_so : (scenario : Scenario) (world : World) → InStep scenario world → WorldStands scenario (read_off world) world
stands_so scenario world (pending, are, good) =
    record { nodes = record { place = good.base.sound.same; clock = refl; ends = λ n peer. refl }; joined = λ kind a b. refl }

-- an end is told where it is up
told_up : (nodes : Nodes) (n peer : NodeId) → is_some (maps.get (part_of (nodes.node n)).ends peer) ≡ is_some (end_of nodes n peer)
told_up nodes n peer = by (maps.get (part_of (nodes.node n)).ends peer)
  where
    by : (o : Option End) → is_some o ≡ is_some (option_map up_end o)
    by None = refl
    by (Some end) = refl

-- over LDP
ldp_noticed : (scenario : Scenario) (world : World) (a b : NodeId) (far : Bool) → IsNode scenario a → a ≢ b → InStep scenario world
    → world.network.joined (direction kinds.Ldp a b) ≡ false → world.network.joined (direction kinds.Ldp b a) ≡ false
    → is_end world kinds.Ldp a b ≡ true → is_end world kinds.Ldp b a ≡ far
    → Gives (Noticed scenario kinds.Ldp a b far) (act world (Notice kinds.Ldp a b))
ldp_noticed scenario world a b far lt ne s off back up is_far =
    by (act world (Notice kinds.Ldp a b))
    (both_give (InStep scenario) (WorldStands scenario (act_stand scenario (Notice kinds.Ldp a b) (read_off world)))
    (act world (Notice kinds.Ldp a b)) (act_in_step scenario (Notice kinds.Ldp a b) lt world (off, up) s)
    (stand.act_gives scenario (read_off world) world (Notice kinds.Ldp a b) (stands_so scenario world s)))
  where
    gone : (t q : Bool) (x : Option UpEnd) → t ≡ true → q ≡ true → is_some (cond t (cond q None x) x) ≡ false
    gone true true x e f = refl
    gone true false x e f = absurd cc
    gone false q x e f = absurd cc

    by : (o : Result Acted NodeId) → Gives (λ new. InStep scenario new
        × WorldStands scenario (act_stand scenario (Notice kinds.Ldp a b) (read_off world)) new) o → Gives (Noticed scenario kinds.Ldp a b far) o
    by (Err node) h = tt
    by (Ok new) h = record {
      step = h.0;
      near_joined = h.1.joined kinds.Ldp a b ∙ off;
      far_joined = h.1.joined kinds.Ldp b a ∙ back;
      near = told_up new.world.network.state a b ∙ ap is_some (h.1.nodes.ends a b)
          ∙ gone (a.0 == a.0) (b.0 == b.0) (end_of world.network.state a b) (node_itself a a refl) (node_itself b b refl);
      there = told_up new.world.network.state b a ∙ ap is_some (h.1.nodes.ends b a)
          ∙ ap is_some (cond-false (b.0 == a.0) (end_with scenario.life (clock_of world) (Some (labels.Noticed b)) a (end_of world.network.state b a))
          (end_of world.network.state b a) (node_apart b a (λ e. ne (sym e))))
          ∙ sym (told_up world.network.state b a)
          ∙ is_far;
    }

-- over BGP: by what the node keeps after the call
gone_peer : (nodes : Nodes) (n peer : NodeId) (state : NodeState)
    → edge_acts.is_up (control_after nodes n state (steps.Noticed kinds.Bgp peer)) peer ≡ false
gone_peer nodes n peer (Edge edge) = ap is_some (cut_here node_cmp_total node_cmp_exact edge.control.peers peer)
gone_peer nodes n peer (CoreNode part) = ap is_some (maps.get-empty {X = Taken} node_cmp peer)

-- the ends after the call
abbrev EndsThen : NodeId → NodeId → Bool → Nodes → Type 0
EndsThen a b far nodes = (is_bgp_up (nodes.node a) b ≡ false) × (is_bgp_up (nodes.node b) a ≡ far)

bgp_ends : (scenario : Scenario) (nodes : Nodes) (a b : NodeId) (far : Bool) → Sound scenario nodes → a ≢ b → is_bgp_up (nodes.node b) a ≡ far
    → (new : Stepped Nodes) → node_called nodes a (nodes.node a) (steps.Noticed kinds.Bgp b) ≡ Some new → EndsThen a b far new.state
bgp_ends scenario nodes a b far sound ne is_far new e =
    let call : steps.Call = steps.Noticed kinds.Bgp b in
    let c = called_row nodes a (nodes.node a) call new refl (trees_after scenario nodes sound a call (own_is_good call tt)) e in
    let near : is_bgp_up c.node b ≡ false =
    sym (bgp_up_is c.node b) ∙ ap (λ (control : Control). edge_acts.is_up control b) c.control ∙ gone_peer nodes a b (nodes.node a) in
    subst (EndsThen a b far) (sym c.state) (
      ap (λ (t : Bool). is_bgp_up (cond t c.node (nodes.node a)) b) (node_itself a a refl) ∙ near,
      ap (λ (t : Bool). is_bgp_up (cond t c.node (nodes.node b)) a) (node_apart b a (λ same. ne (sym same))) ∙ is_far,
    )

bgp_noticed : (scenario : Scenario) (world : World) (a b : NodeId) (far : Bool) → IsNode scenario a → a ≢ b → InStep scenario world
    → world.network.joined (direction kinds.Bgp a b) ≡ false → world.network.joined (direction kinds.Bgp b a) ≡ false
    → is_end world kinds.Bgp a b ≡ true → is_end world kinds.Bgp b a ≡ far
    → Gives (Noticed scenario kinds.Bgp a b far) (act world (Notice kinds.Bgp a b))
bgp_noticed scenario world a b far lt ne s off back up is_far =
    by (system.called (Own a (steps.Noticed kinds.Bgp b)) world.network.state) refl
    (act_in_step scenario (Notice kinds.Bgp a b) lt world (off, back, bgp_up_is (world.network.state.node a) b ∙ up) s)
  where
    next : OctetNetwork Nodes
    next = record world.network {
      stream = λ over. cond (is_from_peer kinds.Bgp a b over && not (world.network.joined over)) unfed
          (world.network.stream over);
    }

    by : (o : Option (Stepped Nodes)) → system.called (Own a (steps.Noticed kinds.Bgp b)) world.network.state ≡ o
        → Gives (InStep scenario) (with_network world []
        (with_earlier [] (with_step next o >>? λ new. with_earlier new.puts (Some (record { network = new.network; puts = [] })))) a)
        → Gives (Noticed scenario kinds.Bgp a b far)
        (with_network world [] (with_earlier [] (with_step next o >>? λ new. with_earlier new.puts
        (Some (record { network = new.network; puts = [] })))) a)
    by None e g = tt
    by (Some new) e g =
        let ends = bgp_ends scenario world.network.state a b far s.2.base.sound ne is_far new e in
        record { step = g; near_joined = off; far_joined = back; near = ends.0; there = ends.1 }

pub noticed : (scenario : Scenario) (world : World) (kind : Kind) (a b : NodeId) (far : Bool) → IsNode scenario a → a ≢ b → InStep scenario world
    → world.network.joined (direction kind a b) ≡ false → world.network.joined (direction kind b a) ≡ false
    → is_end world kind a b ≡ true → is_end world kind b a ≡ far → Gives (Noticed scenario kind a b far) (act world (Notice kind a b))
noticed scenario world kinds.Ldp a b far lt ne s off back up is_far = ldp_noticed scenario world a b far lt ne s off back up is_far
noticed scenario world kinds.Bgp a b far lt ne s off back up is_far = bgp_noticed scenario world a b far lt ne s off back up is_far

-- ---- a session is healed

-- the loss is noticed at each end that is up, and the session is raised
abbrev pub heals : Kind → NodeId → NodeId → Bool → Bool → List Act
heals kind a b near far =
    cond near (Notice kind a b ∷ []) [] ++ (cond far (Notice kind b a ∷ []) [] ++ (RaiseFirst kind a b ∷ RaiseSecond kind a b ∷ []))

-- the far end's turn
far_turn : (scenario : Scenario) (kind : Kind) (a b : NodeId) → IsPair scenario kind a b → (far : Bool) (world : World)
    → Noticed scenario kind a b far world → Goes LabelRule (InStep scenario) world
    (row (cond far (Notice kind b a ∷ []) [] ++ (RaiseFirst kind a b ∷ RaiseSecond kind a b ∷ [])) world)
far_turn scenario kind a b pair false world n = pair_goes scenario kind a b pair world n.near n.there n.step
far_turn scenario kind a b pair true world n =
    goes_then LabelRule (Noticed scenario kind b a false) (InStep scenario) (λ next m. world_rule scenario next m.step) (Notice kind b a)
    (RaiseFirst kind a b ∷ RaiseSecond kind a b ∷ []) world (world_rule scenario world n.step)
    (noticed scenario world kind b a false pair.second (λ e. pair.apart (sym e)) n.step n.far_joined n.near_joined n.there n.near)
    (λ next m. pair_goes scenario kind a b pair next m.there m.near m.step)

-- both ends by turns
ends_turn : (scenario : Scenario) (kind : Kind) (a b : NodeId) → IsPair scenario kind a b → (near far : Bool) (world : World) → InStep scenario world
    → world.network.joined (direction kind a b) ≡ false → world.network.joined (direction kind b a) ≡ false
    → is_end world kind a b ≡ near → is_end world kind b a ≡ far → Goes LabelRule (InStep scenario) world (row (heals kind a b near far) world)
ends_turn scenario kind a b pair false far world s off back up there =
    far_turn scenario kind a b pair far world (record { step = s; near_joined = off; far_joined = back; near = up; there = there })
ends_turn scenario kind a b pair true far world s off back up there =
    goes_then LabelRule (Noticed scenario kind a b far) (InStep scenario) (λ next n. world_rule scenario next n.step) (Notice kind a b)
    (cond far (Notice kind b a ∷ []) [] ++ (RaiseFirst kind a b ∷ RaiseSecond kind a b ∷ [])) world (world_rule scenario world s)
    (noticed scenario world kind a b far pair.first pair.apart s off back up there) (λ next n. far_turn scenario kind a b pair far next n)

-- both directions of a session are joined, or neither is
pub alike : (scenario : Scenario) (world : World) (kind : Kind) (a b : NodeId) → a ≢ b → InStep scenario world
    → world.network.joined (direction kind a b) ≡ world.network.joined (direction kind b a)
alike scenario world kinds.Ldp a b ne s = ((s.2.kept []).rule.session a b ne).alike
alike scenario world kinds.Bgp a b ne s = s.2.edges.2.rule.alike a b

pub healed_goes : (scenario : Scenario) (session : Session) → IsPair scenario session.kind session.a session.b → (world : World)
    → InStep scenario world → Goes LabelRule (InStep scenario) world (healed session world)
healed_goes scenario session pair world s = by (is_joined world session) refl
  where
    by : (t : Bool) → is_joined world session ≡ t
        → Goes LabelRule (InStep scenario) world (cond t (Done [] world)
        (row (notices world session session.a session.b ++ (notices world session session.b session.a ++ raise_acts session)) world))
    by true e = nothing_goes LabelRule (InStep scenario) world (world_rule scenario world s) s
    by false e =
        ends_turn scenario session.kind session.a session.b pair (is_end world session.kind session.a session.b)
        (is_end world session.kind session.b session.a) world s e (sym (alike scenario world session.kind session.a session.b pair.apart s) ∙ e)
        refl refl

-- Each act that takes nothing back is done, in octets, and never runs out of labels.
use Rattle.std.specs.Prelude.{take, drop, Result, Ok, Err}
use Rattle.std.proofs.Common.{◌≡◌, ◌≢◌, ℕ, ◌+◌, ◌<◌, ◌≤◌, ◌==◌, ◌&&◌, ◌||◌, Bool, true, false, cond, List, [], ◌∷◌, ◌++◌, length, Option, Some, None, ◌⊎◌, inl, inr, refl, sym, ap, subst, ◌∙◌, arith}
use Rattle.std.specs.List.{AllByRecursion}
use Rattle.std.proofs.lemmas.Bool.{false_from_ne_true, or_left, or_right}
use Rattle.std.proofs.lemmas.Option.{none-some, same_Some}
use Rattle.mv_base.specs.Number.{◌>>?◌}
use Rattle.mv_base.specs.declared.ids.NodeId.{NodeId}
use Rattle.mv_base.specs.framing.Feed.{unfed, fed}
use Rattle.mldp.specs.declared.mldp_fec.fec.Fec.{Fec}
use Rattle.scenario_defs.specs.Kinds.{same_kind}
use Rattle.scenario_defs.specs.declared.event.Kind.{Kind}
use Rattle.scenario_defs.specs.declared.event.Kind.TheVariants as kinds
use Rattle.scenario_defs.specs.declared.report.ReportLine.{ReportLine}
use Rattle.scenario_defs.specs.declared.report.ReportLine.TheVariants as lines
use Rattle.scenario_defs.specs.declared.scenario.Scenario.{Scenario}
use Rattle.label_defs.proofs.BetweenLemmas.{between_swap}
use Rattle.label_defs.proofs.KeyLemmas.{node_itself}
use Rattle.network_defs.specs.session_defs.Message.{SessionMessage, same_direction, front_of}
use Rattle.network_defs.specs.session_defs.Octets as octets
use Rattle.network_defs.specs.session_defs.Octets.{OctetNetwork, OctetAct, with_octets, with_step, all_taken, moved, octet_run}
use Rattle.network_defs.specs.session_defs.Refined.{IsLine, AreLines, seen, Keeps, deliveries}
use Rattle.network_defs.specs.session_defs.System.{Put, Stepped, MessageNetwork, Behind, with_messages, with_earlier, message_run}
use Rattle.network_defs.specs.declared.session_defs.direction.Direction.{Direction}
use Rattle.network_defs.proofs.session_defs.Deliveries.{IsSeen, with_news, news_are}
use Rattle.network_defs.proofs.session_defs.Lines.{line_joined}
use Rattle.network_defs.proofs.session_defs.Moves.{moved_seen}
use Rattle.edge_defs.specs.Steps as steps
use Rattle.edge_words.proofs.calm_laws.Flows.{later_stands}
use Rattle.network_defs.specs.Acts.{Tick, Timers, Move, RaiseFirst, RaiseSecond, At, Acted, with_network, is_of_session, with_aged, act}
use Rattle.network_defs.specs.Counts.{direction, is_end_up}
use Rattle.network_defs.specs.Nodes.{Nodes, place_of}
use Rattle.network_defs.specs.System.{Own, Elapse, node_called, system, unchanged}
use Rattle.network_defs.specs.World.{World}
use Rattle.network_laws.specs.Sound.{Sound}
use Rattle.network_laws.specs.Honest.{IsSoundCall, IsSoundNodeCall, sound_system}
use Rattle.network_laws.proofs.Lists.{each_append}
use Rattle.network_laws.proofs.Nodes.{honest_nodes}
use Rattle.network_laws.proofs.RunActs.{taken_alike}
use Rattle.growth_laws.proofs.Networks.{NetworkGrown, RaisesJoined, stepped_grows, timers_called, raise_called, delivers_on}
use Rattle.growth_laws.proofs.NodeSteps.{kept, IsGrownMessage, NodeGrows}

-- ---- what is kept, in octets

-- The octets in transit carry messages with which nothing was taken back, and the nodes are sound.
abbrev pub OctetsGrown : Scenario → ℕ → ℕ → List Fec → OctetNetwork Nodes → Type 0
OctetsGrown scenario horizon now trees network =
    (pending : Direction → List SessionMessage) × AreLines network pending × Sound scenario network.state
    × NetworkGrown horizon now trees (seen network pending)

-- there is a network after acts, and it has the property
abbrev pub MustBe : (OctetNetwork Nodes → Type 0) → Option (Behind (OctetNetwork Nodes)) → Type 0
MustBe P None = ⊥
MustBe P (Some new) = P new.network

-- the act is done, and the world after it has the property
abbrev pub Must : (World → Type 0) → Result Acted NodeId → Type 0
Must P (Err node) = ⊥
Must P (Ok new) = P new.world

network_must : (P : OctetNetwork Nodes → Type 0) (world : World) (before : List ReportLine) (found : Option (Behind (OctetNetwork Nodes)))
    (node : NodeId) → MustBe P found → Must (λ new. P new.network) (with_network world before found node)
network_must P world before None node h = h
network_must P world before (Some new) node h = h

alone_must : (P : OctetNetwork Nodes → Type 0) (o : Option (Behind (OctetNetwork Nodes))) → MustBe P o
    → MustBe P (o >>? λ next. with_earlier next.puts (Some (record { network = next.network; puts = [] })))
alone_must P None h = h
alone_must P (Some next) h = h

earlier_must : (P : OctetNetwork Nodes → Type 0) (puts : List Put) (o : Option (Behind (OctetNetwork Nodes))) → MustBe P o
    → MustBe P (with_earlier puts o)
earlier_must P puts None h = h
earlier_must P puts (Some next) h = h

-- ---- a call

-- after a call of a node the sessions are as before, and an end that is up was up, or came up by it
pub record Called (scenario : Scenario) (horizon now : ℕ) (trees : List Fec) (old : OctetNetwork Nodes) (n : NodeId) (call : steps.Call)
    (new : OctetNetwork Nodes) : Type 0 where
  pub grown : OctetsGrown scenario horizon now trees new
  pub joined : new.joined ≡ old.joined
  pub ups : (kind : Kind) (u peer : NodeId) → is_end_up kind (new.state.node u) peer ≡ true
      → (is_end_up kind (old.state.node u) peer ≡ true) ⊎ ((u ≡ n) × (call ≡ steps.Raised kind peer))

pub call_must : (scenario : Scenario) (horizon now : ℕ) (trees : List Fec) (old : OctetNetwork Nodes) (pending : Direction → List SessionMessage)
    → AreLines old pending → Sound scenario old.state → NetworkGrown horizon now trees (seen old pending)
    → (n : NodeId) (call : steps.Call) → IsSoundNodeCall scenario (Own n call) → RaisesJoined (seen old pending) n call
    → NodeGrows horizon trees old.state n call (node_called old.state n (old.state.node n) call)
    → MustBe (Called scenario horizon now trees old n call) (octet_run system old (octets.Call (Own n call) ∷ []))
call_must scenario horizon now trees old pending are sound g n call is joined x =
    let keeps : Keeps (Sound scenario) (Some x.new) =
    subst (Keeps (Sound scenario)) x.is ((honest_nodes scenario).called (record { call = Own n call; sound = is }) old.state sound) in
    let found : OctetsGrown scenario horizon now trees (with_octets old x.new) = (
      with_news old pending x.new.puts,
      news_are old pending x.new are keeps.0,
      keeps.1,
      stepped_grows horizon now trees (seen old pending) n call (node_called old.state n (old.state.node n) call) g joined x,
    ) in
    subst (λ (o : Option (Stepped Nodes)). MustBe (Called scenario horizon now trees old n call)
    (with_step old o >>? λ next. with_earlier next.puts (Some (record { network = next.network; puts = [] })))) (sym x.is)
    (record { grown = found; joined = refl; ups = x.ups })

-- ---- a move

seen_must : (scenario : Scenario) (horizon now : ℕ) (trees : List Fec) (o : Option (Behind (OctetNetwork Nodes)))
    (found : Option (Behind (MessageNetwork Nodes))) (thereafter : Behind (MessageNetwork Nodes)) → IsSeen (Sound scenario) o found → found ≡ Some thereafter
    → NetworkGrown horizon now trees thereafter.network → MustBe (OctetsGrown scenario horizon now trees) o
seen_must scenario horizon now trees None found thereafter is e g = none-some thereafter (sym is ∙ e)
seen_must scenario horizon now trees (Some new) found thereafter is e g =
    let same : thereafter ≡ record { network = seen new.network is.0; puts = new.puts } = same_Some thereafter _ (sym e ∙ is.2) in
    (is.0, is.1, is.3, subst (λ (b : Behind (MessageNetwork Nodes)). NetworkGrown horizon now trees b.network) same g)

pub move_must : (scenario : Scenario) (horizon now : ℕ) (trees : List Fec) (old : OctetNetwork Nodes) (over : Direction) (count : ℕ)
    → OctetsGrown scenario horizon now trees old
    → MustBe (OctetsGrown scenario horizon now trees) (octet_run system old (octets.Move over count ∷ []))
move_must scenario horizon now trees old over count (pending, are, sound, g) = by (old.joined over) refl (are over)
  where
    P : OctetNetwork Nodes → Type 0
    P = OctetsGrown scenario horizon now trees

    by : (joined : Bool) → old.joined over ≡ joined → IsLine over.kind joined (old.stream over) (old.transit over) (pending over)
        → MustBe (OctetsGrown scenario horizon now trees)
        ((cond joined (moved system old over count) (Some (record { network = old; puts = [] }))) >>? λ next. with_earlier next.puts
        (Some (record { network = next.network; puts = [] })))
    by false e line = (pending, are, sound, g)
    by true e line =
        let m = moved_seen (sound_system scenario) (Sound scenario) (honest_nodes scenario) old pending over count are sound e line in
        let d = delivers_on scenario horizon now trees over m.first (seen old pending) m.rest g e m.parts in
        let new = fed (front_of over.kind) (old.stream over) (take count (old.transit over)) in
        let gone : OctetNetwork Nodes = record old {
          transit = λ other. cond (same_direction other over) (drop count (old.transit over)) (old.transit other);
          stream = λ other. cond (same_direction other over) (record new { waiting = [] }) (old.stream other);
        } in
        subst (λ (o : Option (Behind (OctetNetwork Nodes))). MustBe (OctetsGrown scenario horizon now trees)
        (o >>? λ next. with_earlier next.puts (Some (record { network = next.network; puts = [] })))) (taken_alike scenario over new.waiting gone)
        (alone_must (OctetsGrown scenario horizon now trees) (moved (sound_system scenario) old over count)
        (seen_must scenario horizon now trees (moved (sound_system scenario) old over count)
        (message_run (sound_system scenario) (seen old pending) (deliveries over m.first)) d.thereafter m.outcome d.is d.grown))

-- ---- time

later_grown : (horizon now : ℕ) (trees : List Fec) (network : MessageNetwork Nodes) (ticks : ℕ) → now + ticks ≤ horizon
    → NetworkGrown horizon now trees network
    → NetworkGrown horizon (now + ticks) trees (with_messages network (unchanged (record network.state { clock = network.state.clock + ticks })))
later_grown horizon now trees network ticks le g = record {
  nodes = record {
    rules = g.nodes.rules;
    home = g.nodes.home;
    early = (let same = g.clock in omega (arith, le, same));
    inclusive = g.nodes.inclusive;
    labels = g.nodes.labels;
    many = g.nodes.many;
    edges = λ u. (let e = g.nodes.edges u in record { lasting = e.lasting; picked = e.picked; told = e.told; alone = e.alone });
    stands = λ u. later_stands (place_of network.state u) network.state.clock (network.state.clock + ticks) (kept network.state u) (omega arith)
        (g.nodes.stands u);
  };
  clock = (let same = g.clock in omega (arith, same));
  transit = λ over.
      elim (network.joined over) as (λ b. AllByRecursion (IsGrownMessage trees (place_of network.state over.from) (kept network.state over.from))
      (cond b (network.transit over ++ []) (network.transit over))) [
        | true ↦ each_append (IsGrownMessage trees (place_of network.state over.from) (kept network.state over.from)) (network.transit over) []
            (g.transit over) tt
        | false ↦ g.transit over
      ];
  alike = g.alike;
  ends = g.ends;
}

tick_must : (scenario : Scenario) (horizon now : ℕ) (trees : List Fec) (old : OctetNetwork Nodes) (ticks : ℕ) → now + ticks ≤ horizon
    → OctetsGrown scenario horizon now trees old
    → MustBe (OctetsGrown scenario horizon (now + ticks) trees) (octet_run system old (octets.Call (Elapse ticks) ∷ []))
tick_must scenario horizon now trees old ticks le (pending, are, sound, g) =
    let new : Stepped Nodes = unchanged (record old.state { clock = old.state.clock + ticks }) in
    let keeps : Keeps (Sound scenario) (Some new) = (honest_nodes scenario).called (record { call = Elapse ticks; sound = tt }) old.state sound in
    (with_news old pending [], news_are old pending new are keeps.0, keeps.1, later_grown horizon now trees (seen old pending) ticks le g)

-- ---- sessions that are joined

joined_grown : (horizon now : ℕ) (trees : List Fec) (network : MessageNetwork Nodes) (kind : Kind) (a b : NodeId)
    → NetworkGrown horizon now trees network
    → NetworkGrown horizon now trees (record network {
      joined = λ over. network.joined over || is_of_session kind a b over;
      transit =
          λ over. cond (is_of_session kind a b over) [] (network.transit over);
    })
joined_grown horizon now trees network kind a b g = record {
  nodes = g.nodes;
  clock = g.clock;
  transit =
      λ over. elim (is_of_session kind a b over) as
      (λ t. AllByRecursion (IsGrownMessage trees (place_of network.state over.from) (kept network.state over.from))
      (cond t [] (network.transit over))) [ true ↦ tt | false ↦ g.transit over ];
  alike = λ own u m. λ i. g.alike own u m i || (same_kind kind own && between_swap a b u m i);
  ends = λ own u peer h. or_left (network.joined (direction own u peer)) (is_of_session kind a b (direction own u peer)) (g.ends own u peer h);
}

own_kind : (kind : Kind) → same_kind kind kind ≡ true
own_kind kinds.Bgp = refl
own_kind kinds.Ldp = refl

-- the session of two nodes is one of both directions
of_both : (kind : Kind) (a b : NodeId) → is_of_session kind a b (direction kind a b) ≡ true
of_both kind a b = (λ i. own_kind kind i && ((node_itself a a refl i && node_itself b b refl i) || ((a.0 == b.0) && (b.0 == a.0))))

raised_parts : (kind own : Kind) (peer other : NodeId) → steps.Raised kind peer ≡ steps.Raised own other → (kind ≡ own) × (peer ≡ other)
raised_parts kind own peer other e = (cc, cc)

-- ---- acts

module _ (scenario : Scenario) (horizon now : ℕ) (trees : List Fec) where
  abbrev pub WorldGrown : World → Type 0
  WorldGrown world = OctetsGrown scenario horizon now trees world.network

  -- a call of a node
  pub at_must : (world : World) (before : List ReportLine) (n : NodeId) (call : steps.Call) → (s : WorldGrown world) → n.0 < length scenario.nodes
      → IsSoundCall call → RaisesJoined (seen world.network s.0) n call
      → NodeGrows horizon trees world.network.state n call (node_called world.network.state n (world.network.state.node n) call)
      → Must (λ new. Called scenario horizon now trees world.network n call new.network)
      (with_network world before (octet_run system world.network (octets.Call (Own n call) ∷ [])) n)
  at_must world before n call s lt is joined x =
      network_must (Called scenario horizon now trees world.network n call) world before
      (octet_run system world.network (octets.Call (Own n call) ∷ [])) n
      (call_must scenario horizon now trees world.network s.0 s.1 s.2 s.3 n call (lt, is) joined x)

  weaker_must : (P Q : World → Type 0) (o : Result Acted NodeId) → ((world : World) → P world → Q world) → Must P o → Must Q o
  weaker_must P Q (Err node) h p = p
  weaker_must P Q (Ok new) h p = h new.world p

  pub called_must : (world : World) (n : NodeId) (call : steps.Call) → (s : WorldGrown world) → n.0 < length scenario.nodes → IsSoundCall call
      → ((kind : Kind) (peer : NodeId) → call ≡ steps.Raised kind peer → ⊥)
      → NodeGrows horizon trees world.network.state n call (node_called world.network.state n (world.network.state.node n) call)
      → Must WorldGrown (act world (At n call))
  called_must world n call s lt is none x =
      weaker_must (λ new. Called scenario horizon now trees world.network n call new.network) WorldGrown (act world (At n call)) (λ new c. c.grown)
      (at_must world [] n call s lt is (λ kind peer e. absurd (none kind peer e)) x)

  no_timers : (kind : Kind) (peer : NodeId) → steps.Timers ≡ steps.Raised kind peer → ⊥
  no_timers kind peer e = absurd cc

  pub timers_must : (world : World) (n : NodeId) → n.0 < length scenario.nodes → WorldGrown world → Must WorldGrown (act world (Timers n))
  timers_must world n lt s =
      weaker_must (λ new. Called scenario horizon now trees world.network n steps.Timers new.network) WorldGrown (act world (Timers n))
      (λ new c. c.grown)
      (at_must world [] n steps.Timers s lt tt (λ kind peer e. absurd (no_timers kind peer e))
      (timers_called horizon now trees (seen world.network s.0) s.3 n))

  pub world_moves : (world : World) (kind : Kind) (from to : NodeId) (count : ℕ) → WorldGrown world
      → Must WorldGrown (act world (Move kind from to count))
  world_moves world kind from to count s =
      network_must (OctetsGrown scenario horizon now trees) world
      (lines.Take kind from to (take count (world.network.transit (direction kind from to))) ∷ [])
      (octet_run system world.network (octets.Move (direction kind from to) count ∷ [])) to
      (move_must scenario horizon now trees world.network (direction kind from to) count s)

  -- ---- raises

  -- the first end is up, and the second one may come up
  pub record Half (kind : Kind) (a b : NodeId) (world : World) : Type 0 where
    pub grown : WorldGrown world
    pub joined : world.network.joined (direction kind b a) ≡ true
    pub down : is_end_up kind (world.network.state.node b) a ≡ false

  pub first_must : (world : World) (kind : Kind) (a b : NodeId) → a.0 < length scenario.nodes → a ≢ b
      → is_end_up kind (world.network.state.node a) b ≡ false → is_end_up kind (world.network.state.node b) a ≡ false → WorldGrown world
      → Must (Half kind a b) (act world (RaiseFirst kind a b))
  first_must world kind a b lt apart down far (pending, are, sound, g) =
      weaker_must (λ new. Called scenario horizon now trees next a (steps.Raised kind b) new.network) (Half kind a b)
      (act world (RaiseFirst kind a b))
      (λ new c. record {
        grown = c.grown;
        joined = ap (λ (f : Direction → Bool). f (direction kind b a)) c.joined ∙ both;
        down = false_from_ne_true (is_end_up kind (new.network.state.node b) a) (λ up. elim (c.ups kind b a up) [
          | inl was ↦ (let bad : true ≡ false = sym was ∙ far in absurd cc)
          | inr is ↦ absurd (apart (sym is.0))
        ]);
      })
      (network_must (Called scenario horizon now trees next a (steps.Raised kind b)) world []
      (octet_run system world.network (octets.Join (is_of_session kind a b) ∷ octets.Call (Own a (steps.Raised kind b)) ∷ [])) a
      (earlier_must (Called scenario horizon now trees next a (steps.Raised kind b)) []
      (octet_run system next (octets.Call (Own a (steps.Raised kind b)) ∷ []))
      (call_must scenario horizon now trees next waiting next_lines sound now_joined a (steps.Raised kind b) (lt, tt) raises
      (raise_called horizon now trees (seen next waiting) now_joined a kind b (λ e. apart (sym e)) down))))
    where
      next : OctetNetwork Nodes
      next = record world.network {
        joined = λ over. world.network.joined over || is_of_session kind a b over;
        transit = λ over. cond (is_of_session kind a b over) [] (world.network.transit over);
        stream = λ over. cond (is_of_session kind a b over) unfed (world.network.stream over);
      }

      waiting : Direction → List SessionMessage
      waiting = λ over. cond (is_of_session kind a b over) [] (pending over)

      next_lines : AreLines next waiting
      next_lines =
          λ over. line_joined over.kind (is_of_session kind a b over) (world.network.joined over) (world.network.stream over)
          (world.network.transit over) (pending over) (are over)

      now_joined : NetworkGrown horizon now trees (seen next waiting)
      now_joined = joined_grown horizon now trees (seen world.network pending) kind a b g

      here : next.joined (direction kind a b) ≡ true
      here = or_right (world.network.joined (direction kind a b)) (is_of_session kind a b (direction kind a b)) (of_both kind a b)

      both : next.joined (direction kind b a) ≡ true
      both = sym (now_joined.alike kind a b) ∙ here

      raises : RaisesJoined (seen next waiting) a (steps.Raised kind b)
      raises own peer e = (let x = raised_parts kind own b peer e in (λ i. next.joined (direction (sym x.0 i) a (sym x.1 i))) ∙ here)

  pub second_must : (world : World) (kind : Kind) (a b : NodeId) → b.0 < length scenario.nodes → a ≢ b → Half kind a b world
      → Must WorldGrown (act world (RaiseSecond kind a b))
  second_must world kind a b lt apart h =
      let s = h.grown in
      weaker_must (λ new. Called scenario horizon now trees world.network b (steps.Raised kind a) new.network) WorldGrown
      (act world (RaiseSecond kind a b)) (λ new c. c.grown)
      (at_must world [] b (steps.Raised kind a) s lt tt
      (λ own peer e. (let x = raised_parts kind own a peer e in (λ i. world.network.joined (direction (sym x.0 i) b (sym x.1 i))) ∙ h.joined))
      (raise_called horizon now trees (seen world.network s.0) s.3 b kind a apart h.down))

-- time passes
pub ticks_must : (scenario : Scenario) (horizon now : ℕ) (trees : List Fec) (world : World) (ticks : ℕ) → now + ticks ≤ horizon
    → WorldGrown scenario horizon now trees world → Must (WorldGrown scenario horizon (now + ticks) trees) (act world (Tick ticks))
ticks_must scenario horizon now trees world ticks le s =
    aged_must (with_network world [] (octet_run system world.network (octets.Call (Elapse ticks) ∷ [])) (record { 0 = 0 }))
    (network_must (OctetsGrown scenario horizon (now + ticks) trees) world [] (octet_run system world.network (octets.Call (Elapse ticks) ∷ []))
    (record { 0 = 0 })
    (tick_must scenario horizon now trees world.network ticks le s))
  where
    aged_must : (o : Result Acted NodeId) → Must (λ new. OctetsGrown scenario horizon (now + ticks) trees new.network) o
        → Must (λ new. OctetsGrown scenario horizon (now + ticks) trees new.network) (with_aged o)
    aged_must (Err node) h = h
    aged_must (Ok new) h = h

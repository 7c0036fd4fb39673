-- In every run a stream holds back less than a whole unit.
use Rattle.std.specs.Prelude.{⊤, Result, Ok, Err, take, drop, if◌then◌else◌}
use Rattle.std.proofs.Common.{◌≡◌, ℕ, zero, suc, ◌+◌, ◌-◌, ◌&&◌, not, Bool, true, false, cond, List, [], ◌∷◌, ◌++◌, Option, Some, None, refl, sym, subst}
use Rattle.std.specs.List.{AllByRecursion}
use Rattle.mv_base.specs.Number.{◌>>?◌}
use Rattle.mv_base.specs.declared.ids.NodeId.{NodeId}
use Rattle.mv_base.specs.framing.Cut.{Front, Cut, with_front, cut_at}
use Rattle.mv_base.specs.framing.Cut.Front.{more, whole, bad}
use Rattle.mv_base.specs.framing.Feed.{Fed, fed, fed_unless, held_of, unfed}
use Rattle.scenario_defs.specs.declared.event.Timed.{Timed}
use Rattle.scenario_defs.specs.declared.report.ReportLine.{ReportLine}
use Rattle.scenario_defs.specs.declared.report.ReportLine.TheVariants as lines
use Rattle.scenario_defs.specs.declared.scenario.Scenario.{Scenario}
use Rattle.network_defs.specs.session_defs.Message.{SessionMessage, front_of, same_direction}
use Rattle.network_defs.specs.session_defs.Octets as octets
use Rattle.network_defs.specs.session_defs.Octets.{OctetNetwork, OctetAct, Stream, with_step, all_taken, moved, octet_act, octet_run}
use Rattle.network_defs.specs.session_defs.System.{Stepped, Behind, with_earlier}
use Rattle.network_defs.specs.declared.session_defs.direction.Direction.{Direction}
use Rattle.network_defs.proofs.session_defs.Fronts.{stream_of}
use Rattle.network_defs.proofs.session_defs.Lines.{direction_is}
use Rattle.network_defs.specs.Costs.{Cores}
use Rattle.edge_defs.specs.Steps as steps
use Rattle.network_defs.specs.Acts.{Act, Tick, Timers, Move, Lose, Notice, RaiseFirst, RaiseSecond, Restart, At, Enter, Land, Drop, Tell, SetCost, Reroute, Acted, with_network, is_of_session, is_at, leads_to, is_from_peer, with_aged, act}
use Rattle.network_defs.specs.Counts.{direction}
use Rattle.network_defs.specs.Nodes.{Nodes}
use Rattle.network_defs.specs.Run.{Traced, Runs}
use Rattle.network_defs.specs.System.{NodeCall, Own, Elapse, Reset, Price, Follow, system}
use Rattle.network_defs.specs.World.{World, start}
use Rattle.network_defs.proofs.Kept.{Gives, enter_keeps, land_keeps}
use Rattle.network_laws.proofs.Costs.{Costs, HasCosts, NetHas, IsSteady, IsSteadyOctetAct, run_net, act_costs}
use Rattle.settle_laws.proofs.Everywhere.{runs_holds}

-- ---- what is held back

cut_partial : {M E : Type 0} (front : List ℕ → Front M E) → front [] ≡ more → (xs : List ℕ) (place passed : ℕ)
    → (cut_at front place passed xs).fault ≡ None → front (cut_at front place passed xs).rest ≡ more
unfolding cut_at
cut_partial front empty [] place passed e = empty
cut_partial front empty (b ∷ bs) place (suc passed) e = cut_partial front empty bs (place + 1) passed e
cut_partial {M} {E} front empty (b ∷ bs) place zero e = by (λ k f. cut_partial front empty bs (place + 1) k f) (front (b ∷ bs)) refl e
  where
    by : ((k : ℕ) → (cut_at front (place + 1) k bs).fault ≡ None → front (cut_at front (place + 1) k bs).rest ≡ more) → (o : Front M E)
        → front (b ∷ bs) ≡ o → (elim o as (λ _. Cut M E) [
          | more ↦ record { messages = []; rest = b ∷ bs; fault = None }
          | whole n ms ↦
              with_front ms (cut_at front (place + 1) (n - 1) bs)
          | bad ms offset e ↦
              record { messages = ms; rest = b ∷ bs; fault = Some (place + offset, e) }
        ]).fault ≡ None
        → front (elim o as (λ _. Cut M E) [
          | more ↦ record { messages = []; rest = b ∷ bs; fault = None }
          | whole n ms ↦
              with_front ms (cut_at front (place + 1) (n - 1) bs)
          | bad ms offset e ↦
              record { messages = ms; rest = b ∷ bs; fault = Some (place + offset, e) }
        ]).rest ≡ more
    by rest more is f = is
    by rest (whole n ms) is f = rest (n - 1) f
    by rest (bad ms offset fault) is f = absurd cc

held_partial : {M E : Type 0} (front : List ℕ → Front M E) → front [] ≡ more → (c : Cut M E) → (c.fault ≡ None → front c.rest ≡ more)
    → (o : Option (ℕ × E)) → c.fault ≡ o → front (held_of o c.rest) ≡ more
held_partial front empty c h None e = h e
held_partial front empty c h (Some fault) e = empty

fed_partial : {M E : Type 0} (front : List ℕ → Front M E) → front [] ≡ more → (old : Fed M E) (piece : List ℕ) (o : Option (ℕ × E))
    → front old.held ≡ more → front (fed_unless front o old piece).held ≡ more
fed_partial front empty old piece (Some fault) h = h
fed_partial front empty old piece None h =
    let c = cut_at front 0 0 (old.held ++ piece) in
    held_partial front empty c (λ f. cut_partial front empty (old.held ++ piece) 0 0 f) c.fault refl

-- ---- octets

-- Each stream holds back less than a unit.
pub record Streams (network : OctetNetwork Nodes) : Type 0 where
  pub partial : (over : Direction) → front_of over.kind (network.stream over).held ≡ more

abbrev pub StreamsBehind : Option (Behind (OctetNetwork Nodes)) → Type 0
StreamsBehind None = ⊤
StreamsBehind (Some new) = Streams new.network

stepped_streams : (old : OctetNetwork Nodes) (o : Option (Stepped Nodes)) → Streams old → StreamsBehind (with_step old o)
stepped_streams old None s = tt
stepped_streams old (Some new) s = record { partial = s.partial }

earlier_streams : (puts : List _) (o : Option (Behind (OctetNetwork Nodes))) → StreamsBehind o → StreamsBehind (with_earlier puts o)
earlier_streams puts None s = tt
earlier_streams puts (Some new) s = s

on_streams : (o : Option (Behind (OctetNetwork Nodes))) (f : OctetNetwork Nodes → Option (Behind (OctetNetwork Nodes))) → StreamsBehind o
    → ((next : OctetNetwork Nodes) → Streams next → StreamsBehind (f next)) → StreamsBehind (o >>? λ next. with_earlier next.puts (f next.network))
on_streams None f s h = tt
on_streams (Some next) f s h = earlier_streams next.puts (f next.network) (h next.network s)

taken_streams : (over : Direction) (messages : List SessionMessage) (old : OctetNetwork Nodes) → Streams old
    → StreamsBehind (all_taken system old over messages)
taken_streams over [] old s = s
taken_streams over (message ∷ others) old s =
    on_streams (with_step old (system.taken over message old.state)) (λ next. all_taken system next over others)
    (stepped_streams old (system.taken over message old.state) s) (λ next n. taken_streams over others next n)

at_stream : (t : Bool) (kind : _) (new old : Stream) → (t ≡ true → front_of kind new.held ≡ more) → front_of kind old.held ≡ more
    → front_of kind (cond t new old).held ≡ more
at_stream true kind new old h k = h refl
at_stream false kind new old h k = k

moved_streams : (old : OctetNetwork Nodes) (over : Direction) (count : ℕ) → Streams old → StreamsBehind (moved system old over count)
moved_streams old over count s =
    let new = fed (front_of over.kind) (old.stream over) (take count (old.transit over)) in
    let left : OctetNetwork Nodes = record old {
      transit = λ other. if same_direction other over then drop count (old.transit over) else old.transit other;
      stream = λ other. if same_direction other over then record new { waiting = [] } else old.stream other;
    } in
    taken_streams over new.waiting left (record {
      partial = λ other. at_stream (same_direction other over) other.kind (record new { waiting = [] }) (old.stream other)
          (λ e. subst (λ (d : Direction). front_of d.kind new.held ≡ more) (sym (direction_is other over e))
          (fed_partial (front_of over.kind) (stream_of over.kind).framing.empty (old.stream over) (take count (old.transit over))
          (old.stream over).fault (s.partial over)))
          (s.partial other);
    })

act_streams : (one : OctetAct NodeCall) (old : OctetNetwork Nodes) → Streams old → StreamsBehind (octet_act system old one)
act_streams (octets.Move over count) old s =
    elim (old.joined over) as (λ b. StreamsBehind (cond b (moved system old over count) (Some (record { network = old; puts = [] }))))
    [ true ↦ moved_streams old over count s | false ↦ s ]
act_streams (octets.Call call) old s = stepped_streams old (system.called call old.state) s
act_streams (octets.Lose hit) old s = record { partial = s.partial }
act_streams (octets.Forget hit) old s =
    record {
      partial =
          λ over. at_stream (hit over && not (old.joined over)) over.kind unfed (old.stream over) (λ e. (stream_of over.kind).framing.empty)
          (s.partial over);
    }
act_streams (octets.Join hit) old s =
    record { partial = λ over. at_stream (hit over) over.kind unfed (old.stream over) (λ e. (stream_of over.kind).framing.empty) (s.partial over) }

pub run_streams : (acts : List (OctetAct NodeCall)) (old : OctetNetwork Nodes) → Streams old → StreamsBehind (octet_run system old acts)
run_streams [] old s = s
run_streams (one ∷ others) old s =
    on_streams (octet_act system old one) (λ next. octet_run system next others) (act_streams one old s) (λ next n. run_streams others next n)

-- ---- acts

abbrev pub WorldStreams : World → Type 0
WorldStreams world = Streams world.network

network_streams : (world : World) (before : List ReportLine) (found : Option (Behind (OctetNetwork Nodes))) (node : NodeId) → StreamsBehind found
    → Gives (WorldStreams) (with_network world before found node)
network_streams world before None node h = tt
network_streams world before (Some new) node h = h

aged_streams : (found : Result Acted NodeId) → Gives (WorldStreams) found → Gives (WorldStreams) (with_aged found)
aged_streams (Err node) h = tt
aged_streams (Ok new) h = h

at_streams : (world : World) (node : NodeId) (before : List ReportLine) (acts : List (OctetAct NodeCall)) → WorldStreams world
    → Gives (WorldStreams) (with_network world before (octet_run system world.network acts) node)
at_streams world node before acts s = network_streams world before (octet_run system world.network acts) node (run_streams acts world.network s)

pub world_act_streams : (one : Act) (world : World) → WorldStreams world → Gives (WorldStreams) (act world one)
world_act_streams (Tick ticks) world s =
    aged_streams (with_network world [] (octet_run system world.network (octets.Call (Elapse ticks) ∷ [])) (record { 0 = 0 }))
    (at_streams world (record { 0 = 0 }) [] (octets.Call (Elapse ticks) ∷ []) s)
world_act_streams (Timers n) world s = at_streams world n [] (octets.Call (Own n steps.Timers) ∷ []) s
world_act_streams (Move kind from to count) world s =
    at_streams world to (lines.Take kind from to (take count (world.network.transit (direction kind from to))) ∷ [])
    (octets.Move (direction kind from to) count ∷ []) s
world_act_streams (Lose kind a b) world s = at_streams world a [] (octets.Lose (is_of_session kind a b) ∷ []) s
world_act_streams (Notice kind a b) world s =
    at_streams world a [] (octets.Forget (is_from_peer kind a b) ∷ octets.Call (Own a (steps.Noticed kind b)) ∷ []) s
world_act_streams (RaiseFirst kind a b) world s =
    at_streams world a [] (octets.Join (is_of_session kind a b) ∷ octets.Call (Own a (steps.Raised kind b)) ∷ []) s
world_act_streams (RaiseSecond kind a b) world s = at_streams world b [] (octets.Call (Own b (steps.Raised kind a)) ∷ []) s
world_act_streams (Restart n) world s = at_streams world n [] (octets.Lose (is_at n) ∷ octets.Forget (leads_to n) ∷ octets.Call (Reset n) ∷ []) s
world_act_streams (At n call) world s = at_streams world n [] (octets.Call (Own n call) ∷ []) s
world_act_streams (Enter vrf) world s = enter_keeps Streams world vrf s
world_act_streams (Land from to place) world s = land_keeps Streams world from to place s
world_act_streams (Drop from to place) world s = s
world_act_streams Tell world s = s
world_act_streams (SetCost a b cost) world s = at_streams world a [] (octets.Call (Price a b cost) ∷ []) s
world_act_streams (Reroute n) world s = at_streams world n [] (octets.Call (Follow n) ∷ []) s

-- ---- runs

pub runs_streams : (all : List Timed) (old : World) (number : ℕ) (trace : List Traced) (new : World) → WorldStreams old
    → Runs old number all trace new → WorldStreams new
runs_streams all old number trace new s run =
    runs_holds (WorldStreams) (world_act_streams) (λ world datagrams h. record { partial = h.partial }) all old number trace new s run

pub start_streams : (scenario : Scenario) (cores : Cores) → WorldStreams (start scenario cores)
start_streams scenario cores = record { partial = λ over. (stream_of over.kind).framing.empty }

-- ---- with costs that stand still

-- Each stream holds back less than a unit, and the costs are these.
pub record Steady (costs : Costs) (network : OctetNetwork Nodes) : Type 0 where
  pub streams : Streams network
  pub costs_are : HasCosts costs network.state

abbrev pub SteadyBehind : Costs → Option (Behind (OctetNetwork Nodes)) → Type 0
SteadyBehind costs None = ⊤
SteadyBehind costs (Some new) = Steady costs new.network

both_after : (costs : Costs) (o : Option (Behind (OctetNetwork Nodes))) → StreamsBehind o → NetHas costs o → SteadyBehind costs o
both_after costs None s h = tt
both_after costs (Some new) s h = record { streams = s; costs_are = h }

pub run_steady : (costs : Costs) (acts : List (OctetAct NodeCall)) → AllByRecursion IsSteadyOctetAct acts → (old : OctetNetwork Nodes)
    → Steady costs old → SteadyBehind costs (octet_run system old acts)
run_steady costs acts are old s =
    both_after costs (octet_run system old acts) (run_streams acts old s.streams) (run_net costs acts are old s.costs_are)

abbrev pub WorldSteady : Costs → World → Type 0
WorldSteady costs world = Steady costs world.network

pub act_steady : (costs : Costs) (one : Act) → IsSteady one → (world : World) → WorldSteady costs world → Gives (WorldSteady costs) (act world one)
act_steady costs one is world s = by (act world one) (world_act_streams one world s.streams) (act_costs costs one is world s.costs_are)
  where
    by : (o : Result Acted NodeId) → Gives WorldStreams o → Gives (λ new. HasCosts costs new.network.state) o → Gives (WorldSteady costs) o
    by (Err node) p q = tt
    by (Ok new) p q = record { streams = p; costs_are = q }

-- The ends of sessions came up at the clock or before, and those of a joined session over LDP are up.
use Rattle.std.specs.Prelude.{Result, Ok, Err, ⊤, is_some}
use Rattle.std.proofs.Common.{◌≡◌, ◌≤◌, ℕ, ◌+◌, ◌==◌, Bool, true, false, cond, List, [], Option, Some, None, option_map, refl, sym, subst, ◌∙◌, arith}
use Rattle.std.specs.FinMap as maps
use Rattle.mv_base.specs.declared.ids.NodeId.{NodeId}
use Rattle.label_defs.specs.declared.end.End.{End}
use Rattle.label_defs.specs.Steps.{Call, Taken, Want, Unwant, Rerouted}
use Rattle.label_defs.specs.Steps as labels
use Rattle.scenario_defs.specs.declared.event.Kind.TheVariants as kinds
use Rattle.scenario_defs.specs.declared.event.Timed.{Timed}
use Rattle.scenario_defs.specs.declared.scenario.Scenario.{Scenario}
use Rattle.mvpn_model.specs.Unready.{SessionsStand, is_that}
use Rattle.mvpn_model.specs.declared.readiness.UpEnd.{UpEnd}
use Rattle.edge_defs.specs.Steps as steps
use Rattle.edge_defs.specs.Steps.{own_label_call}
use Rattle.network_defs.specs.Acts.{Act, Tick, Timers, Move, Lose, Notice, RaiseFirst, RaiseSecond, Restart, At, Enter, Land, Drop, Tell, SetCost, Reroute, Acted, act}
use Rattle.network_defs.specs.Costs.{Cores}
use Rattle.network_defs.specs.Counts.{direction}
use Rattle.network_defs.specs.Nodes.{part_of}
use Rattle.network_defs.specs.Run.{Traced, Runs}
use Rattle.network_defs.specs.World.{World, scenario_of, clock_of, start}
use Rattle.network_defs.proofs.Kept.{Gives}
use Rattle.network_laws.proofs.ready_laws.ActsStand as stand
use Rattle.network_laws.proofs.ready_laws.ActsStand.{WorldStands, act_stand, act_gives}
use Rattle.network_laws.proofs.ready_laws.Ends.{up_end, end_with}
use Rattle.network_laws.proofs.ready_laws.Nodes.{fresh_end, call_stand}
use Rattle.network_laws.proofs.ready_laws.Octets.{joins}
use Rattle.rule_laws.proofs.Acts.{InStep}
use Rattle.rule_laws.proofs.Calls.{joined_apart, joined_up}
use Rattle.settle_laws.proofs.Everywhere.{runs_holds}
use Rattle.settle_laws.proofs.Times.{stands_at}

-- ---- when ends came up

-- an end, where it is up, came up at that clock or before
abbrev pub IsPast : ℕ → Option UpEnd → Type 0
IsPast now None = ⊤
IsPast now (Some end) = end.raised ≤ now

past_either : (now : ℕ) (t : Bool) (new old : Option UpEnd) → IsPast now new → IsPast now old → IsPast now (cond t new old)
past_either now true new old h k = h
past_either now false new old h k = k

past_later : (now ticks : ℕ) (old : Option UpEnd) → IsPast now old → IsPast (now + ticks) old
past_later now ticks None h = tt
past_later now ticks (Some end) h = omega (arith, h)

past_run : (life now : ℕ) (own : Option Call) (peer : NodeId) (old : Option UpEnd) → IsPast now old → IsPast now (end_with life now own peer old)
past_run life now None peer old h = h
past_run life now (Some (Taken from message)) peer old h = h
past_run life now (Some (Want fec)) peer old h = h
past_run life now (Some (Unwant fec)) peer old h = h
past_run life now (Some Rerouted) peer old h = h
past_run life now (Some (labels.Raised own)) peer old h =
    past_either now (peer.0 == own.0) (Some (record { raised = now; held = false })) old (omega arith) h
past_run life now (Some (labels.Noticed own)) peer old h = past_either now (peer.0 == own.0) None old tt h
past_run life now (Some labels.Timers) peer None h = tt
past_run life now (Some labels.Timers) peer (Some end) h = h

-- each end that is up came up at the clock or before
abbrev ArePast : SessionsStand → Type 0
ArePast standing = (n peer : NodeId) → IsPast standing.clock (standing.end kinds.Ldp n peer)

past_call : (scenario : Scenario) (n : NodeId) (call : steps.Call) (old : SessionsStand) → ArePast old → ArePast (call_stand scenario n call old)
past_call scenario n call old h m peer =
    past_either old.clock (m.0 == n.0) (end_with scenario.life old.clock (own_label_call call) peer (old.end kinds.Ldp m peer))
    (old.end kinds.Ldp m peer)
    (past_run scenario.life old.clock (own_label_call call) peer (old.end kinds.Ldp m peer) (h m peer)) (h m peer)

past_act : (scenario : Scenario) (one : Act) (old : SessionsStand) → ArePast old → ArePast (act_stand scenario one old)
past_act scenario (Tick ticks) old h = λ n peer. past_later old.clock ticks (old.end kinds.Ldp n peer) (h n peer)
past_act scenario (Timers n) old h = past_call scenario n steps.Timers old h
past_act scenario (Move kind from to count) old h = h
past_act scenario (Lose kind a b) old h = h
past_act scenario (Notice kind a b) old h = past_call scenario a (steps.Noticed kind b) old h
past_act scenario (RaiseFirst kind a b) old h = past_call scenario a (steps.Raised kind b) (joins (is_that kind a b) old) h
past_act scenario (RaiseSecond kind a b) old h = past_call scenario b (steps.Raised kind a) old h
past_act scenario (Restart n) old h = λ m peer. past_either old.clock (m.0 == n.0) None (old.end kinds.Ldp m peer) tt (h m peer)
past_act scenario (At n call) old h = past_call scenario n call old h
past_act scenario (Enter vrf) old h = h
past_act scenario (Land from to place) old h = h
past_act scenario (Drop from to place) old h = h
past_act scenario Tell old h = h
past_act scenario (SetCost a b cost) old h = h
past_act scenario (Reroute n) old h = h

-- so it is in the network
abbrev EndsPast : World → Type 0
EndsPast world = ArePast (stands_at world)

act_past : (one : Act) (world : World) → EndsPast world → Gives EndsPast (act world one)
act_past one world h =
    by (act world one) (act_gives (scenario_of world) (stands_at world) world one
    (record { nodes = record { place = refl; clock = refl; ends = λ n peer. refl }; joined = λ kind a b. refl }))
  where
    by : (o : Result Acted NodeId) → stand.Gives (WorldStands (scenario_of world) (act_stand (scenario_of world) one (stands_at world))) o
        → Gives EndsPast o
    by (Err node) g = tt
    by (Ok new) g = λ n peer.
        subst (λ (o : Option UpEnd). IsPast (clock_of new.world) o) (sym (g.1.nodes.ends n peer))
        (subst (λ (now : ℕ). IsPast now ((act_stand (scenario_of world) one (stands_at world)).end kinds.Ldp n peer)) (sym g.1.nodes.clock)
        (past_act (scenario_of world) one (stands_at world) h n peer))

run_past : (scenario : Scenario) (cores : Cores) (all : List Timed) (trace : List Traced) (new : World) → Runs (start scenario cores) 0 all trace new
    → EndsPast new
run_past scenario cores all trace new run =
    runs_holds EndsPast act_past (λ world datagrams h. h) all (start scenario cores) 0 trace new
    (λ n peer. subst (λ (o : Option UpEnd). IsPast 0 o) (sym (fresh_end scenario n peer)) tt) run

-- ---- the ends of joined sessions

-- an end is up, and came up at that clock or before
abbrev pub IsUpBy : ℕ → Option UpEnd → Type 0
IsUpBy now None = ⊥
IsUpBy now (Some end) = end.raised ≤ now

up_there : (now : ℕ) (o : Option End) → is_some o ≡ true → IsPast now (option_map up_end o) → IsUpBy now (option_map up_end o)
up_there now None up h = absurd cc
up_there now (Some end) up h = h

-- Both ends of a session over LDP are up where it is joined, and came up at the clock or before.
abbrev pub BothUp : SessionsStand → NodeId → NodeId → Type 0
BothUp standing a b =
    standing.joined kinds.Ldp a b ≡ true → IsUpBy standing.clock (standing.end kinds.Ldp a b) × IsUpBy standing.clock (standing.end kinds.Ldp b a)

pub run_up : (scenario : Scenario) (cores : Cores) (all : List Timed) (trace : List Traced) (new : World)
    → Runs (start scenario cores) 0 all trace new → InStep scenario new → (a b : NodeId) → BothUp (stands_at new) a b
run_up scenario cores all trace new run (pending, are, good) a b joined =
    let past = run_past scenario cores all trace new run in
    let back : new.network.joined (direction kinds.Ldp b a) ≡ true =
    sym ((good.kept []).rule.session a b (joined_apart scenario _ good.base a b joined)).alike ∙ joined in (
      up_there (clock_of new) (maps.get (part_of (new.network.state.node a)).ends b) (joined_up scenario _ new.copies new.datagrams good a b joined)
          (past a b),
      up_there (clock_of new) (maps.get (part_of (new.network.state.node b)).ends a) (joined_up scenario _ new.copies new.datagrams good b a back)
          (past b a),
    )

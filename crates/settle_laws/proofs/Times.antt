-- Copies do not outlive their life: after a tick of more than it no copy is on a link, and `settle` puts none there.
use Rattle.std.specs.Prelude.{Result, Ok, Err}
use Rattle.std.proofs.Common.{◌≡◌, ◌≤◌, ◌<◌, ℕ, ◌+◌, ◌-◌, ◌==◌, ◌&&◌, nat_le, zero, suc, take, Bool, true, false, cond, List, [], ◌∷◌, ◌++◌, map, flat_map, filter, length, slice_get, Option, Some, None, refl, sym, ap, subst, ◌∙◌, arith}
use Rattle.std.specs.List.{AllByRecursion, remove}
use Rattle.std.proofs.lemmas.Bool.{leb-true}
use Rattle.mv_base.specs.declared.ids.NodeId.{NodeId}
use Rattle.mv_base.specs.declared.ids.VrfId.{VrfId}
use Rattle.label_defs.specs.declared.branch.Branch.{Branch}
use Rattle.scenario_defs.specs.declared.event.Event.TheVariants as events
use Rattle.scenario_defs.specs.declared.event.Timed.{Timed}
use Rattle.scenario_defs.specs.declared.report.ReportLine.{ReportLine}
use Rattle.scenario_defs.specs.declared.report.ReportLine.TheVariants as lines
use Rattle.scenario_defs.specs.declared.scenario.Scenario.{Scenario}
use Rattle.scenario_defs.specs.declared.scenario.Vrf.{Vrf}
use Rattle.mvpn_model.specs.Unready.{SessionsStand}
use Rattle.network_defs.specs.session_defs.Octets as octets
use Rattle.network_defs.specs.session_defs.Octets.{OctetNetwork, octet_run}
use Rattle.network_defs.specs.session_defs.System.{Behind}
use Rattle.network_defs.specs.declared.session_defs.direction.Direction.{Direction}
use Rattle.edge_defs.specs.Datagrams.{entering_fate}
use Rattle.edge_defs.specs.Steps as steps
use Rattle.network_defs.specs.Acts.{Act, Tick, Timers, Move, Lose, Notice, RaiseFirst, RaiseSecond, Restart, At, Enter, Land, Drop, Tell, SetCost, Reroute, Acted, with_network, is_of_session, is_at, leads_to, is_from_peer, copy_on, with_branches, datagram_at, enters_at, entering, fate_at, landed, without_copy, landing, with_aged, act}
use Rattle.network_defs.specs.Costs.{Cores}
use Rattle.network_defs.specs.Counts.{direction, directions, link_ways, all_nodes}
use Rattle.network_defs.specs.Events.{Happened, Done, one_act, row, each, times, turn, settled}
use Rattle.network_defs.specs.Nodes.{NodeState, Edge, CoreNode, Nodes, place_of}
use Rattle.network_defs.specs.Run.{Traced, IsDrained, outcome, Runs}
use Rattle.network_defs.specs.System.{Own, Elapse, Reset, Price, Follow, system}
use Rattle.network_defs.specs.World.{World, Datagram, LinkCopy, scenario_of, clock_of, with_copies, start}
use Rattle.network_defs.proofs.Kept.{Gives, Comes, both_give, then_comes, one_comes, row_keeps, each_keeps, times_keeps}
use Rattle.network_laws.proofs.ready_laws.ActsStand as stand
use Rattle.network_laws.proofs.ready_laws.ActsStand.{WorldStands, act_stand, act_gives}
use Rattle.network_laws.proofs.ready_laws.Nodes.{end_of}
use Rattle.network_laws.proofs.Lists.{each_append, each_filter, each_of, each_weaker}
use Rattle.settle_laws.proofs.Everywhere.{runs_holds}
use Rattle.settle_laws.proofs.Ttl.{on_branches}

-- ---- clock and scenario

-- where the sessions of a world stand
abbrev pub stands_at : World → SessionsStand
stands_at world =
    record {
      clock = clock_of world;
      joined = λ kind a b. world.network.joined (direction kind a b);
      end =
          λ kind n peer. end_of world.network.state n peer;
    }

-- the world after an act has the scenario, and its clock is not before
abbrev GoesOn : World → World → Type 0
GoesOn world new = (scenario_of new ≡ scenario_of world) × (clock_of world ≤ clock_of new)

goes_on : (scenario : Scenario) (one : Act) (old : SessionsStand) → old.clock ≤ (act_stand scenario one old).clock
goes_on scenario (Tick ticks) old = omega arith
goes_on scenario (Timers n) old = omega arith
goes_on scenario (Move kind from to count) old = omega arith
goes_on scenario (Lose kind a b) old = omega arith
goes_on scenario (Notice kind a b) old = omega arith
goes_on scenario (RaiseFirst kind a b) old = omega arith
goes_on scenario (RaiseSecond kind a b) old = omega arith
goes_on scenario (Restart n) old = omega arith
goes_on scenario (At n call) old = omega arith
goes_on scenario (Enter vrf) old = omega arith
goes_on scenario (Land from to place) old = omega arith
goes_on scenario (Drop from to place) old = omega arith
goes_on scenario Tell old = omega arith
goes_on scenario (SetCost a b cost) old = omega arith
goes_on scenario (Reroute n) old = omega arith

act_goes : (one : Act) (world : World) → Gives (GoesOn world) (act world one)
act_goes one world =
    by (act world one) (act_gives (scenario_of world) (stands_at world) world one
    (record { nodes = record { place = refl; clock = refl; ends = λ n peer. refl }; joined = λ kind a b. refl }))
  where
    by : (o : Result Acted NodeId) → stand.Gives (WorldStands (scenario_of world) (act_stand (scenario_of world) one (stands_at world))) o
        → Gives (GoesOn world) o
    by (Err node) g = tt
    by (Ok new) g =
        (g.1.nodes.place, (let le = goes_on (scenario_of world) one (stands_at world) in let same = g.1.nodes.clock in omega (arith, le, same)))

-- ---- when copies were put

-- a copy that was put at that clock or before
abbrev IsOld : ℕ → LinkCopy → Type 0
IsOld now copy = copy.put_at ≤ now

abbrev AreBy : ℕ → World → Type 0
AreBy now world = (u n : NodeId) → AllByRecursion (IsOld now) (world.copies u n)

abbrev AreOld : World → Type 0
AreOld world = AreBy (clock_of world) world

each_removed : {X : Type 0} (P : X → Type 0) (xs : List X) (k : ℕ) → AllByRecursion P xs → AllByRecursion P (remove xs k)
each_removed P [] zero all = tt
each_removed P [] (suc k) all = tt
each_removed P (x ∷ xs) zero all = all.1
each_removed P (x ∷ xs) (suc k) all = (all.0, each_removed P xs k all.1)

either : {X : Type 0} (P : X → Type 0) (t : Bool) (xs ys : List X) → AllByRecursion P xs → AllByRecursion P ys → AllByRecursion P (cond t xs ys)
either P true xs ys h k = h
either P false xs ys h k = k

branches_old : (now : ℕ) (node : NodeId) (ttl number : ℕ) (branches : List Branch) (world : World) → clock_of world ≤ now → AreBy now world
    → AreBy now (with_branches node ttl number branches world)
branches_old now node ttl number [] world le old = old
branches_old now node ttl number (branch ∷ others) world le old =
    let new : List LinkCopy = world.copies node branch.node ++ copy_on world ttl number branch ∷ [] in
    branches_old now node ttl number others (with_copies node branch.node new world) le
    (λ u n. either (IsOld now) ((u.0 == node.0) && (n.0 == branch.node.0)) new (world.copies u n)
    (each_append (IsOld now) (world.copies node branch.node) (copy_on world ttl number branch ∷ []) (old node branch.node) (le, tt)) (old u n))

entered_old : (now : ℕ) (world : World) (id : VrfId) (o : Option Vrf) (d : Option Datagram) → clock_of world ≤ now → AreBy now world
    → AreBy now (entering world id o d).world
entered_old now world id None d le old = old
entered_old now world id (Some vrf) None le old = old
entered_old now world id (Some vrf) (Some datagram) le old = at (world.network.state.node vrf.edge)
  where
    at : (state : NodeState) → AreBy now (enters_at world (record { id = id; vrf = vrf }) state datagram).world
    at (CoreNode part) = old
    at (Edge edge) =
        branches_old now vrf.edge 255 (length world.datagrams)
        (entering_fate (place_of world.network.state vrf.edge) (clock_of world) edge (record { id = id; vrf = vrf }) datagram.site datagram.source
        datagram.group).branches world le old

without_old : (now : ℕ) (world : World) (from to : NodeId) (place : ℕ) → AreBy now world → AreBy now (without_copy world from to place)
without_old now world from to place old u n =
    either (IsOld now) ((u.0 == from.0) && (n.0 == to.0)) (remove (world.copies from to) (place - 1)) (world.copies u n)
    (each_removed (IsOld now) (world.copies from to) (place - 1) (old from to)) (old u n)

landed_old : (now : ℕ) (world : World) (from to : NodeId) (copy : LinkCopy) (d : Option Datagram) → clock_of world ≤ now → AreBy now world
    → AreBy now (landed world from to copy d).world
landed_old now world from to copy None le old = old
landed_old now world from to copy (Some datagram) le old =
    on_branches (AreBy now) to copy.ttl copy.ttl copy.number (fate_at world to (world.network.state.node to) from copy.label datagram) world
    (omega arith) old
    (λ branches fits. branches_old now to (copy.ttl - 1) copy.number branches world le old)

landing_old : (now : ℕ) (world : World) (from to : NodeId) (place : ℕ) (o : Option LinkCopy) → clock_of world ≤ now → AreBy now world
    → AreBy now (landing world from to place o).world
landing_old now world from to place None le old = old
landing_old now world from to place (Some copy) le old =
    landed_old now (without_copy world from to place) from to copy (datagram_at world copy.number) le (without_old now world from to place old)

-- acts on sessions and nodes leave the copies
abbrev SameCopies : World → World → Type 0
SameCopies world new = (u n : NodeId) → new.copies u n ≡ world.copies u n

network_same : (world : World) (before : List ReportLine) (found : Option (Behind (OctetNetwork Nodes))) (node : NodeId)
    → Gives (SameCopies world) (with_network world before found node)
network_same world before None node = tt
network_same world before (Some new) node = λ u n. refl

network_old : (now : ℕ) (world : World) (before : List ReportLine) (found : Option (Behind (OctetNetwork Nodes))) (node : NodeId) → AreBy now world
    → Gives (AreBy now) (with_network world before found node)
network_old now world before None node old = tt
network_old now world before (Some new) node old = old

aged_old : (now : ℕ) (found : Result Acted NodeId) → Gives (AreBy now) found → Gives (AreBy now) (with_aged found)
aged_old now (Err node) h = tt
aged_old now (Ok new) h =
    λ u n. each_filter (IsOld now) (λ copy. nat_le (clock_of new.world) (copy.put_at + (scenario_of new.world).life)) (new.world.copies u n) (h u n)

act_by : (now : ℕ) (one : Act) (world : World) → clock_of world ≤ now → AreBy now world → Gives (AreBy now) (act world one)
act_by now (Tick ticks) world le old =
    let found = octet_run system world.network (octets.Call (Elapse ticks) ∷ []) in
    aged_old now (with_network world [] found (record { 0 = 0 })) (network_old now world [] found (record { 0 = 0 }) old)
act_by now (Timers n) world le old = network_old now world [] (octet_run system world.network (octets.Call (Own n steps.Timers) ∷ [])) n old
act_by now (Move kind from to count) world le old =
    network_old now world (lines.Take kind from to (take count (world.network.transit (direction kind from to))) ∷ [])
    (octet_run system world.network (octets.Move (direction kind from to) count ∷ [])) to old
act_by now (Lose kind a b) world le old = network_old now world [] (octet_run system world.network (octets.Lose (is_of_session kind a b) ∷ [])) a old
act_by now (Notice kind a b) world le old =
    network_old now world [] (octet_run system world.network
    (octets.Forget (is_from_peer kind a b) ∷ octets.Call (Own a (steps.Noticed kind b)) ∷ [])) a old
act_by now (RaiseFirst kind a b) world le old =
    network_old now world [] (octet_run system world.network (octets.Join (is_of_session kind a b) ∷ octets.Call (Own a (steps.Raised kind b)) ∷ []))
    a old
act_by now (RaiseSecond kind a b) world le old =
    network_old now world [] (octet_run system world.network (octets.Call (Own b (steps.Raised kind a)) ∷ [])) b old
act_by now (Restart n) world le old =
    network_old now world [] (octet_run system world.network (octets.Lose (is_at n) ∷ octets.Forget (leads_to n) ∷ octets.Call (Reset n) ∷ [])) n old
act_by now (At n call) world le old = network_old now world [] (octet_run system world.network (octets.Call (Own n call) ∷ [])) n old
act_by now (Enter vrf) world le old =
    entered_old now world vrf (slice_get (scenario_of world).vrfs vrf.0) (datagram_at world (length world.datagrams)) le old
act_by now (Land from to place) world le old = landing_old now world from to place (slice_get (world.copies from to) (place - 1)) le old
act_by now (Drop from to place) world le old = without_old now world from to place old
act_by now Tell world le old = old
act_by now (SetCost a b cost) world le old = network_old now world [] (octet_run system world.network (octets.Call (Price a b cost) ∷ [])) a old
act_by now (Reroute n) world le old = network_old now world [] (octet_run system world.network (octets.Call (Follow n) ∷ [])) n old

-- the copies of a world were put at its clock or before, and its scenario is that one
abbrev Times : Scenario → World → Type 0
Times scenario world = (scenario_of world ≡ scenario) × AreOld world

act_times : (scenario : Scenario) (one : Act) (world : World) → Times scenario world → Gives (Times scenario) (act world one)
act_times scenario one world old =
    by (act world one) (both_give (GoesOn world) (AreBy (clock_of world)) (act world one) (act_goes one world)
    (act_by (clock_of world) one world (omega arith) old.1))
  where
    by : (o : Result Acted NodeId) → Gives (λ new. GoesOn world new × AreBy (clock_of world) new) o → Gives (Times scenario) o
    by (Err node) g = tt
    by (Ok new) g = (
      g.0.0 ∙ old.0,
      λ u n. each_weaker (IsOld (clock_of world)) (IsOld (clock_of new.world))
          (λ copy is. (let le = g.0.1 in omega (arith, le, is))) (new.world.copies u n) (g.1 u n),
    )

run_times : (scenario : Scenario) (cores : Cores) (all : List Timed) (trace : List Traced) (new : World) → Runs (start scenario cores) 0 all trace new
    → Times scenario new
run_times scenario cores all trace new run =
    runs_holds (Times scenario) (act_times scenario) (λ world datagrams old. old) all (start scenario cores) 0 trace new (refl, λ u n. tt) run

-- ---- a tick of more than the life of a copy

flat_none : {A X : Type 0} (f : A → List X) → ((x : A) → f x ≡ []) → (all : List A) → flat_map f all ≡ []
flat_none f none [] = refl
flat_none f none (x ∷ others) = (λ i. none x i ++ flat_map f others) ∙ flat_none f none others

none_young : (life clock now : ℕ) → clock + life < now → (copies : List LinkCopy) → AllByRecursion (IsOld clock) copies
    → filter (λ copy. nat_le now (copy.put_at + life)) copies ≡ []
none_young life clock now lt [] all = refl
none_young life clock now lt (copy ∷ others) all = by (none_young life clock now lt others all.1) (nat_le now (copy.put_at + life)) refl
  where
    by : filter (λ other. nat_le now (other.put_at + life)) others ≡ [] → (b : Bool) → nat_le now (copy.put_at + life) ≡ b
        → cond (nat_le now (copy.put_at + life)) (copy ∷ filter (λ other. nat_le now (other.put_at + life)) others)
        (filter (λ other. nat_le now (other.put_at + life)) others) ≡ []
    by rest true e = (let le = leb-true now (copy.put_at + life) e in let old = all.0 in absurd (omega (arith, lt, le, old)))
    by rest false e =
        ap (λ (b : Bool). cond b (copy ∷ filter (λ other. nat_le now (other.put_at + life)) others)
        (filter (λ other. nat_le now (other.put_at + life)) others)) e ∙ rest

tick_comes : (world : World) (count : ℕ) → AreOld world → (scenario_of world).life < count → Comes IsDrained (row (Tick count ∷ []) world)
tick_comes world count old lt =
    then_comes IsDrained IsDrained (one_act world (Tick count)) (row []) (one_comes IsDrained world (Tick count) drains) (λ next k. k)
  where
    drains : Gives IsDrained (act world (Tick count))
    drains = flat_none (λ (way : NodeId × NodeId). filter (λ copy. nat_le (clock_of world + count) (copy.put_at + (scenario_of world).life))
        (world.copies way.0 way.1))
        (λ way. none_young (scenario_of world).life (clock_of world) (clock_of world + count) (omega (arith, lt)) (world.copies way.0 way.1)
        (old way.0 way.1)) (link_ways (scenario_of world))

pub run_ticks : (scenario : Scenario) (cores : Cores) (all : List Timed) (trace : List Traced) (old new : World) (line count : ℕ)
    (acts : List Happened) → Runs (start scenario cores) 0 all trace old → scenario.life < count
    → outcome old (record { line = line; event = events.Tick count }) ≡ Done acts new → IsDrained new
run_ticks scenario cores all trace old new line count acts run lt e =
    let x = run_times scenario cores all trace old run in
    subst (Comes IsDrained) e (tick_comes old count x.1 (subst (λ (s : Scenario). s.life < count) (sym x.0) lt))

-- ---- `settle` puts no copy

abbrev SameLinks : World → World → Type 0
SameLinks world new = (scenario_of new ≡ scenario_of world) × SameCopies world new

module _ (from : World) where
  keeps : (one : Act) (world : World) → Gives (SameCopies world) (act world one) → SameLinks from world → Gives (SameLinks from) (act world one)
  keeps one world same s = by (act world one) (both_give (GoesOn world) (SameCopies world) (act world one) (act_goes one world) same)
    where
      by : (o : Result Acted NodeId) → Gives (λ new. GoesOn world new × SameCopies world new) o → Gives (SameLinks from) o
      by (Err node) g = tt
      by (Ok new) g = (g.0.0 ∙ s.0, λ u n. g.1 u n ∙ s.1 u n)

  timers_keep : (n : NodeId) (world : World) → SameLinks from world → Gives (SameLinks from) (act world (Timers n))
  timers_keep n world s = keeps (Timers n) world (network_same world [] (octet_run system world.network (octets.Call (Own n steps.Timers) ∷ [])) n) s

  all_timers : (ns : List NodeId) → AllByRecursion (λ one. (world : World) → SameLinks from world → Gives (SameLinks from) (act world one))
      (map (λ n. Timers n) ns)
  all_timers [] = tt
  all_timers (n ∷ others) = (timers_keep n, all_timers others)

  turn_keeps : (over : Direction) (world : World) → SameLinks from world → Comes (SameLinks from) (turn over world)
  turn_keeps over world s = by (world.network.transit over)
    where
      by : (transit : List ℕ) → Comes (SameLinks from)
          (elim transit [ [] ↦ Done [] world | octet ∷ others ↦ row (Move over.kind over.from over.to (length (octet ∷ others)) ∷ []) world ])
      by [] = s
      by (octet ∷ others) = row_keeps (SameLinks from) (Move over.kind over.from over.to (length (octet ∷ others)) ∷ []) (
        (λ old p. keeps (Move over.kind over.from over.to (length (octet ∷ others))) old
            (network_same old (lines.Take over.kind over.from over.to
            (take (length (octet ∷ others)) (old.network.transit (direction over.kind over.from over.to))) ∷ [])
            (octet_run system old.network (octets.Move (direction over.kind over.from over.to) (length (octet ∷ others)) ∷ [])) over.to) p),
        tt,
      ) world s

  settle_keeps : (world : World) → SameLinks from world → Comes (SameLinks from) (settled world)
  settle_keeps world s =
      then_comes (SameLinks from) (SameLinks from) (row (map (λ n. Timers n) (all_nodes (scenario_of world))) world)
      (times (each turn (directions (scenario_of world))) (length (scenario_of world).nodes + 3))
      (row_keeps (SameLinks from) (map (λ n. Timers n) (all_nodes (scenario_of world))) (all_timers (all_nodes (scenario_of world))) world s)
      (λ next n. times_keeps (SameLinks from) (each turn (directions (scenario_of world)))
      (λ one o. each_keeps (SameLinks from) turn (directions (scenario_of world))
      (each_of (λ over. (old : World) → SameLinks from old → Comes (SameLinks from) (turn over old)) turn_keeps (directions (scenario_of world)))
      one o) (length (scenario_of world).nodes + 3) next n)

pub settle_drains : (world : World) (line : ℕ) (acts : List Happened) (next : World) → IsDrained world
    → outcome world (record { line = line; event = events.Settle }) ≡ Done acts next → IsDrained next
settle_drains world line acts next none e =
    let same : SameLinks world next = subst (Comes (SameLinks world)) e (settle_keeps world world (refl, λ u n. refl)) in
    (λ i. flat_map (λ (way : NodeId × NodeId). same.1 way.0 way.1 i) (link_ways (same.0 i))) ∙ none

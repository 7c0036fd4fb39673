-- Acts by which no copy lands and no datagram enters: what each of them does is done by the events that are made of them. An event that
-- lacks a label is one of these.
use Rattle.std.specs.Prelude.{⊤, find}
use Rattle.std.specs.Prelude.{Result, Ok, Err}
use Rattle.std.proofs.Common.{◌≡◌, ◌+◌, ◌++◌, ℕ, zero, suc, Bool, true, false, cond, map, flat_map, replicate, List, [], ◌∷◌, length, take, Option, Some, None, subst}
use Rattle.std.specs.List.{AllByRecursion}
use Rattle.mv_base.specs.declared.addr.Addr.{Addr}
use Rattle.mv_base.specs.declared.ids.NodeId.{NodeId}
use Rattle.mv_base.specs.declared.ids.SiteId.{SiteId}
use Rattle.mv_base.specs.declared.ids.VrfId.{VrfId}
use Rattle.scenario_defs.specs.declared.scenario.Scenario.{Scenario}
use Rattle.scenario_defs.specs.Vpn.{entered}
use Rattle.scenario_defs.specs.declared.event.Event.{Event}
use Rattle.scenario_defs.specs.declared.event.Event.TheVariants as events
use Rattle.scenario_defs.specs.declared.event.Kind.{Kind}
use Rattle.scenario_defs.specs.declared.event.Timed.{Timed}
use Rattle.scenario_defs.specs.declared.report.Refusal.{Refusal}
use Rattle.scenario_defs.specs.declared.report.ReportLine.{ReportLine}
use Rattle.scenario_defs.specs.declared.report.ReportLine.TheVariants as lines
use Rattle.mvpn_model.specs.Packet.{packet}
use Rattle.mvpn_model.specs.Packets.{source_in, group_in}
use Rattle.mvpn_model.specs.Sessions.{sessions}
use Rattle.mvpn_model.specs.declared.session.Session.{Session}
use Rattle.network_defs.specs.session_defs.Octets as octets
use Rattle.network_defs.specs.session_defs.Octets.{OctetNetwork, octet_run}
use Rattle.network_defs.specs.session_defs.System.{Behind, Put, octets_over}
use Rattle.network_defs.specs.declared.session_defs.direction.Direction.{Direction}
use Rattle.edge_defs.specs.Steps as steps
use Rattle.edge_defs.specs.Steps.{CustomerCall}
use Rattle.network_defs.specs.Acts.{Act, Tick, Timers, Move, Lose, Notice, RaiseFirst, RaiseSecond, Restart, At, Enter, Land, Drop, Tell, Acted, with_network, at_node, put_line, put_lines, with_aged, is_of_session, is_from_peer, is_at, leads_to, act, SetCost, Reroute}
use Rattle.network_defs.specs.Counts.{direction, directions, all_nodes, link_ways, is_joined, is_up as is_end}
use Rattle.network_defs.specs.Events.{Happened, Outcome, Done, Halted, and_then, one_act, row, each, times, raise_acts, is_session_of, raises, notices, healed, turn, settled, landings, drain_round, sent, at_edge, done, cost_acts, called}
use Rattle.network_defs.specs.Nodes.{Nodes}
use Rattle.network_defs.specs.Refusals.{refusal, call_for, edge_for}
use Rattle.network_defs.specs.Run.{outcome}
use Rattle.network_defs.specs.System.{Own, Elapse, Reset, system, Price, Follow}
use Rattle.network_defs.specs.World.{World, scenario_of}
use Rattle.network_laws.proofs.Lists.{each_append, each_flat, each_of, each_map, each_weaker}
use Rattle.rule_laws.proofs.Outs.{Says}

-- no copy lands, and no datagram enters
abbrev pub IsPlain : Act → Type 0
IsPlain (Enter vrf) = ⊥
IsPlain (Land from to place) = ⊥
IsPlain other = Unit {0}

pub raises_plain : (all : List Session) (kind : Kind) (a b : NodeId) → AllByRecursion IsPlain (raises all kind a b)
raises_plain all kind a b = by (find (is_session_of kind a b) all)
  where
    by : (o : Option Session) → AllByRecursion IsPlain (elim o [ None ↦ [] | Some session ↦ raise_acts session ])
    by None = tt
    by (Some session) = (tt, (tt, tt))

notices_plain : (world : World) (session : Session) (n peer : NodeId) → AllByRecursion IsPlain (notices world session n peer)
notices_plain world session n peer =
    elim (is_end world session.kind n peer) as (λ t. AllByRecursion IsPlain (cond t (Notice session.kind n peer ∷ []) []))
    [ true ↦ (tt, tt) | false ↦ tt ]

-- ---- what each act of an outcome does

module _ (Q : Happened → Type 0) where
  abbrev pub AllDo : Outcome → Type 0
  AllDo (Done acts world) = AllByRecursion Q acts
  AllDo (Halted acts node) = AllByRecursion Q acts

  abbrev pub Does : Act → Result Acted NodeId → Type 0
  Does one (Err node) = ⊤
  Does one (Ok new) = Q (record { act = Some one; lines = new.lines })

  then_do : (first : Outcome) (next : World → Outcome) → AllDo first → ((world : World) → AllDo (next world)) → AllDo (and_then first next)
  then_do (Halted acts node) next s h = s
  then_do (Done acts world) next s h = by (next world) (h world)
    where
      by : (o : Outcome) → AllDo o → AllDo (elim o
          [ Done thereafter new ↦ Done (acts ++ thereafter) new | Halted thereafter node ↦ Halted (acts ++ thereafter) node ])
      by (Done thereafter new) t = each_append Q acts thereafter s t
      by (Halted thereafter node) t = each_append Q acts thereafter s t

  one_does : (world : World) (one : Act) → Does one (act world one) → AllDo (one_act world one)
  one_does world one s = by (act world one) s
    where
      by : (o : Result Acted NodeId) → Does one o → AllDo
          (elim o [ Ok new ↦ Done (record { act = Some one; lines = new.lines } ∷ []) new.world | Err node ↦ Halted [] node ])
      by (Err node) t = tt
      by (Ok new) t = (t, tt)

  row_does : (acts : List Act) → AllByRecursion (λ one. (world : World) → Does one (act world one)) acts → (world : World) → AllDo (row acts world)
  row_does [] does world = tt
  row_does (one ∷ more) does world = then_do (one_act world one) (row more) (one_does world one (does.0 world)) (λ next. row_does more does.1 next)

  pub each_does : {A : Type 0} (turn : A → World → Outcome) → ((x : A) (world : World) → AllDo (turn x world)) → (all : List A) (world : World)
      → AllDo (each turn all world)
  each_does turn does [] world = tt
  each_does turn does (x ∷ more) world = then_do (turn x world) (each turn more) (does x world) (λ next. each_does turn does more next)

  times_do : (round : World → Outcome) → ((world : World) → AllDo (round world)) → (count : ℕ) (world : World) → AllDo (times round count world)
  times_do round does zero world = tt
  times_do round does (suc count) world = then_do (round world) (times round count) (does world) (λ next. times_do round does count next)

-- ---- events of plain acts

module _ (Q : Happened → Type 0) (plain : (one : Act) → IsPlain one → (world : World) → Does Q one (act world one)) where
  pub plain_row : (acts : List Act) → AllByRecursion IsPlain acts → (world : World) → AllDo Q (row acts world)
  plain_row acts all world = row_does Q acts (each_weaker IsPlain (λ one. (old : World) → Does Q one (act old one)) plain acts all) world

  healed_does : (session : Session) (world : World) → AllDo Q (healed session world)
  healed_does session world = by (is_joined world session)
    where
      acts : List Act
      acts = notices world session session.a session.b ++ (notices world session session.b session.a ++ raise_acts session)

      by : (t : Bool) → AllDo Q (cond t (Done [] world)
          (row (notices world session session.a session.b ++ (notices world session session.b session.a ++ raise_acts session)) world))
      by true = tt
      by false = plain_row acts
          (each_append IsPlain (notices world session session.a session.b) (notices world session session.b session.a ++ raise_acts session)
          (notices_plain world session session.a session.b)
          (each_append IsPlain (notices world session session.b session.a) (raise_acts session) (notices_plain world session session.b session.a)
          (tt, (tt, tt)))) world

  pub heal_does : (world : World) → AllDo Q (done world events.Heal)
  heal_does world = each_does Q healed healed_does (sessions (scenario_of world)) world

  turn_does : (over : Direction) (world : World) → AllDo Q (turn over world)
  turn_does over world = by (world.network.transit over)
    where
      by : (all : List ℕ) → AllDo Q (elim all [
        | [] ↦ Done [] world
        | octet ∷ more ↦
            row (Move over.kind over.from over.to (length (octet ∷ more)) ∷ []) world
      ])
      by [] = tt
      by (octet ∷ more) = plain_row (Move over.kind over.from over.to (length (octet ∷ more)) ∷ []) (tt, tt) world

  pub settle_does : (world : World) → AllDo Q (settled world)
  settle_does world =
      let all = map (λ n. Timers n) (all_nodes (scenario_of world)) in
      then_do Q (row all world) (times (each turn (directions (scenario_of world))) (length (scenario_of world).nodes + 3))
      (plain_row all (each_map IsPlain (λ n. Timers n) (all_nodes (scenario_of world))
      (each_of (λ (n : NodeId). Unit {0}) (λ n. tt) (all_nodes (scenario_of world)))) world)
      (λ next. times_do Q (each turn (directions (scenario_of world))) (λ one. each_does Q turn turn_does (directions (scenario_of world)) one)
      (length (scenario_of world).nodes + 3) next)

  edge_does : (o : Option NodeId) (call : CustomerCall) (world : World) → AllDo Q (at_edge o call world)
  edge_does None call world = tt
  edge_does (Some n) call world = plain_row (At n (steps.Customer call) ∷ []) (tt, tt) world

  pub customer_does : (o : Option CustomerCall) (world : World) → AllDo Q (called o world)
  customer_does None world = tt
  customer_does (Some call) world = edge_does (edge_for (scenario_of world) call) call world

-- ---- acts without a label

-- they never lack one
abbrev Ends : Outcome → Type 0
Ends (Done acts world) = ⊤
Ends (Halted acts node) = ⊥

then_ends : (first : Outcome) (next : World → Outcome) → Ends first → ((world : World) → Ends (next world)) → Ends (and_then first next)
then_ends (Halted acts node) next s h = s
then_ends (Done acts world) next s h = by (next world) (h world)
  where
    by : (o : Outcome) → Ends o → Ends (elim o [ Done thereafter new ↦ Done (acts ++ thereafter) new | Halted thereafter node ↦ Halted (acts ++ thereafter) node ])
    by (Done thereafter new) t = tt
    by (Halted thereafter node) t = t

row_ends : (acts : List Act) → AllByRecursion (λ one. (world : World) → Ends (one_act world one)) acts → (world : World) → Ends (row acts world)
row_ends [] all world = tt
row_ends (one ∷ more) all world = then_ends (one_act world one) (row more) (all.0 world) (λ next. row_ends more all.1 next)

times_end : (round : World → Outcome) → ((world : World) → Ends (round world)) → (count : ℕ) (world : World) → Ends (times round count world)
times_end round h zero world = tt
times_end round h (suc count) world = then_ends (round world) (times round count) (h world) (λ next. times_end round h count next)

sent_ends : (world : World) (ids : List VrfId) → Ends (row (map (λ vrf. Enter vrf) ids) world)
sent_ends world [] = tt
sent_ends world (id ∷ more) = then_ends (one_act world (Enter id)) (row (map (λ vrf. Enter vrf) more)) tt (λ next. sent_ends next more)

landings_end : (world : World) (ways : List (NodeId × NodeId))
    → AllByRecursion (λ one. (old : World) → Ends (one_act old one)) (flat_map (landings world) ways)
landings_end world [] = tt
landings_end world (way ∷ more) =
    each_append (λ (one : Act). (old : World) → Ends (one_act old one)) (landings world way) (flat_map (landings world) more)
    (by (length (world.copies way.0 way.1))) (landings_end world more)
  where
    by : (count : ℕ) → AllByRecursion (λ one. (old : World) → Ends (one_act old one)) (replicate count (Land way.0 way.1 1))
    by zero = tt
    by (suc count) = (λ old. tt, by count)

drain_ends : (world : World) → Ends (done world events.Drain)
drain_ends world =
    times_end drain_round (λ old. row_ends (flat_map (landings old) (link_ways (scenario_of old))) (landings_end old (link_ways (scenario_of old)))
    old) 255 world

-- ---- lines of plain acts

-- octets that are put or taken, or the state
abbrev pub IsPlainLine : ReportLine → Type 0
IsPlainLine (lines.Put kind from to bytes) = ⊤
IsPlainLine (lines.Take kind from to bytes) = ⊤
IsPlainLine (lines.State bytes copies buffers due unready) = ⊤
IsPlainLine other = ⊥

-- what holds of such lines
pub of_plain : (P : ReportLine → Type 0) → ((kind : Kind) (from to : NodeId) (bytes : List ℕ) → P (lines.Put kind from to bytes))
    → ((kind : Kind) (from to : NodeId) (bytes : List ℕ) → P (lines.Take kind from to bytes))
    → ((bytes copies buffers due unready : ℕ) → P (lines.State bytes copies buffers due unready)) → (line : ReportLine) → IsPlainLine line → P line
of_plain P put take state (lines.Put kind from to bytes) p = put kind from to bytes
of_plain P put take state (lines.Take kind from to bytes) p = take kind from to bytes
of_plain P put take state (lines.State bytes copies buffers due unready) p = state bytes copies buffers due unready
of_plain P put take state (lines.Out number iface bytes) p = absurd p
of_plain P put take state (lines.Land from to label number) p = absurd p
of_plain P put take state (lines.Hop u n label ttl number) p = absurd p
of_plain P put take state (lines.Refused line reason) p = absurd p
of_plain P put take state (lines.Halt line node) p = absurd p

put_plain : (puts : List Put) (over : Direction) → AllByRecursion IsPlainLine (put_line puts over)
put_plain puts over = by (octets_over over puts)
  where
    by : (all : List ℕ) → AllByRecursion IsPlainLine (elim all [ [] ↦ [] | octet ∷ more ↦ lines.Put over.kind over.from over.to (octet ∷ more) ∷ [] ])
    by [] = tt
    by (octet ∷ more) = (tt, tt)

network_plain : (world : World) (before : List ReportLine) (found : Option (Behind (OctetNetwork Nodes))) (node : NodeId)
    → AllByRecursion IsPlainLine before → Says IsPlainLine (with_network world before found node)
network_plain world before None node b = tt
network_plain world before (Some new) node b =
    each_append IsPlainLine before (put_lines (scenario_of world) new.puts) b
    (each_flat IsPlainLine (put_line new.puts) (directions (scenario_of world))
    (each_of (λ over. AllByRecursion IsPlainLine (put_line new.puts over)) (put_plain new.puts) (directions (scenario_of world))))

aged_plain : (found : Result Acted NodeId) → Says IsPlainLine found → Says IsPlainLine (with_aged found)
aged_plain (Err node) s = tt
aged_plain (Ok new) s = s

pub act_plain : (one : Act) → IsPlain one → (world : World) → Says IsPlainLine (act world one)
act_plain (Tick ticks) plain world =
    aged_plain (at_node world (record { 0 = 0 }) [] (octets.Call (Elapse ticks) ∷ []))
    (network_plain world [] (octet_run system world.network (octets.Call (Elapse ticks) ∷ [])) (record { 0 = 0 }) tt)
act_plain (Timers n) plain world = network_plain world [] (octet_run system world.network (octets.Call (Own n steps.Timers) ∷ [])) n tt
act_plain (Move kind from to count) plain world =
    network_plain world (lines.Take kind from to (take count (world.network.transit (direction kind from to))) ∷ [])
    (octet_run system world.network (octets.Move (direction kind from to) count ∷ [])) to (tt, tt)
act_plain (Lose kind a b) plain world = network_plain world [] (octet_run system world.network (octets.Lose (is_of_session kind a b) ∷ [])) a tt
act_plain (Notice kind a b) plain world =
    network_plain world [] (octet_run system world.network (octets.Forget (is_from_peer kind a b) ∷ octets.Call (Own a (steps.Noticed kind b)) ∷ []))
    a tt
act_plain (RaiseFirst kind a b) plain world =
    network_plain world [] (octet_run system world.network (octets.Join (is_of_session kind a b) ∷ octets.Call (Own a (steps.Raised kind b)) ∷ [])) a
    tt
act_plain (RaiseSecond kind a b) plain world =
    network_plain world [] (octet_run system world.network (octets.Call (Own b (steps.Raised kind a)) ∷ [])) b tt
act_plain (Restart n) plain world =
    network_plain world [] (octet_run system world.network (octets.Lose (is_at n) ∷ octets.Forget (leads_to n) ∷ octets.Call (Reset n) ∷ [])) n tt
act_plain (At n call) plain world = network_plain world [] (octet_run system world.network (octets.Call (Own n call) ∷ [])) n tt
act_plain (Enter vrf) plain world = absurd plain
act_plain (Land from to place) plain world = absurd plain
act_plain (Drop from to place) plain world = tt
act_plain Tell plain world = (tt, tt)
act_plain (SetCost a b cost) plain world = network_plain world [] (octet_run system world.network (octets.Call (Price a b cost) ∷ [])) a tt
act_plain (Reroute n) plain world = network_plain world [] (octet_run system world.network (octets.Call (Follow n) ∷ [])) n tt

-- ---- an event that lacks a label

abbrev pub IsOfPlain : Option Act → Type 0
IsOfPlain None = ⊥
IsOfPlain (Some one) = IsPlain one

-- an act by which no copy lands and no datagram enters, and its lines
pub record IsQuiet (happened : Happened) : Type 0 where
  pub plain : IsOfPlain happened.act
  pub lines : AllByRecursion IsPlainLine happened.lines

pub plain_quiet : (one : Act) → IsPlain one → (world : World) → Does IsQuiet one (act world one)
plain_quiet one plain world = by (act world one) (act_plain one plain world)
  where
    by : (o : Result Acted NodeId) → Says IsPlainLine o → Does IsQuiet one o
    by (Err node) s = tt
    by (Ok new) s = record { plain = plain; lines = s }

pub costs_plain : (scenario : Scenario) (a b : NodeId) (cost : ℕ) → AllByRecursion IsPlain (cost_acts scenario a b cost)
costs_plain scenario a b cost =
    (tt, each_map IsPlain (λ n. Reroute n) (all_nodes scenario) (each_of (λ n. IsPlain (Reroute n)) (λ n. tt) (all_nodes scenario)))

-- where it lacks a label, its acts are quiet
abbrev HaltsQuiet : Outcome → Type 0
HaltsQuiet (Done acts world) = ⊤
HaltsQuiet (Halted acts node) = AllByRecursion IsQuiet acts

as_all : (o : Outcome) → AllDo IsQuiet o → HaltsQuiet o
as_all (Done acts world) h = tt
as_all (Halted acts node) h = h

as_ends : (o : Outcome) → Ends o → HaltsQuiet o
as_ends (Done acts world) h = tt
as_ends (Halted acts node) h = absurd h

plain_halts : (world : World) (acts : List Act) → AllByRecursion IsPlain acts → HaltsQuiet (row acts world)
plain_halts world acts all = as_all (row acts world) (plain_row IsQuiet plain_quiet acts all world)

customer_halts : (world : World) (o : Option CustomerCall) → HaltsQuiet (called o world)
customer_halts world o = as_all (called o world) (customer_does IsQuiet plain_quiet o world)

sent_halts : (world : World) (site : SiteId) (source group : Addr) (bytes : List ℕ) → HaltsQuiet (sent site source group bytes world)
sent_halts world site source group bytes =
    as_ends (sent site source group bytes world)
    (sent_ends (record world { datagrams = world.datagrams ++ record { site = site; source = source; group = group; octets = bytes } ∷ [] })
    (entered (scenario_of world) site))

done_halts : (world : World) (event : Event) → HaltsQuiet (done world event)
done_halts world (events.Tick count) = plain_halts world (Tick count ∷ []) (tt, tt)
done_halts world (events.Timers node) = plain_halts world (Timers node ∷ []) (tt, tt)
done_halts world (events.Restart node) = plain_halts world (Restart node ∷ []) (tt, tt)
done_halts world (events.Move kind from to count) = plain_halts world (Move kind from to count ∷ []) (tt, tt)
done_halts world (events.Lose kind a b) = plain_halts world (Lose kind a b ∷ []) (tt, tt)
done_halts world (events.Notice kind a b) = plain_halts world (Notice kind a b ∷ []) (tt, tt)
done_halts world (events.Raise kind a b) =
    plain_halts world (raises (sessions (scenario_of world)) kind a b) (raises_plain (sessions (scenario_of world)) kind a b)
done_halts world (events.Customer event) = customer_halts world (call_for (scenario_of world) event)
done_halts world (events.Send site source group payload) = sent_halts world site source group (packet source group payload)
done_halts world (events.Packet site bytes) = sent_halts world site (source_in bytes) (group_in bytes) bytes
done_halts world (events.Hop from to place) =
    as_ends (done world (events.Hop from to place)) (row_ends (Land from to place ∷ []) (λ old. tt, tt) world)
done_halts world (events.DropCopy from to place) = plain_halts world (Drop from to place ∷ []) (tt, tt)
done_halts world events.Heal = as_all (done world events.Heal) (heal_does IsQuiet plain_quiet world)
done_halts world events.Settle = as_all (settled world) (settle_does IsQuiet plain_quiet world)
done_halts world events.Drain = as_ends (done world events.Drain) (drain_ends world)
done_halts world (events.Cost a b cost) = plain_halts world (cost_acts (scenario_of world) a b cost) (costs_plain (scenario_of world) a b cost)
done_halts world events.State = plain_halts world (Tell ∷ []) (tt, tt)

-- By the acts of an event that lacks a label no copy lands and no datagram enters.
pub halts_quiet : (world : World) (timed : Timed) (acts : List Happened) (node : NodeId) → outcome world timed ≡ Halted acts node
    → AllByRecursion IsQuiet acts
halts_quiet world timed acts node e = subst HaltsQuiet e (by (refusal world timed.event))
  where
    by : (o : Option Refusal) → HaltsQuiet (elim o
        [ None ↦ done world timed.event | Some reason ↦ Done (record { act = None; lines = lines.Refused timed.line reason ∷ [] } ∷ []) world ])
    by None = done_halts world timed.event
    by (Some reason) = tt

-- Each event of sound values, and each run of such events, keeps the nodes sound and the octets in transit whole units.
use Rattle.std.specs.Prelude.{if◌then◌else◌, find, replicate}
use Rattle.std.proofs.Common.{◌≡◌, ◌+◌, ℕ, zero, suc, Bool, true, false, cond, map, flat_map, ◌++◌, List, [], ◌∷◌, length, Option, Some, None, refl, sym, subst, arith, ◌≢◌, inl, inr, ap, ◌∙◌}
use Rattle.std.specs.List.{AllByRecursion}
use Rattle.std.proofs.lemmas.List.Elements.{All-contains}
use Rattle.mv_base.specs.declared.addr.Addr.{Addr}
use Rattle.mv_base.specs.declared.ids.NodeId.{NodeId}
use Rattle.mv_base.specs.declared.ids.SiteId.{SiteId}
use Rattle.mv_base.specs.declared.ids.VrfId.{VrfId}
use Rattle.mv_base.specs.core_walks.Topology.{HasEnds}
use Rattle.scenario_defs.specs.Vpn.{entered}
use Rattle.scenario_defs.specs.declared.event.Event.{Event}
use Rattle.scenario_defs.specs.declared.event.Event.TheVariants as events
use Rattle.scenario_defs.specs.declared.event.Kind.{Kind}
use Rattle.scenario_defs.specs.declared.event.Timed.{Timed}
use Rattle.scenario_defs.specs.declared.report.Refusal.{Refusal}
use Rattle.scenario_defs.specs.declared.report.ReportLine.TheVariants as lines
use Rattle.scenario_defs.specs.declared.scenario.Scenario.{Scenario}
use Rattle.network_defs.specs.mvpn_model.Packet.{packet}
use Rattle.network_defs.specs.mvpn_model.Sessions.{sessions}
use Rattle.network_defs.specs.mvpn_model.declared.session.Session.{Session}
use Rattle.network_defs.specs.declared.session_defs.direction.Direction.{Direction}
use Rattle.network_defs.specs.Costs.{Cores}
use Rattle.network_defs.specs.edge_defs.Steps as steps
use Rattle.network_defs.specs.edge_defs.Steps.{CustomerCall}
use Rattle.network_defs.specs.Acts.{Act, Tick, Timers, Move, Lose, Notice, Restart, At, Enter, Land, Drop, Tell, Reroute, act}
use Rattle.network_defs.specs.Counts.{all_nodes, directions, link_ways, is_joined, is_up}
use Rattle.network_defs.specs.Events.{cost_acts, Happened, Outcome, Done, row, each, times, raise_acts, is_session_of, raises, notices, healed, turn, settled, landings, drain_round, sent, at_edge, done, called}
use Rattle.network_defs.specs.mvpn_model.Packets.{source_in, group_in}
use Rattle.network_defs.specs.Refusals.{refusal, call_for, edge_for}
use Rattle.network_defs.specs.Run.{Traced, outcome, Runs}
use Rattle.network_defs.specs.World.{World, scenario_of, start}
use Rattle.network_defs.proofs.Kept.{Gives, Comes, then_comes, row_keeps, each_keeps, times_keeps}
use Rattle.network_laws.specs.Sound.{SoundScenario}
use Rattle.network_laws.specs.Honest.{IsCost, IsSoundCall, IsSoundEvent, IsLinkPlace}
use Rattle.network_laws.proofs.Lists.{each_append, each_of, each_map, each_flat, each_weaker}
use Rattle.network_laws.proofs.NodeCalls.{start_sound}
use Rattle.network_laws.proofs.RunActs.{WorldStays, SoundAct, act_stays}
use Rattle.network_laws.proofs.RunNodes.{IsNode, HasNodes, IsFoundNode, sessions_within, nodes_within}
use Rattle.network_laws.proofs.RunCalls.{IsSoundFor, call_is_sound, call_is_within}

-- ---- rows of acts

module _ (scenario : Scenario) where
  abbrev AreSoundActs : List Act → Type 0
  AreSoundActs acts = AllByRecursion (SoundAct scenario) acts

  abbrev Stay : Outcome → Type 0
  Stay o = Comes (WorldStays scenario) o

  row_stays : (acts : List Act) → AreSoundActs acts → (world : World) → WorldStays scenario world → Stay (row acts world)
  row_stays acts sound world s =
      row_keeps (WorldStays scenario) acts (each_weaker (SoundAct scenario)
      (λ one. (old : World) → WorldStays scenario old → Gives (WorldStays scenario) (act old one))
      (λ one is old p. act_stays scenario one is old p) acts sound) world s

  -- ---- raises and heals

  raise_sound : (session : Session) → HasNodes scenario session → AreSoundActs (raise_acts session)
  raise_sound session within = (within.0, (within.1, tt))

  raises_sound : (all : List Session) (kind : Kind) (a b : NodeId) → AllByRecursion (HasNodes scenario) all → AreSoundActs (raises all kind a b)
  raises_sound all kind a b within = by all within
    where
      by : (rest : List Session) → AllByRecursion (HasNodes scenario) rest
          → AreSoundActs (elim (find (is_session_of kind a b) rest) [ None ↦ [] | Some session ↦ raise_acts session ])
      by [] is = tt
      by (session ∷ more) is =
          let later = by more is.1 in
          elim (is_session_of kind a b session) as (λ t. AreSoundActs
          (elim (cond t (Some session) (find (is_session_of kind a b) more)) [ None ↦ [] | Some found ↦ raise_acts found ])) [
            | true ↦ raise_sound session is.0
            | false ↦ later
          ]

  notices_sound : (world : World) (session : Session) (n peer : NodeId) → IsNode scenario n → AreSoundActs (notices world session n peer)
  notices_sound world session n peer within =
      elim (is_up world session.kind n peer) as (λ t. AreSoundActs (cond t (Notice session.kind n peer ∷ []) [])) [ true ↦ (within, tt) | false ↦ tt ]

  healed_stays : (session : Session) → HasNodes scenario session → (world : World) → WorldStays scenario world → Stay (healed session world)
  healed_stays session within world s = by (is_joined world session)
    where
      acts : List Act
      acts = notices world session session.a session.b ++ (notices world session session.b session.a ++ raise_acts session)

      sound : AreSoundActs acts
      sound =
          each_append (SoundAct scenario) (notices world session session.a session.b)
          (notices world session session.b session.a ++ raise_acts session) (notices_sound world session session.a session.b within.0)
          (each_append (SoundAct scenario) (notices world session session.b session.a) (raise_acts session)
          (notices_sound world session session.b session.a within.1) (raise_sound session within))

      by : (joined : Bool) → Stay (if joined then Done [] world else row acts world)
      by true = s
      by false = row_stays acts sound world s

  -- ---- settling and draining

  turn_stays : (over : Direction) (world : World) → WorldStays scenario world → Stay (turn over world)
  turn_stays over world s = by (world.network.transit over)
    where
      by : (octets : List ℕ) → Stay (elim octets [
        | [] ↦ Done [] world
        | octet ∷ more ↦
            row (Move over.kind over.from over.to (length (octet ∷ more)) ∷ []) world
      ])
      by [] = s
      by (octet ∷ more) = row_stays (Move over.kind over.from over.to (length (octet ∷ more)) ∷ []) (tt, tt) world s

  round_stays : (all : List Direction) (world : World) → WorldStays scenario world → Stay (each turn all world)
  round_stays all world s =
      each_keeps (WorldStays scenario) turn all (each_of (λ over. (old : World) → WorldStays scenario old → Stay (turn over old)) turn_stays all)
      world s

  copies_sound : (one : Act) → SoundAct scenario one → (count : ℕ) → AreSoundActs (replicate count one)
  copies_sound one is zero = tt
  copies_sound one is (suc count) = (is, copies_sound one is count)

  drain_stays : (world : World) → WorldStays scenario world → Stay (drain_round world)
  drain_stays world s =
      row_stays (flat_map (landings world) (link_ways (scenario_of world)))
      (each_flat (SoundAct scenario) (landings world) (link_ways (scenario_of world))
      (each_of (λ way. AreSoundActs (landings world way)) (λ way. copies_sound (Land way.0 way.1 1) tt (length (world.copies way.0 way.1)))
      (link_ways (scenario_of world)))) world s

  sent_stays : (site : SiteId) (source group : Addr) (octets : List ℕ) (world : World) → WorldStays scenario world
      → Stay (sent site source group octets world)
  sent_stays site source group octets world s =
      row_stays (map (λ vrf. Enter vrf) (entered (scenario_of world) site))
      (each_map (SoundAct scenario) (λ vrf. Enter vrf) (entered (scenario_of world) site)
      (each_of (λ (vrf : VrfId). Unit {0}) (λ vrf. tt) (entered (scenario_of world) site)))
      (record world { datagrams = world.datagrams ++ record { site = site; source = source; group = group; octets = octets } ∷ [] }) s

  -- ---- calls

  edge_stays : (o : Option NodeId) (call : CustomerCall) → IsFoundNode scenario o → IsSoundCall (steps.Customer call) → (world : World) → WorldStays
      scenario world
      → Stay (at_edge o call world)
  edge_stays None call within sound world s = s
  edge_stays (Some n) call within sound world s = row_stays (At n (steps.Customer call) ∷ []) ((within, sound), tt) world s

-- ---- events, in the words of the world's own scenario

settle_stays : (world : World) → WorldStays (scenario_of world) world → Comes (WorldStays (scenario_of world)) (settled world)
settle_stays world s =
    let scenario = scenario_of world in
    let stays : World → Type 0 = WorldStays scenario in
    then_comes stays stays (row (map (λ n. Timers n) (all_nodes scenario)) world)
    (times (each turn (directions scenario)) (length scenario.nodes + 3))
    (row_stays scenario (map (λ n. Timers n) (all_nodes scenario))
    (each_map (SoundAct scenario) (λ n. Timers n) (all_nodes scenario)
    (nodes_within 0 (length scenario.nodes) (length scenario.nodes) (omega arith))) world s)
    (λ next p. times_keeps stays (each turn (directions scenario)) (λ one q. round_stays scenario (directions scenario) one q)
    (length scenario.nodes + 3) next p)

cost_stays : (world : World) (a b : NodeId) (cost : ℕ) → IsCost cost → WorldStays (scenario_of world) world
    → Comes (WorldStays (scenario_of world)) (row (cost_acts (scenario_of world) a b cost) world)
cost_stays world a b cost is s =
    let scenario = scenario_of world in
    row_stays scenario (cost_acts scenario a b cost) (
      is,
      each_map (SoundAct scenario) (λ n. Reroute n) (all_nodes scenario)
          (nodes_within 0 (length scenario.nodes) (length scenario.nodes) (omega arith)),
    ) world s

customer_stays : (world : World) → SoundScenario (scenario_of world) → (o : Option CustomerCall) → IsSoundFor o → WorldStays (scenario_of world) world
    → Comes (WorldStays (scenario_of world)) (called o world)
customer_stays world lines None sound s = s
customer_stays world lines (Some call) sound s =
    edge_stays (scenario_of world) (edge_for (scenario_of world) call) call (call_is_within (scenario_of world) lines call) sound world s

-- two nodes that are linked are two
pub two_ends : (scenario : Scenario) → SoundScenario scenario → (from to : NodeId) (place : ℕ) → IsLinkPlace scenario from to place → from ≢ to
two_ends scenario sound from to place h same =
    let two = (All-contains (HasEnds (length scenario.nodes)) scenario.links h.linked.link sound.rules.core.topology.ends h.linked.listed).two in
    let one : from.0 ≡ to.0 = ap (λ (n : NodeId). n.0) same in
    elim h.linked.ends [ inl e ↦ two (e.0 ∙ one ∙ sym e.1) | inr e ↦ two (e.0 ∙ sym one ∙ sym e.1) ]

done_stays : (world : World) → SoundScenario (scenario_of world) → WorldStays (scenario_of world) world → (event : Event)
    → IsSoundEvent (scenario_of world) event → Comes (WorldStays (scenario_of world)) (done world event)
done_stays world lines s (events.Tick count) sound = row_stays (scenario_of world) (Tick count ∷ []) (tt, tt) world s
done_stays world lines s (events.Timers node) sound = row_stays (scenario_of world) (Timers node ∷ []) (sound, tt) world s
done_stays world lines s (events.Restart node) sound = row_stays (scenario_of world) (Restart node ∷ []) (tt, tt) world s
done_stays world lines s (events.Move kind from to count) sound = row_stays (scenario_of world) (Move kind from to count ∷ []) (tt, tt) world s
done_stays world lines s (events.Lose kind a b) sound = row_stays (scenario_of world) (Lose kind a b ∷ []) (tt, tt) world s
done_stays world lines s (events.Notice kind a b) sound = row_stays (scenario_of world) (Notice kind a b ∷ []) (sound, tt) world s
done_stays world lines s (events.Raise kind a b) sound =
    row_stays (scenario_of world) (raises (sessions (scenario_of world)) kind a b)
    (raises_sound (scenario_of world) (sessions (scenario_of world)) kind a b (sessions_within (scenario_of world) lines)) world s
done_stays world lines s (events.Customer event) sound =
    customer_stays world lines (call_for (scenario_of world) event) (call_is_sound (scenario_of world) event sound) s
done_stays world lines s (events.Send site source group payload) sound =
    sent_stays (scenario_of world) site source group (packet source group payload) world s
done_stays world lines s (events.Packet site octets) sound = sent_stays (scenario_of world) site (source_in octets) (group_in octets) octets world s
done_stays world lines s (events.Hop from to place) sound = row_stays (scenario_of world) (Land from to place ∷ []) (tt, tt) world s
done_stays world lines s (events.DropCopy from to place) sound = row_stays (scenario_of world) (Drop from to place ∷ []) (tt, tt) world s
done_stays world lines s (events.Cost a b cost) sound = cost_stays world a b cost sound s
done_stays world lines s events.Heal sound =
    each_keeps (WorldStays (scenario_of world)) healed (sessions (scenario_of world))
    (each_weaker (HasNodes (scenario_of world)) (λ session. (old : World) → WorldStays (scenario_of world) old
    → Comes (WorldStays (scenario_of world)) (healed session old)) (healed_stays (scenario_of world)) (sessions (scenario_of world))
    (sessions_within (scenario_of world) lines)) world s
done_stays world lines s events.Settle sound = settle_stays world s
done_stays world lines s events.Drain sound = times_keeps (WorldStays (scenario_of world)) drain_round (drain_stays (scenario_of world)) 255 world s
done_stays world lines s events.State sound = row_stays (scenario_of world) (Tell ∷ []) (tt, tt) world s

event_stays : (scenario : Scenario) (world : World) → WorldStays scenario world → (event : Event) → IsSoundEvent scenario event
    → Comes (WorldStays scenario) (done world event)
event_stays scenario world s event sound =
    subst (λ (own : Scenario). SoundScenario own → WorldStays own world → IsSoundEvent own event → Comes (WorldStays own) (done world event)) s.0.same
    (λ lines stays is. done_stays world lines stays event is) s.0.lines s sound

-- ---- runs

pub turned_stays : (scenario : Scenario) (old : World) → WorldStays scenario old → (timed : Timed) → IsSoundEvent scenario timed.event
    → (acts : List Happened) (next : World) → outcome old timed ≡ Done acts next → WorldStays scenario next
turned_stays scenario old s timed sound acts next e = subst (Comes (WorldStays scenario)) e (by (refusal old timed.event))
  where
    by : (o : Option Refusal) → Comes (WorldStays scenario)
        (elim o [ None ↦ done old timed.event | Some reason ↦ Done (record { act = None; lines = lines.Refused timed.line reason ∷ [] } ∷ []) old ])
    by None = event_stays scenario old s timed.event sound
    by (Some reason) = s

runs_stay : (scenario : Scenario) (all : List Timed) → AllByRecursion (λ timed. IsSoundEvent scenario timed.event) all
    → (old : World) (number : ℕ) (trace : List Traced) (new : World) → WorldStays scenario old → Runs old number all trace new
    → WorldStays scenario new
runs_stay scenario [] sound old number trace new s run = subst (WorldStays scenario) (sym run.1) s
runs_stay scenario (timed ∷ more) sound old number trace new s run =
    runs_stay scenario more sound.1 run.1 (number + 1) run.2 new (turned_stays scenario old s timed sound.0 run.0 run.1 run.3) run.5

-- nothing is in transit, and no session is joined
pub start_stays : (scenario : Scenario) (cores : Cores) → SoundScenario scenario → WorldStays scenario (start scenario cores)
start_stays scenario cores sound = (start_sound scenario cores sound, ((λ over. []), λ over. (refl, refl)))

pub run_stays : (scenario : Scenario) (cores : Cores) (all : List Timed) (trace : List Traced) (new : World) → SoundScenario scenario
    → AllByRecursion (λ timed. IsSoundEvent scenario timed.event) all → Runs (start scenario cores) 0 all trace new → WorldStays scenario new
run_stays scenario cores all trace new lines sound run =
    runs_stay scenario all sound (start scenario cores) 0 trace new (start_stays scenario cores lines) run

-- The lines of each event name what is there.
use Rattle.std.specs.Prelude.{find}
use Rattle.std.proofs.Common.{◌≡◌, ◌+◌, ◌||◌, not, ℕ, zero, suc, true, map, replicate, ◌++◌, List, [], ◌∷◌, length, All, Option, Some, None, refl, sym, subst, arith}
use Rattle.std.specs.List.{AllByRecursion, flat_map}
use Rattle.std.proofs.lemmas.Bool.{cond_both, or_parts, not-false}
use Rattle.std.proofs.lemmas.List.Elements.{All-from_recursion}
use Rattle.mv_base.specs.declared.addr.Addr.{Addr}
use Rattle.mv_base.specs.declared.ids.NodeId.{NodeId}
use Rattle.mv_base.specs.declared.ids.SiteId.{SiteId}
use Rattle.mv_base.specs.declared.ids.VrfId.{VrfId}
use Rattle.mv_base.proofs.core_walks.WalkLemmas.{good}
use Rattle.scenario_defs.specs.Text.{IsLineOf}
use Rattle.scenario_defs.specs.Vpn.{entered}
use Rattle.scenario_defs.specs.declared.event.Event.{Event}
use Rattle.scenario_defs.specs.declared.event.Event.TheVariants as events
use Rattle.scenario_defs.specs.declared.event.Kind.{Kind}
use Rattle.scenario_defs.specs.declared.event.Script.{Script}
use Rattle.scenario_defs.specs.declared.event.Timed.{Timed}
use Rattle.scenario_defs.specs.declared.report.Refusal.{Refusal}
use Rattle.scenario_defs.specs.declared.report.Refusal.TheVariants as refusals
use Rattle.scenario_defs.specs.declared.report.ReportLine.TheVariants as lines
use Rattle.scenario_defs.specs.declared.scenario.Scenario.{Scenario}
use Rattle.mvpn_model.specs.Packet.{packet}
use Rattle.mvpn_model.specs.Packets.{source_in, group_in}
use Rattle.mvpn_model.specs.Sessions.{sessions}
use Rattle.mvpn_model.specs.declared.session.Session.{Session}
use Rattle.network_defs.specs.declared.session_defs.direction.Direction.{Direction}
use Rattle.network_defs.specs.edge_defs.Steps as steps
use Rattle.network_defs.specs.edge_defs.Steps.{CustomerCall}
use Rattle.network_defs.specs.Acts.{Act, Tick, Timers, Move, Lose, Notice, Restart, At, Enter, Land, Drop, Tell, Reroute}
use Rattle.network_defs.specs.Costs.{Cores}
use Rattle.network_defs.specs.Counts.{all_nodes, directions, link_ways, is_joined, is_up}
use Rattle.network_defs.specs.Events.{Happened, Outcome, Done, Halted, row, each, times, raise_acts, is_session_of, raises, notices, healed, turn, settled, landings, drain_round, sent, cost_acts, at_edge, done, called}
use Rattle.network_defs.specs.Refusals.{no_octets, is_session_joined, refusal, call_for, edge_for}
use Rattle.network_defs.specs.Run.{Traced, outcome}
use Rattle.network_defs.specs.World.{World, scenario_of}
use Rattle.network_defs.proofs.Kept.{enter_keeps, land_keeps}
use Rattle.delivery_laws.specs.network_laws.Honest.{IsSoundCall, IsSoundEvent, IsCost, IsLinkPlace}
use Rattle.delivery_laws.specs.network_laws.Sound.{SoundScenario}
use Rattle.delivery_laws.specs.network_laws.SoundRun.{SoundRun}
use Rattle.delivery_laws.proofs.network_laws.Lists.{each_append, each_of, each_map, each_flat, each_weaker}
use Rattle.delivery_laws.proofs.network_laws.RunActs.{WorldStays}
use Rattle.delivery_laws.proofs.network_laws.RunEvents.{run_stays}
use Rattle.delivery_laws.proofs.network_laws.RunCalls.{IsSoundFor, call_is_sound, call_is_within}
use Rattle.delivery_laws.proofs.network_laws.RunNodes.{IsNode, HasNodes, IsFoundNode, sessions_within, nodes_within}
use Rattle.rule_laws.proofs.Events.{not_refused}
use Rattle.rule_laws.proofs.Start.{run_in_step}
use Rattle.delivery_laws.specs.Linked.{NodesLinked}
use Rattle.delivery_laws.proofs.LinkedEvents.{run_is_linked}
use Rattle.delivery_laws.proofs.LinksOnce.{links_once}
use Rattle.run_laws.specs.line_laws.Lines.{lines_in}
use Rattle.run_laws.proofs.line_laws.Acts.{IsControl, control_does}
use Rattle.run_laws.proofs.line_laws.Copies.{land_says, enter_says}
use Rattle.run_laws.proofs.line_laws.Outcomes.{AreNamed, Tells, tells_as, then_tells, DoesWell, row_tells, each_tells, times_tells}
use Rattle.run_laws.proofs.line_laws.Sessions.{AreNodes, IsOver, directions_within, IsWay, ways_within, joined_within}

abbrev Any : World → Type 0
Any world = Unit {0}

-- branches lead along links
abbrev Linked : Scenario → World → Type 0
Linked scenario world = NodesLinked scenario world.network.state

module _ (scenario : Scenario) (sound : SoundScenario scenario) where
  abbrev Stays : World → Type 0
  Stays world = WorldStays scenario world

  abbrev Fit : List Act → Type 0
  Fit acts = AllByRecursion (IsControl scenario) acts

  rows : (acts : List Act) → Fit acts → (world : World) → Stays world → Tells scenario Stays (row acts world)
  rows acts fit = row_tells scenario Stays acts (each_weaker (IsControl scenario) (DoesWell scenario Stays) (control_does scenario sound) acts fit)

  -- ---- raises and heals

  raise_fits : (session : Session) → HasNodes scenario session → Fit (raise_acts session)
  raise_fits session h = (h.0, (h.1, tt))

  raises_fit : (all : List Session) → AllByRecursion (HasNodes scenario) all → (kind : Kind) (a b : NodeId) → Fit (raises all kind a b)
  raises_fit [] h kind a b = tt
  raises_fit (session ∷ more) h kind a b =
      cond_both (is_session_of kind a b session) (Some session) (find (is_session_of kind a b) more)
      (λ (o : Option Session). Fit (elim o [ None ↦ [] | Some found ↦ raise_acts found ])) (λ t. raise_fits session h.0)
      (λ f. raises_fit more h.1 kind a b)

  notices_fit : (world : World) (session : Session) (n peer : NodeId) → IsNode scenario n → Fit (notices world session n peer)
  notices_fit world session n peer h = cond_both (is_up world session.kind n peer) (Notice session.kind n peer ∷ []) [] Fit (λ t. (h, tt)) (λ f. tt)

  healed_tells : (session : Session) → HasNodes scenario session → (world : World) → Stays world → Tells scenario Stays (healed session world)
  healed_tells session h world s =
      let near = notices world session session.a session.b in
      let far = notices world session session.b session.a in
      cond_both (is_joined world session) (Done [] world) (row (near ++ (far ++ raise_acts session)) world) (Tells scenario Stays) (λ t. (tt, s))
      (λ f. rows (near ++ (far ++ raise_acts session))
      (each_append (IsControl scenario) near (far ++ raise_acts session) (notices_fit world session session.a session.b h.0)
      (each_append (IsControl scenario) far (raise_acts session) (notices_fit world session session.b session.a h.1) (raise_fits session h))) world s)

  -- ---- settling

  turn_tells : (over : Direction) → IsOver scenario over → (world : World) → Stays world → Tells scenario Stays (turn over world)
  turn_tells over h world s = by (world.network.transit over)
    where
      by : (octets : List ℕ) → Tells scenario Stays
          (elim octets [ [] ↦ Done [] world | octet ∷ more ↦ row (Move over.kind over.from over.to (length (octet ∷ more)) ∷ []) world ])
      by [] = (tt, s)
      by (octet ∷ more) = rows (Move over.kind over.from over.to (length (octet ∷ more)) ∷ []) (h, tt) world s

  -- ---- calls

  edge_tells : (o : Option NodeId) (call : CustomerCall) → IsFoundNode scenario o → IsSoundCall (steps.Customer call) → (world : World) → Stays world
      → Tells scenario Stays (at_edge o call world)
  edge_tells None call within is world s = (tt, s)
  edge_tells (Some n) call within is world s = rows (At n (steps.Customer call) ∷ []) ((within, is), tt) world s

  -- ---- copies: they change no node

  land_does : (from to : NodeId) → AreNodes scenario from to → (place : ℕ) → DoesWell scenario (Linked scenario) (Land from to place)
  land_does from to h place world linked = (
    land_says scenario sound world linked from to h.0 h.1 place,
    land_keeps (λ network. NodesLinked scenario network.state) world from to place linked,
  )

  enter_does : (id : VrfId) → DoesWell scenario (Linked scenario) (Enter id)
  enter_does id world linked =
      (enter_says scenario sound world linked id, enter_keeps (λ network. NodesLinked scenario network.state) world id linked)

  landings_do : (world : World) (way : NodeId × NodeId) → IsWay scenario way
      → AllByRecursion (DoesWell scenario (Linked scenario)) (landings world way)
  landings_do world way h = by (length (world.copies way.0 way.1))
    where
      by : (count : ℕ) → AllByRecursion (DoesWell scenario (Linked scenario)) (replicate count (Land way.0 way.1 1))
      by zero = tt
      by (suc count) = (land_does way.0 way.1 h 1, by count)

  round_tells : (world : World) → Linked scenario world → Tells scenario (Linked scenario) (drain_round world)
  round_tells world linked =
      let ways = subst (λ (own : Scenario). AllByRecursion (IsWay scenario) (link_ways own)) (sym linked.place) (ways_within scenario sound) in
      row_tells scenario (Linked scenario) (flat_map (landings world) (link_ways (scenario_of world)))
      (each_flat (DoesWell scenario (Linked scenario)) (landings world) (link_ways (scenario_of world))
      (each_weaker (IsWay scenario) (λ way. AllByRecursion (DoesWell scenario (Linked scenario)) (landings world way)) (landings_do world)
      (link_ways (scenario_of world)) ways)) world linked

  sent_tells : (site : SiteId) (source group : Addr) (octets : List ℕ) (world : World) → Linked scenario world
      → Tells scenario (Linked scenario) (sent site source group octets world)
  sent_tells site source group octets world linked =
      let ids = entered (scenario_of world) site in
      row_tells scenario (Linked scenario) (map (λ id. Enter id) ids)
      (each_map (DoesWell scenario (Linked scenario)) (λ id. Enter id) ids
      (each_of (λ (id : VrfId). DoesWell scenario (Linked scenario) (Enter id)) enter_does ids))
      (record world { datagrams = world.datagrams ++ record { site = site; source = source; group = group; octets = octets } ∷ [] }) linked

-- ---- events, in the words of the world's own scenario

-- what holds before an event: the ends of a joined session are nodes
record Before (scenario : Scenario) (world : World) : Type 0 where
  sound : SoundScenario scenario
  stays : WorldStays scenario world
  linked : Linked scenario world
  joined : (kind : Kind) (from to : NodeId) → is_session_joined world kind from to ≡ true → AreNodes scenario from to

module _ (world : World) (b : Before (scenario_of world) world) where
  abbrev own : Scenario
  own = scenario_of world

  -- of what is after the event nothing more is said
  abbrev Told : Outcome → Type 0
  Told o = Tells own Any o

  stayed : (o : Outcome) → Tells own (WorldStays own) o → Told o
  stayed o t = tells_as own (WorldStays own) Any (λ new s. tt) o t

  still : (o : Outcome) → Tells own (Linked own) o → Told o
  still o t = tells_as own (Linked own) Any (λ new s. tt) o t

  acts : (all : List Act) → AllByRecursion (IsControl own) all → Told (row all world)
  acts all fit = stayed (row all world) (rows own b.sound all fit world b.stays)

  customer_told : (o : Option CustomerCall) → IsSoundFor o → Told (called o world)
  customer_told None is = (tt, tt)
  customer_told (Some call) is =
      let o = edge_for own call in
      stayed (at_edge o call world) (edge_tells own b.sound o call (call_is_within own b.sound call) is world b.stays)

  move_told : (kind : Kind) (from to : NodeId) (count : ℕ) → refusal world (events.Move kind from to count) ≡ None
      → Told (row (Move kind from to count ∷ []) world)
  move_told kind from to count free =
      let x = or_parts (no_octets world kind from to) (not (is_session_joined world kind from to))
      (not_refused (no_octets world kind from to || not (is_session_joined world kind from to)) refusals.Empty free) in
      acts (Move kind from to count ∷ []) (b.joined kind from to (not-false (is_session_joined world kind from to) x.1), tt)

  sent_told : (site : SiteId) (source group : Addr) (octets : List ℕ) → Told (sent site source group octets world)
  sent_told site source group octets = still (sent site source group octets world) (sent_tells own b.sound site source group octets world b.linked)

  hop_told : (from to : NodeId) (place : ℕ) → IsLinkPlace own from to place → Told (row (Land from to place ∷ []) world)
  hop_told from to place is =
      let ends = good (length own.nodes) own.links from.0 to.0 is.cost b.sound.rules.core.topology is.linked in
      still (row (Land from to place ∷ []) world) (row_tells own (Linked own) (Land from to place ∷ [])
      (land_does own b.sound from to (ends.a_within, ends.b_within) place, tt) world b.linked)

  all_within : AllByRecursion (IsNode own) (all_nodes own)
  all_within = nodes_within 0 (length own.nodes) (length own.nodes) (omega arith)

  cost_told : (a c : NodeId) (cost : ℕ) → IsCost cost → Told (row (cost_acts own a c cost) world)
  cost_told a c cost is = acts (cost_acts own a c cost) (is, each_map (IsControl own) (λ n. Reroute n) (all_nodes own) all_within)

  heal_told : Told (each healed (sessions own) world)
  heal_told =
      stayed (each healed (sessions own) world)
      (each_tells own (WorldStays own) healed (sessions own)
      (each_weaker (HasNodes own) (λ session. (old : World) → WorldStays own old → Tells own (WorldStays own) (healed session old))
      (healed_tells own b.sound) (sessions own) (sessions_within own b.sound)) world b.stays)

  settle_told : Told (settled world)
  settle_told =
      let timers = map (λ n. Timers n) (all_nodes own) in
      let turns =
      each_weaker (IsOver own) (λ over. (old : World) → WorldStays own old → Tells own (WorldStays own) (turn over old)) (turn_tells own b.sound)
      (directions own) (directions_within own b.sound) in
      stayed (settled world)
      (then_tells own (WorldStays own) (WorldStays own) (row timers world) (times (each turn (directions own)) (length own.nodes + 3))
      (rows own b.sound timers (each_map (IsControl own) (λ n. Timers n) (all_nodes own) all_within) world b.stays)
      (λ next s. times_tells own (WorldStays own) (each turn (directions own))
      (λ one t. each_tells own (WorldStays own) turn (directions own) turns one t) (length own.nodes + 3) next s))

  done_told : (event : Event) → refusal world event ≡ None → IsSoundEvent own event → Told (done world event)
  done_told (events.Tick count) free is = acts (Tick count ∷ []) (tt, tt)
  done_told (events.Timers node) free is = acts (Timers node ∷ []) (is, tt)
  done_told (events.Restart node) free is = acts (Restart node ∷ []) (tt, tt)
  done_told (events.Move kind from to count) free is = move_told kind from to count free
  done_told (events.Lose kind a c) free is = acts (Lose kind a c ∷ []) (tt, tt)
  done_told (events.Notice kind a c) free is = acts (Notice kind a c ∷ []) (is, tt)
  done_told (events.Raise kind a c) free is =
      acts (raises (sessions own) kind a c) (raises_fit own b.sound (sessions own) (sessions_within own b.sound) kind a c)
  done_told (events.Customer event) free is = customer_told (call_for own event) (call_is_sound own event is)
  done_told (events.Send site source group payload) free is = sent_told site source group (packet source group payload)
  done_told (events.Packet site octets) free is = sent_told site (source_in octets) (group_in octets) octets
  done_told (events.Hop from to place) free is = hop_told from to place is
  done_told (events.DropCopy from to place) free is = acts (Drop from to place ∷ []) (tt, tt)
  done_told (events.Cost a c cost) free is = cost_told a c cost is
  done_told events.Heal free is = heal_told
  done_told events.Settle free is = settle_told
  done_told events.Drain free is =
      still (done world events.Drain) (times_tells own (Linked own) drain_round (round_tells own b.sound) 255 world b.linked)
  done_told events.State free is = acts (Tell ∷ []) (tt, tt)

  outcome_told : (timed : Timed) → IsSoundEvent own timed.event → Told (outcome world timed)
  outcome_told timed is = by (refusal world timed.event) refl
    where
      by : (o : Option Refusal) → refusal world timed.event ≡ o
          → Told (elim o [
            | None ↦ done world timed.event
            | Some reason ↦
                Done (record { act = None; lines = lines.Refused timed.line reason ∷ [] } ∷ []) world
          ])
      by None free = done_told timed.event free is
      by (Some reason) refused = (((tt, tt), tt), tt)

-- ---- after a run

module _ (cores : Cores) (script : Script) (events : List Timed) (trace : List Traced) (world : World)
    (run : SoundRun cores script events trace world) where
  before : Before script.scenario world
  before =
      let stays = run_stays script.scenario cores events trace world run.scenario run.sound_events run.run in
      let linked = run_is_linked cores script events trace world (links_once script.scenario run.scenario.rules) run.run in
      let step = run_in_step script.scenario cores events trace world run.scenario run.sound_events run.run in
      record {
        sound = run.scenario;
        stays = stays;
        linked = linked.network.nodes;
        joined =
            joined_within script.scenario run.scenario world linked.network step;
      }

  tells : (timed : Timed) → IsSoundEvent script.scenario timed.event → Tells script.scenario Any (outcome world timed)
  tells timed is =
      subst (λ (s : Scenario). Before s world → IsSoundEvent s timed.event → Tells s Any (outcome world timed)) before.stays.0.same
      (λ b sound. outcome_told world b timed sound) before is

  all_named : (acts : List Happened) → AllByRecursion (λ (happened : Happened). AreNamed script.scenario happened.lines) acts
      → AreNamed script.scenario (lines_in acts)
  all_named acts h = each_flat (IsLineOf script.scenario) (λ happened. happened.lines) acts h

  pub done_names : (timed : Timed) → IsSoundEvent script.scenario timed.event → (acts : List Happened) (new : World)
      → outcome world timed ≡ Done acts new → All (IsLineOf script.scenario) (lines_in acts)
  done_names timed is acts new e =
      let t = subst (Tells script.scenario Any) e (tells timed is) in
      All-from_recursion (IsLineOf script.scenario) (lines_in acts) (all_named acts t.0)

  pub halted_names : (timed : Timed) → IsSoundEvent script.scenario timed.event → (acts : List Happened) (node : NodeId)
      → outcome world timed ≡ Halted acts node → All (IsLineOf script.scenario) (lines_in acts ++ lines.Halt timed.line node ∷ [])
  halted_names timed is acts node e =
      let t = subst (Tells script.scenario Any) e (tells timed is) in
      All-from_recursion (IsLineOf script.scenario) (lines_in acts ++ lines.Halt timed.line node ∷ [])
      (each_append (IsLineOf script.scenario) (lines_in acts) (lines.Halt timed.line node ∷ []) (all_named acts t.0) (t.1, tt))

-- What each act keeps is kept by each event.
use Rattle.std.specs.Prelude.{⊤, replicate}
use Rattle.std.proofs.Common.{ℕ, zero, suc, ◌+◌, ◌++◌, map, length, List, [], ◌∷◌, Option, None, Some}
use Rattle.std.proofs.lemmas.Bool.{cond_both}
use Rattle.std.specs.Prelude.{find}
use Rattle.std.specs.List.{flat_map, AllByRecursion}
use Rattle.mv_base.specs.declared.addr.Addr.{Addr}
use Rattle.mv_base.specs.declared.ids.NodeId.{NodeId}
use Rattle.mv_base.specs.declared.ids.SiteId.{SiteId}
use Rattle.mv_base.specs.declared.ids.VrfId.{VrfId}
use Rattle.scenario_defs.specs.Vpn.{entered}
use Rattle.scenario_defs.specs.declared.event.Event.{Event}
use Rattle.scenario_defs.specs.declared.event.Event.TheVariants as events
use Rattle.scenario_defs.specs.declared.event.Kind.{Kind}
use Rattle.scenario_defs.specs.declared.report.ReportLine.{ReportLine}
use Rattle.mvpn_model.specs.Packet.{packet}
use Rattle.mvpn_model.specs.Sessions.{sessions}
use Rattle.mvpn_model.specs.declared.session.Session.{Session}
use Rattle.network_defs.specs.declared.session_defs.direction.Direction.{Direction}
use Rattle.edge_defs.specs.Steps as steps
use Rattle.edge_defs.specs.Steps.{CustomerCall}
use Rattle.network_defs.specs.Acts.{Act, Tick, Timers, Move, Lose, Notice, Restart, At, Enter, Land, Drop, Tell, Reroute, act}
use Rattle.network_defs.specs.Counts.{directions, link_ways, all_nodes, is_joined, is_up}
use Rattle.network_defs.specs.Events.{Done, row, each, times, raise_acts, raises, is_session_of, notices, healed, turn, landings, drain_round, sent, cost_acts, at_edge, done, called}
use Rattle.mvpn_model.specs.Packets.{source_in, group_in}
use Rattle.network_defs.specs.Refusals.{call_for, edge_for}
use Rattle.network_defs.specs.World.{World, scenario_of}
use Rattle.delivery_laws.specs.Once.{brought_by}
use Rattle.delivery_laws.proofs.Outcomes.{IsOfLines, Leads, Gives, leads_as, then_leads, row_leads, each_leads, times_leads}
use Rattle.network_laws.proofs.Lists.{each_append}

-- the network with the datagrams that the event sends
abbrev pub begun : World → Event → World
begun world event = record world { datagrams = world.datagrams ++ brought_by event }

-- an act that lets no datagram in
abbrev pub IsNoEntry : Act → Type 0
IsNoEntry (Enter id) = ⊥
IsNoEntry other = ⊤

-- an act that lets a datagram in
abbrev pub IsEntry : Act → Type 0
IsEntry (Enter id) = ⊤
IsEntry other = ⊥

-- ---- no event lets a datagram in but one that sends

raises_enter_nothing : (list : List Session) (kind : Kind) (a b : NodeId) → AllByRecursion IsNoEntry (raises list kind a b)
raises_enter_nothing list kind a b = by (find (is_session_of kind a b) list)
  where
    by : (o : Option Session) → AllByRecursion IsNoEntry (elim o [ None ↦ [] | Some session ↦ raise_acts session ])
    by None = tt
    by (Some session) = (tt, (tt, tt))

notices_enter_nothing : (world : World) (session : Session) (n peer : NodeId) → AllByRecursion IsNoEntry (notices world session n peer)
notices_enter_nothing world session n peer =
    cond_both (is_up world session.kind n peer) (Notice session.kind n peer ∷ []) [] (AllByRecursion IsNoEntry) (λ t. (tt, tt)) (λ f. tt)

timers_enter_nothing : (list : List NodeId) → AllByRecursion IsNoEntry (map (λ n. Timers n) list)
timers_enter_nothing [] = tt
timers_enter_nothing (n ∷ more) = (tt, timers_enter_nothing more)

reroutes_enter_nothing : (list : List NodeId) → AllByRecursion IsNoEntry (map (λ n. Reroute n) list)
reroutes_enter_nothing [] = tt
reroutes_enter_nothing (n ∷ more) = (tt, reroutes_enter_nothing more)

landings_enter_nothing : (world : World) (ways : List (NodeId × NodeId)) → AllByRecursion IsNoEntry (flat_map (landings world) ways)
landings_enter_nothing world [] = tt
landings_enter_nothing world (way ∷ more) =
    each_append IsNoEntry (landings world way) (flat_map (landings world) more) (copies (length (world.copies way.0 way.1)))
    (landings_enter_nothing world more)
  where
    copies : (count : ℕ) → AllByRecursion IsNoEntry (replicate count (Land way.0 way.1 1))
    copies zero = tt
    copies (suc count) = (tt, copies count)

entries_enter : (list : List VrfId) → AllByRecursion IsEntry (map (λ vrf. Enter vrf) list)
entries_enter [] = tt
entries_enter (vrf ∷ more) = (tt, entries_enter more)

-- What each act keeps that lets no datagram in, and, while one is let in, what that keeps.
module _ (L : List ReportLine → Type 0) (l : IsOfLines L) (W V : World → Type 0)
    (h : (one : Act) → IsNoEntry one → (world : World) → W world → Gives L W (act world one))
    (e : (one : Act) → IsEntry one → (world : World) → V world → Gives L V (act world one)) (v : (world : World) → V world → W world) where
  rows : (acts : List Act) → AllByRecursion IsNoEntry acts → (world : World) → W world → Leads L W (row acts world)
  rows acts k world w = row_leads L l W IsNoEntry h acts k world w

  one_row : (one : Act) → IsNoEntry one → (world : World) → W world → Leads L W (row (one ∷ []) world)
  one_row one k world w = rows (one ∷ []) (k, tt) world w

  at_edge_leads : (o : Option NodeId) (call : CustomerCall) (world : World) → W world → Leads L W (at_edge o call world)
  at_edge_leads None call world w = (l.none, w)
  at_edge_leads (Some n) call world w = one_row (At n (steps.Customer call)) tt world w

  customer_leads : (o : Option CustomerCall) (world : World) → W world → Leads L W (called o world)
  customer_leads None world w = (l.none, w)
  customer_leads (Some call) world w = at_edge_leads (edge_for (scenario_of world) call) call world w

  turn_leads : (over : Direction) (world : World) → W world → Leads L W (turn over world)
  turn_leads over world w = by (world.network.transit over)
    where
      by : (octets : List ℕ) → Leads L W (elim octets
          [ [] ↦ Done [] world | octet ∷ more ↦ row (Move over.kind over.from over.to (length (octet ∷ more)) ∷ []) world ])
      by [] = (l.none, w)
      by (octet ∷ more) = one_row (Move over.kind over.from over.to (length (octet ∷ more))) tt world w

  healed_leads : (session : Session) (world : World) → W world → Leads L W (healed session world)
  healed_leads session world w =
      let acts = notices world session session.a session.b ++ (notices world session session.b session.a ++ raise_acts session) in
      cond_both (is_joined world session) (Done [] world) (row acts world) (Leads L W) (λ t. (l.none, w))
      (λ f. rows acts (each_append IsNoEntry (notices world session session.a session.b)
      (notices world session session.b session.a ++ raise_acts session) (notices_enter_nothing world session session.a session.b)
      (each_append IsNoEntry (notices world session session.b session.a) (raise_acts session)
      (notices_enter_nothing world session session.b session.a) (tt, (tt, tt)))) world w)

  sent_leads : (site : SiteId) (source group : Addr) (octets : List ℕ) (world : World)
      → V (record world { datagrams = world.datagrams ++ record { site = site; source = source; group = group; octets = octets } ∷ [] })
      → Leads L W (sent site source group octets world)
  sent_leads site source group octets world w =
      let begins : World =
      record world { datagrams = world.datagrams ++ record { site = site; source = source; group = group; octets = octets } ∷ [] } in
      leads_as L V W v (row (map (λ vrf. Enter vrf) (entered (scenario_of world) site)) begins)
      (row_leads L l V IsEntry e (map (λ vrf. Enter vrf) (entered (scenario_of world) site)) (entries_enter (entered (scenario_of world) site))
      begins w)

  -- what is asked of the network before an event
  abbrev pub Before : World → Event → Type 0
  Before world (events.Send site source group payload) = V (begun world (events.Send site source group payload))
  Before world (events.Packet site octets) = V (begun world (events.Packet site octets))
  Before world other = W world

  pub event_leads : (world : World) (event : Event) → Before world event → Leads L W (done world event)
  event_leads world (events.Send site source group payload) w = sent_leads site source group (packet source group payload) world w
  event_leads world (events.Packet site octets) w = sent_leads site (source_in octets) (group_in octets) octets world w
  event_leads world (events.Tick count) w = one_row (Tick count) tt world w
  event_leads world (events.Timers node) w = one_row (Timers node) tt world w
  event_leads world (events.Restart node) w = one_row (Restart node) tt world w
  event_leads world (events.Move kind from to count) w = one_row (Move kind from to count) tt world w
  event_leads world (events.Lose kind a b) w = one_row (Lose kind a b) tt world w
  event_leads world (events.Notice kind a b) w = one_row (Notice kind a b) tt world w
  event_leads world (events.Raise kind a b) w =
      rows (raises (sessions (scenario_of world)) kind a b) (raises_enter_nothing (sessions (scenario_of world)) kind a b) world w
  event_leads world (events.Customer event) w = customer_leads (call_for (scenario_of world) event) world w
  event_leads world (events.Hop from to place) w = one_row (Land from to place) tt world w
  event_leads world (events.DropCopy from to place) w = one_row (Drop from to place) tt world w
  event_leads world (events.Cost a b cost) w =
      rows (cost_acts (scenario_of world) a b cost) (tt, reroutes_enter_nothing (all_nodes (scenario_of world))) world w
  event_leads world events.Heal w = each_leads L l W healed (λ session next v. healed_leads session next v) (sessions (scenario_of world)) world w
  event_leads world events.Settle w =
      then_leads L l W W (row (map (λ n. Timers n) (all_nodes (scenario_of world))) world)
      (times (each turn (directions (scenario_of world))) (length (scenario_of world).nodes + 3))
      (rows (map (λ n. Timers n) (all_nodes (scenario_of world))) (timers_enter_nothing (all_nodes (scenario_of world))) world w)
      (λ next v. times_leads L l W (each turn (directions (scenario_of world)))
      (λ one q. each_leads L l W turn (λ over x r. turn_leads over x r) (directions (scenario_of world)) one q)
      (length (scenario_of world).nodes + 3) next v)
  event_leads world events.Drain w =
      times_leads L l W drain_round (λ one q. rows (flat_map (landings one) (link_ways (scenario_of one)))
      (landings_enter_nothing one (link_ways (scenario_of one))) one q) 255 world w
  event_leads world events.State w = one_row Tell tt world w

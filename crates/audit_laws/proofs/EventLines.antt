-- The lines of events that are accepted: none but `state` gives a marker, and none gives a `halt` line.
use Rattle.std.specs.Prelude.{⊤, slice_get, replicate, find}
use Rattle.std.proofs.Common.{◌≡◌, ℕ, ◌+◌, ◌-◌, false, ◌++◌, map, take, length, List, [], ◌∷◌, Option, None, Some, Ok, Err, Result, refl, subst, ◌∙◌, zero, suc}
use Rattle.std.specs.List.{flat_map, AllByRecursion}
use Rattle.std.proofs.lemmas.Bool.{cond_both}
use Rattle.std.proofs.lemmas.List.Concat.{flat_map-append}
use Rattle.mv_base.specs.declared.ids.NodeId.{NodeId}
use Rattle.mv_base.specs.declared.ids.VrfId.{VrfId}
use Rattle.scenario_defs.specs.declared.event.Event.{Event}
use Rattle.scenario_defs.specs.declared.event.Event.TheVariants as events
use Rattle.scenario_defs.specs.declared.report.ReportLine.{ReportLine}
use Rattle.scenario_defs.specs.declared.report.ReportLine.TheVariants as lines
use Rattle.scenario_defs.specs.declared.scenario.Vrf.{Vrf}
use Rattle.network_defs.specs.session_defs.Octets as octets
use Rattle.network_defs.specs.session_defs.System.{Put, Behind, octets_over}
use Rattle.network_defs.specs.declared.session_defs.direction.Direction.{Direction}
use Rattle.edge_defs.specs.Datagrams.{Fate, entering_fate}
use Rattle.edge_defs.specs.Place.{OwnVrf}
use Rattle.edge_defs.specs.Steps as steps
use Rattle.edge_defs.specs.Steps.{CustomerCall}
use Rattle.network_defs.specs.Acts.{Act, Tick, Timers, Move, Lose, Notice, RaiseFirst, RaiseSecond, Restart, At, Enter, Land, Drop, Tell, SetCost, Reroute, Acted, act, put_line, put_lines, with_network, at_node, is_of_session, is_at, leads_to, is_from_peer, hop_line, fated, datagram_at, enters_at, entering, fate_at, with_ttl, landed, without_copy, landing, with_aged}
use Rattle.network_defs.specs.Counts.{direction, directions, link_ways, all_nodes, is_joined, is_up}
use Rattle.network_defs.specs.Events.{Happened, Done, done, row, each, times, raise_acts, raises, is_session_of, notices, healed, turn, landings, drain_round, sent, cost_acts, at_edge, called}
use Rattle.network_defs.specs.Nodes.{NodeState, Edge, CoreNode, Nodes, place_of}
use Rattle.network_defs.specs.Refusals.{call_for, edge_for}
use Rattle.network_defs.specs.System.{NodeCall, Own, Elapse, Reset, Price, Follow, system}
use Rattle.network_defs.specs.World.{World, Datagram, LinkCopy, scenario_of, clock_of}
use Rattle.once_laws.specs.delivery_laws.Flood.{lines_in}
use Rattle.once_laws.proofs.delivery_laws.Outcomes.{IsOfLines, Leads, Gives, then_leads, row_leads, each_leads, times_leads}
use Rattle.mv_base.specs.declared.addr.Addr.{Addr}
use Rattle.mv_base.specs.declared.ids.SiteId.{SiteId}
use Rattle.scenario_defs.specs.Vpn.{entered}
use Rattle.scenario_defs.specs.declared.event.Kind.{Kind}
use Rattle.mvpn_model.specs.Packet.{packet}
use Rattle.mvpn_model.specs.Sessions.{sessions}
use Rattle.mvpn_model.specs.declared.session.Session.{Session}
use Rattle.mvpn_model.specs.Packets.{source_in, group_in}
use Rattle.network_laws.proofs.Lists.{each_append}
use Rattle.std.proofs.lemmas.Bool.{true≢false}
use Rattle.audit_defs.specs.Markers.{is_state}

-- a marker, or a `halt` line
abbrev pub special : ReportLine → List ReportLine
special (lines.State bytes copies buffers due unready) = lines.State bytes copies buffers due unready ∷ []
special (lines.Refused line reason) = lines.Refused line reason ∷ []
special (lines.Halt line node) = lines.Halt line node ∷ []
special other = []

-- an act that does not show the state
abbrev pub IsOther : Act → Type 0
IsOther Tell = ⊥
IsOther other = ⊤

-- ---- no line of an act but `state` is a marker or a halt

abbrev pub SaysNothing : List ReportLine → Type 0
SaysNothing all = flat_map special all ≡ []

abbrev Any : World → Type 0
Any world = ⊤

say_nothing : IsOfLines SaysNothing
say_nothing = record { none = refl; both = λ first more f m. flat_map-append special first more ∙ (λ i. f i ++ m i) }

none_of_each : {A : Type 0} (line : A → ReportLine) → ((x : A) → special (line x) ≡ []) → (all : List A) → SaysNothing (map line all)
none_of_each line h [] = refl
none_of_each line h (x ∷ more) = (λ i. h x i ++ none_of_each line h more i)

puts_say_nothing : (puts : List Put) (list : List Direction) → SaysNothing (flat_map (put_line puts) list)
puts_say_nothing puts [] = refl
puts_say_nothing puts (over ∷ more) =
    say_nothing.both (put_line puts over) (flat_map (put_line puts) more) (by (octets_over over puts)) (puts_say_nothing puts more)
  where
    by : (bytes : List ℕ) → SaysNothing (elim bytes [ [] ↦ [] | octet ∷ rest ↦ lines.Put over.kind over.from over.to (octet ∷ rest) ∷ [] ])
    by [] = refl
    by (octet ∷ rest) = refl

network_says_nothing : (world : World) (before : List ReportLine) → SaysNothing before
    → (node : NodeId) (o : Option (Behind (octets.OctetNetwork Nodes))) → Gives SaysNothing Any (with_network world before o node)
network_says_nothing world before b node None = tt
network_says_nothing world before b node (Some new) =
    (say_nothing.both before (put_lines (scenario_of world) new.puts) b (puts_say_nothing new.puts (directions (scenario_of world))), tt)

node_says_nothing : (world : World) (node : NodeId) (before : List ReportLine) → SaysNothing before → (acts : List (octets.OctetAct NodeCall))
    → Gives SaysNothing Any (at_node world node before acts)
node_says_nothing world node before b acts = network_says_nothing world before b node (octets.octet_run system world.network acts)

aged_says_nothing : (o : Result Acted NodeId) → Gives SaysNothing Any o → Gives SaysNothing Any (with_aged o)
aged_says_nothing (Err node) h = tt
aged_says_nothing (Ok new) h = (h.0, tt)

fated_says_nothing : (world : World) (node : NodeId) (ttl own : ℕ) (bytes : List ℕ) (before : List ReportLine) (fate : Fate) → SaysNothing before
    → SaysNothing (fated world node ttl own bytes before fate).lines
fated_says_nothing world node ttl own bytes before fate b =
    let outs = map (λ i. lines.Out own i bytes) fate.outs in
    let hops = map (hop_line node ttl own) fate.branches in
    say_nothing.both before (outs ++ hops) b (say_nothing.both outs hops (none_of_each (λ i. lines.Out own i bytes) (λ i. refl) fate.outs)
    (none_of_each (hop_line node ttl own) (λ branch. refl) fate.branches))

enters_says_nothing : (world : World) (own : OwnVrf) (node : NodeState) (datagram : Datagram) → SaysNothing (enters_at world own node datagram).lines
enters_says_nothing world own (Edge edge) datagram =
    fated_says_nothing world own.vrf.edge 255 (length world.datagrams) datagram.octets []
    (entering_fate (place_of world.network.state own.vrf.edge) (clock_of world) edge own datagram.site datagram.source datagram.group) refl
enters_says_nothing world own (CoreNode part) datagram = refl

entering_says_nothing : (world : World) (id : VrfId) (v : Option Vrf) (o : Option Datagram) → SaysNothing (entering world id v o).lines
entering_says_nothing world id None o = refl
entering_says_nothing world id (Some vrf) None = refl
entering_says_nothing world id (Some vrf) (Some datagram) =
    enters_says_nothing world (record { id = id; vrf = vrf }) (world.network.state.node vrf.edge) datagram

landed_says_nothing : (world : World) (from to : NodeId) (copy : LinkCopy) (o : Option Datagram) → SaysNothing (landed world from to copy o).lines
landed_says_nothing world from to copy None = refl
landed_says_nothing world from to copy (Some datagram) =
    fated_says_nothing world to (copy.ttl - 1) copy.number datagram.octets (lines.Land from to copy.label copy.number ∷ [])
    (with_ttl copy.ttl (fate_at world to (world.network.state.node to) from copy.label datagram)) refl

landing_says_nothing : (world : World) (from to : NodeId) (place : ℕ) (o : Option LinkCopy) → SaysNothing (landing world from to place o).lines
landing_says_nothing world from to place None = refl
landing_says_nothing world from to place (Some copy) =
    landed_says_nothing (without_copy world from to place) from to copy (datagram_at world copy.number)

act_says_nothing : (one : Act) → IsOther one → (world : World) → Gives SaysNothing Any (act world one)
act_says_nothing (Tick ticks) k world =
    aged_says_nothing (at_node world (record { 0 = 0 }) [] (octets.Call (Elapse ticks) ∷ []))
    (node_says_nothing world (record { 0 = 0 }) [] refl (octets.Call (Elapse ticks) ∷ []))
act_says_nothing (Timers n) k world = node_says_nothing world n [] refl (octets.Call (Own n steps.Timers) ∷ [])
act_says_nothing (Move kind from to count) k world =
    node_says_nothing world to (lines.Take kind from to (take count (world.network.transit (direction kind from to))) ∷ []) refl
    (octets.Move (direction kind from to) count ∷ [])
act_says_nothing (Lose kind a b) k world = node_says_nothing world a [] refl (octets.Lose (is_of_session kind a b) ∷ [])
act_says_nothing (Notice kind a b) k world =
    node_says_nothing world a [] refl (octets.Forget (is_from_peer kind a b) ∷ octets.Call (Own a (steps.Noticed kind b)) ∷ [])
act_says_nothing (RaiseFirst kind a b) k world =
    node_says_nothing world a [] refl (octets.Join (is_of_session kind a b) ∷ octets.Call (Own a (steps.Raised kind b)) ∷ [])
act_says_nothing (RaiseSecond kind a b) k world = node_says_nothing world b [] refl (octets.Call (Own b (steps.Raised kind a)) ∷ [])
act_says_nothing (Restart n) k world =
    node_says_nothing world n [] refl (octets.Lose (is_at n) ∷ octets.Forget (leads_to n) ∷ octets.Call (Reset n) ∷ [])
act_says_nothing (At n call) k world = node_says_nothing world n [] refl (octets.Call (Own n call) ∷ [])
act_says_nothing (Enter vrf) k world =
    (entering_says_nothing world vrf (slice_get (scenario_of world).vrfs vrf.0) (datagram_at world (length world.datagrams)), tt)
act_says_nothing (Land from to place) k world = (landing_says_nothing world from to place (slice_get (world.copies from to) (place - 1)), tt)
act_says_nothing (Drop from to place) k world = (refl, tt)
act_says_nothing Tell k world = absurd k
act_says_nothing (SetCost a b cost) k world = node_says_nothing world a [] refl (octets.Call (Price a b cost) ∷ [])
act_says_nothing (Reroute n) k world = node_says_nothing world n [] refl (octets.Call (Follow n) ∷ [])

-- ---- no event shows the state but `state`

raises_are_other : (list : List Session) (kind : Kind) (a b : NodeId) → AllByRecursion IsOther (raises list kind a b)
raises_are_other list kind a b = by (find (is_session_of kind a b) list)
  where
    by : (o : Option Session) → AllByRecursion IsOther (elim o [ None ↦ [] | Some session ↦ raise_acts session ])
    by None = tt
    by (Some session) = (tt, (tt, tt))

notices_are_other : (world : World) (session : Session) (n peer : NodeId) → AllByRecursion IsOther (notices world session n peer)
notices_are_other world session n peer =
    cond_both (is_up world session.kind n peer) (Notice session.kind n peer ∷ []) [] (AllByRecursion IsOther) (λ t. (tt, tt)) (λ f. tt)

timers_are_other : (list : List NodeId) → AllByRecursion IsOther (map (λ n. Timers n) list)
timers_are_other [] = tt
timers_are_other (n ∷ more) = (tt, timers_are_other more)

reroutes_are_other : (list : List NodeId) → AllByRecursion IsOther (map (λ n. Reroute n) list)
reroutes_are_other [] = tt
reroutes_are_other (n ∷ more) = (tt, reroutes_are_other more)

landings_are_other : (world : World) (ways : List (NodeId × NodeId)) → AllByRecursion IsOther (flat_map (landings world) ways)
landings_are_other world [] = tt
landings_are_other world (way ∷ more) =
    each_append IsOther (landings world way) (flat_map (landings world) more) (copies (length (world.copies way.0 way.1)))
    (landings_are_other world more)
  where
    copies : (count : ℕ) → AllByRecursion IsOther (replicate count (Land way.0 way.1 1))
    copies zero = tt
    copies (suc count) = (tt, copies count)

entries_are_other : (list : List VrfId) → AllByRecursion IsOther (map (λ vrf. Enter vrf) list)
entries_are_other [] = tt
entries_are_other (vrf ∷ more) = (tt, entries_are_other more)

module _ (L : List ReportLine → Type 0) (l : IsOfLines L) (W : World → Type 0) (every : (world : World) → W world)
    (h : (one : Act) → IsOther one → (world : World) → W world → Gives L W (act world one)) where
  rows : (acts : List Act) → AllByRecursion IsOther acts → (world : World) → W world → Leads L W (row acts world)
  rows acts k world w = row_leads L l W IsOther h acts k world w

  one_row : (one : Act) → IsOther one → (world : World) → W world → Leads L W (row (one ∷ []) world)
  one_row one k world w = rows (one ∷ []) (k, tt) world w

  at_edge_leads : (o : Option NodeId) (call : CustomerCall) (world : World) → W world → Leads L W (at_edge o call world)
  at_edge_leads None call world w = (l.none, w)
  at_edge_leads (Some n) call world w = one_row (At n (steps.Customer call)) tt world w

  customer_leads : (o : Option CustomerCall) (world : World) → W world → Leads L W (called o world)
  customer_leads None world w = (l.none, w)
  customer_leads (Some call) world w = at_edge_leads (edge_for (scenario_of world) call) call world w

  turn_leads : (over : Direction) (world : World) → W world → Leads L W (turn over world)
  turn_leads over world w = by (world.network.transit over)
    where
      by : (octets : List ℕ) → Leads L W (elim octets
          [ [] ↦ Done [] world | octet ∷ more ↦ row (Move over.kind over.from over.to (length (octet ∷ more)) ∷ []) world ])
      by [] = (l.none, w)
      by (octet ∷ more) = one_row (Move over.kind over.from over.to (length (octet ∷ more))) tt world w

  healed_leads : (session : Session) (world : World) → W world → Leads L W (healed session world)
  healed_leads session world w =
      let acts = notices world session session.a session.b ++ (notices world session session.b session.a ++ raise_acts session) in
      cond_both (is_joined world session) (Done [] world) (row acts world) (Leads L W) (λ t. (l.none, w))
      (λ f. rows acts (each_append IsOther (notices world session session.a session.b)
      (notices world session session.b session.a ++ raise_acts session) (notices_are_other world session session.a session.b)
      (each_append IsOther (notices world session session.b session.a) (raise_acts session) (notices_are_other world session session.b session.a)
      (tt, (tt, tt)))) world w)

  sent_leads : (site : SiteId) (source group : Addr) (octets : List ℕ) (world : World) → Leads L W (sent site source group octets world)
  sent_leads site source group octets world =
      let begins : World =
      record world { datagrams = world.datagrams ++ record { site = site; source = source; group = group; octets = octets } ∷ [] } in
      row_leads L l W IsOther h (map (λ vrf. Enter vrf) (entered (scenario_of world) site)) (entries_are_other (entered (scenario_of world) site))
      begins (every begins)

  pub event_leads : (world : World) (event : Event) → is_state event ≡ false → W world → Leads L W (done world event)
  event_leads world (events.Send site source group payload) other w = sent_leads site source group (packet source group payload) world
  event_leads world (events.Packet site octets) other w = sent_leads site (source_in octets) (group_in octets) octets world
  event_leads world (events.Tick count) other w = one_row (Tick count) tt world w
  event_leads world (events.Timers node) other w = one_row (Timers node) tt world w
  event_leads world (events.Restart node) other w = one_row (Restart node) tt world w
  event_leads world (events.Move kind from to count) other w = one_row (Move kind from to count) tt world w
  event_leads world (events.Lose kind a b) other w = one_row (Lose kind a b) tt world w
  event_leads world (events.Notice kind a b) other w = one_row (Notice kind a b) tt world w
  event_leads world (events.Raise kind a b) other w =
      rows (raises (sessions (scenario_of world)) kind a b) (raises_are_other (sessions (scenario_of world)) kind a b) world w
  event_leads world (events.Customer event) other w = customer_leads (call_for (scenario_of world) event) world w
  event_leads world (events.Hop from to place) other w = one_row (Land from to place) tt world w
  event_leads world (events.DropCopy from to place) other w = one_row (Drop from to place) tt world w
  event_leads world (events.Cost a b cost) other w =
      rows (cost_acts (scenario_of world) a b cost) (tt, reroutes_are_other (all_nodes (scenario_of world))) world w
  event_leads world events.Heal other w =
      each_leads L l W healed (λ session next v. healed_leads session next v) (sessions (scenario_of world)) world w
  event_leads world events.Settle other w =
      then_leads L l W W (row (map (λ n. Timers n) (all_nodes (scenario_of world))) world)
      (times (each turn (directions (scenario_of world))) (length (scenario_of world).nodes + 3))
      (rows (map (λ n. Timers n) (all_nodes (scenario_of world))) (timers_are_other (all_nodes (scenario_of world))) world w)
      (λ next v. times_leads L l W (each turn (directions (scenario_of world)))
      (λ one q. each_leads L l W turn (λ over x r. turn_leads over x r) (directions (scenario_of world)) one q)
      (length (scenario_of world).nodes + 3) next v)
  event_leads world events.Drain other w =
      times_leads L l W drain_round (λ one q. rows (flat_map (landings one) (link_ways (scenario_of one)))
      (landings_are_other one (link_ways (scenario_of one))) one q) 255 world w
  event_leads world events.State other w = absurd (true≢false other)

pub done_says_nothing : (old : World) (event : Event) (acts : List Happened) (next : World) → is_state event ≡ false → done old event ≡ Done acts next
    → SaysNothing (lines_in acts)
done_says_nothing old event acts next other e =
    (subst (Leads SaysNothing Any) e (event_leads SaysNothing say_nothing Any (λ world. tt) (λ one k world w. act_says_nothing one k world) old event
    other tt)).0

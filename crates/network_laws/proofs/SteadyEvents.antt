-- What acts keep is kept by events: by those that are none of customers and change no costs, and by all that change none.
use Rattle.std.specs.Prelude.{⊤}
use Rattle.std.proofs.Common.{ℕ, zero, suc, ◌+◌, Bool, true, false, cond, List, [], ◌∷◌, ◌++◌, map, find, replicate, length, flat_map, Option, Some, None}
use Rattle.std.specs.List.{AllByRecursion}
use Rattle.mv_base.specs.declared.addr.Addr.{Addr}
use Rattle.mv_base.specs.declared.ids.NodeId.{NodeId}
use Rattle.mv_base.specs.declared.ids.SiteId.{SiteId}
use Rattle.scenario_defs.specs.Vpn.{entered}
use Rattle.scenario_defs.specs.declared.event.Event.{Event}
use Rattle.scenario_defs.specs.declared.event.Event.TheVariants as events
use Rattle.scenario_defs.specs.declared.event.Kind.{Kind}
use Rattle.network_defs.specs.mvpn_model.Packet.{packet}
use Rattle.network_defs.specs.mvpn_model.Packets.{source_in, group_in}
use Rattle.network_defs.specs.mvpn_model.Sessions.{sessions}
use Rattle.network_defs.specs.mvpn_model.declared.session.Session.{Session}
use Rattle.network_defs.specs.declared.session_defs.direction.Direction.{Direction}
use Rattle.network_defs.specs.edge_defs.Steps as steps
use Rattle.network_defs.specs.edge_defs.Steps.{CustomerCall}
use Rattle.network_defs.specs.Acts.{Act, Tick, Timers, Move, Lose, Notice, RaiseFirst, RaiseSecond, Restart, At, Enter, Land, Drop, Tell, SetCost, Reroute, act}
use Rattle.network_defs.specs.Counts.{directions, link_ways, all_nodes, is_joined, is_up}
use Rattle.network_defs.specs.Events.{Done, row, each, times, raise_acts, is_session_of, raises, notices, healed, turn, settled, landings, drain_round, sent, at_edge, done, called}
use Rattle.network_defs.specs.Refusals.{call_for, edge_for}
use Rattle.network_defs.specs.World.{World, Datagram, scenario_of}
use Rattle.network_defs.proofs.Kept.{Gives, Comes, then_comes, row_keeps, each_keeps, times_keeps}
use Rattle.network_laws.proofs.Lists.{each_append, each_map, each_of, each_weaker, each_flat}
use Rattle.network_laws.proofs.Costs.{IsSteady}

-- an event that changes no costs
abbrev pub IsNoCost : Event → Type 0
IsNoCost (events.Cost a b cost) = ⊥
IsNoCost other = ⊤

-- the same, and it is none of customers
abbrev pub IsRoutine : Event → Type 0
IsRoutine (events.Cost a b cost) = ⊥
IsRoutine (events.Customer event) = ⊥
IsRoutine other = ⊤

-- an act of such events
abbrev pub IsPlain : Act → Type 0
IsPlain (At n call) = ⊥
IsPlain (SetCost a b cost) = ⊥
IsPlain (Reroute n) = ⊥
IsPlain other = ⊤

abbrev ArePlain : List Act → Type 0
ArePlain acts = AllByRecursion IsPlain acts

-- ---- rows of acts

all_are : {A : Type 0} (one : A → Act) → ((x : A) → IsPlain (one x)) → (all : List A) → ArePlain (map one all)
all_are one h all = each_map IsPlain one all (each_of (λ x. IsPlain (one x)) h all)

raises_plain : (all : List Session) (kind : Kind) (a b : NodeId) → ArePlain (raises all kind a b)
raises_plain all kind a b = by (find (is_session_of kind a b) all)
  where
    by : (o : Option Session) → ArePlain (elim o [ None ↦ [] | Some session ↦ raise_acts session ])
    by None = tt
    by (Some session) = (tt, (tt, tt))

notices_plain : (world : World) (session : Session) (n peer : NodeId) → ArePlain (notices world session n peer)
notices_plain world session n peer =
    elim (is_up world session.kind n peer) as (λ t. ArePlain (cond t (Notice session.kind n peer ∷ []) [])) [ true ↦ (tt, tt) | false ↦ tt ]

copies_plain : (one : Act) → IsPlain one → (count : ℕ) → ArePlain (replicate count one)
copies_plain one is zero = tt
copies_plain one is (suc count) = (is, copies_plain one is count)

-- ---- events

module _ (P : World → Type 0) (keeps : (one : Act) → IsPlain one → (world : World) → P world → Gives P (act world one))
    (sends : (world : World) (datagrams : List Datagram) → P world → P (record world { datagrams = datagrams })) where
  plain_row : (acts : List Act) → ArePlain acts → (world : World) → P world → Comes P (row acts world)
  plain_row acts are world p =
      row_keeps P acts (each_weaker IsPlain (λ one. (old : World) → P old → Gives P (act old one)) (λ one is. keeps one is) acts are) world p

  turn_keeps : (over : Direction) (world : World) → P world → Comes P (turn over world)
  turn_keeps over world p = by (world.network.transit over)
    where
      by : (transit : List ℕ) → Comes P (elim transit
          [ [] ↦ Done [] world | octet ∷ others ↦ row (Move over.kind over.from over.to (length (octet ∷ others)) ∷ []) world ])
      by [] = p
      by (octet ∷ others) = plain_row (Move over.kind over.from over.to (length (octet ∷ others)) ∷ []) (tt, tt) world p

  settled_keeps : (world : World) → P world → Comes P (settled world)
  settled_keeps world p =
      let scenario = scenario_of world in
      then_comes P P (row (map (λ n. Timers n) (all_nodes scenario)) world) (times (each turn (directions scenario)) (length scenario.nodes + 3))
      (plain_row (map (λ n. Timers n) (all_nodes scenario)) (all_are (λ n. Timers n) (λ n. tt) (all_nodes scenario)) world p)
      (λ next q. times_keeps P (each turn (directions scenario))
      (λ one o. each_keeps P turn (directions scenario)
      (each_of (λ over. (old : World) → P old → Comes P (turn over old)) turn_keeps (directions scenario)) one o) (length scenario.nodes + 3) next
      q)

  healed_keeps : (session : Session) (world : World) → P world → Comes P (healed session world)
  healed_keeps session world p = by (is_joined world session)
    where
      acts : List Act
      acts = notices world session session.a session.b ++ (notices world session session.b session.a ++ raise_acts session)

      are : ArePlain acts
      are =
          each_append IsPlain (notices world session session.a session.b) (notices world session session.b session.a ++ raise_acts session)
          (notices_plain world session session.a session.b)
          (each_append IsPlain (notices world session session.b session.a) (raise_acts session) (notices_plain world session session.b session.a)
          (tt, (tt, tt)))

      by : (joined : Bool) → Comes P (cond joined (Done [] world) (row acts world))
      by true = p
      by false = plain_row acts are world p

  sent_keeps : (site : SiteId) (source group : Addr) (octets : List ℕ) (world : World) → P world → Comes P (sent site source group octets world)
  sent_keeps site source group octets world p =
      let all : List Datagram = world.datagrams ++ record { site = site; source = source; group = group; octets = octets } ∷ [] in
      plain_row (map (λ vrf. Enter vrf) (entered (scenario_of world) site))
      (all_are (λ vrf. Enter vrf) (λ vrf. tt) (entered (scenario_of world) site)) (record world { datagrams = all }) (sends world all p)

  drain_keeps : (world : World) → P world → Comes P (drain_round world)
  drain_keeps world p =
      let ways = link_ways (scenario_of world) in
      plain_row (flat_map (landings world) ways)
      (each_flat IsPlain (landings world) ways (each_of (λ way. ArePlain (landings world way))
      (λ way. copies_plain (Land way.0 way.1 1) tt (length (world.copies way.0 way.1))) ways)) world p

  pub routine_event : (event : Event) → IsRoutine event → (world : World) → P world → Comes P (done world event)
  routine_event (events.Tick count) is world p = plain_row (Tick count ∷ []) (tt, tt) world p
  routine_event (events.Timers node) is world p = plain_row (Timers node ∷ []) (tt, tt) world p
  routine_event (events.Restart node) is world p = plain_row (Restart node ∷ []) (tt, tt) world p
  routine_event (events.Move kind from to count) is world p = plain_row (Move kind from to count ∷ []) (tt, tt) world p
  routine_event (events.Lose kind a b) is world p = plain_row (Lose kind a b ∷ []) (tt, tt) world p
  routine_event (events.Notice kind a b) is world p = plain_row (Notice kind a b ∷ []) (tt, tt) world p
  routine_event (events.Raise kind a b) is world p =
      plain_row (raises (sessions (scenario_of world)) kind a b) (raises_plain (sessions (scenario_of world)) kind a b) world p
  routine_event (events.Send site source group payload) is world p = sent_keeps site source group (packet source group payload) world p
  routine_event (events.Packet site octets) is world p = sent_keeps site (source_in octets) (group_in octets) octets world p
  routine_event (events.Hop from to place) is world p = plain_row (Land from to place ∷ []) (tt, tt) world p
  routine_event (events.DropCopy from to place) is world p = plain_row (Drop from to place ∷ []) (tt, tt) world p
  routine_event events.Heal is world p =
      each_keeps P healed (sessions (scenario_of world))
      (each_of (λ session. (old : World) → P old → Comes P (healed session old)) healed_keeps (sessions (scenario_of world))) world p
  routine_event events.Settle is world p = settled_keeps world p
  routine_event events.Drain is world p = times_keeps P drain_round drain_keeps 255 world p
  routine_event events.State is world p = plain_row (Tell ∷ []) (tt, tt) world p
  routine_event (events.Cost a b cost) is world p = absurd is
  routine_event (events.Customer event) is world p = absurd is

-- a plain act changes no costs
plain_steady : (one : Act) → IsPlain one → IsSteady one
plain_steady (At n call) is = absurd is
plain_steady (SetCost a b cost) is = absurd is
plain_steady (Reroute n) is = absurd is
plain_steady (Tick ticks) is = tt
plain_steady (Timers n) is = tt
plain_steady (Move kind from to count) is = tt
plain_steady (Lose kind a b) is = tt
plain_steady (Notice kind a b) is = tt
plain_steady (RaiseFirst kind a b) is = tt
plain_steady (RaiseSecond kind a b) is = tt
plain_steady (Restart n) is = tt
plain_steady (Enter vrf) is = tt
plain_steady (Land from to place) is = tt
plain_steady (Drop from to place) is = tt
plain_steady Tell is = tt

module _ (P : World → Type 0) (keeps : (one : Act) → IsSteady one → (world : World) → P world → Gives P (act world one))
    (sends : (world : World) (datagrams : List Datagram) → P world → P (record world { datagrams = datagrams })) where
  edge_keeps : (o : Option NodeId) (call : CustomerCall) (world : World) → P world → Comes P (at_edge o call world)
  edge_keeps None call world p = p
  edge_keeps (Some n) call world p = row_keeps P (At n (steps.Customer call) ∷ []) (keeps (At n (steps.Customer call)) tt, tt) world p

  customer_keeps : (o : Option CustomerCall) (world : World) → P world → Comes P (called o world)
  customer_keeps None world p = p
  customer_keeps (Some call) world p = edge_keeps (edge_for (scenario_of world) call) call world p

  routine : (event : Event) → IsRoutine event → (world : World) → P world → Comes P (done world event)
  routine event is world p = routine_event P (λ one plain. keeps one (plain_steady one plain)) sends event is world p

  pub steady_event : (event : Event) → IsNoCost event → (world : World) → P world → Comes P (done world event)
  steady_event (events.Customer event) is world p = customer_keeps (call_for (scenario_of world) event) world p
  steady_event (events.Cost a b cost) is world p = absurd is
  steady_event other is world p = routine other tt world p

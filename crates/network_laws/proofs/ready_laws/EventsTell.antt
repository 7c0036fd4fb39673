-- After each event the sessions of the network stand as the events tell.
use Rattle.std.specs.Prelude.{if◌then◌else◌}
use Rattle.std.proofs.Common.{◌≡◌, ℕ, ◌+◌, ◌==◌, Bool, true, false, not, cond, ◌&&◌, ◌||◌, ◌++◌, length, List, [], ◌∷◌, Option, Some, None, refl, sym, ap, ◌∙◌}
use Rattle.mv_base.specs.declared.ids.NodeId.{NodeId}
use Rattle.mv_base.specs.declared.ids.SiteId.{SiteId}
use Rattle.mv_base.specs.declared.addr.Addr.{Addr}
use Rattle.scenario_defs.specs.Vpn.{entered}
use Rattle.scenario_defs.specs.declared.event.Event.{Event}
use Rattle.scenario_defs.specs.declared.event.Event.TheVariants as events
use Rattle.scenario_defs.specs.declared.event.Kind.{Kind}
use Rattle.scenario_defs.specs.declared.event.Kind.TheVariants as kinds
use Rattle.scenario_defs.specs.declared.scenario.Scenario.{Scenario}
use Rattle.network_defs.specs.mvpn_model.declared.readiness.UpEnd.{UpEnd}
use Rattle.network_defs.specs.mvpn_model.Packet.{packet}
use Rattle.network_defs.specs.mvpn_model.Sessions.{sessions}
use Rattle.scenario_defs.specs.Kinds.{same_kind}
use Rattle.network_defs.specs.declared.session_defs.direction.Direction.{Direction}
use Rattle.network_defs.specs.edge_defs.Steps as steps
use Rattle.network_defs.specs.edge_defs.Steps.{CustomerCall}
use Rattle.network_defs.specs.edge_defs.Steps.{own_label_call}
use Rattle.network_defs.specs.Acts.{Act, Tick, Timers, Move, Lose, Notice, Restart, At, Enter, Land, Drop, Tell, Reroute}
use Rattle.network_defs.specs.Counts.{directions, link_ways, all_nodes}
use Rattle.network_defs.specs.Events.{Done, row, each, times, turn, settled, landings, drain_round, drained, sent, cost_acts, at_edge, done, called}
use Rattle.network_defs.specs.mvpn_model.Packets.{source_in, group_in}
use Rattle.network_defs.specs.Refusals.{call_for, edge_for}
use Rattle.network_defs.specs.mvpn_model.Unready.{SessionsStand, is_that, timed, thereafter}
use Rattle.network_defs.specs.World.{World, scenario_of}
use Rattle.network_laws.proofs.ready_laws.Nodes.{KeepsEnds}
use Rattle.network_laws.proofs.ready_laws.ActsStand.{WorldStands, act_stand}
use Rattle.network_laws.proofs.ready_laws.Outcomes.{Comes, then_comes, row_comes, still_row, still_map, still_rows, still_copies, each_keeps, times_keeps}
use Rattle.network_laws.proofs.ready_laws.TimersAlike.{HasNodes, timers_from, timers_alike, settle_alike}
use Rattle.network_laws.proofs.ready_laws.Alike.{Alike, same_both}
use Rattle.network_laws.proofs.ready_laws.EventsStand.{Tells, row_tells, still_tells, raise_tells, all_healed}

-- ---- one session or node

later_alike : (scenario : Scenario) (told standing : SessionsStand) (count : ℕ) → Alike scenario told standing
    → Alike scenario (record told { clock = told.clock + count }) (act_stand scenario (Tick count) standing)
later_alike scenario told standing count h = record {
  clock = ap (λ n. n + count) h.clock;
  each = λ session is. (let x = h.each session is in record { joined = x.joined; near = x.near; far = x.far });
}

lost_alike : (scenario : Scenario) (told standing : SessionsStand) (kind : Kind) (a b : NodeId) → Alike scenario told standing
    → Alike scenario (record told { joined = λ own u n. told.joined own u n && not (is_that kind a b own u n) })
    (act_stand scenario (Lose kind a b) standing)
lost_alike scenario told standing kind a b h = record {
  clock = h.clock;
  each = λ session is.
      let x = h.each session is in
      record { joined = ap (λ t. t && not (is_that kind a b session.kind session.a session.b)) x.joined; near = x.near; far = x.far };
}

both_tests : (x y : Bool) (old : Option UpEnd) → cond (x && y) None old ≡ cond x (cond y None old) old
both_tests true y old = refl
both_tests false y old = refl

notice_told : (scenario : Scenario) (standing : SessionsStand) (kind : Kind) (a b m peer : NodeId) (old : Option UpEnd)
    → old ≡ standing.end kinds.Ldp m peer
    → (if same_kind kind kinds.Ldp && (m.0 == a.0) && (peer.0 == b.0) then None else old)
    ≡ (act_stand scenario (Notice kind a b) standing).end kinds.Ldp m peer
notice_told scenario standing kinds.Ldp a b m peer old e =
    ap (λ (x : Option UpEnd). cond ((m.0 == a.0) && (peer.0 == b.0)) None x) e
    ∙ both_tests (m.0 == a.0) (peer.0 == b.0) (standing.end kinds.Ldp m peer)
notice_told scenario standing kinds.Bgp a b m peer old e = e ∙ sym (same_both (m.0 == a.0) (standing.end kinds.Ldp m peer))

notice_alike : (scenario : Scenario) (told standing : SessionsStand) (kind : Kind) (a b : NodeId) → Alike scenario told standing
    → Alike scenario (record told { end = λ own n peer. if same_kind kind own && (n.0 == a.0) && (peer.0 == b.0) then None else told.end own n peer })
    (act_stand scenario (Notice kind a b) standing)
notice_alike scenario told standing kind a b h = record {
  clock = h.clock;
  each = λ session is.
      let x = h.each session is in
      record {
        joined = x.joined;
        near = λ k. notice_told scenario standing kind a b session.a session.b (told.end kinds.Ldp session.a session.b) (x.near k);
        far = λ k. notice_told scenario standing kind a b session.b session.a (told.end kinds.Ldp session.b session.a) (x.far k);
      };
}

restart_alike : (scenario : Scenario) (told standing : SessionsStand) (node : NodeId) → Alike scenario told standing
    → Alike scenario (thereafter scenario told (events.Restart node)) (act_stand scenario (Restart node) standing)
restart_alike scenario told standing node h = record {
  clock = h.clock;
  each = λ session is.
      let x = h.each session is in
      record {
        joined = ap (λ t. t && not ((session.a.0 == node.0) || (session.b.0 == node.0))) x.joined;
        near = λ k. ap (λ (old : Option UpEnd). cond (session.a.0 == node.0) None old) (x.near k);
        far = λ k. ap (λ (old : Option UpEnd). cond (session.b.0 == node.0) None old) (x.far k);
      };
}

-- ---- calls that change no end

quiet_alike : (scenario : Scenario) (told standing : SessionsStand) (n : NodeId) (call : steps.Call) → KeepsEnds (own_label_call call)
    → Alike scenario told standing → Alike scenario told (act_stand scenario (At n call) standing)
quiet_alike scenario told standing n call quiet h =
    let stays : (m peer : NodeId) → (act_stand scenario (At n call) standing).end kinds.Ldp m peer ≡ standing.end kinds.Ldp m peer = λ m peer.
    let old = standing.end kinds.Ldp m peer in
    ap (λ (x : Option UpEnd). cond (m.0 == n.0) x old) (quiet scenario.life standing.clock peer old) ∙ same_both (m.0 == n.0) old in
    record {
      clock = h.clock;
      each = λ session is.
          let x = h.each session is in
          record { joined = x.joined; near = λ k. x.near k ∙ sym (stays session.a session.b); far = λ k. x.far k ∙ sym (stays session.b session.a) };
    }

edge_tells : (scenario : Scenario) (told : SessionsStand) (world : World) (o : Option NodeId) (call : CustomerCall) → Tells scenario told world
    → Comes (Tells scenario told) (at_edge o call world)
edge_tells scenario told world None call t = (refl, t)
edge_tells scenario told world (Some n) call t =
    row_tells scenario told t.standing (At n (steps.Customer call) ∷ []) world t.stands
    (quiet_alike scenario told t.standing n (steps.Customer call) (λ life now peer old. refl) t.alike)

customer_tells : (told : SessionsStand) (world : World) (o : Option CustomerCall) → Tells (scenario_of world) told world
    → Comes (Tells (scenario_of world) told) (called o world)
customer_tells told world None t = (refl, t)
customer_tells told world (Some call) t = edge_tells (scenario_of world) told world (edge_for (scenario_of world) call) call t

-- ---- moves and copies

turn_keeps : (scenario : Scenario) (standing : SessionsStand) (over : Direction) (world : World) → WorldStands scenario standing world
    → Comes (WorldStands scenario standing) (turn over world)
turn_keeps scenario standing over world s = by (world.network.transit over)
  where
    by : (octets : List ℕ) → Comes (WorldStands scenario standing)
        (elim octets [ [] ↦ Done [] world | octet ∷ more ↦ row (Move over.kind over.from over.to (length (octet ∷ more)) ∷ []) world ])
    by [] = (refl, s)
    by (octet ∷ more) = row_comes scenario standing (Move over.kind over.from over.to (length (octet ∷ more)) ∷ []) world s

settle_tells : (told : SessionsStand) (world : World) → HasNodes (scenario_of world) → Tells (scenario_of world) told world
    → Comes (Tells (scenario_of world) (timed (scenario_of world) (λ n. true) told)) (settled world)
settle_tells told world has t =
    let scenario = scenario_of world in
    let new = timed scenario (λ n. true) told in
    let count = length scenario.nodes + 3 in
    then_comes (Tells scenario new) (Tells scenario new) (row (timers_from 0 (length scenario.nodes)) world)
    (times (each turn (directions scenario)) count)
    (row_tells scenario new t.standing (timers_from 0 (length scenario.nodes)) world t.stands (settle_alike scenario told t.standing has t.alike))
    (λ next p.
    still_tells scenario new (times (each turn (directions scenario)) count next) next p (λ standing s.
    times_keeps (WorldStands scenario standing) (each turn (directions scenario))
    (λ one q. each_keeps (WorldStands scenario standing) turn (λ over w r. turn_keeps scenario standing over w r) (directions scenario) one q)
    count next s))

drain_keeps : (scenario : Scenario) (standing : SessionsStand) (world : World) → WorldStands scenario standing world
    → Comes (WorldStands scenario standing) (drain_round world)
drain_keeps scenario standing world s =
    still_row scenario standing _ world
    (still_rows scenario standing (landings world)
    (λ way. still_copies scenario standing (Land way.0 way.1 1) refl (length (world.copies way.0 way.1))) (link_ways (scenario_of world))) s

sent_tells : (told : SessionsStand) (world : World) (site : SiteId) (source group : Addr) (octets : List ℕ) → Tells (scenario_of world) told world
    → Comes (Tells (scenario_of world) told) (sent site source group octets world)
sent_tells told world site source group octets t =
    still_tells (scenario_of world) told (sent site source group octets world) world t (λ standing s.
    still_row (scenario_of world) standing _ (record world
    { datagrams = world.datagrams ++ record { site = site; source = source; group = group; octets = octets } ∷ [] })
    (still_map (scenario_of world) standing (λ vrf. Enter vrf) (λ vrf. refl) (entered (scenario_of world) site)) s)

-- a row of one act that changes nothing of it
one_tells : (scenario : Scenario) (told : SessionsStand) (world : World) (one : Act)
    → ((standing : SessionsStand) → act_stand scenario one standing ≡ standing) → Tells scenario told world
    → Comes (Tells scenario told) (row (one ∷ []) world)
one_tells scenario told world one still t =
    still_tells scenario told (row (one ∷ []) world) world t (λ standing s. still_row scenario standing (one ∷ []) world (still standing, tt) s)

cost_tells : (told : SessionsStand) (world : World) (a b : NodeId) (cost : ℕ) → Tells (scenario_of world) told world
    → Comes (Tells (scenario_of world) told) (row (cost_acts (scenario_of world) a b cost) world)
cost_tells told world a b cost t =
    let scenario = scenario_of world in
    still_tells scenario told (row (cost_acts scenario a b cost) world) world t (λ standing s.
    still_row scenario standing (cost_acts scenario a b cost) world
    (refl, still_map scenario standing (λ n. Reroute n) (λ n. refl) (all_nodes scenario)) s)

-- ---- events

pub event_tells : (told : SessionsStand) (world : World) → HasNodes (scenario_of world) → Tells (scenario_of world) told world → (event : Event)
    → Comes (Tells (scenario_of world) (thereafter (scenario_of world) told event)) (done world event)
event_tells told world has t (events.Tick count) =
    row_tells (scenario_of world) _ t.standing (Tick count ∷ []) world t.stands (later_alike (scenario_of world) told t.standing count t.alike)
event_tells told world has t (events.Timers node) =
    row_tells (scenario_of world) _ t.standing (Timers node ∷ []) world t.stands (timers_alike (scenario_of world) told t.standing node t.alike)
event_tells told world has t (events.Restart node) =
    row_tells (scenario_of world) _ t.standing (Restart node ∷ []) world t.stands (restart_alike (scenario_of world) told t.standing node t.alike)
event_tells told world has t (events.Move kind from to count) =
    one_tells (scenario_of world) told world (Move kind from to count) (λ standing. refl) t
event_tells told world has t (events.Lose kind a b) =
    row_tells (scenario_of world) _ t.standing (Lose kind a b ∷ []) world t.stands (lost_alike (scenario_of world) told t.standing kind a b t.alike)
event_tells told world has t (events.Notice kind a b) =
    row_tells (scenario_of world) _ t.standing (Notice kind a b ∷ []) world t.stands
    (notice_alike (scenario_of world) told t.standing kind a b t.alike)
event_tells told world has t (events.Raise kind a b) = raise_tells (scenario_of world) told world kind a b t
event_tells told world has t (events.Customer event) = customer_tells told world (call_for (scenario_of world) event) t
event_tells told world has t (events.Send site source group payload) = sent_tells told world site source group (packet source group payload) t
event_tells told world has t (events.Packet site octets) = sent_tells told world site (source_in octets) (group_in octets) octets t
event_tells told world has t (events.Hop from to place) = one_tells (scenario_of world) told world (Land from to place) (λ standing. refl) t
event_tells told world has t (events.DropCopy from to place) = one_tells (scenario_of world) told world (Drop from to place) (λ standing. refl) t
event_tells told world has t (events.Cost a b cost) = cost_tells told world a b cost t
event_tells told world has t events.Heal = all_healed (scenario_of world) (sessions (scenario_of world)) (λ session is. is) told world t
event_tells told world has t events.Settle = settle_tells told world has t
event_tells told world has t events.Drain =
    still_tells (scenario_of world) told (drained world) world t
    (λ standing s. times_keeps (WorldStands (scenario_of world) standing) drain_round (λ one q. drain_keeps (scenario_of world) standing one q)
    255 world s)
event_tells told world has t events.State = one_tells (scenario_of world) told world Tell (λ standing. refl) t

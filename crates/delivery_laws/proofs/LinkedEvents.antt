-- In every run branches lead along links, and copies are sound: event by event.
use Rattle.std.specs.Prelude.{⊤, find, replicate}
use Rattle.std.proofs.Common.{◌≡◌, ℕ, zero, suc, ◌+◌, ◌++◌, map, length, List, [], ◌∷◌, Option, None, Some, refl, sym, subst, inl, inr, ◌∙◌, length-append, arith}
use Rattle.std.specs.List.{flat_map, position_or_len, AllByRecursion}
use Rattle.std.proofs.lemmas.Bool.{cond_both, true≢false}
use Rattle.std.proofs.lemmas.List.Folds.{find_at}
use Rattle.mv_base.specs.declared.addr.Addr.{Addr}
use Rattle.mv_base.specs.declared.core_link.Link.{Link}
use Rattle.mv_base.specs.declared.ids.NodeId.{NodeId}
use Rattle.mv_base.specs.declared.ids.SiteId.{SiteId}
use Rattle.mv_base.specs.declared.ids.VrfId.{VrfId}
use Rattle.scenario_defs.specs.Vpn.{entered}
use Rattle.scenario_defs.specs.declared.event.Event.{Event}
use Rattle.scenario_defs.specs.declared.event.Event.TheVariants as events
use Rattle.scenario_defs.specs.declared.event.Kind.{Kind}
use Rattle.scenario_defs.specs.declared.event.Script.{Script}
use Rattle.scenario_defs.specs.declared.event.Timed.{Timed}
use Rattle.scenario_defs.specs.declared.report.ReportLine.{ReportLine}
use Rattle.scenario_defs.specs.declared.scenario.Scenario.{Scenario}
use Rattle.mvpn_model.specs.Packet.{packet}
use Rattle.mvpn_model.specs.Sessions.{sessions, edges, bgp_session, bgp_sessions, ldp_session}
use Rattle.mvpn_model.specs.declared.session.Session.{Session}
use Rattle.network_defs.specs.declared.session_defs.direction.Direction.{Direction}
use Rattle.network_defs.specs.Costs.{Cores}
use Rattle.edge_defs.specs.Steps as steps
use Rattle.edge_defs.specs.Steps.{CustomerCall}
use Rattle.network_defs.specs.Acts.{Act, Tick, Timers, Move, Lose, Notice, Restart, At, Enter, Land, Drop, Tell, Reroute}
use Rattle.network_defs.specs.Counts.{directions, is_joined, is_up, link_ways, all_nodes}
use Rattle.network_defs.specs.Events.{Done, row, each, times, raise_acts, raises, is_session_of, notices, healed, turn, landings, drain_round, sent, cost_acts, at_edge, done, called}
use Rattle.mvpn_model.specs.Packets.{source_in, group_in}
use Rattle.network_defs.specs.Refusals.{call_for, edge_for}
use Rattle.network_defs.specs.Run.{Traced, Runs, Run}
use Rattle.network_defs.specs.World.{World, Datagram, start, scenario_of}
use Rattle.delivery_laws.specs.Flood.{SoundCopy}
use Rattle.delivery_laws.specs.Linked.{IsLink, LinksOnce, LinkIf}
use Rattle.delivery_laws.proofs.Copies.{all_at}
use Rattle.delivery_laws.proofs.LinkedParts.{fresh_linked}
use Rattle.delivery_laws.proofs.Outcomes.{Leads, then_leads, row_leads, times_leads, leads_as}
use Rattle.delivery_laws.proofs.Silent.{any_lines}
use Rattle.delivery_laws.proofs.Delivery.{came}
use Rattle.delivery_laws.proofs.LinkedRuns.{Linked, IsFine, LetsIn, Entering, act_linked, entry_linked}
use Rattle.network_laws.proofs.Lists.{each_weaker, each_append}

module _ (scenario : Scenario) (once : LinksOnce scenario) where
  abbrev Any : List ReportLine → Type 0
  Any all = ⊤

  abbrev Fine : List Act → Type 0
  Fine acts = AllByRecursion (IsFine scenario) acts

  -- ---- sessions

  -- a session over LDP is that of a link
  abbrev OfLink : Session → Type 0
  OfLink session = LinkIf scenario session.kind session.a session.b × LinkIf scenario session.kind session.b session.a

  bgp_later : (a : NodeId) (later : List NodeId) → AllByRecursion OfLink (map (bgp_session a) later)
  bgp_later a [] = tt
  bgp_later a (b ∷ more) = ((tt, tt), bgp_later a more)

  bgp_all : (list : List NodeId) → AllByRecursion OfLink (bgp_sessions list)
  bgp_all [] = tt
  bgp_all (a ∷ later) = each_append OfLink (map (bgp_session a) later) (bgp_sessions later) (bgp_later a later) (bgp_all later)

  ldp_all : (links : List Link) → AllByRecursion (λ link. IsLink scenario link.a link.b × IsLink scenario link.b link.a) links
      → AllByRecursion OfLink (map ldp_session links)
  ldp_all [] h = tt
  ldp_all (link ∷ more) h = (h.0, ldp_all more h.1)

  sessions_linked : AllByRecursion OfLink (sessions scenario)
  sessions_linked =
      each_append OfLink (bgp_sessions (edges scenario)) (map ldp_session scenario.links) (bgp_all (edges scenario)) (ldp_all scenario.links once)

  sessions_of : (world : World) → Linked scenario world → AllByRecursion OfLink (sessions (scenario_of world))
  sessions_of world l = subst (λ (s : Scenario). AllByRecursion OfLink (sessions s)) (sym l.network.nodes.place) sessions_linked

  raise_fine : (session : Session) → OfLink session → Fine (raise_acts session)
  raise_fine session h = (h, (tt, tt))

  raises_fine : (list : List Session) → AllByRecursion OfLink list → (kind : Kind) (a b : NodeId) → Fine (raises list kind a b)
  raises_fine list h kind a b = by (find (is_session_of kind a b) list) refl
    where
      by : (o : Option Session) → find (is_session_of kind a b) list ≡ o → Fine (elim o [ None ↦ [] | Some session ↦ raise_acts session ])
      by None e = tt
      by (Some session) e =
          raise_fine session (all_at OfLink list (position_or_len (is_session_of kind a b) list) session h
          (sym (find_at (is_session_of kind a b) list) ∙ e))

  notices_fine : (world : World) (session : Session) (n peer : NodeId) → Fine (notices world session n peer)
  notices_fine world session n peer = cond_both (is_up world session.kind n peer) (Notice session.kind n peer ∷ []) [] Fine (λ t. (tt, tt)) (λ f. tt)

  timers_fine : (list : List NodeId) → Fine (map (λ n. Timers n) list)
  timers_fine [] = tt
  timers_fine (n ∷ more) = (tt, timers_fine more)

  reroutes_fine : (list : List NodeId) → Fine (map (λ n. Reroute n) list)
  reroutes_fine [] = tt
  reroutes_fine (n ∷ more) = (tt, reroutes_fine more)

  landings_fine : (world : World) (ways : List (NodeId × NodeId)) → Fine (flat_map (landings world) ways)
  landings_fine world [] = tt
  landings_fine world (way ∷ more) =
      each_append (IsFine scenario) (landings world way) (flat_map (landings world) more) (copies (length (world.copies way.0 way.1)))
      (landings_fine world more)
    where
      copies : (count : ℕ) → Fine (replicate count (Land way.0 way.1 1))
      copies zero = tt
      copies (suc count) = (tt, copies count)

  entries_fine : (list : List VrfId) → AllByRecursion (LetsIn scenario) (map (λ vrf. Enter vrf) list)
  entries_fine [] = tt
  entries_fine (vrf ∷ more) = (tt, entries_fine more)

  -- ---- events

  rows : (acts : List Act) → Fine acts → (world : World) → Linked scenario world → Leads Any (Linked scenario) (row acts world)
  rows acts k world l = row_leads Any any_lines (Linked scenario) (IsFine scenario) (act_linked scenario) acts k world l

  one_row : (one : Act) → IsFine scenario one → (world : World) → Linked scenario world → Leads Any (Linked scenario) (row (one ∷ []) world)
  one_row one k world l = rows (one ∷ []) (k, tt) world l

  at_edge_linked : (o : Option NodeId) (call : CustomerCall) (world : World) → Linked scenario world
      → Leads Any (Linked scenario) (at_edge o call world)
  at_edge_linked None call world l = (tt, l)
  at_edge_linked (Some n) call world l = one_row (At n (steps.Customer call)) tt world l

  customer_linked : (o : Option CustomerCall) (world : World) → Linked scenario world → Leads Any (Linked scenario) (called o world)
  customer_linked None world l = (tt, l)
  customer_linked (Some call) world l = at_edge_linked (edge_for (scenario_of world) call) call world l

  turn_linked : (over : Direction) (world : World) → Linked scenario world → Leads Any (Linked scenario) (turn over world)
  turn_linked over world l = by (world.network.transit over)
    where
      by : (octets : List ℕ) → Leads Any (Linked scenario)
          (elim octets [ [] ↦ Done [] world | octet ∷ more ↦ row (Move over.kind over.from over.to (length (octet ∷ more)) ∷ []) world ])
      by [] = (tt, l)
      by (octet ∷ more) = one_row (Move over.kind over.from over.to (length (octet ∷ more))) tt world l

  turns_linked : (list : List Direction) (world : World) → Linked scenario world → Leads Any (Linked scenario) (each turn list world)
  turns_linked [] world l = (tt, l)
  turns_linked (over ∷ more) world l =
      then_leads Any any_lines (Linked scenario) (Linked scenario) (turn over world) (each turn more) (turn_linked over world l)
      (λ next k. turns_linked more next k)

  healed_linked : (session : Session) → OfLink session → (world : World) → Linked scenario world → Leads Any (Linked scenario) (healed session world)
  healed_linked session h world l =
      let acts = notices world session session.a session.b ++ (notices world session session.b session.a ++ raise_acts session) in
      cond_both (is_joined world session) (Done [] world) (row acts world) (Leads Any (Linked scenario)) (λ t. (tt, l))
      (λ f. rows acts (each_append (IsFine scenario) (notices world session session.a session.b)
      (notices world session session.b session.a ++ raise_acts session) (notices_fine world session session.a session.b)
      (each_append (IsFine scenario) (notices world session session.b session.a) (raise_acts session)
      (notices_fine world session session.b session.a) (raise_fine session h))) world l)

  all_healed : (list : List Session) → AllByRecursion OfLink list → (world : World) → Linked scenario world
      → Leads Any (Linked scenario) (each healed list world)
  all_healed [] h world l = (tt, l)
  all_healed (session ∷ more) h world l =
      then_leads Any any_lines (Linked scenario) (Linked scenario) (healed session world) (each healed more) (healed_linked session h.0 world l)
      (λ next k. all_healed more h.1 next k)

  sent_linked : (site : SiteId) (source group : Addr) (octets : List ℕ) (world : World) → Linked scenario world
      → Leads Any (Linked scenario) (sent site source group octets world)
  sent_linked site source group octets world l =
      let own : Datagram = record { site = site; source = source; group = group; octets = octets } in
      let all : List Datagram = world.datagrams ++ own ∷ [] in
      let begins : World = record world { datagrams = all } in
      let count : length all ≡ length world.datagrams + 1 = length-append world.datagrams (own ∷ []) in
      let vrfs = map (λ (vrf : VrfId). Enter vrf) (entered (scenario_of world) site) in
      let linked : Linked scenario begins = record {
        network = l.network;
        sound = λ u n. each_weaker (SoundCopy (link_ways scenario) (length world.datagrams) u n) (SoundCopy (link_ways scenario) (length all) u n)
            (λ copy s. record { on_way = s.on_way; counted = s.counted; known = omega (arith, s.known, count); alive = s.alive; bounded = s.bounded })
            (world.copies u n) (l.sound u n);
      } in
      leads_as Any (Entering scenario) (Linked scenario) (λ next e. e.linked) (row vrfs begins)
      (row_leads Any any_lines (Entering scenario) (LetsIn scenario) (entry_linked scenario) vrfs (entries_fine (entered (scenario_of world) site))
      begins (record { linked = linked; some = omega (arith, count) }))

  event_linked : (world : World) (event : Event) → Linked scenario world → Leads Any (Linked scenario) (done world event)
  event_linked world (events.Send site source group payload) l = sent_linked site source group (packet source group payload) world l
  event_linked world (events.Packet site octets) l = sent_linked site (source_in octets) (group_in octets) octets world l
  event_linked world (events.Tick count) l = one_row (Tick count) tt world l
  event_linked world (events.Timers node) l = one_row (Timers node) tt world l
  event_linked world (events.Restart node) l = one_row (Restart node) tt world l
  event_linked world (events.Move kind from to count) l = one_row (Move kind from to count) tt world l
  event_linked world (events.Lose kind a b) l = one_row (Lose kind a b) tt world l
  event_linked world (events.Notice kind a b) l = one_row (Notice kind a b) tt world l
  event_linked world (events.Raise kind a b) l =
      rows (raises (sessions (scenario_of world)) kind a b) (raises_fine (sessions (scenario_of world)) (sessions_of world l) kind a b) world l
  event_linked world (events.Customer event) l = customer_linked (call_for (scenario_of world) event) world l
  event_linked world (events.Hop from to place) l = one_row (Land from to place) tt world l
  event_linked world (events.DropCopy from to place) l = one_row (Drop from to place) tt world l
  event_linked world (events.Cost a b cost) l =
      rows (cost_acts (scenario_of world) a b cost) (tt, reroutes_fine (all_nodes (scenario_of world))) world l
  event_linked world events.Heal l = all_healed (sessions (scenario_of world)) (sessions_of world l) world l
  event_linked world events.Settle l =
      then_leads Any any_lines (Linked scenario) (Linked scenario) (row (map (λ n. Timers n) (all_nodes (scenario_of world))) world)
      (times (each turn (directions (scenario_of world))) (length (scenario_of world).nodes + 3))
      (rows (map (λ n. Timers n) (all_nodes (scenario_of world))) (timers_fine (all_nodes (scenario_of world))) world l)
      (λ next k. times_leads Any any_lines (Linked scenario) (each turn (directions (scenario_of world)))
      (λ one q. turns_linked (directions (scenario_of world)) one q) (length (scenario_of world).nodes + 3) next k)
  event_linked world events.Drain l =
      times_leads Any any_lines (Linked scenario) drain_round
      (λ one q. rows (flat_map (landings one) (link_ways (scenario_of one))) (landings_fine one (link_ways (scenario_of one))) one q) 255 world l
  event_linked world events.State l = one_row Tell tt world l

  -- ---- runs

  runs_linked : (events : List Timed) (old : World) (number : ℕ) (trace : List Traced) (new : World) → Linked scenario old
      → Runs old number events trace new → Linked scenario new
  runs_linked [] old number trace new l run = subst (Linked scenario) (sym run.1) l
  runs_linked (timed ∷ more) old number trace new l run =
      runs_linked more run.1 (number + 1) run.2 new (elim (came old timed run.0 run.1 run.3).is [
        | inl is ↦ (subst (Leads Any (Linked scenario)) is (event_linked old timed.event l)).1
        | inr r ↦ subst (Linked scenario) r.2 l
      ]) run.5

start_linked : (scenario : Scenario) (cores : Cores) → Linked scenario (start scenario cores)
start_linked scenario cores = record {
  network = record {
    nodes = record { place = refl; links = λ n. fresh_linked scenario scenario n };
    joined = λ over e. absurd (true≢false (sym e));
    waiting = λ over. tt;
  };
  sound = λ u n. tt;
}

-- After every run branches lead along links, and copies are sound.
pub run_is_linked : (cores : Cores) (script : Script) (events : List Timed) (trace : List Traced) (new : World) → LinksOnce script.scenario
    → Run cores script events trace new → Linked script.scenario new
run_is_linked cores script events trace new once run =
    runs_linked script.scenario once events (start script.scenario cores) 0 trace new (start_linked script.scenario cores) run

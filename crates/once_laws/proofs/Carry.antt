-- What each call of a node keeps holds after every run.
use Rattle.std.specs.Prelude.{⊤, find, replicate, if◌then◌else◌}
use Rattle.std.proofs.Common.{◌≡◌, ℕ, zero, suc, ◌+◌, ◌-◌, not, ◌&&◌, ◌++◌, map, take, drop, length, List, [], ◌∷◌, Option, Some, None, Result, Ok, Err, inl, inr, refl, sym, subst, ◌∙◌}
use Rattle.std.specs.List.{AllByRecursion, flat_map, position_or_len}
use Rattle.std.proofs.lemmas.Bool.{cond_both}
use Rattle.mv_base.specs.declared.addr.Addr.{Addr}
use Rattle.mv_base.specs.declared.ids.NodeId.{NodeId}
use Rattle.mv_base.specs.declared.ids.SiteId.{SiteId}
use Rattle.mv_base.specs.declared.ids.VrfId.{VrfId}
use Rattle.mv_base.specs.Number.{◌>>?◌}
use Rattle.mv_base.specs.framing.Feed.{fed, unfed}
use Rattle.scenario_defs.specs.Vpn.{entered}
use Rattle.scenario_defs.specs.declared.event.Event.{Event}
use Rattle.scenario_defs.specs.declared.event.Event.TheVariants as events
use Rattle.scenario_defs.specs.declared.scenario.Scenario.{Scenario}
use Rattle.scenario_defs.specs.declared.event.Kind.{Kind}
use Rattle.scenario_defs.specs.declared.event.Timed.{Timed}
use Rattle.scenario_defs.specs.declared.report.ReportLine.{ReportLine}
use Rattle.scenario_defs.specs.declared.report.ReportLine.TheVariants as lines
use Rattle.scenario_defs.specs.declared.scenario.Vrf.{Vrf}
use Rattle.mvpn_model.specs.Packet.{packet}
use Rattle.mvpn_model.specs.Sessions.{sessions}
use Rattle.mvpn_model.specs.declared.session.Session.{Session}
use Rattle.label_defs.specs.declared.branch.Branch.{Branch}
use Rattle.network_defs.specs.session_defs.Message.{SessionMessage, front_of, same_direction}
use Rattle.network_defs.proofs.session_defs.Lines.{direction_is}
use Rattle.network_defs.specs.session_defs.Octets as octets
use Rattle.network_defs.specs.session_defs.Octets.{Stream, OctetNetwork, OctetAct, with_step, all_taken, moved, octet_act, octet_run}
use Rattle.network_defs.specs.session_defs.System.{Put, Stepped, Behind, with_earlier}
use Rattle.network_defs.specs.declared.session_defs.direction.Direction.{Direction}
use Rattle.edge_defs.specs.Datagrams.{entering_fate}
use Rattle.edge_defs.specs.Steps as steps
use Rattle.edge_defs.specs.Steps.{CustomerCall}
use Rattle.network_defs.specs.Acts.{Act, Tick, Timers, Move, Lose, Notice, RaiseFirst, RaiseSecond, Restart, At, Enter, Land, Drop, Tell, SetCost, Reroute, Acted, act, with_network, at_node, is_of_session, is_at, leads_to, is_from_peer, with_aged, with_branches, copy_on, fate_at, with_ttl, landed, landing, without_copy, enters_at, entering, datagram_at}
use Rattle.network_defs.specs.Counts.{direction, directions, is_joined, is_up, link_ways, all_nodes}
use Rattle.network_defs.specs.Events.{Done, row, each, times, raise_acts, raises, is_session_of, notices, healed, turn, landings, drain_round, sent, at_edge, done, called}
use Rattle.network_defs.specs.Nodes.{Nodes, NodeState, Edge, CoreNode, place_of}
use Rattle.mvpn_model.specs.Packets.{source_in, group_in}
use Rattle.network_defs.specs.Refusals.{call_for, edge_for}
use Rattle.network_defs.specs.Run.{Traced, Runs}
use Rattle.network_defs.specs.System.{NodeCall, Own, Elapse, Reset, Price, Follow, system, call_of, nodes_called}
use Rattle.network_defs.specs.World.{World, Datagram, LinkCopy, scenario_of, clock_of, with_copies}
use Rattle.std.proofs.lemmas.List.Folds.{find_at}
use Rattle.delivery_laws.proofs.Copies.{all_at}
use Rattle.delivery_laws.proofs.Outcomes.{Leads, Gives, then_leads, row_leads, times_leads}
use Rattle.delivery_laws.proofs.Silent.{any_lines}
use Rattle.delivery_laws.proofs.Delivery.{came}
use Rattle.network_laws.proofs.ready_laws.Ends.{Holds}
use Rattle.once_laws.proofs.Rests.{Rests, fed_rests, unfed_rests}
use Rattle.network_laws.proofs.Lists.{each_append}

-- a call by a session: a message is taken, or an end comes up, or a loss is noticed
abbrev pub IsOfSession : (Kind → NodeId → NodeId → Type 0) → NodeId → steps.Call → Type 0
IsOfSession Fits n (steps.Update peer message) = ⊤
IsOfSession Fits n (steps.Label neighbour message) = ⊤
IsOfSession Fits n (steps.Raised kind peer) = Fits kind n peer
IsOfSession Fits n (steps.Noticed kind peer) = ⊤
IsOfSession Fits n other = ⊥

-- both ends of a session are fit
abbrev pub AreFit : (Kind → NodeId → NodeId → Type 0) → Session → Type 0
AreFit Fits session = Fits session.kind session.a session.b × Fits session.kind session.b session.a

-- the network after octet acts
abbrev pub NetworkLeads : (OctetNetwork Nodes → Type 0) → Option (Behind (OctetNetwork Nodes)) → Type 0
NetworkLeads P None = ⊤
NetworkLeads P (Some new) = P new.network

leads_earlier : (P : OctetNetwork Nodes → Type 0) (puts : List Put) (found : Option (Behind (OctetNetwork Nodes))) → NetworkLeads P found
    → NetworkLeads P (with_earlier puts found)
leads_earlier P puts None h = tt
leads_earlier P puts (Some new) h = h

leads_then : (P Q : OctetNetwork Nodes → Type 0) (found : Option (Behind (OctetNetwork Nodes)))
    (next : OctetNetwork Nodes → Option (Behind (OctetNetwork Nodes))) → NetworkLeads P found
    → ((network : OctetNetwork Nodes) → P network → NetworkLeads Q (next network))
    → NetworkLeads Q (found >>? λ new. with_earlier new.puts (next new.network))
leads_then P Q None next p h = tt
leads_then P Q (Some new) next p h = leads_earlier Q new.puts (next new.network) (h new.network p)

abbrev Any : List ReportLine → Type 0
Any all = ⊤

-- what holds of the call of a customer at the node, where there is one
abbrev pub MayFor : (NodeCall → Type 0) → NodeId → Option CustomerCall → Type 0
MayFor May n None = ⊤
MayFor May n (Some call) = May (Own n (steps.Customer call))

module _ (F : Nodes → Type 0) (Fits : Kind → NodeId → NodeId → Type 0)
    (fit : (nodes : Nodes) → F nodes → AllByRecursion (AreFit Fits) (sessions nodes.scenario)) (May : NodeCall → Type 0)
    (free : (n : NodeId) (call : steps.Call) → IsOfSession Fits n call → May (Own n call))
    (step : (nodes : Nodes) (call : NodeCall) → May call → F nodes → Holds (λ (new : Stepped Nodes). F new.state) (nodes_called call nodes)) where
  -- the nodes are so, and no stream holds back a whole message
  pub record Carried (network : OctetNetwork Nodes) : Type 0 where
    pub nodes : F network.state
    pub rests : (over : Direction) → Rests over.kind (network.stream over)

  stepped : (old : OctetNetwork Nodes) (found : Option (Stepped Nodes)) → Carried old → Holds (λ (new : Stepped Nodes). F new.state) found
      → NetworkLeads Carried (with_step old found)
  stepped old None c h = tt
  stepped old (Some new) c h = record { nodes = h; rests = c.rests }

  message_may : (from : NodeId) (message : SessionMessage) (to : NodeId) → May (Own to (call_of from message))
  message_may from (SessionMessage.Bgp message) to = free to (steps.Update from message) tt
  message_may from (SessionMessage.Label message) to = free to (steps.Label from message) tt

  taken : (over : Direction) (list : List SessionMessage) (old : OctetNetwork Nodes) → Carried old
      → NetworkLeads Carried (all_taken system old over list)
  taken over [] old c = c
  taken over (message ∷ rest) old c =
      leads_then Carried Carried (with_step old (system.taken over message old.state)) (λ network. all_taken system network over rest)
      (stepped old (system.taken over message old.state) c
      (step old.state (Own over.to (call_of over.from message)) (message_may over.from message over.to) c.nodes))
      (λ network p. taken over rest network p)

  moves : (over : Direction) (count : ℕ) (old : OctetNetwork Nodes) → Carried old
      → NetworkLeads Carried (octet_act system old (octets.Move over count))
  moves over count old c =
      cond_both (old.joined over) (moved system old over count) (Some (record { network = old; puts = [] })) (NetworkLeads Carried) (λ t. there)
      (λ f. c)
    where
      new : Stream
      new = fed (front_of over.kind) (old.stream over) (take count (old.transit over))

      there : NetworkLeads Carried (moved system old over count)
      there =
          let left : OctetNetwork Nodes = record old {
            transit = λ other. if same_direction other over then drop count (old.transit over) else old.transit other;
            stream = λ other. if same_direction other over then record new { waiting = [] } else old.stream other;
          } in
          taken over new.waiting left (record {
            nodes = c.nodes;
            rests = λ other. cond_both (same_direction other over) (record new { waiting = [] }) (old.stream other)
                (λ (s : Stream). Rests other.kind s)
                (λ t. subst (λ (d : Direction). Rests d.kind new) (sym (direction_is other over t))
                (fed_rests over.kind (old.stream over) (take count (old.transit over)) (c.rests over)))
                (λ f. c.rests other);
          })

  -- what octet acts call for
  abbrev pub ActMay : OctetAct NodeCall → Type 0
  ActMay (octets.Call call) = May call
  ActMay other = ⊤

  one_act : (one : OctetAct NodeCall) → ActMay one → (old : OctetNetwork Nodes) → Carried old → NetworkLeads Carried (octet_act system old one)
  one_act (octets.Move over count) w old c = moves over count old c
  one_act (octets.Call call) w old c = stepped old (system.called call old.state) c (step old.state call w c.nodes)
  one_act (octets.Lose hit) w old c = record { nodes = c.nodes; rests = c.rests }
  one_act (octets.Forget hit) w old c =
      record {
        nodes = c.nodes;
        rests =
            λ over. cond_both (hit over && not (old.joined over)) unfed (old.stream over) (λ (s : Stream). Rests over.kind s) (λ t. unfed_rests over.kind)
            (λ f. c.rests over);
      }
  one_act (octets.Join hit) w old c =
      record {
        nodes = c.nodes;
        rests =
            λ over. cond_both (hit over) unfed (old.stream over) (λ (s : Stream). Rests over.kind s) (λ t. unfed_rests over.kind) (λ f. c.rests over);
      }

  octet_acts : (acts : List (OctetAct NodeCall)) → AllByRecursion ActMay acts → (old : OctetNetwork Nodes) → Carried old
      → NetworkLeads Carried (octet_run system old acts)
  octet_acts [] w old c = c
  octet_acts (one ∷ rest) w old c =
      leads_then Carried Carried (octet_act system old one) (λ network. octet_run system network rest) (one_act one w.0 old c)
      (λ network p. octet_acts rest w.1 network p)

  -- ---- acts

  abbrev pub Holding : World → Type 0
  Holding world = Carried world.network

  network_gives : (world : World) (before : List ReportLine) (node : NodeId) (o : Option (Behind (OctetNetwork Nodes))) → NetworkLeads Carried o
      → Gives Any Holding (with_network world before o node)
  network_gives world before node None h = tt
  network_gives world before node (Some new) h = (tt, h)

  node_gives : (world : World) (node : NodeId) (before : List ReportLine) (acts : List (OctetAct NodeCall)) → AllByRecursion ActMay acts
      → Holding world → Gives Any Holding (at_node world node before acts)
  node_gives world node before acts w c =
      network_gives world before node (octets.octet_run system world.network acts) (octet_acts acts w world.network c)

  aged_gives : (o : Result Acted NodeId) → Gives Any Holding o → Gives Any Holding (with_aged o)
  aged_gives (Err node) h = tt
  aged_gives (Ok new) h = (tt, h.1)

  branches_hold : (node : NodeId) (ttl number : ℕ) (branches : List Branch) (world : World) → Holding world
      → Holding (with_branches node ttl number branches world)
  branches_hold node ttl number [] world c = c
  branches_hold node ttl number (branch ∷ more) world c =
      branches_hold node ttl number more (with_copies node branch.node (world.copies node branch.node ++ copy_on world ttl number branch ∷ []) world)
      c

  enters : (world : World) (id : VrfId) → Holding world → (o : Option Vrf) (d : Option Datagram) → Holding (entering world id o d).world
  enters world id c (Some vrf) (Some datagram) = by (world.network.state.node vrf.edge)
    where
      by : (state : NodeState) → Holding (enters_at world (record { id = id; vrf = vrf }) state datagram).world
      by (Edge edge) =
          branches_hold vrf.edge 255 (length world.datagrams)
          (entering_fate (place_of world.network.state vrf.edge) (clock_of world) edge (record { id = id; vrf = vrf }) datagram.site datagram.source
          datagram.group).branches world c
      by (CoreNode part) = c
  enters world id c (Some vrf) None = c
  enters world id c None d = c

  lands : (world : World) (a b : NodeId) (place : ℕ) → Holding world → (o : Option LinkCopy) → Holding (landing world a b place o).world
  lands world a b place c None = c
  lands world a b place c (Some copy) = by (datagram_at (without_copy world a b place) copy.number)
    where
      by : (d : Option Datagram) → Holding (landed (without_copy world a b place) a b copy d).world
      by None = c
      by (Some datagram) =
          branches_hold b (copy.ttl - 1) copy.number
          (with_ttl copy.ttl (fate_at (without_copy world a b place) b (world.network.state.node b) a copy.label datagram)).branches
          (without_copy world a b place) c

  -- what acts call for
  abbrev pub IsFine : Act → Type 0
  IsFine (Tick ticks) = May (Elapse ticks)
  IsFine (Timers n) = May (Own n steps.Timers)
  IsFine (Restart n) = May (Reset n)
  IsFine (RaiseFirst kind a b) = Fits kind a b
  IsFine (RaiseSecond kind a b) = Fits kind b a
  IsFine (At n call) = May (Own n call)
  IsFine (SetCost a b cost) = May (Price a b cost)
  IsFine (Reroute n) = May (Follow n)
  IsFine other = ⊤

  pub act_holds : (one : Act) → IsFine one → (world : World) → Holding world → Gives Any Holding (act world one)
  act_holds (Tick ticks) w world c =
      aged_gives (at_node world (record { 0 = 0 }) [] (octets.Call (Elapse ticks) ∷ []))
      (node_gives world (record { 0 = 0 }) [] (octets.Call (Elapse ticks) ∷ []) (w, tt) c)
  act_holds (Timers n) w world c = node_gives world n [] (octets.Call (Own n steps.Timers) ∷ []) (w, tt) c
  act_holds (Move kind from to count) w world c =
      node_gives world to (lines.Take kind from to (take count (world.network.transit (direction kind from to))) ∷ [])
      (octets.Move (direction kind from to) count ∷ []) (tt, tt) c
  act_holds (Lose kind a b) w world c = node_gives world a [] (octets.Lose (is_of_session kind a b) ∷ []) (tt, tt) c
  act_holds (Notice kind a b) w world c =
      node_gives world a [] (octets.Forget (is_from_peer kind a b) ∷ octets.Call (Own a (steps.Noticed kind b)) ∷ [])
      (tt, (free a (steps.Noticed kind b) tt, tt)) c
  act_holds (RaiseFirst kind a b) w world c =
      node_gives world a [] (octets.Join (is_of_session kind a b) ∷ octets.Call (Own a (steps.Raised kind b)) ∷ [])
      (tt, (free a (steps.Raised kind b) w, tt)) c
  act_holds (RaiseSecond kind a b) w world c =
      node_gives world b [] (octets.Call (Own b (steps.Raised kind a)) ∷ []) (free b (steps.Raised kind a) w, tt) c
  act_holds (Restart n) w world c =
      node_gives world n [] (octets.Lose (is_at n) ∷ octets.Forget (leads_to n) ∷ octets.Call (Reset n) ∷ []) (tt, (tt, (w, tt))) c
  act_holds (At n call) w world c = node_gives world n [] (octets.Call (Own n call) ∷ []) (w, tt) c
  act_holds (Enter id) w world c = (tt, enters world id c _ (datagram_at world (length world.datagrams)))
  act_holds (Land from to place) w world c = (tt, lands world from to place c _)
  act_holds (Drop from to place) w world c = (tt, c)
  act_holds Tell w world c = (tt, c)
  act_holds (SetCost a b cost) w world c = node_gives world a [] (octets.Call (Price a b cost) ∷ []) (w, tt) c
  act_holds (Reroute n) w world c = node_gives world n [] (octets.Call (Follow n) ∷ []) (w, tt) c

  -- ---- events

  abbrev Fine : List Act → Type 0
  Fine acts = AllByRecursion IsFine acts

  rows : (acts : List Act) → Fine acts → (world : World) → Holding world → Leads Any Holding (row acts world)
  rows acts k world c = row_leads Any any_lines Holding IsFine act_holds acts k world c

  -- what events call for
  abbrev pub EventMay : Event → Type 0
  EventMay (events.Tick count) = May (Elapse count)
  EventMay (events.Timers node) = May (Own node steps.Timers)
  EventMay events.Settle = (n : NodeId) → May (Own n steps.Timers)
  EventMay (events.Restart node) = May (Reset node)
  EventMay (events.Customer event) = (n : NodeId) (scenario : Scenario) → MayFor May n (call_for scenario event)
  EventMay (events.Cost a b cost) = May (Price a b cost) × ((n : NodeId) → May (Follow n))
  EventMay other = ⊤

  raises_fine : (list : List Session) → AllByRecursion (AreFit Fits) list → (kind : Kind) (a b : NodeId) → Fine (raises list kind a b)
  raises_fine list h kind a b = by (find (is_session_of kind a b) list) refl
    where
      by : (o : Option Session) → find (is_session_of kind a b) list ≡ o → Fine (elim o [ None ↦ [] | Some session ↦ raise_acts session ])
      by None e = tt
      by (Some session) e =
          (let f = all_at (AreFit Fits) list (position_or_len (is_session_of kind a b) list) session h
          (sym (find_at (is_session_of kind a b) list) ∙ e) in (f.0, (f.1, tt)))

  notices_fine : (world : World) (session : Session) (n peer : NodeId) → Fine (notices world session n peer)
  notices_fine world session n peer = cond_both (is_up world session.kind n peer) (Notice session.kind n peer ∷ []) [] Fine (λ t. (tt, tt)) (λ f. tt)

  timers_fine : ((n : NodeId) → May (Own n steps.Timers)) → (list : List NodeId) → Fine (map (λ n. Timers n) list)
  timers_fine w [] = tt
  timers_fine w (n ∷ more) = (w n, timers_fine w more)

  reroutes_fine : ((n : NodeId) → May (Follow n)) → (list : List NodeId) → Fine (map (λ n. Reroute n) list)
  reroutes_fine w [] = tt
  reroutes_fine w (n ∷ more) = (w n, reroutes_fine w more)

  landings_fine : (world : World) (ways : List (NodeId × NodeId)) → Fine (flat_map (landings world) ways)
  landings_fine world [] = tt
  landings_fine world (way ∷ more) =
      each_append IsFine (landings world way) (flat_map (landings world) more) (copies (length (world.copies way.0 way.1))) (landings_fine world more)
    where
      copies : (count : ℕ) → Fine (replicate count (Land way.0 way.1 1))
      copies zero = tt
      copies (suc count) = (tt, copies count)

  entries_fine : (list : List VrfId) → Fine (map (λ vrf. Enter vrf) list)
  entries_fine [] = tt
  entries_fine (vrf ∷ more) = (tt, entries_fine more)

  at_edge_holds : (o : Option NodeId) (call : CustomerCall) → ((n : NodeId) → May (Own n (steps.Customer call))) → (world : World) → Holding world
      → Leads Any Holding (at_edge o call world)
  at_edge_holds None call w world c = (tt, c)
  at_edge_holds (Some n) call w world c = rows (At n (steps.Customer call) ∷ []) (w n, tt) world c

  customer_holds : (o : Option CustomerCall) → ((n : NodeId) → MayFor May n o) → (world : World) → Holding world
      → Leads Any Holding (called o world)
  customer_holds None w world c = (tt, c)
  customer_holds (Some call) w world c = at_edge_holds (edge_for (scenario_of world) call) call w world c

  turn_holds : (over : Direction) (world : World) → Holding world → Leads Any Holding (turn over world)
  turn_holds over world c = by (world.network.transit over)
    where
      by : (bytes : List ℕ) → Leads Any Holding (elim bytes
          [ [] ↦ Done [] world | octet ∷ more ↦ row (Move over.kind over.from over.to (length (octet ∷ more)) ∷ []) world ])
      by [] = (tt, c)
      by (octet ∷ more) = rows (Move over.kind over.from over.to (length (octet ∷ more)) ∷ []) (tt, tt) world c

  turns_hold : (list : List Direction) (world : World) → Holding world → Leads Any Holding (each turn list world)
  turns_hold [] world c = (tt, c)
  turns_hold (over ∷ more) world c =
      then_leads Any any_lines Holding Holding (turn over world) (each turn more) (turn_holds over world c) (λ next k. turns_hold more next k)

  healed_holds : (session : Session) → AreFit Fits session → (world : World) → Holding world → Leads Any Holding (healed session world)
  healed_holds session h world c =
      let acts = notices world session session.a session.b ++ (notices world session session.b session.a ++ raise_acts session) in
      cond_both (is_joined world session) (Done [] world) (row acts world) (Leads Any Holding) (λ t. (tt, c))
      (λ f. rows acts (each_append IsFine (notices world session session.a session.b)
      (notices world session session.b session.a ++ raise_acts session) (notices_fine world session session.a session.b)
      (each_append IsFine (notices world session session.b session.a) (raise_acts session) (notices_fine world session session.b session.a)
      (h.0, (h.1, tt)))) world c)

  all_healed : (list : List Session) → AllByRecursion (AreFit Fits) list → (world : World) → Holding world
      → Leads Any Holding (each healed list world)
  all_healed [] h world c = (tt, c)
  all_healed (session ∷ more) h world c =
      then_leads Any any_lines Holding Holding (healed session world) (each healed more) (healed_holds session h.0 world c)
      (λ next k. all_healed more h.1 next k)

  sent_holds : (site : SiteId) (source group : Addr) (bytes : List ℕ) (world : World) → Holding world
      → Leads Any Holding (sent site source group bytes world)
  sent_holds site source group bytes world c =
      let begins : World =
      record world { datagrams = world.datagrams ++ record { site = site; source = source; group = group; octets = bytes } ∷ [] } in
      rows (map (λ (vrf : VrfId). Enter vrf) (entered (scenario_of world) site)) (entries_fine (entered (scenario_of world) site)) begins c

  pub rounds_hold : (count : ℕ) (world : World) → Holding world → Leads Any Holding (times (each turn (directions (scenario_of world))) count world)
  rounds_hold count world c =
      times_leads Any any_lines Holding (each turn (directions (scenario_of world))) (λ one q. turns_hold (directions (scenario_of world)) one q)
      count world c

  pub event_holds : (world : World) (event : Event) → EventMay event → Holding world → Leads Any Holding (done world event)
  event_holds world (events.Send site source group payload) w c = sent_holds site source group (packet source group payload) world c
  event_holds world (events.Packet site bytes) w c = sent_holds site (source_in bytes) (group_in bytes) bytes world c
  event_holds world (events.Tick count) w c = rows (Tick count ∷ []) (w, tt) world c
  event_holds world (events.Timers node) w c = rows (Timers node ∷ []) (w, tt) world c
  event_holds world (events.Restart node) w c = rows (Restart node ∷ []) (w, tt) world c
  event_holds world (events.Move kind from to count) w c = rows (Move kind from to count ∷ []) (tt, tt) world c
  event_holds world (events.Lose kind a b) w c = rows (Lose kind a b ∷ []) (tt, tt) world c
  event_holds world (events.Notice kind a b) w c = rows (Notice kind a b ∷ []) (tt, tt) world c
  event_holds world (events.Raise kind a b) w c =
      rows (raises (sessions (scenario_of world)) kind a b) (raises_fine (sessions (scenario_of world)) (fit world.network.state c.nodes) kind a b)
      world c
  event_holds world (events.Customer event) w c = customer_holds (call_for (scenario_of world) event) (λ n. w n (scenario_of world)) world c
  event_holds world (events.Cost a b cost) w c =
      rows (SetCost a b cost ∷ map (λ n. Reroute n) (all_nodes (scenario_of world))) (w.0, reroutes_fine w.1 (all_nodes (scenario_of world))) world c
  event_holds world (events.Hop from to place) w c = rows (Land from to place ∷ []) (tt, tt) world c
  event_holds world (events.DropCopy from to place) w c = rows (Drop from to place ∷ []) (tt, tt) world c
  event_holds world events.Heal w c = all_healed (sessions (scenario_of world)) (fit world.network.state c.nodes) world c
  event_holds world events.Settle w c =
      then_leads Any any_lines Holding Holding (row (map (λ n. Timers n) (all_nodes (scenario_of world))) world)
      (times (each turn (directions (scenario_of world))) (length (scenario_of world).nodes + 3))
      (rows (map (λ n. Timers n) (all_nodes (scenario_of world))) (timers_fine w (all_nodes (scenario_of world))) world c)
      (λ next k. times_leads Any any_lines Holding (each turn (directions (scenario_of world)))
      (λ one q. turns_hold (directions (scenario_of world)) one q) (length (scenario_of world).nodes + 3) next k)
  event_holds world events.Drain w c =
      times_leads Any any_lines Holding drain_round
      (λ one q. rows (flat_map (landings one) (link_ways (scenario_of one))) (landings_fine one (link_ways (scenario_of one))) one q) 255 world c
  event_holds world events.State w c = rows (Tell ∷ []) (tt, tt) world c

  -- ---- runs

  pub runs_hold : (events : List Timed) → AllByRecursion (λ (timed : Timed). EventMay timed.event) events
      → (old : World) (number : ℕ) (trace : List Traced) (new : World) → Holding old → Runs old number events trace new → Holding new
  runs_hold [] w old number trace new c run = subst Holding (sym run.1) c
  runs_hold (timed ∷ more) w old number trace new c run =
      runs_hold more w.1 run.1 (number + 1) run.2 new (elim (came old timed run.0 run.1 run.3).is [
        | inl is ↦ (subst (Leads Any Holding) is (event_holds old timed.event w.0 c)).1
        | inr r ↦ subst Holding r.2 c
      ]) run.5

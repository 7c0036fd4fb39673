-- What is kept of a trace and its network, act by act, is kept by each event, and by each run.
use Rattle.std.specs.Prelude.{find, replicate}
use Rattle.std.specs.Prelude.{Result, Ok, Err}
use Rattle.std.proofs.Common.{◌≡◌, ◌<◌, ◌+◌, ◌||◌, not, ℕ, zero, suc, Bool, true, false, cond, map, flat_map, ◌++◌, List, [], ◌∷◌, length, Option, Some, None, refl, sym, ap, subst, ◌∙◌, arith}
use Rattle.std.specs.List.{AllByRecursion}
use Rattle.std.proofs.lemmas.Bool.{and_parts, or_parts}
use Rattle.std.proofs.lemmas.List.{append_assoc, append-nil, map-append}
use Rattle.mv_base.specs.declared.addr.Addr.{Addr}
use Rattle.mv_base.specs.declared.ids.NodeId.{NodeId}
use Rattle.mv_base.specs.declared.ids.SiteId.{SiteId}
use Rattle.mv_base.specs.declared.ids.VrfId.{VrfId}
use Rattle.scenario_defs.specs.Vpn.{is_attached_at, entered}
use Rattle.scenario_defs.specs.declared.event.Event.{Event}
use Rattle.scenario_defs.specs.declared.event.Event.TheVariants as events
use Rattle.scenario_defs.specs.declared.event.Kind.{Kind}
use Rattle.scenario_defs.specs.declared.event.Kind.TheVariants as kinds
use Rattle.scenario_defs.specs.declared.event.Timed.{Timed}
use Rattle.scenario_defs.specs.declared.report.Refusal.{Refusal}
use Rattle.scenario_defs.specs.declared.report.Refusal.TheVariants as refusals
use Rattle.scenario_defs.specs.declared.report.ReportLine.TheVariants as lines
use Rattle.scenario_defs.specs.declared.scenario.Scenario.{Scenario}
use Rattle.mvpn_model.specs.Packet.{packet}
use Rattle.mvpn_model.specs.Sessions.{sessions}
use Rattle.label_defs.specs.Between.{is_between}
use Rattle.mvpn_model.specs.declared.session.Session.{Session}
use Rattle.scenario_defs.specs.Kinds.{same_kind}
use Rattle.network_defs.specs.session_defs.Refined.{seen}
use Rattle.network_defs.specs.declared.session_defs.direction.Direction.{Direction}
use Rattle.edge_defs.specs.Steps as steps
use Rattle.edge_defs.specs.Steps.{CustomerCall}
use Rattle.label_laws.specs.Rule.{Kept}
use Rattle.network_defs.specs.Acts.{Act, Tick, Timers, Move, Lose, Notice, RaiseFirst, RaiseSecond, Restart, At, Enter, Land, Drop, Tell, SetCost, Reroute, Acted, act}
use Rattle.network_defs.specs.Counts.{direction, all_nodes, directions, link_ways, is_joined, is_up as is_end}
use Rattle.network_defs.specs.Events.{cost_acts, Happened, Outcome, Done, Halted, and_then, one_act, row, each, times, raise_acts, is_session_of, raises, notices, turn, healed, settled, landings, drain_round, sent, at_edge, done, called}
use Rattle.mvpn_model.specs.Packets.{source_in, group_in}
use Rattle.network_defs.specs.Refusals.{control_at, is_session_joined, refusal, call_for, edge_for}
use Rattle.network_defs.specs.Run.{Traced, traced, outcome, Runs}
use Rattle.network_defs.specs.World.{World, Datagram, scenario_of}
use Rattle.network_defs.proofs.Kept.{Gives, Comes, both_give}
use Rattle.network_laws.specs.Sound.{SoundScenario}
use Rattle.network_laws.specs.Honest.{IsCost, IsSoundCall, IsSoundEvent}
use Rattle.network_laws.proofs.Lists.{each_of, each_map, each_flat, each_weaker}
use Rattle.network_laws.proofs.RunActs.{SoundAct}
use Rattle.network_laws.proofs.RunNodes.{IsNode, IsFoundNode, nodes_within}
use Rattle.network_laws.proofs.RunCalls.{IsSoundFor, call_is_sound, call_is_within}
use Rattle.network_laws.proofs.RunEvents.{two_ends}
use Rattle.rule_laws.specs.Labels.{label_network}
use Rattle.rule_laws.proofs.Acts.{InStep, IsFit, act_in_step, IsFitFor}
use Rattle.rule_laws.proofs.Enters.{enters}
use Rattle.rule_laws.proofs.Events.{IsWay, ways_apart, enter_datagrams, attached_from, along, kind_is, not_refused, notice_fits, FitsFor, call_fits}
use Rattle.rule_laws.proofs.Raised.{bgp_up_is, Noticed, noticed, heals, pair_raised, alike}
use Rattle.rule_laws.proofs.Raises.{between}
use Rattle.license_laws.proofs.Sessions.{Declared, sessions_declared}

-- an act in a trace
abbrev pub stepped : ℕ → Act → Acted → Traced
stepped number one acted = record { event = number; happened = record { act = Some one; lines = acted.lines } }

-- What is kept of a trace and the network after it: by each act that an event makes, by both ends of a session that come up, by a
-- datagram that is accepted, and by an event that is refused.
pub record Keeps (scenario : Scenario) (K : List Traced → World → Type 0) : Type 0 where
  pub single : (before : List Traced) (number : ℕ) (world : World) (one : Act) (acted : Acted) → InStep scenario world → SoundAct scenario one
      → IsFit world one → act world one ≡ Ok acted → InStep scenario acted.world → K before world
      → K (before ++ stepped number one acted ∷ []) acted.world
  pub pair : (before : List Traced) (number : ℕ) (world : World) (session : Session) (first second : Acted) → Declared scenario session
      → InStep scenario world → is_end world session.kind session.a session.b ≡ false → is_end world session.kind session.b session.a ≡ false
      → act world (RaiseFirst session.kind session.a session.b) ≡ Ok first
      → act first.world (RaiseSecond session.kind session.a session.b) ≡ Ok second → InStep scenario second.world → K before world
      → K (before ++ stepped number (RaiseFirst session.kind session.a session.b) first
      ∷ stepped number (RaiseSecond session.kind session.a session.b) second ∷ []) second.world
  pub accepted : (before : List Traced) (world : World) (datagram : Datagram) → InStep scenario world → K before world
      → K before (record world { datagrams = world.datagrams ++ datagram ∷ [] })
  pub refused : (before : List Traced) (number : ℕ) (world : World) (line : ℕ) (reason : Refusal) → K before world
      → K (before ++ record { event = number; happened = record { act = None; lines = lines.Refused line reason ∷ [] } } ∷ []) world

-- What is left of that where an act lacks a label: it holds of the trace before, of which the first act of a raise may be the last.
pub record Leaves (scenario : Scenario) (K : List Traced → World → Type 0) (H : List Traced → Type 0) : Type 0 where
  pub whole : (trace : List Traced) (world : World) → K trace world → H trace
  pub half : (before : List Traced) (number : ℕ) (world : World) (session : Session) (first : Acted) → Declared scenario session
      → InStep scenario world
      → act world (RaiseFirst session.kind session.a session.b) ≡ Ok first → K before world
      → H (before ++ stepped number (RaiseFirst session.kind session.a session.b) first ∷ [])

-- ---- rows, turns and rounds

module _ (K : List Traced → World → Type 0) (H : List Traced → Type 0) (number : ℕ) where
  -- It holds of the trace and the network after an outcome, and so does something of the network; or what is left of it holds of the
  -- trace before a label was lacked.
  abbrev pub Follows : (World → Type 0) → List Traced → Outcome → Type 0
  Follows P before (Halted acts node) = H (before ++ traced number acts)
  Follows P before (Done acts world) = K (before ++ traced number acts) world × P world

  -- what lets one act be followed
  abbrev pub Goes : (World → Type 0) → List Traced → World → Act → Type 0
  Goes P before world one =
      Gives P (act world one) × ((acted : Acted) → act world one ≡ Ok acted → P acted.world → K (before ++ stepped number one acted ∷ []) acted.world)

  abbrev pub Fine : (World → Type 0) → Act → Type 0
  Fine P one = (before : List Traced) (world : World) → P world → K before world → Goes P before world one

  abbrev pub Turns : (World → Type 0) → (World → Outcome) → Type 0
  Turns P turned = (before : List Traced) (world : World) → P world → K before world → Follows P before (turned world)

  grouped : (T : List Traced → Type 0) (before : List Traced) (acts thereafter : List Happened)
      → T ((before ++ traced number acts) ++ traced number thereafter) → T (before ++ traced number (acts ++ thereafter))
  grouped T before acts thereafter t =
      subst T (append_assoc before (traced number acts) (traced number thereafter)
      ∙ ap (λ (steps : List Traced). before ++ steps)
      (sym (map-append {A = Happened} {B = Traced} (λ happened. record { event = number; happened = happened }) acts thereafter))) t

module _ (K : List Traced → World → Type 0) (H : List Traced → Type 0) (number : ℕ)
    (left : (trace : List Traced) (world : World) → K trace world → H trace) where
  nothing : (P : World → Type 0) (before : List Traced) (world : World) → P world → K before world → Follows K H number P before (Done [] world)
  nothing P before world p k = (subst (λ (trace : List Traced). K trace world) (sym (append-nil before)) k, p)

  then_follows : (P Q : World → Type 0) (before : List Traced) (first : Outcome) (next : World → Outcome) → Follows K H number P before first
      → ((now : List Traced) (world : World) → P world → K now world → Follows K H number Q now (next world))
      → Follows K H number Q before (and_then first next)
  then_follows P Q before (Halted acts node) next f h = f
  then_follows P Q before (Done acts world) next f h = by (next world) (h (before ++ traced number acts) world f.1 f.0)
    where
      by : (o : Outcome) → Follows K H number Q (before ++ traced number acts) o
          → Follows K H number Q before (elim o [ Done thereafter new ↦ Done (acts ++ thereafter) new | Halted thereafter node ↦ Halted (acts ++ thereafter) node ])
      by (Halted thereafter node) q = grouped K H number H before acts thereafter q
      by (Done thereafter new) q = (grouped K H number (λ trace. K trace new) before acts thereafter q.0, q.1)

  one_follows : (P : World → Type 0) (before : List Traced) (world : World) (one : Act) → K before world → Goes K H number P before world one
      → Follows K H number P before (one_act world one)
  one_follows P before world one k (g, h) = by (act world one) refl g
    where
      by : (o : Result Acted NodeId) → act world one ≡ o → Gives P o
          → Follows K H number P before (elim o [
            | Ok new ↦ Done (record { act = Some one; lines = new.lines } ∷ []) new.world
            | Err node ↦
                Halted [] node
          ])
      by (Err node) e p = left (before ++ []) world (subst (λ (trace : List Traced). K trace world) (sym (append-nil before)) k)
      by (Ok new) e p = (h new e p, p)

  row_follows : (P : World → Type 0) (acts : List Act) → AllByRecursion (Fine K H number P) acts → (before : List Traced) (world : World) → P world
      → K before world → Follows K H number P before (row acts world)
  row_follows P [] all before world p k = nothing P before world p k
  row_follows P (one ∷ more) all before world p k =
      then_follows P P before (one_act world one) (row more) (one_follows P before world one k (all.0 before world p k))
      (λ now next q l. row_follows P more all.1 now next q l)

  each_follows : {A : Type 0} (P : World → Type 0) (turned : A → World → Outcome) (all : List A)
      → AllByRecursion (λ x. Turns K H number P (turned x)) all → Turns K H number P (each turned all)
  each_follows P turned [] keeps before world p k = nothing P before world p k
  each_follows P turned (x ∷ more) keeps before world p k =
      then_follows P P before (turned x world) (each turned more) (keeps.0 before world p k)
      (λ now next q l. each_follows P turned more keeps.1 now next q l)

  times_follows : (P : World → Type 0) (round : World → Outcome) → Turns K H number P round → (count : ℕ) → Turns K H number P (times round count)
  times_follows P round keeps zero before world p k = nothing P before world p k
  times_follows P round keeps (suc count) before world p k =
      then_follows P P before (round world) (times round count) (keeps before world p k)
      (λ now next q l. times_follows P round keeps count now next q l)

  -- an act, and a row after it
  goes_then : (P Q : World → Type 0) (one : Act) (more : List Act) (before : List Traced) (world : World) → K before world
      → Goes K H number P before world one → ((now : List Traced) (next : World) → P next → K now next → Follows K H number Q now (row more next))
      → Follows K H number Q before (row (one ∷ more) world)
  goes_then P Q one more before world k g h = then_follows P Q before (one_act world one) (row more) (one_follows P before world one k g) h

  goes_alone : (P : World → Type 0) (one : Act) (before : List Traced) (world : World) → K before world → Goes K H number P before world one
      → Follows K H number P before (row (one ∷ []) world)
  goes_alone P one before world k g = goes_then P P one [] before world k g (λ now next p k. nothing P now next p k)

  weaker : (P Q : World → Type 0) (before : List Traced) (o : Outcome) → ((world : World) → P world → Q world) → Follows K H number P before o
      → Follows K H number Q before o
  weaker P Q before (Halted acts node) h f = f
  weaker P Q before (Done acts world) h f = (f.0, h world f.1)

-- ---- events

notice_is_fit : (world : World) (kind : Kind) (a b : NodeId) → world.network.joined (direction kind a b) ≡ false
    → world.network.joined (direction kind b a) ≡ false → is_end world kind a b ≡ true → IsFit world (Notice kind a b)
notice_is_fit world kinds.Bgp a b off back up = (off, back, bgp_up_is (world.network.state.node a) b ∙ up)
notice_is_fit world kinds.Ldp a b off back up = (off, up)

module _ (scenario : Scenario) (K : List Traced → World → Type 0) (keeps : Keeps scenario K) (H : List Traced → Type 0) (leaves : Leaves scenario K H)
    (number : ℕ) where
  abbrev Keeping : World → Type 0
  Keeping = InStep scenario

  goes : (one : Act) → SoundAct scenario one → (before : List Traced) (world : World) → IsFit world one → InStep scenario world → K before world
      → Goes K H number Keeping before world one
  goes one sound before world fit s k =
      (act_in_step scenario one sound world fit s, λ acted e t. keeps.single before number world one acted s sound fit e t k)

  fine : (one : Act) → SoundAct scenario one → ((world : World) → IsFit world one) → Fine K H number Keeping one
  fine one sound fit before world s k = goes one sound before world (fit world) s k

  lone_act : (one : Act) → SoundAct scenario one → (before : List Traced) (world : World) → IsFit world one → InStep scenario world → K before world
      → Follows K H number Keeping before (row (one ∷ []) world)
  lone_act one sound before world fit s k = goes_alone K H number leaves.whole Keeping one before world k (goes one sound before world fit s k)

  -- ---- settling and draining

  turn_follows : (over : Direction) → Turns K H number Keeping (turn over)
  turn_follows over before world s k = by (world.network.transit over)
    where
      by : (octets : List ℕ) → Follows K H number Keeping before
          (elim octets [ [] ↦ Done [] world | octet ∷ more ↦ row (Move over.kind over.from over.to (length (octet ∷ more)) ∷ []) world ])
      by [] = nothing K H number leaves.whole Keeping before world s k
      by (octet ∷ more) = lone_act (Move over.kind over.from over.to (length (octet ∷ more))) tt before world tt s k

  round_follows : (all : List Direction) → Turns K H number Keeping (each turn all)
  round_follows all = each_follows K H number leaves.whole Keeping turn all (each_of (λ over. Turns K H number Keeping (turn over)) turn_follows all)

  cost_follows : (a b : NodeId) (cost : ℕ) → IsCost cost → Turns K H number Keeping (row (cost_acts scenario a b cost))
  cost_follows a b cost is before world s k =
      row_follows K H number leaves.whole Keeping (cost_acts scenario a b cost) (
        fine (SetCost a b cost) is (λ old. tt),
        each_map (Fine K H number Keeping) (λ n. Reroute n) (all_nodes scenario)
            (each_weaker (IsNode scenario) (λ n. Fine K H number Keeping (Reroute n)) (λ n within. fine (Reroute n) within (λ old. tt))
            (all_nodes scenario) (nodes_within 0 (length scenario.nodes) (length scenario.nodes) (omega arith))),
      ) before world s k

  settle_follows : Turns K H number Keeping settled
  settle_follows before world s k =
      subst (λ (own : Scenario). Follows K H number Keeping before
      (and_then (row (map (λ n. Timers n) (all_nodes own)) world) (times (each turn (directions own)) (length own.nodes + 3))))
      (sym s.2.base.sound.same)
      (then_follows K H number leaves.whole Keeping Keeping before (row (map (λ n. Timers n) (all_nodes scenario)) world)
      (times (each turn (directions scenario)) (length scenario.nodes + 3))
      (row_follows K H number leaves.whole Keeping (map (λ n. Timers n) (all_nodes scenario))
      (each_map (Fine K H number Keeping) (λ n. Timers n) (all_nodes scenario)
      (each_weaker (IsNode scenario) (λ n. Fine K H number Keeping (Timers n)) (λ n within. fine (Timers n) within (λ old. tt))
      (all_nodes scenario) (nodes_within 0 (length scenario.nodes) (length scenario.nodes) (omega arith)))) before world s k)
      (λ now next p l. times_follows K H number leaves.whole Keeping (each turn (directions scenario)) (round_follows (directions scenario))
      (length scenario.nodes + 3) now next p l))

  same_acts : (one : Act) → Fine K H number Keeping one → (count : ℕ) → AllByRecursion (Fine K H number Keeping) (replicate count one)
  same_acts one keep zero = tt
  same_acts one keep (suc count) = (keep, same_acts one keep count)

  drain_follows : Turns K H number Keeping drain_round
  drain_follows before world s k =
      let ways = link_ways (scenario_of world) in
      let apart : AllByRecursion IsWay ways =
      subst (λ (own : Scenario). AllByRecursion IsWay (link_ways own)) (sym s.2.base.sound.same) (ways_apart scenario s.2.base.sound.lines) in
      row_follows K H number leaves.whole Keeping (flat_map (landings world) ways)
      (each_flat (Fine K H number Keeping) (landings world) ways
      (each_weaker IsWay (λ way. AllByRecursion (Fine K H number Keeping) (landings world way))
      (λ way ne. same_acts (Land way.0 way.1 1) (fine (Land way.0 way.1 1) tt (λ old. ne)) (length (world.copies way.0 way.1))) ways apart))
      before world s k

  -- ---- datagrams

  sent_follows : (site : SiteId) (source group : Addr) (octets : List ℕ) → Turns K H number Keeping (sent site source group octets)
  sent_follows site source group octets before world (pending, are, good) k =
      let datagram : Datagram = record { site = site; source = source; group = group; octets = octets } in
      let all : List Datagram = world.datagrams ++ datagram ∷ [] in
      let with_it : World = record world { datagrams = all } in
      let P : World → Type 0 = λ new. InStep scenario new × (new.datagrams ≡ all) in
      let start : InStep scenario with_it = (
        pending,
        are,
        record {
          base = good.base;
          edges = good.edges;
          kept =
              λ later. subst (λ (ds : List Datagram). Kept (label_network (seen world.network pending) world.copies ds))
              (sym (append_assoc world.datagrams (datagram ∷ []) later)) (good.kept (datagram ∷ later));
        },
      ) in
      let ids : List VrfId = entered (scenario_of world) site in
      let attached : AllByRecursion (λ (id : VrfId). is_attached_at scenario id site ≡ true) ids =
      subst (λ (own : Scenario). AllByRecursion (λ (id : VrfId). is_attached_at own id site ≡ true) ids) good.base.sound.same
      (attached_from scenario (scenario_of world) site 0 (scenario_of world).vrfs) in
      weaker K H number leaves.whole P Keeping before (row (map (λ id. Enter id) ids) with_it) (λ new p. p.0)
      (row_follows K H number leaves.whole P (map (λ id. Enter id) ids)
      (each_map (Fine K H number P) (λ id. Enter id) ids
      (each_weaker (λ (id : VrfId). is_attached_at scenario id site ≡ true) (λ id. Fine K H number P (Enter id)) (λ id at earlier old p l.
      let there : is_attached_at (scenario_of old) id site ≡ true = ap (λ (own : Scenario). is_attached_at own id site) p.0.2.base.sound.same ∙ at in
      let fit = enters scenario old world.datagrams datagram id p.0 p.1 there in (
        both_give Keeping (λ new. new.datagrams ≡ all) (act old (Enter id)) (act_in_step scenario (Enter id) tt old fit p.0)
            (along scenario old.datagrams all p.1 (act old (Enter id)) (enter_datagrams scenario old id)),
        λ acted e q. keeps.single earlier number old (Enter id) acted p.0 tt fit e q.0 l,
      )) ids attached)) before with_it (start, refl) (keeps.accepted before world datagram (pending, are, good) k))

  -- ---- calls

  edge_follows : (o : Option NodeId) (call : CustomerCall) → IsFoundNode scenario o → IsSoundCall (steps.Customer call) → (before : List Traced)
      (world : World) → IsFitFor (control_at world o) call → InStep scenario world → K before world
      → Follows K H number Keeping before (at_edge o call world)
  edge_follows None call within sound before world fit s k = nothing K H number leaves.whole Keeping before world s k
  edge_follows (Some n) call within sound before world fit s k = lone_act (At n (steps.Customer call)) (within, sound) before world fit s k

  -- ---- raises

  pair_follows : (session : Session) → Declared scenario session → (before : List Traced) (world : World)
      → is_end world session.kind session.a session.b ≡ false → is_end world session.kind session.b session.a ≡ false → InStep scenario world
      → K before world
      → Follows K H number Keeping before (row (RaiseFirst session.kind session.a session.b ∷ RaiseSecond session.kind session.a session.b ∷ [])
      world)
  pair_follows session declared before world off back s k =
      by (act world one) refl (pair_raised scenario session.kind session.a session.b declared.pair world off back s)
    where
      one : Act
      one = RaiseFirst session.kind session.a session.b

      two : Act
      two = RaiseSecond session.kind session.a session.b

      second : (first : Acted) → act world (RaiseFirst session.kind session.a session.b) ≡ Ok first → (o : Result Acted NodeId)
          → act first.world (RaiseSecond session.kind session.a session.b) ≡ o
          → Comes (InStep scenario) (and_then (Done (record { act = Some (RaiseFirst session.kind session.a session.b); lines = first.lines } ∷ [])
          first.world)
          (λ _. and_then (elim o [
            | Ok new ↦ Done (record { act = Some (RaiseSecond session.kind session.a session.b); lines = new.lines } ∷ [])
                new.world
            | Err node ↦ Halted [] node
          ]) (row [])))
          → Follows K H number Keeping before (and_then
          (Done (record { act = Some (RaiseFirst session.kind session.a session.b); lines = first.lines } ∷ []) first.world)
          (λ _. and_then (elim o [
            | Ok new ↦ Done (record { act = Some (RaiseSecond session.kind session.a session.b); lines = new.lines } ∷ [])
                new.world
            | Err node ↦ Halted [] node
          ]) (row [])))
      second first e (Err node) f c = leaves.half before number world session first declared s e k
      second first e (Ok new) f c = (keeps.pair before number world session first new declared s off back e f c k, c)

      by : (o : Result Acted NodeId) → act world (RaiseFirst session.kind session.a session.b) ≡ o
          → Comes (InStep scenario) (and_then (elim o [
            | Ok new ↦ Done (record { act = Some (RaiseFirst session.kind session.a session.b); lines = new.lines } ∷ []) new.world
            | Err node ↦
                Halted [] node
          ]) (row (RaiseSecond session.kind session.a session.b ∷ [])))
          → Follows K H number Keeping before (and_then
          (elim o [
            | Ok new ↦ Done (record { act = Some (RaiseFirst session.kind session.a session.b); lines = new.lines } ∷ []) new.world
            | Err
                node ↦ Halted [] node
          ]) (row (RaiseSecond session.kind session.a session.b ∷ [])))
      by (Err node) e c = leaves.whole (before ++ []) world (subst (λ (trace : List Traced). K trace world) (sym (append-nil before)) k)
      by (Ok first) e c = second first e (act first.world (RaiseSecond session.kind session.a session.b)) refl c

  raise_follows : (kind : Kind) (a b : NodeId) (all : List Session) → AllByRecursion (λ t. Declared scenario t) all
      → (before : List Traced) (world : World) → is_end world kind a b ≡ false → is_end world kind b a ≡ false → InStep scenario world
      → K before world
      → Follows K H number Keeping before (row (raises all kind a b) world)
  raise_follows kind a b [] fit before world off back s k = nothing K H number leaves.whole Keeping before world s k
  raise_follows kind a b (session ∷ more) fit before world off back s k =
      let rest = raise_follows kind a b more fit.1 before world off back s k in
      elim (is_session_of kind a b session) as (λ t. is_session_of kind a b session ≡ t
      → Follows K H number Keeping before (row (elim (cond t (Some session) (find (is_session_of kind a b) more))
      [ None ↦ [] | Some found ↦ raise_acts found ]) world)) [
        | true ↦ λ e.
            let x = and_parts (same_kind kind session.kind) (is_between a b session.a session.b) e in
            let own : kind ≡ session.kind = kind_is scenario kind session.kind x.0 in
            let P : NodeId → NodeId → Type 0 = λ u n. (is_end world session.kind u n ≡ false) × (is_end world session.kind n u ≡ false) in
            let near : is_end world session.kind a b ≡ false = ap (λ (k : Kind). is_end world k a b) (sym own) ∙ off in
            let far : is_end world session.kind b a ≡ false = ap (λ (k : Kind). is_end world k b a) (sym own) ∙ back in
            let down = between P a b session.a session.b (near, far) (far, near) x.1 in
            pair_follows session fit.0 before world down.0 down.1 s k
        | false ↦ λ e. rest
      ] refl

  -- ---- healing

  far_follows : (session : Session) → Declared scenario session → (far : Bool) (before : List Traced) (world : World)
      → Noticed scenario session.kind session.a session.b far world → K before world
      → Follows K H number Keeping before (row (cond far (Notice session.kind session.b session.a ∷ []) []
      ++ (RaiseFirst session.kind session.a session.b ∷ RaiseSecond session.kind session.a session.b ∷ [])) world)
  far_follows session declared false before world n k = pair_follows session declared before world n.near n.there n.step k
  far_follows session declared true before world n k =
      goes_then K H number leaves.whole (Noticed scenario session.kind session.b session.a false) Keeping (Notice session.kind session.b session.a)
      (RaiseFirst session.kind session.a session.b ∷ RaiseSecond session.kind session.a session.b ∷ []) before world k (
        noticed scenario world session.kind session.b session.a false declared.pair.second (λ e. declared.pair.apart (sym e)) n.step n.far_joined
            n.near_joined n.there n.near,
        λ acted e m. keeps.single before number world (Notice session.kind session.b session.a) acted n.step declared.pair.second
            (notice_is_fit world session.kind session.b session.a n.far_joined n.near_joined n.there) e m.step k,
      ) (λ now next m l. pair_follows session declared now next m.there m.near m.step l)

  ends_follow : (session : Session) → Declared scenario session → (near far : Bool) (before : List Traced) (world : World) → InStep scenario world
      → world.network.joined (direction session.kind session.a session.b) ≡ false
      → world.network.joined (direction session.kind session.b session.a) ≡ false
      → is_end world session.kind session.a session.b ≡ near → is_end world session.kind session.b session.a ≡ far → K before world
      → Follows K H number Keeping before (row (heals session.kind session.a session.b near far) world)
  ends_follow session declared false far before world s off back up there k =
      far_follows session declared far before world (record { step = s; near_joined = off; far_joined = back; near = up; there = there }) k
  ends_follow session declared true far before world s off back up there k =
      goes_then K H number leaves.whole (Noticed scenario session.kind session.a session.b far) Keeping (Notice session.kind session.a session.b)
      (cond far (Notice session.kind session.b session.a ∷ []) []
      ++ (RaiseFirst session.kind session.a session.b ∷ RaiseSecond session.kind session.a session.b ∷ [])) before world k (
        noticed scenario world session.kind session.a session.b far declared.pair.first declared.pair.apart s off back up there,
        λ acted e m. keeps.single before number world (Notice session.kind session.a session.b) acted s declared.pair.first
            (notice_is_fit world session.kind session.a session.b off back up) e m.step k,
      ) (λ now next n l. far_follows session declared far now next n l)

  healed_follows : (session : Session) → Declared scenario session → Turns K H number Keeping (healed session)
  healed_follows session declared before world s k = by (is_joined world session) refl
    where
      by : (t : Bool) → is_joined world session ≡ t
          → Follows K H number (InStep scenario) before
          (cond t (Done [] world) (row (notices world session session.a session.b
          ++ (notices world session session.b session.a ++ raise_acts session)) world))
      by true e = nothing K H number leaves.whole (InStep scenario) before world s k
      by false e =
          ends_follow session declared (is_end world session.kind session.a session.b) (is_end world session.kind session.b session.a) before world s
          e (sym (alike scenario world session.kind session.a session.b declared.pair.apart s) ∙ e) refl refl k

-- ---- events, in the words of the world's own scenario

customer_follows : (K : List Traced → World → Type 0) (H : List Traced → Type 0) (number : ℕ) (before : List Traced) (world : World)
    → Keeps (scenario_of world) K → Leaves (scenario_of world) K H → SoundScenario (scenario_of world) → (o : Option CustomerCall) → IsSoundFor o
    → FitsFor world o → InStep (scenario_of world) world → K before world
    → Follows K H number (InStep (scenario_of world)) before (called o world)
customer_follows K H number before world keeps leaves sound None is fits s k =
    nothing K H number leaves.whole (InStep (scenario_of world)) before world s k
customer_follows K H number before world keeps leaves sound (Some call) is fits s k =
    edge_follows (scenario_of world) K keeps H leaves number (edge_for (scenario_of world) call) call
    (call_is_within (scenario_of world) sound call) is before world fits s k

done_follows : (K : List Traced → World → Type 0) (H : List Traced → Type 0) (number : ℕ) (before : List Traced) (world : World)
    → Keeps (scenario_of world) K → Leaves (scenario_of world) K H → SoundScenario (scenario_of world) → InStep (scenario_of world) world
    → (event : Event) → refusal world event ≡ None → IsSoundEvent (scenario_of world) event → K before world
    → Follows K H number (InStep (scenario_of world)) before (done world event)
done_follows K H number before world keeps leaves lines s (events.Tick count) free sound k =
    lone_act (scenario_of world) K keeps H leaves number (Tick count) tt before world tt s k
done_follows K H number before world keeps leaves lines s (events.Timers node) free sound k =
    lone_act (scenario_of world) K keeps H leaves number (Timers node) sound before world tt s k
done_follows K H number before world keeps leaves lines s (events.Restart node) free sound k =
    lone_act (scenario_of world) K keeps H leaves number (Restart node) tt before world tt s k
done_follows K H number before world keeps leaves lines s (events.Move kind from to count) free sound k =
    lone_act (scenario_of world) K keeps H leaves number (Move kind from to count) tt before world tt s k
done_follows K H number before world keeps leaves lines s (events.Lose kind a b) free sound k =
    lone_act (scenario_of world) K keeps H leaves number (Lose kind a b) tt before world tt s k
done_follows K H number before world keeps leaves lines s (events.Notice kind a b) free sound k =
    lone_act (scenario_of world) K keeps H leaves number (Notice kind a b) sound before world
    (notice_fits (scenario_of world) world kind a b s
    (not_refused (is_session_joined world kind a b || not (is_end world kind a b)) refusals.State free)) s k
done_follows K H number before world keeps leaves lines s (events.Raise kind a b) free sound k =
    let x = or_parts (is_end world kind a b) (is_end world kind b a)
    (not_refused (is_end world kind a b || is_end world kind b a) refusals.State free) in
    raise_follows (scenario_of world) K keeps H leaves number kind a b (sessions (scenario_of world)) (sessions_declared (scenario_of world) lines)
    before world x.0 x.1 s k
done_follows K H number before world keeps leaves lines s (events.Customer event) free sound k =
    customer_follows K H number before world keeps leaves lines (call_for (scenario_of world) event) (call_is_sound (scenario_of world) event sound)
    (call_fits world event free) s k
done_follows K H number before world keeps leaves lines s (events.Send site source group payload) free sound k =
    sent_follows (scenario_of world) K keeps H leaves number site source group (packet source group payload) before world s k
done_follows K H number before world keeps leaves lines s (events.Packet site octets) free sound k =
    sent_follows (scenario_of world) K keeps H leaves number site (source_in octets) (group_in octets) octets before world s k
done_follows K H number before world keeps leaves lines s (events.Hop from to place) free sound k =
    lone_act (scenario_of world) K keeps H leaves number (Land from to place) tt before world (two_ends (scenario_of world) lines from to place sound)
    s k
done_follows K H number before world keeps leaves lines s (events.DropCopy from to place) free sound k =
    lone_act (scenario_of world) K keeps H leaves number (Drop from to place) tt before world tt s k
done_follows K H number before world keeps leaves lines s (events.Cost a b cost) free sound k =
    cost_follows (scenario_of world) K keeps H leaves number a b cost sound before world s k
done_follows K H number before world keeps leaves lines s events.Heal free sound k =
    each_follows K H number leaves.whole (InStep (scenario_of world)) healed (sessions (scenario_of world))
    (each_weaker (λ t. Declared (scenario_of world) t) (λ session. Turns K H number (InStep (scenario_of world)) (healed session))
    (λ session declared. healed_follows (scenario_of world) K keeps H leaves number session declared) (sessions (scenario_of world))
    (sessions_declared (scenario_of world) lines)) before world s k
done_follows K H number before world keeps leaves lines s events.Settle free sound k =
    settle_follows (scenario_of world) K keeps H leaves number before world s k
done_follows K H number before world keeps leaves lines s events.Drain free sound k =
    times_follows K H number leaves.whole (InStep (scenario_of world)) drain_round (drain_follows (scenario_of world) K keeps H leaves number) 255
    before world s k
done_follows K H number before world keeps leaves lines s events.State free sound k =
    lone_act (scenario_of world) K keeps H leaves number Tell tt before world tt s k

event_follows : (scenario : Scenario) (K : List Traced → World → Type 0) (H : List Traced → Type 0) → Keeps scenario K → Leaves scenario K H
    → (number : ℕ) (before : List Traced) (world : World) → InStep scenario world → (event : Event) → refusal world event ≡ None
    → IsSoundEvent scenario event → K before world
    → Follows K H number (InStep scenario) before (done world event)
event_follows scenario K H keeps leaves number before world s event free sound k =
    subst (λ (own : Scenario). Keeps own K → Leaves own K H → SoundScenario own → InStep own world → IsSoundEvent own event
    → Follows K H number (InStep own) before (done world event)) s.2.base.sound.same
    (λ kept left lines stays is. done_follows K H number before world kept left lines stays event free is k) keeps leaves s.2.base.sound.lines s sound

-- ---- runs

turned_follows : (scenario : Scenario) (K : List Traced → World → Type 0) (H : List Traced → Type 0) → Keeps scenario K → Leaves scenario K H
    → (number : ℕ) (before : List Traced) (old : World) → InStep scenario old → (timed : Timed) → IsSoundEvent scenario timed.event → K before old
    → Follows K H number (InStep scenario) before (outcome old timed)
turned_follows scenario K H keeps leaves number before old s timed sound k = by (refusal old timed.event) refl
  where
    by : (o : Option Refusal) → refusal old timed.event ≡ o
        → Follows K H number (InStep scenario) before
        (elim o [ None ↦ done old timed.event | Some reason ↦ Done (record { act = None; lines = lines.Refused timed.line reason ∷ [] } ∷ []) old ])
    by None free = event_follows scenario K H keeps leaves number before old s timed.event free sound k
    by (Some reason) free = (keeps.refused before number old timed.line reason k, s)

-- nothing is asked where an act lacks a label
abbrev Nothing : List Traced → Type 0
Nothing trace = Unit {0}

none_left : (scenario : Scenario) (K : List Traced → World → Type 0) → Leaves scenario K Nothing
none_left scenario K = record { whole = λ trace world k. tt; half = λ before number world session first declared s e k. tt }

pub runs_follow : (scenario : Scenario) (K : List Traced → World → Type 0) → Keeps scenario K → (all : List Timed)
    → AllByRecursion (λ timed. IsSoundEvent scenario timed.event) all
    → (before : List Traced) (old : World) (number : ℕ) (trace : List Traced) (new : World) → InStep scenario old → K before old
    → Runs old number all trace new → K (before ++ trace) new
runs_follow scenario K keeps [] sound before old number trace new s k run =
    subst (λ (t : List Traced). K (before ++ t) new) (sym run.0)
    (subst (λ (t : List Traced). K t new) (sym (append-nil before)) (subst (K before) (sym run.1) k))
runs_follow scenario K keeps (timed ∷ more) sound before old number trace new s k run =
    let acts : List Happened = run.0 in
    let next : World = run.1 in
    let here : K (before ++ traced number acts) next × InStep scenario next =
    subst (Follows K Nothing number (InStep scenario) before) run.3
    (turned_follows scenario K Nothing keeps (none_left scenario K) number before old s timed sound.0 k) in
    let rest = runs_follow scenario K keeps more sound.1 (before ++ traced number acts) next (number + 1) run.2 new here.1 here.0 run.5 in
    subst (λ (t : List Traced). K (before ++ t) new) (sym run.4)
    (subst (λ (t : List Traced). K t new) (append_assoc before (traced number acts) run.2) rest)

-- After a run, what is left where an act of the next event lacks a label.
pub halt_leaves : (scenario : Scenario) (K : List Traced → World → Type 0) (H : List Traced → Type 0) → Keeps scenario K → Leaves scenario K H
    → (number : ℕ) (before : List Traced) (old : World) → InStep scenario old → (timed : Timed) → IsSoundEvent scenario timed.event → K before old
    → (acts : List Happened) (node : NodeId) → outcome old timed ≡ Halted acts node → H (before ++ traced number acts)
halt_leaves scenario K H keeps leaves number before old s timed sound k acts node e =
    subst (Follows K H number (InStep scenario) before) e (turned_follows scenario K H keeps leaves number before old s timed sound k)

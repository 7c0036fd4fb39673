-- Each event keeps the label rule, and so does each run.
use Rattle.std.specs.Prelude.{find, replicate, nat_le}
use Rattle.std.specs.Prelude.{Result, Ok, Err}
use Rattle.std.proofs.Common.{◌≡◌, ◌≢◌, ◌<◌, ◌≤◌, ◌+◌, ◌||◌, not, ℕ, zero, suc, Bool, true, false, cond, map, flat_map, slice_get, ◌++◌, List, [], ◌∷◌, length, Option, Some, None, refl, sym, ap, subst, ◌∙◌, arith}
use Rattle.std.specs.List.{AllByRecursion}
use Rattle.std.specs.Option.{option_or}
use Rattle.std.proofs.lemmas.Bool.{and_parts, or_parts, leb-false, not-false}
use Rattle.std.proofs.lemmas.List.{append_assoc}
use Rattle.std.proofs.lemmas.List.Elements.{recursion_from_All}
use Rattle.std.proofs.lemmas.Option.{none-some}
use Rattle.mv_base.specs.declared.addr.Addr.{Addr}
use Rattle.mv_base.specs.declared.ids.NodeId.{NodeId}
use Rattle.mv_base.specs.declared.ids.SiteId.{SiteId}
use Rattle.mv_base.specs.declared.ids.VrfId.{VrfId}
use Rattle.mv_base.specs.declared.core_link.Link.{Link}
use Rattle.mv_base.specs.core_walks.Topology.{HasEnds}
use Rattle.scenario_defs.specs.Vpn.{is_attached_at, entered, entered_from}
use Rattle.scenario_defs.specs.declared.event.Event.{Event}
use Rattle.scenario_defs.specs.declared.event.CustomerEvent.TheVariants as customers
use Rattle.scenario_defs.specs.declared.event.CustomerEvent.{CustomerEvent}
use Rattle.scenario_defs.specs.declared.event.Event.TheVariants as events
use Rattle.scenario_defs.specs.declared.event.Kind.{Kind}
use Rattle.scenario_defs.specs.declared.event.Kind.TheVariants as kinds
use Rattle.scenario_defs.specs.declared.event.Timed.{Timed}
use Rattle.scenario_defs.specs.declared.report.Refusal.{Refusal}
use Rattle.scenario_defs.specs.declared.report.Refusal.TheVariants as refusals
use Rattle.scenario_defs.specs.declared.report.ReportLine.TheVariants as lines
use Rattle.scenario_defs.specs.declared.scenario.Scenario.{Scenario}
use Rattle.scenario_defs.specs.declared.scenario.Vrf.{Vrf}
use Rattle.mvpn_model.specs.Messages.{read_at}
use Rattle.mvpn_model.specs.Packet.{packet}
use Rattle.mvpn_model.specs.declared.message.Given.{Given}
use Rattle.mvpn_model.specs.Sessions.{sessions, edges, bgp_session, bgp_sessions, ldp_session}
use Rattle.label_defs.specs.Between.{is_between}
use Rattle.mvpn_model.specs.declared.session.Session.{Session}
use Rattle.scenario_defs.specs.Kinds.{same_kind}
use Rattle.network_defs.specs.declared.session_defs.direction.Direction.{Direction}
use Rattle.edge_defs.specs.Datagrams.{entering_fate}
use Rattle.edge_defs.specs.Steps as steps
use Rattle.edge_defs.specs.Steps.{CustomerCall}
use Rattle.network_defs.specs.Acts.{Act, Tick, Timers, Move, Lose, Notice, Restart, At, Enter, Land, Drop, Tell, SetCost, Reroute, Acted, datagram_at, enters_at, entering, act}
use Rattle.network_defs.specs.Counts.{all_nodes, directions, link_ways, is_up as is_end}
use Rattle.network_defs.specs.Events.{Happened, Done, row, each, times, raise_acts, is_session_of, raises, turn, healed, settled, landings, drain_round, sent, at_edge, done, cost_acts, called}
use Rattle.network_defs.specs.Nodes.{NodeState, Edge, CoreNode, place_of}
use Rattle.mvpn_model.specs.Packets.{source_in, group_in}
use Rattle.network_defs.specs.Refusals.{control_at, refused_if, is_session_joined, is_selected, are_sessions_full, selection_limit, selections_at, refusal, call_for, edge_for, message_call}
use Rattle.network_defs.specs.Run.{Traced, outcome, Runs}
use Rattle.network_defs.specs.World.{World, Datagram, scenario_of, clock_of}
use Rattle.network_defs.proofs.Kept.{Gives, Comes, both_give, branches_datagrams}
use Rattle.network_laws.specs.Sound.{SoundScenario}
use Rattle.network_laws.specs.Honest.{IsSoundCall, IsSoundEvent, IsCost}
use Rattle.network_laws.proofs.Lists.{each_append, each_of, each_map, each_flat, each_weaker}
use Rattle.network_laws.proofs.RunActs.{SoundAct}
use Rattle.network_laws.proofs.RunNodes.{IsNode, IsFoundNode, nodes_within}
use Rattle.network_laws.proofs.RunCalls.{IsSoundFor, call_is_sound, call_is_within}
use Rattle.network_laws.proofs.RunEvents.{two_ends}
use Rattle.label_laws.specs.Rule.{Kept}
use Rattle.network_defs.specs.session_defs.Refined.{seen}
use Rattle.rule_laws.specs.Labels.{label_network}
use Rattle.rule_laws.proofs.Acts.{InStep, IsFit, IsFitEnter, act_in_step, IsFitFor}
use Rattle.std.proofs.lemmas.Option.{slice_get_within}
use Rattle.scenario_defs.specs.declared.scenario.Node.{Node}
use Rattle.network_defs.specs.Nodes.{is_edge}
use Rattle.mvpn_model.specs.Sessions.{edges_from}
use Rattle.rule_laws.proofs.Raised.{bgp_up_is, IsPair, pair_goes, healed_goes}
use Rattle.rule_laws.proofs.Full.{world_rule}
use Rattle.rule_laws.proofs.Throughout.{Goes, GoesWith, goes_comes, goes_as, goes_then, nothing_goes, then_goes, row_goes, each_goes, times_goes}
use Rattle.network_defs.specs.LabelRule.{LabelRule}
use Rattle.rule_laws.proofs.Raises.{between}

-- ---- what is asked of the datagrams that enter

-- A datagram that enters at a VRF where its site is attached is one of the VRF's VPN.
abbrev pub Enters : Type 0
Enters = (scenario : Scenario) (world : World) (before : List Datagram) (datagram : Datagram) (id : VrfId) → InStep scenario world
    → world.datagrams ≡ before ++ datagram ∷ [] → is_attached_at (scenario_of world) id datagram.site ≡ true → IsFitEnter world id

-- ---- lists

pub each_both : {X : Type 0} (P Q : X → Type 0) (xs : List X) → AllByRecursion P xs → AllByRecursion Q xs → AllByRecursion (λ x. P x × Q x) xs
each_both P Q [] p q = tt
each_both P Q (x ∷ xs) p q = ((p.0, q.0), each_both P Q xs p.1 q.1)

-- ---- sessions and links

pub links_are : (scenario : Scenario) → SoundScenario scenario → AllByRecursion (HasEnds (length scenario.nodes)) scenario.links
links_are scenario sound = recursion_from_All (HasEnds (length scenario.nodes)) scenario.links sound.rules.core.topology.ends

-- the two ends of a session
abbrev pub IsFitSession : Scenario → Session → Type 0
IsFitSession scenario session = IsPair scenario session.kind session.a session.b

-- the edges from a number on
abbrev pub IsEdgeFrom : Scenario → ℕ → NodeId → Type 0
IsEdgeFrom scenario number n = (number ≤ n.0) × (n.0 < length scenario.nodes) × (is_edge scenario n ≡ true)

pub edges_are : (scenario : Scenario) (number : ℕ) (nodes : List Node)
    → ((k : ℕ) (node : Node) → slice_get nodes k ≡ Some node → slice_get scenario.nodes (number + k) ≡ Some node)
    → AllByRecursion (IsEdgeFrom scenario number) (edges_from number nodes)
edges_are scenario number [] at = tt
edges_are scenario number (node ∷ more) at =
    let n : NodeId = record { 0 = number } in
    let here : slice_get scenario.nodes number ≡ Some node = ap (slice_get scenario.nodes) (omega arith) ∙ at 0 node refl in
    let rest : AllByRecursion (IsEdgeFrom scenario number) (edges_from (number + 1) more) =
    each_weaker (IsEdgeFrom scenario (number + 1)) (IsEdgeFrom scenario number) (λ m e. ((let le = e.0 in omega (arith, le)), e.1, e.2))
    (edges_from (number + 1) more)
    (edges_are scenario (number + 1) more (λ k one e. ap (slice_get scenario.nodes) (omega arith) ∙ at (suc k) one e)) in
    elim node.edge as (λ b. node.edge ≡ b → AllByRecursion (IsEdgeFrom scenario number)
    (cond b (n ∷ edges_from (number + 1) more) (edges_from (number + 1) more))) [
      | true ↦ λ e. (
        (
          omega arith,
          slice_get_within scenario.nodes number node here,
          ap (λ (o : Option Node). elim o as (λ _. Bool) [ None ↦ false | Some found ↦ found.edge ]) here ∙ e,
        ),
        rest,
      )
      | false ↦ λ e. rest
    ] refl

-- each one of the list is before those after it
abbrev pub AreRising : List NodeId → Type 0
AreRising [] = Unit {0}
AreRising (n ∷ more) = AllByRecursion (λ (m : NodeId). n.0 < m.0) more × AreRising more

pub edges_rise : (scenario : Scenario) (number : ℕ) (nodes : List Node)
    → ((k : ℕ) (node : Node) → slice_get nodes k ≡ Some node → slice_get scenario.nodes (number + k) ≡ Some node)
    → AreRising (edges_from number nodes)
edges_rise scenario number [] at = tt
edges_rise scenario number (node ∷ more) at =
    let later = λ (k : ℕ) (one : Node) (e : slice_get more k ≡ Some one). ap (slice_get scenario.nodes) (omega arith) ∙ at (suc k) one e in
    let rest = edges_rise scenario (number + 1) more later in
    elim node.edge as (λ b. AreRising (cond b (record { 0 = number } ∷ edges_from (number + 1) more) (edges_from (number + 1) more))) [
      | true ↦ (
        each_weaker (IsEdgeFrom scenario (number + 1)) (λ m. number < m.0) (λ m e. (let le = e.0 in omega (arith, le)))
            (edges_from (number + 1) more) (edges_are scenario (number + 1) more later),
        rest,
      )
      | false ↦ rest
    ]

pairs_fit : (scenario : Scenario) (all : List NodeId) → AllByRecursion (IsEdgeFrom scenario 0) all → AreRising all
    → AllByRecursion (IsFitSession scenario) (bgp_sessions all)
pairs_fit scenario [] are rise = tt
pairs_fit scenario (a ∷ later) are rise =
    each_append (IsFitSession scenario) (map (bgp_session a) later) (bgp_sessions later)
    (each_map (IsFitSession scenario) (bgp_session a) later
    (each_weaker (λ (b : NodeId). IsEdgeFrom scenario 0 b × (a.0 < b.0)) (λ b. IsFitSession scenario (bgp_session a b))
    (λ b e. record {
      first = are.0.1;
      second = e.0.1;
      apart =
          λ same. (let x = e.1 in let y = ap (λ (n : NodeId). n.0) same in omega (arith, x, y));
      ends = (are.0.2, e.0.2);
    }) later
    (each_both (IsEdgeFrom scenario 0) (λ b. a.0 < b.0) later are.1 rise.0)))
    (pairs_fit scenario later are.1 rise.1)

pub sessions_fit : (scenario : Scenario) → SoundScenario scenario → AllByRecursion (IsFitSession scenario) (sessions scenario)
sessions_fit scenario sound =
    let own = λ (k : ℕ) (node : Node) (e : slice_get scenario.nodes k ≡ Some node). ap (slice_get scenario.nodes) (omega arith) ∙ e in
    each_append (IsFitSession scenario) (bgp_sessions (edges scenario)) (map ldp_session scenario.links)
    (pairs_fit scenario (edges scenario) (edges_are scenario 0 scenario.nodes own) (edges_rise scenario 0 scenario.nodes own))
    (each_map (IsFitSession scenario) ldp_session scenario.links
    (each_weaker (HasEnds (length scenario.nodes)) (λ link. IsFitSession scenario (ldp_session link))
    (λ link ends. record { first = ends.a; second = ends.b; apart = λ same. ends.two (ap (λ (n : NodeId). n.0) same); ends = tt }) scenario.links
    (links_are scenario sound)))

abbrev pub IsWay : NodeId × NodeId → Type 0
IsWay way = way.0 ≢ way.1

pub ways_apart : (scenario : Scenario) → SoundScenario scenario → AllByRecursion IsWay (link_ways scenario)
ways_apart scenario sound =
    each_flat IsWay (λ link. (link.a, link.b) ∷ (link.b, link.a) ∷ []) scenario.links
    (each_weaker (HasEnds (length scenario.nodes)) (λ (link : Link). AllByRecursion IsWay ((link.a, link.b) ∷ (link.b, link.a) ∷ []))
    (λ link ends. ((λ same. ends.two (ap (λ (n : NodeId). n.0) same)), ((λ same. ends.two (sym (ap (λ (n : NodeId). n.0) same))), tt))) scenario.links
    (links_are scenario sound))

-- ---- rows of acts

module _ (scenario : Scenario) where
  abbrev Keeping : World → Type 0
  Keeping = InStep scenario

  abbrev Keep : Act → Type 0
  Keep one = (world : World) → InStep scenario world → Gives (InStep scenario) (act world one)

  row_in_step : (acts : List Act) → AllByRecursion Keep acts → (world : World) → InStep scenario world → Goes LabelRule Keeping world (row acts world)
  row_in_step acts all world s = row_goes LabelRule Keeping (world_rule scenario) acts all world s

  -- an act of which nothing more is asked
  keeps : (one : Act) → SoundAct scenario one → ((world : World) → IsFit world one) → Keep one
  keeps one sound fit world s = act_in_step scenario one sound world (fit world) s

  alone : (one : Act) → SoundAct scenario one → (world : World) → IsFit world one → InStep scenario world
      → Goes LabelRule Keeping world (row (one ∷ []) world)
  alone one sound world fit s =
      goes_then LabelRule Keeping Keeping (world_rule scenario) one [] world (world_rule scenario world s)
      (act_in_step scenario one sound world fit s) (λ next p. nothing_goes LabelRule Keeping next (world_rule scenario next p) p)

  -- ---- settling and draining

  turn_in_step : (over : Direction) (world : World) → InStep scenario world → Goes LabelRule Keeping world (turn over world)
  turn_in_step over world s = by (world.network.transit over)
    where
      by : (octets : List ℕ) → Goes LabelRule Keeping world
          (elim octets [ [] ↦ Done [] world | octet ∷ more ↦ row (Move over.kind over.from over.to (length (octet ∷ more)) ∷ []) world ])
      by [] = nothing_goes LabelRule Keeping world (world_rule scenario world s) s
      by (octet ∷ more) =
          row_in_step (Move over.kind over.from over.to (length (octet ∷ more)) ∷ [])
          (keeps (Move over.kind over.from over.to (length (octet ∷ more))) tt (λ old. tt), tt) world s

  round_in_step : (all : List Direction) (world : World) → InStep scenario world → Goes LabelRule Keeping world (each turn all world)
  round_in_step all world s =
      each_goes LabelRule Keeping (world_rule scenario) turn all
      (each_of (λ over. (old : World) → InStep scenario old → Goes LabelRule Keeping old (turn over old)) turn_in_step all) world s

  same_acts : (one : Act) → Keep one → (count : ℕ) → AllByRecursion Keep (replicate count one)
  same_acts one keep zero = tt
  same_acts one keep (suc count) = (keep, same_acts one keep count)

  drain_in_step : (world : World) → InStep scenario world → Goes LabelRule Keeping world (drain_round world)
  drain_in_step world s =
      let ways = link_ways (scenario_of world) in
      let apart : AllByRecursion IsWay ways =
      subst (λ (own : Scenario). AllByRecursion IsWay (link_ways own)) (sym s.2.base.sound.same) (ways_apart scenario s.2.base.sound.lines) in
      row_in_step (flat_map (landings world) ways)
      (each_flat Keep (landings world) ways (each_weaker IsWay (λ way. AllByRecursion Keep (landings world way))
      (λ way ne. same_acts (Land way.0 way.1 1) (λ old p. act_in_step scenario (Land way.0 way.1 1) tt old ne p)
      (length (world.copies way.0 way.1))) ways apart)) world s

  -- ---- datagrams

  pub enter_datagrams : (world : World) (id : VrfId) → Gives (λ new. new.datagrams ≡ world.datagrams) (act world (Enter id))
  enter_datagrams world id = by (slice_get (scenario_of world).vrfs id.0) (datagram_at world (length world.datagrams))
    where
      at : (vrf : Vrf) (state : NodeState) (datagram : Datagram)
          → (enters_at world (record { id = id; vrf = vrf }) state datagram).world.datagrams ≡ world.datagrams
      at vrf (CoreNode part) datagram = refl
      at vrf (Edge edge) datagram =
          branches_datagrams vrf.edge 255 (length world.datagrams)
          (entering_fate (place_of world.network.state vrf.edge) (clock_of world) edge (record { id = id; vrf = vrf }) datagram.site datagram.source
          datagram.group).branches world

      by : (o : Option Vrf) (d : Option Datagram) → (entering world id o d).world.datagrams ≡ world.datagrams
      by (Some vrf) (Some datagram) = at vrf (world.network.state.node vrf.edge) datagram
      by (Some vrf) None = refl
      by None d = refl

  pub along : (old all : List Datagram) → old ≡ all → (o : Result Acted NodeId) → Gives (λ new. new.datagrams ≡ old) o
      → Gives (λ new. new.datagrams ≡ all) o
  along old all e (Err node) h = tt
  along old all e (Ok new) h = h ∙ e

  pub attached_from : (own : Scenario) (site : SiteId) (number : ℕ) (vrfs : List Vrf)
      → AllByRecursion (λ (id : VrfId). is_attached_at own id site ≡ true) (entered_from own site number vrfs)
  attached_from own site number [] = tt
  attached_from own site number (vrf ∷ more) =
      let rest = attached_from own site (number + 1) more in
      elim (is_attached_at own (record { 0 = number }) site) as
      (λ t. is_attached_at own (record { 0 = number }) site ≡ t
      → AllByRecursion (λ (id : VrfId). is_attached_at own id site ≡ true)
      (cond t (record { 0 = number } ∷ entered_from own site (number + 1) more) (entered_from own site (number + 1) more))) [
        | true ↦ λ e. (e, rest)
        | false ↦ λ e. rest
      ] refl

  sent_in_step : Enters → (site : SiteId) (source group : Addr) (octets : List ℕ) (world : World) → InStep scenario world
      → GoesWith LabelRule Keeping world (sent site source group octets world)
  sent_in_step enters site source group octets world (pending, are, good) =
      let datagram : Datagram = record { site = site; source = source; group = group; octets = octets } in
      let all : List Datagram = world.datagrams ++ datagram ∷ [] in
      let with_it : World = record world { datagrams = all } in
      let P : World → Type 0 = λ new. InStep scenario new × (new.datagrams ≡ all) in
      let start : InStep scenario with_it = (
        pending,
        are,
        record {
          base = good.base;
          edges = good.edges;
          kept =
              λ later. subst (λ (ds : List Datagram). Kept (label_network (seen world.network pending) world.copies ds))
              (sym (append_assoc world.datagrams (datagram ∷ []) later)) (good.kept (datagram ∷ later));
        },
      ) in
      let ids : List VrfId = entered (scenario_of world) site in
      let attached : AllByRecursion (λ (id : VrfId). is_attached_at scenario id site ≡ true) ids =
      subst (λ (own : Scenario). AllByRecursion (λ (id : VrfId). is_attached_at own id site ≡ true) ids) good.base.sound.same
      (attached_from (scenario_of world) site 0 (scenario_of world).vrfs) in (
        all,
        goes_as LabelRule P Keeping with_it (row (map (λ id. Enter id) ids) with_it) (λ new p. p.0)
            (row_goes LabelRule P (λ new p. world_rule scenario new p.0) (map (λ id. Enter id) ids)
            (each_map (λ one. (old : World) → P old → Gives P (act old one)) (λ id. Enter id) ids
            (each_weaker (λ (id : VrfId). is_attached_at scenario id site ≡ true) (λ id. (old : World) → P old → Gives P (act old (Enter id)))
            (λ id at old p.
            let there : is_attached_at (scenario_of old) id site ≡ true =
            ap (λ (own : Scenario). is_attached_at own id site) p.0.2.base.sound.same ∙ at in
            both_give Keeping (λ new. new.datagrams ≡ all) (act old (Enter id))
            (act_in_step scenario (Enter id) tt old (enters scenario old world.datagrams datagram id p.0 p.1 there) p.0)
            (along old.datagrams all p.1 (act old (Enter id)) (enter_datagrams old id))) ids attached)) with_it (start, refl)),
      )

  -- ---- calls

  edge_in_step : (o : Option NodeId) (call : CustomerCall) → IsFoundNode scenario o → IsSoundCall (steps.Customer call) → (world : World)
      → IsFitFor (control_at world o) call → InStep scenario world → Goes LabelRule Keeping world (at_edge o call world)
  edge_in_step None call within sound world fit s = nothing_goes LabelRule Keeping world (world_rule scenario world s) s
  edge_in_step (Some n) call within sound world fit s = alone (At n (steps.Customer call)) (within, sound) world fit s

  -- ---- raises

  pub kind_is : (kind own : Kind) → same_kind kind own ≡ true → kind ≡ own
  kind_is kinds.Ldp kinds.Ldp e = refl
  kind_is kinds.Bgp kinds.Bgp e = refl
  kind_is kinds.Bgp kinds.Ldp e = absurd cc
  kind_is kinds.Ldp kinds.Bgp e = absurd cc

  raise_in_step : (kind : Kind) (a b : NodeId) (all : List Session) → AllByRecursion (IsFitSession scenario) all → (world : World)
      → is_end world kind a b ≡ false → is_end world kind b a ≡ false → InStep scenario world
      → Goes LabelRule Keeping world (row (raises all kind a b) world)
  raise_in_step kind a b [] fit world off back s = nothing_goes LabelRule Keeping world (world_rule scenario world s) s
  raise_in_step kind a b (session ∷ more) fit world off back s =
      let later = raise_in_step kind a b more fit.1 world off back s in
      elim (is_session_of kind a b session) as (λ t. is_session_of kind a b session ≡ t
      → Goes LabelRule Keeping world (row (elim (cond t (Some session) (find (is_session_of kind a b) more))
      [ None ↦ [] | Some found ↦ raise_acts found ]) world)) [
        | true ↦ λ e.
            let x = and_parts (same_kind kind session.kind) (is_between a b session.a session.b) e in
            let own : kind ≡ session.kind = kind_is kind session.kind x.0 in
            let P : NodeId → NodeId → Type 0 = λ u n. (is_end world session.kind u n ≡ false) × (is_end world session.kind n u ≡ false) in
            let near : is_end world session.kind a b ≡ false = ap (λ (k : Kind). is_end world k a b) (sym own) ∙ off in
            let far : is_end world session.kind b a ≡ false = ap (λ (k : Kind). is_end world k b a) (sym own) ∙ back in
            let down = between P a b session.a session.b (near, far) (far, near) x.1 in
            pair_goes scenario session.kind session.a session.b fit.0 world down.0 down.1 s
        | false ↦ λ e. later
      ] refl

-- ---- events, in the words of the world's own scenario

pub not_refused : (b : Bool) (reason : Refusal) → refused_if b reason ≡ None → b ≡ false
not_refused false reason e = refl
not_refused true reason e = let x : None ≡ Some reason = sym e in absurd (none-some reason x)

pub or_not_refused : (first then_refused : Option Refusal) → option_or first then_refused ≡ None → (first ≡ None) × (then_refused ≡ None)
or_not_refused None other e = (refl, e)
or_not_refused (Some reason) other e = let x : None ≡ Some reason = sym e in absurd (none-some reason x)

-- what a customer calls for, where it does, fits the edge: there is room for one more selection, and a pattern is not selected twice
abbrev pub FitsFor : World → Option CustomerCall → Type 0
FitsFor world None = Unit {0}
FitsFor world (Some call) = IsFitFor (control_at world (edge_for (scenario_of world) call)) call

message_fits : (world : World) (o : Option Given) → FitsFor world (message_call o)
message_fits world None = tt
message_fits world (Some given) = (tt, refl)

pub call_fits : (world : World) (event : CustomerEvent) → refusal world (events.Customer event) ≡ None
    → FitsFor world (call_for (scenario_of world) event)
call_fits world (customers.Pim iface octets) free = message_fits world (read_at iface octets)
call_fits world (customers.Select vrf pattern) free =
    let x = or_not_refused (refused_if (is_selected world vrf pattern) refusals.State)
    (refused_if (are_sessions_full world || nat_le selection_limit (selections_at world vrf)) refusals.Full) free in
    let y = or_parts (are_sessions_full world) (nat_le selection_limit (selections_at world vrf))
    (not_refused (are_sessions_full world || nat_le selection_limit (selections_at world vrf)) refusals.Full x.1) in
    let few = leb-false 256 (selections_at world vrf) y.1 in (omega (arith, few), not_refused (is_selected world vrf pattern) refusals.State x.0)
call_fits world other free = (tt, refl)

settle_in_step : (world : World) → InStep (scenario_of world) world → Goes LabelRule (InStep (scenario_of world)) world (settled world)
settle_in_step world s =
    let scenario = scenario_of world in
    then_goes LabelRule (InStep scenario) (InStep scenario) world (row (map (λ n. Timers n) (all_nodes scenario)) world)
    (times (each turn (directions scenario)) (length scenario.nodes + 3))
    (row_in_step scenario (map (λ n. Timers n) (all_nodes scenario))
    (each_map (Keep scenario) (λ n. Timers n) (all_nodes scenario)
    (each_weaker (IsNode scenario) (λ n. Keep scenario (Timers n)) (λ n within. keeps scenario (Timers n) within (λ old. tt)) (all_nodes scenario)
    (nodes_within 0 (length scenario.nodes) (length scenario.nodes) (omega arith)))) world s)
    (λ next p. times_goes LabelRule (InStep scenario) (world_rule scenario) (each turn (directions scenario))
    (λ one q. round_in_step scenario (directions scenario) one q) (length scenario.nodes + 3) next p)

cost_in_step : (world : World) (a b : NodeId) (cost : ℕ) → IsCost cost → InStep (scenario_of world) world
    → Goes LabelRule (InStep (scenario_of world)) world (row (cost_acts (scenario_of world) a b cost) world)
cost_in_step world a b cost is s =
    let scenario = scenario_of world in
    row_in_step scenario (cost_acts scenario a b cost) (
      keeps scenario (SetCost a b cost) is (λ old. tt),
      each_map (Keep scenario) (λ n. Reroute n) (all_nodes scenario)
          (each_weaker (IsNode scenario) (λ n. Keep scenario (Reroute n)) (λ n within. keeps scenario (Reroute n) within (λ old. tt))
          (all_nodes scenario) (nodes_within 0 (length scenario.nodes) (length scenario.nodes) (omega arith))),
    ) world s

customer_in_step : (world : World) → SoundScenario (scenario_of world) → (o : Option CustomerCall) → IsSoundFor o → FitsFor world o
    → InStep (scenario_of world) world → Goes LabelRule (InStep (scenario_of world)) world (called o world)
customer_in_step world sound None is fits s = nothing_goes LabelRule (InStep (scenario_of world)) world (world_rule (scenario_of world) world s) s
customer_in_step world sound (Some call) is fits s =
    edge_in_step (scenario_of world) (edge_for (scenario_of world) call) call (call_is_within (scenario_of world) sound call) is world fits s

pub notice_fits : (scenario : Scenario) (world : World) (kind : Kind) (a b : NodeId) → InStep scenario world
    → (is_session_joined world kind a b || not (is_end world kind a b)) ≡ false → IsFit world (Notice kind a b)
notice_fits scenario world kinds.Bgp a b s e =
    let x = or_parts (is_session_joined world kinds.Bgp a b) (not (is_end world kinds.Bgp a b)) e in
    (x.0, sym (s.2.edges.2.rule.alike a b) ∙ x.0, bgp_up_is (world.network.state.node a) b ∙ not-false (is_end world kinds.Bgp a b) x.1)
notice_fits scenario world kinds.Ldp a b s e = let x = or_parts (is_session_joined world kinds.Ldp a b) (not (is_end world kinds.Ldp a b)) e in
    (x.0, not-false (is_end world kinds.Ldp a b) x.1)

done_in_step : Enters → (world : World) → SoundScenario (scenario_of world) → InStep (scenario_of world) world → (event : Event)
    → refusal world event ≡ None → IsSoundEvent (scenario_of world) event → GoesWith LabelRule (InStep (scenario_of world)) world (done world event)
done_in_step enters world lines s (events.Tick count) free sound = (world.datagrams, alone (scenario_of world) (Tick count) tt world tt s)
done_in_step enters world lines s (events.Timers node) free sound = (world.datagrams, alone (scenario_of world) (Timers node) sound world tt s)
done_in_step enters world lines s (events.Restart node) free sound = (world.datagrams, alone (scenario_of world) (Restart node) tt world tt s)
done_in_step enters world lines s (events.Move kind from to count) free sound =
    (world.datagrams, alone (scenario_of world) (Move kind from to count) tt world tt s)
done_in_step enters world lines s (events.Lose kind a b) free sound = (world.datagrams, alone (scenario_of world) (Lose kind a b) tt world tt s)
done_in_step enters world lines s (events.Notice kind a b) free sound = (
  world.datagrams,
  alone (scenario_of world) (Notice kind a b) sound world
      (notice_fits (scenario_of world) world kind a b s
      (not_refused (is_session_joined world kind a b || not (is_end world kind a b)) refusals.State free)) s,
)
done_in_step enters world lines s (events.Raise kind a b) free sound =
    let x = or_parts (is_end world kind a b) (is_end world kind b a)
    (not_refused (is_end world kind a b || is_end world kind b a) refusals.State free) in (
      world.datagrams,
      raise_in_step (scenario_of world) kind a b (sessions (scenario_of world)) (sessions_fit (scenario_of world) lines) world x.0 x.1
          s,
    )
done_in_step enters world lines s (events.Customer event) free sound = (
  world.datagrams,
  customer_in_step world lines (call_for (scenario_of world) event) (call_is_sound (scenario_of world) event sound) (call_fits world event free) s,
)
done_in_step enters world lines s (events.Send site source group payload) free sound =
    sent_in_step (scenario_of world) enters site source group (packet source group payload) world s
done_in_step enters world lines s (events.Packet site octets) free sound =
    sent_in_step (scenario_of world) enters site (source_in octets) (group_in octets) octets world s
done_in_step enters world lines s (events.Hop from to place) free sound =
    (world.datagrams, alone (scenario_of world) (Land from to place) tt world (two_ends (scenario_of world) lines from to place sound) s)
done_in_step enters world lines s (events.DropCopy from to place) free sound =
    (world.datagrams, alone (scenario_of world) (Drop from to place) tt world tt s)
done_in_step enters world lines s events.Heal free sound = (
  world.datagrams,
  each_goes LabelRule (InStep (scenario_of world)) (world_rule (scenario_of world)) healed (sessions (scenario_of world))
      (each_weaker (IsFitSession (scenario_of world))
      (λ session. (old : World) → InStep (scenario_of world) old → Goes LabelRule (InStep (scenario_of world)) old (healed session old))
      (λ session fit. healed_goes (scenario_of world) session fit) (sessions (scenario_of world)) (sessions_fit (scenario_of world) lines)) world
      s,
)
done_in_step enters world lines s events.Settle free sound = (world.datagrams, settle_in_step world s)
done_in_step enters world lines s events.Drain free sound = (
  world.datagrams,
  times_goes LabelRule (InStep (scenario_of world)) (world_rule (scenario_of world)) drain_round
      (drain_in_step (scenario_of world)) 255 world s,
)
done_in_step enters world lines s (events.Cost a b cost) free sound = (world.datagrams, cost_in_step world a b cost sound s)
done_in_step enters world lines s events.State free sound = (world.datagrams, alone (scenario_of world) Tell tt world tt s)

event_in_step : Enters → (scenario : Scenario) (world : World) → InStep scenario world → (event : Event) → refusal world event ≡ None
    → IsSoundEvent scenario event → GoesWith LabelRule (InStep scenario) world (done world event)
event_in_step enters scenario world s event free sound =
    subst (λ (own : Scenario). SoundScenario own → InStep own world → IsSoundEvent own event
    → GoesWith LabelRule (InStep own) world (done world event)) s.2.base.sound.same
    (λ lines stays is. done_in_step enters world lines stays event free is) s.2.base.sound.lines s sound

-- ---- runs

-- the label rule holds throughout what comes of an event
pub outcome_goes : Enters → (scenario : Scenario) (old : World) → InStep scenario old → (timed : Timed) → IsSoundEvent scenario timed.event
    → GoesWith LabelRule (InStep scenario) old (outcome old timed)
outcome_goes enters scenario old s timed sound = by (refusal old timed.event) refl
  where
    by : (o : Option Refusal) → refusal old timed.event ≡ o
        → GoesWith LabelRule (InStep scenario) old (elim o
        [ None ↦ done old timed.event | Some reason ↦ Done (record { act = None; lines = lines.Refused timed.line reason ∷ [] } ∷ []) old ])
    by None free = event_in_step enters scenario old s timed.event free sound
    by (Some reason) free = (let holds = world_rule scenario old s in (old.datagrams, (s, (old, holds, refl, (refl, holds)))))

pub turned_in_step : Enters → (scenario : Scenario) (old : World) → InStep scenario old → (timed : Timed) → IsSoundEvent scenario timed.event
    → (acts : List Happened) (next : World) → outcome old timed ≡ Done acts next → InStep scenario next
turned_in_step enters scenario old s timed sound acts next e =
    let g = outcome_goes enters scenario old s timed sound in
    subst (Comes (InStep scenario)) e (goes_comes LabelRule (InStep scenario) (record old { datagrams = g.0 }) (outcome old timed) g.1)

pub runs_in_step : Enters → (scenario : Scenario) (all : List Timed) → AllByRecursion (λ timed. IsSoundEvent scenario timed.event) all
    → (old : World) (number : ℕ) (trace : List Traced) (new : World) → InStep scenario old → Runs old number all trace new → InStep scenario new
runs_in_step enters scenario [] sound old number trace new s run = subst (InStep scenario) (sym run.1) s
runs_in_step enters scenario (timed ∷ more) sound old number trace new s run =
    runs_in_step enters scenario more sound.1 run.1 (number + 1) run.2 new (turned_in_step enters scenario old s timed sound.0 run.0 run.1 run.3)
    run.5

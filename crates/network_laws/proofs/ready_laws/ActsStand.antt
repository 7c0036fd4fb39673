-- Each act of the network changes where the sessions stand, and none says that an event was refused.
use Rattle.std.specs.Prelude.{⊤}
use Rattle.std.proofs.Common.{◌≡◌, ℕ, ◌-◌, ◌==◌, ◌||◌, ◌++◌, map, take, slice_get, length, List, [], ◌∷◌, Option, Some, None, refl, sym, subst, ◌∙◌}
use Rattle.std.specs.Prelude.{Result, Ok, Err}
use Rattle.std.specs.List.{flat_map}
use Rattle.std.proofs.lemmas.List.Concat.{flat_map-append}
use Rattle.mv_base.specs.declared.ids.NodeId.{NodeId}
use Rattle.mv_base.specs.declared.ids.VrfId.{VrfId}
use Rattle.scenario_defs.specs.declared.report.ReportLine.{ReportLine}
use Rattle.scenario_defs.specs.declared.report.ReportLine.TheVariants as lines
use Rattle.scenario_defs.specs.declared.scenario.Scenario.{Scenario}
use Rattle.scenario_defs.specs.declared.scenario.Vrf.{Vrf}
use Rattle.network_defs.specs.mvpn_model.Report.{refused_line}
use Rattle.network_defs.specs.session_defs.Octets as octets
use Rattle.network_defs.specs.session_defs.Octets.{OctetNetwork, OctetAct, octet_act, octet_run}
use Rattle.network_defs.specs.session_defs.System.{Put, Behind, octets_over}
use Rattle.network_defs.specs.declared.session_defs.direction.Direction.{Direction}
use Rattle.network_defs.specs.edge_defs.Datagrams.{Fate, entering_fate}
use Rattle.network_defs.specs.edge_defs.Place.{OwnVrf}
use Rattle.network_defs.specs.edge_defs.Steps as steps
use Rattle.network_defs.specs.Acts.{Act, Tick, Timers, Move, Lose, Notice, RaiseFirst, RaiseSecond, Restart, At, Enter, Land, Drop, Tell, SetCost, Reroute, Acted, put_line, put_lines, with_network, at_node, is_of_session, is_at, leads_to, is_from_peer, hop_line, fated, datagram_at, enters_at, entering, fate_at, with_ttl, landed, without_copy, landing, with_aged, act}
use Rattle.network_defs.specs.Counts.{direction, directions}
use Rattle.network_defs.specs.Nodes.{NodeState, Edge, CoreNode, Nodes, place_of}
use Rattle.network_defs.specs.System.{NodeCall, Own, Elapse, Reset, Price, Follow, system}
use Rattle.network_defs.specs.mvpn_model.Unready.{SessionsStand, is_that}
use Rattle.network_defs.specs.World.{World, Datagram, LinkCopy, scenario_of, clock_of}
use Rattle.network_defs.proofs.Kept.{branches_keep}
use Rattle.network_laws.proofs.ready_laws.Nodes.{call_stand, reset_stand}
use Rattle.network_laws.proofs.ready_laws.Octets.{Stands, Leads, run_then, call_stands, reset_stands, later, elapse_stands, price_stands, follow_stands, move_stands, lost, lose_stands, forget_stands, joins, join_stands}

-- ---- lines

-- the event lines that lines refuse
abbrev pub refused_in : List ReportLine → List ℕ
refused_in all = flat_map refused_line all

pub none_refused : (first more : List ReportLine) → refused_in first ≡ [] → refused_in more ≡ [] → refused_in (first ++ more) ≡ []
none_refused first more f m = flat_map-append refused_line first more ∙ (λ i. f i ++ m i)

none_of_each : {A : Type 0} (line : A → ReportLine) → ((x : A) → refused_line (line x) ≡ []) → (all : List A) → refused_in (map line all) ≡ []
none_of_each line h [] = refl
none_of_each line h (x ∷ more) = (λ i. h x i ++ none_of_each line h more i)

none_of_rows : {A : Type 0} (row : A → List ReportLine) → ((x : A) → refused_in (row x) ≡ []) → (all : List A) → refused_in (flat_map row all) ≡ []
none_of_rows row h [] = refl
none_of_rows row h (x ∷ more) = none_refused (row x) (flat_map row more) (h x) (none_of_rows row h more)

puts_refuse_none : (scenario : Scenario) (puts : List Put) → refused_in (put_lines scenario puts) ≡ []
puts_refuse_none scenario puts = none_of_rows (put_line puts) (λ over. by over (octets_over over puts)) (directions scenario)
  where
    by : (over : Direction) (all : List ℕ) → refused_in
        (elim all [ [] ↦ [] | octet ∷ more ↦ lines.Put over.kind over.from over.to (octet ∷ more) ∷ [] ]) ≡ []
    by over [] = refl
    by over (octet ∷ more) = refl

-- ---- what an act gives

-- The world after the act, if it does not lack a label, has the property, and no line refuses an event.
abbrev pub Gives : (World → Type 0) → Result Acted NodeId → Type 0
Gives P (Err node) = ⊤
Gives P (Ok new) = (refused_in new.lines ≡ []) × P new.world

-- the sessions of a world stand so
abbrev pub WorldStands : Scenario → SessionsStand → World → Type 0
WorldStands scenario standing world = Stands scenario standing world.network

network_gives : (P : OctetNetwork Nodes → Type 0) (world : World) (before : List ReportLine) (found : Option (Behind (OctetNetwork Nodes)))
    (node : NodeId) → refused_in before ≡ [] → Leads P found → Gives (λ new. P new.network) (with_network world before found node)
network_gives P world before None node b h = tt
network_gives P world before (Some new) node b h =
    (none_refused before (put_lines (scenario_of world) new.puts) b (puts_refuse_none (scenario_of world) new.puts), h)

aged_gives : (P : OctetNetwork Nodes → Type 0) (found : Result Acted NodeId) → Gives (λ new. P new.network) found
    → Gives (λ new. P new.network) (with_aged found)
aged_gives P (Err node) h = tt
aged_gives P (Ok new) h = h

-- one act at a node
one_gives : (P : OctetNetwork Nodes → Type 0) (world : World) (node : NodeId) (before : List ReportLine) (one : OctetAct NodeCall)
    → refused_in before ≡ [] → Leads P (octet_act system world.network one) → Gives (λ new. P new.network) (at_node world node before (one ∷ []))
one_gives P world node before one b h =
    network_gives P world before (octet_run system world.network (one ∷ [])) node b (run_then P P world.network one [] h (λ network p. p))

-- two acts at a node
two_give : (P Q : OctetNetwork Nodes → Type 0) (world : World) (node : NodeId) (one two : OctetAct NodeCall)
    → Leads P (octet_act system world.network one) → ((network : OctetNetwork Nodes) → P network → Leads Q (octet_act system network two))
    → Gives (λ new. Q new.network) (at_node world node [] (one ∷ two ∷ []))
two_give P Q world node one two h k =
    network_gives Q world [] (octet_run system world.network (one ∷ two ∷ [])) node refl
    (run_then P Q world.network one (two ∷ []) h (λ network p. run_then Q Q network two [] (k network p) (λ last q. q)))

-- ---- copies

fated_gives : (P : OctetNetwork Nodes → Type 0) (world : World) (node : NodeId) (ttl number : ℕ) (bytes : List ℕ) (before : List ReportLine)
    (fate : Fate) → refused_in before ≡ [] → P world.network → Gives (λ new. P new.network) (Ok (fated world node ttl number bytes before fate))
fated_gives P world node ttl number bytes before fate b p = (
  none_refused before (map (λ iface. lines.Out number iface bytes) fate.outs ++ map (hop_line node ttl number) fate.branches) b
      (none_refused (map (λ iface. lines.Out number iface bytes) fate.outs) (map (hop_line node ttl number) fate.branches)
      (none_of_each (λ iface. lines.Out number iface bytes) (λ iface. refl) fate.outs)
      (none_of_each (hop_line node ttl number) (λ branch. refl) fate.branches)),
  subst P (sym (branches_keep node ttl number fate.branches world)) p,
)

enters_gives : (P : OctetNetwork Nodes → Type 0) (world : World) (own : OwnVrf) (node : NodeState) (datagram : Datagram) → P world.network
    → Gives (λ new. P new.network) (Ok (enters_at world own node datagram))
enters_gives P world own (Edge edge) datagram p =
    fated_gives P world own.vrf.edge 255 (length world.datagrams) datagram.octets []
    (entering_fate (place_of world.network.state own.vrf.edge) (clock_of world) edge own datagram.site datagram.source datagram.group) refl p
enters_gives P world own (CoreNode part) datagram p = (refl, p)

entering_gives : (P : OctetNetwork Nodes → Type 0) (world : World) (id : VrfId) (vrf : Option Vrf) (datagram : Option Datagram) → P world.network
    → Gives (λ new. P new.network) (Ok (entering world id vrf datagram))
entering_gives P world id (Some vrf) (Some datagram) p =
    enters_gives P world (record { id = id; vrf = vrf }) (world.network.state.node vrf.edge) datagram p
entering_gives P world id (Some vrf) None p = (refl, p)
entering_gives P world id None datagram p = (refl, p)

landed_gives : (P : OctetNetwork Nodes → Type 0) (world : World) (from to : NodeId) (copy : LinkCopy) (datagram : Option Datagram) → P world.network
    → Gives (λ new. P new.network) (Ok (landed world from to copy datagram))
landed_gives P world from to copy None p = (refl, p)
landed_gives P world from to copy (Some datagram) p =
    fated_gives P world to (copy.ttl - 1) copy.number datagram.octets (lines.Land from to copy.label copy.number ∷ [])
    (with_ttl copy.ttl (fate_at world to (world.network.state.node to) from copy.label datagram)) refl p

landing_gives : (P : OctetNetwork Nodes → Type 0) (world : World) (from to : NodeId) (place : ℕ) (copy : Option LinkCopy) → P world.network
    → Gives (λ new. P new.network) (Ok (landing world from to place copy))
landing_gives P world from to place None p = (refl, p)
landing_gives P world from to place (Some copy) p = landed_gives P (without_copy world from to place) from to copy (datagram_at world copy.number) p

-- ---- acts

-- where the sessions stand after an act
abbrev pub act_stand : Scenario → Act → SessionsStand → SessionsStand
act_stand scenario (Tick ticks) old = later ticks old
act_stand scenario (Timers n) old = call_stand scenario n steps.Timers old
act_stand scenario (Lose kind a b) old = lost (is_that kind a b) old
act_stand scenario (Notice kind a b) old = call_stand scenario a (steps.Noticed kind b) old
act_stand scenario (RaiseFirst kind a b) old = call_stand scenario a (steps.Raised kind b) (joins (is_that kind a b) old)
act_stand scenario (RaiseSecond kind a b) old = call_stand scenario b (steps.Raised kind a) old
act_stand scenario (Restart n) old = reset_stand n (lost (λ own u v. (u.0 == n.0) || (v.0 == n.0)) old)
act_stand scenario (At n call) old = call_stand scenario n call old
act_stand scenario other old = old

pub act_gives : (scenario : Scenario) (standing : SessionsStand) (world : World) (one : Act) → WorldStands scenario standing world
    → Gives (WorldStands scenario (act_stand scenario one standing)) (act world one)
act_gives scenario standing world (Tick ticks) s =
    aged_gives (Stands scenario (later ticks standing)) (at_node world (record { 0 = 0 }) [] (octets.Call (Elapse ticks) ∷ []))
    (one_gives (Stands scenario (later ticks standing)) world (record { 0 = 0 }) [] (octets.Call (Elapse ticks)) refl
    (elapse_stands scenario standing world.network ticks s))
act_gives scenario standing world (Timers n) s =
    one_gives (Stands scenario (call_stand scenario n steps.Timers standing)) world n [] (octets.Call (Own n steps.Timers)) refl
    (call_stands scenario standing world.network n steps.Timers s)
act_gives scenario standing world (Move kind from to count) s =
    one_gives (Stands scenario standing) world to (lines.Take kind from to (take count (world.network.transit (direction kind from to))) ∷ [])
    (octets.Move (direction kind from to) count) refl (move_stands scenario standing world.network (direction kind from to) count s)
act_gives scenario standing world (Lose kind a b) s =
    one_gives (Stands scenario (lost (is_that kind a b) standing)) world a [] (octets.Lose (is_of_session kind a b)) refl
    (lose_stands scenario standing world.network (is_of_session kind a b) s)
act_gives scenario standing world (Notice kind a b) s =
    two_give (Stands scenario standing) (Stands scenario (call_stand scenario a (steps.Noticed kind b) standing)) world a
    (octets.Forget (is_from_peer kind a b)) (octets.Call (Own a (steps.Noticed kind b)))
    (forget_stands scenario standing world.network (is_from_peer kind a b) s)
    (λ network p. call_stands scenario standing network a (steps.Noticed kind b) p)
act_gives scenario standing world (RaiseFirst kind a b) s =
    let joined = joins (is_that kind a b) standing in
    two_give (Stands scenario joined) (Stands scenario (call_stand scenario a (steps.Raised kind b) joined)) world a
    (octets.Join (is_of_session kind a b)) (octets.Call (Own a (steps.Raised kind b)))
    (join_stands scenario standing world.network (is_of_session kind a b) s)
    (λ network p. call_stands scenario joined network a (steps.Raised kind b) p)
act_gives scenario standing world (RaiseSecond kind a b) s =
    one_gives (Stands scenario (call_stand scenario b (steps.Raised kind a) standing)) world b [] (octets.Call (Own b (steps.Raised kind a))) refl
    (call_stands scenario standing world.network b (steps.Raised kind a) s)
act_gives scenario standing world (Restart n) s =
    let gone = lost (λ own u v. (u.0 == n.0) || (v.0 == n.0)) standing in
    let acts = octets.Lose (is_at n) ∷ octets.Forget (leads_to n) ∷ octets.Call (Reset n) ∷ [] in
    let after = Stands scenario (reset_stand n gone) in
    network_gives after world [] (octet_run system world.network acts) n refl
    (run_then (Stands scenario gone) after world.network (octets.Lose (is_at n)) (octets.Forget (leads_to n) ∷ octets.Call (Reset n) ∷ [])
    (lose_stands scenario standing world.network (is_at n) s) (λ two p.
    run_then (Stands scenario gone) after two (octets.Forget (leads_to n)) (octets.Call (Reset n) ∷ [])
    (forget_stands scenario gone two (leads_to n) p) (λ three q.
    run_then after after three (octets.Call (Reset n)) [] (reset_stands scenario gone three n q) (λ last r. r))))
act_gives scenario standing world (At n call) s =
    one_gives (Stands scenario (call_stand scenario n call standing)) world n [] (octets.Call (Own n call)) refl
    (call_stands scenario standing world.network n call s)
act_gives scenario standing world (Enter vrf) s =
    entering_gives (Stands scenario standing) world vrf (slice_get (scenario_of world).vrfs vrf.0) (datagram_at world (length world.datagrams)) s
act_gives scenario standing world (Land from to place) s =
    landing_gives (Stands scenario standing) world from to place (slice_get (world.copies from to) (place - 1)) s
act_gives scenario standing world (Drop from to place) s = (refl, s)
act_gives scenario standing world Tell s = (refl, s)
act_gives scenario standing world (SetCost a b cost) s =
    one_gives (Stands scenario standing) world a [] (octets.Call (Price a b cost)) refl (price_stands scenario standing world.network a b cost s)
act_gives scenario standing world (Reroute n) s =
    one_gives (Stands scenario standing) world n [] (octets.Call (Follow n)) refl (follow_stands scenario standing world.network n s)

-- Which events of a run were accepted is told by the lines of its report.
use Rattle.std.specs.Prelude.{⊤, slice_get, if◌then◌else◌}
use Rattle.std.proofs.Common.{◌≡◌, ℕ, ◌+◌, ◌-◌, ◌<◌, ◌≤◌, ◌==◌, Bool, true, false, not, ◌||◌, ◌++◌, map, take, length, List, [], ◌∷◌, Option, None, Some, Ok, Err, Result, refl, sym, ap, subst, ◌∙◌, append_assoc, arith}
use Rattle.std.specs.List.{flat_map, list_any}
use Rattle.std.proofs.lemmas.Bool.{ne_eqb, eq-eqb, or_from}
use Rattle.std.proofs.lemmas.List.Concat.{flat_map-append}
use Rattle.std.proofs.lemmas.List.Folds.{list_any-append}
use Rattle.mv_base.specs.declared.ids.NodeId.{NodeId}
use Rattle.mv_base.specs.declared.ids.VrfId.{VrfId}
use Rattle.scenario_defs.specs.Rules.{Rises}
use Rattle.scenario_defs.specs.declared.event.Event.{Event}
use Rattle.scenario_defs.specs.declared.event.Event.TheVariants as events
use Rattle.scenario_defs.specs.declared.event.Timed.{Timed}
use Rattle.scenario_defs.specs.declared.report.Refusal.{Refusal}
use Rattle.scenario_defs.specs.declared.report.ReportLine.{ReportLine}
use Rattle.scenario_defs.specs.declared.report.ReportLine.TheVariants as lines
use Rattle.scenario_defs.specs.declared.scenario.Vrf.{Vrf}
use Rattle.mvpn_model.specs.Past.{is_accepted}
use Rattle.mvpn_model.specs.Report.{lines_of, refused_line, refused_lines}
use Rattle.network_defs.specs.session_defs.Octets as octets
use Rattle.network_defs.specs.session_defs.System.{Put, Behind, octets_over}
use Rattle.network_defs.specs.declared.session_defs.direction.Direction.{Direction}
use Rattle.edge_defs.specs.Datagrams.{Fate, entering_fate}
use Rattle.edge_defs.specs.Place.{OwnVrf}
use Rattle.edge_defs.specs.Steps as steps
use Rattle.network_defs.specs.Acts.{Act, Tick, Timers, Move, Lose, Notice, RaiseFirst, RaiseSecond, Restart, At, Enter, Land, Drop, Tell, SetCost, Reroute, Acted, act, put_line, put_lines, with_network, at_node, is_of_session, is_at, leads_to, is_from_peer, hop_line, fated, datagram_at, enters_at, entering, fate_at, with_ttl, landed, without_copy, landing, with_aged}
use Rattle.network_defs.specs.Counts.{direction, directions}
use Rattle.network_defs.specs.Events.{Happened, Done, done}
use Rattle.network_defs.specs.Nodes.{NodeState, Edge, CoreNode, Nodes, place_of}
use Rattle.network_defs.specs.Refusals.{refusal}
use Rattle.network_defs.specs.Run.{Traced, outcome, traced, report_of, Runs}
use Rattle.network_defs.specs.System.{NodeCall, Own, Elapse, Reset, Price, Follow, system}
use Rattle.network_defs.specs.World.{World, Datagram, LinkCopy, scenario_of, clock_of}
use Rattle.delivery_laws.specs.Flood.{lines_in}
use Rattle.delivery_laws.proofs.Outcomes.{IsOfLines, Leads, Gives}
use Rattle.delivery_laws.proofs.Events.{Before, event_leads}
use Rattle.network_laws.proofs.ready_laws.RunsTell.{any_middle, first_lines}

-- ---- no line of an act refuses an event

abbrev pub RefusesNone : List ReportLine → Type 0
RefusesNone all = flat_map refused_line all ≡ []

abbrev Any : World → Type 0
Any world = ⊤

refuse_none : IsOfLines RefusesNone
refuse_none = record { none = refl; both = λ first more f m. flat_map-append refused_line first more ∙ (λ i. f i ++ m i) }

none_of_each : {A : Type 0} (line : A → ReportLine) → ((x : A) → refused_line (line x) ≡ []) → (all : List A) → RefusesNone (map line all)
none_of_each line h [] = refl
none_of_each line h (x ∷ more) = (λ i. h x i ++ none_of_each line h more i)

puts_refuse : (puts : List Put) (list : List Direction) → RefusesNone (flat_map (put_line puts) list)
puts_refuse puts [] = refl
puts_refuse puts (over ∷ more) =
    refuse_none.both (put_line puts over) (flat_map (put_line puts) more) (by (octets_over over puts)) (puts_refuse puts more)
  where
    by : (bytes : List ℕ) → RefusesNone (elim bytes [ [] ↦ [] | octet ∷ rest ↦ lines.Put over.kind over.from over.to (octet ∷ rest) ∷ [] ])
    by [] = refl
    by (octet ∷ rest) = refl

network_refuses : (world : World) (before : List ReportLine) → RefusesNone before → (node : NodeId) (o : Option (Behind (octets.OctetNetwork Nodes)))
    → Gives RefusesNone Any (with_network world before o node)
network_refuses world before b node None = tt
network_refuses world before b node (Some new) =
    (refuse_none.both before (put_lines (scenario_of world) new.puts) b (puts_refuse new.puts (directions (scenario_of world))), tt)

node_refuses : (world : World) (node : NodeId) (before : List ReportLine) → RefusesNone before → (acts : List (octets.OctetAct NodeCall))
    → Gives RefusesNone Any (at_node world node before acts)
node_refuses world node before b acts = network_refuses world before b node (octets.octet_run system world.network acts)

aged_refuses : (o : Result Acted NodeId) → Gives RefusesNone Any o → Gives RefusesNone Any (with_aged o)
aged_refuses (Err node) h = tt
aged_refuses (Ok new) h = (h.0, tt)

fated_refuses : (world : World) (node : NodeId) (ttl own : ℕ) (bytes : List ℕ) (before : List ReportLine) (fate : Fate) → RefusesNone before
    → RefusesNone (fated world node ttl own bytes before fate).lines
fated_refuses world node ttl own bytes before fate b =
    let outs = map (λ i. lines.Out own i bytes) fate.outs in
    let hops = map (hop_line node ttl own) fate.branches in
    refuse_none.both before (outs ++ hops) b (refuse_none.both outs hops (none_of_each (λ i. lines.Out own i bytes) (λ i. refl) fate.outs)
    (none_of_each (hop_line node ttl own) (λ branch. refl) fate.branches))

enters_refuses : (world : World) (own : OwnVrf) (node : NodeState) (datagram : Datagram) → RefusesNone (enters_at world own node datagram).lines
enters_refuses world own (Edge edge) datagram =
    fated_refuses world own.vrf.edge 255 (length world.datagrams) datagram.octets []
    (entering_fate (place_of world.network.state own.vrf.edge) (clock_of world) edge own datagram.site datagram.source datagram.group) refl
enters_refuses world own (CoreNode part) datagram = refl

entering_refuses : (world : World) (id : VrfId) (v : Option Vrf) (o : Option Datagram) → RefusesNone (entering world id v o).lines
entering_refuses world id None o = refl
entering_refuses world id (Some vrf) None = refl
entering_refuses world id (Some vrf) (Some datagram) =
    enters_refuses world (record { id = id; vrf = vrf }) (world.network.state.node vrf.edge) datagram

landed_refuses : (world : World) (from to : NodeId) (copy : LinkCopy) (o : Option Datagram) → RefusesNone (landed world from to copy o).lines
landed_refuses world from to copy None = refl
landed_refuses world from to copy (Some datagram) =
    fated_refuses world to (copy.ttl - 1) copy.number datagram.octets (lines.Land from to copy.label copy.number ∷ [])
    (with_ttl copy.ttl (fate_at world to (world.network.state.node to) from copy.label datagram)) refl

landing_refuses : (world : World) (from to : NodeId) (place : ℕ) (o : Option LinkCopy) → RefusesNone (landing world from to place o).lines
landing_refuses world from to place None = refl
landing_refuses world from to place (Some copy) = landed_refuses (without_copy world from to place) from to copy (datagram_at world copy.number)

act_refuses : (one : Act) (world : World) → Gives RefusesNone Any (act world one)
act_refuses (Tick ticks) world =
    aged_refuses (at_node world (record { 0 = 0 }) [] (octets.Call (Elapse ticks) ∷ []))
    (node_refuses world (record { 0 = 0 }) [] refl (octets.Call (Elapse ticks) ∷ []))
act_refuses (Timers n) world = node_refuses world n [] refl (octets.Call (Own n steps.Timers) ∷ [])
act_refuses (Move kind from to count) world =
    node_refuses world to (lines.Take kind from to (take count (world.network.transit (direction kind from to))) ∷ []) refl
    (octets.Move (direction kind from to) count ∷ [])
act_refuses (Lose kind a b) world = node_refuses world a [] refl (octets.Lose (is_of_session kind a b) ∷ [])
act_refuses (Notice kind a b) world =
    node_refuses world a [] refl (octets.Forget (is_from_peer kind a b) ∷ octets.Call (Own a (steps.Noticed kind b)) ∷ [])
act_refuses (RaiseFirst kind a b) world =
    node_refuses world a [] refl (octets.Join (is_of_session kind a b) ∷ octets.Call (Own a (steps.Raised kind b)) ∷ [])
act_refuses (RaiseSecond kind a b) world = node_refuses world b [] refl (octets.Call (Own b (steps.Raised kind a)) ∷ [])
act_refuses (Restart n) world = node_refuses world n [] refl (octets.Lose (is_at n) ∷ octets.Forget (leads_to n) ∷ octets.Call (Reset n) ∷ [])
act_refuses (At n call) world = node_refuses world n [] refl (octets.Call (Own n call) ∷ [])
act_refuses (Enter vrf) world =
    (entering_refuses world vrf (slice_get (scenario_of world).vrfs vrf.0) (datagram_at world (length world.datagrams)), tt)
act_refuses (Land from to place) world = (landing_refuses world from to place (slice_get (world.copies from to) (place - 1)), tt)
act_refuses (Drop from to place) world = (refl, tt)
act_refuses Tell world = (refl, tt)
act_refuses (SetCost a b cost) world = node_refuses world a [] refl (octets.Call (Price a b cost) ∷ [])
act_refuses (Reroute n) world = node_refuses world n [] refl (octets.Call (Follow n) ∷ [])

-- ---- one event

-- whether an event is accepted, by why it is refused
abbrev pub accepts : Option Refusal → Bool
accepts None = true
accepts (Some reason) = false

-- the line of an event, if it is refused
abbrev line_unless : Bool → ℕ → List ℕ
line_unless accepted line = if accepted then [] else line ∷ []

done_refuses : (old : World) (event : Event) (acts : List Happened) (next : World) → done old event ≡ Done acts next → RefusesNone (lines_in acts)
done_refuses old event acts next e =
    (subst (Leads RefusesNone Any) e (event_leads RefusesNone refuse_none Any Any (λ one k world s. act_refuses one world)
    (λ one k world s. act_refuses one world) (λ world s. s) old event (before event))).0
  where
    before : (one : Event) → Before RefusesNone refuse_none Any Any (λ a k world s. act_refuses a world) (λ a k world s. act_refuses a world)
        (λ world s. s) old one
    before (events.Send site source group payload) = tt
    before (events.Packet site bytes) = tt
    before other = tt

own_line : (old : World) (timed : Timed) (acts : List Happened) (next : World) → outcome old timed ≡ Done acts next
    → flat_map refused_line (lines_in acts) ≡ line_unless (accepts (refusal old timed.event)) timed.line
own_line old timed acts next e = by (refusal old timed.event) e
  where
    by : (o : Option Refusal) → (elim o [
      | None ↦ done old timed.event
      | Some reason ↦
          Done (record { act = None; lines = lines.Refused timed.line reason ∷ [] } ∷ []) old
    ]) ≡ Done acts next
        → flat_map refused_line (lines_in acts) ≡ line_unless (accepts o) timed.line
    by None is = done_refuses old timed.event acts next is
    by (Some reason) is =
        let first : List Happened = record { act = None; lines = lines.Refused timed.line reason ∷ [] } ∷ [] in
        let same : first ≡ acts = cc in
        ap (λ (all : List Happened). flat_map refused_line (lines_in all)) (sym same)

-- ---- the lines of a run

refused_first : (number : ℕ) (acts : List Happened) (rest : List Traced) (own : List ℕ) → flat_map refused_line (lines_in acts) ≡ own
    → refused_lines (report_of (traced number acts ++ rest)) ≡ own ++ refused_lines (report_of rest)
refused_first number acts rest own e =
    ap (flat_map refused_line) (first_lines number acts rest) ∙ flat_map-append refused_line (lines_in acts) (lines_of (report_of rest))
    ∙ ap (λ l. l ++ refused_lines (report_of rest)) e

-- whether the line is one of those
abbrev is_among : List ℕ → ℕ → Bool
is_among refused line = list_any (λ l. l == line) refused

own_other : (b : Bool) (own line : ℕ) → (own ≡ line → ⊥) → is_among (line_unless b own) line ≡ false
own_other false own line h = or_from (own == line) false (ne_eqb own line h) refl
own_other true own line h = refl

own_itself : (b : Bool) (own : ℕ) → is_among (line_unless b own) own ≡ not b
own_itself false own = rw (eq-eqb own own refl) refl
own_itself true own = refl

-- No line up to that number is refused by later events.
refused_above : (events : List Timed) (old : World) (number : ℕ) (trace : List Traced) (new : World) (above line : ℕ) → Rises above events
    → line ≤ above → Runs old number events trace new → is_among (refused_lines (report_of trace)) line ≡ false
refused_above [] old number trace new above line h le run = ap (λ (t : List Traced). is_among (refused_lines (report_of t)) line) run.0
refused_above (timed ∷ more) old number trace new above line h le run =
    let own = line_unless (accepts (refusal old timed.event)) timed.line in
    ap (λ (all : List Traced). is_among (refused_lines (report_of all)) line) run.4
    ∙ ap (λ l. is_among l line) (refused_first number run.0 run.2 own (own_line old timed run.0 run.1 run.3))
    ∙ list_any-append (λ l. l == line) own (refused_lines (report_of run.2))
    ∙ or_from (is_among own line) (is_among (refused_lines (report_of run.2)) line)
    (own_other (accepts (refusal old timed.event)) timed.line line (λ e. (let lt = h.0 in omega (arith, e, le, lt))))
    (refused_above more run.1 (number + 1) run.2 new timed.line line h.1 (let lt = h.0 in omega (arith, le, lt)) run.5)

-- ---- accepted along a run

-- The lines say of each event of a row whether it is accepted.
abbrev pub TellsAccepted : List ℕ → World → List Timed → Type 0
TellsAccepted refused world [] = ⊤
TellsAccepted refused world (timed ∷ more) =
    (is_accepted refused timed ≡ accepts (refusal world timed.event))
    × ((acts : List Happened) (next : World) → outcome world timed ≡ Done acts next → TellsAccepted refused next more)

twice : (b : Bool) → not (not b) ≡ b
twice true = refl
twice false = refl

one_next : (old : World) (timed : Timed) (acts again : List Happened) (next same : World) → outcome old timed ≡ Done acts next
    → outcome old timed ≡ Done again same → next ≡ same
one_next old timed acts again next same a b = cc

-- Where earlier events refused the front of the lines, the lines tell it of the later ones.
pub tells_accepted : (events : List Timed) (old : World) (number : ℕ) (trace : List Traced) (new : World) (above : ℕ) (front refused : List ℕ)
    → Rises above events
    → ((line : ℕ) → above < line → is_among front line ≡ false) → refused ≡ front ++ refused_lines (report_of trace)
    → Runs old number events trace new → TellsAccepted refused old events
tells_accepted [] old number trace new above front refused h k e run = tt
tells_accepted (timed ∷ more) old number trace new above front refused h k e run =
    let accepted = accepts (refusal old timed.event) in
    let own = line_unless accepted timed.line in
    let rest = refused_lines (report_of run.2) in
    let all : refused ≡ front ++ (own ++ rest) =
    e ∙ ap (λ (steps : List Traced). front ++ refused_lines (report_of steps)) run.4
    ∙ ap (λ l. front ++ l) (refused_first number run.0 run.2 own (own_line old timed run.0 run.1 run.3)) in
    let here : is_among refused timed.line ≡ not accepted =
    ap (λ l. is_among l timed.line) all
    ∙ list_any-append (λ l. l == timed.line) front (own ++ rest)
    ∙ ap (λ b. is_among front timed.line || b) (list_any-append (λ l. l == timed.line) own rest)
    ∙ any_middle (is_among front timed.line) (is_among own timed.line) (is_among rest timed.line) (not accepted) (k timed.line h.0)
    (own_itself accepted timed.line)
    (refused_above more run.1 (number + 1) run.2 new timed.line timed.line h.1 (omega arith) run.5) in
    let before : (line : ℕ) → timed.line < line → is_among (front ++ own) line ≡ false = λ line lt.
    list_any-append (λ l. l == line) front own
    ∙ or_from (is_among front line) (is_among own line) (k line (let low = h.0 in omega (arith, lt, low)))
    (own_other accepted timed.line line (λ q. omega (arith, q, lt))) in
    let later =
    tells_accepted more run.1 (number + 1) run.2 new timed.line (front ++ own) refused h.1 before (all ∙ sym (append_assoc front own rest)) run.5
    in (
      ap not here ∙ twice accepted,
      λ acts next is. subst (λ (w : World). TellsAccepted refused w more)
          (one_next old timed run.0 acts run.1 next run.3 is) later,
    )

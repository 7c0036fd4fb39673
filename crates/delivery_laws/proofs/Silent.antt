-- A datagram of which no copy is on a link, and that is not sent, is written nowhere; and what was sent stays.
use Rattle.std.specs.Prelude.{⊤, slice_get, ◌==◌}
use Rattle.std.proofs.Common.{◌≡◌, ◌≢◌, ℕ, ◌+◌, ◌-◌, nat_le, ◌++◌, map, take, length, List, [], ◌∷◌, Option, None, Some, Ok, Err, Result, refl, sym, ap, ◌∙◌, arith}
use Rattle.std.specs.List.{flat_map, remove, AllByRecursion}
use Rattle.std.proofs.lemmas.Bool.{ne_eqb, cond-false}
use Rattle.mv_base.specs.declared.ids.IfaceId.{IfaceId}
use Rattle.mv_base.specs.declared.ids.NodeId.{NodeId}
use Rattle.mv_base.specs.declared.ids.VrfId.{VrfId}
use Rattle.label_defs.specs.declared.branch.Branch.{Branch}
use Rattle.scenario_defs.specs.declared.report.ReportLine.{ReportLine}
use Rattle.scenario_defs.specs.declared.report.ReportLine.TheVariants as lines
use Rattle.scenario_defs.specs.declared.scenario.Vrf.{Vrf}
use Rattle.mvpn_model.specs.Report.{is_out_at}
use Rattle.network_defs.specs.session_defs.Octets as octets
use Rattle.network_defs.specs.session_defs.System.{Put, Behind, octets_over}
use Rattle.network_defs.specs.declared.session_defs.direction.Direction.{Direction}
use Rattle.edge_defs.specs.Datagrams.{Fate, entering_fate}
use Rattle.edge_defs.specs.Place.{OwnVrf}
use Rattle.edge_defs.specs.Steps as steps
use Rattle.network_defs.specs.Acts.{Act, Tick, Timers, Move, Lose, Notice, RaiseFirst, RaiseSecond, Restart, At, Enter, Land, Drop, Tell, SetCost, Reroute, Acted, act, put_line, put_lines, with_network, at_node, is_of_session, is_at, leads_to, is_from_peer, copy_on, hop_line, fated, datagram_at, enters_at, entering, fate_at, with_ttl, landed, without_copy, landing, with_aged}
use Rattle.network_defs.specs.Counts.{direction, directions}
use Rattle.network_defs.specs.Nodes.{NodeState, Edge, CoreNode, Nodes, place_of}
use Rattle.network_defs.specs.System.{NodeCall, Own, Elapse, Reset, Price, Follow, system}
use Rattle.network_defs.specs.World.{World, Datagram, LinkCopy, scenario_of, clock_of}
use Rattle.network_defs.proofs.Kept.{branches_datagrams}
use Rattle.delivery_laws.specs.Flood.{outs_in, times_at}
use Rattle.delivery_laws.proofs.Totals.{count-append}
use Rattle.delivery_laws.proofs.Copies.{all_at, all_but_one, all_filter, EachCopy, each_replaced, branches_each, outs_written, hops_write_nothing}
use Rattle.delivery_laws.proofs.Outcomes.{IsOfLines, Gives}
use Rattle.delivery_laws.proofs.Events.{IsNoEntry, IsEntry}

-- ---- datagrams stay

abbrev pub Sent : List Datagram → World → Type 0
Sent all world = world.datagrams ≡ all

pub any_lines : IsOfLines (λ all. ⊤)
any_lines = record { none = tt; both = λ first more a b. tt }

fated_sent : (all : List Datagram) (world : World) (node : NodeId) (ttl number : ℕ) (bytes : List ℕ) (before : List ReportLine) (fate : Fate)
    → Sent all world → Sent all (fated world node ttl number bytes before fate).world
fated_sent all world node ttl number bytes before fate h = branches_datagrams node ttl number fate.branches world ∙ h

control_sent : (all : List Datagram) (world : World) (before : List ReportLine) (node : NodeId) (o : Option (Behind (octets.OctetNetwork Nodes)))
    → Sent all world → Gives (λ l. ⊤) (Sent all) (with_network world before o node)
control_sent all world before node None h = tt
control_sent all world before node (Some new) h = (tt, h)

node_sent : (all : List Datagram) (world : World) (node : NodeId) (before : List ReportLine) (acts : List (octets.OctetAct NodeCall)) → Sent all world
    → Gives (λ l. ⊤) (Sent all) (at_node world node before acts)
node_sent all world node before acts h = control_sent all world before node (octets.octet_run system world.network acts) h

aged_sent : (all : List Datagram) (o : Result Acted NodeId) → Gives (λ l. ⊤) (Sent all) o → Gives (λ l. ⊤) (Sent all) (with_aged o)
aged_sent all (Err node) h = tt
aged_sent all (Ok new) h = h

enters_sent : (all : List Datagram) (world : World) (own : OwnVrf) (node : NodeState) (datagram : Datagram) → Sent all world
    → Sent all (enters_at world own node datagram).world
enters_sent all world own (Edge edge) datagram h =
    fated_sent all world own.vrf.edge 255 (length world.datagrams) datagram.octets []
    (entering_fate (place_of world.network.state own.vrf.edge) (clock_of world) edge own datagram.site datagram.source datagram.group) h
enters_sent all world own (CoreNode part) datagram h = h

entering_sent : (all : List Datagram) (world : World) (id : VrfId) (v : Option Vrf) (o : Option Datagram) → Sent all world
    → Sent all (entering world id v o).world
entering_sent all world id None o h = h
entering_sent all world id (Some vrf) None h = h
entering_sent all world id (Some vrf) (Some datagram) h =
    enters_sent all world (record { id = id; vrf = vrf }) (world.network.state.node vrf.edge) datagram h

landed_sent : (all : List Datagram) (world : World) (from to : NodeId) (copy : LinkCopy) (o : Option Datagram) → Sent all world
    → Sent all (landed world from to copy o).world
landed_sent all world from to copy None h = h
landed_sent all world from to copy (Some datagram) h =
    fated_sent all world to (copy.ttl - 1) copy.number datagram.octets (lines.Land from to copy.label copy.number ∷ [])
    (with_ttl copy.ttl (fate_at world to (world.network.state.node to) from copy.label datagram)) h

landing_sent : (all : List Datagram) (world : World) (from to : NodeId) (place : ℕ) (o : Option LinkCopy) → Sent all world
    → Sent all (landing world from to place o).world
landing_sent all world from to place None h = h
landing_sent all world from to place (Some copy) h = landed_sent all (without_copy world from to place) from to copy (datagram_at world copy.number) h

pub act_sent : (all : List Datagram) (one : Act) (world : World) → Sent all world → Gives (λ l. ⊤) (Sent all) (act world one)
act_sent all (Tick ticks) world h =
    aged_sent all (at_node world (record { 0 = 0 }) [] (octets.Call (Elapse ticks) ∷ []))
    (node_sent all world (record { 0 = 0 }) [] (octets.Call (Elapse ticks) ∷ []) h)
act_sent all (Timers n) world h = node_sent all world n [] (octets.Call (Own n steps.Timers) ∷ []) h
act_sent all (Move kind from to count) world h =
    node_sent all world to (lines.Take kind from to (take count (world.network.transit (direction kind from to))) ∷ [])
    (octets.Move (direction kind from to) count ∷ []) h
act_sent all (Lose kind a b) world h = node_sent all world a [] (octets.Lose (is_of_session kind a b) ∷ []) h
act_sent all (Notice kind a b) world h =
    node_sent all world a [] (octets.Forget (is_from_peer kind a b) ∷ octets.Call (Own a (steps.Noticed kind b)) ∷ []) h
act_sent all (RaiseFirst kind a b) world h =
    node_sent all world a [] (octets.Join (is_of_session kind a b) ∷ octets.Call (Own a (steps.Raised kind b)) ∷ []) h
act_sent all (RaiseSecond kind a b) world h = node_sent all world b [] (octets.Call (Own b (steps.Raised kind a)) ∷ []) h
act_sent all (Restart n) world h = node_sent all world n [] (octets.Lose (is_at n) ∷ octets.Forget (leads_to n) ∷ octets.Call (Reset n) ∷ []) h
act_sent all (At n call) world h = node_sent all world n [] (octets.Call (Own n call) ∷ []) h
act_sent all (Enter vrf) world h =
    (tt, entering_sent all world vrf (slice_get (scenario_of world).vrfs vrf.0) (datagram_at world (length world.datagrams)) h)
act_sent all (Land from to place) world h = (tt, landing_sent all world from to place (slice_get (world.copies from to) (place - 1)) h)
act_sent all (Drop from to place) world h = (tt, h)
act_sent all Tell world h = (tt, h)
act_sent all (SetCost a b cost) world h = node_sent all world a [] (octets.Call (Price a b cost) ∷ []) h
act_sent all (Reroute n) world h = node_sent all world n [] (octets.Call (Follow n) ∷ []) h

-- ---- a datagram that is not on its way

module _ (number : ℕ) (iface : IfaceId) where
  -- no line says that the datagram left at the interface
  abbrev pub WritesNothing : List ReportLine → Type 0
  WritesNothing all = outs_in number iface all ≡ 0

  pub write_nothing : IsOfLines WritesNothing
  write_nothing = record { none = refl; both = λ first more a b. omega (arith, count-append (is_out_at number iface) first more, a, b) }

  -- No copy is one of the datagram of that number.
  pub record Silent (world : World) : Type 0 where
    pub no_copy : EachCopy (λ u n copy. copy.number ≢ number) world.copies

  -- And it is not the last one.
  pub record Entering (world : World) : Type 0 where
    pub not_last : length world.datagrams ≢ number
    pub silent : Silent world

  -- ---- what control acts say

  put_nothing : (puts : List Put) (list : List Direction) → WritesNothing (flat_map (put_line puts) list)
  put_nothing puts [] = refl
  put_nothing puts (over ∷ more) =
      write_nothing.both (put_line puts over) (flat_map (put_line puts) more) (by (octets_over over puts)) (put_nothing puts more)
    where
      by : (bytes : List ℕ) → WritesNothing (elim bytes [ [] ↦ [] | octet ∷ rest ↦ lines.Put over.kind over.from over.to (octet ∷ rest) ∷ [] ])
      by [] = refl
      by (octet ∷ rest) = refl

  control_silent : (world : World) (before : List ReportLine) → WritesNothing before
      → (node : NodeId) (o : Option (Behind (octets.OctetNetwork Nodes))) → Silent world
      → Gives WritesNothing Silent (with_network world before o node)
  control_silent world before b node None s = tt
  control_silent world before b node (Some new) s = (
    write_nothing.both before (put_lines (scenario_of world) new.puts) b (put_nothing new.puts (directions (scenario_of world))),
    record { no_copy = s.no_copy },
  )

  node_silent : (world : World) (node : NodeId) (before : List ReportLine) → WritesNothing before → (acts : List (octets.OctetAct NodeCall))
      → Silent world → Gives WritesNothing Silent (at_node world node before acts)
  node_silent world node before b acts s = control_silent world before b node (octets.octet_run system world.network acts) s

  aged_silent : (o : Result Acted NodeId) → Gives WritesNothing Silent o → Gives WritesNothing Silent (with_aged o)
  aged_silent (Err node) h = tt
  aged_silent (Ok new) h = (
    h.0,
    record {
      no_copy =
          λ u n. all_filter (λ (copy : LinkCopy). copy.number ≢ number) (λ copy. nat_le (clock_of new.world) (copy.put_at + (scenario_of new.world).life))
          (new.world.copies u n) (h.1.no_copy u n);
    },
  )

  -- ---- what copies say

  fated_silent : (world : World) (node : NodeId) (ttl own : ℕ) (bytes : List ℕ) (before : List ReportLine) (fate : Fate) → own ≢ number
      → WritesNothing before → Silent world
      → WritesNothing (fated world node ttl own bytes before fate).lines × Silent (fated world node ttl own bytes before fate).world
  fated_silent world node ttl own bytes before fate other b s =
      let outs = map (λ i. lines.Out own i bytes) fate.outs in
      let hops = map (hop_line node ttl own) fate.branches in
      let written : WritesNothing outs =
      outs_written number own iface bytes fate.outs ∙ cond-false (own == number) (times_at iface fate.outs) 0 (ne_eqb own number other) in (
        write_nothing.both before (outs ++ hops) b (write_nothing.both outs hops written
            (hops_write_nothing number iface node ttl own fate.branches)),
        record {
          no_copy = branches_each (λ u n copy. copy.number ≢ number) node ttl own fate.branches world (each fate.branches) s.no_copy;
        },
      )
    where
      each : (list : List Branch) → AllByRecursion (λ branch. (copy_on world ttl own branch).number ≢ number) list
      each [] = tt
      each (branch ∷ more) = (other, each more)

  enters_silent : (world : World) (own : OwnVrf) (node : NodeState) (datagram : Datagram) → Entering world
      → WritesNothing (enters_at world own node datagram).lines × Entering (enters_at world own node datagram).world
  enters_silent world own (Edge edge) datagram s =
      let fate = entering_fate (place_of world.network.state own.vrf.edge) (clock_of world) edge own datagram.site datagram.source datagram.group in
      let count = length world.datagrams in
      let f = fated_silent world own.vrf.edge 255 count datagram.octets [] fate s.not_last refl s.silent in (
        f.0,
        record {
          not_last =
              λ e. s.not_last (ap (λ (d : List Datagram). length d) (sym (branches_datagrams own.vrf.edge 255 count fate.branches world)) ∙ e);
          silent =
              f.1;
        },
      )
  enters_silent world own (CoreNode part) datagram s = (refl, s)

  entering_silent : (world : World) (id : VrfId) (v : Option Vrf) (o : Option Datagram) → Entering world
      → WritesNothing (entering world id v o).lines × Entering (entering world id v o).world
  entering_silent world id None o s = (refl, s)
  entering_silent world id (Some vrf) None s = (refl, s)
  entering_silent world id (Some vrf) (Some datagram) s =
      enters_silent world (record { id = id; vrf = vrf }) (world.network.state.node vrf.edge) datagram s

  taken_silent : (world : World) (from to : NodeId) (place : ℕ) → Silent world → Silent (without_copy world from to place)
  taken_silent world from to place s = record {
    no_copy =
        each_replaced (λ u n copy. copy.number ≢ number) from to (remove (world.copies from to) (place - 1)) world.copies
        (all_but_one (λ (copy : LinkCopy). copy.number ≢ number) (world.copies from to) (place - 1) (s.no_copy from to)) s.no_copy;
  }

  landed_silent : (world : World) (from to : NodeId) (copy : LinkCopy) → copy.number ≢ number → (o : Option Datagram) → Silent world
      → WritesNothing (landed world from to copy o).lines × Silent (landed world from to copy o).world
  landed_silent world from to copy other None s = (refl, s)
  landed_silent world from to copy other (Some datagram) s =
      fated_silent world to (copy.ttl - 1) copy.number datagram.octets (lines.Land from to copy.label copy.number ∷ [])
      (with_ttl copy.ttl (fate_at world to (world.network.state.node to) from copy.label datagram)) other refl s

  landing_silent : (world : World) (from to : NodeId) (place : ℕ) (o : Option LinkCopy) → slice_get (world.copies from to) (place - 1) ≡ o
      → Silent world → WritesNothing (landing world from to place o).lines × Silent (landing world from to place o).world
  landing_silent world from to place None e s = (refl, s)
  landing_silent world from to place (Some copy) e s =
      landed_silent (without_copy world from to place) from to copy
      (all_at (λ (c : LinkCopy). c.number ≢ number) (world.copies from to) (place - 1) copy (s.no_copy from to) e) (datagram_at world copy.number)
      (taken_silent world from to place s)

  -- ---- acts

  pub act_silent : (one : Act) → IsNoEntry one → (world : World) → Silent world → Gives WritesNothing Silent (act world one)
  act_silent (Tick ticks) k world s =
      aged_silent (at_node world (record { 0 = 0 }) [] (octets.Call (Elapse ticks) ∷ []))
      (node_silent world (record { 0 = 0 }) [] refl (octets.Call (Elapse ticks) ∷ []) s)
  act_silent (Timers n) k world s = node_silent world n [] refl (octets.Call (Own n steps.Timers) ∷ []) s
  act_silent (Move kind from to count) k world s =
      node_silent world to (lines.Take kind from to (take count (world.network.transit (direction kind from to))) ∷ []) refl
      (octets.Move (direction kind from to) count ∷ []) s
  act_silent (Lose kind a b) k world s = node_silent world a [] refl (octets.Lose (is_of_session kind a b) ∷ []) s
  act_silent (Notice kind a b) k world s =
      node_silent world a [] refl (octets.Forget (is_from_peer kind a b) ∷ octets.Call (Own a (steps.Noticed kind b)) ∷ []) s
  act_silent (RaiseFirst kind a b) k world s =
      node_silent world a [] refl (octets.Join (is_of_session kind a b) ∷ octets.Call (Own a (steps.Raised kind b)) ∷ []) s
  act_silent (RaiseSecond kind a b) k world s = node_silent world b [] refl (octets.Call (Own b (steps.Raised kind a)) ∷ []) s
  act_silent (Restart n) k world s = node_silent world n [] refl (octets.Lose (is_at n) ∷ octets.Forget (leads_to n) ∷ octets.Call (Reset n) ∷ []) s
  act_silent (At n call) k world s = node_silent world n [] refl (octets.Call (Own n call) ∷ []) s
  act_silent (Enter vrf) k world s = absurd k
  act_silent (Land from to place) k world s = landing_silent world from to place (slice_get (world.copies from to) (place - 1)) refl s
  act_silent (Drop from to place) k world s = (refl, taken_silent world from to place s)
  act_silent Tell k world s = (refl, s)
  act_silent (SetCost a b cost) k world s = node_silent world a [] refl (octets.Call (Price a b cost) ∷ []) s
  act_silent (Reroute n) k world s = node_silent world n [] refl (octets.Call (Follow n) ∷ []) s

  pub entry_silent : (one : Act) → IsEntry one → (world : World) → Entering world → Gives WritesNothing Entering (act world one)
  entry_silent (Enter vrf) k world s =
      entering_silent world vrf (slice_get (scenario_of world).vrfs vrf.0) (datagram_at world (length world.datagrams)) s
  entry_silent other k world s = absurd k

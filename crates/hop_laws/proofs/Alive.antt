-- Each copy on a link names a datagram that was accepted and has a TTL of 1 to 255, and so does each `hop` line: act by act.
use Rattle.std.specs.Prelude.{⊤}
use Rattle.std.proofs.Common.{◌≡◌, ℕ, ◌+◌, ◌-◌, ◌<◌, ◌≤◌, nat_le, ◌++◌, map, take, length, List, [], ◌∷◌, Option, None, Some, Ok, Err, Result, refl, sym, subst, arith}
use Rattle.std.specs.List.{remove, AllByRecursion}
use Rattle.std.proofs.lemmas.Bool.{cond_both, leb-false}
use Rattle.std.specs.Prelude.{slice_get}
use Rattle.mv_base.specs.declared.ids.NodeId.{NodeId}
use Rattle.mv_base.specs.declared.ids.VrfId.{VrfId}
use Rattle.label_defs.specs.declared.branch.Branch.{Branch}
use Rattle.scenario_defs.specs.declared.report.ReportLine.{ReportLine}
use Rattle.scenario_defs.specs.declared.report.ReportLine.TheVariants as lines
use Rattle.scenario_defs.specs.declared.scenario.Vrf.{Vrf}
use Rattle.network_defs.specs.session_defs.Octets as octets
use Rattle.network_defs.specs.session_defs.Octets.{OctetNetwork}
use Rattle.network_defs.specs.session_defs.System.{Behind}
use Rattle.edge_defs.specs.Datagrams.{Fate, entering_fate}
use Rattle.edge_defs.specs.Place.{OwnVrf}
use Rattle.edge_defs.specs.Steps as steps
use Rattle.network_defs.specs.Acts.{Act, Tick, Timers, Move, Lose, Notice, RaiseFirst, RaiseSecond, Restart, At, Enter, Land, Drop, Tell, SetCost, Reroute, Acted, act, with_network, at_node, is_of_session, is_at, leads_to, is_from_peer, hop_line, fated, datagram_at, enters_at, entering, fate_at, with_ttl, landed, without_copy, landing, with_aged}
use Rattle.network_defs.specs.Counts.{direction}
use Rattle.network_defs.specs.Nodes.{NodeState, Edge, CoreNode, Nodes, place_of}
use Rattle.network_defs.specs.System.{NodeCall, Own, Elapse, Reset, Price, Follow, system}
use Rattle.network_defs.specs.World.{World, Datagram, LinkCopy, scenario_of, clock_of}
use Rattle.network_defs.proofs.Kept.{branches_datagrams}
use Rattle.delivery_laws.proofs.Copies.{all_at, all_but_one, all_filter, EachCopy, each_replaced, branches_each}
use Rattle.delivery_laws.proofs.Events.{IsNoEntry, IsEntry}
use Rattle.delivery_laws.proofs.Outcomes.{IsOfLines, Gives}
use Rattle.delivery_laws.proofs.network_laws.Lists.{each_append, each_map, each_of, each_weaker}
use Rattle.run_laws.proofs.rule_laws.Outs.{Says}
use Rattle.run_laws.proofs.rule_laws.Plain.{IsPlain, IsPlainLine, act_plain, of_plain}

-- One of so many datagrams is named, and the TTL is 1 to 255.
pub record IsAlive (count ttl number : ℕ) : Type 0 where
  pub counted : 0 < number
  pub known : number ≤ count
  pub alive : 0 < ttl
  pub bounded : ttl ≤ 255

abbrev pub IsPut : ℕ → ReportLine → Type 0
IsPut count (lines.Hop from to label ttl number) = IsAlive count ttl number
IsPut count other = ⊤

abbrev pub ArePut : ℕ → List ReportLine → Type 0
ArePut count all = AllByRecursion (IsPut count) all

abbrev pub IsCopy : ℕ → NodeId → NodeId → LinkCopy → Type 0
IsCopy count from to copy = IsAlive count copy.ttl copy.number

-- So many datagrams were accepted, and each copy is one of theirs.
pub record Alive (count : ℕ) (world : World) : Type 0 where
  pub datagrams : length world.datagrams ≡ count
  pub copies : EachCopy (IsCopy count) world.copies

-- the same while a datagram enters
pub record Entering (count : ℕ) (world : World) : Type 0 where
  pub alive : Alive count world
  pub some : 0 < count

pub puts_are : (count : ℕ) → IsOfLines (ArePut count)
puts_are count = record { none = tt; both = λ first more a b. each_append (IsPut count) first more a b }

module _ (count : ℕ) where
  abbrev Any : List ReportLine → Type 0
  Any all = ⊤

  -- ---- copies on branches

  module _ (world : World) (node : NodeId) (ttl number : ℕ) (bytes : List ℕ) (before : List ReportLine) (fate : Fate)
      (first : ArePut count before) (a : Alive count world) (each : AllByRecursion (λ (branch : Branch). IsAlive count ttl number) fate.branches)
    where
      fated_lines : ArePut count (fated world node ttl number bytes before fate).lines
      fated_lines =
          let outs = map (λ iface. lines.Out number iface bytes) fate.outs in
          let hops = map (hop_line node ttl number) fate.branches in
          each_append (IsPut count) before (outs ++ hops) first
          (each_append (IsPut count) outs hops
          (each_map (IsPut count) (λ iface. lines.Out number iface bytes) fate.outs
          (each_of (λ iface. IsPut count (lines.Out number iface bytes)) (λ iface. tt) fate.outs))
          (each_map (IsPut count) (hop_line node ttl number) fate.branches each))

      fated_world : Alive count (fated world node ttl number bytes before fate).world
      fated_world = record {
        datagrams = subst (λ (all : List Datagram). length all ≡ count) (sym (branches_datagrams node ttl number fate.branches world)) a.datagrams;
        copies = branches_each (IsCopy count) node ttl number fate.branches world each a.copies;
      }

      fated_gives : ArePut count (fated world node ttl number bytes before fate).lines
          × Alive count (fated world node ttl number bytes before fate).world
      fated_gives = (fated_lines, fated_world)

  -- what an act leaves that is no failure
  abbrev Leaves : Acted → Type 0
  Leaves new = ArePut count new.lines × Alive count new.world

  -- ---- a datagram enters

  entered : (world : World) (own : OwnVrf) (node : NodeState) (datagram : Datagram) → Entering count world
      → Leaves (enters_at world own node datagram)
  entered world own (Edge edge) datagram e =
      let fate = entering_fate (place_of world.network.state own.vrf.edge) (clock_of world) edge own datagram.site datagram.source datagram.group in
      let held = e.alive.datagrams in
      let some = e.some in
      let own_copy : IsAlive count 255 (length world.datagrams) =
      record { counted = omega (arith, held, some); known = omega (arith, held); alive = omega arith; bounded = omega arith } in
      fated_gives world own.vrf.edge 255 (length world.datagrams) datagram.octets [] fate tt e.alive
      (each_of (λ (branch : Branch). IsAlive count 255 (length world.datagrams)) (λ branch. own_copy) fate.branches)
  entered world own (CoreNode part) datagram e = (tt, e.alive)

  entering_leaves : (world : World) (id : VrfId) (v : Option Vrf) (o : Option Datagram) → Entering count world → Leaves (entering world id v o)
  entering_leaves world id None o e = (tt, e.alive)
  entering_leaves world id (Some vrf) None e = (tt, e.alive)
  entering_leaves world id (Some vrf) (Some datagram) e = entered world (record { id = id; vrf = vrf }) (world.network.state.node vrf.edge) datagram e

  -- ---- a copy lands

  -- a copy whose TTL is 1 goes on nowhere
  one_less : (ttl number : ℕ) (fate : Fate) → IsAlive count ttl number
      → AllByRecursion (λ (branch : Branch). IsAlive count (ttl - 1) number) (with_ttl ttl fate).branches
  one_less ttl number fate a =
      cond_both (nat_le ttl 1) (record fate { branches = [] }) fate
      (λ (x : Fate). AllByRecursion (λ (branch : Branch). IsAlive count (ttl - 1) number) x.branches)
      (λ t. tt)
      (λ f.
      let more : 1 < ttl = leb-false ttl 1 f in
      let most = a.bounded in
      let less : IsAlive count (ttl - 1) number =
      record { counted = a.counted; known = a.known; alive = omega (arith, more); bounded = omega (arith, most) } in
      each_of (λ (branch : Branch). IsAlive count (ttl - 1) number) (λ branch. less) fate.branches)

  landed_leaves : (world : World) (from to : NodeId) (copy : LinkCopy) (o : Option Datagram) → IsCopy count from to copy → Alive count world
      → Leaves (landed world from to copy o)
  landed_leaves world from to copy None c a = (tt, a)
  landed_leaves world from to copy (Some datagram) c a =
      let fate = fate_at world to (world.network.state.node to) from copy.label datagram in
      fated_gives world to (copy.ttl - 1) copy.number datagram.octets (lines.Land from to copy.label copy.number ∷ []) (with_ttl copy.ttl fate)
      (tt, tt) a (one_less copy.ttl copy.number fate c)

  without_alive : (world : World) (from to : NodeId) (place : ℕ) → Alive count world → Alive count (without_copy world from to place)
  without_alive world from to place a = record {
    datagrams = a.datagrams;
    copies = each_replaced (IsCopy count) from to (remove (world.copies from to) (place - 1)) world.copies
        (all_but_one (IsCopy count from to) (world.copies from to) (place - 1) (a.copies from to)) a.copies;
  }

  landing_leaves : (world : World) (from to : NodeId) (place : ℕ) (o : Option LinkCopy) → slice_get (world.copies from to) (place - 1) ≡ o
      → Alive count world → Leaves (landing world from to place o)
  landing_leaves world from to place None at a = (tt, a)
  landing_leaves world from to place (Some copy) at a =
      landed_leaves (without_copy world from to place) from to copy (datagram_at world copy.number)
      (all_at (IsCopy count from to) (world.copies from to) (place - 1) copy (a.copies from to) at) (without_alive world from to place a)

  -- ---- acts on nodes and sessions

  network_keeps : (world : World) (before : List ReportLine) (node : NodeId) (o : Option (Behind (OctetNetwork Nodes))) → Alive count world
      → Gives Any (Alive count) (with_network world before o node)
  network_keeps world before node None a = tt
  network_keeps world before node (Some new) a = (tt, record { datagrams = a.datagrams; copies = a.copies })

  node_keeps : (world : World) (node : NodeId) (before : List ReportLine) (acts : List (octets.OctetAct NodeCall)) → Alive count world
      → Gives Any (Alive count) (at_node world node before acts)
  node_keeps world node before acts a = network_keeps world before node (octets.octet_run system world.network acts) a

  aged_keeps : (o : Result Acted NodeId) → Gives Any (Alive count) o → Gives Any (Alive count) (with_aged o)
  aged_keeps (Err node) h = tt
  aged_keeps (Ok new) h = (
    tt,
    record {
      datagrams = h.1.datagrams;
      copies = λ u n. all_filter (IsCopy count u n) (λ copy. nat_le (clock_of new.world) (copy.put_at + (scenario_of new.world).life))
          (new.world.copies u n) (h.1.copies u n);
    },
  )

  -- no such act puts a copy
  none_put : (o : Result Acted NodeId) → Says IsPlainLine o → Gives Any (Alive count) o → Gives (ArePut count) (Alive count) o
  none_put (Err node) s h = tt
  none_put (Ok new) s h = (
    each_weaker IsPlainLine (IsPut count) (of_plain (IsPut count) (λ kind from to bytes. tt) (λ kind from to bytes. tt)
        (λ bytes copies buffers due unready. tt)) new.lines s,
    h.1,
  )

  plain_puts : (one : Act) → IsPlain one → (world : World) → Gives Any (Alive count) (act world one)
      → Gives (ArePut count) (Alive count) (act world one)
  plain_puts one plain world h = none_put (act world one) (act_plain one plain world) h

  -- ---- acts

  pub act_puts : (one : Act) → IsNoEntry one → (world : World) → Alive count world → Gives (ArePut count) (Alive count) (act world one)
  act_puts (Tick ticks) w world a =
      plain_puts (Tick ticks) tt world (aged_keeps (at_node world (record { 0 = 0 }) [] (octets.Call (Elapse ticks) ∷ []))
      (node_keeps world (record { 0 = 0 }) [] (octets.Call (Elapse ticks) ∷ []) a))
  act_puts (Timers n) w world a = plain_puts (Timers n) tt world (node_keeps world n [] (octets.Call (Own n steps.Timers) ∷ []) a)
  act_puts (Move kind from to size) w world a =
      plain_puts (Move kind from to size) tt world
      (node_keeps world to (lines.Take kind from to (take size (world.network.transit (direction kind from to))) ∷ [])
      (octets.Move (direction kind from to) size ∷ []) a)
  act_puts (Lose kind x y) w world a = plain_puts (Lose kind x y) tt world (node_keeps world x [] (octets.Lose (is_of_session kind x y) ∷ []) a)
  act_puts (Notice kind x y) w world a =
      plain_puts (Notice kind x y) tt world (node_keeps world x []
      (octets.Forget (is_from_peer kind x y) ∷ octets.Call (Own x (steps.Noticed kind y)) ∷ []) a)
  act_puts (RaiseFirst kind x y) w world a =
      plain_puts (RaiseFirst kind x y) tt world (node_keeps world x []
      (octets.Join (is_of_session kind x y) ∷ octets.Call (Own x (steps.Raised kind y)) ∷ []) a)
  act_puts (RaiseSecond kind x y) w world a =
      plain_puts (RaiseSecond kind x y) tt world (node_keeps world y [] (octets.Call (Own y (steps.Raised kind x)) ∷ []) a)
  act_puts (Restart n) w world a =
      plain_puts (Restart n) tt world (node_keeps world n [] (octets.Lose (is_at n) ∷ octets.Forget (leads_to n) ∷ octets.Call (Reset n) ∷ []) a)
  act_puts (At n call) w world a = plain_puts (At n call) tt world (node_keeps world n [] (octets.Call (Own n call) ∷ []) a)
  act_puts (Enter vrf) w world a = absurd w
  act_puts (Land from to place) w world a = landing_leaves world from to place (slice_get (world.copies from to) (place - 1)) refl a
  act_puts (Drop from to place) w world a = (tt, without_alive world from to place a)
  act_puts Tell w world a = plain_puts Tell tt world (tt, a)
  act_puts (SetCost x y cost) w world a = plain_puts (SetCost x y cost) tt world (node_keeps world x [] (octets.Call (Price x y cost) ∷ []) a)
  act_puts (Reroute n) w world a = plain_puts (Reroute n) tt world (node_keeps world n [] (octets.Call (Follow n) ∷ []) a)

  pub entry_puts : (one : Act) → IsEntry one → (world : World) → Entering count world → Gives (ArePut count) (Entering count) (act world one)
  entry_puts (Enter vrf) w world e =
      let l = entering_leaves world vrf (slice_get (scenario_of world).vrfs vrf.0) (datagram_at world (length world.datagrams)) e in
      (l.0, record { alive = l.1; some = e.some })
  entry_puts other w world e = absurd w

-- Each act of the whole network keeps it that what was taken over a direction is a first part of what was put there.
use Rattle.std.proofs.Math.Bool.{and_comm}
use Rattle.std.specs.Prelude.{Result, Ok, Err, take}
use Rattle.std.proofs.Common.{◌≡◌, ◌==◌, ◌&&◌, ◌||◌, ◌-◌, ℕ, Bool, false, cond, map, slice_get, length, List, [], ◌∷◌, ◌++◌, Option, Some, None, refl, sym, ap, subst, ◌∙◌}
use Rattle.std.specs.List.{AllByRecursion}
use Rattle.std.proofs.lemmas.List.{append-nil}
use Rattle.mv_base.specs.declared.ids.IfaceId.{IfaceId}
use Rattle.mv_base.specs.declared.ids.NodeId.{NodeId}
use Rattle.mv_base.specs.declared.ids.VrfId.{VrfId}
use Rattle.scenario_defs.specs.declared.event.Kind.{Kind}
use Rattle.scenario_defs.specs.declared.event.Kind.TheVariants as kinds
use Rattle.scenario_defs.specs.declared.report.ReportLine.{ReportLine}
use Rattle.scenario_defs.specs.declared.report.ReportLine.TheVariants as lines
use Rattle.scenario_defs.specs.declared.scenario.Vrf.{Vrf}
use Rattle.label_defs.specs.declared.branch.Branch.{Branch}
use Rattle.scenario_defs.specs.Kinds.{same_kind}
use Rattle.network_defs.specs.session_defs.Message.{same_direction}
use Rattle.network_defs.specs.session_defs.Octets as octets
use Rattle.network_defs.specs.session_defs.Octets.{octet_run}
use Rattle.edge_defs.specs.Datagrams.{Fate, entering_fate}
use Rattle.edge_defs.specs.Place.{OwnVrf}
use Rattle.edge_defs.specs.Steps as steps
use Rattle.network_defs.specs.Acts.{Act, Tick, Timers, Move, Lose, Notice, RaiseFirst, RaiseSecond, Restart, At, Enter, Land, Drop, Tell, SetCost, Reroute, Acted, at_node, with_aged, aged, is_of_session, is_from_peer, is_at, leads_to, hop_line, fated, datagram_at, enters_at, entering, fate_at, with_ttl, landed, without_copy, landing, act}
use Rattle.label_defs.specs.Between.{is_between}
use Rattle.network_defs.specs.Counts.{direction}
use Rattle.network_defs.specs.Local.{put_by, taken_by}
use Rattle.network_defs.specs.Nodes.{NodeState, Edge, CoreNode, place_of}
use Rattle.network_defs.specs.System.{NodeCall, Own, Elapse, Reset, Price, Follow, system}
use Rattle.network_defs.specs.World.{World, Datagram, LinkCopy, scenario_of, clock_of}
use Rattle.network_defs.proofs.Kept.{Gives, enter_keeps, land_keeps}
use Rattle.network_laws.proofs.Lists.{each_append, each_of, each_map}
use Rattle.rule_laws.proofs.Acts.{IsFit}
use Rattle.rule_laws.proofs.Outs.{Says, said_of}
use Rattle.rule_laws.proofs.Copies.{eq_turned}
use Rattle.license_laws.proofs.Flows.{IsIdle, FlowsBehind, IsQuiet, taken_by_move, run_flows, move_run_flows}
use Rattle.license_laws.proofs.Follows.{stepped}
use Rattle.license_laws.proofs.Since.{hit}
use Rattle.license_laws.proofs.Takes.{puts_of, takes_of, Moves, network_moves, moves_again, rests}

-- ---- tests, the other way round

pub kind_swap : (a b : Kind) → same_kind a b ≡ same_kind b a
kind_swap kinds.Bgp kinds.Bgp = refl
kind_swap kinds.Bgp kinds.Ldp = refl
kind_swap kinds.Ldp kinds.Bgp = refl
kind_swap kinds.Ldp kinds.Ldp = refl

between_turned : (a b u n : NodeId) → is_between a b u n ≡ is_between u n a b
between_turned a b u n =
    (λ i. ((eq_turned u.0 a.0 i) && (eq_turned n.0 b.0 i)) || ((eq_turned u.0 b.0 i) && (eq_turned n.0 a.0 i)))
    ∙ (λ i. ((a.0 == u.0) && (b.0 == n.0)) || and_comm (b.0 == u.0) (a.0 == n.0) i)

-- the act raises the session of the direction
pub raise_is : (kind : Kind) (from to : NodeId) (own : Kind) (u n : NodeId)
    → (same_kind kind own && is_between from to u n) ≡ is_of_session own u n (direction kind from to)
raise_is kind from to own u n = λ i. kind_swap kind own i && between_turned from to u n i

pub way_swap : (kind : Kind) (from to : NodeId) (own : Kind) (u n : NodeId)
    → (same_kind kind own && (u.0 == from.0) && (n.0 == to.0)) ≡ same_direction (direction kind from to) (direction own u n)
way_swap kind from to own u n = λ i. same_kind kind own && eq_turned u.0 from.0 i && eq_turned n.0 to.0 i

-- ---- lines without octets of sessions

abbrev pub IsOther : ReportLine → Type 0
IsOther (lines.Put own u n bytes) = ⊥
IsOther (lines.Take own u n bytes) = ⊥
IsOther other = Unit {0}

module _ (kind : Kind) (from to : NodeId) where
  other_line : (line : ReportLine) → IsOther line → (put_by kind from to line ≡ []) × (taken_by kind from to line ≡ [])
  other_line (lines.Put own u n bytes) h = absurd h
  other_line (lines.Take own u n bytes) h = absurd h
  other_line (lines.Land a b label number) h = (refl, refl)
  other_line (lines.Hop a b label ttl number) h = (refl, refl)
  other_line (lines.Out number iface bytes) h = (refl, refl)
  other_line (lines.Refused line reason) h = (refl, refl)
  other_line (lines.Halt line node) h = (refl, refl)
  other_line (lines.State a b c d e) h = (refl, refl)

  pub others_silent : (all : List ReportLine) → AllByRecursion IsOther all → (puts_of kind from to all ≡ []) × (takes_of kind from to all ≡ [])
  others_silent [] h = (refl, refl)
  others_silent (line ∷ more) h =
      let one = other_line line h.0 in
      let rest = others_silent more h.1 in
      ((λ i. one.0 i ++ rest.0 i), (λ i. one.1 i ++ rest.1 i))

fated_other : (world : World) (node : NodeId) (ttl number : ℕ) (bytes : List ℕ) (before : List ReportLine) (fate : Fate)
    → AllByRecursion IsOther before → AllByRecursion IsOther (fated world node ttl number bytes before fate).lines
fated_other world node ttl number bytes before fate h =
    each_append IsOther before (map (λ iface. lines.Out number iface bytes) fate.outs ++ map (hop_line node ttl number) fate.branches) h
    (each_append IsOther (map (λ iface. lines.Out number iface bytes) fate.outs) (map (hop_line node ttl number) fate.branches)
    (each_map IsOther (λ iface. lines.Out number iface bytes) fate.outs (each_of (λ (iface : IfaceId). Unit {0}) (λ iface. tt) fate.outs))
    (each_map IsOther (hop_line node ttl number) fate.branches (each_of (λ (branch : Branch). Unit {0}) (λ branch. tt) fate.branches)))

pub enter_other : (world : World) (id : VrfId) → Says IsOther (act world (Enter id))
enter_other world id = by (slice_get (scenario_of world).vrfs id.0) (datagram_at world (length world.datagrams))
  where
    at : (own : OwnVrf) (state : NodeState) (datagram : Datagram) → AllByRecursion IsOther (enters_at world own state datagram).lines
    at own (CoreNode part) datagram = tt
    at own (Edge edge) datagram =
        fated_other world own.vrf.edge 255 (length world.datagrams) datagram.octets []
        (entering_fate (place_of world.network.state own.vrf.edge) (clock_of world) edge own datagram.site datagram.source datagram.group) tt

    by : (o : Option Vrf) (d : Option Datagram) → AllByRecursion IsOther (entering world id o d).lines
    by (Some vrf) (Some datagram) = at (record { id = id; vrf = vrf }) (world.network.state.node vrf.edge) datagram
    by (Some vrf) None = tt
    by None d = tt

pub land_other : (world : World) (a b : NodeId) (place : ℕ) → Says IsOther (act world (Land a b place))
land_other world a b place = by (slice_get (world.copies a b) (place - 1))
  where
    gone : World
    gone = without_copy world a b place

    found : (copy : LinkCopy) (d : Option Datagram) → AllByRecursion IsOther (landed (without_copy world a b place) a b copy d).lines
    found copy None = tt
    found copy (Some datagram) =
        fated_other gone b (copy.ttl - 1) copy.number datagram.octets (lines.Land a b copy.label copy.number ∷ [])
        (with_ttl copy.ttl (fate_at gone b (gone.network.state.node b) a copy.label datagram)) (tt, tt)

    by : (o : Option LinkCopy) → AllByRecursion IsOther (landing world a b place o).lines
    by None = tt
    by (Some copy) = found copy (datagram_at gone copy.number)

-- ---- acts

pub given_by : (P : World → Type 0) (o : Result Acted NodeId) (acted : Acted) → Gives P o → o ≡ Ok acted → P acted.world
given_by P (Err node) acted g e = absurd cc
given_by P (Ok new) acted g e = let same : new ≡ acted = cc in subst (λ (a : Acted). P a.world) same g

module _ (kind : Kind) (from to : NodeId) where
  pub quiet_moves : (world : World) (node : NodeId) (acts : List (octets.OctetAct NodeCall)) (acted : Acted)
      → AllByRecursion (λ one. IsQuiet (direction kind from to) system one) acts → IsIdle (direction kind from to) world.network
      → at_node world node [] acts ≡ Ok acted
      → Moves world acted.world kind from to acted.lines
  quiet_moves world node acts acted quiet idle e =
      network_moves kind from to world [] (octet_run system world.network acts) node acted refl
      (run_flows (direction kind from to) system acts quiet world.network idle) e

  -- a copy is put on a link, or lands
  copy_moves : (world new : World) (all : List ReportLine) → AllByRecursion IsOther all → new.network ≡ world.network
      → IsIdle (direction kind from to) world.network → Moves world new kind from to all
  copy_moves world new all other same idle =
      (let silent = others_silent kind from to all other in
      moves_again kind from to world world new all same (rests kind from to world all idle silent.0 silent.1))

  aged_moves : (world : World) (found : Result Acted NodeId) (acted : Acted)
      → ((mid : Acted) → found ≡ Ok mid → Moves world mid.world kind from to mid.lines) → with_aged found ≡ Ok acted
      → Moves world acted.world kind from to acted.lines
  aged_moves world (Err node) acted h e = absurd cc
  aged_moves world (Ok new) acted h e =
      let made : Acted = record new { world = aged new.world } in
      let same : made ≡ acted = cc in
      subst (λ (a : Acted). Moves world a.world kind from to a.lines) same
      (moves_again kind from to world new.world (aged new.world) new.lines refl (h new refl))

  pub take_is : (world : World) (own : Kind) (u n : NodeId) (count : ℕ)
      → takes_of kind from to (lines.Take own u n (take count (world.network.transit (direction own u n))) ∷ [])
      ≡ taken_by_move (direction kind from to) system world.network (direction own u n) count
  take_is world own u n count =
      append-nil (cond (same_kind kind own && (u.0 == from.0) && (n.0 == to.0)) (take count (world.network.transit (direction own u n))) [])
      ∙ ap (λ (t : Bool). cond t (take count (world.network.transit (direction own u n))) []) (way_swap kind from to own u n)

  pub single_moves : (world : World) (one : Act) (acted : Acted) → IsFit world one
      → ((own : Kind) (u n : NodeId) → IsIdle (direction own u n) world.network) → act world one ≡ Ok acted
      → Moves world acted.world kind from to acted.lines
  single_moves world (Tick ticks) acted fit idle e =
      aged_moves world (at_node world (record { 0 = 0 }) [] (octets.Call (Elapse ticks) ∷ [])) acted
      (λ mid f. quiet_moves world (record { 0 = 0 }) (octets.Call (Elapse ticks) ∷ []) mid (tt, tt) (idle kind from to) f) e
  single_moves world (Timers n) acted fit idle e = quiet_moves world n (octets.Call (Own n steps.Timers) ∷ []) acted (tt, tt) (idle kind from to) e
  single_moves world (Move own u n count) acted fit idle e =
      network_moves kind from to world (lines.Take own u n (take count (world.network.transit (direction own u n))) ∷ [])
      (octet_run system world.network (octets.Move (direction own u n) count ∷ [])) n acted refl
      (subst (λ (took : List ℕ). FlowsBehind (direction kind from to) world.network took
      (octet_run system world.network (octets.Move (direction own u n) count ∷ []))) (sym (take_is world own u n count))
      (move_run_flows (direction kind from to) system world.network (direction own u n) count (idle own u n) (idle kind from to))) e
  single_moves world (Lose own a b) acted fit idle e =
      quiet_moves world a (octets.Lose (is_of_session own a b) ∷ []) acted (tt, tt) (idle kind from to) e
  single_moves world (Notice own a b) acted fit idle e =
      quiet_moves world a (octets.Forget (is_from_peer own a b) ∷ octets.Call (Own a (steps.Noticed own b)) ∷ []) acted (tt, (tt, tt))
      (idle kind from to) e
  single_moves world (RaiseFirst own a b) acted fit idle e = absurd fit
  single_moves world (RaiseSecond own a b) acted fit idle e = absurd fit
  single_moves world (Restart n) acted fit idle e =
      quiet_moves world n (octets.Lose (is_at n) ∷ octets.Forget (leads_to n) ∷ octets.Call (Reset n) ∷ []) acted (tt, (tt, (tt, tt)))
      (idle kind from to) e
  single_moves world (At n call) acted fit idle e = quiet_moves world n (octets.Call (Own n call) ∷ []) acted (tt, tt) (idle kind from to) e
  single_moves world (Enter vrf) acted fit idle e =
      copy_moves world acted.world acted.lines (said_of IsOther (act world (Enter vrf)) acted (enter_other world vrf) e)
      (given_by (λ new. new.network ≡ world.network) (act world (Enter vrf)) acted (enter_keeps (λ net. net ≡ world.network) world vrf refl) e)
      (idle kind from to)
  single_moves world (Land a b place) acted fit idle e =
      copy_moves world acted.world acted.lines (said_of IsOther (act world (Land a b place)) acted (land_other world a b place) e)
      (given_by (λ new. new.network ≡ world.network) (act world (Land a b place)) acted
      (land_keeps (λ net. net ≡ world.network) world a b place refl) e) (idle kind from to)
  single_moves world (Drop a b place) acted fit idle e =
      copy_moves world acted.world acted.lines (said_of IsOther (act world (Drop a b place)) acted tt e)
      (given_by (λ new. new.network ≡ world.network) (act world (Drop a b place)) acted refl e) (idle kind from to)
  single_moves world Tell acted fit idle e =
      copy_moves world acted.world acted.lines (said_of IsOther (act world Tell) acted (tt, tt) e)
      (given_by (λ new. new.network ≡ world.network) (act world Tell) acted refl e) (idle kind from to)
  single_moves world (SetCost a b cost) acted fit idle e =
      quiet_moves world a (octets.Call (Price a b cost) ∷ []) acted (tt, tt) (idle kind from to) e
  single_moves world (Reroute n) acted fit idle e = quiet_moves world n (octets.Call (Follow n) ∷ []) acted (tt, tt) (idle kind from to) e

  pub single_hits : (number : ℕ) (world : World) (one : Act) (acted : Acted) → IsFit world one → hit kind from to (stepped number one acted) ≡ false
  single_hits number world (Tick ticks) acted fit = refl
  single_hits number world (Timers n) acted fit = refl
  single_hits number world (Move own u n count) acted fit = refl
  single_hits number world (Lose own a b) acted fit = refl
  single_hits number world (Notice own a b) acted fit = refl
  single_hits number world (RaiseFirst own a b) acted fit = absurd fit
  single_hits number world (RaiseSecond own a b) acted fit = absurd fit
  single_hits number world (Restart n) acted fit = refl
  single_hits number world (At n call) acted fit = refl
  single_hits number world (Enter vrf) acted fit = refl
  single_hits number world (Land a b place) acted fit = refl
  single_hits number world (Drop a b place) acted fit = refl
  single_hits number world Tell acted fit = refl
  single_hits number world (SetCost a b cost) acted fit = refl
  single_hits number world (Reroute n) acted fit = refl

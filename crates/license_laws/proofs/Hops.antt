-- Each `hop` line of a run puts its copy on a branch that stands.
use Rattle.std.specs.Prelude.{Result, Ok, Err}
use Rattle.std.proofs.Common.{◌≡◌, ◌-◌, ◌||◌, nat_le, ℕ, Bool, true, false, cond, map, length, slice_get, List, [], ◌∷◌, ◌++◌, Option, Some, None, refl, sym, subst}
use Rattle.std.specs.FinSet as sets
use Rattle.std.specs.List.{AllByRecursion, filter, list_any}
use Rattle.std.proofs.lemmas.List.{append_assoc}
use Rattle.mv_base.specs.declared.ids.IfaceId.{IfaceId}
use Rattle.mv_base.specs.declared.ids.NodeId.{NodeId}
use Rattle.mv_base.specs.declared.ids.VrfId.{VrfId}
use Rattle.mldp.specs.declared.mldp_fec.fec.Fec.{Fec}
use Rattle.scenario_defs.specs.declared.report.ReportLine.{ReportLine}
use Rattle.scenario_defs.specs.declared.report.ReportLine.TheVariants as lines
use Rattle.scenario_defs.specs.declared.scenario.Scenario.{Scenario}
use Rattle.scenario_defs.specs.declared.scenario.Vrf.{Vrf}
use Rattle.label_defs.specs.LabelData.{LabelData, same_fec, use_of, branches_of}
use Rattle.label_defs.specs.declared.branch.Branch.{Branch}
use Rattle.label_defs.proofs.KeyLemmas.{branch_cmp_total}
use Rattle.label_defs.proofs.MemberLemmas.{each_in_order}
use Rattle.network_defs.specs.session_defs.Octets as octets
use Rattle.network_defs.specs.session_defs.System.{Put}
use Rattle.edge_defs.specs.Datagrams.{Fate, discarded, tree_of, outs_of, is_from_site, is_outside, entering_fate}
use Rattle.edge_defs.specs.Flows.{asking_ifaces}
use Rattle.label_defs.specs.Members.{in_order}
use Rattle.edge_defs.specs.Place.{EdgePlace, OwnVrf}
use Rattle.edge_defs.specs.Steps as steps
use Rattle.edge_defs.specs.Tunnels.{transmit_tunnel, is_joined_in}
use Rattle.edge_defs.specs.Upstream.{upstream_for}
use Rattle.network_defs.specs.Acts.{Act, Tick, Timers, Move, Lose, Notice, RaiseFirst, RaiseSecond, Restart, At, Enter, Land, Drop, Tell, SetCost, Reroute, Acted, hop_line, fated, datagram_at, enters_at, entering, fate_at, with_ttl, landed, without_copy, landing, act}
use Rattle.network_defs.specs.LabelRule.{part_at}
use Rattle.network_defs.specs.Local.{goes_on}
use Rattle.network_defs.specs.Nodes.{NodeState, Edge, CoreNode, place_of, part_of}
use Rattle.network_defs.specs.Run.{Traced}
use Rattle.network_defs.specs.World.{World, Datagram, LinkCopy, scenario_of, clock_of}
use Rattle.network_laws.proofs.Lists.{each_append, each_of, each_map, each_weaker, each_filtered}
use Rattle.rule_laws.proofs.Outs.{Says, said_of}
use Rattle.rule_laws.proofs.Plain.{IsPlain, IsPlainLine, of_plain, act_plain}
use Rattle.license_laws.specs.Hops.{HopMay, HopsMay}
use Rattle.license_laws.proofs.Also.{KeepsAlso, each_next, refused_step}
use Rattle.license_laws.proofs.Branched.{Branched, may_hop}
use Rattle.license_laws.proofs.Follows.{stepped}
use Rattle.license_laws.proofs.Taking.{Taking}

-- ---- acts at nodes: no copy goes on

abbrev pub Stays : ReportLine → Type 0
Stays line = goes_on line ≡ false

pub none_goes : (all : List ReportLine) → AllByRecursion Stays all → list_any goes_on all ≡ false
none_goes [] h = refl
none_goes (line ∷ more) h = (λ i. h.0 i || none_goes more h.1 i)

-- the lines of an act by which no copy lands and no datagram enters
pub plain_lines : (all : List ReportLine) → AllByRecursion IsPlainLine all → AllByRecursion Stays all
plain_lines all =
    each_weaker IsPlainLine Stays (of_plain Stays (λ kind from to bytes. refl) (λ kind from to bytes. refl)
    (λ bytes copies buffers due unready. refl)) all

pub plain_stays : (one : Act) → IsPlain one → (world : World) → Says Stays (act world one)
plain_stays one plain world = by (act world one) (act_plain one plain world)
  where
    by : (o : Result Acted NodeId) → Says IsPlainLine o → Says Stays o
    by (Err node) s = tt
    by (Ok new) s = plain_lines new.lines s

-- ---- branches

-- the branch is one of the tree at the node
abbrev pub IsBranchOf : LabelData → Fec → Branch → Type 0
IsBranchOf part fec branch = (sets.contains part.branches branch ≡ true) × (same_fec branch.fec fec ≡ true)

pub tree_branches : (part : LabelData) (fec : Fec) → AllByRecursion (IsBranchOf part fec) (branches_of part fec)
tree_branches part fec =
    each_filtered (λ (b : Branch). sets.contains part.branches b ≡ true) (λ branch. same_fec branch.fec fec) (in_order part.branches)
    (each_in_order branch_cmp_total (λ (b : Branch). sets.contains part.branches b ≡ true) part.branches (λ b h. h))

abbrev pub IsBranch : LabelData → Branch → Type 0
IsBranch part branch = sets.contains part.branches branch ≡ true

any_tree : (part : LabelData) (fec : Fec) → AllByRecursion (IsBranch part) (branches_of part fec)
any_tree part fec = each_weaker (IsBranchOf part fec) (IsBranch part) (λ b h. h.0) (branches_of part fec) (tree_branches part fec)

-- ---- lines of copies

module _ (trace : List Traced) (world : World) (all : Branched trace world) where
  fated_hops : (now : World) (node : NodeId) (ttl number : ℕ) (bytes : List ℕ) (before : List ReportLine) (fate : Fate)
      → AllByRecursion (HopMay trace) before → AllByRecursion (IsBranch (part_at world node)) fate.branches
      → AllByRecursion (HopMay trace) (fated now node ttl number bytes before fate).lines
  fated_hops now node ttl number bytes before fate first are =
      each_append (HopMay trace) before (map (λ iface. lines.Out number iface bytes) fate.outs ++ map (hop_line node ttl number) fate.branches) first
      (each_append (HopMay trace) (map (λ iface. lines.Out number iface bytes) fate.outs) (map (hop_line node ttl number) fate.branches)
      (each_map (HopMay trace) (λ iface. lines.Out number iface bytes) fate.outs (each_of (λ (iface : IfaceId). Unit {0}) (λ iface. tt) fate.outs))
      (each_map (HopMay trace) (hop_line node ttl number) fate.branches
      (each_weaker (IsBranch (part_at world node)) (λ branch. HopMay trace (hop_line node ttl number branch))
      (λ branch h. (branch.fec, may_hop trace world all node branch h)) fate.branches are)))

  land_hops : (a b : NodeId) (place : ℕ) → Says (HopMay trace) (act world (Land a b place))
  land_hops a b place = by (slice_get (world.copies a b) (place - 1))
    where
      tree_in : (part : LabelData) (o : Option Fec) (outs : Fec → List IfaceId)
          → AllByRecursion (IsBranch part) (elim o as (λ _. Fate)
          [ None ↦ discarded | Some fec ↦ record { outs = outs fec; branches = branches_of part fec } ]).branches
      tree_in part None outs = tt
      tree_in part (Some fec) outs = any_tree part fec

      late : (part : LabelData) (t : Bool) (fate : Fate) → AllByRecursion (IsBranch part) fate.branches
          → AllByRecursion (IsBranch part) (cond t (record fate { branches = [] }) fate).branches
      late part true fate h = tt
      late part false fate h = h

      at : (state : NodeState) (copy : LinkCopy) (datagram : Datagram)
          → AllByRecursion (IsBranch (part_of state)) (fate_at (without_copy world a b place) b state a copy.label datagram).branches
      at (Edge edge) copy datagram =
          tree_in edge.part (tree_of a (use_of edge.part copy.label))
          (λ fec. outs_of (place_of world.network.state b) (clock_of world) edge fec datagram.source datagram.group)
      at (CoreNode part) copy datagram = tree_in part (tree_of a (use_of part copy.label)) (λ fec. [])

      found : (copy : LinkCopy) (d : Option Datagram) → AllByRecursion (HopMay trace) (landed (without_copy world a b place) a b copy d).lines
      found copy None = tt
      found copy (Some datagram) =
          let fate : Fate = fate_at (without_copy world a b place) b (world.network.state.node b) a copy.label datagram in
          fated_hops (without_copy world a b place) b (copy.ttl - 1) copy.number datagram.octets (lines.Land a b copy.label copy.number ∷ [])
          (with_ttl copy.ttl fate) (tt, tt)
          (late (part_at world b) (nat_le copy.ttl 1) fate (at (world.network.state.node b) copy datagram))

      by : (o : Option LinkCopy) → AllByRecursion (HopMay trace) (landing world a b place o).lines
      by None = tt
      by (Some copy) = found copy (datagram_at (without_copy world a b place) copy.number)

  enter_hops : (id : VrfId) → Says (HopMay trace) (act world (Enter id))
  enter_hops id = by (slice_get (scenario_of world).vrfs id.0) (datagram_at world (length world.datagrams))
    where
      at : (vrf : Vrf) (state : NodeState) → world.network.state.node vrf.edge ≡ state → (datagram : Datagram)
          → AllByRecursion (HopMay trace) (enters_at world (record { id = id; vrf = vrf }) state datagram).lines
      at vrf (CoreNode part) is datagram = tt
      at vrf (Edge edge) is datagram =
          let own : OwnVrf = record { id = id; vrf = vrf } in
          let place : EdgePlace = place_of world.network.state vrf.edge in
          fated_hops world vrf.edge 255 (length world.datagrams) datagram.octets []
          (entering_fate place (clock_of world) edge own datagram.site datagram.source datagram.group) tt
          (subst (λ (s : NodeState). AllByRecursion (IsBranch (part_of s))
          (entering_fate place (clock_of world) edge own datagram.site datagram.source datagram.group).branches) (sym is)
          (entered (is_from_site datagram.site (upstream_for place edge.control own datagram.source datagram.group))
          (is_joined_in place edge.control own datagram.source datagram.group)))
        where
          entered : (t j : Bool) → AllByRecursion (IsBranch edge.part) (cond {A = Fate} t (record {
            outs = filter (is_outside (scenario_of world) datagram.site)
                (asking_ifaces (place_of world.network.state vrf.edge) (clock_of world) edge.control (record { id = id; vrf = vrf }) datagram.source
                datagram.group);
            branches =
                cond j (branches_of edge.part (transmit_tunnel (place_of world.network.state vrf.edge) edge.control (record { id = id; vrf = vrf })
                datagram.source datagram.group)) [];
          }) discarded).branches
          entered true true =
              any_tree edge.part (transmit_tunnel (place_of world.network.state vrf.edge) edge.control (record { id = id; vrf = vrf }) datagram.source
              datagram.group)
          entered true false = tt
          entered false j = tt

      by : (o : Option Vrf) (d : Option Datagram) → AllByRecursion (HopMay trace) (entering world id o d).lines
      by (Some vrf) (Some datagram) = at vrf (world.network.state.node vrf.edge) refl datagram
      by (Some vrf) None = tt
      by None d = tt

-- ---- runs

stays_may : (before : List Traced) (line : ReportLine) → Stays line → HopMay before line
stays_may before (lines.Hop u n label ttl number) s = absurd cc
stays_may before (lines.Out number iface bytes) s = tt
stays_may before (lines.Put own u n bytes) s = tt
stays_may before (lines.Take own u n bytes) s = tt
stays_may before (lines.Land a b label number) s = tt
stays_may before (lines.Refused line reason) s = tt
stays_may before (lines.Halt line node) s = tt
stays_may before (lines.State a b c d e) s = tt

act_hops : (trace : List Traced) (world : World) → Branched trace world → (one : Act) (acted : Acted) → act world one ≡ Ok acted
    → AllByRecursion (HopMay trace) acted.lines
act_hops trace world all one acted e = by one e
  where
    plain : (one : Act) → IsPlain one → act world one ≡ Ok acted → AllByRecursion (HopMay trace) acted.lines
    plain one is e = each_weaker Stays (HopMay trace) (stays_may trace) acted.lines (said_of Stays (act world one) acted (plain_stays one is world) e)

    by : (one : Act) → act world one ≡ Ok acted → AllByRecursion (HopMay trace) acted.lines
    by (Enter vrf) e = said_of (HopMay trace) (act world (Enter vrf)) acted (enter_hops trace world all vrf) e
    by (Land a b place) e = said_of (HopMay trace) (act world (Land a b place)) acted (land_hops trace world all a b place) e
    by (Tick ticks) e = plain (Tick ticks) tt e
    by (Timers n) e = plain (Timers n) tt e
    by (Move own u n count) e = plain (Move own u n count) tt e
    by (Lose own a b) e = plain (Lose own a b) tt e
    by (Notice own a b) e = plain (Notice own a b) tt e
    by (RaiseFirst own a b) e = plain (RaiseFirst own a b) tt e
    by (RaiseSecond own a b) e = plain (RaiseSecond own a b) tt e
    by (Restart n) e = plain (Restart n) tt e
    by (At n call) e = plain (At n call) tt e
    by (Drop a b place) e = plain (Drop a b place) tt e
    by Tell e = plain Tell tt e
    by (SetCost a b cost) e = plain (SetCost a b cost) tt e
    by (Reroute n) e = plain (Reroute n) tt e

abbrev pub Hopping : List Traced → World → Type 0
Hopping trace world = HopsMay trace

abbrev pub HopStep : List Traced → Traced → Type 0
HopStep before step = AllByRecursion (HopMay before) step.happened.lines

pub hopping_kept : (scenario : Scenario) → KeepsAlso scenario (λ trace world. Taking trace world × Branched trace world) Hopping
hopping_kept scenario = record {
  single = λ before number world one acted s sound fit e t k l. each_next HopStep before (stepped number one acted) l
      (act_hops before world k.1 one acted e);
  pair = λ before number world session first second declared s off back e g t k l.
      let one : Traced = stepped number (RaiseFirst session.kind session.a session.b) first in
      let two : Traced = stepped number (RaiseSecond session.kind session.a session.b) second in
      subst HopsMay (append_assoc before (one ∷ []) (two ∷ []))
      (each_next HopStep (before ++ one ∷ []) two (each_next HopStep before one l
      (each_weaker Stays (HopMay before) (stays_may before) first.lines
      (said_of Stays (act world (RaiseFirst session.kind session.a session.b)) first
      (plain_stays (RaiseFirst session.kind session.a session.b) tt world) e)))
      (each_weaker Stays (HopMay (before ++ one ∷ [])) (stays_may (before ++ one ∷ [])) second.lines
      (said_of Stays (act first.world (RaiseSecond session.kind session.a session.b)) second
      (plain_stays (RaiseSecond session.kind session.a session.b) tt first.world) g)));
  accepted = λ before world datagram s k l. l;
  refused = λ before number world line reason k l. each_next HopStep before (refused_step number line reason) l (tt, tt);
}

-- Octets are handed out over one direction after another.
use Rattle.std.proofs.Common.{◌≡◌, ◌∙◌, refl, sym, ap, subst, ℕ, zero, suc, ◌<◌, ◌≤◌, inl, inr, arith, Bool, true, false, cond, List, [], ◌∷◌, ◌++◌, ◌+◌, length, take, get_or, None}
use Rattle.std.proofs.lemmas.List.{append-nil, append_assoc, take_all}
use Rattle.std.proofs.Math.Seq.{take-suc}
use Rattle.mv_base.specs.Lists.{Among}
use Rattle.mv_base.specs.core_walks.Core.{Core}
use Rattle.mv_base.specs.declared.ids.NodeId.{NodeId}
use Rattle.scenario_defs.specs.declared.event.Kind.TheVariants as kinds
use Rattle.scenario_defs.specs.declared.report.ReportLine.{ReportLine}
use Rattle.scenario_defs.specs.declared.scenario.Scenario.{Scenario}
use Rattle.network_defs.specs.session_defs.Message.{same_direction}
use Rattle.network_defs.specs.declared.session_defs.direction.Direction.{Direction}
use Rattle.net_sessions.specs.session_transit.TransitData.{Puts, TransitData, is_joined_at, octets_at}
use Rattle.network_nodes.specs.wire_laws.AnyNodes.{AnyNode}
use Rattle.mldp_node.specs.NodeData.{IsWaitingTowardRoots}
use Rattle.network_nodes.specs.NodeView.{IsNode, IsPlacedAt, MayBePeer, labels_in, spent_in}
use Rattle.network_nodes.specs.declared.node.NetworkNode.{NetworkNode}
use Rattle.network_acts.specs.control_plane.Handing.{HandsOut, handed_all, handed_over, handing_lines, handing_over, octets_for, octets_line}

-- ---- one direction

-- where octets go over a direction
pub one_handed : (way : Direction) (state : AnyNode) (node : NetworkNode) (old new : TransitData) (lines new_lines : List ReportLine)
    → IsNode (handed_over state way) node → Puts way (octets_for state way) old new → new_lines ≡ lines ++ octets_line way (octets_for state way)
    → HandsOut (way ∷ []) state node old new lines new_lines
one_handed way state node old new lines new_lines is puts told = record {
  is = is;
  joined = puts.joined;
  octets = λ over. puts.octets over ∙ ap (λ (more : List ℕ). cond (is_joined_at old over) (octets_at old over ++ more) (octets_at old over))
      (sym (append-nil (cond (same_direction way over) (octets_for state way) [])));
  told = told ∙ ap (λ (more : List ReportLine). lines ++ more) (sym (append-nil (octets_line way (octets_for state way))));
}

none_put : (b joined : Bool) (octets : List ℕ) → octets ≡ cond joined (octets ++ (cond b [] [] ++ [])) octets
none_put b false octets = refl
none_put true true octets = sym (append-nil octets)
none_put false true octets = sym (append-nil octets)

-- where none wait
pub none_handed : (way : Direction) (state : AnyNode) (node : NetworkNode) (transit : TransitData) (lines : List ReportLine)
    → IsNode (handed_over state way) node → octets_for state way ≡ [] → HandsOut (way ∷ []) state node transit transit lines lines
none_handed way state node transit lines is none = record {
  is = is;
  joined = λ over. refl;
  octets = λ over.
      none_put (same_direction way over) (is_joined_at transit over) (octets_at transit over)
      ∙ ap (λ (o : List ℕ). cond (is_joined_at transit over) (octets_at transit over ++ (cond (same_direction way over) o [] ++ []))
      (octets_at transit over)) (sym none);
  told = sym (append-nil lines) ∙ ap (λ (o : List ℕ). lines ++ (octets_line way o ++ [])) (sym none);
}

-- ---- some, and then others

all_then : (first more : List Direction) (state : AnyNode) → handed_all state (first ++ more) ≡ handed_all (handed_all state first) more
all_then [] more state = refl
all_then (way ∷ first) more state = all_then first more (handed_over state way)

lines_then : (first more : List Direction) (state : AnyNode)
    → handing_lines state (first ++ more) ≡ handing_lines state first ++ handing_lines (handed_all state first) more
lines_then [] more state = refl
lines_then (way ∷ first) more state =
    ap (λ (l : List ReportLine). octets_line way (octets_for state way) ++ l) (lines_then first more (handed_over state way))
    ∙ sym (append_assoc (octets_line way (octets_for state way)) (handing_lines (handed_over state way) first)
    (handing_lines (handed_all (handed_over state way) first) more))

over_then : (first more : List Direction) (state : AnyNode) (over : Direction)
    → handing_over state (first ++ more) over ≡ handing_over state first over ++ handing_over (handed_all state first) more over
over_then [] more state over = refl
over_then (way ∷ first) more state over =
    let own : List ℕ = cond (same_direction way over) (octets_for state way) [] in
    ap (λ (l : List ℕ). own ++ l) (over_then first more (handed_over state way) over)
    ∙ sym (append_assoc own (handing_over (handed_over state way) first over) (handing_over (handed_all (handed_over state way) first) more over))

puts_then : (joined : Bool) (base first more : List ℕ)
    → cond joined (cond joined (base ++ first) base ++ more) (cond joined (base ++ first) base) ≡ cond joined (base ++ (first ++ more)) base
puts_then true base first more = append_assoc base first more
puts_then false base first more = refl

hands_then : (first more : List Direction) (state : AnyNode) (middle node : NetworkNode) (old between new : TransitData)
    (lines own new_lines : List ReportLine)
    → HandsOut first state middle old between lines own → HandsOut more (handed_all state first) node between new own new_lines
    → HandsOut (first ++ more) state node old new lines new_lines
hands_then first more state middle node old between new lines own new_lines a b = record {
  is = subst (λ (s : AnyNode). IsNode s node) (sym (all_then first more state)) b.is;
  joined = λ over. b.joined over ∙ a.joined over;
  octets = λ over.
      b.octets over
      ∙ ((λ i. cond (a.joined over i) (a.octets over i ++ handing_over (handed_all state first) more over) (a.octets over i))
      ∙ (puts_then (is_joined_at old over) (octets_at old over) (handing_over state first over) (handing_over (handed_all state first) more over)
      ∙ ap (λ (l : List ℕ). cond (is_joined_at old over) (octets_at old over ++ l) (octets_at old over)) (sym (over_then first more state over))));
  told = b.told ∙ (ap (λ (l : List ReportLine). l ++ handing_lines (handed_all state first) more) a.told
      ∙ (append_assoc lines (handing_lines state first) (handing_lines (handed_all state first) more)
      ∙ ap (λ (l : List ReportLine). lines ++ l) (sym (lines_then first more state))));
}

-- ---- the loop

-- what stands where there is no direction
abbrev pub no_way : Direction
no_way = record { kind = kinds.Bgp; from = record { 0 = 0 }; to = record { 0 = 0 } }

-- What stands once so many first directions are done.
pub record OnWay (ways : List Direction) (done : ℕ) (old node : NetworkNode) (transit now : TransitData) (lines lines_now : List ReportLine) : Type 0
  where
    pub handed : (state : AnyNode) → IsNode state old → HandsOut (take done ways) state node transit now lines lines_now
    pub unspent : spent_in node ≡ None
    pub peers : (over : Direction) → MayBePeer old over.kind over.to → MayBePeer node over.kind over.to
    pub placed : (scenario : Scenario) (n : NodeId) → IsPlacedAt scenario n old → IsPlacedAt scenario n node
    pub waits : (own : Core) → IsWaitingTowardRoots own (labels_in old) → IsWaitingTowardRoots own (labels_in node)

one_more : (ways : List Direction) (done : ℕ) (way d : Direction) → done < length ways → way ≡ get_or ways done d
    → take (done + 1) ways ≡ take done ways ++ way ∷ []
one_more ways done way d lt same =
    let next : done + 1 ≡ suc done = omega arith in
    ap (λ (k : ℕ). take k ways) next ∙ (take-suc ways done d lt ∙ ap (λ (w : Direction). take done ways ++ w ∷ []) (sym same))

-- the direction at a place is one of them
pub among_at : (ways : List Direction) (place : ℕ) (way d : Direction) → place < length ways → way ≡ get_or ways place d → Among way ways
among_at [] place way d lt same = absurd (omega (arith, lt))
among_at (first ∷ more) zero way d lt same = inl same
among_at (first ∷ more) (suc place) way d lt same = inr (among_at more place way d (omega (arith, lt)) same)

-- once all are done
pub all_done : (ways : List Direction) (done : ℕ) (old node : NetworkNode) (transit now : TransitData) (lines lines_now : List ReportLine)
    → length ways ≤ done
    → OnWay ways done old node transit now lines lines_now → (state : AnyNode) → IsNode state old
    → HandsOut ways state node transit now lines lines_now
all_done ways done old node transit now lines lines_now le on state is =
    subst (λ (own : List Direction). HandsOut own state node transit now lines lines_now) (take_all done ways le) (on.handed state is)

nothing_put : (joined : Bool) (octets : List ℕ) → octets ≡ cond joined (octets ++ []) octets
nothing_put true octets = sym (append-nil octets)
nothing_put false octets = refl

pub none_done : (ways : List Direction) (node : NetworkNode) (transit : TransitData) (lines : List ReportLine) → spent_in node ≡ None
    → OnWay ways 0 node node transit transit lines lines
none_done ways node transit lines unspent = record {
  handed = λ state is. record {
    is = is;
    joined = λ over. refl;
    octets = λ over. nothing_put (is_joined_at transit over) (octets_at transit over);
    told = sym (append-nil lines);
  };
  unspent = unspent;
  peers = λ over h. h;
  placed = λ scenario n h. h;
  waits = λ own h. h;
}

pub one_done : (ways : List Direction) (done : ℕ) (way : Direction) (old node next : NetworkNode) (transit now then_ : TransitData)
    (lines lines_now lines_then_ : List ReportLine)
    → (d : Direction) → done < length ways → way ≡ get_or ways done d → OnWay ways done old node transit now lines lines_now
    → ((state : AnyNode) → IsNode state node → HandsOut (way ∷ []) state next now then_ lines_now lines_then_) → spent_in next ≡ None
    → ((over : Direction) → MayBePeer node over.kind over.to → MayBePeer next over.kind over.to)
    → ((scenario : Scenario) (n : NodeId) → IsPlacedAt scenario n node → IsPlacedAt scenario n next)
    → ((own : Core) → IsWaitingTowardRoots own (labels_in node) → IsWaitingTowardRoots own (labels_in next))
    → OnWay ways (done + 1) old next transit then_ lines lines_then_
one_done ways done way old node next transit now then_ lines lines_now lines_then_ d lt same on handed unspent peers placed waits = record {
  handed = λ state is. subst (λ (own : List Direction). HandsOut own state next transit then_ lines lines_then_)
      (sym (one_more ways done way d lt same))
      (hands_then (take done ways) (way ∷ []) state node next transit now then_ lines lines_now lines_then_ (on.handed state is)
      (handed (handed_all state (take done ways)) (on.handed state is).is));
  unspent = unspent;
  peers = λ over h. peers over (on.peers over h);
  placed = λ scenario n h. placed scenario n (on.placed scenario n h);
  waits = λ own h. waits own (on.waits own h);
}

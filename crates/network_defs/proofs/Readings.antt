-- What is read of a network in which nothing has happened but at LDP sessions: whether ends are up, and the line of `state`.
use Rattle.std.proofs.Common.{◌≡◌, ℕ, ◌+◌, ◌&&◌, Bool, true, false, not, List, map, sum_by, count_by, is_some, Option, Some, None, refl, ap, ◌∙◌, arith}
use Rattle.std.specs.FinMap as maps
use Rattle.std.specs.FinMap.{find}
use Rattle.mv_base.specs.declared.ids.NodeId.{NodeId}
use Rattle.edge_defs.specs.pim_defs.Entries.{entry_cmp}
use Rattle.edge_defs.specs.pim_defs.Expiry.{is_after}
use Rattle.edge_defs.specs.pim_defs.declared.expiry.Expiry.{Expiry}
use Rattle.scenario_defs.specs.declared.event.Kind.{Kind}
use Rattle.scenario_defs.specs.declared.event.Kind.TheVariants as kinds
use Rattle.scenario_defs.specs.declared.report.ReportLine.{ReportLine}
use Rattle.scenario_defs.specs.declared.report.ReportLine.TheVariants as lines
use Rattle.label_defs.specs.declared.end.End.{End}
use Rattle.label_defs.specs.Keys.{node_cmp}
use Rattle.label_defs.specs.LabelData as labels
use Rattle.label_defs.specs.LabelData.{LabelData, is_hold_due}
use Rattle.label_defs.proofs.KeyLemmas.{node_cmp_total}
use Rattle.edge_defs.specs.Due as edges
use Rattle.edge_defs.specs.Due.{is_selection_due, due_from}
use Rattle.edge_defs.specs.Edge.{Selected, Taken, pattern_cmp}
use Rattle.mvpn_model.specs.Sessions.{sessions}
use Rattle.mvpn_model.specs.declared.session.Session.{Session}
use Rattle.network_defs.specs.Counts.{direction, is_up, is_ready, are_held, node_due, all_nodes, state_line}
use Rattle.network_defs.specs.Example.{network, cores}
use Rattle.network_defs.specs.Nodes.{Edge, CoreNode, part_of, place_of, label_place_of}
use Rattle.network_defs.specs.World.{World}
use Rattle.network_defs.proofs.Nothing.{no_entries, ordered, entries_made}
use Rattle.network_defs.proofs.Idle.{as_node, idle}
use Rattle.network_defs.proofs.Small.{Small, node_of, nodes_of, world_of}

abbrev pub world : Small → World
world small = world_of network cores small

-- ---- what is read of a node

part_is : (edge : Bool) (part : LabelData) → part_of (as_node edge part) ≡ part
part_is true part = refl
part_is false part = refl

abbrev pub has_end : Small → NodeId → NodeId → Bool
has_end small n peer = is_some (find node_cmp peer (small.node n).ends)

pub up_is : (small : Small) (n peer : NodeId) → is_up (world small) kinds.Ldp n peer ≡ has_end small n peer
up_is small n peer =
    ap (λ (part : LabelData). labels.is_up part peer) (part_is (small.node n).edge (idle 4 (maps.from_entries (small.node n).ends)))
    ∙ ap (λ (end : Option End). is_some end) (maps.get-from_entries node_cmp_total (small.node n).ends peer)

abbrev is_held : Option End → Bool
is_held found = elim found [ None ↦ false | Some end ↦ end.held ]

abbrev has_held : Small → NodeId → NodeId → Bool
has_held small n peer = is_held (find node_cmp peer (small.node n).ends)

held_is : (small : Small) (n peer : NodeId) → labels.is_ready (part_of (node_of 4 (small.node n))) peer ≡ has_held small n peer
held_is small n peer =
    ap (λ (part : LabelData). labels.is_ready part peer) (part_is (small.node n).edge (idle 4 (maps.from_entries (small.node n).ends)))
    ∙ ap (λ (end : Option End). is_held end) (maps.get-from_entries node_cmp_total (small.node n).ends peer)

-- ---- the line of `state`

abbrev joined : Small → Session → Bool
joined small session = small.joined (direction session.kind session.a session.b)

abbrev ready : Small → Session → Bool
ready small session =
    joined small session && elim session.kind [
      | kinds.Bgp ↦ true
      | kinds.Ldp ↦
          has_held small session.a session.b && has_held small session.b session.a
    ]

ready_is : (small : Small) (session : Session) → is_ready (world small) session ≡ ready small session
ready_is small session = ap (λ (b : Bool). joined small session && b) (by session.kind)
  where
    by : (kind : Kind) → ◌≡◌ {A = Bool} (elim kind [ kinds.Bgp ↦ true | kinds.Ldp ↦ are_held (world small) session ])
        (elim kind [ kinds.Bgp ↦ true | kinds.Ldp ↦ has_held small session.a session.b && has_held small session.b session.a ])
    by kinds.Bgp = refl
    by kinds.Ldp = λ i. held_is small session.a session.b i && held_is small session.b session.a i

abbrev holds_due : ℕ → List (NodeId × End) → ℕ
holds_due now ends = count_by (is_hold_due 2 now) (map (λ (entry : NodeId × End). entry.1) (ordered node_cmp ends))

no_less : (n : ℕ) → 0 + n ≡ n
no_less n = omega arith

part_due : (small : Small) (n : NodeId) (ends : List (NodeId × End))
    → labels.due (label_place_of (nodes_of network cores small) n) small.clock (idle 4 (maps.from_entries ends)) ≡ holds_due small.clock ends
part_due small n ends =
    no_less (count_by (is_hold_due 2 small.clock) (maps.values (maps.from_entries {R = node_cmp} ends)))
    ∙ ap (λ (all : List (NodeId × End)). count_by (is_hold_due 2 small.clock) (map (λ (entry : NodeId × End). entry.1) all))
    (entries_made node_cmp_total ends)

no_more : (n : ℕ) → n + 0 ≡ n
no_more n = omega arith

due_by : (small : Small) (n : NodeId) (edge : Bool) (ends : List (NodeId × End))
    → ◌≡◌ {A = ℕ} (elim (as_node edge (idle 4 (maps.from_entries ends))) [
      | Edge own ↦ edges.due (place_of (nodes_of network cores small) n) small.clock own
      | CoreNode part ↦ labels.due (label_place_of (nodes_of network cores small) n) small.clock part
    ]) (holds_due small.clock ends)
due_by small n false ends = part_due small n ends
due_by small n true ends =
    (λ i. part_due small n ends i
    + (count_by (λ expiry. not (is_after expiry small.clock)) (map (λ e. e.1) (no_entries entry_cmp Expiry i))
    + (count_by (is_selection_due 3 small.clock) (map (λ e. e.1) (no_entries pattern_cmp Selected i)) + sum_by
    (due_from (place_of (nodes_of network cores small) n) small.clock) (no_entries node_cmp Taken i))))
    ∙ no_more (holds_due small.clock ends)

abbrev due_at : Small → NodeId → ℕ
due_at small n = holds_due small.clock (small.node n).ends

due_is : (small : Small) (n : NodeId) → node_due (nodes_of network cores small) n ≡ due_at small n
due_is small n = due_by small n (small.node n).edge (small.node n).ends

abbrev pub line_of : Small → ReportLine
line_of small = lines.State 0 0 0 (sum_by (due_at small) (all_nodes network)) (count_by (λ session. not (ready small session)) (sessions network))

pub line_is : (small : Small) → state_line (world small) ≡ line_of small
line_is small =
    λ i. lines.State 0 0 0 (sum_by (λ n. due_is small n i) (all_nodes network))
    (count_by (λ session. not (ready_is small session i)) (sessions network))

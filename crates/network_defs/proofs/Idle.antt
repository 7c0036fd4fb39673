-- Nodes that keep nothing but the ends of their LDP sessions: what they do at raises, notices and timers.
use Rattle.std.proofs.Common.{◌≡◌, ℕ, zero, suc, Bool, true, false, cond, not, ◌&&◌, ◌==◌, if◌then◌else◌, List, [], ◌∷◌, ◌++◌, map, replicate, is_some, Option, Some, None, option_map, refl, sym, ap, ◌∙◌}
use Rattle.std.specs.List.{filter, flat_map}
use Rattle.std.specs.FinMap as maps
use Rattle.std.specs.FinMap.{FinMap}
use Rattle.std.specs.FinSet as sets
use Rattle.std.specs.Cmp.{IsTotalOrder}
use Rattle.std.specs.Cmp.Lexicographic.{nat_list_cmp_total}
use Rattle.std.proofs.lemmas.Cmp.{on_total, lists_total}
use Rattle.mv_base.specs.Number.{◌>>?◌}
use Rattle.mv_base.specs.declared.ids.NodeId.{NodeId}
use Rattle.label_defs.specs.mldp.declared.mldp_fec.fec.Fec.{Fec}
use Rattle.edge_defs.specs.pim_defs.Entries.{entry_cmp, iface_entry_key, kept_at}
use Rattle.edge_defs.specs.pim_defs.Expiry.{counts}
use Rattle.edge_defs.specs.pim_defs.declared.expiry.Expiry.{Expiry}
use Rattle.scenario_defs.specs.declared.event.Kind.TheVariants as kinds
use Rattle.label_defs.specs.declared.branch.Branch.{Branch}
use Rattle.label_defs.specs.declared.end.End.{End}
use Rattle.label_defs.specs.declared.label_use.LabelUse.{LabelUse}
use Rattle.label_defs.specs.declared.label_use.LabelUse.TheVariants as uses
use Rattle.label_defs.specs.Keys.{fec_cmp, node_cmp}
use Rattle.label_defs.specs.LabelData as labels
use Rattle.label_defs.specs.LabelData.{LabelData, Place, mapped_trees}
use Rattle.label_defs.specs.Settling.{Stepped, settle_all}
use Rattle.label_defs.specs.Steps as label_calls
use Rattle.label_defs.specs.Steps.{label_step, raised_end, holds_run, woken, freed, counted}
use Rattle.label_defs.specs.Members.{in_order}
use Rattle.label_defs.proofs.KeyLemmas.{fec_cmp_total, fec_cmp_exact, branch_cmp_total, branch_cmp_exact}
use Rattle.label_defs.proofs.MemberLemmas.{none_in_order}
use Rattle.edge_defs.specs.Keys.{addr_key, same_value}
use Rattle.mv_base.specs.table_defs.Changes.{changes}
use Rattle.edge_defs.specs.Edge.{Note, note_cmp, Upstream, VrfFlow, Taken, Selected, VrfPattern, EdgeData, no_control, flow_cmp, pattern_cmp}
use Rattle.edge_defs.specs.Flows.{flows_at, vrf_flows, is_flow, with_upstream, joined_by, active_from, noted_flow}
use Rattle.edge_defs.specs.Held.{put_to, told}
use Rattle.edge_defs.specs.Imported.{found_in}
use Rattle.edge_defs.specs.Originated.{is_iface_of}
use Rattle.edge_defs.specs.Place.{EdgePlace, OwnVrf, own_vrfs, label_place, addr_of}
use Rattle.edge_defs.specs.Steps as steps
use Rattle.edge_defs.specs.Steps.{edge_step, control_step, refreshed, timed, selection_run, taken_run, changed_leaves, one_call, own_label_call, label_row, part_after, raised_after}
use Rattle.edge_defs.specs.Tunnels.{leaves, tunnels_of, inclusive_tunnels, flow_tunnels}
use Rattle.mvpn_model.specs.Sessions.{edges}
use Rattle.network_defs.specs.Nodes.{NodeState, Edge, CoreNode, Nodes, with_node, place_of, label_place_of}
use Rattle.network_defs.specs.node_defs.Puts.{bgp_put, bgp_puts, label_puts}
use Rattle.network_defs.specs.System.{node_called, core_called}
use Rattle.network_defs.proofs.Nothing.{flat_none, no_entries, empty_by, no_union, none_retained}

-- ---- an edge that keeps nothing

note_cmp_total : IsTotalOrder note_cmp
note_cmp_total = on_total (λ (note : Note). (note.iface.0 ∷ []) ∷ addr_key note.source ∷ addr_key note.group ∷ []) (lists_total nat_list_cmp_total)

entry_cmp_total : IsTotalOrder entry_cmp
entry_cmp_total = on_total iface_entry_key nat_list_cmp_total

no_notes : in_order no_control.notes ≡ []
no_notes = none_in_order note_cmp_total

no_vrf_flows : (place : EdgePlace) (now : ℕ) (own : OwnVrf) → vrf_flows place now no_control own ≡ []
no_vrf_flows place now own = λ i. map (with_upstream place no_control own) (filter (is_flow place now no_control own) (
    found_in (joined_by place own) (map (λ e. e.0) (no_entries entry_cmp Expiry i))
    ++ (map noted_flow (filter (λ note. is_iface_of place.scenario own.id note.iface) (no_notes i))
    ++ flat_map (active_from own) (no_entries node_cmp Taken i))))

no_flows : (place : EdgePlace) (now : ℕ) → flows_at place now no_control ≡ maps.empty
no_flows place now =
    ap (λ (all : List (VrfFlow × Option Upstream)). maps.from_entries {R = flow_cmp} all)
    (flat_none (vrf_flows place now no_control) (no_vrf_flows place now) (own_vrfs place))

refreshed_nothing : (place : EdgePlace) (now : ℕ) → refreshed place now no_control ≡ no_control
refreshed_nothing place now = λ i. record no_control { flows = no_flows place now i }

kept_nothing : (now : ℕ) → kept_at maps.empty now ≡ maps.empty
kept_nothing now = empty_by entry_cmp_total _ (λ q.
    maps.get-retain_keys maps.empty (λ at. counts now (maps.get maps.empty at)) q
    (λ x e i. counts now ((maps.get-empty {X = Expiry} entry_cmp x ∙ sym (maps.get-empty entry_cmp q)) i))
    ∙ (λ i. cond (counts now (maps.get-empty {X = Expiry} entry_cmp q i)) (maps.get-empty {X = Expiry} entry_cmp q i) None))

timed_nothing : (place : EdgePlace) (now : ℕ) → timed place now no_control ≡ no_control
timed_nothing place now = λ i. record {
  entries = kept_nothing now i;
  notes = sets.empty;
  selections =
      maps.from_entries {R = pattern_cmp} (map (λ (entry : VrfPattern × Selected). (entry.0, selection_run place.scenario.delay now entry.1))
      (no_entries pattern_cmp Selected i));
  flows = maps.empty;
  peers = maps.from_entries {R = node_cmp} (map (taken_run place now) (no_entries node_cmp Taken i));
}

no_tunnels : (place : EdgePlace) (own : OwnVrf) → tunnels_of place no_control own ≡ []
no_tunnels place own = λ i.
    flat_map (inclusive_tunnels place own) (no_entries node_cmp Taken i)
    ++ flat_map (flow_tunnels place no_control own)
    (filter (λ (entry : VrfFlow × Option Upstream). entry.0.vrf.0 == own.id.0) (no_entries flow_cmp (Option Upstream) i))

no_leaves : (place : EdgePlace) → leaves place no_control ≡ sets.empty
no_leaves place =
    ap (λ (all : List Fec). sets.from_list {R = fec_cmp} all) (flat_none (tunnels_of place no_control) (no_tunnels place) (own_vrfs place))

no_changed_leaves : (place : EdgePlace) → changed_leaves (leaves place no_control) (leaves place no_control) ≡ []
no_changed_leaves place =
    (λ i. changed_leaves (no_leaves place i) (no_leaves place i))
    ∙ (λ i. map (λ fec. if sets.contains (sets.empty {R = fec_cmp}) fec then label_calls.Want fec else label_calls.Unwant fec)
    (filter (λ fec. not (sets.contains (sets.empty {R = fec_cmp}) fec && sets.contains (sets.empty {R = fec_cmp}) fec))
    ((ap in_order (no_union fec_cmp_total fec_cmp_exact) ∙ none_in_order fec_cmp_total) i)))

-- a call with a label step of its own raises and loses no BGP session
raises_stay : (now : ℕ) (old : FinMap node_cmp ℕ) (call : steps.Call) (own : label_calls.Call) → own_label_call call ≡ Some own
    → raised_after now old call ≡ old
raises_stay now old (steps.Label neighbour message) own e = refl
raises_stay now old (steps.Raised kinds.Ldp peer) own e = refl
raises_stay now old (steps.Raised kinds.Bgp peer) own e = absurd cc
raises_stay now old (steps.Noticed kinds.Ldp peer) own e = refl
raises_stay now old (steps.Noticed kinds.Bgp peer) own e = absurd cc
raises_stay now old (steps.Update peer message) own e = refl
raises_stay now old (steps.Customer call) own e = refl
raises_stay now old steps.Timers own e = refl
raises_stay now old steps.Rerouted own e = refl

-- an edge that keeps a label part alone
abbrev edge_of : LabelData → EdgeData
edge_of part = record { control = no_control; part = part; raised = maps.empty }

-- a step that changes no control makes its own label step alone
idle_edge_step : (place : EdgePlace) (now : ℕ) (part : LabelData) (call : steps.Call) (own : label_calls.Call) (new : Stepped)
    → own_label_call call ≡ Some own → control_step place now no_control call ≡ no_control
    → label_step (label_place place.scenario place.core place.me) now part own ≡ Some new
    → edge_step place now (edge_of part) call ≡ Some (record { edge = edge_of new.part; row = record { old = part; call = own; new = new } ∷ [] })
idle_edge_step place now part call own new calls same made =
    (λ i. label_row place now part (one_call (calls i) ++ changed_leaves (leaves place no_control) (leaves place (same i))) >>? λ row. Some
    (record { edge = record { control = same i; part = part_after part row; raised = raises_stay now maps.empty call own calls i }; row = row }))
    ∙ (λ i. label_row place now part (own ∷ no_changed_leaves place i) >>? λ row. Some (record { edge = edge_of (part_after part row); row = row }))
    ∙ (λ i. (made i >>? λ next. label_row place now next.part [] >>? λ thereafter. Some (record { old = part; call = own; new = next } ∷ thereafter)) >>?
    λ row. Some (record { edge = edge_of (part_after part row); row = row }))

no_bgp_puts : (place : EdgePlace) → bgp_puts place no_control no_control ≡ []
no_bgp_puts place = flat_none (λ peer. map (bgp_put place.me peer) (put_to place no_control no_control peer)) none (edges place.scenario)
  where
    none : (peer : NodeId) → map (bgp_put place.me peer) (put_to place no_control no_control peer) ≡ []
    none peer =
        λ i. map (bgp_put place.me peer) (if is_some (maps.get-empty {X = Taken} node_cmp peer i) then changes same_value (told place no_control peer)
        (told place no_control peer) else [])

-- ---- nodes

-- an edge or a core node that keeps a label part alone
abbrev pub as_node : Bool → LabelData → NodeState
as_node edge part = if edge then Edge (edge_of part) else CoreNode part

idle_called : (nodes : Nodes) (n : NodeId) (edge : Bool) (part new : LabelData) (call : steps.Call) (own : label_calls.Call)
    → own_label_call call ≡ Some own → control_step (place_of nodes n) nodes.clock no_control call ≡ no_control
    → label_step (label_place_of nodes n) nodes.clock part own ≡ Some (record { part = new; puts = [] })
    → node_called nodes n (as_node edge part) call ≡ Some (record { state = with_node nodes n (as_node edge new); puts = [] })
idle_called nodes n true part new call own calls same made =
    (λ i. idle_edge_step (place_of nodes n) nodes.clock part call own (record { part = new; puts = [] }) calls same made i >>? λ next.
    Some (record {
      state = with_node nodes n (Edge next.edge);
      puts = bgp_puts (place_of nodes n) no_control next.edge.control
          ++ flat_map (label_puts n (addr_of nodes.scenario n) (label_place_of nodes n) nodes.clock) next.row;
    }))
    ∙ (λ i. Some (record { state = with_node nodes n (as_node true new); puts = no_bgp_puts (place_of nodes n) i ++ [] }))
idle_called nodes n false part new call own calls same made =
    (λ i. core_called nodes n part (calls i))
    ∙ (λ i. made i >>? λ next.
    Some (record {
      state = with_node nodes n (CoreNode next.part);
      puts = label_puts n (addr_of nodes.scenario n) (label_place_of nodes n) nodes.clock (record { old = part; call = own; new = next });
    }))

-- ---- label parts with nothing but ends

abbrev pub idle : ℕ → FinMap node_cmp End → LabelData
idle count ends = record (labels.fresh count) { ends = ends }

all_same : (f : LabelUse → LabelUse) → f uses.Free ≡ uses.Free → (count : ℕ) → map f (replicate count uses.Free) ≡ replicate count uses.Free
all_same f same zero = refl
all_same f same (suc count) = λ i. same i ∷ all_same f same count i

none_mapped : (count : ℕ) → mapped_trees (replicate count uses.Free) ≡ []
none_mapped zero = refl
none_mapped (suc count) = none_mapped count

raised_part : (place : Place) (now count : ℕ) (ends : FinMap node_cmp End) (peer : NodeId)
    → label_step place now (idle count ends) (label_calls.Raised peer)
    ≡ Some (record { part = idle count (maps.insert ends peer (raised_end now)); puts = [] })
raised_part place now count ends peer = refl

timed_part : (place : Place) (now count : ℕ) (ends : FinMap node_cmp End)
    → label_step place now (idle count ends) label_calls.Timers ≡ Some (record { part = idle count (holds_run place.life now ends); puts = [] })
timed_part place now count ends = λ i.
    option_map counted (settle_all place (none_in_order fec_cmp_total i)
    (record { part = record (idle count (holds_run place.life now ends)) { labels = all_same (woken now) refl count i }; puts = [] }))

noticed_part : (place : Place) (now count : ℕ) (ends : FinMap node_cmp End) (peer : NodeId)
    → label_step place now (idle count ends) (label_calls.Noticed peer) ≡ Some (record { part = idle count (maps.remove ends peer); puts = [] })
noticed_part place now count ends peer = λ i.
    option_map counted (settle_all place (no_trees i) (record {
      part = record (idle count (maps.remove ends peer)) {
        labels = all_same (freed peer) refl count i;
        branches = none_retained branch_cmp_total branch_cmp_exact (λ branch. not (branch.node.0 == peer.0)) i;
      };
      puts = [];
    }))
  where
    no_trees : labels.trees (idle count ends) ≡ []
    no_trees =
        (λ i. in_order (sets.from_list {R = fec_cmp}
        (map (λ (branch : Branch). branch.fec) (none_in_order branch_cmp_total i) ++ (none_in_order fec_cmp_total i ++ none_mapped count i))))
        ∙ none_in_order fec_cmp_total

-- ---- what an idle node does

pub raised_node : (nodes : Nodes) (n peer : NodeId) (edge : Bool) (count : ℕ) (ends : FinMap node_cmp End)
    → node_called nodes n (as_node edge (idle count ends)) (steps.Raised kinds.Ldp peer)
    ≡ Some (record { state = with_node nodes n (as_node edge (idle count (maps.insert ends peer (raised_end nodes.clock)))); puts = [] })
raised_node nodes n peer edge count ends =
    idle_called nodes n edge _ _ (steps.Raised kinds.Ldp peer) (label_calls.Raised peer) refl (refreshed_nothing (place_of nodes n) nodes.clock)
    (raised_part (label_place_of nodes n) nodes.clock count ends peer)

pub timed_node : (nodes : Nodes) (n : NodeId) (edge : Bool) (count : ℕ) (ends : FinMap node_cmp End)
    → node_called nodes n (as_node edge (idle count ends)) steps.Timers
    ≡ Some (record { state = with_node nodes n (as_node edge (idle count (holds_run nodes.scenario.life nodes.clock ends))); puts = [] })
timed_node nodes n edge count ends =
    idle_called nodes n edge _ _ steps.Timers label_calls.Timers refl
    (ap (refreshed (place_of nodes n) nodes.clock) (timed_nothing (place_of nodes n) nodes.clock)
    ∙ refreshed_nothing (place_of nodes n) nodes.clock)
    (timed_part (label_place_of nodes n) nodes.clock count ends)

pub noticed_node : (nodes : Nodes) (n peer : NodeId) (edge : Bool) (count : ℕ) (ends : FinMap node_cmp End)
    → node_called nodes n (as_node edge (idle count ends)) (steps.Noticed kinds.Ldp peer)
    ≡ Some (record { state = with_node nodes n (as_node edge (idle count (maps.remove ends peer))); puts = [] })
noticed_node nodes n peer edge count ends =
    idle_called nodes n edge _ _ (steps.Noticed kinds.Ldp peer) (label_calls.Noticed peer) refl (refreshed_nothing (place_of nodes n) nodes.clock)
    (noticed_part (label_place_of nodes n) nodes.clock count ends peer)

-- An edge whose parts are kept apart, after a call.
use Rattle.std.proofs.Common.{◌≡◌, ◌≢◌, ◌∙◌, refl, sym, ap, subst, ℕ, List, ◌++◌, Option, None, Some}
use Rattle.std.proofs.lemmas.Option.{none-some, same_Some}
use Rattle.std.specs.FinMap as maps
use Rattle.mv_base.specs.Lists.{Among}
use Rattle.mv_base.specs.declared.ids.NodeId.{NodeId}
use Rattle.label_defs.specs.Node.{LabelNode, LacksLabel}
use Rattle.label_defs.proofs.SettleLemmas.{bind_some}
use Rattle.network_defs.specs.mvpn_model.Sessions.{edges}
use Rattle.mv_base.specs.Number.{◌>>?◌}
use Rattle.label_defs.specs.LabelData.{LabelData}
use Rattle.label_defs.specs.Steps.{Call as Step}
use Rattle.edge_defs.specs.Edge.{Control, EdgeData}
use Rattle.edge_defs.specs.Held.{put_to}
use Rattle.edge_defs.specs.Place.{EdgePlace}
use Rattle.edge_defs.specs.Steps.{Call, EdgeStepped, LabelStep, control_step, edge_step, label_row, part_after, raised_after}
use Rattle.edge_defs.specs.Tunnels.{leaves}
use Rattle.edge_defs.proofs.LeafSteps.{leaves_follow}
use Rattle.network_defs.specs.node_defs.EdgeState.{EdgeState, called, waiting_at}
use Rattle.node_laws.specs.Parts.{HasParts}
use Rattle.node_laws.specs.Places.{node_place}
use Rattle.node_laws.specs.Rows.{IsLabelNode, all_called, label_calls}
use Rattle.node_laws.specs.Waits.{bgp_session, kept_for, update_octets}
use Rattle.node_laws.proofs.EdgeLemmas.{both_lack, edge_after, edge_called, made_by, node_after}
use Rattle.node_laws.proofs.PeerLemmas.{step_waits}
use Rattle.node_laws.proofs.RowLemmas.{lacks_after, part_thereafter}

module _ (place : EdgePlace) (now : ℕ) (call : Call) (state : EdgeState) where
  step_control : (new : EdgeStepped) → edge_step place now state.edge call ≡ Some new
      → new.edge.control ≡ control_step place now state.edge.control call
  step_control new h =
      let made =
      bind_some (label_row place now state.edge.part (label_calls place now state.edge.control call))
      (λ row. Some (made_by place now call state row)) new h in
      ap (λ (x : EdgeStepped). x.edge.control) (sym (same_Some (made_by place now call state made.0) new made.2))

  -- when the ends of BGP sessions came up is told by the step
  pub raises_made : state.spent ≡ None → (called place now state call).spent ≡ None
      → (called place now state call).edge.raised ≡ raised_after now state.edge.raised call
  raises_made unspent still = by (edge_step place now state.edge call) refl
    where
      by : (o : Option EdgeStepped) → edge_step place now state.edge call ≡ o
          → (called place now state call).edge.raised ≡ raised_after now state.edge.raised call
      by None e = absurd (none-some LacksLabel (sym still ∙ ap (λ (x : EdgeState). x.spent) (edge_called place now call state None unspent e)))
      by (Some new) e =
          let made =
          bind_some (label_row place now state.edge.part (label_calls place now state.edge.control call))
          (λ row. Some (made_by place now call state row)) new e in
          ap (λ (x : EdgeState). x.edge.raised) (edge_after place now call state new unspent e)
          ∙ ap (λ (x : EdgeStepped). x.edge.raised) (sym (same_Some (made_by place now call state made.0) new made.2))

  module _ (control : Control) (node : LabelNode) (waiting : NodeId → List ℕ) (has : HasParts place state control node waiting) where
    calls_are : (c : Control) → state.edge.control ≡ c
        → all_called (node_place place.scenario place.me) place.core now node (label_calls place now state.edge.control call)
        ≡ all_called (node_place place.scenario place.me) place.core now node (label_calls place now c call)
    calls_are c e = ap (λ (x : Control). all_called (node_place place.scenario place.me) place.core now node (label_calls place now x call)) e

    after_is : (new : EdgeStepped) → edge_step place now state.edge call ≡ Some new
        → IsLabelNode (called place now state call)
        (all_called (node_place place.scenario place.me) place.core now node (label_calls place now control call))
    after_is new h =
        subst (λ (n : LabelNode). IsLabelNode (called place now state call) n) (calls_are control has.keeps)
        (node_after place now call state node new has.label has.unspent h)

    pub parts_lack : (all_called (node_place place.scenario place.me) place.core now node (label_calls place now control call)).spent
        ≡ Some LacksLabel → (called place now state call).spent ≡ Some LacksLabel
    parts_lack h = by (edge_step place now state.edge call) refl
      where
        by : (o : Option EdgeStepped) → edge_step place now state.edge call ≡ o → (called place now state call).spent ≡ Some LacksLabel
        by None e = (both_lack place now call state node has.label has.unspent e).0
        by (Some new) e = sym (after_is new e).spent ∙ h

    module _ (new_control : Control) (new_node : LabelNode) (new_waiting : NodeId → List ℕ)
        (stepped : new_control ≡ control_step place now control call)
        (made : new_node ≡ all_called (node_place place.scenario place.me) place.core now node (label_calls place now control call))
        (unspent : new_node.spent ≡ None)
        (puts : (peer : NodeId) → Among peer (edges place.scenario) → peer ≢ place.me
        → new_waiting peer ≡ kept_for call peer (waiting peer) ++ update_octets (put_to place control new_control peer)) where
      control_after : (new : EdgeStepped) → edge_step place now state.edge call ≡ Some new → (called place now state call).edge.control ≡ new_control
      control_after new h =
          ap (λ (x : EdgeState). x.edge.control) (edge_after place now call state new has.unspent h)
          ∙ (step_control new h ∙ (ap (λ (c : Control). control_step place now c call) has.keeps ∙ sym stepped))

      waits_after : (new : EdgeStepped) → edge_step place now state.edge call ≡ Some new → (peer : NodeId) → Among peer (edges place.scenario)
          → peer ≢ place.me
          → waiting_at (called place now state call).waiting (bgp_session peer) ≡ new_waiting peer
      waits_after new h peer among other =
          let same : new.edge.control ≡ new_control =
          step_control new h ∙ (ap (λ (c : Control). control_step place now c call) has.keeps ∙ sym stepped) in
          step_waits place now call state new peer has.unspent h among
          ∙ ((λ i. kept_for call peer (has.peers peer among other i) ++ update_octets (put_to place (has.keeps i) (same i) peer))
          ∙ sym (puts peer among other))

      pub parts_made : HasParts place (called place now state call) new_control new_node new_waiting
      parts_made = by (edge_step place now state.edge call) refl
        where
          lacking : edge_step place now state.edge call ≡ None → new_node.spent ≡ Some LacksLabel
          lacking e =
              ap (λ (n : LabelNode). n.spent) (made ∙ sym (calls_are control has.keeps))
              ∙ (both_lack place now call state node has.label has.unspent e).1

          by : (o : Option EdgeStepped) → edge_step place now state.edge call ≡ o
              → HasParts place (called place now state call) new_control new_node new_waiting
          by None e = absurd (none-some LacksLabel (sym unspent ∙ lacking e))
          by (Some new) e =
              let label : IsLabelNode (called place now state call) new_node =
              subst (λ (n : LabelNode). IsLabelNode (called place now state call) n) (sym made) (after_is new e) in
              record {
                unspent = sym label.spent ∙ unspent;
                keeps = control_after new e;
                label = label;
                peers = waits_after new e;
              }

-- ---- leaves

pub leaves_made : (place : EdgePlace) (now : ℕ) (call : Call) (control : Control) (node new_node : LabelNode) → node.spent ≡ None
    → node.part.leaves ≡ leaves place control
    → new_node ≡ all_called (node_place place.scenario place.me) place.core now node (label_calls place now control call) → new_node.spent ≡ None
    → new_node.part.leaves ≡ leaves place (control_step place now control call)
leaves_made place now call control node new_node e same made unspent = by (label_row place now node.part calls) refl
  where
    calls : List Step
    calls = label_calls place now control call

    «data» : EdgeData
    «data» = record { control = control; part = node.part; raised = maps.empty }

    by : (o : Option (List LabelStep)) → label_row place now node.part calls ≡ o
        → new_node.part.leaves ≡ leaves place (control_step place now control call)
    by None h = absurd (none-some LacksLabel (sym unspent ∙ (ap (λ (n : LabelNode). n.spent) made ∙ lacks_after place now node calls e h)))
    by (Some row) h =
        let stepped : EdgeStepped =
        record {
          edge =
              record { control = control_step place now control call; part = part_after node.part row; raised = raised_after now maps.empty call };
          row = row;
        } in
        let step : edge_step place now «data» call ≡ Some stepped =
        ap (λ (o : Option (List LabelStep)). o >>? λ (row : List LabelStep). Some
        (record {
          edge =
              record { control = control_step place now control call; part = part_after node.part row; raised = raised_after now maps.empty call };
          row = row;
        })) h in
        let part : new_node.part ≡ part_after node.part row = ap (λ (n : LabelNode). n.part) made ∙ (part_thereafter place now node calls row e h).part in
        ap (λ (p : LabelData). p.leaves) part ∙ leaves_follow place now «data» call stepped same step

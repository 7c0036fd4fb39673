-- The steps of an edge that has one peer and no LDP session.
use Rattle.std.proofs.Common.{◌≡◌, Bool, true, false, cond, not, ◌&&◌, List, ◌++◌, Option, Some, None, refl, sym, ap, subst, ◌∙◌}
use Rattle.std.specs.Prelude.{fold, map}
use Rattle.std.specs.List.{filter}
use Rattle.std.specs.Ordering.{eq_by_cmp}
use Rattle.std.specs.FinMap as maps
use Rattle.std.specs.FinMap.{FinMap}
use Rattle.std.specs.FinSet as sets
use Rattle.mv_base.specs.Number.{◌>>?◌}
use Rattle.mv_base.specs.declared.ids.NodeId.{NodeId}
use Rattle.label_defs.specs.Keys.{node_cmp}
use Rattle.label_defs.specs.Members.{in_order}
use Rattle.label_defs.specs.Node.{Spent}
use Rattle.label_defs.specs.Steps as labels
use Rattle.label_defs.proofs.KeyLemmas.{node_cmp_exact, node_cmp_total}
use Rattle.label_defs.proofs.SetLemmas.{put_here}
use Rattle.bgp_messages.specs.declared.bgp_attributes.update.Message.{Message}
use Rattle.bgp_messages.specs.bgp_update.Table.{changes_of}
use Rattle.mv_base.specs.table_defs.Changes.{applied_all}
use Rattle.scenario_defs.specs.declared.event.Kind.TheVariants as kinds
use Rattle.edge_defs.specs.pim_defs.Entries.{Entries, applied}
use Rattle.edge_defs.specs.Edge.{Control, Taken, no_control}
use Rattle.edge_defs.specs.Keys.{Table}
use Rattle.edge_defs.specs.Place.{EdgePlace}
use Rattle.edge_defs.specs.Steps.{Call, Customer, EdgeStepped, LabelStep, Pim, Raised, Update, changed_leaves, control_step, label_row, one_call, own_label_call, part_after, raised_after, refreshed, taken_change}
use Rattle.edge_defs.specs.Tunnels.{leaves}
use Rattle.network_defs.specs.node_defs.EdgeState.{EdgeState, thereafter, stepped, stepped_unless}
use Rattle.probe_defs.specs.Probed.{as_table_change, edge_with, taken_at_once}
use Rattle.probe_defs.proofs.LabelLemmas.{row_made}
use Rattle.probe_defs.proofs.TableLemmas.{changes_at_once, none_at_once}

-- ---- a step without a label step of its own

-- the edge goes on, no LDP session of it is up, and it keeps this
pub record Goes (control : Control) (state : EdgeState) : Type 0 where
  pub unspent : state.spent ≡ None
  pub ends : state.edge.part.ends ≡ maps.empty
  pub keeps : state.edge.control ≡ control

-- it goes on after a step, with the same streams
pub record Stepped (old : EdgeState) (control : Control) (new : EdgeState) : Type 0 where
  pub goes : Goes control new
  pub streams : new.streams ≡ old.streams

after_step : (place : EdgePlace) (old : EdgeState) (call : Call) (control : Control) → old.spent ≡ None → (row : List LabelStep)
    → (part_after old.edge.part row).ends ≡ maps.empty
    → control_step place 0 old.edge.control call ≡ control
    → Stepped old control (thereafter place 0 old (Some
    (record {
      edge =
          record {
            control = control_step place 0 old.edge.control call;
            part = part_after old.edge.part row;
            raised =
                raised_after 0 old.edge.raised call;
          };
      row = row;
    })))
after_step place old call control unspent row ends keeps = record { goes = record { unspent = unspent; ends = ends; keeps = keeps }; streams = refl }

pub step_goes : (place : EdgePlace) (old : EdgeState) (call : Call) (control next : Control) → own_label_call call ≡ None → Goes control old
    → control_step place 0 control call ≡ next → Stepped old next (stepped place 0 old call)
step_goes place old call control next none goes is =
    let now : Control = control_step place 0 old.edge.control call in
    let keeps : now ≡ next = ap (λ (c : Control). control_step place 0 c call) goes.keeps ∙ is in
    let before = leaves place old.edge.control in
    let after = leaves place now in
    let row =
    row_made place 0 old.edge.part (sets.contains after)
    (filter (λ fec. not (sets.contains before fec && sets.contains after fec)) (in_order (sets.union before after))) goes.ends in
    let made : Option (List LabelStep) → Option EdgeStepped = λ o. o >>? λ row.
    Some (record { edge = record { control = now; part = part_after old.edge.part row; raised = raised_after 0 old.edge.raised call }; row = row }) in
    let same : stepped place 0 old call ≡ thereafter place 0 old
    (Some (record {
      edge = record { control = now; part = part_after old.edge.part row.row; raised = raised_after 0 old.edge.raised call };
      row =
          row.row;
    })) =
    ap (λ (spent : Option Spent). stepped_unless spent place 0 old call) goes.unspent
    ∙ ap (λ (own : Option labels.Call). thereafter place 0 old (made (label_row place 0 old.edge.part (one_call own ++ changed_leaves before after))))
    none
    ∙ ap (λ (o : Option (List LabelStep)). thereafter place 0 old (made o)) row.is in
    subst (Stepped old next) (sym same) (after_step place old call next goes.unspent row.row row.ends keeps)

-- ---- what it keeps

pub join_keeps : (place : EdgePlace) (peer : NodeId) (table : Table) (entries : Entries) (iface : _) (message : _)
    → control_step place 0 (edge_with place peer table entries) (Customer (Pim iface message)) ≡ edge_with place peer table (applied entries iface message 0)
join_keeps place peer table entries iface message = refl

put_again : (peer : NodeId) (one other : Taken)
    → maps.insert (maps.insert {R = node_cmp} maps.empty peer one) peer other ≡ maps.insert maps.empty peer other
put_again peer one other = maps.same_map node_cmp_total node_cmp_exact _ _ (λ q.
    maps.get-insert node_cmp_total (maps.insert maps.empty peer one) peer other q
    ∙ ap (λ (o : Option Taken). cond (eq_by_cmp node_cmp q peer) (Some other) o) (maps.get-insert node_cmp_total maps.empty peer one q)
    ∙ either (eq_by_cmp node_cmp q peer) (Some other) (Some one) (maps.get maps.empty q)
    ∙ sym (maps.get-insert node_cmp_total maps.empty peer other q))
  where
    either : (b : Bool) (x y z : Option Taken) → cond b x (cond b y z) ≡ cond b x z
    either true x y z = refl
    either false x y z = refl

-- an edge with these entries and peers
abbrev kept_with : EdgePlace → Entries → FinMap node_cmp Taken → Control
kept_with place entries peers = refreshed place 0 (record no_control { entries = entries; peers = peers })

-- the peer's table after changes, where it has one
abbrev with_changes : FinMap node_cmp Taken → NodeId → Message → Option Taken → FinMap node_cmp Taken
with_changes peers peer message o =
    elim o as (λ _. FinMap node_cmp Taken) [ None ↦ peers | Some taken ↦ maps.insert peers peer (fold (taken_change 0) taken (changes_of message)) ]

pub update_keeps : (place : EdgePlace) (peer : NodeId) (table : Table) (entries : Entries) (message : Message)
    → control_step place 0 (edge_with place peer table entries) (Update peer message)
    ≡ edge_with place peer (applied_all table (map as_table_change (changes_of message))) entries
update_keeps place peer table entries message =
    let taken : Taken = taken_at_once table in
    let peers : FinMap node_cmp Taken = maps.insert maps.empty peer taken in
    let old : Control = edge_with place peer table entries in
    ap (λ (o : Option Taken). refreshed place 0 (elim o as (λ _. Control)
    [ None ↦ old | Some taken ↦ record old { peers = maps.insert peers peer (fold (taken_change 0) taken (changes_of message)) } ]))
    (put_here node_cmp_total node_cmp_exact maps.empty peer taken)
    ∙ ap (λ (t : Taken). kept_with place entries (maps.insert peers peer t)) (changes_at_once table (changes_of message))
    ∙ ap (kept_with place entries) (put_again peer taken (taken_at_once (applied_all table (map as_table_change (changes_of message)))))

-- ---- the first step

pub raise_keeps : (place : EdgePlace) (peer : NodeId)
    → control_step place 0 no_control (Raised kinds.Bgp peer) ≡ edge_with place peer maps.empty maps.empty
raise_keeps place peer = ap (λ (t : Taken). kept_with place maps.empty (maps.insert maps.empty peer t)) (sym none_at_once)

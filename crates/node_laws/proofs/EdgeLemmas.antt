-- An edge after a step, and a label node after the calls of the step.
use Rattle.std.proofs.Common.{◌≡◌, ◌∙◌, refl, sym, ap, subst, ℕ, List, [], ◌∷◌, ◌++◌, map, Option, None, Some}
use Rattle.std.specs.List.{flat_map}
use Rattle.std.specs.FinMap as maps
use Rattle.std.specs.FinMap.{FinMap}
use Rattle.std.proofs.lemmas.Option.{same_Some}
use Rattle.mv_base.specs.declared.ids.NodeId.{NodeId}
use Rattle.edge_defs.specs.bgp_messages.declared.bgp_attributes.key.Key.{Key}
use Rattle.mv_base.specs.declared.table_defs.change.Change.{Change}
use Rattle.scenario_defs.specs.declared.event.Kind.TheVariants as kinds
use Rattle.label_defs.specs.LabelData.{LabelData}
use Rattle.label_defs.specs.Node.{LacksLabel, LabelNode, one_more, raises_of}
use Rattle.label_defs.proofs.SettleLemmas.{bind_some}
use Rattle.network_defs.specs.session_defs.PeerSession.{PeerSession, peer_cmp}
use Rattle.edge_defs.specs.Edge.{Control, EdgeData}
use Rattle.edge_defs.specs.Held.{put_to}
use Rattle.edge_defs.specs.Keys.{Value}
use Rattle.edge_defs.specs.Place.{EdgePlace, addr_of, label_place}
use Rattle.edge_defs.specs.Steps.{Call, Customer, Update, Label, Raised, Noticed, Timers, Rerouted}
use Rattle.edge_defs.specs.Steps.{EdgeStepped, LabelStep, edge_step, control_step, own_label_call, changed_leaves, label_row, part_after, raised_after}
use Rattle.edge_defs.specs.Tunnels.{leaves}
use Rattle.network_defs.specs.mvpn_model.Sessions.{edges}
use Rattle.network_defs.specs.node_defs.EdgeState.{EdgeState, thereafter, called, called_unless, edge_puts, prepared, stepped_unless, waiting_at, with_puts}
use Rattle.network_defs.specs.node_defs.Puts.{bgp_put, bgp_puts, label_puts, update_unit}
use Rattle.node_laws.specs.Places.{AreLabelOctets, label_session, node_place}
use Rattle.node_laws.specs.Rows.{IsLabelNode, all_called, label_calls}
use Rattle.node_laws.proofs.OctetLemmas.{lost_waits, waiting_less, waiting_then}
use Rattle.node_laws.proofs.RowLemmas.{changes_notice_none, lacks_after, octets_from, part_thereafter, prepared_by, puts_again, raises_after, then_none}

-- ---- what precedes a step

edge_data : (call : Call) (old : EdgeState) → (prepared call old).edge ≡ old.edge
edge_data (Update peer message) old = refl
edge_data (Label neighbour message) old = refl
edge_data (Customer call) old = refl
edge_data (Raised kind peer) old = refl
edge_data (Noticed kind peer) old = refl
edge_data Timers old = refl
edge_data Rerouted old = refl

edge_spent : (call : Call) (old : EdgeState) → (prepared call old).spent ≡ old.spent
edge_spent (Update peer message) old = refl
edge_spent (Label neighbour message) old = refl
edge_spent (Customer call) old = refl
edge_spent (Raised kind peer) old = refl
edge_spent (Noticed kind peer) old = refl
edge_spent Timers old = refl
edge_spent Rerouted old = refl

edge_waits : (call : Call) (old : EdgeState) (node : LabelNode) → AreLabelOctets old.waiting node.waiting
    → AreLabelOctets (prepared call old).waiting (prepared_by (own_label_call call) node).waiting
edge_waits (Update peer message) old node same = same
edge_waits (Label neighbour message) old node same = same
edge_waits (Customer call) old node same = same
edge_waits (Raised kinds.Bgp peer) old node same = same
edge_waits (Raised kinds.Ldp peer) old node same = same
edge_waits (Noticed kinds.Bgp peer) old node same =
    λ other. waiting_less old.waiting (record { kind = kinds.Bgp; peer = peer }) (label_session other) ∙ same other
edge_waits (Noticed kinds.Ldp peer) old node same = lost_waits old.waiting node.waiting peer same
edge_waits Timers old node same = same
edge_waits Rerouted old node same = same

-- a raise of an LDP session is counted at the edge as at its label node
edge_raises : (call : Call) (old : EdgeState) (node : LabelNode) → node.raises ≡ old.raises
    → (prepared_by (own_label_call call) node).raises ≡ (prepared call old).raises
edge_raises (Update peer message) old node same = same
edge_raises (Label neighbour message) old node same = same
edge_raises (Customer call) old node same = same
edge_raises (Raised kinds.Bgp peer) old node same = same
edge_raises (Raised kinds.Ldp peer) old node same = λ i. maps.insert (same i) peer (one_more (raises_of (same i) peer))
edge_raises (Noticed kinds.Bgp peer) old node same = same
edge_raises (Noticed kinds.Ldp peer) old node same = same
edge_raises Timers old node same = same
edge_raises Rerouted old node same = same

-- ---- what is put to BGP peers

module _ (me : NodeId) where
  one_stays : (to : NodeId) (changes : List (Change Key Value)) (waiting : FinMap peer_cmp (List ℕ)) (peer : NodeId)
      → waiting_at (with_puts (map (bgp_put me to) changes) waiting) (label_session peer) ≡ waiting_at waiting (label_session peer)
  one_stays to [] waiting peer = refl
  one_stays to (change ∷ more) waiting peer =
      let session : PeerSession = record { kind = kinds.Bgp; peer = to } in
      let octets : List ℕ = waiting_at waiting session ++ (update_unit change).octets in
      one_stays to more (maps.insert waiting session octets) peer ∙ waiting_then waiting session (label_session peer) octets

  pub each_stays : (told : NodeId → List (Change Key Value)) (peers : List NodeId) (waiting : FinMap peer_cmp (List ℕ)) (peer : NodeId)
      → waiting_at (with_puts (flat_map (λ to. map (bgp_put me to) (told to)) peers) waiting) (label_session peer)
      ≡ waiting_at waiting (label_session peer)
  each_stays told [] waiting peer = refl
  each_stays told (to ∷ more) waiting peer =
      ap (λ (w : FinMap peer_cmp (List ℕ)). waiting_at w (label_session peer))
      (puts_again (map (bgp_put me to) (told to)) (flat_map (λ to. map (bgp_put me to) (told to)) more) waiting)
      ∙ each_stays told more (with_puts (map (bgp_put me to) (told to)) waiting) peer ∙ one_stays to (told to) waiting peer

bgp_stays : (place : EdgePlace) (old new : Control) (waiting : FinMap peer_cmp (List ℕ)) (own : FinMap _ (List ℕ)) → AreLabelOctets waiting own
    → AreLabelOctets (with_puts (bgp_puts place old new) waiting) own
bgp_stays place old new waiting own same = λ peer. each_stays place.me (put_to place old new) (edges place.scenario) waiting peer ∙ same peer

-- ---- a step

module _ (place : EdgePlace) (now : ℕ) (call : Call) where
  abbrev pub after : EdgeState → EdgeStepped → EdgeState
  after old new = record (prepared call old) { edge = new.edge; waiting = with_puts (edge_puts place now old.edge new) (prepared call old).waiting }

  pub edge_called : (old : EdgeState) (o : Option EdgeStepped) → old.spent ≡ None → edge_step place now old.edge call ≡ o
      → called place now old call ≡ thereafter place now (prepared call old) o
  edge_called old o e h =
      (λ i. called_unless (e i) place now old call)
      ∙ (λ i. stepped_unless ((edge_spent call old ∙ e) i) place now (prepared call old) call)
      ∙ (λ i. thereafter place now (prepared call old) ((ap (λ (d : EdgeData). edge_step place now d call) (edge_data call old) ∙ h) i))

  pub edge_after : (old : EdgeState) (new : EdgeStepped) → old.spent ≡ None → edge_step place now old.edge call ≡ Some new
      → called place now old call ≡ after old new
  edge_after old new e h = edge_called old (Some new) e h
      ∙ (λ i. record (prepared call old) {
        edge = new.edge;
        waiting =
            with_puts (edge_puts place now (edge_data call old i) new) (prepared call old).waiting;
      })

  abbrev pub made_by : EdgeState → List LabelStep → EdgeStepped
  made_by old row =
      record {
        edge =
            record {
              control = control_step place now old.edge.control call;
              part = part_after old.edge.part row;
              raised =
                  raised_after now old.edge.raised call;
            };
        row = row;
      }

  pub node_after : (old : EdgeState) (node : LabelNode) (new : EdgeStepped) → IsLabelNode old node → old.spent ≡ None
      → edge_step place now old.edge call ≡ Some new
      → IsLabelNode (called place now old call) (all_called (node_place place.scenario place.me) place.core now node
      (label_calls place now old.edge.control call))
  node_after old node new is e h =
      let calls = label_calls place now old.edge.control call in
      let changes = changed_leaves (leaves place old.edge.control) (leaves place (control_step place now old.edge.control call)) in
      let none = changes_notice_none (leaves place old.edge.control) (leaves place (control_step place now old.edge.control call)) in
      let made = bind_some (label_row place now old.edge.part calls) (λ row. Some (made_by old row)) new h in
      let row : List LabelStep = made.0 in
      let made_row : label_row place now node.part calls ≡ Some row = (λ i. label_row place now (is.part i) calls) ∙ made.1 in
      let unspent : node.spent ≡ None = is.spent ∙ e in
      let there = part_thereafter place now node calls row unspent made_row in
      let bgp = bgp_puts place old.edge.control (control_step place now old.edge.control call) in
      let told = flat_map (label_puts place.me (addr_of place.scenario place.me) (label_place place.scenario place.core place.me) now) row in
      let own = octets_from place now node (own_label_call call) changes row (with_puts bgp (prepared call old).waiting) none unspent made_row
      (bgp_stays place old.edge.control (control_step place now old.edge.control call) (prepared call old).waiting
      (prepared_by (own_label_call call) node).waiting (edge_waits call old node is.waiting)) in
      let after_calls = all_called (node_place place.scenario place.me) place.core now node calls in
      subst (λ (x : EdgeState). IsLabelNode x after_calls) (sym (edge_after old new e h))
      (subst (λ (x : EdgeStepped). IsLabelNode (after old x) after_calls) (same_Some (made_by old row) new made.2) (record {
        part = there.part ∙ ap (λ (p : LabelData). part_after p row) is.part;
        waiting =
            subst (λ (w : FinMap peer_cmp (List ℕ)). AreLabelOctets w after_calls.waiting) (sym (puts_again bgp told (prepared call old).waiting))
            own;
        raises = raises_after place now node (own_label_call call) (leaves place old.edge.control)
            (leaves place (control_step place now old.edge.control call)) unspent
            ∙ edge_raises call old node is.raises;
        spent = there.unspent ∙ sym (edge_spent call old ∙ e);
      }))

  pub both_lack : (old : EdgeState) (node : LabelNode) → IsLabelNode old node → old.spent ≡ None → edge_step place now old.edge call ≡ None
      → ((called place now old call).spent ≡ Some LacksLabel)
      × ((all_called (node_place place.scenario place.me) place.core now node (label_calls place now old.edge.control call)).spent
      ≡ Some LacksLabel)
  both_lack old node is e h =
      let calls = label_calls place now old.edge.control call in
      let lacking : label_row place now old.edge.part calls ≡ None = then_none (label_row place now old.edge.part calls) (made_by old) h in (
        ap (λ (x : EdgeState). x.spent) (edge_called old None e h),
        lacks_after place now node calls (is.spent ∙ e) ((λ i. label_row place now (is.part i) calls) ∙ lacking),
      )

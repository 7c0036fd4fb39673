-- Which ends of sessions are up after a call, and which sessions have a stream.
use Rattle.std.proofs.Common.{◌≡◌, ◌∙◌, refl, sym, ap, ℕ, ◌&&◌, ◌++◌, not, Bool, true, false, cond, List, [], ◌∷◌, map, fold, Option, None, Some, option_map, is_some, if◌then◌else◌}
use Rattle.std.specs.Ordering.{eq_by_cmp}
use Rattle.std.specs.List.{filter}
use Rattle.std.specs.FinMap as maps
use Rattle.std.specs.FinMap.{FinMap}
use Rattle.std.specs.FinSet as sets
use Rattle.std.specs.FinSet.{FinSet}
use Rattle.std.specs.Ordering.{nat_cmp}
use Rattle.std.proofs.lemmas.Option.{none-some, same_Some}
use Rattle.mv_base.specs.Number.{◌>>?◌}
use Rattle.mv_base.specs.declared.ids.NodeId.{NodeId}
use Rattle.mldp.specs.declared.mldp_fec.fec.Fec.{Fec}
use Rattle.mv_base.specs.framing.Feed.{unfed}
use Rattle.table_laws.proofs.CompareLemmas.{one_key}
use Rattle.bgp_messages.specs.declared.bgp_attributes.update.Message.{Message}
use Rattle.bgp_messages.specs.bgp_update.Table.{changes_of}
use Rattle.scenario_defs.specs.Kinds.{same_kind}
use Rattle.scenario_defs.specs.declared.event.Kind.{Kind}
use Rattle.scenario_defs.specs.declared.event.Kind.TheVariants as kinds
use Rattle.label_defs.specs.declared.end.End.{End}
use Rattle.label_defs.specs.Keys.{fec_cmp, node_cmp}
use Rattle.label_defs.specs.LabelData.{LabelData, Place}
use Rattle.label_defs.specs.Members.{in_order}
use Rattle.label_defs.specs.Node.{LabelNode, LacksLabel}
use Rattle.label_defs.specs.Settling.{Stepped}
use Rattle.label_defs.specs.Steps as steps
use Rattle.label_defs.specs.Steps.{effect, hold_run, label_step, raised_end}
use Rattle.label_defs.proofs.IdLemmas.{effect_ends, passed, step_end}
use Rattle.label_defs.proofs.KeyLemmas.{node_cmp_exact, node_cmp_total}
use Rattle.label_defs.proofs.SettleLemmas.{bind_some}
use Rattle.label_defs.proofs.TimerLemmas.{timed_end}
use Rattle.network_defs.specs.session_defs.Octets.{Stream}
use Rattle.network_defs.specs.session_defs.PeerSession.{peer_cmp}
use Rattle.edge_defs.specs.Edge.{Control, Taken}
use Rattle.edge_defs.specs.Place.{EdgePlace, label_place}
use Rattle.edge_defs.specs.Steps.{Call, Customer, Update, Label, Raised, Noticed, Timers, Rerouted, LabelStep, changed_leaves, control_step, label_row, one_call, own_label_call, part_after, peers_run, taken_change, with_update}
use Rattle.edge_routing.proofs.edge_words.edge_laws.Taken.{get-peers_run, table_run}
use Rattle.node_laws.specs.Places.{node_place}
use Rattle.node_laws.specs.Rows.{all_called}
use Rattle.node_laws.proofs.OctetLemmas.{peer_total, then_equal}
use Rattle.node_laws.proofs.RowLemmas.{lacks_after, part_thereafter}
use Rattle.edge_routing.specs.edge_streams.Kept.{session}
use Rattle.edge_core.specs.Answers.{streams_after}

-- whether an end is up after a call, by whether it was so before
abbrev pub up_by : Kind → Call → NodeId → Bool → Bool
up_by kind (Raised own peer) q was = cond (same_kind kind own && eq_by_cmp node_cmp q peer) true was
up_by kind (Noticed own peer) q was = cond (same_kind kind own && eq_by_cmp node_cmp q peer) false was
up_by kind other q was = was

some_either : {X : Type 0} (b : Bool) (x : X) (o : Option X) → is_some (cond b (Some x) o) ≡ cond b true (is_some o)
some_either true x o = refl
some_either false x o = refl

none_either : {X : Type 0} (b : Bool) (o : Option X) → is_some (cond b None o) ≡ cond b false (is_some o)
none_either true o = refl
none_either false o = refl

-- ---- streams

session_tie : (a b : Kind) (q peer : NodeId) → eq_by_cmp peer_cmp (session a q) (session b peer) ≡ (same_kind a b && eq_by_cmp node_cmp q peer)
session_tie kinds.Bgp kinds.Bgp q peer = then_equal (nat_cmp q.0 peer.0)
session_tie kinds.Ldp kinds.Ldp q peer = then_equal (nat_cmp q.0 peer.0)
session_tie kinds.Bgp kinds.Ldp q peer = refl
session_tie kinds.Ldp kinds.Bgp q peer = refl

pub streams_up : (kind : Kind) (call : Call) (streams : FinMap peer_cmp Stream) (q : NodeId)
    → is_some (maps.get (streams_after call streams) (session kind q)) ≡ up_by kind call q (is_some (maps.get streams (session kind q)))
streams_up kind (Raised own peer) streams q =
    ap (λ (o : Option Stream). is_some o) (maps.get-insert peer_total streams (session own peer) unfed (session kind q))
    ∙ some_either (eq_by_cmp peer_cmp (session kind q) (session own peer)) unfed (maps.get streams (session kind q))
    ∙ ap (λ (b : Bool). cond b true (is_some (maps.get streams (session kind q)))) (session_tie kind own q peer)
streams_up kind (Noticed own peer) streams q =
    ap (λ (o : Option Stream). is_some o) (maps.get-remove peer_total streams (session own peer) (session kind q))
    ∙ none_either (eq_by_cmp peer_cmp (session kind q) (session own peer)) (maps.get streams (session kind q))
    ∙ ap (λ (b : Bool). cond b false (is_some (maps.get streams (session kind q)))) (session_tie kind own q peer)
streams_up kind (Update peer message) streams q = refl
streams_up kind (Label peer message) streams q = refl
streams_up kind (Customer call) streams q = refl
streams_up kind Timers streams q = refl
streams_up kind Rerouted streams q = refl

-- ---- BGP

peers_put : (peers : FinMap node_cmp Taken) (peer q : NodeId) (taken : Taken)
    → is_some (maps.get (maps.insert peers peer taken) q) ≡ cond (eq_by_cmp node_cmp q peer) true (is_some (maps.get peers q))
peers_put peers peer q taken =
    ap (λ (o : Option Taken). is_some o) (maps.get-insert node_cmp_total peers peer taken q)
    ∙ some_either (eq_by_cmp node_cmp q peer) taken (maps.get peers q)

peers_lost : (peers : FinMap node_cmp Taken) (peer q : NodeId)
    → is_some (maps.get (maps.remove peers peer) q) ≡ cond (eq_by_cmp node_cmp q peer) false (is_some (maps.get peers q))
peers_lost peers peer q =
    ap (λ (o : Option Taken). is_some o) (maps.get-remove node_cmp_total peers peer q) ∙ none_either (eq_by_cmp node_cmp q peer) (maps.get peers q)

updated : (now : ℕ) (peer : NodeId) (message : Message) (control : Control) (q : NodeId) (o : Option Taken) → maps.get control.peers peer ≡ o
    → is_some (maps.get (elim o as (λ _. Control) [
      | None ↦ control
      | Some taken ↦ record control { peers = maps.insert control.peers peer (fold (taken_change now) taken (changes_of message)) }
    ]).peers q) ≡ is_some (maps.get control.peers q)
updated now peer message control q None e = refl
updated now peer message control q (Some taken) e =
    peers_put control.peers peer q (fold (taken_change now) taken (changes_of message)) ∙ by (eq_by_cmp node_cmp q peer) refl
  where
    by : (b : Bool) → eq_by_cmp node_cmp q peer ≡ b → cond b true (is_some (maps.get control.peers q)) ≡ is_some (maps.get control.peers q)
    by true t =
        sym (ap (λ (n : NodeId). is_some (maps.get control.peers n)) (one_key node_cmp_exact q peer t) ∙ ap (λ (p : Option Taken). is_some p) e)
    by false t = refl

peers_updated : (now : ℕ) (peer : NodeId) (message : Message) (control : Control) (q : NodeId)
    → is_some (maps.get (with_update now peer message control).peers q) ≡ is_some (maps.get control.peers q)
peers_updated now peer message control q = updated now peer message control q (maps.get control.peers peer) refl

peers_timed : (place : EdgePlace) (now : ℕ) (peers : FinMap node_cmp Taken) (q : NodeId)
    → is_some (maps.get (peers_run place now peers) q) ≡ is_some (maps.get peers q)
peers_timed place now peers q = ap (λ (o : Option Taken). is_some o) (get-peers_run place now peers q) ∙ by (maps.get peers q)
  where
    by : (o : Option Taken) → is_some (option_map (table_run place now q) o) ≡ is_some o
    by None = refl
    by (Some taken) = refl

pub peers_up : (place : EdgePlace) (now : ℕ) (control : Control) (call : Call) (q : NodeId)
    → is_some (maps.get (control_step place now control call).peers q) ≡ up_by kinds.Bgp call q (is_some (maps.get control.peers q))
peers_up place now control (Raised kinds.Bgp peer) q = peers_put control.peers peer q maps.empty
peers_up place now control (Raised kinds.Ldp peer) q = refl
peers_up place now control (Noticed kinds.Bgp peer) q = peers_lost control.peers peer q
peers_up place now control (Noticed kinds.Ldp peer) q = refl
peers_up place now control (Update peer message) q = peers_updated now peer message control q
peers_up place now control (Label peer message) q = refl
peers_up place now control (Customer call) q = refl
peers_up place now control Timers q = peers_timed place now control.peers q
peers_up place now control Rerouted q = refl

-- ---- LDP

-- whether the end is up after a label step
abbrev up_in : steps.Call → NodeId → Bool → Bool
up_in (steps.Raised peer) q was = cond (eq_by_cmp node_cmp q peer) true was
up_in (steps.Noticed peer) q was = cond (eq_by_cmp node_cmp q peer) false was
up_in other q was = was

abbrev up_in_all : List steps.Call → NodeId → Bool → Bool
up_in_all [] q was = was
up_in_all (call ∷ more) q was = up_in_all more q (up_in call q was)

kept_some : {X Y : Type 0} (f : X → Y) (o : Option X) → is_some (option_map f o) ≡ is_some o
kept_some f None = refl
kept_some f (Some x) = refl

effect_up : (place : Place) (now : ℕ) (part : LabelData) (call : steps.Call) (q : NodeId)
    → is_some (maps.get (effect place now part call).0.part.ends q) ≡ up_in call q (is_some (maps.get part.ends q))
effect_up place now part (steps.Taken from message) q =
    ap (λ (ends : FinMap node_cmp End). is_some (maps.get ends q)) (effect_ends place now part from message)
effect_up place now part (steps.Want fec) q = refl
effect_up place now part (steps.Unwant fec) q = refl
effect_up place now part (steps.Raised peer) q =
    ap (λ (o : Option End). is_some o) (maps.get-insert node_cmp_total part.ends peer (raised_end now) q)
    ∙ some_either (eq_by_cmp node_cmp q peer) (raised_end now) (maps.get part.ends q)
effect_up place now part (steps.Noticed peer) q =
    ap (λ (o : Option End). is_some o) (maps.get-remove node_cmp_total part.ends peer q)
    ∙ none_either (eq_by_cmp node_cmp q peer) (maps.get part.ends q)
effect_up place now part steps.Timers q =
    ap (λ (o : Option End). is_some o) (timed_end place now part q) ∙ kept_some (hold_run place.life now) (maps.get part.ends q)
effect_up place now part steps.Rerouted q = refl

step_up : (place : Place) (now : ℕ) (part : LabelData) (call : steps.Call) (new : Stepped) (q : NodeId) → label_step place now part call ≡ Some new
    → is_some (maps.get new.part.ends q) ≡ up_in call q (is_some (maps.get part.ends q))
step_up place now part call new q e =
    ap (λ (o : Option End). is_some o) (step_end place now part call new q e)
    ∙ (kept_some (passed q new.puts) (maps.get (effect place now part call).0.part.ends q) ∙ effect_up place now part call q)

row_up : (place : EdgePlace) (now : ℕ) (part : LabelData) (calls : List steps.Call) (row : List LabelStep) (q : NodeId)
    → label_row place now part calls ≡ Some row
    → is_some (maps.get (part_after part row).ends q) ≡ up_in_all calls q (is_some (maps.get part.ends q))
row_up place now part [] row q e = ap (λ (r : List LabelStep). is_some (maps.get (part_after part r).ends q)) (sym (same_Some [] row e))
row_up place now part (call ∷ more) row q e =
    let own = label_place place.scenario place.core place.me in
    let first =
    bind_some (label_step own now part call) (λ new. label_row place now new.part more >>? λ thereafter. Some
    (record { old = part; call = call; new = new } ∷ thereafter)) row e in
    let rest =
    bind_some (label_row place now first.0.part more) (λ thereafter. Some (record { old = part; call = call; new = first.0 } ∷ thereafter)) row first.2 in
    let whole : record { old = part; call = call; new = first.0 } ∷ rest.0 ≡ row =
    same_Some (record { old = part; call = call; new = first.0 } ∷ rest.0) row rest.2 in
    ap (λ (r : List LabelStep). is_some (maps.get (part_after part r).ends q)) (sym whole)
    ∙ (row_up place now first.0.part more rest.0 q rest.1 ∙ ap (λ (b : Bool). up_in_all more q b) (step_up own now part call first.0 q first.1))

leaves_up : (new : FinSet fec_cmp) (fecs : List Fec) (q : NodeId) (was : Bool)
    → up_in_all (map (λ fec. if sets.contains new fec then steps.Want fec else steps.Unwant fec) fecs) q was ≡ was
leaves_up new [] q was = refl
leaves_up new (fec ∷ more) q was = by (sets.contains new fec) (leaves_up new more q)
  where
    by : (b : Bool) → ((x : Bool) → up_in_all (map (λ fec. if sets.contains new fec then steps.Want fec else steps.Unwant fec) more) q x ≡ x)
        → up_in_all (map (λ fec. if sets.contains new fec then steps.Want fec else steps.Unwant fec) more) q
        (up_in (cond b (steps.Want fec) (steps.Unwant fec)) q was) ≡ was
    by true rest = rest was
    by false rest = rest was

own_up : (call : Call) (changes : List steps.Call) (q : NodeId) (was : Bool) → ((x : Bool) → up_in_all changes q x ≡ x)
    → up_in_all (one_call (own_label_call call) ++ changes) q was ≡ up_by kinds.Ldp call q was
own_up (Raised kinds.Bgp peer) changes q was none = none was
own_up (Raised kinds.Ldp peer) changes q was none = none (cond (eq_by_cmp node_cmp q peer) true was)
own_up (Noticed kinds.Bgp peer) changes q was none = none was
own_up (Noticed kinds.Ldp peer) changes q was none = none (cond (eq_by_cmp node_cmp q peer) false was)
own_up (Update peer message) changes q was none = none was
own_up (Label peer message) changes q was none = none was
own_up (Customer call) changes q was none = none was
own_up Timers changes q was none = none was
own_up Rerouted changes q was none = none was

-- the ends of a label node after the calls of a step
pub ends_up : (place : EdgePlace) (now : ℕ) (call : Call) (old new : FinSet fec_cmp) (node : LabelNode) (q : NodeId) → node.spent ≡ None
    → (all_called (node_place place.scenario place.me) place.core now node (one_call (own_label_call call) ++ changed_leaves old new)).spent ≡ None
    → is_some (maps.get (all_called (node_place place.scenario place.me) place.core now node
    (one_call (own_label_call call) ++ changed_leaves old new)).part.ends q)
    ≡ up_by kinds.Ldp call q (is_some (maps.get node.part.ends q))
ends_up place now call old new node q e goes = by (label_row place now node.part calls) refl
  where
    calls : List steps.Call
    calls = one_call (own_label_call call) ++ changed_leaves old new

    by : (o : Option (List LabelStep)) → label_row place now node.part calls ≡ o
        → is_some (maps.get (all_called (node_place place.scenario place.me) place.core now node calls).part.ends q)
        ≡ up_by kinds.Ldp call q (is_some (maps.get node.part.ends q))
    by None h = absurd (none-some LacksLabel (sym goes ∙ lacks_after place now node calls e h))
    by (Some row) h =
        ap (λ (part : LabelData). is_some (maps.get part.ends q)) (part_thereafter place now node calls row e h).part
        ∙ (row_up place now node.part calls row q h
        ∙ own_up call (changed_leaves old new) q (is_some (maps.get node.part.ends q))
        (leaves_up new (filter (λ fec. not (sets.contains old fec && sets.contains new fec)) (in_order (sets.union old new))) q))

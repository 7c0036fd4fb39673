-- Which ends are up after a call, and which sessions have a stream.
use Rattle.std.proofs.Common.{◌≡◌, ◌∙◌, refl, sym, ap, ℕ, Bool, true, false, cond, [], Option, None, Some, is_some, option_map}
use Rattle.std.specs.Ordering.{eq_by_cmp, nat_cmp}
use Rattle.std.specs.FinMap as maps
use Rattle.std.specs.FinMap.{FinMap}
use Rattle.std.proofs.lemmas.Option.{none-some}
use Rattle.mv_base.specs.declared.ids.NodeId.{NodeId}
use Rattle.mv_base.specs.core_walks.Core.{Core}
use Rattle.mv_base.specs.framing.Feed.{unfed}
use Rattle.label_defs.specs.declared.end.End.{End}
use Rattle.label_defs.specs.Keys.{node_cmp}
use Rattle.label_defs.specs.LabelData.{LabelData, Place}
use Rattle.label_defs.specs.Node.{LabelNode, LacksLabel, NodePlace, addr_in, thereafter, called, called_unless, place_in, prepared}
use Rattle.label_defs.specs.Settling.{Stepped}
use Rattle.label_defs.specs.Steps.{Call, Taken, Want, Unwant, Raised, Noticed, Timers, Rerouted, effect, hold_run, label_step, raised_end}
use Rattle.label_defs.proofs.IdLemmas.{effect_ends, passed, step_end}
use Rattle.label_defs.proofs.KeyLemmas.{node_cmp_total}
use Rattle.label_defs.proofs.TimerLemmas.{timed_end}
use Rattle.network_defs.specs.session_defs.Octets.{Stream}
use Rattle.network_defs.specs.session_defs.PeerSession.{PeerSession, peer_cmp, stream_at}
use Rattle.edge_core.proofs.node_laws.OctetLemmas.{then_equal}
use Rattle.edge_streams.proofs.DrainLemmas.{stream_or}
use Rattle.edge_streams.proofs.FedLemmas.{put_quiet}
use Rattle.edge_streams.proofs.SessionMaps.{peer_cmp_total}
use Rattle.wire_laws.specs.CoreNodes.{ldp_with, streams_after}

-- whether an end is up after a call, by whether it was so before
abbrev pub up_by : Call → NodeId → Bool → Bool
up_by (Raised peer) q was = cond (eq_by_cmp node_cmp q peer) true was
up_by (Noticed peer) q was = cond (eq_by_cmp node_cmp q peer) false was
up_by other q was = was

some_either : {X : Type 0} (b : Bool) (x : X) (o : Option X) → is_some (cond b (Some x) o) ≡ cond b true (is_some o)
some_either true x o = refl
some_either false x o = refl

none_either : {X : Type 0} (b : Bool) (o : Option X) → is_some (cond b None o) ≡ cond b false (is_some o)
none_either true o = refl
none_either false o = refl

kept_some : {X Y : Type 0} (f : X → Y) (o : Option X) → is_some (option_map f o) ≡ is_some o
kept_some f None = refl
kept_some f (Some x) = refl

-- ---- streams

session_tie : (q peer : NodeId) → eq_by_cmp peer_cmp (ldp_with q) (ldp_with peer) ≡ eq_by_cmp node_cmp q peer
session_tie q peer = then_equal (nat_cmp q.0 peer.0)

pub streams_up : (call : Call) (streams : FinMap peer_cmp Stream) (q : NodeId)
    → is_some (maps.get (streams_after call streams) (ldp_with q)) ≡ up_by call q (is_some (maps.get streams (ldp_with q)))
streams_up (Raised peer) streams q =
    ap (λ (o : Option Stream). is_some o) (maps.get-insert peer_cmp_total streams (ldp_with peer) unfed (ldp_with q))
    ∙ (some_either (eq_by_cmp peer_cmp (ldp_with q) (ldp_with peer)) unfed (maps.get streams (ldp_with q))
    ∙ ap (λ (b : Bool). cond b true (is_some (maps.get streams (ldp_with q)))) (session_tie q peer))
streams_up (Noticed peer) streams q =
    ap (λ (o : Option Stream). is_some o) (maps.get-remove peer_cmp_total streams (ldp_with peer) (ldp_with q))
    ∙ (none_either (eq_by_cmp peer_cmp (ldp_with q) (ldp_with peer)) (maps.get streams (ldp_with q))
    ∙ ap (λ (b : Bool). cond b false (is_some (maps.get streams (ldp_with q)))) (session_tie q peer))
streams_up (Taken from message) streams q = refl
streams_up (Want fec) streams q = refl
streams_up (Unwant fec) streams q = refl
streams_up Timers streams q = refl
streams_up Rerouted streams q = refl

-- a session that comes up or is lost has nothing that waits in its stream
pub still_quiet : (call : Call) (streams : FinMap peer_cmp Stream) → ((own : PeerSession) → (stream_at streams own).waiting ≡ [])
    → (own : PeerSession) → (stream_at (streams_after call streams) own).waiting ≡ []
still_quiet (Raised peer) streams quiet own = put_quiet streams (ldp_with peer) unfed refl quiet own
still_quiet (Noticed peer) streams quiet own =
    ap (λ (o : Option Stream). (stream_or o).waiting) (maps.get-remove peer_cmp_total streams (ldp_with peer) own)
    ∙ by (eq_by_cmp peer_cmp own (ldp_with peer))
  where
    by : (b : Bool) → (stream_or (cond b None (maps.get streams own))).waiting ≡ []
    by true = refl
    by false = quiet own
still_quiet (Taken from message) streams quiet own = quiet own
still_quiet (Want fec) streams quiet own = quiet own
still_quiet (Unwant fec) streams quiet own = quiet own
still_quiet Timers streams quiet own = quiet own
still_quiet Rerouted streams quiet own = quiet own

-- ---- ends

effect_up : (place : Place) (now : ℕ) (part : LabelData) (call : Call) (q : NodeId)
    → is_some (maps.get (effect place now part call).0.part.ends q) ≡ up_by call q (is_some (maps.get part.ends q))
effect_up place now part (Taken from message) q =
    ap (λ (ends : FinMap node_cmp End). is_some (maps.get ends q)) (effect_ends place now part from message)
effect_up place now part (Want fec) q = refl
effect_up place now part (Unwant fec) q = refl
effect_up place now part (Raised peer) q =
    ap (λ (o : Option End). is_some o) (maps.get-insert node_cmp_total part.ends peer (raised_end now) q)
    ∙ some_either (eq_by_cmp node_cmp q peer) (raised_end now) (maps.get part.ends q)
effect_up place now part (Noticed peer) q =
    ap (λ (o : Option End). is_some o) (maps.get-remove node_cmp_total part.ends peer q)
    ∙ none_either (eq_by_cmp node_cmp q peer) (maps.get part.ends q)
effect_up place now part Timers q =
    ap (λ (o : Option End). is_some o) (timed_end place now part q) ∙ kept_some (hold_run place.life now) (maps.get part.ends q)
effect_up place now part Rerouted q = refl

-- the ends of a label node after a call that it made
pub ends_up : (at : NodePlace) (core : Core) (now : ℕ) (node : LabelNode) (call : Call) (q : NodeId) → node.spent ≡ None
    → (called at core now node call).spent ≡ None
    → is_some (maps.get (called at core now node call).part.ends q) ≡ up_by call q (is_some (maps.get node.part.ends q))
ends_up at core now node call q unspent goes = by (label_step (place_in at core) now node.part call) refl
  where
    called_is : (o : Option Stepped) → label_step (place_in at core) now node.part call ≡ o
        → called at core now node call ≡ thereafter (addr_in at) (place_in at core) now (prepared call node) call o
    called_is o e =
        (λ i. called_unless (unspent i) (addr_in at) (place_in at core) now node call)
        ∙ ap (λ (x : Option Stepped). thereafter (addr_in at) (place_in at core) now (prepared call node) call x) e

    by : (o : Option Stepped) → label_step (place_in at core) now node.part call ≡ o
        → is_some (maps.get (called at core now node call).part.ends q) ≡ up_by call q (is_some (maps.get node.part.ends q))
    by None e = absurd (none-some LacksLabel (sym goes ∙ ap (λ (n : LabelNode). n.spent) (called_is None e)))
    by (Some new) e =
        ap (λ (n : LabelNode). is_some (maps.get n.part.ends q)) (called_is (Some new) e)
        ∙ (ap (λ (o : Option End). is_some o) (step_end (place_in at core) now node.part call new q e)
        ∙ (kept_some (passed q new.puts) (maps.get (effect (place_in at core) now node.part call).0.part.ends q)
        ∙ effect_up (place_in at core) now node.part call q))

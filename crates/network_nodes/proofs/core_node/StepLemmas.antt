-- What a core node is after a call of its label part.
use Rattle.std.proofs.Common.{◌≡◌, ◌∙◌, refl, sym, ap, subst, ℕ, [], false, Option, None, Some, Result, Ok, Err, OnOk, is_some}
use Rattle.std.specs.FinMap as maps
use Rattle.std.specs.FinMap.{FinMap}
use Rattle.std.proofs.lemmas.Option.{none-some}
use Rattle.mv_base.specs.declared.ids.NodeId.{NodeId}
use Rattle.mv_base.specs.core_walks.Core.{Core, IsCoreOf}
use Rattle.mv_base.specs.core_walks.Topology.{Topology}
use Rattle.label_defs.specs.Node.{LabelNode, NodePlace, called}
use Rattle.label_defs.specs.Steps.{Call, Rerouted}
use Rattle.mldp.specs.declared.mldp_msgs.message.LabelMessage.{LabelMessage}
use Rattle.mldp.specs.declared.mldp_msgs.message.LabelMessage.TheVariants as messages
use Rattle.network_defs.specs.session_defs.Octets.{Stream}
use Rattle.network_defs.specs.session_defs.PeerSession.{peer_cmp, stream_at}
use Rattle.mldp_node.specs.NodeData as labels
use Rattle.mldp_node.specs.NodeData.{NodeData, WaitsTowardRootsOf, cause}
use Rattle.mldp_node.specs.Parts.{IsSpelled, WaitTowardRoots}
use Rattle.mldp_node.proofs.NodeLemmas.{waited_one}
use Rattle.mldp_node.specs.declared.fault.NodeFault.{NodeFault}
use Rattle.mldp_node.specs.declared.fault.NodeFault.TheVariants as node_faults
use Rattle.edge_streams.specs.Spelled.{SaysWritableLabel}
use Rattle.wire_laws.specs.CoreNodes.{core_called, ldp_with, streams_after}
use Rattle.network_nodes.specs.declared.core_node.fault.CoreFault.{CoreFault}
use Rattle.network_nodes.specs.declared.core_node.fault.CoreFault.TheVariants as faults
use Rattle.network_nodes.specs.declared.core_node.parts.Parts.{Parts}
use Rattle.network_nodes.specs.core_node.Answers.{fault_of, spent_by}
use Rattle.network_nodes.specs.core_node.Called.{SettlesCall, going, spent_after, told_as}
use Rattle.network_nodes.specs.core_node.View.{IsLive, state_of}
use Rattle.network_nodes.proofs.core_node.UpLemmas.{ends_up, still_quiet, streams_up, up_by}

pub one_fault : (a b : CoreFault) → ◌≡◌ {A = Result (Unit {0}) CoreFault} (Err a) (Err b) → a ≡ b
one_fault a b e = cc

-- an end that is not up is none
pub is_down : {X : Type 0} (o : Option X) → is_some o ≡ false → o ≡ None
is_down None e = refl
is_down (Some x) e = absurd cc

-- a message whose tree and label have a spelling may be taken
pub label_spelled : (message : LabelMessage) → SaysWritableLabel message → IsSpelled message
label_spelled (messages.Mapping fec label) writable = writable
label_spelled (messages.Withdraw fec label) writable = writable
label_spelled (messages.Release fec label) writable = writable
label_spelled (messages.Ignored kind) writable = tt

spends_some : (fault : NodeFault) → spent_by (fault_of (cause fault)) ≡ None → ⊥
spends_some node_faults.NoLabel e = absurd cc
spends_some node_faults.NoMemory e = absurd cc

label_lacking : (fault : NodeFault) → fault_of (cause fault) ≡ faults.NoLabel → fault ≡ node_faults.NoLabel
label_lacking node_faults.NoLabel e = refl
label_lacking node_faults.NoMemory e = absurd cc

module _ (core : Topology) (now : ℕ) (call : Call) (old : Parts) (node : NodeData) (streams : FinMap peer_cmp Stream)
    (live : IsLive old.node old.streams)
    (are : streams ≡ streams_after call old.streams) where
  abbrev new : Parts
  new = record old { node = node; streams = streams }

  -- the label part of the view is that of the parts, since it goes on
  node_goes : (own : Core) → called old.node.place own now old.node.node call
      ≡ called old.node.place own now (record old.node.node { spent = None }) call
  node_goes own = λ i. called old.node.place own now (record old.node.node { spent = live.unspent i }) call

  live_made : (some : (own : Core) × IsCoreOf core.nodes core.links own) → labels.Answers core now call old.node node (Ok tt) → IsLive node streams
  live_made some row = record {
    unspent = row.goes_on;
    up = λ peer.
        ap (λ (s : FinMap peer_cmp Stream). is_some (maps.get s (ldp_with peer))) are
        ∙ (streams_up call old.streams peer ∙ (ap (up_by call peer) (live.up peer) ∙ sym (ends_made peer)));
    quiet = λ own. subst (λ (s : FinMap peer_cmp Stream). (stream_at s own).waiting ≡ []) (sym are) (still_quiet call old.streams live.quiet own);
  }
    where
      node_made : node.node ≡ called old.node.place some.0 now old.node.node call
      node_made = row.made some.0 some.1

      ends_made : (peer : NodeId) → is_some (maps.get node.node.part.ends peer) ≡ up_by call peer (is_some (maps.get old.node.node.part.ends peer))
      ends_made peer =
          ap (λ (n : LabelNode). is_some (maps.get n.part.ends peer)) node_made
          ∙ ends_up old.node.place some.0 now old.node.node call peer live.unspent (ap (λ (n : LabelNode). n.spent) (sym node_made) ∙ row.goes_on)

  state_made : (own : Core) → IsCoreOf core.nodes core.links own → labels.Answers core now call old.node node (Ok tt)
      → state_of (going new) ≡ core_called old.node.place own now (state_of (going old)) call
  state_made own is row =
      λ i. record { node = ((λ j. record node.node { spent = sym row.goes_on j }) ∙ (row.made own is ∙ node_goes own)) i; streams = are i }

  -- what the label part answers is what the node answers
  pub settled : (result : Result (Unit {0}) NodeFault) (answer : Result (Unit {0}) CoreFault) → answer ≡ told_as result
      → (some : (own : Core) × IsCoreOf core.nodes core.links own)
      → labels.Answers core now call old.node node result → SettlesCall core now call (going old) new answer
  settled (Ok done) answer is some row = subst (λ (a : Result (Unit {0}) CoreFault). SettlesCall core now call (going old) new a) (sym is) (record {
    answers = record {
      place = row.place;
      before = λ spent e. absurd (none-some spent e);
      unspent = refl;
      made = λ own told_so. state_made own told_so row;
      goes_on = refl;
      toward = λ none own told_so waits. subst (λ (p : NodePlace). WaitTowardRoots p own node.awaited) (sym row.place)
          (row.toward own told_so (waited_one call old.node.place own old.node.awaited waits));
      lacks = λ e. absurd cc;
      spends = λ fault e. absurd cc;
    };
    live = λ e. live_made some row;
  })
  settled (Err fault) answer is some row = subst (λ (a : Result (Unit {0}) CoreFault). SettlesCall core now call (going old) new a) (sym is) (record {
    answers = record {
      place = row.place;
      before = λ spent e. absurd (none-some spent e);
      unspent = tt;
      made = tt;
      goes_on = tt;
      toward = λ none. absurd (spends_some fault none);
      lacks = λ e none own told_so.
          ap (λ (n : LabelNode). n.spent) (sym (node_goes own))
          ∙ row.lacks (ap (λ (f : NodeFault). Err f) (label_lacking fault (one_fault (fault_of (cause fault)) faults.NoLabel e))) live.unspent own
          told_so;
      spends = λ other e none. ap spent_after e;
    };
    live = λ e. absurd (spends_some fault e);
  })

-- where costs of links changed, each tree that waits does so towards its root by the new ones
pub rerouted_waits : (core : Topology) (now : ℕ) (old new : NodeData) (result : Result (Unit {0}) NodeFault) (answer : Result (Unit {0}) CoreFault)
    → answer ≡ told_as result
    → labels.Answers core now Rerouted old new result → OnOk answer (WaitsTowardRootsOf core new)
rerouted_waits core now old new (Ok done) answer is row = subst (λ (a : Result (Unit {0}) CoreFault). OnOk a (WaitsTowardRootsOf core new)) (sym is)
    (λ own told_so. subst (λ (p : NodePlace). WaitTowardRoots p own new.awaited) (sym row.place) (row.toward own told_so tt))
rerouted_waits core now old new (Err fault) answer is row =
    subst (λ (a : Result (Unit {0}) CoreFault). OnOk a (WaitsTowardRootsOf core new)) (sym is) tt

-- A core node before anything has happened, and one that is not spent.
use Rattle.std.proofs.Common.{◌≡◌, ◌∙◌, refl, sym, ap, ℕ, Option, None, Some, is_some}
use Rattle.std.specs.FinMap as maps
use Rattle.std.specs.FinMap.{FinMap}
use Rattle.std.proofs.lemmas.Option.{none-some}
use Rattle.label_defs.specs.declared.end.End.{End}
use Rattle.label_defs.specs.Keys.{node_cmp}
use Rattle.label_defs.specs.Node.{fresh_node}
use Rattle.network_defs.specs.session_defs.Octets.{Stream}
use Rattle.network_defs.specs.session_defs.PeerSession.{peer_cmp, stream_at}
use Rattle.mldp_node.specs.NodeData.{NodeData, cause}
use Rattle.mldp_node.specs.declared.fault.NodeFault.{NodeFault}
use Rattle.edge_streams.proofs.DrainLemmas.{stream_or}
use Rattle.wire_laws.specs.CoreNodes.{ldp_with}
use Rattle.network_nodes.specs.declared.core_node.parts.Parts.{Parts}
use Rattle.network_nodes.specs.core_node.Called.{seen}
use Rattle.network_nodes.specs.core_node.View.{CoreView, IsLive}

pub first_live : (node : NodeData) (streams : FinMap peer_cmp Stream) (count : ℕ) → node.node ≡ fresh_node count → streams ≡ maps.empty
    → IsLive node streams
first_live node streams count fresh none = record {
  unspent = λ i. (fresh i).spent;
  up = λ peer.
      (λ i. is_some (maps.get (none i) (ldp_with peer)))
      ∙ (ap (λ (o : Option Stream). is_some o) (maps.get-empty {X = Stream} peer_cmp (ldp_with peer))
      ∙ sym ((λ i. is_some (maps.get (fresh i).part.ends peer)) ∙ ap (λ (o : Option End). is_some o) (maps.get-empty {X = End} node_cmp peer)));
  quiet = λ own. (λ i. (stream_at (none i) own).waiting)
      ∙ ap (λ (o : Option Stream). (stream_or o).waiting) (maps.get-empty {X = Stream} peer_cmp own);
}

-- a node that is seen to go on does so
pub seen_unspent : (parts : Parts) (spent : Option NodeFault) (view : CoreView) → seen parts spent ≡ view → view.labels.node.spent ≡ None
    → spent ≡ None
seen_unspent parts None view is e = refl
seen_unspent parts (Some fault) view is e = absurd (none-some (cause fault) (sym e ∙ sym (ap (λ (v : CoreView). v.labels.node.spent) is)))

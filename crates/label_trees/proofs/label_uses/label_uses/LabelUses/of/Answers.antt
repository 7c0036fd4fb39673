use Rattle.std.proofs.Common.{◌∙◌, nat_eq, ℕ, List, ap}
use Rattle.std.specs.Map.{lookup}
use Rattle.std.specs.FinMap as maps
use Rattle.indexmap.specs.IndexMap.{get}
use Rattle.mldp.specs.declared.mldp_fec.fec.Fec.{Fec}
use Rattle.mv_base.specs.declared.ids.NodeId.{NodeId}
use Rattle.tunnel_bindings.specs.Bindings.{Named, name_cmp}
use Rattle.tunnel_bindings.specs.Labels.{Space, state_of}
use Rattle.tunnel_bindings.specs.declared.binding.Incarnation.{Incarnation}
use Rattle.label_defs.specs.Keys.{fec_cmp, node_cmp}
use Rattle.label_trees.specs.declared.label_uses.table.Waiting.{Waiting}
use Rattle.label_trees.specs.declared.label_uses.held.Held.{Held}
use Rattle.label_trees.specs.label_uses.Held.{is_fec, is_node, towards, uses_from}
use Rattle.label_trees.proofs.label_uses.SeenLemmas.{none_held, holds_none, uses_fresh}
use Rattle.label_trees.proofs.label_uses.label_uses.LabelUses.of.Goals as goal

pub invariant_of-result : goal.invariant_of-result
invariant_of-result c =
    holds_none (state_of c.in_ok-space.space) (get nat_eq c.new.result) (maps.get c.of-2.result.kept) (get is_node c.new-4.result)
    (get is_fec c.new-2.result) (get is_fec c.new-3.result)
    (none_held c.in_ok-space.space c.args.life c.args.count c.in_ok-space.ensures)
    (λ label. ap (λ (es : List (ℕ × Held)). lookup (nat_eq label) es) c.new.ensures.empty)
    (λ name. ap (λ (n : Named). maps.get n.kept name) c.of-2.ensures ∙ maps.get-empty name_cmp name)
    (λ fec. ap (λ (es : List (Fec × ℕ)). lookup (is_fec fec) es) c.new-2.ensures.empty)
    (λ fec. ap (λ (es : List (Fec × Waiting)). lookup (is_fec fec) es) c.new-3.ensures.empty)

pub returns : goal.returns
returns c =
    let life = ap (λ (x : Space). x.life) c.in_ok-space.ensures in
    let labels =
    ap (λ (x : Space). uses_from 16 (get nat_eq c.new.result) x.states) c.in_ok-space.ensures
    ∙ uses_fresh 16 c.args.count (get nat_eq c.new.result) in
    let sessions = ap (λ (es : List (NodeId × Incarnation)). maps.from_entries {R = node_cmp} es) c.new-4.ensures.empty in
    let waiting = ap (λ (es : List (Fec × Waiting)). maps.from_entries {R = fec_cmp} (towards es)) c.new-3.ensures.empty in
    λ i. record { life = life i; labels = labels i; waiting = waiting i; sessions = sessions i }

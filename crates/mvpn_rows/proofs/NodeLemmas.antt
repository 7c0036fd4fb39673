-- Of which kind a node is that was looked up in a scenario.
use Rattle.std.specs.Slice.{IsItemAt}
use Rattle.std.proofs.Common.{◌≡◌, ◌∙◌, ℕ, ◌<◌, refl, sym, ap, subst, Bool, true, false, not, List, length, slice_get, Option, Some, None, Bor}
use Rattle.std.proofs.lemmas.Option.{slice_get_read, slice_get_within}
use Rattle.mv_base.specs.declared.ids.NodeId.{NodeId}
use Rattle.scenario_defs.specs.declared.scenario.Node.{Node}
use Rattle.scenario_defs.specs.declared.scenario.Scenario.{Scenario}

abbrev edge_or : Option Node → Bool
edge_or None = false
edge_or (Some node) = node.edge

module _ (scenario : Scenario) (nodes : List Node) (are : nodes ≡ scenario.nodes) (place : ℕ) (n : NodeId) (number : place ≡ n.0) (node : Bor Node)
    (item : IsItemAt nodes place (Some node)) where
  pub node_at : slice_get scenario.nodes n.0 ≡ Some node.now
  node_at = (λ i. slice_get (sym are i) (sym number i)) ∙ slice_get_read nodes (length nodes) place node.now refl item.3.0 item.1

  pub kind_at : edge_or (slice_get scenario.nodes n.0) ≡ node.now.edge
  kind_at = ap edge_or node_at

  pub within_at : n.0 < length scenario.nodes
  within_at = slice_get_within scenario.nodes n.0 node.now node_at

-- A core whose links got another cost.
use Rattle.std.proofs.Common.{◌≡◌, ◌∙◌, ◌≤◌, ℕ, List, subst, sym, ap}
use Rattle.mv_base.specs.declared.core_link.Link.{Link}
use Rattle.mv_base.specs.declared.ids.NodeId.{NodeId}
use Rattle.mv_base.specs.core_walks.Topology.{IsTopology, IsConnected}
use Rattle.mv_base.specs.core_walks.Costs.{with_cost}
use Rattle.mv_base.proofs.core_walks.CostLemmas.{priced_topology, priced_connected}
use Rattle.core_paths.specs.Tables.{IsCore, IsCostTable, IsStepTable}

-- The new links are those of a core as well.
pub new_topology : (a b : NodeId) (cost nodes : ℕ) (links lent new : List Link) → lent ≡ links → new ≡ with_cost a b cost lent
    → (1 ≤ cost) × (cost ≤ 65535) → IsTopology nodes links → IsTopology nodes new
new_topology a b cost nodes links lent new e f bounds h =
    subst (IsTopology nodes) (sym (f ∙ ap (with_cost a b cost) e)) (priced_topology a b cost nodes links bounds.0 bounds.1 h)

pub new_connected : (a b : NodeId) (cost nodes : ℕ) (links lent new : List Link) → lent ≡ links → new ≡ with_cost a b cost lent
    → IsConnected nodes links → IsConnected nodes new
new_connected a b cost nodes links lent new e f h =
    subst (IsConnected nodes) (sym (f ∙ ap (with_cost a b cost) e)) (priced_connected a b cost nodes links h)

pub new_core : (nodes : ℕ) (links lent : List Link) (costs nexts : List ℕ) → lent ≡ links → IsTopology nodes links → IsConnected nodes links
    → IsCostTable lent nodes nodes costs → IsStepTable lent nodes nodes nexts → IsCore nodes links costs nexts
new_core nodes links lent costs nexts e t h least toward = record {
  topology = t;
  connected = h;
  least = subst (λ (l : List Link). IsCostTable l nodes nodes costs) e least;
  toward = subst (λ (l : List Link). IsStepTable l nodes nodes nexts) e toward;
}

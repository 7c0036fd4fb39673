use Rattle.std.proofs.Common.{◌≡◌, drop}
use Rattle.vrf_words.specs.tree_laws.Joins.{first_told}
use Rattle.edge_routing.specs.edge_joins.Upstreams.{import_at}
use Rattle.edge_routing.proofs.edge_joins.upstreams.first_import.Given as goal

abbrev pub invariant-loop-tree : goal.invariant-loop-tree
invariant-loop-tree l = first_told (import_at l.join) l.trees ≡ first_told (import_at l.join) (drop l.tree-index l.trees)

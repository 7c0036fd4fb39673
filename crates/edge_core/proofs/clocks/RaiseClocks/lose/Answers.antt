use Rattle.std.proofs.Common.{ℕ, ap, ◌∙◌}
use Rattle.std.specs.FinMap as maps
use Rattle.std.specs.FinMap.{FinMap}
use Rattle.label_defs.specs.Keys.{node_cmp}
use Rattle.mldp_node.proofs.label_ends.NodeMaps.{goes}
use Rattle.edge_core.proofs.clocks.RaiseClocks.lose.Goals as goal

pub returns : goal.returns
returns c =
    goes c.self.inside.raised c.swap_remove.new.self c.args.peer c.swap_remove.ensures.updates.0
    ∙ ap (λ (r : FinMap node_cmp ℕ). maps.remove r c.args.peer) c.self.view_is

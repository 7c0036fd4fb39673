use Rattle.std.proofs.Common.{ℕ, ap, ◌∙◌}
use Rattle.std.specs.FinMap as maps
use Rattle.std.specs.FinMap.{FinMap}
use Rattle.label_defs.specs.Keys.{node_cmp}
use Rattle.mldp_node.proofs.label_ends.NodeMaps.{comes}
use Rattle.edge_core.proofs.clocks.RaiseClocks.raise.Goals as goal

pub returns : goal.returns
returns c =
    comes c.self.inside.raised c.insert.new.self c.args.peer c.args.now c.in_ok-insert.ensures.updates.0
    ∙ ap (λ (r : FinMap node_cmp ℕ). maps.insert r c.args.peer c.args.now) c.self.view_is

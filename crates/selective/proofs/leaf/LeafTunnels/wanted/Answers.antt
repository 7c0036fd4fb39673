use Rattle.std.proofs.Common.{◌++◌, ◌∙◌}
use Rattle.std.specs.FinMap.{entries}
use Rattle.selective.specs.Leaves.{until_run}
use Rattle.selective.proofs.LeafLemmas.{wanted_found}
use Rattle.selective.specs.Order.{route_cmp}
use Rattle.mv_base.proofs.SortedMaps.{map_sorted}
use Rattle.selective.proofs.leaf.LeafTunnels.wanted.Goals as goal

pub returns : goal.returns
returns c =
    c.in_ok-push_wanted.ensures
    ∙ ((λ i. c.new-fecs.ensures i ++ until_run c.args.peer (c.patterns_of.ensures i) (entries c.args.self.now.routes))
    ∙ wanted_found c.args.peer c.args.source c.args.group (entries c.args.self.now.routes) (map_sorted route_cmp c.args.self.now.routes))

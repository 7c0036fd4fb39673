use Rattle.std.proofs.Common.{◌≡◌, map, take}
use Rattle.mv_base.specs.core_walks.Costs.{priced}
use Rattle.core_paths.proofs.costs.with_cost.Given as goal

abbrev pub invariant-loop-link : goal.invariant-loop-link
invariant-loop-link l = l.new.items ≡ map (priced l.a l.b l.cost) (take l.link-index l.links)

use Rattle.std.proofs.Common.{◌≡◌, map, take}
use Rattle.edge_routes.specs.edge_home.Home.{as_own}
use Rattle.edge_control.specs.Start.{first_tree}
use Rattle.edge_control.proofs.starting.trees_of.Given as goal

abbrev pub invariant-loop-own : goal.invariant-loop-own
invariant-loop-own l = l.trees.items ≡ map (λ own. first_tree l.scenario (as_own own)) (take l.own-index l.vrfs)

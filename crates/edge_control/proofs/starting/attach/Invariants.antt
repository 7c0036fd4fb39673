use Rattle.std.specs.Prelude.{fold}
use Rattle.std.proofs.Common.{◌≡◌, take}
use Rattle.edge_control.specs.Start.{with_route}
use Rattle.edge_control.proofs.starting.attach.Given as goal

abbrev pub invariant-loop-route : goal.invariant-loop-route
invariant-loop-route l = l.tree ≡ fold with_route l.initial.tree (take l.route-index l.routes)

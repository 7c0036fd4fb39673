use Rattle.std.proofs.Common.{◌≡◌, ◌++◌, take}
use Rattle.edge_routes.specs.Judged.{value_of}
use Rattle.edge_routing.specs.edge_updates.Tunnels.{tunnels_to}
use Rattle.edge_routing.proofs.edge_updates.inclusive.append_imported.Given as goal

abbrev pub invariant-loop-own : goal.invariant-loop-own
invariant-loop-own l = l.fecs.items ≡ l.initial.fecs.items ++ tunnels_to l.peer l.key (value_of l.value) (take l.own-index l.vrfs)

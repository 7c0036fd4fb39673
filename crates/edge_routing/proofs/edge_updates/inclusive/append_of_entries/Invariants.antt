use Rattle.std.proofs.Common.{◌≡◌, ◌++◌}
use Rattle.edge_routing.specs.edge_updates.Tunnels.{tunnels_by_all}
use Rattle.edge_routing.proofs.edge_updates.inclusive.append_of_entries.Given as goal

abbrev pub invariant-loop-key : goal.invariant-loop-key
invariant-loop-key l =
    l.fecs.items ++ tunnels_by_all l.home l.peer l.key-iterator ≡ l.initial.fecs.items ++ tunnels_by_all l.home l.peer l.initial.key-iterator

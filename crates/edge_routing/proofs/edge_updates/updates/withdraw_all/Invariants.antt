use Rattle.std.proofs.Common.{ℕ, take}
use Rattle.bgp_messages.specs.bgp_update.Table.{unannounced}
use Rattle.edge_routing.specs.edge_updates.Changed.{AreTaken}
use Rattle.edge_routing.proofs.edge_updates.updates.withdraw_all.Given as goal

abbrev pub invariant-loop-key : goal.invariant-loop-key
invariant-loop-key l =
    (now : ℕ) → AreTaken now l.peer (unannounced (take l.key-index l.keys)) l.initial.control l.control l.initial.fecs.items l.fecs.items

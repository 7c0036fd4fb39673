use Rattle.std.proofs.Common.{◌≡◌, ◌++◌}
use Rattle.edge_core.specs.Listed.{admitted_keys}
use Rattle.edge_core.proofs.lists.add_admitted.Given as goal

abbrev pub invariant-loop-key : goal.invariant-loop-key
invariant-loop-key l = (l.keys ++ admitted_keys l.vrf l.key-iterator) ≡ (l.initial.keys ++ admitted_keys l.vrf l.initial.key-iterator)

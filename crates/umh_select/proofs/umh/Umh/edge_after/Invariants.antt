use Rattle.std.proofs.Common.{◌≡◌, map}
use Rattle.umh_select.specs.Edges.{edge_of, lowest_of}
use Rattle.umh_select.proofs.umh.Umh.edge_after.Given as goal

abbrev pub invariant-loop-key : goal.invariant-loop-key
invariant-loop-key l = lowest_of l.after l.best (map edge_of l.key-iterator) ≡ lowest_of l.after l.initial.best (map edge_of l.initial.key-iterator)

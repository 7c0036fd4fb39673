use Rattle.std.proofs.Common.{◌≡◌, None}
use Rattle.std.specs.List.{fold}
use Rattle.edge_tables.specs.taken_tables.Running.{earliest_with}
use Rattle.edge_tables.proofs.taken_tables.running.earliest_of.Given as goal

abbrev pub invariant-loop-key : goal.invariant-loop-key
invariant-loop-key l = fold earliest_with l.earliest l.key-iterator ≡ fold earliest_with None l.initial.key-iterator

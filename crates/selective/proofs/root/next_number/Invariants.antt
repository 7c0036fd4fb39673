use Rattle.std.proofs.Common.{◌≡◌, ◌-◌}
use Rattle.std.specs.List.{list_any}
use Rattle.selective_defs.specs.Selective.{free_number, has_number, next_number}
use Rattle.selective.proofs.root.next_number.Given as goal

abbrev pub invariant-loop-number : goal.invariant-loop-number
invariant-loop-number l = next_number l.selections ≡ free_number (λ number. list_any (has_number number) l.selections) (l.last - l.number) l.number

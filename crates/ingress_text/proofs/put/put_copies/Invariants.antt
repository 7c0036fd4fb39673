use Rattle.std.proofs.Common.{◌≡◌, ◌++◌, take}
use Rattle.std.specs.List.{flat_map}
use Rattle.ingress_text.specs.Telling.{copy_line}
use Rattle.ingress_text.proofs.put.put_copies.Given as goal

-- the lines of the copies so far were appended
abbrev pub invariant-loop-copy : goal.invariant-loop-copy
invariant-loop-copy l = l.out ≡ l.initial.out ++ flat_map copy_line (take l.copy-index l.copies)

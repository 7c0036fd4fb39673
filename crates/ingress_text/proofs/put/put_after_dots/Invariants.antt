use Rattle.std.proofs.Common.{◌≡◌, ◌++◌, take}
use Rattle.std.specs.List.{flat_map}
use Rattle.ingress_text.specs.Telling.{dotted_more}
use Rattle.ingress_text.proofs.put.put_after_dots.Given as goal

-- the octets so far were appended
abbrev pub invariant-loop-octet : goal.invariant-loop-octet
invariant-loop-octet l = l.out ≡ l.initial.out ++ flat_map dotted_more (take l.octet-index l.octets)

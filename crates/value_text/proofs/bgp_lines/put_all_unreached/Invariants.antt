use Rattle.std.proofs.Common.{◌≡◌, ◌++◌, take}
use Rattle.std.specs.List.{flat_map}
use Rattle.value_text.specs.MessageText.{unreach_line}
use Rattle.value_text.proofs.bgp_lines.put_all_unreached.Given as goal

abbrev pub invariant-loop-key : goal.invariant-loop-key
invariant-loop-key l = l.out ≡ l.initial.out ++ flat_map unreach_line (take l.key-index l.keys)
